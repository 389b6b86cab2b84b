-- The numbers that are written behind names.
use Rattle.std.proofs.Common.{◌≡◌, ℤ, Option, Some, None, IfSome, is_some, List, [], ◌∷◌, ◌++◌, map, refl, sym, subst, Result, Ok, Err, IfOk, arith}
use Rattle.std.proofs.lemmas.Grind.{common_steps}
use Rattle.std.specs.List.{AllZip}
use Rattle.std.specs.Option.{IsSomeAnd}
use Rattle.oergen_parse.specs.declared.ast.Numbered.{Numbered}
use Rattle.oergen_parse.specs.declared.ast.Value.{Value}
use Rattle.oergen_parse.specs.declared.lexer.Token.{Token}
use Rattle.oergen_layouts.specs.Enumerations.{IsAsWritten, IsDigits, number_behind}
use Rattle.oergen_layouts.specs.Numbers.{IsI128, own_number}

pub zip_more : {A B : Type 0} (R : A → B → Type 0) (xs : List A) (ys : List B) (x : A) (y : B) → AllZip R xs ys → R x y → AllZip R (xs ++ x ∷ []) (ys ++ y ∷ [])
zip_more R [] [] x y all one = (one, tt)
zip_more R [] (b ∷ ys) x y all one = absurd all
zip_more R (a ∷ xs) [] x y all one = absurd all
zip_more R (a ∷ xs) (b ∷ ys) x y all one = (all.0, zip_more R xs ys x y all.1 one)

pub map_more : {A B : Type 0} (f : A → B) (xs : List A) (ys : List B) (x : A) (y : B) → ys ≡ map f xs → y ≡ f x → ys ++ y ∷ [] ≡ map f (xs ++ x ∷ [])
map_more f xs ys x y all one = grind (arith, common_steps)

pub ok_same : {T E X : Type 0} (r : Result T E) (f : T → X) (x : X) (P : X → Type 0) → IfOk r (λ it. f it ≡ x) → P x → IfOk r (λ it. P (f it))
ok_same (Ok it) f x P e p = subst P (sym e) p
ok_same (Err it) f x P e p = tt

found : (number own : Option ℤ) → IsSomeAnd number IsI128 → IfSome number (λ it. own ≡ Some it) → own ≡ number
found None own some is = absurd some
found (Some number) own some is = is

behind : (tokens : List Token) (value : Option Value) (own : Option ℤ) → IfSome value (λ it. IsSomeAnd (own_number tokens it) IsI128) → is_some own ≡ is_some value
    → IfSome (elim value [ None ↦ None | Some it ↦ own_number tokens it ]) (λ it. own ≡ Some it) → own ≡ elim value [ None ↦ None | Some it ↦ own_number tokens it ]
behind tokens None None some same is = refl
behind tokens None (Some own) some same is = absurd cc
behind tokens (Some value) own some same is = found (own_number tokens value) own some is

pub as_behind : (tokens : List Token) (item : Numbered) (own : Option ℤ) → IsDigits tokens item → is_some own ≡ is_some item.number → IsAsWritten tokens item own → own ≡ number_behind tokens item
as_behind tokens item own some same is = behind tokens item.number own some same is
