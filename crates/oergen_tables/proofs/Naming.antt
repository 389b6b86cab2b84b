-- The names of a type's numbers, one more at a time.
use Rattle.std.proofs.Common.{Bor, ◌≡◌, ℕ, ◌+◌, ◌<◌, ℤ, true, Option, Some, None, is_some, IfSome, List, [], ◌∷◌, ◌++◌, length, get_or, take, drop, map, refl, sym, ap, ◌∙◌, arith}
use Rattle.std.proofs.lemmas.Grind.{common_steps}
use Rattle.std.proofs.lemmas.List.{map-append, take_more}
use Rattle.std.specs.List.{AllZip, filter_map, slice_get}
use Rattle.oergen_layouts.specs.Enumerations.{number_behind}
use Rattle.oergen_parse.specs.declared.ast.Numbered.{Numbered}
use Rattle.oergen_parse.specs.declared.lexer.Token.{Token}
use Rattle.oergen_tables.specs.Names.{value_of}

pub zip_more : {A B : Type 0} (R : A → B → Type 0) (xs : List A) (ys : List B) (x : A) (y : B) → AllZip R xs ys → R x y → AllZip R (xs ++ x ∷ []) (ys ++ y ∷ [])
zip_more R [] [] x y all one = (one, tt)
zip_more R [] (b ∷ ys) x y all one = absurd all
zip_more R (a ∷ xs) [] x y all one = absurd all
zip_more R (a ∷ xs) (b ∷ ys) x y all one = (all.0, zip_more R xs ys x y all.1 one)

pub zip_at : {A B C : Type 0} (f : A → C) (R : C → B → Type 0) (xs : List A) (ys : List B) (i : ℕ) (d : A) (y : B) → i < length xs → AllZip R (map f (take i xs)) ys → R (f (get_or xs i d)) y → AllZip R (map f (take (i + 1) xs)) (ys ++ y ∷ [])
zip_at f R xs ys i d y below all one = rw (take_more xs i d below, map-append) (zip_more R (map f (take i xs)) ys (f (get_or xs i d)) y all one)

-- a text that is kept, by the one behind a reference
pub kept : (found : Option Token) (text : Bor (List ℕ)) (bytes : List ℕ) → IfSome found (λ token. text ≡ token.text) → bytes ≡ text.now → IfSome found (λ token. bytes ≡ token.text.now)
kept None text bytes is same = tt
kept (Some token) text bytes is same = same ∙ ap (λ (it : Bor (List ℕ)). it.now) is

abbrev shown_of : ℤ → Option Token → Option (ℤ × List ℕ)
shown_of number found = elim found [ None ↦ None | Some token ↦ Some (number, token.text.now) ]

abbrev some_pair : ℤ → List ℕ → Option (ℤ × List ℕ)
some_pair number text = Some (number, text)

there : (found : Option Token) (number : ℤ) (text : List ℕ) → is_some found ≡ true → IfSome found (λ token. text ≡ token.text.now) → shown_of number found ≡ Some (number, text)
there None number text is text_is = absurd cc
there (Some token) number text is text_is = ap (λ (it : List ℕ). some_pair number it) (sym text_is)

pub put : (tokens : List Token) (item : Numbered) (number : ℤ) (text : List ℕ) → number_behind tokens item ≡ Some number → is_some (slice_get tokens item.name.index) ≡ true → IfSome (slice_get tokens item.name.index) (λ token. text ≡ token.text.now) → value_of tokens item ≡ Some (number, text)
put tokens item number text behind is text_is = rw (behind, value_of) (there (slice_get tokens item.name.index) number text is text_is)

pub left_out : (tokens : List Token) (item : Numbered) → number_behind tokens item ≡ None → value_of tokens item ≡ None
left_out tokens item behind = rw (behind, value_of) refl

pub one_more : {A B C : Type 0} (f : A → Option C) (s : B → C) (xs : List A) (ys : List B) (i : ℕ) (x : A) (y : B) → i < length xs → x ≡ get_or xs i x → f x ≡ Some (s y) → map s ys ++ filter_map f (drop i xs) ≡ filter_map f xs → map s (ys ++ y ∷ []) ++ filter_map f (drop (i + 1) xs) ≡ filter_map f xs
one_more f s xs ys i x y below is value before = grind (arith, common_steps)

pub none_more : {A B C : Type 0} (f : A → Option C) (s : B → C) (xs : List A) (ys : List B) (i : ℕ) (x : A) → i < length xs → x ≡ get_or xs i x → f x ≡ None → map s ys ++ filter_map f (drop i xs) ≡ filter_map f xs → map s ys ++ filter_map f (drop (i + 1) xs) ≡ filter_map f xs
none_more f s xs ys i x below is value before = grind (arith, common_steps)
