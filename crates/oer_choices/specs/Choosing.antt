-- What is known of a choice's alternatives, said once.
use Rattle.std.specs.Prelude.{◌≡◌, ◌+◌, ◌<◌, ◌^◌, ◌++◌, ◌&&◌, ◌||◌, ℕ, Bool, true, false, not, cond, nat_lt, List, [], ◌∷◌, refl}
use Rattle.std.proofs.Common.{sym, ◌∙◌, subst, arith}
use Rattle.std.proofs.lemmas.Bool.Decides.{nat_tests}
use Rattle.asn1_core.specs.Tags.{AreDistinct, holds, times_held, same_tag}
use Rattle.asn1_core.specs.declared.tag.TheConstants.Tag.{EOC}
use Rattle.asn1_core.specs.declared.tag.Tag.{Tag}
use Rattle.oer_spec.specs.Encoding.{IsTree}
use Rattle.oer_spec.specs.Same.{Alike}
use Rattle.oer_spec.specs.Tree.{Tree, Choice, Primitive, Null}
use Rattle.oer_rows.specs.Schema.{Typed, IsTyped}
use Rattle.oer_choices.specs.declared.alternatives.Either.{Either}
use Rattle.oer_choices.specs.declared.alternatives.Either.TheVariants.{First, Rest}

pub record Choices (A : Type 0) : Type 1 where
  pub roots : List Tag
  pub additions : List Tag
  pub is_extensible : Bool
  pub tag_of : A → Tag
  pub child : A → Tree
  pub IsValue : A → Type 0

pub record AreChoices {A : Type 0} (c : Choices A) : Type 0 where
  pub is : (v : A) → c.IsValue v → IsTree (c.child v)
  pub held : (v : A) → c.IsValue v → holds (c.roots ++ c.additions) (c.tag_of v) ≡ true
  pub like : AreDistinct (c.roots ++ c.additions) → (v w : A) → c.IsValue v → c.IsValue w → c.tag_of v ≡ c.tag_of w → Alike (c.child v) (c.child w)

-- an admitted value, of the alternative with that tag
abbrev pub HasTag : {A : Type 0} → Choices A → Tag → A → Type 0
HasTag c g v = c.IsValue v × (c.tag_of v ≡ g)

-- ---- no alternative

abbrev pub no_choice : {A : Type 0} → Choices A
no_choice = record { roots = []; additions = []; is_extensible = false; tag_of = λ v. EOC; child = λ v. Primitive Null; IsValue = λ v. ⊥ }

pub no_choice_is : {A : Type 0} → AreChoices (no_choice {A = A})
no_choice_is = record { is = λ v i. absurd i; held = λ v i. absurd i; like = λ d v w i j e. absurd i }

-- ---- an alternative, before others

pub either_true : (a b : Bool) → b ≡ true → (a || b) ≡ true
either_true true b e = refl
either_true false b e = e

pub first_true : (a b : Bool) → a ≡ true → (a || b) ≡ true
first_true true b e = refl
first_true false b e = absurd (cc e)

pub same_itself : (g : Tag) → same_tag g g ≡ true
same_itself g = grind (arith, nat_tests)

module _ {B R : Type 0} (tag : Tag) (of : Typed B) (others : Choices R) where
  abbrev pub one_tag : Either B R → Tag
  one_tag (First b) = tag
  one_tag (Rest r) = others.tag_of r

  abbrev pub one_child : Either B R → Tree
  one_child (First b) = of.tree b
  one_child (Rest r) = others.child r

  abbrev pub OneValue : Either B R → Type 0
  OneValue (First b) = of.IsPart b
  OneValue (Rest r) = others.IsValue r

  abbrev pub one_of : Choices (Either B R)
  one_of = record { roots = tag ∷ others.roots; additions = others.additions; is_extensible = others.is_extensible; tag_of = one_tag; child = one_child; IsValue = OneValue }

  one_is : IsTyped of → AreChoices others → (v : Either B R) → OneValue v → IsTree (one_child v)
  one_is t o (First b) i = t.is b i
  one_is t o (Rest r) i = o.is r i

  one_held : AreChoices others → (v : Either B R) → OneValue v → holds (tag ∷ (others.roots ++ others.additions)) (one_tag v) ≡ true
  one_held o (First b) i = first_true (same_tag tag tag) (holds (others.roots ++ others.additions) tag) (same_itself tag)
  one_held o (Rest r) i = either_true (same_tag tag (others.tag_of r)) (holds (others.roots ++ others.additions) (others.tag_of r)) (o.held r i)

  -- a value of the others hasn't the first one's tag
  pub other_tag : AreChoices others → AreDistinct (tag ∷ (others.roots ++ others.additions)) → (r : R) → others.IsValue r → tag ≡ others.tag_of r → ⊥
  other_tag o d r i e = let h = subst (λ (z : Tag). holds (others.roots ++ others.additions) z ≡ false) e d.0 in let k = o.held r i in absurd (cc (h, k))

  one_like : IsTyped of → AreChoices others → AreDistinct (tag ∷ (others.roots ++ others.additions)) → (v w : Either B R) → OneValue v → OneValue w → one_tag v ≡ one_tag w → Alike (one_child v) (one_child w)
  one_like t o d (First b) (First c) i j e = t.like b c i j
  one_like t o d (First b) (Rest r) i j e = absurd (other_tag o d r j e)
  one_like t o d (Rest r) (First b) i j e = absurd (other_tag o d r i (sym e))
  one_like t o d (Rest r) (Rest s) i j e = o.like d.1 r s i j e

  pub one_of_is : IsTyped of → AreChoices others → AreChoices one_of
  one_of_is t o = record { is = one_is t o; held = one_held o; like = one_like t o }

-- ---- alternatives as additions

abbrev pub adding : {A : Type 0} → Choices A → Choices A
adding c = record { roots = []; additions = c.roots ++ c.additions; is_extensible = true; tag_of = c.tag_of; child = c.child; IsValue = c.IsValue }

pub adding_is : {A : Type 0} (c : Choices A) → AreChoices c → AreChoices (adding c)
adding_is c k = record { is = k.is; held = k.held; like = k.like }

-- ---- of a type that holds one of them

abbrev pub through : {A R : Type 0} → (A → R) → Choices R → Choices A
through to c = record { roots = c.roots; additions = c.additions; is_extensible = c.is_extensible; tag_of = λ v. c.tag_of (to v); child = λ v. c.child (to v); IsValue = λ v. c.IsValue (to v) }

pub through_is : {A R : Type 0} (to : A → R) (c : Choices R) → AreChoices c → AreChoices (through to c)
through_is to c k = record { is = λ v i. k.is (to v) i; held = λ v i. k.held (to v) i; like = λ d v w i j e. k.like d (to v) (to w) i j e }

-- ---- what a type has by its alternatives

abbrev pub tree_of : {A : Type 0} → Choices A → A → Tree
tree_of c v = Choice c.roots c.additions (c.tag_of v) (c.child v)

-- each number is one of u32
abbrev all_small : List Tag → Bool
all_small [] = true
all_small (g ∷ gs) = nat_lt g.value (2 ^ 32) && all_small gs

-- no tag stands twice
abbrev all_other : List Tag → Bool
all_other [] = true
all_other (g ∷ gs) = not (holds gs g) && all_other gs

both_true : (a b : Bool) → (a && b) ≡ true → (a ≡ true) × (b ≡ true)
both_true true b e = (refl, e)
both_true false b e = absurd (cc e)

not_true : (a : Bool) → not a ≡ true → a ≡ false
not_true true e = absurd (cc e)
not_true false e = refl

others_distinct : (gs : List Tag) → all_other gs ≡ true → AreDistinct gs
others_distinct [] e = tt
others_distinct (g ∷ gs) e = let b = both_true (not (holds gs g)) (all_other gs) e in (not_true (holds gs g) b.0, others_distinct gs b.1)

-- both, as a test that computes
abbrev pub are_apart : List Tag → Bool
are_apart gs = all_small gs && all_other gs

pub distinct_tags : (gs : List Tag) → are_apart gs ≡ true → AreDistinct gs
distinct_tags gs e = others_distinct gs (both_true (all_small gs) (all_other gs) e).1

less : (a b : ℕ) → nat_lt a b ≡ true → a < b
less a b e = grind (arith, nat_tests)

small_value : (h g : Tag) → same_tag h g ≡ true → h.value < 2 ^ 32 → g.value < 2 ^ 32
small_value h g e l = grind (arith, nat_tests)

small_in : (gs : List Tag) (g : Tag) → all_small gs ≡ true → holds gs g ≡ true → g.value < 2 ^ 32
small_in [] g e h = absurd (cc h)
small_in (x ∷ xs) g e h = let b = both_true (nat_lt x.value (2 ^ 32)) (all_small xs) e in go (small_in xs g b.1) (same_tag x g) refl b.0 h
  where
    go : (holds xs g ≡ true → g.value < 2 ^ 32) → (s : Bool) → same_tag x g ≡ s → nat_lt x.value (2 ^ 32) ≡ true → (s || holds xs g) ≡ true → g.value < 2 ^ 32
    go rest true f l k = small_value x g f (less x.value (2 ^ 32) l)
    go rest false f l k = rest k

-- an admitted value of a row whose tags are apart; that they are is said of each value, since where a type's trees are said
-- no law of it can be cited
abbrev pub IsOneOf : {A : Type 0} → Choices A → A → Type 0
IsOneOf c v = (are_apart (c.roots ++ c.additions) ≡ true) × c.IsValue v

pub choices_small : {A : Type 0} (c : Choices A) → AreChoices c → (v : A) → IsOneOf c v → (c.tag_of v).value < 2 ^ 32
choices_small c k v (e, i) = small_in (c.roots ++ c.additions) (c.tag_of v) (both_true (all_small (c.roots ++ c.additions)) (all_other (c.roots ++ c.additions)) e).0 (k.held v i)

-- ---- a tag of distinct ones stands there once

pub times_of_both : (a b : List Tag) (g : Tag) → times_held (a ++ b) g ≡ times_held a g + times_held b g
times_of_both [] b g = omega arith
times_of_both (x ∷ xs) b g = let h = times_of_both xs b g in omega (arith, h)

pub never_held : (gs : List Tag) (g : Tag) → holds gs g ≡ false → times_held gs g ≡ 0
never_held [] g e = refl
never_held (x ∷ xs) g e = go (same_tag x g) (λ f. never_held xs g f) e
  where
    go : (b : Bool) → (holds xs g ≡ false → times_held xs g ≡ 0) → (b || holds xs g) ≡ false → cond b 1 0 + times_held xs g ≡ 0
    go true k e = absurd (cc e)
    go false k e = omega (arith, k e)

same_of_same : (x g y : Tag) → same_tag x g ≡ true → same_tag y g ≡ same_tag y x
same_of_same x g y e = grind (arith, nat_tests)

holds_same : (x g : Tag) → same_tag x g ≡ true → (ys : List Tag) → holds ys g ≡ holds ys x
holds_same x g e [] = refl
holds_same x g e (y ∷ ys) = let a = same_of_same x g y e in let b = holds_same x g e ys in λ i. a i || b i

pub times_once : (gs : List Tag) (g : Tag) → AreDistinct gs → holds gs g ≡ true → times_held gs g ≡ 1
times_once [] g d h = absurd (cc h)
times_once (x ∷ xs) g (n, d) h = go (times_once xs g d) (same_tag x g) refl h
  where
    go : (holds xs g ≡ true → times_held xs g ≡ 1) → (s : Bool) → same_tag x g ≡ s → (s || holds xs g) ≡ true → cond s 1 0 + times_held xs g ≡ 1
    go rest true f k = let z = never_held xs g (holds_same x g f xs ∙ n) in omega (arith, z)
    go rest false f k = let z = rest k in omega (arith, z)

pub choices_is : {A : Type 0} (c : Choices A) → AreChoices c → (v : A) → IsOneOf c v → IsTree (tree_of c v)
unfolding IsTree
choices_is c k v (e, i) = (k.is v i, sym (times_of_both c.roots c.additions (c.tag_of v)) ∙ times_once (c.roots ++ c.additions) (c.tag_of v) (distinct_tags (c.roots ++ c.additions) e) (k.held v i))

pub choices_alike : {A : Type 0} (c : Choices A) → AreChoices c → (v w : A) → IsOneOf c v → IsOneOf c w → Alike (tree_of c v) (tree_of c w)
unfolding Alike
choices_alike c k v w (e, i) (_, j) = (refl, refl, λ f. k.like (distinct_tags (c.roots ++ c.additions) e) v w i j f)
