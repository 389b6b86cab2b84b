-- How an alternative is written that the type knows, and one that it doesn't.
use Rattle.std.specs.Prelude.{◌≡◌, ◌^◌, ◌<◌, ◌≤◌, ◌/◌, ◌==◌, ◌++◌, ◌&&◌, ◌||◌, ◌⊎◌, ℕ, Bool, true, false, not, cond, nat_lt, List, [], length, Option, Some, None, Result, Ok, Err, refl, OnOk, IfErr}
use Rattle.std.proofs.Common.{sym, ap, ◌∙◌, subst, arith, inl, inr, le-ltb, lt-ltb}
use Rattle.std.proofs.lemmas.Bool.Decides.{nat_tests}
use Rattle.asn1_core.specs.Bounds.{size_bounds, fixed_size, size_fits}
use Rattle.asn1_core.specs.Octets.{Octets, usize_max}
use Rattle.asn1_core.specs.Tags.{holds}
use Rattle.asn1_core.specs.Texts.{AnyOctets}
use Rattle.asn1_core.specs.declared.codec.Codec.TheVariants.{Coer}
use Rattle.asn1_core.specs.declared.constraints.Constraints.{Constraints}
use Rattle.asn1_core.specs.declared.error.EncodeError.{EncodeError}
use Rattle.asn1_core.specs.declared.error.EncodeErrorKind.{EncodeErrorKind}
use Rattle.asn1_core.specs.declared.error.EncodeErrorKind.TheVariants.{ValueConstraintNotSatisfied, LengthExceedsPlatformSize, OutOfMemory}
use Rattle.asn1_core.specs.declared.tag.Tag.{Tag}
use Rattle.oer_leaf_read.proofs.ReadTexts.{fixed_fits, text_fine}
use Rattle.oer_spec.specs.Encoding.{IsEncodable, canonical_octets, fails, open_fails}
use Rattle.oer_spec.specs.Failures.{Fails, SizeFails}
use Rattle.oer_spec.specs.Leaves.{Failure, BadValue, BadSize, BadIdentifier, BadTime, TooManyEmpty, TooLong, string_too_long, text_octets}
use Rattle.oer_spec.specs.Lengths.{behind_length, tag_octets}
use Rattle.oer_spec.specs.Spelled.{text, unsized_text}
use Rattle.oer_spec.specs.Tree.{Tree, Choice, InOctets, Primitive}
use Rattle.oer_rows.specs.declared.held_octets.OpenOctets.{OpenOctets}
use Rattle.oer_choices.specs.Choosing.{Choices, AreChoices, are_apart}
use Rattle.oer_kept.proofs.Refusals.{refused_now}
use Rattle.oer_kept.specs.KeptNumbers.{no_leaf}
use Rattle.oer_kept.specs.KeptTags.{same_root, known_isn't_newer, newer_root, newer_no_root, known, is_other, roots_of, chosen_tree, known_child, other_child, tag_isn't_other}
use Rattle.oer_kept.specs.declared.choices.KeptChoice.TheVariants.{Known, Other}
use Rattle.oer_write.specs.Written.{Written, Encodes, Refused, append}

-- ---- trees of choices with other tables

-- what was written is that of a tree which can be written too, and has the same octets
pub written_as : (t u : Tree) (e e' : Written) → IsEncodable u → canonical_octets t ≡ canonical_octets u → Encodes t e e' → Encodes u e e'
written_as t u e e' k o w = record { encodable = k; written = w.written ∙ ap (λ (x : Octets). append x e) o }

-- what was refused is refused of a tree that fails where this one does
pub refused_as : (t u : Tree) (x : EncodeError) (e e' : Written) → (Fails t x.kind → Fails u x.kind) → Refused t x e e' → Refused u x e e'
refused_as t u x e e' f r = record { reason = go r.reason; mode = r.mode; keeps = r.keeps }
  where
    go : ((x.kind ≡ OutOfMemory) ⊎ Fails t x.kind) → (x.kind ≡ OutOfMemory) ⊎ Fails u x.kind
    go (inl m) = inl m
    go (inr n) = inr (f n)

module _ (roots others additions more : List Tag) (g : Tag) (same : holds others g ≡ holds roots g) where
  same_octets : (t : Tree) → canonical_octets (Choice roots additions g t) ≡ canonical_octets (Choice others more g t)
  unfolding canonical_octets
  same_octets t = ap (λ (b : Bool). tag_octets g ++ cond b (canonical_octets t) (behind_length (canonical_octets t))) (sym same)

  same_fails : (t : Tree) (k : Failure) → fails (Choice roots additions g t) k ≡ fails (Choice others more g t) k
  unfolding fails
  same_fails t k = ap (λ (b : Bool). fails t k || (not b && open_fails (canonical_octets t) k)) (sym same)

  pub written_same : (t : Tree) (e e' : Written) → Encodes (Choice roots additions g t) e e' → Encodes (Choice others more g t) e e'
  written_same t e e' w = written_as (Choice roots additions g t) (Choice others more g t) e e' (λ k. sym (same_fails t k) ∙ w.encodable k) (same_octets t) w

  pub fails_same : (t : Tree) (kind : EncodeErrorKind) → Fails (Choice roots additions g t) kind → Fails (Choice others more g t) kind
  unfolding SizeFails
  fails_same t kind (k, is, f, sized) = (k, is, sym (same_fails t k) ∙ f, sized)

-- a tree that stands in no table fails as it does there, within a choice of any tables
module _ (roots others additions more : List Tag) (g : Tag) where
  apart_fails : (t : Tree) (k : Failure) → fails (Choice roots additions g t) k ≡ true → fails (Choice others more g (Choice [] [] g t)) k ≡ true
  unfolding fails
  apart_fails t k f = go (fails t k) (holds roots g) f
    where
      go : (a b : Bool) → (a || (not b && open_fails (canonical_octets t) k)) ≡ true
          → ((a || (true && open_fails (canonical_octets t) k)) || (not (holds others g) && open_fails (canonical_octets (Choice [] [] g t)) k)) ≡ true
      go true b f = refl
      go false true f = absurd (cc f)
      go false false f = ap (λ (x : Bool). x || (not (holds others g) && open_fails (canonical_octets (Choice [] [] g t)) k)) f

  pub fails_apart : (t : Tree) (kind : EncodeErrorKind) → Fails (Choice roots additions g t) kind → Fails (Choice others more g (Choice [] [] g t)) kind
  unfolding SizeFails
  fails_apart t kind (k, is, f, sized) = (k, is, apart_fails t k f, sized)

-- ---- octets under a tag that the type doesn't know

-- the constraint of just one size
abbrev pub of_size : Constraints → ℕ → Type 0
of_size c n = size_bounds c ≡ Some (n, n)

equal_itself : (n : ℕ) → (n == n) ≡ true
equal_itself n = grind (arith, nat_tests)

module _ (roots kept additions : List Tag) (g : Tag) (o : Octets) (c : Constraints) (size : of_size c (length o)) (few : length o ≤ usize_max / 8) (no : holds roots g ≡ false) (yes : holds kept g ≡ true) where
  fixed : fixed_size (size_bounds c) ≡ Some (length o)
  fixed = ap fixed_size size ∙ ap (λ (b : Bool). cond b (Some (length o)) None) (equal_itself (length o))

  text_written : canonical_octets (text AnyOctets c o) ≡ o
  unfolding text canonical_octets
  text_written = ap (λ (f : Option ℕ). text_octets f (InOctets o)) fixed

  behind : Octets
  behind = tag_octets g ++ behind_length o

  added : canonical_octets (Choice roots additions g (text AnyOctets c o)) ≡ behind
  unfolding canonical_octets behind
  added =
      ap (λ (b : Bool). tag_octets g ++ cond b (canonical_octets (text AnyOctets c o)) (behind_length (canonical_octets (text AnyOctets c o)))) no
      ∙ ap (λ (p : Octets). tag_octets g ++ behind_length p) text_written

  rooted : canonical_octets (Choice kept additions g (unsized_text AnyOctets o)) ≡ behind
  unfolding canonical_octets behind unsized_text
  rooted = ap (λ (b : Bool). tag_octets g ++ cond b (behind_length o) (behind_length (behind_length o))) yes

  few_octets : nat_lt (usize_max / 8) (length o) ≡ false
  few_octets = le-ltb (usize_max / 8) (length o) few

  open_fine : (k : Failure) → open_fails o k ≡ false
  open_fine BadValue = refl
  open_fine BadSize = refl
  open_fine BadIdentifier = refl
  open_fine BadTime = refl
  open_fine TooManyEmpty = refl
  open_fine TooLong = le-ltb usize_max (length o) (omega (arith, few))

  rooted_fine : (k : Failure) → fails (Choice kept additions g (unsized_text AnyOctets o)) k ≡ false
  unfolding fails unsized_text
  rooted_fine k = go (fails (unsized_text AnyOctets o) k) (holds kept g) (text_fine AnyOctets None o refl few_octets k) yes
    where
      go : (a b : Bool) → a ≡ false → b ≡ true → (a || (not b && open_fails (canonical_octets (unsized_text AnyOctets o)) k)) ≡ false
      go true b e f = absurd (cc e)
      go false true e f = refl
      go false false e f = absurd (cc f)

  by_ones : (n : ℕ) → n / 1 ≡ n
  by_ones n = omega arith

  text_fits : (k : Failure) → fails (text AnyOctets c o) k ≡ false
  unfolding fails text
  text_fits k =
      let size : size_fits (size_bounds c) (length o / 1) ≡ true = ap (size_fits (size_bounds c)) (by_ones (length o)) ∙ fixed_fits (size_bounds c) (length o) fixed in
      text_fine AnyOctets (size_bounds c) o size (ap (λ z. string_too_long z (length o)) fixed) k

  added_fine : (k : Failure) → fails (Choice roots additions g (text AnyOctets c o)) k ≡ false
  unfolding fails
  added_fine k = go (fails (text AnyOctets c o) k) (holds roots g) (text_fits k)
    where
      opens : open_fails (canonical_octets (text AnyOctets c o)) k ≡ false
      opens = ap (λ p. open_fails p k) text_written ∙ open_fine k

      go : (a b : Bool) → a ≡ false → (a || (not b && open_fails (canonical_octets (text AnyOctets c o)) k)) ≡ false
      go true b e = absurd (cc e)
      go false true e = refl
      go false false e = opens

  -- What was written as an extension addition is what a root alternative of an open type has.
  pub other_written : (e e' : Written) → Encodes (Choice roots additions g (text AnyOctets c o)) e e' → Encodes (Choice kept additions g (unsized_text AnyOctets o)) e e'
  other_written e e' w = written_as (Choice roots additions g (text AnyOctets c o)) (Choice kept additions g (unsized_text AnyOctets o)) e e' rooted_fine (added ∙ sym rooted) w

  -- Only for want of memory is it refused.
  pub other_refused : (t : Tree) (x : EncodeError) (e e' : Written) → Refused (Choice roots additions g (text AnyOctets c o)) x e e' → Refused t x e e'
  other_refused t x e e' r = refused_as (Choice roots additions g (text AnyOctets c o)) t x e e' (λ f. absurd (let h = added_fine f.0 in let k = f.2 in cc (h, k))) r

-- ---- what is refused before anything is written

or_true : (a b : Bool) → a ≡ true → (a || b) ≡ true
or_true true b e = refl
or_true false b e = absurd (cc e)

unknown_fails : (kept additions : List Tag) (g : Tag) → Fails (Choice kept additions g (Primitive no_leaf)) ValueConstraintNotSatisfied
unfolding fails
unknown_fails kept additions g = (BadValue, refl, refl, λ n e. absurd (cc e))

long_fails : (kept additions : List Tag) (g : Tag) (o : Octets) → usize_max / 8 < length o → Fails (Choice kept additions g (unsized_text AnyOctets o)) LengthExceedsPlatformSize
unfolding fails unsized_text
long_fails kept additions g o l = (TooLong, refl, or_true (nat_lt (usize_max / 8) (length o)) _ (lt-ltb (usize_max / 8) (length o) l), λ n e. absurd (cc e))

-- ---- of a type's choices

module _ {A : Type 0} (c : Choices A) where
  -- an alternative that the type knows
  module _ (k : AreChoices c) (apart : are_apart (known c) ≡ true) (v : A) (e e' : Written) where
    own_written : Encodes (Choice c.roots c.additions (c.tag_of v) (c.child v)) e e' → c.IsValue v → Encodes (chosen_tree c (Known v)) e e'
    own_written w i =
        let same = same_root c.roots c.additions c.is_extensible (c.tag_of v) (tag_isn't_other c k v (apart, i)) in
        subst (λ (t : Tree). Encodes (Choice (roots_of c) c.additions (c.tag_of v) t) e e') (sym (known_child c k v (apart, i)))
        (written_same c.roots (roots_of c) c.additions c.additions (c.tag_of v) same (c.child v) e e' w)

    pub known_written : (r : Result (Unit {0}) EncodeError) → OnOk r (Encodes (Choice c.roots c.additions (c.tag_of v) (c.child v)) e e') → OnOk r (c.IsValue v) → OnOk r (Encodes (chosen_tree c (Known v)) e e')
    known_written (Ok u) w i = own_written w i
    known_written (Err x) w i = tt

  known_fails : (v : A) (kind : EncodeErrorKind) → Fails (Choice c.roots c.additions (c.tag_of v) (c.child v)) kind → Fails (chosen_tree c (Known v)) kind
  known_fails v kind f = go (holds (known c) (c.tag_of v)) refl
    where
      go : (b : Bool) → holds (known c) (c.tag_of v) ≡ b → Fails (Choice (roots_of c) c.additions (c.tag_of v) (cond b (c.child v) (Choice [] [] (c.tag_of v) (c.child v)))) kind
      go true h = fails_same c.roots (roots_of c) c.additions c.additions (c.tag_of v) (same_root c.roots c.additions c.is_extensible (c.tag_of v) (known_isn't_newer c.roots c.additions c.is_extensible (c.tag_of v) h)) (c.child v) kind f
      go false h = fails_apart c.roots (roots_of c) c.additions c.additions (c.tag_of v) (c.child v) kind f

  pub known_refused : (v : A) (e e' : Written) (r : Result (Unit {0}) EncodeError) → IfErr r (λ x. Refused (Choice c.roots c.additions (c.tag_of v) (c.child v)) x e e') → IfErr r (λ x. Refused (chosen_tree c (Known v)) x e e')
  known_refused v e e' (Ok u) r = tt
  known_refused v e e' (Err x) r = refused_as (Choice c.roots c.additions (c.tag_of v) (c.child v)) (chosen_tree c (Known v)) x e e' (known_fails v x.kind) r

  -- another one
  module _ (g : Tag) (o : OpenOctets) where
    pub tag_refused : (e : Written) → is_other c g ≡ false → Refused (chosen_tree c (Other g o)) (record { kind = ValueConstraintNotSatisfied; codec = Coer }) e e
    tag_refused e n =
        refused_now (chosen_tree c (Other g o)) ValueConstraintNotSatisfied e
        (subst (λ (b : Bool). Fails (Choice (roots_of c) c.additions g (cond b (unsized_text AnyOctets o.0) (Primitive no_leaf))) ValueConstraintNotSatisfied) (sym n) (unknown_fails (roots_of c) c.additions g))

    pub length_refused : (e : Written) → is_other c g ≡ true → usize_max / 8 < length o.0 → Refused (chosen_tree c (Other g o)) (record { kind = LengthExceedsPlatformSize; codec = Coer }) e e
    length_refused e n l =
        refused_now (chosen_tree c (Other g o)) LengthExceedsPlatformSize e
        (subst (λ (t : Tree). Fails (Choice (roots_of c) c.additions g t) LengthExceedsPlatformSize) (sym (other_child c g o.0 n)) (long_fails (roots_of c) c.additions g o.0 l))

    module _ (n : is_other c g ≡ true) (u : g.value < 2 ^ 32) (s : Constraints) (size : of_size s (length o.0)) (few : length o.0 ≤ usize_max / 8) (e e' : Written) where
      no : holds c.roots g ≡ false
      no = newer_no_root c.roots c.additions c.is_extensible g n

      yes : holds (roots_of c) g ≡ true
      yes = newer_root c.roots c.additions c.is_extensible g n u

      written : Encodes (Choice c.roots c.additions g (text AnyOctets s o.0)) e e' → Encodes (chosen_tree c (Other g o)) e e'
      written w =
          subst (λ (t : Tree). Encodes (Choice (roots_of c) c.additions g t) e e') (sym (other_child c g o.0 n))
          (other_written c.roots (roots_of c) c.additions g o.0 s size few no yes e e' w)

      pub octets_written : (p : Octets) → p ≡ o.0 → (r : Result (Unit {0}) EncodeError) → OnOk r (Encodes (Choice c.roots c.additions g (text AnyOctets s p)) e e') → OnOk r (Encodes (chosen_tree c (Other g o)) e e')
      octets_written p is (Ok u) w = written (subst (λ (z : Octets). Encodes (Choice c.roots c.additions g (text AnyOctets s z)) e e') is w)
      octets_written p is (Err x) w = tt

      pub octets_refused : (p : Octets) → p ≡ o.0 → (r : Result (Unit {0}) EncodeError) → IfErr r (λ x. Refused (Choice c.roots c.additions g (text AnyOctets s p)) x e e') → IfErr r (λ x. Refused (chosen_tree c (Other g o)) x e e')
      octets_refused p is (Ok u) w = tt
      octets_refused p is (Err x) w = other_refused c.roots (roots_of c) c.additions g o.0 s size few no yes (chosen_tree c (Other g o)) x e e' (subst (λ (z : Octets). Refused (Choice c.roots c.additions g (text AnyOctets s z)) x e e') is w)
