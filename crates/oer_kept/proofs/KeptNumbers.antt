-- An enumerated value is read exactly where a front of the octets spells its number.
use Rattle.std.proofs.Common.{◌≡◌, ◌++◌, ℤ, Bool, true, false, not, cond, List, Option, Some, None, Result, Ok, refl, sym, ap, ◌∙◌, subst}
use Rattle.std.specs.Borrow.{Bor}
use Rattle.std.specs.Prelude.{ℕ, is_some}
use Rattle.std.specs.Option.{option_map_or}
use Rattle.asn1_core.specs.Octets.{Octets, AreOctets}
use Rattle.asn1_core.specs.declared.codec.Codec.{Codec}
use Rattle.asn1_core.specs.declared.error.DecodeError.{DecodeError}
use Rattle.asn1_core.specs.declared.error.DecodeErrorKind.{DecodeErrorKind}
use Rattle.oer_choices.specs.Numbered.{value_among, value_among-number, IsListed}
use Rattle.oer_leaf_read.proofs.ReadEnumerated.{enumerated_reads}
use Rattle.oer_leaf_read.specs.ReadingEnumerated.{IsEnumeratedNumber, enumerated_at}
use Rattle.oer_spec.proofs.Steps.{Reads, bind_ok, pair_is}
use Rattle.oer_spec.specs.Leaves.{IsLeafEncoding}
use Rattle.oer_spec.specs.Mode.{Mode, mode_of}
use Rattle.oer_spec.specs.Reading.{ReadsFront, seen}
use Rattle.oer_spec.specs.Spelled.{enumerated}
use Rattle.oer_spec.specs.Tree.{Leaf, Primitive, Enum}
use Rattle.oer_read.proofs.LeafLaws.{leaf_law}
use Rattle.oer_read.specs.Answers.{Took}
use Rattle.oer_read.specs.Law.{Decodes}
use Rattle.oer_read.specs.State.{State}
use Rattle.oer_kept.specs.KeptNumbers.{kept_number, kept_of, is_kept, kept_tree, IsKept, kept_is, kept_alike, kept_at, no_leaf}
use Rattle.oer_kept.specs.declared.enumerations.KeptEnumeration.{KeptEnumeration}
use Rattle.oer_kept.specs.declared.enumerations.KeptEnumeration.TheVariants.{Known, Other}

module _ {E : Type 0} (number : E → ℤ) (values : List E) where
  -- the value of a number has it, and is one
  of_number : (n : ℤ) (o : Option E) → ((v : E) → o ≡ Some v → number v ≡ n) → kept_number number (option_map_or Known o (Other n)) ≡ n
  of_number n (Some v) back = back v refl
  of_number n None back = refl

  pub kept_of-number : (n : ℤ) → kept_number number (kept_of number values n) ≡ n
  kept_of-number n = of_number n (value_among number values n) (λ v e. value_among-number number values n v e)

  of_kept : (n : ℤ) (o : Option E) → value_among number values n ≡ o → is_kept number values (option_map_or Known o (Other n)) ≡ true
  of_kept n (Some v) e = refl
  of_kept n None e = ap (λ (x : Option E). not (is_some x)) e

  pub kept_of-kept : (n : ℤ) → is_kept number values (kept_of number values n) ≡ true
  kept_of-kept n = of_kept n (value_among number values n) refl

  -- a value is that of its number
  of_none : (n : ℤ) (o : Option E) → not (is_some o) ≡ true → option_map_or Known o (Other n) ≡ Other n
  of_none n (Some v) e = absurd (cc e)
  of_none n None e = refl

  pub kept_back : ((v : E) → IsListed number values v) → (w : KeptEnumeration E) → is_kept number values w ≡ true → kept_of number values (kept_number number w) ≡ w
  kept_back listed (Known v) k = ap (λ (o : Option E). option_map_or Known o (Other (number v))) (listed v).1
  kept_back listed (Other n) k = of_none n (value_among number values n) k

  abbrev Spells : Codec → Octets → KeptEnumeration E → Type 0
  Spells codec o w = (is_kept number values w ≡ true) × IsEnumeratedNumber (mode_of codec) o (kept_number number w)

  module _ (listed : (v : E) → IsListed number values v) (codec : Codec) where
    found : (input rest : Octets) (w : KeptEnumeration E) → AreOctets input → kept_at number values codec input ≡ Ok (w, rest) → (o : Octets) × (input ≡ o ++ rest) × Spells codec o w
    unfolding kept_at
    found input rest w a e =
        let (x, f, g) = bind_ok (enumerated_at codec input) _ (w, rest) e in
        let (o, split, spelled) = (enumerated_reads codec).found input x.1 x.0 a f in
        let same = pair_is (kept_of number values x.0) w x.1 rest g in (
          o,
          split ∙ ap (λ (r : Octets). o ++ r) same.1,
          (
            subst (λ (v : KeptEnumeration E). is_kept number values v ≡ true) same.0 (kept_of-kept x.0),
            subst (λ (n : ℤ). IsEnumeratedNumber (mode_of codec) o n) (sym (kept_of-number x.0) ∙ ap (kept_number number) same.0) spelled,
          ),
        )

    again : (o rest : Octets) (w : KeptEnumeration E) → Spells codec o w → kept_at number values codec (o ++ rest) ≡ Ok (w, rest)
    unfolding kept_at
    again o rest w (k, s) = rw ((enumerated_reads codec).again o rest (kept_number number w) s, kept_back listed w k) refl

    -- a reading of values answers exactly what a front of the octets spells
    pub kept_reads : Reads (kept_at number values codec) (Spells codec)
    kept_reads = record { found = found; again = again }

  -- ---- the law

  abbrev kept_leaf : KeptEnumeration E → Leaf
  kept_leaf w = cond (is_kept number values w) (Enum (kept_number number w)) no_leaf

  is_leaf : (b : Bool) (n : ℤ) → cond b (enumerated n) (Primitive no_leaf) ≡ Primitive (cond b (Enum n) no_leaf)
  unfolding enumerated
  is_leaf true n = refl
  is_leaf false n = refl

  spelled_leaf : (m : Mode) (o : Octets) (n : ℤ) (b : Bool) → b ≡ true → IsLeafEncoding m o (Enum n) → IsLeafEncoding m o (cond b (Enum n) no_leaf)
  spelled_leaf m o n b e s = subst (λ (x : Bool). IsLeafEncoding m o (cond x (Enum n) no_leaf)) (sym e) s

  leaf_spelled : (m : Mode) (o : Octets) (n : ℤ) (b : Bool) → b ≡ true → IsLeafEncoding m o (cond b (Enum n) no_leaf) → IsLeafEncoding m o (Enum n)
  leaf_spelled m o n b e s = subst (λ (x : Bool). IsLeafEncoding m o (cond x (Enum n) no_leaf)) e s

  pub kept_law : (old : State) (answer : Result (KeptEnumeration E × Bor (List ℕ)) DecodeErrorKind) (result : Result (KeptEnumeration E) DecodeError) (new : State)
      → ReadsFront (Spells old.codec) old.input (seen (λ x. (x.0, x.1.now)) answer) → Took answer old result new → Decodes (kept_tree number values) (IsKept number values) old result new
  kept_law old =
      leaf_law (kept_tree number values) (IsKept number values) kept_leaf (λ w. is_leaf (is_kept number values w) (kept_number number w)) (λ w. w) (Spells old.codec) old
      (record { is_tree = kept_is number values; alike = kept_alike number values })
      (λ o w s. ((s.0, s.1.0), spelled_leaf (mode_of old.codec) o (kept_number number w) (is_kept number values w) s.0 s.1.1))
      (λ o w i s. (i.0, (i.1, leaf_spelled (mode_of old.codec) o (kept_number number w) (is_kept number values w) i.0 s)))
