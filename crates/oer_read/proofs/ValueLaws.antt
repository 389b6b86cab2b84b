-- From what the readers of enumerated values, identifiers and times promise to the law of reading.
use Rattle.std.proofs.Common.{◌≡◌, ◌++◌, ℕ, ℤ, true, List, Option, Some, None, Result, Ok, Err, refl, sym, ap, ◌∙◌, subst}
use Rattle.std.specs.Borrow.{Bor}
use Rattle.std.specs.Option.{ok_or}
use Rattle.asn1_core.specs.Numbers.{in_isize}
use Rattle.asn1_core.specs.Octets.{Octets, AreOctets}
use Rattle.asn1_core.specs.Texts.{Rule, Identifier}
use Rattle.asn1_core.specs.declared.codec.Codec.{Codec}
use Rattle.asn1_core.specs.declared.error.DecodeError.{DecodeError}
use Rattle.asn1_core.specs.declared.error.DecodeErrorKind.{DecodeErrorKind}
use Rattle.asn1_core.specs.declared.error.DecodeErrorKind.TheVariants.{DiscriminantValueNotFound}
use Rattle.asn1_strings.specs.Identifiers.{is_identifier, arcs_octets}
use Rattle.oer_leaf_read.proofs.ReadEnumerated.{enumerated_reads}
use Rattle.oer_spec.proofs.Steps.{Reads, bind_ok, front_is}
use Rattle.oer_spec.specs.Encoding.{IsTree}
use Rattle.oer_spec.specs.Leaves.{IsLeafEncoding}
use Rattle.oer_spec.specs.Mode.{mode_of}
use Rattle.oer_spec.specs.Reading.{Gives, ReadsFront, seen, ◌>>=◌}
use Rattle.oer_leaf_read.specs.ReadingEnumerated.{IsEnumeratedNumber, enumerated_at}
use Rattle.oer_spec.specs.Spelled.{IsAny, IsIdentifier, enumerated, enumerated_is, enumerated_alike, identifier, identifier_is, identifiers_alike, time, times_alike}
use Rattle.oer_spec.specs.TimeTexts.{time_content}
use Rattle.oer_spec.specs.Tree.{Tree, Enum, Text, InOctets}
use Rattle.oer_read.specs.Answers.{Took}
use Rattle.oer_read.specs.Enumerated.{value_at}
use Rattle.oer_read.specs.Law.{Decodes}
use Rattle.oer_read.specs.State.{State}
use Rattle.oer_read.proofs.LeafLaws.{leaf_law}

-- what a reading gives of octets is read from their front
pub front_given : {V X : Type 0} {read : Octets → Result (V × Octets) DecodeErrorKind} {Spells : Octets → V → Type 0} → Reads read Spells → (view : X → V × Octets) (input : Octets) (r : Result X DecodeErrorKind) → AreOctets input
    → Gives view r (read input) → ReadsFront Spells input (seen view r)
front_given reads view input (Ok x) a e = front_is reads input (Ok (view x)) a e
front_given reads view input (Err d) a e = front_is reads input (Err d) a e

module _ {E : Type 0} (number : E → ℤ) (of_number : ℤ → Option E) where
  some_of : (r : Option E) (k : DecodeErrorKind) (v : E) → ok_or r k ≡ Ok v → r ≡ Some v
  some_of (Some w) k v e = cc
  some_of None k v e = absurd (cc e)

  same_answer : (x y : E × Octets) → ◌≡◌ {A = Result (E × Octets) DecodeErrorKind} (Ok x) (Ok y) → x ≡ y
  same_answer x y e = cc

  module _ (known : (v : E) → of_number (number v) ≡ Some v) (back : (n : ℤ) (v : E) → of_number n ≡ Some v → number v ≡ n) (codec : Codec) where
    abbrev Spells : Octets → E → Type 0
    Spells o v = IsEnumeratedNumber (mode_of codec) o (number v)

    -- a value was found of the number that was read
    found_value : (input rest : Octets) (v : E) → AreOctets input → (x : ℤ × Octets) → enumerated_at codec input ≡ Ok x
        → ◌>>=◌ {B = E × Octets} (ok_or (of_number x.0) (DiscriminantValueNotFound x.0)) (λ w. Ok (w, x.1)) ≡ Ok (v, rest) → (o : Octets) × (input ≡ o ++ rest) × Spells o v
    found_value input rest v a x e f =
        let (w, g, h) = bind_ok (ok_or (of_number x.0) (DiscriminantValueNotFound x.0)) (λ w. Ok (w, x.1)) (v, rest) f in
        let (o, split, spelled) = (enumerated_reads codec).found input x.1 x.0 a e in
        let both = same_answer (w, x.1) (v, rest) h in
        let same : w ≡ v = ap (λ (y : E × Octets). y.0) both in
        let left : x.1 ≡ rest = ap (λ (y : E × Octets). y.1) both in
        let is : number v ≡ x.0 = back x.0 v (some_of (of_number x.0) (DiscriminantValueNotFound x.0) v (g ∙ ap Ok same)) in
        (o, split ∙ ap (λ (r : Octets). o ++ r) left, subst (λ (n : ℤ). IsEnumeratedNumber (mode_of codec) o n) (sym is) spelled)

    found : (input rest : Octets) (v : E) → AreOctets input → value_at of_number codec input ≡ Ok (v, rest) → (o : Octets) × (input ≡ o ++ rest) × Spells o v
    unfolding value_at
    found input rest v a e =
        let (x, f, g) = bind_ok (enumerated_at codec input) _ (v, rest) e in
        found_value input rest v a x f g

    again : (o rest : Octets) (v : E) → Spells o v → value_at of_number codec (o ++ rest) ≡ Ok (v, rest)
    unfolding value_at
    again o rest v s = rw ((enumerated_reads codec).again o rest (number v) s, known v) refl

    -- a reading of values answers exactly what a front of the octets spells
    pub values_read : Reads (value_at of_number codec) Spells
    values_read = record { found = found; again = again }

  abbrev tree : E → Tree
  tree v = enumerated (number v)

  pub enumerated_law : ((v : E) → in_isize (number v) ≡ true) → (old : State) (answer : Result (E × Bor (List ℕ)) DecodeErrorKind) (result : Result E DecodeError) (new : State)
      → ReadsFront (λ o v. IsEnumeratedNumber (mode_of old.codec) o (number v)) old.input (seen (λ (x : E × Bor (List ℕ)). (x.0, x.1.now)) answer)
      → Took answer old result new → Decodes tree IsAny old result new
  unfolding enumerated
  enumerated_law fits old =
      leaf_law tree IsAny (λ v. Enum (number v)) (λ v. refl) (λ v. v) (λ o v. IsEnumeratedNumber (mode_of old.codec) o (number v)) old
      (record { is_tree = λ v i. enumerated_is (number v) (fits v); alike = λ v w i j. enumerated_alike (number v) (number w) }) (λ o v s. (tt, s.1)) (λ o v i s. (fits v, s))

pub identifier_law : (old : State) (answer : Result (List ℕ × Bor (List ℕ)) DecodeErrorKind) (result : Result (List ℕ) DecodeError) (new : State)
    → ReadsFront (λ o arcs. IsLeafEncoding (mode_of old.codec) o (Text Identifier None (InOctets (arcs_octets arcs))) × (is_identifier arcs ≡ true)) old.input (seen (λ (x : List ℕ × Bor (List ℕ)). (x.0, x.1.now)) answer)
    → Took answer old result new → Decodes identifier IsIdentifier old result new
unfolding identifier
identifier_law old =
    leaf_law identifier IsIdentifier (λ arcs. Text Identifier None (InOctets (arcs_octets arcs))) (λ arcs. refl) (λ arcs. arcs)
    (λ o arcs. IsLeafEncoding (mode_of old.codec) o (Text Identifier None (InOctets (arcs_octets arcs))) × (is_identifier arcs ≡ true)) old
    (record { is_tree = λ arcs i. identifier_is arcs i; alike = λ a b i j. identifiers_alike a b }) (λ o arcs s. (s.1, s.0)) (λ o arcs i s. (s, i))

module _ {T : Type 0} (r : Rule) (text_of : T → Option Octets) (fields : T → List ℕ) where
  abbrev moment : T → Tree
  moment t = time r (text_of t) (fields t)

  pub time_law : ((t : T) → IsTree (moment t)) → (old : State) (answer : Result (T × Bor (List ℕ)) DecodeErrorKind) (result : Result T DecodeError) (new : State)
      → ReadsFront (λ o t. IsLeafEncoding (mode_of old.codec) o (Text r None (time_content (text_of t) (fields t)))) old.input (seen (λ (x : T × Bor (List ℕ)). (x.0, x.1.now)) answer)
      → Took answer old result new → Decodes moment IsAny old result new
  unfolding time
  time_law is old =
      leaf_law moment IsAny (λ t. Text r None (time_content (text_of t) (fields t))) (λ t. refl) (λ t. t) (λ o t. IsLeafEncoding (mode_of old.codec) o (Text r None (time_content (text_of t) (fields t)))) old
      (record { is_tree = λ t i. is t; alike = λ t u i j. times_alike r (text_of t) (text_of u) (fields t) (fields u) }) (λ o t s. (tt, s)) (λ o t i s. s)
