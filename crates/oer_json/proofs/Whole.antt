-- Where a walk takes octets whole.
use Rattle.std.proofs.Common.{◌≡◌, ℕ, List, [], ◌∷◌, length, Some, None, Result, Ok, Err, refl, sym, ap, subst, ◌∙◌, arith, inl, inr, ◌⊎◌, append-nil}
use Rattle.asn1_core.specs.Octets.{Octets}
use Rattle.asn1_core.specs.declared.error.DecodeErrorKind.{DecodeErrorKind}
use Rattle.asn1_core.specs.declared.error.DecodeErrorKind.TheVariants.{TooManyEmptyElements}
use Rattle.oer_json.specs.Whole.{HasTooManyParts}
use Rattle.oer_spec.specs.Encoding.{IsTree, IsEncoding}
use Rattle.oer_spec.specs.Mode.{Lenient}
use Rattle.oer_spec.specs.Tree.{Tree}
use Rattle.oer_walk.specs.Described.{Describes, Took, TakesEncodings}
use Rattle.oer_walk.specs.Walks.{Walk, Came, IsAnswer, most_of, walk_of}
use Rattle.oer_walk.specs.declared.places.Stop.{Stop}
use Rattle.oer_walk.specs.declared.walks.Walked.{Walked}

came_whole : (n : ℕ) (a : Result Octets Stop) (r : Walked) → Came n a r → r.refusal ≡ None → r.consumed ≡ n → a ≡ Ok []
came_whole n (Ok []) r c e f = refl
came_whole n (Ok (x ∷ rest)) r c e f = absurd (omega (arith, c.0, f))
came_whole n (Err s) r c e f = absurd (cc (sym e ∙ c.1))

-- all octets were taken, and there was no refusal
pub whole_is : (n : ℕ) (w : Walk Octets) (r : Walked) → IsAnswer n w r → r.refusal ≡ None → r.consumed ≡ n → w.answer ≡ Ok []
whole_is n w r a e f = came_whole n w.answer r a.answer e f

came_back : (n : ℕ) (r : Walked) → Came n (Ok []) r → (r.refusal ≡ None) × (r.consumed ≡ n)
came_back n r c = (c.1, omega (arith, c.0))

pub whole_back : (n : ℕ) (w : Walk Octets) (r : Walked) → IsAnswer n w r → w.answer ≡ Ok [] → (r.refusal ≡ None) × (r.consumed ≡ n)
whole_back n w r a e = came_back n r (subst (λ (z : Result Octets Stop). Came n z r) e a.answer)

came_full : (n : ℕ) (a : Result Octets Stop) (r : Walked) → Came n a r → r.refusal ≡ Some TooManyEmptyElements → (at : ℕ) × (a ≡ Err (record { place = at; kind = TooManyEmptyElements }))
came_full n (Ok rest) r c e = absurd (cc (sym e ∙ c.1))
came_full n (Err s) r c e = (s.place, let k : s.kind ≡ TooManyEmptyElements = cc (sym c.1 ∙ e) in ap (λ (z : DecodeErrorKind). Err (record { place = s.place; kind = z })) k)

-- a refusal for too many parts is the walk's
pub full_is : (n : ℕ) (w : Walk Octets) (r : Walked) → IsAnswer n w r → r.refusal ≡ Some TooManyEmptyElements → (at : ℕ) × (w.answer ≡ Err (record { place = at; kind = TooManyEmptyElements }))
full_is n w r a e = came_full n w.answer r a.answer e

-- where the octets are an encoding of a tree of the type
pub taken_or_full : (ws us : List ℕ) (n : ℕ) (octets : Octets) (r : Walked) (t : Tree) → ws ≡ us → IsAnswer (length octets) (walk_of ws n 1024 octets) r → TakesEncodings ws n 1024 octets r → IsTree t → Describes us n t → IsEncoding Lenient 1024 octets t
    → ((r.refusal ≡ None) × (r.consumed ≡ length octets)) ⊎ HasTooManyParts us n 1024 octets
taken_or_full ws us n octets r t same a takes i f h = by_case (takes t octets [] (sym (append-nil octets)) i (subst (λ (z : List ℕ). Describes z n t) (sym same) f) h)
  where
    by_case : Took (most_of (length octets)) (length octets) r → ((r.refusal ≡ None) × (r.consumed ≡ length octets)) ⊎ HasTooManyParts us n 1024 octets
    by_case (inl x) = inl x
    by_case (inr x) = inr (subst (λ (z : List ℕ). HasTooManyParts z n 1024 octets) same (full_is (length octets) (walk_of ws n 1024 octets) r a x.0))
