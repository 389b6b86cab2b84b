-- What a scope lends has fewer levels left: the measure of types that contain themselves.
use Rattle.std.proofs.Common.{◌≡◌, ℕ, ◌<◌, Bool, true, false, Option, Some, None, List, Result, Ok, Err, ap, arith}
use Rattle.asn1_core.specs.Octets.{Octets, AreOctets}
use Rattle.asn1_core.specs.Rows.{Row}
use Rattle.asn1_core.specs.declared.error.DecodeError.{DecodeError}
use Rattle.asn1_core.specs.declared.tag.Tag.{Tag}
use Rattle.oer_spec.proofs.Steps.{bind_ok, ok_is}
use Rattle.oer_spec.specs.Reading.{◌>>=◌, content_at, tag_at}
use Rattle.oer_spec.specs.ReadingBits.{preamble_at}
use Rattle.oer_spec.specs.Tree.{Tree}
use Rattle.oer_read.proofs.AdditionRows.{passes}
use Rattle.oer_read.proofs.Openings.{level_ok}
use Rattle.oer_read.specs.Additions.{Added, Adds}
use Rattle.oer_read.specs.Choices.{Chosen, place_at, lent_alternative, alternative_at, chosen_at}
use Rattle.oer_read.specs.Scopes.{level_at, bits_for, frame_behind, opened_at}
use Rattle.oer_read.specs.State.{State}

pub opened_levels : (s : State) (extensible : Bool) (roots additions : List Row) (lent : State) → opened_at s extensible roots additions ≡ Ok lent → lent.levels < s.levels
unfolding opened_at
opened_levels s extensible roots additions lent e =
    let l = bind_ok (level_at s.levels) (λ (levels : ℕ). preamble_at (bits_for extensible roots) s.input >>= λ preamble. Ok (record { input = preamble.1; codec = s.codec; levels = levels; frame = frame_behind extensible roots additions preamble.0 })) lent e in
    let p = bind_ok (preamble_at (bits_for extensible roots) s.input) (λ preamble. Ok (record { input = preamble.1; codec = s.codec; levels = l.0; frame = frame_behind extensible roots additions preamble.0 })) lent l.2 in
    let n = level_ok s.levels l.0 l.1 in
    let h : l.0 ≡ lent.levels = ap (λ (z : State). z.levels) (ok_is _ lent p.2) in
    omega (arith, n.0, n.1, h)

alternative_levels : (s : State) (levels : ℕ) (g : Tag) (r : Octets) (chosen : Chosen) (b : Bool) → alternative_at s levels g r b ≡ Ok chosen → levels ≡ chosen.lent.levels
alternative_levels s levels g r chosen true e = ap (λ (c : Chosen). c.lent.levels) (ok_is _ chosen e)
alternative_levels s levels g r chosen false e =
    let c = bind_ok (content_at s.codec r) (λ c. Ok (record { tag = g; lent = lent_alternative s levels c.0; behind = Some c.1 })) chosen e in
    ap (λ (c : Chosen). c.lent.levels) (ok_is _ chosen c.2)

pub chosen_levels : (s : State) (roots additions : List Tag) (extensible : Bool) (chosen : Chosen) → chosen_at s roots additions extensible ≡ Ok chosen → chosen.lent.levels < s.levels
unfolding chosen_at
chosen_levels s roots additions extensible chosen e =
    let l = bind_ok (level_at s.levels) (λ (levels : ℕ). tag_at s.codec s.input >>= λ tag. place_at roots additions extensible tag.0 >>= λ is_root. alternative_at s levels tag.0 tag.1 is_root) chosen e in
    let t = bind_ok (tag_at s.codec s.input) (λ tag. place_at roots additions extensible tag.0 >>= λ is_root. alternative_at s l.0 tag.0 tag.1 is_root) chosen l.2 in
    let p = bind_ok (place_at roots additions extensible t.0.0) (λ is_root. alternative_at s l.0 t.0.0 t.0.1 is_root) chosen t.2 in
    let n = level_ok s.levels l.0 l.1 in
    let h = alternative_levels s l.0 t.0.0 t.0.1 chosen p.0 p.2 in
    omega (arith, n.0, n.1, h)

-- ---- behind an addition as many levels are left

module _ {A : Type 0} (tree : A → Tree) (IsValue : A → Type 0) (Says : State → Result A DecodeError → State → Type 0) (s : State) (g : Option Tag) where
  passed_levels : (o : Option A) (t : State) → AreOctets s.input → Added tree IsValue Says s g o t → t.levels ≡ s.levels
  passed_levels None t fits d = ap (λ (z : State). z.levels) (passes s t g None fits d.next).is
  passed_levels (Some v) t fits d = ap (λ (z : State). z.levels) (passes s t g (Some d.content) fits d.next).is

  pub added_levels : (answer : Result (Option A) DecodeError) (t : State) → Adds tree IsValue Says s g answer t → t.levels ≡ s.levels
  added_levels (Ok o) t d = passed_levels o t d.octets d.read
  added_levels (Err e) t d = ap (λ (z : State). z.levels) d.same
