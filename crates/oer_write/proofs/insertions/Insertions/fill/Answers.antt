use Rattle.std.proofs.Common.{◌≡◌, ◌+◌, arith, ap, sym, ◌∙◌, subst, length, map, ℕ}
use Rattle.asn1_core.specs.Numbers.{low_octets}
use Rattle.oer_write.specs.Inserted.{AreThere, counts, piece}
use Rattle.oer_write.specs.declared.slots.Insertion.{Insertion}
use Rattle.oer_write.proofs.Stored.{filled_pieces, filled_counts, filled_there, octets_few}
use Rattle.oer_write.proofs.insertions.Insertions.fill.Goals as goal

pub returns-clause-done : goal.returns-clause-done
returns-clause-done c =
    let i = c.self.inside in
    let v = c.self.invariant in
    let f = c.requires.free in
    let x : Insertion = record { place = c.get-place.result.place; count = c.args.octets.octets; number = c.args.octets.number } in
    ap (map (piece i.long)) c.set.ensures
    ∙ filled_pieces i.long i.slots c.args.self.now f.0 f.1 f.2 c.args.slot v.there c.self.view_is f.3 f.4 x c.get-place.result (low_octets c.args.octets.octets c.args.octets.number) (ap (λ (y : Insertion). y.place) c.get-place.ensures) (octets_few i.long x c.requires.few)

pub invariant_of-self : goal.invariant_of-self
invariant_of-self c =
    let i = c.self.inside in
    let v = c.self.invariant in
    let f = c.requires.free in
    let few = c.requires.few in
    let x : Insertion = record { place = c.get-place.result.place; count = c.args.octets.octets; number = c.args.octets.number } in
    let n : c.in-Some.inserted ≡ i.inserted + c.args.octets.octets = (let e = c.in-Some.ensures.1 in omega (arith, e)) in
    record {
      size = n ∙ ap (λ (m : ℕ). m + c.args.octets.octets) v.size ∙ sym (filled_counts i.long i.slots c.args.self.now f.0 f.1 f.2 c.args.slot v.there c.self.view_is f.3 f.4 x) ∙ ap counts (sym c.set.ensures);
      there = subst (AreThere (length i.long)) (sym c.set.ensures) (filled_there i.long i.slots c.args.self.now f.0 f.1 f.2 c.args.slot v.there c.self.view_is f.3 f.4 x (λ h. absurd (omega (arith, h, few))));
    }
