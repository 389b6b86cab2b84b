use Rattle.std.proofs.Common.{◌≡◌, ◌+◌, arith, refl, ap, sym, ◌∙◌, subst, length, map}
use Rattle.oer_write.specs.Inserted.{AreThere, counts, piece}
use Rattle.oer_write.specs.declared.slots.Insertion.{Insertion}
use Rattle.oer_write.proofs.Stored.{placed_pieces, filled_counts, filled_there, slot_count}
use Rattle.oer_write.proofs.insertions.Insertions.put_at.Goals as goal

pub returns : goal.returns
returns c = λ front rear n e at.
    let i = c.self.inside in
    let d : Insertion = c.get-old.result in
    ap (map (piece i.long)) c.set.ensures
    ∙ placed_pieces i.long i.slots c.args.self.now front rear n c.args.slot c.self.invariant.there c.self.view_is e at (record { place = c.args.place; count = d.count; number = d.number }) d c.args.place (ap (λ (y : Insertion). y.count) c.get-old.ensures) (ap (λ (y : Insertion). y.number) c.get-old.ensures) refl

pub invariant_of-self : goal.invariant_of-self
invariant_of-self c =
    let i = c.self.inside in
    let v = c.self.invariant in
    let f = c.requires.free in
    let d : Insertion = c.get-old.result in
    let x : Insertion = record { place = c.args.place; count = d.count; number = d.number } in
    let z : d.count ≡ 0 = ap (λ (y : Insertion). y.count) c.get-old.ensures ∙ slot_count i.long i.slots c.args.slot d f.0 f.1 f.2 v.there (c.self.view_is ∙ f.3) f.4 in
    let m : counts i.slots + d.count ≡ counts i.slots = omega (arith, z) in
    record {
      size = v.size ∙ sym m ∙ sym (filled_counts i.long i.slots c.args.self.now f.0 f.1 f.2 c.args.slot v.there c.self.view_is f.3 f.4 x) ∙ ap counts (sym c.set.ensures);
      there = subst (AreThere (length i.long)) (sym c.set.ensures) (filled_there i.long i.slots c.args.self.now f.0 f.1 f.2 c.args.slot v.there c.self.view_is f.3 f.4 x (λ h. absurd (omega (arith, h, z))));
    }
