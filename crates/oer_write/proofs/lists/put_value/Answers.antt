use Rattle.std.proofs.Common.{◌≡◌, length, arith, inr}
use Rattle.oer_spec.specs.Encoding.{canonical_octets}
use Rattle.oer_write.proofs.Lawful.{written_more, element_some, element_none, element_many}
use Rattle.oer_write.proofs.lists.put_value.Goals as goal

pub returns-then-written-before-clause-done : goal.returns-then-written-before-clause-done
returns-then-written-before-clause-done g c =
    let t = g.E.Spelled.tree g.E.AsnType.CONSTRAINTS in
    let o = canonical_octets (t c.args.x.now) in
    let w = written_more c.args.encoder.now c.encode.new.encoder o c.in_ok-encode.ensures.done.written in
    let a = c.written.ensures in
    let b = c.written-before.ensures in
    element_some t g.E.Spelled.IsValue c.args.x.now c.args.encoder.now c.encode.new.encoder c.args.count c.in_ok-encode.ensures.done c.in_ok-encode.ensures.value c.requires.few (λ (z : length o ≡ 0). c.if-written-before.true (omega (arith, a, b, w, z)))

pub returns-then-count-eq-MAX_EMPTY_ELEMENTS-clause-refused : goal.returns-then-count-eq-MAX_EMPTY_ELEMENTS-clause-refused
returns-then-count-eq-MAX_EMPTY_ELEMENTS-clause-refused g c =
    let t = g.E.Spelled.tree g.E.AsnType.CONSTRAINTS in
    let o = canonical_octets (t c.args.x.now) in
    let w = written_more c.args.encoder.now c.encode.new.encoder o c.in_ok-encode.ensures.done.written in
    let a = c.written.ensures in
    let b = c.written-before.ensures in
    let same = c.if-written-before.false in
    let z : length o ≡ 0 = omega (arith, a, b, w, same) in
    inr (element_many t g.E.Spelled.IsValue c.args.x.now c.args.encoder.now c.encode.new.encoder c.args.count c.from.result c.in_ok-encode.ensures.done c.in_ok-encode.ensures.value c.from.ensures c.if-count-eq-MAX_EMPTY_ELEMENTS.true z)

pub returns-clause-done : goal.returns-clause-done
returns-clause-done g c =
    let t = g.E.Spelled.tree g.E.AsnType.CONSTRAINTS in
    let o = canonical_octets (t c.args.x.now) in
    let w = written_more c.args.encoder.now c.encode.new.encoder o c.in_ok-encode.ensures.done.written in
    let a = c.written.ensures in
    let b = c.written-before.ensures in
    let same = c.if-written-before.false in
    let few = c.requires.few in
    let other = c.if-count-eq-MAX_EMPTY_ELEMENTS.false in
    let z : length o ≡ 0 = omega (arith, a, b, w, same) in
    element_none t g.E.Spelled.IsValue c.args.x.now c.args.encoder.now c.encode.new.encoder c.args.count c.in_ok-encode.ensures.done c.in_ok-encode.ensures.value (omega (arith, few, other)) z
