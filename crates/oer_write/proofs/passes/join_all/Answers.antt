use Rattle.std.proofs.Common.{◌≡◌, ◌+◌, ◌-◌, length, map, arith, ap, sym, ◌∙◌, subst, rules, ℕ, List}
use Rattle.asn1_core.specs.Numbers.{low_octets}
use Rattle.asn1_core.specs.Octets.{Octets}
use Rattle.asn1_core.proofs.Fixed.{low_length}
use Rattle.oer_write.specs.Inserted.{Passed, piece}
use Rattle.oer_write.specs.Layout.{Piece}
use Rattle.oer_write.proofs.Passing.{grown_whole, passed_last}
use Rattle.oer_write.proofs.passes.join_all.Goals as goal

pub returns-clause-done : goal.returns-clause-done
returns-clause-done c =
    let old : Octets = c.args.output.now.items in
    let ps : List Piece = map (piece c.args.long.now) c.args.insertions.now in
    let items : Octets = c.spread_all.new.output.items in
    let at : Octets = c.as_mut_slice.result.now in
    let o : Octets = low_octets c.args.octets.octets c.args.octets.number in
    let k : c.args.octets.octets ≡ length o = sym (low_length c.args.octets.octets c.args.octets.number) in
    let v : at ≡ items = c.as_mut_slice.ensures.value in
    let p = c.in_ok-read.ensures.done c.args.start c.requires.ascends in
    let q : Passed c.args.start old at ps (length o) 0 c.in_ok-read.read c.in_ok-read.write (length at) =
    subst (λ (z : Octets). Passed c.args.start old z ps (length o) 0 c.in_ok-read.read c.in_ok-read.write (length z)) (sym v) (subst (λ (m : ℕ). Passed c.args.start old items ps m 0 c.in_ok-read.read c.in_ok-read.write (length items)) k p) in
    let b : c.put_own.result + (length o + (c.in_ok-read.read - c.args.start)) ≡ c.in_ok-read.write = (let e = c.put_own.ensures.begins in omega (arith, e, k)) in
    let new : Octets = c.put_own.new.output in
    let n : c.spread_all.new.output.len ≡ length items = search rules in
    grown_whole c.spread_all.new.output.len new items (c.put_own.ensures.len ∙ ap length v) n
    ∙ passed_last c.args.start old at new o ps c.in_ok-read.read c.in_ok-read.write c.put_own.result (length at) q b c.put_own.ensures.front c.put_own.ensures.rear
