use Rattle.rasn_oer.proofs.Conversions.{read_as_older, none_is_older, read_as_newer, none_is_newer, says_converted, says_not_converted}
use Rattle.rasn_oer.proofs.recode.other_version.Goals as goal

pub returns-in-Err-decode_value-clause-older : goal.returns-in-Err-decode_value-clause-older
returns-in-Err-decode_value-clause-older g c =
    let n = g.Sent.Spelled in
    let k = g.Sent.AsnType in
    let o = g.Wanted.Spelled in
    let refused = rw (c.CONSTRAINTS-in-Ok.ensures, c.as_slice.ensures.value) at c.in-Err-decode_value.ensures.read in (
      refused.mode,
      λ m. none_is_older (n.tree k.CONSTRAINTS) n.IsValue (n.is_tree k.CONSTRAINTS k.consistent) (o.tree g.Wanted.AsnType.CONSTRAINTS) o.IsValue c.args.options.codec c.args.options.levels c.args.value.now _
          (rw c.CONSTRAINTS.ensures at c.in-Ok.ensures)
          (refused.none m),
    )

pub returns-in-Err-decode_value-clause-newer : goal.returns-in-Err-decode_value-clause-newer
returns-in-Err-decode_value-clause-newer g c =
    let o = g.Sent.Spelled in
    let k = g.Sent.AsnType in
    let n = g.Wanted.Spelled in
    let j = g.Wanted.AsnType in
    let refused = rw (c.CONSTRAINTS-in-Ok.ensures, c.as_slice.ensures.value) at c.in-Err-decode_value.ensures.read in (
      refused.mode,
      λ m. none_is_newer (o.tree k.CONSTRAINTS) o.IsValue (o.is_tree k.CONSTRAINTS k.consistent) (n.tree j.CONSTRAINTS) n.IsValue (n.is_tree j.CONSTRAINTS j.consistent) c.args.options.codec c.args.options.levels c.args.value.now _
          (rw c.CONSTRAINTS.ensures at c.in-Ok.ensures)
          (refused.none m),
    )

pub returns-clause-older : goal.returns-clause-older
returns-clause-older g c =
    let n = g.Sent.Spelled in
    let k = g.Sent.AsnType in
    let o = g.Wanted.Spelled in
    read_as_older (n.tree k.CONSTRAINTS) n.IsValue (n.is_tree k.CONSTRAINTS k.consistent) (o.tree g.Wanted.AsnType.CONSTRAINTS) o.IsValue c.args.options.codec c.args.options.levels c.args.value.now _ _ c.in-Ok-decode_value.value
    (rw c.CONSTRAINTS.ensures at c.in-Ok.ensures)
    (rw (c.CONSTRAINTS-in-Ok.ensures, c.as_slice.ensures.value) at c.in-Ok-decode_value.ensures.read)

pub returns-clause-newer : goal.returns-clause-newer
returns-clause-newer g c =
    let o = g.Sent.Spelled in
    let k = g.Sent.AsnType in
    let n = g.Wanted.Spelled in
    let j = g.Wanted.AsnType in
    read_as_newer (o.tree k.CONSTRAINTS) o.IsValue (o.is_tree k.CONSTRAINTS k.consistent) (n.tree j.CONSTRAINTS) n.IsValue (n.is_tree j.CONSTRAINTS j.consistent) c.args.options.codec c.args.options.levels c.args.value.now _ _ c.in-Ok-decode_value.value
    (rw c.CONSTRAINTS.ensures at c.in-Ok.ensures)
    (rw (c.CONSTRAINTS-in-Ok.ensures, c.as_slice.ensures.value) at c.in-Ok-decode_value.ensures.read)

pub returns-in-Err-decode_value-clause-says : goal.returns-in-Err-decode_value-clause-says
returns-in-Err-decode_value-clause-says g c =
    let n = g.Sent.Spelled in
    let o = g.Wanted.Spelled in
    let k = g.Wanted.AsnType.CONSTRAINTS in
    let written = rw c.CONSTRAINTS.ensures at c.in-Ok.ensures in
    says_not_converted (o.tree k) o.IsValue (g.Wanted.Decode.Answered k) c.args.options.codec c.args.options.levels _ (n.tree g.Sent.AsnType.CONSTRAINTS c.args.value.now) written.octets_are _
    (rw (c.CONSTRAINTS-in-Ok.ensures, c.as_slice.ensures.value) at c.in-Err-decode_value.ensures.says)

pub returns-clause-says : goal.returns-clause-says
returns-clause-says g c =
    let n = g.Sent.Spelled in
    let o = g.Wanted.Spelled in
    let k = g.Wanted.AsnType.CONSTRAINTS in
    let written = rw c.CONSTRAINTS.ensures at c.in-Ok.ensures in
    let read = rw (c.CONSTRAINTS-in-Ok.ensures, c.as_slice.ensures.value) at c.in-Ok-decode_value.ensures in
    says_converted (o.tree k) o.IsValue (g.Wanted.Decode.Answered k) c.args.options.codec c.args.options.levels _ (n.tree g.Sent.AsnType.CONSTRAINTS c.args.value.now) written.octets_are c.in-Ok-decode_value.value c.in-Ok-decode_value._rest read.read read.says
