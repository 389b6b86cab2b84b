use Rattle.oer_rows.proofs.Chained.{default_known}
use Rattle.oer_rows.proofs.writing.put_default.Goals as goal

pub returns-clause-known : goal.returns-clause-known
returns-clause-known g c = default_known _ _ _ _ g.E.Spelled.is_tree g.E.Spelled.alike g.met.D.DefaultValue.decides g.E.AsnType.CONSTRAINTS g.E.AsnType.consistent g.met.D.DefaultValue.admitted
