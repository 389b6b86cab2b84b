-- How an alternative is written.
use Rattle.std.specs.Prelude.{List, Result, OnOk, IfErr}
use Rattle.asn1_core.specs.declared.error.EncodeError.{EncodeError}
use Rattle.asn1_core.specs.declared.tag.Tag.{Tag}
use Rattle.oer_spec.specs.Tree.{Tree, Choice}
use Rattle.oer_write.specs.Written.{Written, Encodes, Refused}

-- Of a choice with these tables the alternative with that tag and tree was written, and only a value; or it was refused.
pub record PutsOne (roots additions : List Tag) (tag : Tag) (t : Tree) (IsValue : Type 0) (e : Written) (r : Result (Unit {0}) EncodeError) (e' : Written) : Type 0 where
  pub done : OnOk r (Encodes (Choice roots additions tag t) e e')
  pub value : OnOk r IsValue
  pub refused : IfErr r (λ x. Refused (Choice roots additions tag t) x e e')
