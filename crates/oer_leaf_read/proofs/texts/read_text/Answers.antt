use Rattle.std.proofs.Common.{arith}
use Rattle.asn1_core.specs.Bounds.{size_bounds}
use Rattle.asn1_core.specs.Texts.{unit_of}
use Rattle.asn1_strings.specs.Characters.{are_characters}
use Rattle.oer_leaf_read.proofs.ReadTexts.{characters_reads, front_within}
use Rattle.oer_leaf_read.proofs.texts.read_text.Goals as goal

pub returns-clause-relation : goal.returns-clause-relation
returns-clause-relation g c =
    let set = g.C.CharacterSet in
    front_within (characters_reads (are_characters (unit_of set.rule) set.permitted) set.rule g.met.C.CharacterSet.obeys (size_bounds c.args.constraints) c.args.codec) _ c.args.input.now c.characters.result c.type_inv.input (omega arith) c.characters.ensures.function
