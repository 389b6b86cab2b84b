-- SEQUENCE OF and SET OF.
use Rattle.std.specs.Prelude.{Bool, true, false, Option, Some, None}
use Rattle.oergen_parse.specs.declared.ast.Body.{Body, Body-F, out-Body}
use Rattle.oergen_parse.specs.declared.ast.Body.TheOpen.{SequenceOf, SetOf}
use Rattle.oergen_parse.specs.declared.ast.Type.{«Type»}

-- the type of a list's elements, and whether it is a SET OF
abbrev pub list_in : Body → Option («Type» × Bool)
list_in body = elim (out-Body body) [ SequenceOf element ↦ Some (element.value, false) | SetOf element ↦ Some (element.value, true) | _ ↦ None ]
