-- What two calls, one after the other, leave of an encoder.
use Rattle.std.specs.Prelude.{OnOk}
use Rattle.asn1_core.specs.declared.error.EncodeError.{EncodeError}
use Rattle.std.proofs.Common.{◌≡◌, Result, Ok, Err, ◌++◌, ap, ◌∙◌, append_assoc}
use Rattle.asn1_core.specs.Octets.{Octets}
use Rattle.oer_spec.specs.Writing.{BeginsWith}
use Rattle.oer_write.specs.Written.{Written, Keeps}

pub begins_then : (a b c : Octets) → BeginsWith a b → BeginsWith b c → BeginsWith a c
begins_then a b c h i = (h.0 ++ i.0, i.1 ∙ ap (λ (o : Octets). o ++ i.0) h.1 ∙ append_assoc a _ _)

pub keeps_then : (e e1 e' : Written) → Keeps e e1 → Keeps e1 e' → Keeps e e'
keeps_then e e1 e' h i = record {
  octets = begins_then _ _ _ h.octets i.octets;
  is_open = i.is_open ∙ h.is_open;
  is_set = i.is_set ∙ h.is_set;
  extensible = i.extensible ∙ h.extensible;
  start = i.start ∙ h.start;
  outer = i.outer ∙ h.outer;
}

-- what holds of an answer that is Ok
pub ok_of : {X : Type 0} (r : Result (Unit {0}) EncodeError) → r ≡ Ok tt → OnOk r X → X
ok_of (Ok u) e h = h
ok_of (Err x) e h = cc
