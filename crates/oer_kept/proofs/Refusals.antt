-- What is refused before anything is written.
use Rattle.std.specs.Prelude.{◌≡◌, ℤ, Bool, false, cond, List, [], refl}
use Rattle.std.proofs.Common.{sym, subst, append-nil, inr}
use Rattle.asn1_core.specs.declared.codec.Codec.TheVariants.{Coer}
use Rattle.asn1_core.specs.declared.error.EncodeErrorKind.{EncodeErrorKind}
use Rattle.asn1_core.specs.declared.error.EncodeErrorKind.TheVariants.{ValueConstraintNotSatisfied}
use Rattle.oer_spec.specs.Encoding.{fails}
use Rattle.oer_spec.specs.Failures.{Fails}
use Rattle.oer_spec.specs.Leaves.{BadValue}
use Rattle.oer_spec.specs.Spelled.{enumerated}
use Rattle.oer_spec.specs.Tree.{Tree, Primitive}
use Rattle.oer_write.specs.Written.{Written, Keeps, Refused}
use Rattle.oer_kept.specs.KeptNumbers.{no_leaf, kept_number, is_kept, kept_tree}
use Rattle.oer_kept.specs.declared.enumerations.KeptEnumeration.{KeptEnumeration}

-- nothing was written
keeps_itself : (e : Written) → Keeps e e
keeps_itself e = record { octets = ([], sym (append-nil e.octets)); is_open = refl; is_set = refl; extensible = refl; start = refl; outer = refl }

pub refused_now : (t : Tree) (kind : EncodeErrorKind) (e : Written) → Fails t kind → Refused t (record { kind = kind; codec = Coer }) e e
refused_now t kind e f = record { reason = inr f; mode = refl; keeps = keeps_itself e }

-- a number outside of its range
number_fails : Fails (Primitive no_leaf) ValueConstraintNotSatisfied
unfolding fails
number_fails = (BadValue, refl, refl, λ n e. absurd (cc e))

-- another one's number that the type knows
pub known_number_refused : {E : Type 0} (number : E → ℤ) (values : List E) (w : KeptEnumeration E) (e : Written) → is_kept number values w ≡ false
    → Refused (kept_tree number values w) (record { kind = ValueConstraintNotSatisfied; codec = Coer }) e e
known_number_refused number values w e k =
    refused_now (kept_tree number values w) ValueConstraintNotSatisfied e
    (subst (λ (b : Bool). Fails (cond b (enumerated (kept_number number w)) (Primitive no_leaf)) ValueConstraintNotSatisfied) (sym k) number_fails)
