-- The texts of times and days obey the rules of their types.
use Rattle.std.specs.Prelude.{◌≡◌, ◌↔◌, Bool, true, Some}
use Rattle.jiff_core.specs.declared.civil.date.Date.{Date}
use Rattle.jiff_core.specs.declared.civil.datetime.DateTime.{DateTime}
use Rattle.asn1_core.specs.Octets.{Octets}
use Rattle.asn1_core.specs.Texts.{is_utc, is_generalized, is_date}
use Rattle.asn1_times.specs.Times.{utc_text, generalized_text, date_text}
use Rattle.asn1_times.proofs.TimeTexts.{utc_law, generalized_law, date_law}

-- a rule that is a test
pub same_test : (is_text : Octets → Bool) (o : Octets) → (is_text o ≡ true) ↔ (is_text o ≡ true)
same_test is_text o = (λ h. h, λ h. h)

pub utc_obeys : (t : DateTime) (o : Octets) → utc_text t ≡ Some o → is_utc o ≡ true
utc_obeys t o e = (utc_law t o e).1

pub generalized_obeys : (t : DateTime) (o : Octets) → generalized_text t ≡ Some o → is_generalized o ≡ true
generalized_obeys t o e = (generalized_law t o e).1

pub date_obeys : (t : Date) (o : Octets) → date_text t ≡ Some o → is_date o ≡ true
date_obeys t o e = (date_law t o e).1
