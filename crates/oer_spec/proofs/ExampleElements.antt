-- Times and strings of a fixed size take octets.
use Rattle.std.proofs.lemmas.Bool.{not-false}
use Rattle.std.proofs.Common.{◌≡◌, ◌≢◌, ℕ, ◌<◌, ◌/◌, true, false, List, [], ◌∷◌, length, refl, sym, ap, ◌∙◌, arith, Option, Some, None}
use Rattle.asn1_core.specs.Bounds.{fixed_size, size_bounds, size_fits}
use Rattle.asn1_core.specs.Octets.{Octets}
use Rattle.asn1_core.specs.Texts.{AnyOctets}
use Rattle.asn1_core.specs.declared.constraints.Constraints.{Constraints}
use Rattle.asn1_times.specs.Times.{utc_text, generalized_text, date_text}
use Rattle.oer_spec.specs.Elements.{ElementPremises, TakesOctets}
use Rattle.oer_spec.specs.Encoding.{IsEncoding}
use Rattle.oer_spec.specs.Leaves.{BadSize, IsText}
use Rattle.oer_spec.specs.Mode.{Mode}
use Rattle.oer_spec.specs.Spelled.{IsTextOf, day_fields, moment_fields, text, time}
use Rattle.oer_spec.specs.TimeTexts.{time_content}
use Rattle.oer_spec.specs.Tree.{Content, InOctets}
use Rattle.oer_spec.proofs.Nil.{behind_form_some}
use Rattle.oer_spec.proofs.UniqueLeaves.{fixed_count}

time_takes : (t : Option Octets) (fields : List ℕ) (m : Mode) (o : Octets) → IsText m o None (time_content t fields) → o ≢ []
time_takes (Some c) fields m [] f e = let h : true ≡ false = behind_form_some m [] c f in absurd cc
time_takes (Some c) fields m (x ∷ o) f e = absurd (cc e)
time_takes None fields m o f e = absurd f

fixed_takes : (w : Option ℕ) (m : Mode) (o c : Octets) (n : ℕ) → w ≡ Some n → IsText m o w (InOctets c) → length c / 1 ≡ n → 0 < n → o ≢ []
fixed_takes (Some k) m o c n h (f, _) s l e = let none : length c / 1 ≡ 0 = ap (λ (p : Octets). length p / 1) (sym f ∙ e) in absurd (omega (arith, none, s, l))
fixed_takes None m o c n h f s l e = absurd (cc h)

fixed_strings_take : (c : Constraints) (n : ℕ) → fixed_size (size_bounds c) ≡ Some n → 0 < n → TakesOctets (text AnyOctets c) (IsTextOf AnyOctets)
unfolding text IsEncoding
fixed_strings_take c n h l m d o v i f =
    fixed_takes (fixed_size (size_bounds c)) m o v n h f.1 (fixed_count (size_bounds c) n (length v / 1) (not-false (size_fits (size_bounds c) (length v / 1)) (f.0 BadSize)) h) l

pub element_premises : ElementPremises
unfolding time IsEncoding
element_premises = record {
  utc_times = λ m d o t i f. time_takes (utc_text t) (moment_fields t) m o f.1;
  generalized_times = λ m d o t i f. time_takes (generalized_text t) (moment_fields t) m o f.1;
  dates = λ m d o t i f. time_takes (date_text t) (day_fields t) m o f.1;
  fixed_strings = fixed_strings_take;
}
