-- What a choice promises that keeps newer alternatives, by what is promised of its own ones, and of octets.
use Rattle.std.specs.Prelude.{◌≡◌, ◌^◌, ◌<◌, ◌≤◌, ◌-◌, Bool, true, false, None, Some, Result, Ok, Err, refl, OnErr, IfErr}
use Rattle.std.proofs.Common.{ap, ◌∙◌}
use Rattle.asn1_core.specs.Octets.{Octets, AreOctets}
use Rattle.asn1_core.specs.Texts.{AnyOctets}
use Rattle.asn1_core.specs.declared.error.DecodeError.{DecodeError}
use Rattle.asn1_core.specs.declared.tag.Tag.{Tag}
use Rattle.oer_leaf_read.proofs.ReadTags.{tag_reads}
use Rattle.oer_spec.specs.Reading.{tag_at}
use Rattle.oer_spec.specs.Spelled.{IsTextOf, unsized_text}
use Rattle.oer_spec.specs.Tree.{Tree}
use Rattle.oer_read.proofs.Alternatives.{alternative_made, alternative_refused, alternative_law}
use Rattle.oer_read.proofs.ChoiceLaw.{AreChosen, choice_answers, choice_law}
use Rattle.oer_read.specs.Choices.{Chosen, chosen_at, lent_alternative, ChoiceRead, ChoiceRefused, NotChosen, Stopped, LeftOver, ChoiceAnswers}
use Rattle.oer_read.specs.Law.{Decodes, Promised}
use Rattle.oer_read.specs.State.{State}
use Rattle.oer_rows.specs.declared.held_octets.OpenOctets.{OpenOctets}
use Rattle.oer_choices.specs.Choosing.{Choices, AreChoices, IsOneOf}
use Rattle.oer_choices.specs.declared.choices.OneOf.{OneOf}
use Rattle.oer_kept.proofs.KeptReading.{chosen_known, newer_chosen, newer_found, none_found}
use Rattle.oer_kept.specs.KeptTags.{known_isn't_newer, is_other, roots_of, newer_at, kept_tag, kept_child, chosen_tree, IsKeptOne, known_child, other_child, tag_isn't_other, chosen_is, chosen_small, OctetsRefused, KeptRefused, KeptPromise, KeptAnswers, never}
use Rattle.oer_kept.specs.Unknown.{holds_of_both}
use Rattle.oer_kept.specs.declared.choices.KeptChoice.{KeptChoice}
use Rattle.oer_kept.specs.declared.choices.KeptChoice.TheVariants.{Known, Other}

module _ {A : Type 0} (c : Choices A) (k : AreChoices c) (Refuses : Tag → State → DecodeError → Type 0) where
  abbrev IsHere : Tag → KeptChoice A → Type 0
  IsHere g w = IsKeptOne c w × (kept_tag c w ≡ g)

  not_both : (b : Bool) → b ≡ true → b ≡ false → ⊥
  not_both true e f = cc f
  not_both false e f = cc e

  -- ---- an alternative that the type knows

  abbrev IsOwn : Tag → OneOf A → Type 0
  IsOwn g v = IsOneOf c v.0 × (c.tag_of v.0 ≡ g)

  -- what is promised of it
  abbrev pub Own : Tag → State → Result (OneOf A) DecodeError → State → Type 0
  Own g s r t = Promised (λ v. c.child v.0) (IsOwn g) (λ s r t. IfErr r (λ e. Refuses g s e)) s r t

  own_only : (g : Tag) → is_other c g ≡ false → (w : KeptChoice A) → IsHere g w → (v : OneOf A) × (kept_child c w ≡ c.child v.0) × IsOwn g v
  own_only g n (Known v) (i, e) = (record { 0 = v }, known_child c k v i, (i, e))
  own_only g n (Other h o) ((m, l, i), e) = absurd (not_both (is_other c h) m (ap (is_other c) e ∙ n))

  own_read : (g : Tag) → is_other c g ≡ false → (s : State) (v : OneOf A) (t : State) → Own g s (Ok v) t → KeptPromise c Refuses g s (Ok (Known v.0)) t
  own_read g n s v t d = record {
    law = alternative_made (kept_child c) (IsHere g) (λ v. c.child v.0) (IsOwn g) (own_only g n) s t v (Known v.0) d.law.read.value (known_child c k v.0 d.law.read.value.0) d.law;
    answered = tt;
  }

  own_stops : (g : Tag) → is_other c g ≡ false → (s : State) (e : DecodeError) (t : State) → Own g s (Err e) t → KeptPromise c Refuses g s (Err e) t
  own_stops g n s e t d = record {
    law = alternative_refused (kept_child c) (IsHere g) (λ v. c.child v.0) (IsOwn g) (own_only g n) (λ y. y ≡ e) s t e (Err e) d.law refl (λ y p. p);
    answered = ((λ m. d.answered), (λ m. absurd (not_both (is_other c g) m n)));
  }

  not_other : (s : State) (chosen : Chosen) → chosen_at s c.roots c.additions c.is_extensible ≡ Ok chosen → is_other c chosen.tag ≡ false
  not_other s chosen e = known_isn't_newer c.roots c.additions c.is_extensible chosen.tag (holds_of_both c.roots c.additions chosen.tag ∙ chosen_known c.roots c.additions c.is_extensible s chosen e)

  module _ (old : State) (none : newer_at c.roots c.additions c.is_extensible old ≡ None) (new : State) where
    same : chosen_at old (roots_of c) c.additions c.is_extensible ≡ chosen_at old c.roots c.additions c.is_extensible
    same = none_found c.roots c.additions c.is_extensible old none

    pub own_answered : (v : OneOf A) → ChoiceAnswers Own c.roots c.additions c.is_extensible old (Ok v) new → KeptAnswers c Refuses old (Ok (Known v.0)) new
    own_answered v a = record { read = go a.read; refused = tt }
      where
        go : ChoiceRead Own c.roots c.additions c.is_extensible old v new → ChoiceRead (KeptPromise c Refuses) (roots_of c) c.additions c.is_extensible old (Known v.0) new
        go r = record {
          chosen = r.chosen;
          opened = same ∙ r.opened;
          after = r.after;
          ran = own_read r.chosen.tag (not_other old r.chosen r.opened) r.chosen.lent v r.after r.ran;
          rest = r.rest;
          closed = r.closed;
          left = r.left;
          octets = r.octets;
        }

    pub own_refused : (e : DecodeError) → ChoiceAnswers Own c.roots c.additions c.is_extensible old (Err e) new → KeptAnswers c Refuses old (Err e) new
    own_refused e a = record { read = tt; refused = go a.refused }
      where
        go : ChoiceRefused Own c.roots c.additions c.is_extensible old e → ChoiceRefused (KeptPromise c Refuses) (roots_of c) c.additions c.is_extensible old e
        go (NotChosen x m) = NotChosen (same ∙ x) m
        go (Stopped chosen after x ran) = Stopped chosen after (same ∙ x) (own_stops chosen.tag (not_other old chosen x) chosen.lent e after ran)
        go (LeftOver chosen after v x ran y m) = LeftOver chosen after (Known v.0) (same ∙ x) (own_read chosen.tag (not_other old chosen x) chosen.lent v after ran) y m

  -- ---- another one

  abbrev octets_tree : OpenOctets → Tree
  octets_tree o = unsized_text AnyOctets o.0

  abbrev AreText : OpenOctets → Type 0
  AreText o = IsTextOf AnyOctets o.0

  other_only : (g : Tag) → is_other c g ≡ true → (w : KeptChoice A) → IsHere g w → (o : OpenOctets) × (kept_child c w ≡ octets_tree o) × AreText o
  other_only g n (Known v) (i, e) = absurd (not_both (is_other c (c.tag_of v)) (ap (is_other c) e ∙ n) (tag_isn't_other c k v i))
  other_only g n (Other h o) ((m, l, i), e) = (o, other_child c h o.0 m, i)

  module _ (old : State) (g : Tag) (rest : Octets) (octets : AreOctets old.input) (found : newer_at c.roots c.additions c.is_extensible old ≡ Some (g, rest)) (after : State) where
    abbrev lent : State
    lent = lent_alternative old (old.levels - 1) rest

    is : (1 ≤ old.levels) × (tag_at old.codec old.input ≡ Ok (g, rest)) × (is_other c g ≡ true)
    is = newer_found c.roots c.additions c.is_extensible old g rest found

    small : g.value < 2 ^ 32
    small = ((tag_reads old.codec).found old.input rest g octets is.1).2.0

    chosen : chosen_at old (roots_of c) c.additions c.is_extensible ≡ Ok (record { tag = g; lent = lent; behind = None })
    chosen = newer_chosen c.roots c.additions c.is_extensible old g rest is.0 is.1 is.2 small

    pub other_answered : (o : OpenOctets) (new : State) → Decodes octets_tree AreText lent (Ok o) after → new ≡ record old { input = after.input } → KeptAnswers c Refuses old (Ok (Other g o)) new
    other_answered o new d e = record {
      read = record {
        chosen = record { tag = g; lent = lent; behind = None };
        opened = chosen;
        after = after;
        ran = record {
          law = alternative_made (kept_child c) (IsHere g) octets_tree AreText (other_only g is.2) lent after o (Other g o) ((is.2, small, d.read.value), refl) (other_child c g o.0 is.2) d;
          answered = tt;
        };
        rest = after.input;
        closed = refl;
        left = e;
        octets = octets;
      };
      refused = tt;
    }

    pub other_refused : (e : DecodeError) (new : State) → Decodes octets_tree AreText lent (Err e) after → OctetsRefused lent e → KeptAnswers c Refuses old (Err e) new
    other_refused e new d a = record {
      read = tt;
      refused = Stopped (record { tag = g; lent = lent; behind = None }) after chosen
          (record {
            law = alternative_refused (kept_child c) (IsHere g) octets_tree AreText (other_only g is.2) (λ y. y ≡ e) lent after e (Err e) d refl (λ y p. p);
            answered = ((λ m. absurd (not_both (is_other c g) is.2 m)), (λ m. a));
          });
    }

  -- ---- the law

  are_chosen : AreChosen (chosen_tree c) (IsKeptOne c) (roots_of c) c.additions (kept_tag c) (kept_child c)
  are_chosen = record { is = λ v. refl; small = chosen_small c k; is_tree = chosen_is c k }

  pub kept_choice_law : (old : State) (result : Result (KeptChoice A) DecodeError) (new : State) → KeptAnswers c Refuses old result new → OnErr result (new ≡ old) → Decodes (chosen_tree c) (IsKeptOne c) old result new
  kept_choice_law old result new a u =
      choice_law (chosen_tree c) (IsKeptOne c) (roots_of c) c.additions c.is_extensible (kept_tag c) (kept_child c) are_chosen (KeptPromise c Refuses)
      (λ g s r t p. alternative_law (kept_child c) (IsKeptOne c) (kept_tag c) g s r t p.law) old result new a.read a.refused u

-- where none of its own was refused, whatever they are refused by
module _ {A : Type 0} (c : Choices A) (Refuses : Tag → State → DecodeError → Type 0) where
  refused_too : (g : Tag) (s : State) (r : Result (KeptChoice A) DecodeError) → IfErr r (λ e. KeptRefused c never g s e) → IfErr r (λ e. KeptRefused c Refuses g s e)
  refused_too g s (Ok w) k = tt
  refused_too g s (Err e) k = ((λ n. absurd (k.0 n)), k.1)

  pub whatever_refused : (s : State) (r : Result (KeptChoice A) DecodeError) (t : State) → KeptAnswers c never s r t → KeptAnswers c Refuses s r t
  whatever_refused s r t k = choice_answers (KeptPromise c never) (KeptPromise c Refuses) (λ g s r t d. record { law = d.law; answered = refused_too g s r d.answered }) (roots_of c) c.additions c.is_extensible s r t k.read k.refused
