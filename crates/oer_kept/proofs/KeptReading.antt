-- From what a choice does whose own alternatives are read, and what stands behind a newer tag, to what one does that keeps them.
use Rattle.std.specs.Prelude.{◌≡◌, ◌^◌, ◌<◌, ◌≤◌, ◌-◌, ◌==◌, ◌++◌, ◌||◌, ◌&&◌, not, ℕ, Bool, true, false, cond, List, Some, None, Result, Ok, Err, refl}
use Rattle.std.proofs.Common.{sym, ap, ◌∙◌, subst, arith}
use Rattle.std.proofs.lemmas.Bool.{ne_eqb, eqb-true, eqb-false}
use Rattle.asn1_core.specs.Octets.{Octets}
use Rattle.asn1_core.specs.Tags.{holds}
use Rattle.asn1_core.specs.declared.error.DecodeErrorKind.{DecodeErrorKind}
use Rattle.asn1_core.specs.declared.error.DecodeErrorKind.TheVariants.{InvalidTagVariantOnChoice, ExceedsMaxParseDepth}
use Rattle.asn1_core.specs.declared.tag.Tag.{Tag}
use Rattle.oer_read.proofs.ChoiceLaw.{chosen_by}
use Rattle.oer_read.specs.Choices.{Chosen, place_at, alternative_at, lent_alternative, chosen_at}
use Rattle.oer_read.specs.Scopes.{level_at}
use Rattle.oer_read.specs.State.{State}
use Rattle.oer_spec.proofs.Steps.{bind_ok, ok_is}
use Rattle.oer_spec.specs.Reading.{◌>>=◌, content_at, tag_at}
use Rattle.oer_kept.specs.KeptTags.{is_newer, kept_roots, same_root, newer_root, if_newer, newer_at}
use Rattle.oer_kept.specs.Unknown.{holds_of_both}

-- ---- what is chosen of both tables

module _ (roots additions : List Tag) (extensible : Bool) where
  abbrev kept : List Tag
  kept = kept_roots roots additions extensible

  place_same : (g : Tag) → is_newer roots additions extensible g ≡ false → place_at kept additions extensible g ≡ place_at roots additions extensible g
  place_same g n = ap (λ (b : Bool). cond b (Ok true) (cond (holds additions g) (Ok false) (Err (InvalidTagVariantOnChoice g extensible)))) (same_root roots additions extensible g n)

  behind_same : (s : State) (levels : ℕ) (x : Tag × Octets) → is_newer roots additions extensible x.0 ≡ false
      → (place_at kept additions extensible x.0 >>= λ is_root. alternative_at s levels x.0 x.1 is_root) ≡ (place_at roots additions extensible x.0 >>= λ is_root. alternative_at s levels x.0 x.1 is_root)
  behind_same s levels x n = ap (λ (p : Result Bool DecodeErrorKind). p >>= λ is_root. alternative_at s levels x.0 x.1 is_root) (place_same x.0 n)

  tagged_same : (s : State) (levels : ℕ) (r : Result (Tag × Octets) DecodeErrorKind) → ((x : Tag × Octets) → r ≡ Ok x → is_newer roots additions extensible x.0 ≡ false)
      → (r >>= λ tag. place_at kept additions extensible tag.0 >>= λ is_root. alternative_at s levels tag.0 tag.1 is_root) ≡ (r >>= λ tag. place_at roots additions extensible tag.0 >>= λ is_root. alternative_at s levels tag.0 tag.1 is_root)
  tagged_same s levels (Ok x) n = behind_same s levels x (n x refl)
  tagged_same s levels (Err e) n = refl

  -- where no newer tag was read
  pub chosen_same_tag : (s : State) → ((x : Tag × Octets) → tag_at s.codec s.input ≡ Ok x → is_newer roots additions extensible x.0 ≡ false) → chosen_at s kept additions extensible ≡ chosen_at s roots additions extensible
  unfolding chosen_at
  chosen_same_tag s n = go (level_at s.levels)
    where
      go : (l : Result ℕ DecodeErrorKind)
          → (l >>= λ levels. tag_at s.codec s.input >>= λ tag. place_at kept additions extensible tag.0 >>= λ is_root. alternative_at s levels tag.0 tag.1 is_root)
          ≡ (l >>= λ levels. tag_at s.codec s.input >>= λ tag. place_at roots additions extensible tag.0 >>= λ is_root. alternative_at s levels tag.0 tag.1 is_root)
      go (Ok levels) = tagged_same s levels (tag_at s.codec s.input) n
      go (Err e) = refl

  -- where no level is left
  pub chosen_same_level : (s : State) → s.levels ≡ 0 → chosen_at s kept additions extensible ≡ chosen_at s roots additions extensible
  unfolding chosen_at
  chosen_same_level s z = go (level_at s.levels) (ap level_at z)
    where
      go : (l : Result ℕ DecodeErrorKind) → l ≡ Err ExceedsMaxParseDepth
          → (l >>= λ levels. tag_at s.codec s.input >>= λ tag. place_at kept additions extensible tag.0 >>= λ is_root. alternative_at s levels tag.0 tag.1 is_root)
          ≡ (l >>= λ levels. tag_at s.codec s.input >>= λ tag. place_at roots additions extensible tag.0 >>= λ is_root. alternative_at s levels tag.0 tag.1 is_root)
      go (Ok levels) e = absurd (cc e)
      go (Err x) e = refl

  -- of a newer tag the octets behind it are lent
  pub newer_chosen : (s : State) (g : Tag) (rest : Octets) → 1 ≤ s.levels → tag_at s.codec s.input ≡ Ok (g, rest) → is_newer roots additions extensible g ≡ true → g.value < 2 ^ 32
      → chosen_at s kept additions extensible ≡ Ok (record { tag = g; lent = lent_alternative s (s.levels - 1) rest; behind = None })
  newer_chosen s g rest l t n u =
      let root = newer_root roots additions extensible g n u in
      let place : place_at kept additions extensible g ≡ Ok true = ap (λ (b : Bool). cond b (Ok true) (cond (holds additions g) (Ok false) (Err (InvalidTagVariantOnChoice g extensible)))) root in
      let some : (s.levels == 0) ≡ false = ne_eqb s.levels 0 (λ z. omega (arith, l, z)) in
      let level : level_at s.levels ≡ Ok (s.levels - 1) = ap (λ (b : Bool). cond b (Err ExceedsMaxParseDepth) (Ok (s.levels - 1))) some in
      chosen_by s kept additions extensible (s.levels - 1) g rest true (Ok (record { tag = g; lent = lent_alternative s (s.levels - 1) rest; behind = None })) level t place refl

  alternative_tag : (s : State) (levels : ℕ) (g : Tag) (input : Octets) (chosen : Chosen) (b : Bool) → alternative_at s levels g input b ≡ Ok chosen → chosen.tag ≡ g
  alternative_tag s levels g input chosen true e = ap (λ (c : Chosen). c.tag) (sym (ok_is _ chosen e))
  alternative_tag s levels g input chosen false e =
      let c = bind_ok (content_at s.codec input) (λ c. Ok (record { tag = g; lent = lent_alternative s levels c.0; behind = Some c.1 })) chosen e in
      ap (λ (z : Chosen). z.tag) (sym (ok_is _ chosen c.2))

  placed_known : (g : Tag) (b : Bool) → place_at roots additions extensible g ≡ Ok b → (holds roots g || holds additions g) ≡ true
  placed_known g b e = go (holds roots g) (holds additions g) e
    where
      go : (x y : Bool) → cond x (Ok true) (cond y (Ok false) (Err (InvalidTagVariantOnChoice g extensible))) ≡ Ok b → (x || y) ≡ true
      go true y e = refl
      go false true e = refl
      go false false e = absurd (cc e)

  -- what is chosen of the type's own tables has a tag of theirs
  pub chosen_known : (s : State) (chosen : Chosen) → chosen_at s roots additions extensible ≡ Ok chosen → (holds roots chosen.tag || holds additions chosen.tag) ≡ true
  unfolding chosen_at
  chosen_known s chosen e =
      let l = bind_ok (level_at s.levels) (λ (levels : ℕ). tag_at s.codec s.input >>= λ tag. place_at roots additions extensible tag.0 >>= λ is_root. alternative_at s levels tag.0 tag.1 is_root) chosen e in
      let t = bind_ok (tag_at s.codec s.input) (λ tag. place_at roots additions extensible tag.0 >>= λ is_root. alternative_at s l.0 tag.0 tag.1 is_root) chosen l.2 in
      let p = bind_ok (place_at roots additions extensible t.0.0) (λ is_root. alternative_at s l.0 t.0.0 t.0.1 is_root) chosen t.2 in
      let same = alternative_tag s l.0 t.0.0 t.0.1 chosen p.0 p.2 in
      subst (λ (g : Tag). (holds roots g || holds additions g) ≡ true) (sym same) (placed_known t.0.0 p.0 p.1)

  -- ---- by what was found at the front

  pub newer_found : (s : State) (g : Tag) (rest : Octets) → newer_at roots additions extensible s ≡ Some (g, rest) → (1 ≤ s.levels) × (tag_at s.codec s.input ≡ Ok (g, rest)) × (is_newer roots additions extensible g ≡ true)
  newer_found s g rest e = go (s.levels == 0) refl (tag_at s.codec s.input) refl e
    where
      one : (x : Tag × Octets) (b : Bool) → is_newer roots additions extensible x.0 ≡ b → tag_at s.codec s.input ≡ Ok x → (s.levels == 0) ≡ false → cond b (Some x) None ≡ Some (g, rest) → (1 ≤ s.levels) × (tag_at s.codec s.input ≡ Ok (g, rest)) × (is_newer roots additions extensible g ≡ true)
      one x true n t l e =
          let same : x ≡ (g, rest) = cc in
          (omega (arith, eqb-false s.levels 0 l), t ∙ ap (λ (y : Tag × Octets). Ok y) same, subst (λ (y : Tag × Octets). is_newer roots additions extensible y.0 ≡ true) same n)
      one x false n t l e = absurd (cc e)

      go : (b : Bool) → (s.levels == 0) ≡ b → (r : Result (Tag × Octets) DecodeErrorKind) → tag_at s.codec s.input ≡ r → cond b None (if_newer roots additions extensible r) ≡ Some (g, rest) → (1 ≤ s.levels) × (tag_at s.codec s.input ≡ Ok (g, rest)) × (is_newer roots additions extensible g ≡ true)
      go true l r t e = absurd (cc e)
      go false l (Ok x) t e = one x (is_newer roots additions extensible x.0) refl t l e
      go false l (Err x) t e = absurd (cc e)

  pub none_found : (s : State) → newer_at roots additions extensible s ≡ None → chosen_at s kept additions extensible ≡ chosen_at s roots additions extensible
  none_found s e = go (s.levels == 0) refl e
    where
      not_newer : (x : Tag × Octets) (b : Bool) → is_newer roots additions extensible x.0 ≡ b → cond b (Some x) None ≡ None → is_newer roots additions extensible x.0 ≡ false
      not_newer x true n e = absurd (cc e)
      not_newer x false n e = n

      read : (x : Tag × Octets) → if_newer roots additions extensible (tag_at s.codec s.input) ≡ None → tag_at s.codec s.input ≡ Ok x → is_newer roots additions extensible x.0 ≡ false
      read x e t = not_newer x (is_newer roots additions extensible x.0) refl (ap (if_newer roots additions extensible) (sym t) ∙ e)

      go : (b : Bool) → (s.levels == 0) ≡ b → cond b None (if_newer roots additions extensible (tag_at s.codec s.input)) ≡ None → chosen_at s kept additions extensible ≡ chosen_at s roots additions extensible
      go true l e = chosen_same_level s (eqb-true s.levels 0 l)
      go false l e = chosen_same_tag s (λ x t. read x e t)

  -- ---- whether a tag is a newer one, by each table

  pub newer_by : (g : Tag) → true ≡ extensible → holds roots g ≡ false → not (holds additions g) ≡ is_newer roots additions extensible g
  newer_by g e r =
      let both : holds (roots ++ additions) g ≡ holds additions g = holds_of_both roots additions g ∙ ap (λ (b : Bool). b || holds additions g) r in
      ap not (sym both) ∙ ap (λ (b : Bool). b && not (holds (roots ++ additions) g)) e

  pub newer_not : (g : Tag) → true ≡ extensible → holds roots g ≡ true → false ≡ is_newer roots additions extensible g
  newer_not g e r =
      let both : holds (roots ++ additions) g ≡ true = holds_of_both roots additions g ∙ ap (λ (b : Bool). b || holds additions g) r in
      ap not (sym both) ∙ ap (λ (b : Bool). b && not (holds (roots ++ additions) g)) e
