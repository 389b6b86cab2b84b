-- CHOICE types that keep alternatives of newer versions: each tag that the type doesn't know is that of a root alternative of
-- an open type. Such an alternative's octets are those of an extension addition: the tag, a length, and the content.
use Rattle.std.specs.Prelude.{◌≡◌, ◌+◌, ◌^◌, ◌<◌, ◌++◌, ◌&&◌, ◌||◌, ◌==◌, Bool, true, false, not, cond, List, [], Option, Some, None, Result, Ok, Err, IfErr, refl}
use Rattle.std.proofs.Common.{sym, ap, ◌∙◌, subst, arith}
use Rattle.asn1_core.specs.Octets.{Octets}
use Rattle.asn1_core.specs.Tags.{holds, times_held}
use Rattle.asn1_core.specs.Texts.{AnyOctets}
use Rattle.asn1_core.specs.declared.error.DecodeError.{DecodeError}
use Rattle.asn1_core.specs.declared.error.DecodeErrorKind.{DecodeErrorKind}
use Rattle.asn1_core.specs.declared.tag.Tag.{Tag}
use Rattle.oer_choices.specs.Choosing.{Choices, AreChoices, IsOneOf, choices_small, choices_is, distinct_tags, times_of_both, never_held}
use Rattle.oer_read.specs.Choices.{ChoiceAnswers}
use Rattle.oer_read.specs.Law.{IsForMemory, Promised}
use Rattle.oer_read.specs.State.{State}
use Rattle.oer_spec.specs.Encoding.{IsTree}
use Rattle.oer_spec.specs.Reading.{tag_at}
use Rattle.oer_spec.specs.ReadingTexts.{octet_string_at}
use Rattle.oer_spec.specs.Same.{Alike}
use Rattle.oer_spec.specs.Spelled.{IsTextOf, unsized_text, unsized_text_is, unsized_texts_alike}
use Rattle.oer_spec.specs.Tree.{Tree, Choice, Primitive}
use Rattle.oer_kept.specs.KeptNumbers.{no_leaf}
use Rattle.oer_kept.specs.Unknown.{unknown, unknown_once, unknown_never, held_never, held_once, holds_of_both}
use Rattle.oer_kept.specs.declared.choices.KeptChoice.{KeptChoice}
use Rattle.oer_kept.specs.declared.choices.KeptChoice.TheVariants.{Known, Other}

-- ---- tags

module _ (roots additions : List Tag) (extensible : Bool) where
  -- a newer version may have an alternative with the tag
  abbrev pub is_newer : Tag → Bool
  is_newer g = extensible && not (holds (roots ++ additions) g)

  abbrev pub newer_tags : List Tag
  newer_tags = cond extensible (unknown (roots ++ additions)) []

  -- those of root alternatives, and of newer ones
  abbrev pub kept_roots : List Tag
  kept_roots = roots ++ newer_tags

  pub newer_never : (g : Tag) → is_newer g ≡ false → times_held newer_tags g ≡ 0
  newer_never g n = go extensible (holds (roots ++ additions) g) refl n
    where
      go : (e h : Bool) → holds (roots ++ additions) g ≡ h → (e && not h) ≡ false → times_held (cond e (unknown (roots ++ additions)) []) g ≡ 0
      go false h k n = refl
      go true true k n = unknown_never (2 ^ 32) (roots ++ additions) g k
      go true false k n = absurd (cc n)

  pub newer_unknown : (g : Tag) → is_newer g ≡ true → holds (roots ++ additions) g ≡ false
  newer_unknown g n = go extensible (holds (roots ++ additions) g) n
    where
      go : (e h : Bool) → (e && not h) ≡ true → h ≡ false
      go false h n = absurd (cc n)
      go true true n = absurd (cc n)
      go true false n = refl

  pub known_isn't_newer : (g : Tag) → holds (roots ++ additions) g ≡ true → is_newer g ≡ false
  known_isn't_newer g k = go extensible (holds (roots ++ additions) g) k
    where
      go : (e h : Bool) → h ≡ true → (e && not h) ≡ false
      go false h k = refl
      go true true k = refl
      go true false k = absurd (cc k)

  pub newer_once : (g : Tag) → is_newer g ≡ true → g.value < 2 ^ 32 → times_held newer_tags g ≡ 1
  newer_once g n l = go extensible n
    where
      go : (e : Bool) → (e && not (holds (roots ++ additions) g)) ≡ true → times_held (cond e (unknown (roots ++ additions)) []) g ≡ 1
      go false n' = absurd (cc n')
      go true n' = unknown_once (2 ^ 32) (roots ++ additions) g (newer_unknown g n) l

  -- a tag that isn't newer stands among the root tags as it does in the type's own
  pub same_root : (g : Tag) → is_newer g ≡ false → holds kept_roots g ≡ holds roots g
  same_root g n = holds_of_both roots newer_tags g ∙ go (holds roots g) (held_never newer_tags g (newer_never g n))
    where
      go : (b : Bool) → holds newer_tags g ≡ false → (b || holds newer_tags g) ≡ b
      go true e = refl
      go false e = e

  pub newer_root : (g : Tag) → is_newer g ≡ true → g.value < 2 ^ 32 → holds kept_roots g ≡ true
  newer_root g n l = holds_of_both roots newer_tags g ∙ go (holds roots g) (held_once newer_tags g (newer_once g n l))
    where
      go : (b : Bool) → holds newer_tags g ≡ true → (b || holds newer_tags g) ≡ true
      go true e = refl
      go false e = e

  -- a newer tag is neither a root alternative's nor an addition's
  pub newer_neither : (g : Tag) → is_newer g ≡ true → (holds roots g || holds additions g) ≡ false
  newer_neither g n = sym (holds_of_both roots additions g) ∙ newer_unknown g n

  pub newer_no_root : (g : Tag) → is_newer g ≡ true → holds roots g ≡ false
  newer_no_root g n = go (holds roots g) (newer_neither g n)
    where
      go : (b : Bool) → (b || holds additions g) ≡ false → b ≡ false
      go true e = absurd (cc e)
      go false e = refl

  times_kept : (g : Tag) → times_held kept_roots g + times_held additions g ≡ times_held (roots ++ additions) g + times_held newer_tags g
  times_kept g =
      let a = times_of_both roots newer_tags g in
      let b = times_of_both roots additions g in
      omega (arith, a, b)

  pub known_once : (g : Tag) → holds (roots ++ additions) g ≡ true → times_held roots g + times_held additions g ≡ 1 → times_held kept_roots g + times_held additions g ≡ 1
  known_once g k e =
      let a = times_kept g in
      let b = times_of_both roots additions g in
      let c = newer_never g (known_isn't_newer g k) in
      omega (arith, a, b, c, e)

  pub newer_alone : (g : Tag) → is_newer g ≡ true → g.value < 2 ^ 32 → times_held kept_roots g + times_held additions g ≡ 1
  newer_alone g n l =
      let a = times_kept g in
      let b = never_held (roots ++ additions) g (newer_unknown g n) in
      let c = newer_once g n l in
      omega (arith, a, b, c)

  -- what a tag that was read is, where it is a newer one
  abbrev pub if_newer : Result (Tag × Octets) DecodeErrorKind → Option (Tag × Octets)
  if_newer (Ok x) = cond (is_newer x.0) (Some x) None
  if_newer (Err e) = None

  -- the newer tag at the front and what stands behind it, where a level is left
  abbrev pub newer_at : State → Option (Tag × Octets)
  newer_at s = cond (s.levels == 0) None (if_newer (tag_at s.codec s.input))

-- ---- values

module _ {A : Type 0} (c : Choices A) where
  abbrev pub known : List Tag
  known = c.roots ++ c.additions

  -- a newer version of the choice may have an alternative with the tag
  abbrev pub is_other : Tag → Bool
  is_other g = is_newer c.roots c.additions c.is_extensible g

  abbrev pub roots_of : List Tag
  roots_of = kept_roots c.roots c.additions c.is_extensible

  abbrev pub kept_tag : KeptChoice A → Tag
  kept_tag (Known v) = c.tag_of v
  kept_tag (Other g o) = g

  -- What is no value of the choice can't be written, for the same reason. Nor can octets under a tag that isn't a newer one: they
  -- have the tree of a number outside of its range.
  abbrev pub kept_child : KeptChoice A → Tree
  kept_child (Known v) = cond (holds known (c.tag_of v)) (c.child v) (Choice [] [] (c.tag_of v) (c.child v))
  kept_child (Other g o) = cond (is_other g) (unsized_text AnyOctets o.0) (Primitive no_leaf)

  abbrev pub chosen_tree : KeptChoice A → Tree
  chosen_tree w = Choice roots_of c.additions (kept_tag w) (kept_child w)

  abbrev pub IsKeptOne : KeptChoice A → Type 0
  IsKeptOne (Known v) = IsOneOf c v
  IsKeptOne (Other g o) = (is_other g ≡ true) × (g.value < 2 ^ 32) × IsTextOf AnyOctets o.0

  pub known_child : (k : AreChoices c) (v : A) → IsOneOf c v → kept_child (Known v) ≡ c.child v
  known_child k v i = ap (λ (b : Bool). cond b (c.child v) (Choice [] [] (c.tag_of v) (c.child v))) (k.held v i.1)

  pub other_child : (g : Tag) (o : Octets) → is_other g ≡ true → cond (is_other g) (unsized_text AnyOctets o) (Primitive no_leaf) ≡ unsized_text AnyOctets o
  other_child g o n = ap (λ (b : Bool). cond b (unsized_text AnyOctets o) (Primitive no_leaf)) n

  -- a value's tag is a newer one, or the type knows it
  pub tag_isn't_other : (k : AreChoices c) (v : A) → IsOneOf c v → is_other (c.tag_of v) ≡ false
  tag_isn't_other k v i = known_isn't_newer c.roots c.additions c.is_extensible (c.tag_of v) (k.held v i.1)

  known_is : (k : AreChoices c) (v : A) → IsOneOf c v → IsTree (chosen_tree (Known v))
  unfolding IsTree
  known_is k v i = (
    subst IsTree (sym (known_child k v i)) (k.is v i.1),
    known_once c.roots c.additions c.is_extensible (c.tag_of v) (k.held v i.1) (choices_is c k v i).1,
  )

  other_is : (g : Tag) (o : Octets) → is_other g ≡ true → g.value < 2 ^ 32 → IsTextOf AnyOctets o → IsTree (Choice roots_of c.additions g (cond (is_other g) (unsized_text AnyOctets o) (Primitive no_leaf)))
  unfolding IsTree
  other_is g o n l i = (
    subst IsTree (sym (other_child g o n)) (unsized_text_is AnyOctets o i),
    newer_alone c.roots c.additions c.is_extensible g n l,
  )

  pub chosen_is : AreChoices c → (w : KeptChoice A) → IsKeptOne w → IsTree (chosen_tree w)
  chosen_is k (Known v) i = known_is k v i
  chosen_is k (Other g o) (n, l, i) = other_is g o.0 n l i

  both_is : (t t' u u' : Tree) → t ≡ t' → u ≡ u' → Alike t' u' → Alike t u
  both_is t t' u u' e f a = subst (λ (x : Tree). Alike x u) (sym e) (subst (λ (x : Tree). Alike t' x) (sym f) a)

  apart_tags : (g h : Tag) → is_other g ≡ false → is_other h ≡ true → g ≡ h → ⊥
  apart_tags g h m n e = let f : is_other g ≡ true = ap is_other e ∙ n in absurd (cc (m, f))

  children_alike : AreChoices c → (v w : KeptChoice A) → IsKeptOne v → IsKeptOne w → kept_tag v ≡ kept_tag w → Alike (kept_child v) (kept_child w)
  children_alike k (Known v) (Known w) i j e =
      both_is (kept_child (Known v)) (c.child v) (kept_child (Known w)) (c.child w) (known_child k v i) (known_child k w j) (k.like (distinct_tags known i.0) v w i.1 j.1 e)
  children_alike k (Known v) (Other h p) i (n, l, j) e = absurd (apart_tags (c.tag_of v) h (tag_isn't_other k v i) n e)
  children_alike k (Other g o) (Known w) (n, l, i) j e = absurd (apart_tags (c.tag_of w) g (tag_isn't_other k w j) n (sym e))
  children_alike k (Other g o) (Other h p) (m, l, i) (n, b, j) e =
      both_is (kept_child (Other g o)) (unsized_text AnyOctets o.0) (kept_child (Other h p)) (unsized_text AnyOctets p.0) (other_child g o.0 m) (other_child h p.0 n) (unsized_texts_alike AnyOctets o.0 p.0)

  pub chosen_alike : AreChoices c → (v w : KeptChoice A) → IsKeptOne v → IsKeptOne w → Alike (chosen_tree v) (chosen_tree w)
  unfolding Alike
  chosen_alike k v w i j = (refl, refl, λ e. children_alike k v w i j e)

  pub chosen_small : AreChoices c → (w : KeptChoice A) → IsKeptOne w → (kept_tag w).value < 2 ^ 32
  chosen_small k (Known v) i = choices_small c k v i
  chosen_small k (Other g o) (n, l, i) = l

-- ---- refusals

-- memory was refused, or the octets can't be read as an open type's
abbrev pub OctetsRefused : State → DecodeError → Type 0
OctetsRefused s e = (IsForMemory e → ⊥) → octet_string_at None s.codec s.input ≡ Err e.kind

-- why an alternative was not read: what the type's own refuses, or what an open type's octets are refused by
abbrev pub KeptRefused : {A : Type 0} → Choices A → (Tag → State → DecodeError → Type 0) → Tag → State → DecodeError → Type 0
KeptRefused c Refuses g s e = (is_other c g ≡ false → Refuses g s e) × (is_other c g ≡ true → OctetsRefused s e)

-- no alternative that the type knows was refused
abbrev pub never : Tag → State → DecodeError → Type 0
never g s e = ⊥

-- what is promised of reading an alternative
abbrev pub KeptPromise : {A : Type 0} → Choices A → (Tag → State → DecodeError → Type 0) → Tag → State → Result (KeptChoice A) DecodeError → State → Type 0
KeptPromise c Refuses g s r t = Promised (kept_child c) (λ w. IsKeptOne c w × (kept_tag c w ≡ g)) (λ s r t. IfErr r (λ e. KeptRefused c Refuses g s e)) s r t

-- what is promised of reading the choice
abbrev pub KeptAnswers : {A : Type 0} → Choices A → (Tag → State → DecodeError → Type 0) → State → Result (KeptChoice A) DecodeError → State → Type 0
KeptAnswers c Refuses s r t = ChoiceAnswers (KeptPromise c Refuses) (roots_of c) c.additions c.is_extensible s r t
