-- From what a choice does, and what its closure promises, to the law of reading.
use Rattle.std.proofs.Common.{◌≡◌, ℕ, ◌+◌, ◌-◌, ◌^◌, ◌<◌, ◌≤◌, Bool, true, false, cond, ◌||◌, Some, None, Result, Ok, Err, List, [], ◌∷◌, ◌++◌, length, refl, sym, ap, ◌∙◌, subst, arith, append_assoc, ltb}
use Rattle.std.proofs.lemmas.Bool.{ltb-false}
use Rattle.std.proofs.lemmas.List.{append_cancel_left, append_cancel_right}
use Rattle.std.specs.Borrow.{MutBor}
use Rattle.std.specs.Result.{IfOk, IfErr, OnErr}
use denote.Param.Members.{Once}
use Rattle.asn1_core.specs.Octets.{Octets, AreOctets}
use Rattle.asn1_core.specs.Tags.{holds, same_tag, times_held}
use Rattle.asn1_core.specs.declared.codec.Codec.{Codec}
use Rattle.asn1_core.specs.declared.error.DecodeError.{DecodeError}
use Rattle.asn1_core.specs.declared.error.DecodeErrorKind.{DecodeErrorKind}
use Rattle.asn1_core.specs.declared.error.DecodeErrorKind.TheVariants.{InvalidTagVariantOnChoice}
use Rattle.asn1_core.specs.declared.tag.Tag.{Tag}
use Rattle.oer_leaf_read.proofs.ReadLengths.{content_reads}
use Rattle.oer_leaf_read.proofs.ReadTags.{tag_reads}
use Rattle.oer_spec.proofs.Steps.{bind_ok, then_ok, ok_is, canonical_ok, canonical_again, strict_is, strict_has, rear_octets}
use Rattle.oer_spec.specs.Encoding.{IsTree, IsEncoding}
use Rattle.oer_spec.specs.Lengths.{IsTag, IsBehindLength}
use Rattle.oer_spec.specs.Mode.{mode_of, InStrict}
use Rattle.oer_spec.specs.Places.{IsAlternative}
use Rattle.oer_spec.specs.Reading.{◌>>=◌, IsTag32, canonical, content_at, tag_at}
use Rattle.oer_spec.specs.Tree.{Tree, Choice}
use Rattle.oer_read.specs.Choices.{Chosen, place_at, lent_alternative, alternative_at, chosen_at, behind_at, FnOnceReturnsAtMutWith, ChoiceRead, ChoiceRefused, ChoiceAnswers, ReadsAlternative, NotChosen, Stopped, LeftOver}
use Rattle.oer_read.specs.Law.{Reads, Decodes, Fronts, IsForMemory, IsRear}
use Rattle.oer_read.specs.Scopes.{level_at}
use Rattle.oer_read.specs.State.{State}
use Rattle.oer_read.proofs.ListLaw.{not_both}
use Rattle.oer_read.proofs.Openings.{level_ok, level_again, rear_trans}

-- what a closure's promise says of a run for a tag
pub promise_with : {F A : Type 0} (g : Once F (MutBor State × (Tag × Unit {0})) (Result A DecodeError × (MutBor State × Unit {0}))) (f : F) (P : Tag → State → Result A DecodeError → State → Type 0) → ((p q : MutBor State) (a : Tag) (r : Result A DecodeError) → g.post f (p, (a, tt)) (r, (q, tt)) → P a p.now r q.now)
    → (a : Tag) (s : State) (r : Result A DecodeError) (t : State) → FnOnceReturnsAtMutWith g f a s r t → P a s r t
promise_with g f P h a s r t k =
    subst (λ (x : State). P a s r x) k.leaves (subst (λ (x : State). P a x r k.left.now) k.shows (h k.shown k.left a r k.met))

-- ---- what stands in front of an alternative

-- a root alternative stands directly behind the tag, an addition in an open type
abbrev IsPlaced : State → Tag → Octets → Chosen → Bool → Type 0
IsPlaced s g r chosen true = chosen ≡ record { tag = g; lent = lent_alternative s (s.levels - 1) r; behind = None }
IsPlaced s g r chosen false =
    (q content behind : Octets) × (r ≡ q ++ behind) × IsBehindLength (mode_of s.codec) q content × (chosen ≡ record { tag = g; lent = lent_alternative s (s.levels - 1) content; behind = Some behind })

-- a level is left, and a tag of the tables stands in front of the alternative
pub record Picks (s : State) (roots additions : List Tag) (chosen : Chosen) : Type 0 where
  pub level : 1 ≤ s.levels
  pub tag : Tag
  pub octets : Octets
  pub rest : Octets
  pub split : s.input ≡ octets ++ rest
  pub spelled : IsTag32 (mode_of s.codec) octets tag
  pub known : (holds roots tag || holds additions tag) ≡ true
  pub placed : IsPlaced s tag rest chosen (holds roots tag)

place_ok : (roots additions : List Tag) (extensible : Bool) (g : Tag) (b : Bool) → place_at roots additions extensible g ≡ Ok b → (holds roots g ≡ b) × ((holds roots g || holds additions g) ≡ true)
place_ok roots additions extensible g b e = go (holds roots g) (holds additions g) e
  where
    go : (x y : Bool) → cond x (Ok true) (cond y (Ok false) (Err (InvalidTagVariantOnChoice g extensible))) ≡ Ok b → (x ≡ b) × ((x || y) ≡ true)
    go true y e = (ok_is true b e, refl)
    go false true e = (ok_is false b e, refl)
    go false false e = absurd cc

place_again : (roots additions : List Tag) (extensible : Bool) (g : Tag) → (holds roots g || holds additions g) ≡ true → place_at roots additions extensible g ≡ Ok (holds roots g)
place_again roots additions extensible g h = go (holds roots g) (holds additions g) h
  where
    go : (x y : Bool) → (x || y) ≡ true → cond x (Ok true) (cond y (Ok false) (Err (InvalidTagVariantOnChoice g extensible))) ≡ Ok x
    go true y h = refl
    go false true h = refl
    go false false h = absurd cc

alternative_found : (s : State) (levels : ℕ) (g : Tag) (r : Octets) (chosen : Chosen) (b : Bool) → AreOctets r → levels ≡ s.levels - 1 → alternative_at s levels g r b ≡ Ok chosen → IsPlaced s g r chosen b
alternative_found s levels g r chosen true fits l e =
    sym (ok_is _ chosen e) ∙ ap (λ (n : ℕ). record { tag = g; lent = lent_alternative s n r; behind = None }) l
alternative_found s levels g r chosen false fits l e =
    let c = bind_ok (content_at s.codec r) (λ c. Ok (record { tag = g; lent = lent_alternative s levels c.0; behind = Some c.1 })) chosen e in
    let f = (content_reads s.codec).found r c.0.1 c.0.0 fits c.1 in
    (f.0, c.0.0, c.0.1, f.1, f.2, sym (ok_is _ chosen c.2) ∙ ap (λ (n : ℕ). record { tag = g; lent = lent_alternative s n c.0.0; behind = Some c.0.1 }) l)

alternative_again : (s : State) (g : Tag) (r : Octets) (chosen : Chosen) (b : Bool) → IsPlaced s g r chosen b → alternative_at s (s.levels - 1) g r b ≡ Ok chosen
alternative_again s g r chosen true h = ap (λ (c : Chosen). Ok c) (sym h)
alternative_again s g r chosen false (q, content, behind, e, f, h) =
    rw (e, (content_reads s.codec).again q behind content f) (ap (λ (c : Chosen). Ok c) (sym h))

pub chosen_picks : (s : State) (roots additions : List Tag) (extensible : Bool) (chosen : Chosen) → AreOctets s.input → chosen_at s roots additions extensible ≡ Ok chosen → Picks s roots additions chosen
unfolding chosen_at
chosen_picks s roots additions extensible chosen fits e =
    let l = bind_ok (level_at s.levels) (λ (levels : ℕ). tag_at s.codec s.input >>= λ tag. place_at roots additions extensible tag.0 >>= λ is_root. alternative_at s levels tag.0 tag.1 is_root) chosen e in
    let t = bind_ok (tag_at s.codec s.input) (λ tag. place_at roots additions extensible tag.0 >>= λ is_root. alternative_at s l.0 tag.0 tag.1 is_root) chosen l.2 in
    let p = bind_ok (place_at roots additions extensible t.0.0) (λ is_root. alternative_at s l.0 t.0.0 t.0.1 is_root) chosen t.2 in
    let n = level_ok s.levels l.0 l.1 in
    let f = (tag_reads s.codec).found s.input t.0.1 t.0.0 fits t.1 in
    let k = place_ok roots additions extensible t.0.0 p.0 p.1 in
    record {
      level = n.0;
      tag = t.0.0;
      octets = f.0;
      rest = t.0.1;
      split = f.1;
      spelled = f.2;
      known = k.1;
      placed = subst (IsPlaced s t.0.0 t.0.1 chosen) (sym k.0) (alternative_found s l.0 t.0.0 t.0.1 chosen p.0 (rear_octets f.0 t.0.1 (subst AreOctets f.1 fits)) n.1 p.2);
    }

-- the mode is lent on
alternative_mode : (s : State) (levels : ℕ) (g : Tag) (input : Octets) (chosen : Chosen) (root : Bool) → alternative_at s levels g input root ≡ Ok chosen → chosen.lent.codec ≡ s.codec
alternative_mode s levels g input chosen true e = ap (λ (c : Chosen). c.lent.codec) (sym (ok_is _ chosen e))
alternative_mode s levels g input chosen false e =
    let c = bind_ok (content_at s.codec input) (λ c. Ok (record { tag = g; lent = lent_alternative s levels c.0; behind = Some c.1 })) chosen e in
    ap (λ (z : Chosen). z.lent.codec) (sym (ok_is _ chosen c.2))

pub chosen_mode : (s : State) (roots additions : List Tag) (extensible : Bool) (chosen : Chosen) → chosen_at s roots additions extensible ≡ Ok chosen → chosen.lent.codec ≡ s.codec
unfolding chosen_at
chosen_mode s roots additions extensible chosen e =
    let l = bind_ok (level_at s.levels) (λ (levels : ℕ). tag_at s.codec s.input >>= λ tag. place_at roots additions extensible tag.0 >>= λ is_root. alternative_at s levels tag.0 tag.1 is_root) chosen e in
    let t = bind_ok (tag_at s.codec s.input) (λ tag. place_at roots additions extensible tag.0 >>= λ is_root. alternative_at s l.0 tag.0 tag.1 is_root) chosen l.2 in
    let p = bind_ok (place_at roots additions extensible t.0.0) (λ is_root. alternative_at s l.0 t.0.0 t.0.1 is_root) chosen t.2 in
    alternative_mode s l.0 t.0.0 t.0.1 chosen p.0 p.2

pub picks_chosen : (s : State) (roots additions : List Tag) (extensible : Bool) (chosen : Chosen) → Picks s roots additions chosen → chosen_at s roots additions extensible ≡ Ok chosen
unfolding chosen_at
picks_chosen s roots additions extensible chosen p =
    let tag : tag_at s.codec s.input ≡ Ok (p.tag, p.rest) = ap (tag_at s.codec) p.split ∙ (tag_reads s.codec).again p.octets p.rest p.tag p.spelled in
    rw (level_again s.levels p.level, tag, place_again roots additions extensible p.tag p.known) (alternative_again s p.tag p.rest chosen (holds roots p.tag) p.placed)

picked_tag : (s : State) (roots additions : List Tag) (chosen : Chosen) → (p : Picks s roots additions chosen) → chosen.tag ≡ p.tag
picked_tag s roots additions chosen p = go (holds roots p.tag) p.placed
  where
    go : (b : Bool) → IsPlaced s p.tag p.rest chosen b → chosen.tag ≡ p.tag
    go true h = ap (λ (c : Chosen). c.tag) h
    go false (q, content, behind, e, f, h) = ap (λ (c : Chosen). c.tag) h

-- what is lent has the mode, and a level less
picked_lent : (s : State) (roots additions : List Tag) (chosen : Chosen) → Picks s roots additions chosen → chosen.lent ≡ lent_alternative s (s.levels - 1) chosen.lent.input
picked_lent s roots additions chosen p = go (holds roots p.tag) p.placed
  where
    lent_is : (o : Octets) → chosen.lent ≡ lent_alternative s (s.levels - 1) o → chosen.lent ≡ lent_alternative s (s.levels - 1) chosen.lent.input
    lent_is o e = e ∙ ap (lent_alternative s (s.levels - 1)) (sym (ap (λ (z : State). z.input) e))

    go : (b : Bool) → IsPlaced s p.tag p.rest chosen b → chosen.lent ≡ lent_alternative s (s.levels - 1) chosen.lent.input
    go true h = lent_is p.rest (ap (λ (c : Chosen). c.lent) h)
    go false (q, content, behind, e, f, h) = lent_is content (ap (λ (c : Chosen). c.lent) h)

-- ---- from an encoding of an alternative to that of the choice, and back

is_nil : (o : Octets) → ltb 0 (length o) ≡ false → o ≡ []
is_nil [] e = refl
is_nil (x ∷ o) e = absurd (let h = ltb-false 0 (length (x ∷ o)) e in omega (arith, h))

over_ok : (codec : Codec) (behind o rest : Octets) → behind_at codec (Some behind) o ≡ Ok rest → (behind ≡ rest) × InStrict (mode_of codec) (o ≡ [])
over_ok codec behind o rest e =
    let t = then_ok (canonical codec (ltb 0 (length o))) (Ok behind) rest e in
    (ok_is behind rest t.2, strict_is codec (λ strict. is_nil o (canonical_ok codec (ltb 0 (length o)) t.0 t.1 strict)))

over_again : (codec : Codec) (behind o : Octets) → InStrict (mode_of codec) (o ≡ []) → behind_at codec (Some behind) o ≡ Ok behind
over_again codec behind o h = rw (canonical_again codec (ltb 0 (length o)) (λ strict. ap (λ (z : Octets). ltb 0 (length z)) (strict_has codec h strict))) refl

-- octets that encode a choice, and what follows them
abbrev Spelled : State → List Tag → List Tag → Tag → Tree → Octets → Type 0
Spelled s roots additions g t rest = (o : Octets) × (s.input ≡ o ++ rest) × IsEncoding (mode_of s.codec) s.levels o (Choice roots additions g t)

-- behind its tag, an alternative is spelled by what its decoder is lent
spelled_behind : (s : State) (roots additions : List Tag) (g : Tag) (t : Tree) (q r f left rest : Octets) (chosen : Chosen) (b : Bool) → holds roots g ≡ b → 1 ≤ s.levels → s.input ≡ q ++ r → IsTag (mode_of s.codec) q g → IsPlaced s g r chosen b
    → chosen.lent.input ≡ f ++ left → IsEncoding (mode_of s.codec) (s.levels - 1) f t → behind_at s.codec chosen.behind left ≡ Ok rest → Spelled s roots additions g t rest
unfolding IsEncoding
spelled_behind s roots additions g t q r f left rest chosen true root level split tag placed e enc b =
    let input : r ≡ f ++ left = ap (λ (c : Chosen). c.lent.input) (sym placed) ∙ e in
    let last : left ≡ rest = ok_is left rest (ap (λ (c : Chosen). behind_at s.codec c.behind left) (sym placed) ∙ b) in (
      q ++ f,
      split ∙ ap (λ (l : Octets). q ++ l) (input ∙ ap (λ (l : Octets). f ++ l) last) ∙ sym (append_assoc q f rest),
      (level, f, enc, (q, f, refl, tag, subst (λ (x : Bool). IsAlternative (mode_of s.codec) x f f) (sym root) refl)),
    )
spelled_behind s roots additions g t q r f left rest chosen false root level split tag (p, content, behind, at, is, placed) e enc b =
    let input : content ≡ f ++ left = ap (λ (c : Chosen). c.lent.input) (sym placed) ∙ e in
    let last = over_ok s.codec behind left rest (ap (λ (c : Chosen). behind_at s.codec c.behind left) (sym placed) ∙ b) in (
      q ++ p,
      split ∙ ap (λ (l : Octets). q ++ l) (at ∙ ap (λ (l : Octets). p ++ l) last.0) ∙ sym (append_assoc q p rest),
      (level, f, enc, (q, p, refl, tag, subst (λ (x : Bool). IsAlternative (mode_of s.codec) x p f) (sym root) (content, left, is, input, last.1))),
    )

-- What a choice leaves of an encoding that begins what is left: its alternative's begins what is lent, and the choice ends
-- where the encoding does.
record Meets (s : State) (roots additions : List Tag) (extensible : Bool) (g : Tag) (t : Tree) (rest : Octets) : Type 0 where
  pub chosen : Chosen
  pub opened : chosen_at s roots additions extensible ≡ Ok chosen
  pub tag : g ≡ chosen.tag
  pub octets : Octets
  pub fronts : Fronts chosen.lent octets t
  pub ends : behind_at s.codec chosen.behind fronts.rest ≡ Ok rest

meets_behind : (s : State) (roots additions : List Tag) (extensible : Bool) (g : Tag) (t : Tree) (q r f o rest : Octets) (b : Bool) → holds roots g ≡ b → (holds roots g || holds additions g) ≡ true → g.value < 2 ^ 32 → 1 ≤ s.levels → s.input ≡ o ++ rest
    → o ≡ q ++ r → IsTag (mode_of s.codec) q g → IsEncoding (mode_of s.codec) (s.levels - 1) f t → IsAlternative (mode_of s.codec) b r f → Meets s roots additions extensible g t rest
meets_behind s roots additions extensible g t q r f o rest true root known small level split e tag enc a =
    let whole : s.input ≡ q ++ (r ++ rest) = split ∙ ap (λ (l : Octets). l ++ rest) e ∙ append_assoc q r rest in
    let chosen : Chosen = record { tag = g; lent = lent_alternative s (s.levels - 1) (r ++ rest); behind = None } in
    record {
      chosen = chosen;
      opened = picks_chosen s roots additions extensible chosen (record { level = level; tag = g; octets = q; rest = r ++ rest; split = whole; spelled = (small, tag); known = known; placed = subst (IsPlaced s g (r ++ rest) chosen) (sym root) refl });
      tag = refl;
      octets = f;
      fronts = record { rest = rest; split = ap (λ (l : Octets). l ++ rest) a; encoding = enc };
      ends = refl;
    }
meets_behind s roots additions extensible g t q r f o rest false root known small level split e tag enc (content, left, is, parts, over) =
    let whole : s.input ≡ q ++ (r ++ rest) = split ∙ ap (λ (l : Octets). l ++ rest) e ∙ append_assoc q r rest in
    let chosen : Chosen = record { tag = g; lent = lent_alternative s (s.levels - 1) content; behind = Some rest } in
    record {
      chosen = chosen;
      opened = picks_chosen s roots additions extensible chosen (record { level = level; tag = g; octets = q; rest = r ++ rest; split = whole; spelled = (small, tag); known = known; placed = subst (IsPlaced s g (r ++ rest) chosen) (sym root) (r, content, rest, refl, is, refl) });
      tag = refl;
      octets = f;
      fronts = record { rest = left; split = parts; encoding = enc };
      ends = over_again s.codec rest left over;
    }

meets : (s : State) (roots additions : List Tag) (extensible : Bool) (g : Tag) (t : Tree) (o rest : Octets) → (holds roots g || holds additions g) ≡ true → g.value < 2 ^ 32 → s.input ≡ o ++ rest
    → IsEncoding (mode_of s.codec) s.levels o (Choice roots additions g t) → Meets s roots additions extensible g t rest
unfolding IsEncoding
meets s roots additions extensible g t o rest known small split (level, f, enc, (q, r, e, tag, a)) =
    meets_behind s roots additions extensible g t q r f o rest (holds roots g) refl known small level split e tag enc a

-- what is left behind a choice is a rear part of what was left
pub choice_rear : (s : State) (roots additions : List Tag) (chosen : Chosen) (left rest : Octets) → Picks s roots additions chosen → IsRear chosen.lent.input left → behind_at s.codec chosen.behind left ≡ Ok rest → IsRear s.input rest
choice_rear s roots additions chosen left rest p k b = rear_trans s.input p.rest rest (record { front = p.octets; split = p.split }) (go (holds roots p.tag) p.placed)
  where
    go : (x : Bool) → IsPlaced s p.tag p.rest chosen x → IsRear p.rest rest
    go true h =
        let input : chosen.lent.input ≡ p.rest = ap (λ (c : Chosen). c.lent.input) h in
        let last : left ≡ rest = ok_is left rest (ap (λ (c : Chosen). behind_at s.codec c.behind left) (sym h) ∙ b) in
        record { front = k.front; split = sym input ∙ k.split ∙ ap (λ (l : Octets). k.front ++ l) last }
    go false (q, content, behind, e, f, h) =
        let last = over_ok s.codec behind left rest (ap (λ (c : Chosen). behind_at s.codec c.behind left) (sym h) ∙ b) in
        record { front = q; split = e ∙ ap (λ (l : Octets). q ++ l) last.0 }

-- ---- the law

-- a tag that stands once in the lists stands in one of them
held : (hs : List Tag) (g : Tag) → holds hs g ≡ false → times_held hs g ≡ 0
held [] g e = refl
held (h ∷ hs) g e = go (same_tag h g) (λ f. held hs g f) e
  where
    go : (b : Bool) → (holds hs g ≡ false → times_held hs g ≡ 0) → (b || holds hs g) ≡ false → cond b 1 0 + times_held hs g ≡ 0
    go true k e = absurd cc
    go false k e = omega (arith, k e)

one_of : (roots additions : List Tag) (g : Tag) → times_held roots g + times_held additions g ≡ 1 → (holds roots g || holds additions g) ≡ true
one_of roots additions g e = go (holds roots g) (holds additions g) refl refl
  where
    go : (x y : Bool) → holds roots g ≡ x → holds additions g ≡ y → (x || y) ≡ true
    go true y f h = refl
    go false true f h = refl
    go false false f h = absurd (omega (arith, e, held roots g f, held additions g h))

-- what is promised of a choice's values: each has the tree of its alternative, under a tag of 32 bits
pub record AreChosen {A : Type 0} (tree : A → Tree) (IsValue : A → Type 0) (roots additions : List Tag) (tag_of : A → Tag) (child : A → Tree) : Type 0 where
  pub is : (v : A) → tree v ≡ Choice roots additions (tag_of v) (child v)
  pub small : (v : A) → IsValue v → (tag_of v).value < 2 ^ 32
  pub is_tree : (v : A) → IsValue v → IsTree (tree v)

chosen_same : (r : Result Chosen DecodeErrorKind) (a b : Chosen) → r ≡ Ok a → r ≡ Ok b → a ≡ b
chosen_same r a b e f = ok_is a b (sym e ∙ f)

rest_same : (r : Result Octets DecodeErrorKind) (a b : Octets) → r ≡ Ok a → r ≡ Ok b → a ≡ b
rest_same r a b e f = ok_is a b (sym e ∙ f)

tag_held : (roots additions : List Tag) (g : Tag) (t : Tree) → IsTree (Choice roots additions g t) → (holds roots g || holds additions g) ≡ true
unfolding IsTree
tag_held roots additions g t h = one_of roots additions g h.1

module _ {A : Type 0} (tree : A → Tree) (IsValue : A → Type 0) (roots additions : List Tag) (extensible : Bool) (tag_of : A → Tag) (child : A → Tree) (are : AreChosen tree IsValue roots additions tag_of child)
    (Ran : Tag → State → Result A DecodeError → State → Type 0) (promise : (g : Tag) (s : State) (r : Result A DecodeError) (t : State) → Ran g s r t → ReadsAlternative child IsValue tag_of g s r t) where
  value_meets : (old : State) (w : A) (o : Octets) → IsValue w → (f : Fronts old o (tree w)) → Meets old roots additions extensible (tag_of w) (child w) f.rest
  value_meets old w o i f =
      meets old roots additions extensible (tag_of w) (child w) o f.rest (tag_held roots additions (tag_of w) (child w) (subst IsTree (are.is w) (are.is_tree w i))) (are.small w i) f.split
      (subst (λ (t : Tree). IsEncoding (mode_of old.codec) old.levels o t) (are.is w) f.encoding)

  -- the alternative of a value that begins what is left begins what is lent
  lent_fronts : (old : State) (chosen : Chosen) → chosen_at old roots additions extensible ≡ Ok chosen → (w : A) (o : Octets) → IsValue w → (f : Fronts old o (tree w))
      → (p : Octets) × (k : Fronts chosen.lent p (child w)) × (tag_of w ≡ chosen.tag) × (behind_at old.codec chosen.behind k.rest ≡ Ok f.rest)
  lent_fronts old chosen x w o i f =
      let m = value_meets old w o i f in
      subst (λ (c : Chosen). (p : Octets) × (k : Fronts c.lent p (child w)) × (tag_of w ≡ c.tag) × (behind_at old.codec c.behind k.rest ≡ Ok f.rest)) (chosen_same (chosen_at old roots additions extensible) m.chosen chosen m.opened x) (m.octets, m.fronts, m.tag, m.ends)

  picked_spelled : (s : State) (chosen : Chosen) (t : Tree) (f left rest : Octets) → Picks s roots additions chosen → chosen.lent.input ≡ f ++ left → IsEncoding (mode_of chosen.lent.codec) chosen.lent.levels f t → behind_at s.codec chosen.behind left ≡ Ok rest → Spelled s roots additions chosen.tag t rest
  picked_spelled s chosen t f left rest p e enc b =
      let l = picked_lent s roots additions chosen p in
      subst (λ (g : Tag). Spelled s roots additions g t rest) (sym (picked_tag s roots additions chosen p))
      (spelled_behind s roots additions p.tag t p.octets p.rest f left rest chosen (holds roots p.tag) refl p.level p.split p.spelled.1 p.placed e (subst (λ (z : State). IsEncoding (mode_of z.codec) z.levels f t) l enc) b)

  choice_read : (old : State) (v : A) (new : State) → ChoiceRead Ran roots additions extensible old v new → Reads tree IsValue old v new
  choice_read old v new k =
      let p = (promise k.chosen.tag k.chosen.lent (Ok v) k.after k.ran).read in
      let enc = picked_spelled old k.chosen (child v) p.taken k.after.input k.rest (chosen_picks old roots additions extensible k.chosen k.octets k.opened) p.split p.encoding k.closed in
      let input : new.input ≡ k.rest = ap (λ (z : State). z.input) k.left in
      record {
        taken = enc.0;
        split = enc.1 ∙ ap (λ (l : Octets). enc.0 ++ l) (sym input);
        encoding = subst (λ (t : Tree). IsEncoding (mode_of old.codec) old.levels enc.0 t) (ap (λ (g : Tag). Choice roots additions g (child v)) (sym p.value.1) ∙ sym (are.is v)) enc.2;
        value = p.value.0;
        only = λ w o i f.
            let (q, m, tag, ends) = lent_fronts old k.chosen k.opened w o i f in
            let one : q ≡ p.taken = p.only w q (i, tag) m in
            let left : m.rest ≡ k.after.input = append_cancel_left p.taken m.rest k.after.input (ap (λ (l : Octets). l ++ m.rest) (sym one) ∙ sym m.split ∙ p.split) in
            let same : f.rest ≡ k.rest = rest_same (behind_at old.codec k.chosen.behind m.rest) f.rest k.rest ends (ap (behind_at old.codec k.chosen.behind) left ∙ k.closed) in
            append_cancel_right o enc.0 k.rest (ap (λ (l : Octets). o ++ l) (sym same) ∙ sym f.split ∙ enc.1);
        rest = k.left ∙ ap (λ (l : Octets). record old { input = l }) (sym input);
      }

  choice_refused : (old : State) (e : DecodeError) → ChoiceRefused Ran roots additions extensible old e → (IsForMemory e → ⊥) → (w : A) (o : Octets) → IsValue w → Fronts old o (tree w) → ⊥
  choice_refused old e (NotChosen x c) m w o i f =
      let z = value_meets old w o i f in
      not_both (chosen_at old roots additions extensible) z.chosen e.kind z.opened x
  choice_refused old e (Stopped chosen after x ran) m w o i f =
      let (q, k, tag, ends) = lent_fronts old chosen x w o i f in
      (promise chosen.tag chosen.lent (Err e) after ran).none m w q (i, tag) k
  choice_refused old e (LeftOver chosen after v x ran y c) m w o i f =
      let (q, k, tag, ends) = lent_fronts old chosen x w o i f in
      let p = (promise chosen.tag chosen.lent (Ok v) after ran).read in
      let one : q ≡ p.taken = p.only w q (i, tag) k in
      let left : k.rest ≡ after.input = append_cancel_left p.taken k.rest after.input (ap (λ (l : Octets). l ++ k.rest) (sym one) ∙ sym k.split ∙ p.split) in
      not_both (behind_at old.codec chosen.behind after.input) f.rest e.kind (ap (behind_at old.codec chosen.behind) (sym left) ∙ ends) y

  choice_mode : (old : State) (e : DecodeError) → ChoiceRefused Ran roots additions extensible old e → e.codec ≡ old.codec
  choice_mode old e (NotChosen _ mode) = mode
  choice_mode old e (Stopped chosen after x ran) = (promise chosen.tag chosen.lent (Err e) after ran).mode ∙ chosen_mode old roots additions extensible chosen x
  choice_mode old e (LeftOver _ _ _ _ _ _ mode) = mode

  -- a choice whose closure reads its alternatives keeps the law of reading
  pub choice_law : (old : State) (result : Result A DecodeError) (new : State) → IfOk result (λ v. ChoiceRead Ran roots additions extensible old v new)
      → IfErr result (λ e. ChoiceRefused Ran roots additions extensible old e) → OnErr result (new ≡ old) → Decodes tree IsValue old result new
  choice_law old (Ok v) new k e u = record { read = choice_read old v new k; refused = tt }
  choice_law old (Err e) new k l u = record { read = tt; refused = record { same = u; mode = choice_mode old e l; none = choice_refused old e l } }

-- ---- what a choice does by what a weaker promise says of its closure
module _ {A : Type 0} (Ran Says : Tag → State → Result A DecodeError → State → Type 0) (says : (g : Tag) (s : State) (r : Result A DecodeError) (t : State) → Ran g s r t → Says g s r t) (roots additions : List Tag) (extensible : Bool) (old : State) where
  read_of : (v : A) (new : State) → ChoiceRead Ran roots additions extensible old v new → ChoiceRead Says roots additions extensible old v new
  read_of v new k = record { chosen = k.chosen; opened = k.opened; after = k.after; ran = says k.chosen.tag k.chosen.lent (Ok v) k.after k.ran; rest = k.rest; closed = k.closed; left = k.left; octets = k.octets }

  refused_of : (e : DecodeError) → ChoiceRefused Ran roots additions extensible old e → ChoiceRefused Says roots additions extensible old e
  refused_of e (NotChosen x c) = NotChosen x c
  refused_of e (Stopped chosen after x ran) = Stopped chosen after x (says chosen.tag chosen.lent (Err e) after ran)
  refused_of e (LeftOver chosen after v x ran y c) = LeftOver chosen after v x (says chosen.tag chosen.lent (Ok v) after ran) y c

  pub choice_answers : (result : Result A DecodeError) (new : State) → IfOk result (λ v. ChoiceRead Ran roots additions extensible old v new) → IfErr result (λ e. ChoiceRefused Ran roots additions extensible old e) → ChoiceAnswers Says roots additions extensible old result new
  choice_answers (Ok v) new k e = record { read = read_of v new k; refused = tt }
  choice_answers (Err x) new k e = record { read = tt; refused = refused_of x e }

-- what is lent, by the steps before the alternative
pub chosen_by : (s : State) (roots additions : List Tag) (extensible : Bool) (levels : ℕ) (tag : Tag) (rest : Octets) (is_root : Bool) (r : Result Chosen DecodeErrorKind) → level_at s.levels ≡ Ok levels → tag_at s.codec s.input ≡ Ok (tag, rest) → place_at roots additions extensible tag ≡ Ok is_root → alternative_at s levels tag rest is_root ≡ r → chosen_at s roots additions extensible ≡ r
unfolding chosen_at
chosen_by s roots additions extensible levels tag rest is_root r l t p a = rw (l, t, p) a
