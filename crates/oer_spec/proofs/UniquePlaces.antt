-- No octets of a node's parts begin others: rows, additions, lists, alternatives.
use Rattle.std.proofs.Common.{◌≡◌, suc, ◌+◌, Bool, true, false, cond, List, [], ◌∷◌, ◌++◌, length, drop, refl, sym, ap, ap₂, ◌∙◌, subst, length-append}
use Rattle.std.specs.List.{AllByRecursion}
use Rattle.asn1_core.specs.Octets.{Octets}
use Rattle.asn1_core.specs.Tags.{tag_le, holds}
use Rattle.asn1_core.specs.declared.tag.Tag.{Tag}
use Rattle.oer_spec.specs.Mode.{Mode}
use Rattle.oer_spec.specs.Places.{Item, put_by_tag, by_tag, in_writing_order, presence, bodies, extension_bit, IsPreamble, AreSkipped, IsAddition, AreAdditions, IsExtension, SpellsStruct, IsAlternative, SpellsChoice}
use Rattle.oer_spec.proofs.Lists.{head_same, tail_same, split_same, regroup, Pairwise}
use Rattle.oer_spec.proofs.Unique.{cancel, behind_unique, open_unique, bitmap_unique, packed_unique, tag_unique}

-- octets of which neither goes on where the other ends
abbrev pub Rivals : Octets → Octets → Type 0
Rivals o p = (x y : Octets) → o ++ x ≡ p ++ y → o ≡ p

-- items of one row: where the bits agree, the octets are rivals
pub record Twins (i j : Item) : Type 0 where
  pub tags : i.tag ≡ j.tag
  pub marks : i.marked ≡ j.marked
  pub set : i.marked ≡ false → i.bit ≡ j.bit
  pub unset : i.bit ≡ false → j.bit ≡ false → i.octets ≡ j.octets
  pub rivals : i.bit ≡ j.bit → Rivals i.octets j.octets

pub item_same : (i j : Item) → i.tag ≡ j.tag → i.marked ≡ j.marked → i.bit ≡ j.bit → i.octets ≡ j.octets → i ≡ j
item_same i j a b c d = λ z. record { tag = a z; marked = b z; bit = c z; octets = d z }

-- ---- tag order
abbrev pub SameTags : List Item → List Item → Type 0
SameTags = Pairwise (λ i j. i.tag ≡ j.tag)

tag_le_same : (i j i' j' : Item) → i.tag ≡ j.tag → i'.tag ≡ j'.tag → tag_le i.tag i'.tag ≡ tag_le j.tag j'.tag
tag_le_same i j i' j' e f = ap₂ tag_le e f

put_pairwise : (R : Item → Item → Type 0) → ((i j : Item) → R i j → i.tag ≡ j.tag) → (i j : Item) (is js : List Item) → R i j → Pairwise R is js → Pairwise R (put_by_tag i is) (put_by_tag j js)
put_pairwise R t i j [] [] r rs = (r, tt)
put_pairwise R t i j (a ∷ is) (b ∷ js) r (q, rs) =
    go (tag_le i.tag a.tag) (tag_le j.tag b.tag) (tag_le_same i j a b (t i j r) (t a b q)) (put_pairwise R t i j is js r rs)
  where
    go : (s s' : Bool) → s ≡ s' → Pairwise R (put_by_tag i is) (put_by_tag j js) → Pairwise R (cond s (i ∷ a ∷ is) (a ∷ put_by_tag i is)) (cond s' (j ∷ b ∷ js) (b ∷ put_by_tag j js))
    go true true e ih = (r, (q, rs))
    go false false e ih = (q, ih)
    go true false e ih = absurd (cc e)
    go false true e ih = absurd (cc e)
put_pairwise R t i j [] (b ∷ js) r rs = absurd rs
put_pairwise R t i j (a ∷ is) [] r rs = absurd rs

by_tag_pairwise : (R : Item → Item → Type 0) → ((i j : Item) → R i j → i.tag ≡ j.tag) → (is js : List Item) → Pairwise R is js → Pairwise R (by_tag is) (by_tag js)
by_tag_pairwise R t [] [] r = tt
by_tag_pairwise R t (i ∷ is) (j ∷ js) (r, rs) = put_pairwise R t i j (by_tag is) (by_tag js) r (by_tag_pairwise R t is js rs)
by_tag_pairwise R t [] (j ∷ js) r = absurd r
by_tag_pairwise R t (i ∷ is) [] r = absurd r

put_same : (i j : Item) (is js : List Item) → i.tag ≡ j.tag → SameTags is js → put_by_tag i is ≡ put_by_tag j js → (i ≡ j) × (is ≡ js)
put_same i j [] [] t r e = (head_same i j [] [] e, refl)
put_same i j (a ∷ is) (b ∷ js) t (q, rs) e =
    go (tag_le i.tag a.tag) (tag_le j.tag b.tag) (tag_le_same i j a b t q) (put_same i j is js t rs) e
  where
    go : (s s' : Bool) → s ≡ s' → (put_by_tag i is ≡ put_by_tag j js → (i ≡ j) × (is ≡ js)) → cond s (i ∷ a ∷ is) (a ∷ put_by_tag i is) ≡ cond s' (j ∷ b ∷ js) (b ∷ put_by_tag j js) → (i ≡ j) × (a ∷ is ≡ b ∷ js)
    go true true c ih e' = (head_same i j (a ∷ is) (b ∷ js) e', tail_same i j (a ∷ is) (b ∷ js) e')
    go false false c ih e' =
        let r : (i ≡ j) × (is ≡ js) = ih (tail_same a b (put_by_tag i is) (put_by_tag j js) e') in
        (r.0, ap₂ ◌∷◌ (head_same a b (put_by_tag i is) (put_by_tag j js) e') r.1)
    go true false c ih e' = absurd (cc c)
    go false true c ih e' = absurd (cc c)
put_same i j [] (b ∷ js) t r e = absurd r
put_same i j (a ∷ is) [] t r e = absurd r

by_tag_same : (is js : List Item) → SameTags is js → by_tag is ≡ by_tag js → is ≡ js
by_tag_same [] [] r e = refl
by_tag_same (i ∷ is) (j ∷ js) (t, r) e =
    let q : (i ≡ j) × (by_tag is ≡ by_tag js) = put_same i j (by_tag is) (by_tag js) t (by_tag_pairwise (λ a b. a.tag ≡ b.tag) (λ a b h. h) is js r) e in
    ap₂ ◌∷◌ q.0 (by_tag_same is js r q.1)
by_tag_same [] (j ∷ js) r e = absurd r
by_tag_same (i ∷ is) [] r e = absurd r

order_pairwise : (set : Bool) (R : Item → Item → Type 0) → ((i j : Item) → R i j → i.tag ≡ j.tag) → (is js : List Item) → Pairwise R is js → Pairwise R (in_writing_order set is) (in_writing_order set js)
order_pairwise true R t is js r = by_tag_pairwise R t is js r
order_pairwise false R t is js r = r

order_same : (set : Bool) (is js : List Item) → SameTags is js → in_writing_order set is ≡ in_writing_order set js → is ≡ js
order_same true is js r e = by_tag_same is js r e
order_same false is js r e = e

same_tags : (is js : List Item) → Pairwise Twins is js → SameTags is js
same_tags [] [] r = tt
same_tags (i ∷ is) (j ∷ js) (t, r) = (t.tags, same_tags is js r)
same_tags [] (j ∷ js) r = absurd r
same_tags (i ∷ is) [] r = absurd r

-- ---- root rows
presence_step : (a b u v : Bool) (us vs : List Bool) → a ≡ b → (a ≡ false → u ≡ v) → cond a (u ∷ us) us ≡ cond b (v ∷ vs) vs → (u ≡ v) × (us ≡ vs)
presence_step true true u v us vs c n e = (head_same u v us vs e, tail_same u v us vs e)
presence_step false false u v us vs c n e = (n refl, e)
presence_step true false u v us vs c n e = absurd (cc c)
presence_step false true u v us vs c n e = absurd (cc c)

presence_length : (is js : List Item) → Pairwise Twins is js → length (presence is) ≡ length (presence js)
presence_length [] [] r = refl
presence_length (i ∷ is) (j ∷ js) (t, r) = go i.marked j.marked t.marks (presence_length is js r)
  where
    go : (a b : Bool) → a ≡ b → length (presence is) ≡ length (presence js) → length (cond a (i.bit ∷ presence is) (presence is)) ≡ length (cond b (j.bit ∷ presence js) (presence js))
    go true true c ih = ap suc ih
    go false false c ih = ih
    go true false c ih = absurd (cc c)
    go false true c ih = absurd (cc c)
presence_length [] (j ∷ js) r = absurd r
presence_length (i ∷ is) [] r = absurd r

bodies_unique : (is js : List Item) (x y : Octets) → Pairwise Twins is js → presence is ≡ presence js → bodies is ++ x ≡ bodies js ++ y → is ≡ js
bodies_unique [] [] x y r p e = refl
bodies_unique (i ∷ is) (j ∷ js) x y (t, r) p e =
    let b : (i.bit ≡ j.bit) × (presence is ≡ presence js) = presence_step i.marked j.marked i.bit j.bit (presence is) (presence js) t.marks t.set p in
    let e' : i.octets ++ (bodies is ++ x) ≡ j.octets ++ (bodies js ++ y) = regroup (i.octets ++ bodies is) (j.octets ++ bodies js) i.octets j.octets (bodies is) (bodies js) x y refl refl e in
    let o : i.octets ≡ j.octets = t.rivals b.0 (bodies is ++ x) (bodies js ++ y) e' in
    ap₂ ◌∷◌ (item_same i j t.tags t.marks b.0 o) (bodies_unique is js x y r b.1 (cancel i.octets j.octets (bodies is ++ x) (bodies js ++ y) o e'))
bodies_unique [] (j ∷ js) x y r p e = absurd r
bodies_unique (i ∷ is) [] x y r p e = absurd r

-- ---- additions
skips_unique : (m : Mode) (b : List Bool) (o p x y : Octets) → AreSkipped m b o → AreSkipped m b p → o ++ x ≡ p ++ y → o ≡ p
skips_unique m [] o p x y f g e = f ∙ sym g
skips_unique m (false ∷ b) o p x y f g e = skips_unique m b o p x y f g e
skips_unique m (true ∷ b) o p x y (q, r, c, f, h, k) (q', r', c', f', h', k') e =
    let e' : q ++ (r ++ x) ≡ q' ++ (r' ++ y) = regroup o p q q' r r' x y f f' e in
    let s : (q ≡ q') × (c ≡ c') = behind_unique m q q' c c' (r ++ x) (r' ++ y) h h' e' in
    f ∙ ap₂ ◌++◌ s.0 (skips_unique m b r r' x y k k' (cancel q q' (r ++ x) (r' ++ y) s.0 e')) ∙ sym f'

addition_unique : (m : Mode) (bit : Bool) (f g o p r s x y : Octets) → (bit ≡ false → f ≡ g) → Rivals f g → IsAddition m bit f o r → IsAddition m bit g p s → o ++ x ≡ p ++ y
    → (f ≡ g) × (r ++ x ≡ s ++ y) × (r ≡ s → o ≡ p)
addition_unique m false f g o p r s x y n v a b e = (n refl, ap (λ z. z ++ x) (sym a) ∙ e ∙ ap (λ z. z ++ y) b, λ q. a ∙ q ∙ sym b)
addition_unique m true f g o p r s x y n v (h, a, c) (h', a', c') e =
    let e' : h ++ (r ++ x) ≡ h' ++ (s ++ y) = regroup o p h h' r s x y a a' e in
    let (same, (u, w, k)) = open_unique m h h' f g (r ++ x) (s ++ y) c c' e' in
    (v u w k, cancel h h' (r ++ x) (s ++ y) same e', λ q. a ∙ ap₂ ◌++◌ same q ∙ sym a')

additions_unique : (m : Mode) (b : List Bool) (is js : List Item) (o p x y : Octets) → Pairwise Twins is js → AreAdditions m b o is → AreAdditions m b p js → o ++ x ≡ p ++ y → (o ≡ p) × (is ≡ js)
additions_unique m b [] [] o p x y t f g e = (skips_unique m b o p x y f g e, refl)
additions_unique m b (i ∷ is) (j ∷ js) o p x y (t, ts) (bi, r, a, more) (bj, s, c, more') e =
    let bits : i.bit ≡ j.bit = sym bi ∙ bj in
    let c' : IsAddition m i.bit j.octets p s = subst (λ z. IsAddition m z j.octets p s) (sym bits) c in
    let u = addition_unique m i.bit i.octets j.octets o p r s x y (λ n. t.unset n (sym bits ∙ n)) (t.rivals bits) a c' e in
    let v : (r ≡ s) × (is ≡ js) = additions_unique m (drop 1 b) is js r s x y ts more more' u.1 in
    (u.2 v.0, ap₂ ◌∷◌ (item_same i j t.tags t.marks bits u.0) v.1)
additions_unique m b [] (j ∷ js) o p x y t f g e = absurd t
additions_unique m b (i ∷ is) [] o p x y t f g e = absurd t

unset_same : (is js : List Item) → Pairwise Twins is js → AllByRecursion (λ i. i.bit ≡ false) is → AllByRecursion (λ i. i.bit ≡ false) js → is ≡ js
unset_same [] [] t f g = refl
unset_same (i ∷ is) (j ∷ js) (t, ts) (f, fs) (g, gs) = ap₂ ◌∷◌ (item_same i j t.tags t.marks (f ∙ sym g) (t.unset f g)) (unset_same is js ts fs gs)
unset_same [] (j ∷ js) t f g = absurd t
unset_same (i ∷ is) [] t f g = absurd t

tail_unique : (m : Mode) (ext : Bool) (is js : List Item) (o p x y : Octets) → Pairwise Twins is js → IsExtension m ext o is → IsExtension m ext p js → o ++ x ≡ p ++ y → (o ≡ p) × (is ≡ js)
tail_unique m false is js o p x y t (f, fs) (g, gs) e = (f ∙ sym g, unset_same is js t fs gs)
tail_unique m true is js o p x y t (q, r, b, f, bm, a, _) (q', r', b', f', bm', a', _) e =
    let e' : q ++ (r ++ x) ≡ q' ++ (r' ++ y) = regroup o p q q' r r' x y f f' e in
    let s : (q ≡ q') × (b ≡ b') = bitmap_unique m q q' (r ++ x) (r' ++ y) b b' bm bm' e' in
    let v : (r ≡ r') × (is ≡ js) = additions_unique m b is js r r' x y t a (subst (λ z. AreAdditions m z r' js) (sym s.1) a') (cancel q q' (r ++ x) (r' ++ y) s.0 e') in
    (f ∙ ap₂ ◌++◌ s.0 v.0 ∙ sym f', v.1)

extension_bit_same : (extensible u v : Bool) → (u ≡ true → extensible ≡ true) → (v ≡ true → extensible ≡ true) → extension_bit extensible u ≡ extension_bit extensible v → u ≡ v
extension_bit_same true u v f g e = head_same u v [] [] e
extension_bit_same false false false f g e = refl
extension_bit_same false true v f g e = absurd (cc (f refl))
extension_bit_same false false true f g e = absurd (cc (g refl))

extension_bit_length : (extensible u v : Bool) → length (extension_bit extensible u) ≡ length (extension_bit extensible v)
extension_bit_length true u v = refl
extension_bit_length false u v = refl

preamble_unique : (o p x y : Octets) (b c : List Bool) → length b ≡ length c → IsPreamble o b → IsPreamble p c → o ++ x ≡ p ++ y → (o ≡ p) × (b ≡ c)
preamble_unique o p x y b c l (_, u, lu, f, _) (_, v, lv, g, _) e = packed_unique o p x y b c u v l lu lv f g e

pub struct_unique : (m : Mode) (set extensible : Bool) (is js is' js' : List Item) (o p x y : Octets) → Pairwise Twins is is' → Pairwise Twins js js'
    → SpellsStruct m o set extensible is js → SpellsStruct m p set extensible is' js' → o ++ x ≡ p ++ y → (o ≡ p) × (is ≡ is') × (js ≡ js')
struct_unique m set ext is js is' js' o p x y t ts f g e =
    let w : List Item = in_writing_order set is in
    let w' : List Item = in_writing_order set is' in
    let tw : Pairwise Twins w w' = order_pairwise set Twins (λ i j h. h.tags) is is' t in
    let n : length (extension_bit ext f.extended ++ presence w) ≡ length (extension_bit ext g.extended ++ presence w') =
    length-append (extension_bit ext f.extended) (presence w) ∙ ap₂ ◌+◌ (extension_bit_length ext f.extended g.extended) (presence_length w w' tw) ∙ sym (length-append (extension_bit ext g.extended) (presence w')) in
    let e₁ : f.preamble ++ ((bodies w ++ f.extension) ++ x) ≡ g.preamble ++ ((bodies w' ++ g.extension) ++ y) = regroup o p f.preamble g.preamble (bodies w ++ f.extension) (bodies w' ++ g.extension) x y f.whole g.whole e in
    let pre = preamble_unique f.preamble g.preamble ((bodies w ++ f.extension) ++ x) ((bodies w' ++ g.extension) ++ y) (extension_bit ext f.extended ++ presence w) (extension_bit ext g.extended ++ presence w') n f.bits g.bits e₁ in
    let b = split_same (extension_bit ext f.extended) (extension_bit ext g.extended) (presence w) (presence w') (extension_bit_length ext f.extended g.extended) pre.1 in
    let extended : f.extended ≡ g.extended = extension_bit_same ext f.extended g.extended f.only g.only b.0 in
    let e₂ : (bodies w ++ f.extension) ++ x ≡ (bodies w' ++ g.extension) ++ y = cancel f.preamble g.preamble ((bodies w ++ f.extension) ++ x) ((bodies w' ++ g.extension) ++ y) pre.0 e₁ in
    let e₃ : bodies w ++ (f.extension ++ x) ≡ bodies w' ++ (g.extension ++ y) = regroup (bodies w ++ f.extension) (bodies w' ++ g.extension) (bodies w) (bodies w') f.extension g.extension x y refl refl e₂ in
    let ww : w ≡ w' = bodies_unique w w' (f.extension ++ x) (g.extension ++ y) tw b.1 e₃ in
    let e₄ : f.extension ++ x ≡ g.extension ++ y = cancel (bodies w) (bodies w') (f.extension ++ x) (g.extension ++ y) (ap bodies ww) e₃ in
    let z = tail_unique m f.extended js js' f.extension g.extension x y ts f.rest (subst (λ q. IsExtension m q g.extension js') (sym extended) g.rest) e₄ in
    (f.whole ∙ ap₂ ◌++◌ pre.0 (ap₂ ◌++◌ (ap bodies ww) z.0) ∙ sym g.whole, order_same set is is' (same_tags is is' t) ww, z.1)

-- ---- alternatives
pub choice_unique : (m : Mode) (roots : List Tag) (g h : Tag) (a b o p x y : Octets) → (g ≡ h → Rivals a b) → SpellsChoice m o roots g a → SpellsChoice m p roots h b → o ++ x ≡ p ++ y → (o ≡ p) × (g ≡ h) × (a ≡ b)
choice_unique m roots g h a b o p x y v (q, r, f, t, alt) (q', r', f', t', alt') e =
    let e' : q ++ (r ++ x) ≡ q' ++ (r' ++ y) = regroup o p q q' r r' x y f f' e in
    let s : (q ≡ q') × (g ≡ h) = tag_unique m q q' (r ++ x) (r' ++ y) g h t t' e' in
    let alt'' : IsAlternative m (holds roots g) r' b = subst (λ z. IsAlternative m (holds roots z) r' b) (sym s.1) alt' in
    let z : (r ≡ r') × (a ≡ b) = go (holds roots g) alt alt'' (v s.1) (cancel q q' (r ++ x) (r' ++ y) s.0 e') in
    (f ∙ ap₂ ◌++◌ s.0 z.0 ∙ sym f', s.1, z.1)
  where
    go : (k : Bool) → IsAlternative m k r a → IsAlternative m k r' b → Rivals a b → r ++ x ≡ r' ++ y → (r ≡ r') × (a ≡ b)
    go true c d w e' = let q = w x y (ap (λ z. z ++ x) (sym c) ∙ e' ∙ ap (λ z. z ++ y) d) in (c ∙ q ∙ sym d, q)
    go false c d w e' = let (same, (u, z, k)) = open_unique m r r' a b x y c d e' in (same, w u z k)
