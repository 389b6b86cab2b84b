-- Tags that no other row has.
use Rattle.std.proofs.Common.{◌≡◌, ◌≢◌, ℕ, ◌+◌, ◌<◌, ◌≤◌, ◌⊎◌, inl, inr, Bool, true, false, cond, Option, Some, None, is_some, count_by, refl, List, [], ◌∷◌, ◌++◌, length, take, get_or, Contains, sym, subst, ◌∙◌, ap, arith, length-take}
use Rattle.std.proofs.lemmas.Grind.{common_steps}
use Rattle.std.proofs.lemmas.List.{take_more}
use Rattle.std.proofs.lemmas.List.Elements.{All-cons, All-filter, All-more, All-nil, All-weaker}
use Rattle.std.proofs.lemmas.List.Kept.{AllPairs-cons, AllPairs-filter}
use Rattle.std.proofs.lemmas.List.Quantifiers.{all_pairs_push}
use Rattle.std.proofs.lemmas.List.Sums.{sum_by-cons}
use Rattle.std.specs.List.{All, AllPairs, filter}
use Rattle.asn1_core.specs.declared.tag.Class.TheVariants.{Context}
use Rattle.asn1_core.specs.declared.tag.Tag.{Tag}
use Rattle.oergen_parse.specs.declared.ast.Body.{Body}
use Rattle.oergen_parse.specs.declared.ast.Body.TheVariants.{Choice', Set'}
use Rattle.oergen_layouts.specs.Rows.{HaveOwnTags, HaveTagsFor}
use Rattle.oergen_layouts.specs.Tags.{automatic_tags, is_root, tags_from, with_tag}
use Rattle.oergen_layouts.specs.declared.rows.Row.{Row}

-- a row with a context-specific tag, of two ranges of numbers
record IsNumbered (low high from : ℕ) (row : Row) : Type 0 where
  number : ℕ
  is : row.tag ≡ Some (record { class = Context; value = number })
  stands : ((low ≤ number) × (number < high)) ⊎ (from ≤ number)

value_of : Option Tag → ℕ
value_of None = 0
value_of (Some tag) = tag.value

Differ : Row → Row → Type 0
Differ a b = a.tag ≢ b.tag

differ : (a b : Row) (n m : ℕ) → a.tag ≡ Some (record { class = Context; value = n }) → b.tag ≡ Some (record { class = Context; value = m }) → (n ≡ m → ⊥) → Differ a b
unfolding Differ value_of
differ a b n m one other apart = λ e. apart (ap value_of (sym one ∙ (e ∙ other)))

roots_more : (row : Row) (rows : List Row) (b : Bool) → is_root row ≡ b → count_by is_root (row ∷ rows) ≡ cond b 1 0 + count_by is_root rows
roots_more row rows b e = let f : Row → ℕ = λ it. cond (is_root it) 1 0 in sum_by-cons f row rows ∙ ap (λ (it : Bool). cond it 1 0 + count_by is_root rows) e

numbered : (r a : ℕ) (rows : List Row) → r + count_by is_root rows ≤ a → All (IsNumbered r (r + count_by is_root rows) a) (tags_from r a rows)
numbered r a [] h = All-nil (IsNumbered r (r + count_by is_root []) a)
numbered r a (row ∷ rows) h =
    let P : Row → Type 0 = IsNumbered r (r + count_by is_root (row ∷ rows)) a in
    elim (is_root row) as (λ b. is_root row ≡ b → All P (cond b (with_tag row r ∷ tags_from (r + 1) a rows) (with_tag row a ∷ tags_from r (a + 1) rows))) [
      | true ↦ λ e.
          let n : count_by is_root (row ∷ rows) ≡ 1 + count_by is_root rows = roots_more row rows true e in
          let Q : Row → Type 0 = IsNumbered (r + 1) (r + 1 + count_by is_root rows) a in
          let wider : (it : Row) → Q it → P it = λ it q. record { number = q.number; is = q.is; stands = grind (arith, n, q.stands) } in
          All-cons P (with_tag row r) (tags_from (r + 1) a rows) (record { number = r; is = refl; stands = inl (omega arith, omega (arith, n)) })
          (All-weaker Q P wider (tags_from (r + 1) a rows) (numbered (r + 1) a rows (omega (arith, n, h))))
      | false ↦ λ e.
          let n : count_by is_root (row ∷ rows) ≡ 0 + count_by is_root rows = roots_more row rows false e in
          let Q : Row → Type 0 = IsNumbered r (r + count_by is_root rows) (a + 1) in
          let wider : (it : Row) → Q it → P it = λ it q. record { number = q.number; is = q.is; stands = grind (arith, n, q.stands) } in
          All-cons P (with_tag row a) (tags_from r (a + 1) rows) (record { number = a; is = refl; stands = inr (omega arith) })
          (All-weaker Q P wider (tags_from r (a + 1) rows) (numbered r (a + 1) rows (omega (arith, n, h))))
    ] refl

own_from : (r a : ℕ) (rows : List Row) → r + count_by is_root rows ≤ a → AllPairs Differ (tags_from r a rows)
own_from r a [] h = λ i j d below within. absurd (omega (arith, within))
own_from r a (row ∷ rows) h =
    elim (is_root row) as (λ b. is_root row ≡ b → AllPairs Differ (cond b (with_tag row r ∷ tags_from (r + 1) a rows) (with_tag row a ∷ tags_from r (a + 1) rows))) [
      | true ↦ λ e.
          let n : count_by is_root (row ∷ rows) ≡ 1 + count_by is_root rows = roots_more row rows true e in
          let small : r + 1 + count_by is_root rows ≤ a = omega (arith, n, h) in
          let Q : Row → Type 0 = IsNumbered (r + 1) (r + 1 + count_by is_root rows) a in
          let apart : (it : Row) → Q it → Differ (with_tag row r) it = λ it q. differ (with_tag row r) it r q.number refl q.is (λ same. grind (arith, q.stands, same, small)) in
          AllPairs-cons Differ (with_tag row r) (tags_from (r + 1) a rows) (All-weaker Q (Differ (with_tag row r)) apart (tags_from (r + 1) a rows) (numbered (r + 1) a rows small)) (own_from (r + 1) a rows small)
      | false ↦ λ e.
          let n : count_by is_root (row ∷ rows) ≡ 0 + count_by is_root rows = roots_more row rows false e in
          let small : r + count_by is_root rows ≤ a + 1 = omega (arith, n, h) in
          let Q : Row → Type 0 = IsNumbered r (r + count_by is_root rows) (a + 1) in
          let apart : (it : Row) → Q it → Differ (with_tag row a) it = λ it q. differ (with_tag row a) it a q.number refl q.is (λ same. grind (arith, q.stands, same, n, h)) in
          AllPairs-cons Differ (with_tag row a) (tags_from r (a + 1) rows) (All-weaker Q (Differ (with_tag row a)) apart (tags_from r (a + 1) rows) (numbered r (a + 1) rows small)) (own_from r (a + 1) rows small)
    ] refl

automatic_own : (rows : List Row) → HaveOwnTags (automatic_tags rows)
unfolding Differ
automatic_own rows =
    let count = count_by is_root rows in
    let P : Row → Type 0 = IsNumbered 0 (0 + count) count in
    let has : (it : Row) → P it → is_some it.tag ≡ true = λ it p. ap is_some p.is in
    record {
      each_has = All-weaker P (λ it. is_some it.tag ≡ true) has (automatic_tags rows) (numbered 0 count rows (omega arith));
      are_own = own_from 0 count rows (omega arith);
    }

roots_own : (rows : List Row) → HaveOwnTags rows → HaveOwnTags (filter is_root rows)
roots_own rows own = record {
  each_has = All-filter is_root (λ it. is_some it.tag ≡ true) rows own.each_has;
  are_own = AllPairs-filter (λ (a b : Row). a.tag ≢ b.tag) is_root rows own.are_own;
}

own_for : (body : Body) (rows : List Row) → HaveOwnTags rows → HaveTagsFor body rows
own_for (Choice' _ _) rows own = own
own_for (Set' _ _) rows own = roots_own rows own
own_for _ rows own = tt

pub automatic_tagged : (rows : List Row) → rows ≡ automatic_tags rows → All (λ row. is_some row.tag ≡ true) rows
automatic_tagged rows e = let own = subst HaveOwnTags (sym e) (automatic_own rows) in own.each_has

-- those of AUTOMATIC TAGS are
pub automatic_for : (body : Body) (rows : List Row) → rows ≡ automatic_tags rows → HaveTagsFor body rows
automatic_for body rows e = own_for body rows (subst HaveOwnTags (sym e) (automatic_own rows))

pub own_more : (rows : List Row) (at : ℕ) (row : Row) → at < length rows → row ≡ get_or rows at row → HaveOwnTags (take at rows) → is_some row.tag ≡ true
    → All (λ (it : Row). it.tag ≢ row.tag) (take at rows) → HaveOwnTags (take (at + 1) rows)
own_more rows at row below is own has differ = record {
  each_has = All-more (λ it. is_some it.tag ≡ true) rows at row below own.each_has (subst (λ (it : Row). is_some it.tag ≡ true) is has);
  are_own =
      let R : Row → Row → Type 0 = λ a b. a.tag ≢ b.tag in
      let more = all_pairs_push R (take at rows) row own.are_own differ in
      subst (λ (it : Row). AllPairs R (take at rows ++ it ∷ []) → AllPairs R (take (at + 1) rows)) (sym is) (λ h. subst (AllPairs R) (sym (take_more rows at row below)) h) more;
}

pub not_own : (rows : List Row) (at : ℕ) (row other : Row) → at < length rows → row ≡ get_or rows at row → Contains (take at rows) other → other.tag ≡ row.tag → HaveOwnTags rows → ⊥
not_own rows at row other below is held same own =
    let k = held.0 in
    let before : k < at = omega (arith, held.1, length-take at rows) in
    let there : get_or rows k other ≡ other = grind (arith, common_steps, held.2) in
    let here : get_or rows at other ≡ get_or rows at row = grind (arith, common_steps) in
    own.are_own k at other before below (ap (λ (it : Row). it.tag) there ∙ (same ∙ (ap (λ (it : Row). it.tag) is ∙ sym (ap (λ (it : Row). it.tag) here))))
