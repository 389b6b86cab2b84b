-- The elements of an unordered list, one after the other, and the tree of the whole.
use Rattle.std.proofs.Common.{◌≡◌, ℕ, suc, ◌+◌, ◌^◌, ◌<◌, false, cond, List, [], ◌∷◌, ◌++◌, length, take, drop, get_or, map, refl, ap, ap₂, sym, ◌∙◌, arith, ◌⊎◌, inl, inr}
use Rattle.std.proofs.lemmas.List.{take_more}
use Rattle.asn1_core.specs.Octets.{Octets, joined}
use Rattle.asn1_core.specs.declared.codec.Codec.TheVariants.{Coer}
use Rattle.asn1_core.specs.declared.error.EncodeError.{EncodeError}
use Rattle.asn1_core.specs.declared.error.EncodeErrorKind.TheVariants.{OutOfMemory}
use Rattle.oer_spec.specs.Encoding.{IsEncodable, canonical_octets, canonical_elements, empties, fails, trees_fail}
use Rattle.oer_spec.specs.Failures.{Fails}
use Rattle.oer_spec.specs.Leaves.{Failure}
use Rattle.oer_spec.specs.Lengths.{quantity_octets}
use Rattle.oer_spec.specs.Orders.{Stands, Reorders}
use Rattle.oer_spec.specs.Places.{sorted, list_octets}
use Rattle.oer_spec.specs.Spelled.{EachValue, trees_of, list_of}
use Rattle.oer_spec.specs.Tree.{Tree, ListOf}
use Rattle.oer_spec.proofs.Lists.{Reorders-length}
use Rattle.oer_spec.proofs.Sorted.{sorted_mixed}
use Rattle.oer_write.specs.Lists.{is_nil, IsByFirst}
use Rattle.oer_write.specs.Scopes.{Runs}
use Rattle.oer_write.specs.Unordered.{Gathered, OneMore, OneRefused, IsSameInAnyWalk}
use Rattle.oer_write.specs.Written.{Written, append, Encodes}
use Rattle.oer_write.proofs.Elements.{cut_at, nil_of, by_first, empties_push, list_encodable}
use Rattle.oer_write.proofs.Items.{or_false}

each_push : {E : Type 0} (P : E → Type 0) (xs : List E) (x : E) → EachValue P xs → P x → EachValue P (xs ++ x ∷ [])
each_push P [] x h i = (i, tt)
each_push P (y ∷ xs) x h i = (h.0, each_push P xs x h.1 i)

module _ {E : Type 0} (tree : E → Tree) where
  abbrev octets_at : E → Octets
  octets_at x = canonical_octets (tree x)

  abbrev no_runs : E → Runs
  no_runs x e r e' = ⊥

  elements_are : (xs : List E) → canonical_elements (trees_of tree xs) ≡ map octets_at xs
  unfolding canonical_octets
  elements_are [] = refl
  elements_are (x ∷ xs) = ap (λ (os : List Octets). octets_at x ∷ os) (elements_are xs)

  map_push : (xs : List E) (x : E) → map octets_at (xs ++ x ∷ []) ≡ map octets_at xs ++ octets_at x ∷ []
  map_push [] x = refl
  map_push (y ∷ xs) x = ap (λ (os : List Octets). octets_at y ∷ os) (map_push xs x)

  pub gathered_more : (IsValue : E → Type 0) (xs : List E) (i : ℕ) (x : E) (contents newer : List Octets) (count next : ℕ) → i < length xs → x ≡ get_or xs i x → Gathered tree IsValue (take i xs) contents count → OneMore tree IsValue x contents newer count next → Gathered tree IsValue (take (i + 1) xs) newer next
  gathered_more IsValue xs i x contents newer count next short there h w =
      rw (take_more xs i x short, ← there)
      (record {
        octets = w.octets ∙ ap (λ (os : List Octets). os ++ octets_at x ∷ []) h.octets ∙ sym (map_push (take i xs) x);
        encodable = each_push (λ y. IsEncodable (tree y)) (take i xs) x h.encodable w.encodable;
        values = each_push IsValue (take i xs) x h.values w.value;
        counted = w.counted ∙ ap (λ (n : ℕ). n + cond (is_nil (octets_at x)) 1 0) h.counted ∙ sym (empties_push contents (octets_at x)) ∙ ap (λ (os : List Octets). empties os) (sym w.octets);
        few = w.few;
      })

  -- one more element is refused: it is the first
  pub gathered_first : (IsValue : E → Type 0) (xs : List E) (i : ℕ) (x : E) (contents : List Octets) (count : ℕ) (e : EncodeError) → i < length xs → x ≡ get_or xs i x → Gathered tree IsValue (take i xs) contents count → OneRefused (tree x) count e.kind → e.codec ≡ Coer → IsByFirst tree xs e
  gathered_first IsValue xs i x contents count e short there h (inl m) mode = inl (m, mode)
  gathered_first IsValue xs i x contents count e short there h (inr r) mode =
      let same : contents ≡ canonical_elements (trees_of tree (take i xs)) = h.octets ∙ sym (elements_are (take i xs)) in
      let counted : count ≡ empties (canonical_elements (trees_of tree (take i xs))) = h.counted ∙ ap (λ (os : List Octets). empties os) same in
      inr (record {
        front = take i xs;
        element = x;
        more = drop (i + 1) xs;
        split = cut_at xs i x short there;
        encodable = h.encodable;
        few = let f = h.few in omega (arith, counted, f);
        reason = elim r [
          | inl f ↦ inl f
          | inr m ↦ inr (m.0, m.1, nil_of (canonical_octets (tree x)) m.2, sym counted ∙ m.3)
        ];
      })

  pub gathered_broken : (xs : List E) (e : EncodeError) → IsByFirst tree xs e → (e.kind ≡ OutOfMemory) ⊎ Fails (list_of false tree xs) e.kind
  unfolding list_of
  gathered_broken xs e h = by_first no_runs tree false xs e h

  none_fails : (xs : List E) → EachValue (λ x. IsEncodable (tree x)) xs → (k : Failure) → trees_fail (trees_of tree xs) k ≡ false
  unfolding fails
  none_fails [] h k = refl
  none_fails (x ∷ xs) h k = or_false _ _ (h.0 k) (none_fails xs h.1 k)

  unordered_octets : (xs : List E) (own : List Octets) → own ≡ canonical_elements (trees_of tree xs) → quantity_octets (length own) ++ joined (sorted own) ≡ canonical_octets (ListOf false (trees_of tree xs))
  unfolding canonical_octets
  unordered_octets xs own same = ap (λ (o : List Octets). list_octets false o) same

  map_length : (xs : List E) → length (map octets_at xs) ≡ length xs
  map_length [] = refl
  map_length (x ∷ xs) = ap (λ (n : ℕ). suc n) (map_length xs)

  -- the elements' octets in ascending order: the unordered list is written
  pub unordered_done : (IsValue : E → Type 0) (xs : List E) (own : List Octets) (count : ℕ) (old new : Written) → length xs < 2 ^ 64 → Gathered tree IsValue xs own count → new ≡ append (quantity_octets (length xs) ++ joined (sorted own)) old → Encodes (list_of false tree xs) old new
  unfolding list_of
  unordered_done IsValue xs own count old new short h e =
      let same : own ≡ canonical_elements (trees_of tree xs) = h.octets ∙ sym (elements_are xs) in
      let count_is : length own ≡ length xs = ap (λ (os : List Octets). length os) h.octets ∙ map_length xs in
      let few : empties own < 65537 = let c = h.counted in let f = h.few in omega (arith, c, f) in
      record {
        encodable = list_encodable no_runs tree false xs own same (none_fails xs h.encodable) few (omega (arith, count_is, short));
        written = e ∙ ap (λ (n : ℕ). append (quantity_octets n ++ joined (sorted own)) old) (sym count_is) ∙ ap (λ (o : Octets). append o old) (unordered_octets xs own same);
      }

  map_stands : (ys : List E) (x : E) (rest : List E) → Stands ys x rest → Stands (map octets_at ys) (octets_at x) (map octets_at rest)
  map_stands [] x rest s = absurd s
  map_stands (y ∷ ys) x rest (inl e) = inl (ap octets_at e.0, ap (map octets_at) e.1)
  map_stands (y ∷ ys) x rest (inr (rs, e, s)) = inr (map octets_at rs, ap (map octets_at) e, map_stands ys x rs s)

  map_reorders : (xs ys : List E) → Reorders xs ys → Reorders (map octets_at xs) (map octets_at ys)
  map_reorders [] ys r = ap (map octets_at) r
  map_reorders (x ∷ xs) ys (rest, s, r) = (map octets_at rest, map_stands ys x rest s, map_reorders xs rest r)

  elements_octets : (xs : List E) → quantity_octets (length xs) ++ joined (sorted (map octets_at xs)) ≡ canonical_octets (list_of false tree xs)
  unfolding list_of
  elements_octets xs =
      ap (λ (n : ℕ). quantity_octets n ++ joined (sorted (map octets_at xs))) (sym (map_length xs)) ∙ unordered_octets xs (map octets_at xs) (sym (elements_are xs))

  pub any_walk : IsSameInAnyWalk tree
  any_walk xs ys r =
      sym (elements_octets ys)
      ∙ ap₂ (λ (n : ℕ) (os : List Octets). quantity_octets n ++ joined os) (sym (Reorders-length xs ys r)) (sym (sorted_mixed (map octets_at xs) (map octets_at ys) (map_reorders xs ys r)))
      ∙ elements_octets xs
