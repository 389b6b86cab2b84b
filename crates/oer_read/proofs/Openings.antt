-- What a scope reads before its closure and behind it.
use Rattle.std.proofs.Common.{◌≡◌, ℕ, ◌-◌, ◌≤◌, Bool, true, false, cond, Option, Some, None, Result, Ok, Err, List, [], ◌∷◌, ◌++◌, length, refl, sym, ap, ap₂, ◌∙◌, subst, arith, append_assoc, eqb}
use Rattle.std.proofs.lemmas.Bool.{eqb-false, eqb-true}
use Rattle.asn1_core.specs.Octets.{Octets, AreOctets}
use Rattle.asn1_core.specs.Rows.{Row}
use Rattle.asn1_core.specs.declared.error.DecodeErrorKind.{DecodeErrorKind}
use Rattle.asn1_core.specs.declared.error.DecodeErrorKind.TheVariants.{ExceedsMaxParseDepth}
use Rattle.asn1_core.specs.declared.codec.Codec.{Codec}
use Rattle.asn1_core.specs.declared.codec.Codec.TheVariants.{Oer, Coer}
use Rattle.oer_leaf_read.proofs.ReadPlaces.{preamble_reads, bitmap_reads, skipped_reads}
use Rattle.oer_spec.proofs.Steps.{bind_ok, then_ok, ok_is, pair_is, guard_ok, rear_octets}
use Rattle.oer_spec.specs.Mode.{mode_of, InOwnSized}
use Rattle.oer_spec.specs.Places.{Item, bodies, IsPreamble, AreSkipped}
use Rattle.oer_spec.specs.Reading.{◌>>=◌, ◌>>◌}
use Rattle.oer_spec.specs.ReadingBits.{preamble_at, bitmap_at, skipped_at}
use Rattle.oer_spec.specs.Tree.{NoRows}
use Rattle.oer_read.specs.Law.{IsRear}
use Rattle.oer_read.specs.Parts.{Comes, IsTail, asks_in, places_in}
use Rattle.oer_read.specs.Scopes.{level_at, bits_for, frame_behind, opened_at, closed_at, all_asked, tail_at, unknown_at}
use Rattle.oer_read.specs.State.{Ask, Place, State}

-- ---- the start

-- a preamble stands at the front, and a level is left
pub record Opens (s : State) (extensible : Bool) (roots additions : List Row) (lent : State) : Type 0 where
  pub level : 1 ≤ s.levels
  pub preamble : Octets
  pub bits : List Bool
  pub rest : Octets
  pub split : s.input ≡ preamble ++ rest
  pub spelled : IsPreamble preamble bits
  pub count : length bits ≡ bits_for extensible roots
  pub is : lent ≡ record { input = rest; codec = s.codec; levels = s.levels - 1; frame = frame_behind extensible roots additions bits }

pub level_ok : (n m : ℕ) → level_at n ≡ Ok m → (1 ≤ n) × (m ≡ n - 1)
level_ok n m e =
    let g = guard_ok (eqb n 0) ExceedsMaxParseDepth (Ok (n - 1)) m e in
    let ne : n ≡ 0 → ⊥ = eqb-false n 0 g.0 in
    (omega (arith, ne), sym (ok_is (n - 1) m g.1))

pub level_again : (n : ℕ) → 1 ≤ n → level_at n ≡ Ok (n - 1)
level_again n h = go (eqb n 0) refl
  where
    go : (b : Bool) → eqb n 0 ≡ b → cond b (Err ExceedsMaxParseDepth) (Ok (n - 1)) ≡ Ok (n - 1)
    go false e = refl
    go true e = absurd (let z : n ≡ 0 = eqb-true n 0 e in omega (arith, z))

pub opened_opens : (s : State) (extensible : Bool) (roots additions : List Row) (lent : State) → AreOctets s.input → opened_at s extensible roots additions ≡ Ok lent → Opens s extensible roots additions lent
unfolding opened_at
opened_opens s extensible roots additions lent fits e =
    let l = bind_ok (level_at s.levels) (λ (levels : ℕ). preamble_at (bits_for extensible roots) s.input >>= λ preamble. Ok (record { input = preamble.1; codec = s.codec; levels = levels; frame = frame_behind extensible roots additions preamble.0 })) lent e in
    let p = bind_ok (preamble_at (bits_for extensible roots) s.input) (λ preamble. Ok (record { input = preamble.1; codec = s.codec; levels = l.0; frame = frame_behind extensible roots additions preamble.0 })) lent l.2 in
    let f = (preamble_reads (bits_for extensible roots)).found s.input p.0.1 p.0.0 fits p.1 in
    let n = level_ok s.levels l.0 l.1 in
    record {
      level = n.0;
      preamble = f.0;
      bits = p.0.0;
      rest = p.0.1;
      split = f.1;
      spelled = f.2.0;
      count = f.2.1;
      is = sym (ok_is _ lent p.2) ∙ ap (λ (m : ℕ). record { input = p.0.1; codec = s.codec; levels = m; frame = frame_behind extensible roots additions p.0.0 }) n.1;
    }

-- the mode is lent on
pub opened_mode : (s : State) (extensible : Bool) (roots additions : List Row) (lent : State) → opened_at s extensible roots additions ≡ Ok lent → lent.codec ≡ s.codec
unfolding opened_at
opened_mode s extensible roots additions lent e =
    let l = bind_ok (level_at s.levels) (λ (levels : ℕ). preamble_at (bits_for extensible roots) s.input >>= λ preamble. Ok (record { input = preamble.1; codec = s.codec; levels = levels; frame = frame_behind extensible roots additions preamble.0 })) lent e in
    let p = bind_ok (preamble_at (bits_for extensible roots) s.input) (λ preamble. Ok (record { input = preamble.1; codec = s.codec; levels = l.0; frame = frame_behind extensible roots additions preamble.0 })) lent l.2 in
    ap (λ (t : State). t.codec) (sym (ok_is _ lent p.2))

pub opens_opened : (s : State) (extensible : Bool) (roots additions : List Row) (lent : State) → Opens s extensible roots additions lent → opened_at s extensible roots additions ≡ Ok lent
unfolding opened_at
opens_opened s extensible roots additions lent o =
    let again : preamble_at (bits_for extensible roots) s.input ≡ Ok (o.bits, o.rest) = ap (preamble_at (bits_for extensible roots)) o.split ∙ (preamble_reads (bits_for extensible roots)).again o.preamble o.rest o.bits (o.spelled, o.count) in
    rw (level_again s.levels o.level, again) (ap (λ (t : State). Ok t) (sym o.is))

-- ---- the end

none_left : (ks : List Ask) (ps : List Place) (x : Unit {0}) → all_asked ks ps ≡ Ok x → (ks ≡ []) × (ps ≡ [])
none_left [] [] x e = (refl, refl)
none_left [] (p ∷ ps) x e = absurd cc
none_left (k ∷ ks) ps x e = absurd cc

pub own_sized : (codec : Codec) (P : Type 0) → InOwnSized (mode_of codec) P
own_sized Oer P = tt
own_sized Coer P = tt

abbrev at_unit : Result Octets DecodeErrorKind → Result (Unit {0} × Octets) DecodeErrorKind
at_unit (Ok rest) = Ok (tt, rest)
at_unit (Err e) = Err e

at_rest : (r : Result Octets DecodeErrorKind) (rest : Octets) → at_unit r ≡ Ok (tt, rest) → r ≡ Ok rest
at_rest (Ok x) rest e = ap (λ (z : Octets). Ok z) (pair_is tt tt x rest e).1
at_rest (Err d) rest e = absurd cc

skipped_found : (codec : Codec) (b : List Bool) (input rest : Octets) → AreOctets input → skipped_at codec b input ≡ Ok rest → (o : Octets) × (input ≡ o ++ rest) × AreSkipped (mode_of codec) b o
skipped_found codec b input rest fits e = (skipped_reads codec b).found input rest tt fits (ap at_unit e)

skipped_again : (codec : Codec) (b : List Bool) (o rest : Octets) → AreSkipped (mode_of codec) b o → skipped_at codec b (o ++ rest) ≡ Ok rest
skipped_again codec b o rest h = at_rest (skipped_at codec b (o ++ rest)) rest ((skipped_reads codec b).again o rest tt h)

-- what is left behind a frame without rows
tail_found : (codec : Codec) (extended : Bool) (bitmap : Option (List Bool)) (input rest : Octets) → AreOctets input
    → tail_at codec extended bitmap input ≡ Ok rest
    → (o : Octets) × (input ≡ o ++ rest) × IsTail (mode_of codec) extended bitmap o []
tail_found codec extended (Some b) input rest fits e = skipped_found codec b input rest fits e
tail_found codec false None input rest fits e = ([], ok_is input rest e, (refl, tt))
tail_found codec true None input rest fits e =
    let b = bind_ok (bitmap_at codec input) (λ b. skipped_at codec b.0 b.1) rest e in
    let f = (bitmap_reads codec).found input b.0.1 b.0.0 fits b.1 in
    let k = skipped_found codec b.0.0 b.0.1 rest (rear_octets f.0 b.0.1 (subst AreOctets f.1 fits)) b.2 in
    (f.0 ++ k.0, f.1 ∙ ap (λ (l : Octets). f.0 ++ l) k.1 ∙ sym (append_assoc f.0 k.0 rest), (f.0, k.0, b.0.0, refl, f.2, k.2, own_sized codec _))

tail_again : (codec : Codec) (extended : Bool) (bitmap : Option (List Bool)) (o rest : Octets) → IsTail (mode_of codec) extended bitmap o []
    → tail_at codec extended bitmap (o ++ rest) ≡ Ok rest
tail_again codec extended (Some b) o rest t = skipped_again codec b o rest t
tail_again codec false None o rest t = ap (λ (l : Octets). Ok (l ++ rest)) t.0
tail_again codec true None o rest (q, r, b, e, f, k, _) =
    ap (λ (l : Octets). bitmap_at codec l >>= λ b. skipped_at codec b.0 b.1) (ap (λ (l : Octets). l ++ rest) e ∙ append_assoc q r rest)
    ∙ rw ((bitmap_reads codec).again q (r ++ rest) b f) (skipped_again codec b r rest k)

pub closed_comes : (t : State) (rest : Octets) → AreOctets t.input → closed_at t ≡ Ok rest → Comes t NoRows NoRows rest
unfolding closed_at Rattle.oer_spec.specs.Encoding.IsEncoding
closed_comes t rest fits e =
    let a = then_ok (all_asked t.frame.asks t.frame.additions) (unknown_at t) rest e in
    let n = none_left t.frame.asks t.frame.additions a.0 a.1 in
    let f = tail_found t.codec t.frame.extended t.frame.bitmap t.input rest fits a.2 in
    record {
      roots = [];
      additions = [];
      extension = f.0;
      split = f.1;
      are_roots = refl;
      are_additions = refl;
      asked = sym n.0;
      placed = sym n.1;
      only = λ e. refl;
      tail = f.2;
    }

pub comes_closed : (t : State) (rest : Octets) → Comes t NoRows NoRows rest → closed_at t ≡ Ok rest
unfolding closed_at Rattle.oer_spec.specs.Encoding.IsEncoding
comes_closed t rest c =
    let asks : t.frame.asks ≡ [] = sym c.asked ∙ ap asks_in c.are_roots in
    let places : t.frame.additions ≡ [] = sym c.placed ∙ ap places_in c.are_additions in
    let input : t.input ≡ c.extension ++ rest = c.split ∙ ap (λ (l : List Item). bodies l ++ (c.extension ++ rest)) c.are_roots in
    let tail : IsTail (mode_of t.codec) t.frame.extended t.frame.bitmap c.extension [] = subst (λ (l : List Item). IsTail (mode_of t.codec) t.frame.extended t.frame.bitmap c.extension l) c.are_additions c.tail in
    ap₂ (λ (ks : List Ask) (ps : List Place). all_asked ks ps >> unknown_at t) asks places
    ∙ ap (tail_at t.codec t.frame.extended t.frame.bitmap) input
    ∙ tail_again t.codec t.frame.extended t.frame.bitmap c.extension rest tail

-- ---- what is left is a rear part of what was left

pub rear_trans : (a b c : Octets) → IsRear a b → IsRear b c → IsRear a c
rear_trans a b c h k = record { front = h.front ++ k.front; split = h.split ∙ ap (λ (l : Octets). h.front ++ l) k.split ∙ sym (append_assoc h.front k.front c) }

pub rear_are_octets : (a b : Octets) → IsRear a b → AreOctets a → AreOctets b
rear_are_octets a b h f = rear_octets h.front b (subst AreOctets h.split f)

pub opens_rear : (s : State) (extensible : Bool) (roots additions : List Row) (lent : State) → Opens s extensible roots additions lent → IsRear s.input lent.input
opens_rear s extensible roots additions lent o = record { front = o.preamble; split = o.split ∙ ap (λ (t : State). o.preamble ++ t.input) (sym o.is) }

pub closed_rear : (t : State) (rest : Octets) → AreOctets t.input → closed_at t ≡ Ok rest → IsRear t.input rest
unfolding closed_at
closed_rear t rest fits e =
    let a = then_ok (all_asked t.frame.asks t.frame.additions) (unknown_at t) rest e in
    let f = tail_found t.codec t.frame.extended t.frame.bitmap t.input rest fits a.2 in
    record { front = f.0; split = f.1 }
