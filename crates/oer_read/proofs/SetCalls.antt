-- What a set lends to its closure: the calls of its tables.
use Rattle.std.proofs.Common.{Bool, true, false, cond, Result, List, [], ◌∷◌, ◌++◌, length, inl, inr, subst}
use Rattle.std.specs.List.{AllByRecursion}
use Rattle.asn1_core.specs.Rows.{Row}
use Rattle.asn1_core.specs.Tags.{by_tag}
use Rattle.asn1_core.specs.declared.error.DecodeError.{DecodeError}
use Rattle.oer_read.specs.Sets.{Call, is_there, bits_behind, root_calls, addition_calls, set_calls, CalledInTurn, SetLends}
use Rattle.oer_read.specs.State.{State}
use Rattle.oer_read.proofs.SetOrder.{all_by_tag}

module _ (P : Call → Type 0) where
  -- of a root row
  abbrev pub OfRow : Row → Type 0
  OfRow r = P (record { index = r.index; tag = r.tag })

  all_append : (cs ds : List Call) → AllByRecursion P cs → AllByRecursion P ds → AllByRecursion P (cs ++ ds)
  all_append [] ds h k = k
  all_append (c ∷ cs) ds h k = (h.0, all_append cs ds h.1 k)

  all_if : (b : Bool) (c : Call) (cs : List Call) → P c → AllByRecursion P cs → AllByRecursion P (cond b (c ∷ cs) cs)
  all_if true c cs h k = (h, k)
  all_if false c cs h k = k

  all_roots : (rs : List Row) (b : List Bool) → AllByRecursion OfRow rs → AllByRecursion P (root_calls rs b)
  all_roots [] b h = tt
  all_roots (r ∷ rs) b h = all_if (is_there r.presence b) (record { index = r.index; tag = r.tag }) (root_calls rs (bits_behind r.presence b)) h.0 (all_roots rs (bits_behind r.presence b) h.1)

module _ {V : Type 0} (Ran : Call → State → Result V DecodeError → State → Type 0) where
  all_called : (P : Call → Type 0) (s : State) (cs : List Call) (d : Call) (t : State) → AllByRecursion P cs → CalledInTurn Ran s cs d t → P d
  all_called P s [] d t h k = absurd k
  all_called P s (c ∷ cs) d t h (inl k) = subst P k.0 h.0
  all_called P s (c ∷ cs) d t h (inr (v, after, r, k)) = all_called P after cs d t h.1 k

  -- what holds of each row's call, holds of each call that is lent a decoder
  pub lent_call : (P : Call → Type 0) (extensible : Bool) (roots additions : List Row) (old : State) (c : Call) (s : State) → AllByRecursion (OfRow P) roots → AllByRecursion P (addition_calls (length roots) additions) → SetLends Ran extensible roots additions old c s → P c
  lent_call P extensible roots additions old c s h k l =
      all_called P l.lent (set_calls roots additions l.bits) c s (all_append P (root_calls (by_tag (λ (r : Row). r.tag) roots) l.bits) (addition_calls (length roots) additions) (all_roots P (by_tag (λ (r : Row). r.tag) roots) l.bits (all_by_tag (OfRow P) roots h)) k) l.called
