-- A status is read as its components.
use Rattle.std.proofs.Common.{◌≡◌, ℕ, ℤ, Bool, false, Option, Some, None, Result, Ok, Err, List, [], refl, sym, ap, ◌∙◌, arith}
use Rattle.std.specs.Option.{option_map}
use Rattle.std.specs.Result.{IfOk, IfErr, OnErr}
use Rattle.asn1_core.specs.declared.error.DecodeError.{DecodeError}
use Rattle.oer_spec.specs.Spelled.{IsAny, boolean}
use Rattle.oer_spec.specs.Tree.{Present}
use Rattle.oer_read.specs.Law.{Decodes}
use Rattle.oer_read.specs.Parts.{Admits, OnPresent}
use Rattle.oer_read.specs.SetRows.{slot_of_found}
use Rattle.oer_read.specs.Sets.{Call, SetRead, SetRefused}
use Rattle.oer_read.specs.State.{State}
use Rattle.oer_read.proofs.Alternatives.{Holds}
use Rattle.oer_read.proofs.SetsByIndex.{MadeOf, set_by_index}
use Rattle.oer_rows.specs.Integers.{plain_integer, integer_slot, IsWhole}
use Rattle.oer_rows.specs.Schema.{context}
use Rattle.example_closures.specs.Statuses.{status_table, status_tree, status_slot, part_index, part_tree, IsPartAt, StatusMade}
use Rattle.example_closures.specs.declared.statuses.Status.{Status}
use Rattle.example_closures.specs.declared.statuses.Part.{Part}
use Rattle.example_closures.specs.declared.statuses.Part.TheVariants.{Ready, Code}

-- the components of an index
pub ready_holds : (n : ℕ) → n ≡ 0 → Holds part_tree (IsPartAt n) boolean IsAny Ready
ready_holds n z = record { is = λ b i. sym z; same = λ b. refl; only = only }
  where
    only : (p : Part) → part_index p ≡ n → (b : Bool) × (part_tree p ≡ boolean b) × IsAny b
    only (Ready b) e = (b, refl, tt)
    only (Code k) e = absurd (omega (arith, e, z))

pub code_holds : (n : ℕ) → n ≡ 1 → Holds part_tree (IsPartAt n) plain_integer IsWhole Code
code_holds n z = record { is = λ k i. sym z; same = λ k. refl; only = only }
  where
    only : (p : Part) → part_index p ≡ n → (k : ℤ) × (part_tree p ≡ plain_integer k) × IsWhole k
    only (Ready b) e = absurd (omega (arith, e, z))
    only (Code k) e = (k, refl, refl)

-- the slot of the optional one, as it is found, and that it is one of its row
code_found : (o : Option ℤ) → integer_slot o ≡ slot_of_found (λ p. Present (part_tree p)) (option_map Code o)
code_found None = refl
code_found (Some k) = refl

code_fits : (o : Option ℤ) → OnPresent (Admits part_tree (IsPartAt 1)) (integer_slot o)
code_fits None = tt
code_fits (Some k) = record { value = Code k; is_value = refl; is = refl }

-- no component has a default
abbrev never : Part → Part → Bool
never p q = false

abbrev any : ℕ → Part
any n = Ready false

module _ (Ran : Call → State → Result Part DecodeError → State → Type 0) (Makes : List Part → Result Status DecodeError → Type 0) (promise : (c : Call) (s : State) (r : Result Part DecodeError) (t : State) → Ran c s r t → Decodes part_tree (IsPartAt c.index) s r t) (answer : (parts : List Part) (r : Result Status DecodeError) → Makes parts r → StatusMade parts r) where
  made : (parts : List Part) (r : Result Status DecodeError) → Makes parts r → MadeOf part_tree part_index never any Ran Makes status_table status_slot parts r
  made parts (Ok v) m =
      let k = answer parts (Ok v) m in
      (ap (slot_of_found (λ p. Present (part_tree p))) (sym k.0), (code_found v.code ∙ ap (slot_of_found (λ p. Present (part_tree p))) (sym k.1), tt))
  made parts (Err e) m = λ all. all.1.0 refl (answer parts (Err e) m)

  -- it keeps the law of reading
  pub status_law : (old : State) (result : Result Status DecodeError) (new : State) → IfOk result (λ v. SetRead Ran Makes false status_table [] old v new) → IfErr result (λ e. SetRefused Ran Makes false status_table [] old e) → OnErr result (new ≡ old) → Decodes status_tree IsAny old result new
  unfolding status_tree
  status_law =
      set_by_index part_tree part_index never any Ran Makes status_table status_slot (((refl, refl), tt), (tt, tt)) (promise (record { index = 0; tag = context 1 }), (promise (record { index = 1; tag = context 0 }), tt)) made status_tree (λ v. refl)
      (λ v. (record { value = Ready v.ready; is_value = refl; is = refl }, (code_fits v.code, tt)))
