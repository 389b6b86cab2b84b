-- A set without additions, made of the components that are found by their indexes.
use Rattle.std.proofs.Common.{◌≡◌, ℕ, Bool, true, false, None, Result, Ok, Err, List, [], ◌++◌, length, refl, sym}
use Rattle.std.specs.List.{AllByRecursion}
use Rattle.std.specs.Result.{IfOk, IfErr, OnErr}
use Rattle.asn1_core.specs.Rows.{Row}
use Rattle.asn1_core.specs.Tags.{by_tag}
use Rattle.asn1_core.specs.declared.codec.Codec.{Codec}
use Rattle.asn1_core.specs.declared.error.DecodeError.{DecodeError}
use Rattle.asn1_core.specs.declared.fields.FieldPresence.TheVariants as presence
use Rattle.oer_spec.specs.Spelled.{IsAny}
use Rattle.oer_spec.specs.Tree.{Tree, Rows, NoRows, Struct, Slot}
use Rattle.oer_read.specs.Law.{Decodes, IsForMemory}
use Rattle.oer_read.specs.Parts.{NoParts}
use Rattle.oer_read.specs.SetRows.{found, rows_from, Fits}
use Rattle.oer_read.specs.Sets.{Call, SetRead, SetRefused}
use Rattle.oer_read.specs.State.{State}
use Rattle.oer_read.proofs.SetFound.{AreApart, SlotIs, found_agrees, required_found, NoneAdded, no_additions, none_out}
use Rattle.oer_read.proofs.SetLaw.{Law, Agrees, Came, set_law}
use Rattle.oer_read.proofs.SetOrder.{all_by_tag}

module _ {A V : Type 0} (tree : V → Tree) (index : V → ℕ) (eq : V → V → Bool) (default : ℕ → V) (Ran : Call → State → Result V DecodeError → State → Type 0) (Makes : List V → Result A DecodeError → Type 0) (table : List Row) (slot : A → ℕ → Slot) where
  abbrev IsAt : ℕ → V → Type 0
  IsAt n v = index v ≡ n

  abbrev in_order : List Row
  in_order = by_tag (λ r. r.tag) table

  -- each row's slot is that of the component that is found for it; a refusal says that a required one isn't found
  abbrev pub MadeOf : List V → Result A DecodeError → Type 0
  MadeOf vs (Ok v) = AllByRecursion (SlotIs tree IsAt eq default Ran index (λ n w i. i) (slot v) vs) table
  MadeOf vs (Err e) = AllByRecursion (λ r. r.presence ≡ presence.Required → found index r.index vs ≡ None → ⊥) in_order → ⊥

  module _ (apart : AreApart index in_order) (laws : AllByRecursion (Law tree IsAt eq default Ran) table) (made : (vs : List V) (r : Result A DecodeError) → Makes vs r → MadeOf vs r)
      (whole : A → Tree) (is : (v : A) → whole v ≡ Struct true false (rows_from (λ n. tree (default n)) (slot v) table) NoRows) (fits : (v : A) → AllByRecursion (Fits tree IsAt default (slot v)) table) where
    makes : (codec : Codec) (bits : List Bool) (vs ws : List V) (a : Rows) (r : Result A DecodeError) → Came tree IsAt eq default Ran in_order bits vs → NoneAdded ws a → Makes (vs ++ ws) r
        → IfOk r (λ v. Agrees tree IsAt eq default Ran (slot v) in_order bits vs × (NoRows ≡ a)) × IfErr r (λ e. IsForMemory e × (e.codec ≡ codec))
    makes codec bits vs ws a (Ok v) came added m = (
      (
        found_agrees tree IsAt eq default Ran index (λ n w i. i) (slot v) in_order bits vs ws came apart (none_out index in_order ws a added)
            (all_by_tag (SlotIs tree IsAt eq default Ran index (λ n w i. i) (slot v) (vs ++ ws)) table (made (vs ++ ws) (Ok v) m)),
        sym added.1,
      ),
      tt,
    )
    makes codec bits vs ws a (Err e) came added m =
        absurd (made (vs ++ ws) (Err e) m (required_found tree IsAt eq default Ran index (λ n w i. i) in_order bits vs ws came apart (none_out index in_order ws a added)))

    -- it keeps the law of reading
    pub set_by_index : (old : State) (result : Result A DecodeError) (new : State) → IfOk result (λ v. SetRead Ran Makes false table [] old v new) → IfErr result (λ e. SetRefused Ran Makes false table [] old e) → OnErr result (new ≡ old) → Decodes whole IsAny old result new
    set_by_index old result new read refused same =
        set_law tree IsAt eq default Ran Makes false table [] NoParts NoneAdded tt (λ e. refl) laws (no_additions Ran (length table)) whole IsAny slot (λ v. NoRows) is (λ v x y. tt) (λ v i. (fits v, tt)) old.codec (makes old.codec) old result new refl read refused same
