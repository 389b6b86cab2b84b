-- The first refusal among what is found for definitions.
use Rattle.std.proofs.Common.{◌≡◌, ◌∙◌, ℕ, ◌+◌, ◌<◌, Bool, true, false, Option, Some, None, List, [], ◌∷◌, ◌++◌, length, take, drop, get_or, MatchResult, Ok, Err, refl, sym, subst, ap, arith}
use Rattle.std.proofs.lemmas.List.{drop_more, take-append-drop, take_more}
use Rattle.std.proofs.lemmas.List.Elements.{All-head, All-tail}
use Rattle.std.proofs.lemmas.Slice.Zip.{get_or-zip, length-zip}
use Rattle.std.specs.List.{All, AllZip, zip}
use Rattle.std.specs.Option.{option_or}
use Rattle.oergen_parse.specs.declared.refusal.Refusal.{Refusal}
use Rattle.oergen_parse.specs.declared.refusal.Refusal.TheVariants.{OutOfMemory, At}
use Rattle.oergen_layouts.specs.Untagged.{Found, IsFound, IsResolvable, first_refusal, refusal_in}
use Rattle.oergen_layouts.specs.declared.definitions.Definition.{Definition}

both_none : (r rest : Option Refusal) → option_or r rest ≡ None → (r ≡ None) × (rest ≡ None)
both_none None rest e = (refl, e)
both_none (Some why) rest e = absurd cc

passed : (keeps : Bool) (some more : List Found) → first_refusal keeps some ≡ None → first_refusal keeps (some ++ more) ≡ first_refusal keeps more
passed keeps [] more e = refl
passed keeps (it ∷ some) more e =
    let none = both_none (refusal_in keeps it) (first_refusal keeps some) e in
    ap (λ (r : Option Refusal). option_or r (first_refusal keeps (some ++ more))) none.0 ∙ passed keeps some more none.1

-- one more that isn't refused
pub none_more : (keeps : Bool) (found : List Found) (at : ℕ) (it : Found) → at < length found → it ≡ get_or found at it → first_refusal keeps (take at found) ≡ None → refusal_in keeps it ≡ None → first_refusal keeps (take (at + 1) found) ≡ None
none_more keeps found at it below is none e =
    let cut : take (at + 1) found ≡ take at found ++ it ∷ [] = take_more found at it below ∙ ap (λ (own : Found). take at found ++ own ∷ []) (sym is) in
    ap (first_refusal keeps) cut ∙ (passed keeps (take at found) (it ∷ []) none ∙ ap (λ (r : Option Refusal). option_or r None) e)

-- the first that is
pub first_is : (keeps : Bool) (found : List Found) (at : ℕ) (it : Found) (why : Refusal) → at < length found → it ≡ get_or found at it → first_refusal keeps (take at found) ≡ None → refusal_in keeps it ≡ Some why → first_refusal keeps found ≡ Some why
first_is keeps found at it why below is none e =
    let rest : drop at found ≡ it ∷ drop (at + 1) found = drop_more found at it below ∙ ap (λ (own : Found). own ∷ drop (at + 1) found) (sym is) in
    ap (first_refusal keeps) (sym (take-append-drop at found))
    ∙ (passed keeps (take at found) (drop at found) none
    ∙ (ap (first_refusal keeps) rest ∙ ap (λ (r : Option Refusal). option_or r (first_refusal keeps (drop (at + 1) found))) e))

refused : (keeps : Bool) (it : Found) (why : Refusal) → refusal_in keeps it ≡ Some why → it ≡ Err why
refused keeps (Ok found) why e = absurd cc
refused false (Err own) why e = cc
refused true (Err OutOfMemory) why e = cc
refused true (Err (At place met reads)) why e = absurd cc

kept : (it : Found) (why : Refusal) → refusal_in true it ≡ Some why → why ≡ OutOfMemory
kept (Ok found) why e = absurd cc
kept (Err OutOfMemory) why e = cc
kept (Err (At place met reads)) why e = absurd cc

-- where faults are kept only want of memory refuses
pub only_memory : (found : List Found) (why : Refusal) → first_refusal true found ≡ Some why → why ≡ OutOfMemory
only_memory [] why e = absurd cc
only_memory (it ∷ found) why e =
    elim (refusal_in true it) as (λ r. refusal_in true it ≡ r → option_or r (first_refusal true found) ≡ Some why → why ≡ OutOfMemory) [
      | None ↦ λ q h. only_memory found why h
      | Some own ↦ λ q h. kept it why (q ∙ h)
    ] refl e

-- nor does anything else where each can be resolved
pub resolvable : (all ones : List Definition) (found : List Found) (keeps : Bool) (why : Refusal) → AllZip (IsFound all) ones found → All (IsResolvable all) ones → first_refusal keeps found ≡ Some why → why ≡ OutOfMemory
resolvable all [] [] keeps why are each e = absurd cc
resolvable all [] (it ∷ found) keeps why are each e = absurd are
resolvable all (one ∷ ones) [] keeps why are each e = absurd are
resolvable all (one ∷ ones) (it ∷ found) keeps why are each e =
    elim (refusal_in keeps it) as (λ r. refusal_in keeps it ≡ r → option_or r (first_refusal keeps found) ≡ Some why → why ≡ OutOfMemory) [
      | None ↦ λ q h. resolvable all ones found keeps why are.1 (All-tail (IsResolvable all) one ones each) h
      | Some own ↦ λ q h. subst (λ (r : Found). MatchResult r (λ _. IsResolvable all one) (λ it. IsResolvable all one → it ≡ OutOfMemory)) (refused keeps it why (q ∙ h)) are.0.refused (All-head (IsResolvable all) one ones each)
    ] refl e

-- the second one of a pair of two lists that are as long
pub second_at : {A B : Type 0} (xs : List A) (ys : List B) (at : ℕ) (x : A) (y : B) → length xs ≡ length ys → at < length (zip xs ys) → (x, y) ≡ get_or (zip xs ys) at (x, y) → (at < length ys) × (y ≡ get_or ys at y)
second_at {A} {B} xs ys at x y same below is =
    let few : at < length ys = omega (arith, length-zip xs ys, below) in
    (few, ap (λ (p : A × B). p.1) (is ∙ get_or-zip xs ys at (x, y) (omega (arith, few, same)) few))

pub as_many : {A B : Type 0} (R : A → B → Type 0) (xs : List A) (ys : List B) → AllZip R xs ys → length xs ≡ length ys
as_many R [] [] are = refl
as_many R [] (y ∷ ys) are = absurd are
as_many R (x ∷ xs) [] are = absurd are
as_many R (x ∷ xs) (y ∷ ys) are = omega (arith, as_many R xs ys are.1)
