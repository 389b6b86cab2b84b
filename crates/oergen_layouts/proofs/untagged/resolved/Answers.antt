use Rattle.std.proofs.Common.{◌≡◌, Some, Bool, inl, inr, subst, rules}
use Rattle.oergen_parse.specs.declared.refusal.Refusal.TheVariants.{OutOfMemory}
use Rattle.oergen_layouts.specs.Untagged.{IsFound, first_refusal}
use Rattle.oergen_layouts.proofs.Refusing.{as_many, only_memory, resolvable}
use Rattle.oergen_layouts.proofs.untagged.resolved.Goals as goal

pub returns-in_err-settled-clause-refused : goal.returns-in_err-settled-clause-refused
returns-in_err-settled-clause-refused c = λ given.
    let written = c.args.written.items in
    let found = c.in_ok-found.found.items in
    let why = c.in_err-settled.field-0.0 in
    let are = rw c.as_slice.ensures.value at c.in_ok-found.ensures in
    let memory : why ≡ OutOfMemory = elim (c.in_err-settled.ensures.refused (as_many (IsFound written) written found are)) [
      | inl memory ↦ memory
      | inr first ↦ elim given [
        | inl keeps ↦ only_memory found why (subst (λ (it : Bool). first_refusal it found ≡ Some why) keeps first)
        | inr each ↦ resolvable written written found c.args.keeps_faults why are each first
      ]
    ] in
    search rules

pub returns-clause-kept : goal.returns-clause-kept
returns-clause-kept c =
    let written = c.args.written.items in
    let found = c.in_ok-found.found.items in
    let are = rw c.as_slice.ensures.value at c.in_ok-found.ensures in
    record {
      found = found;
      are_found = are;
      none_refused = c.in_ok-settled.ensures.refused (as_many (IsFound written) written found are);
      settled = c.in_ok-settled.settled.items;
      are_settled = c.in_ok-settled.ensures.settled;
      unused = c.in_ok-unused.unused.items;
      are_unused = rw (c.as_slice-2.ensures.value, c.as_slice-3.ensures.value) at c.in_ok-unused.ensures;
      are_kept = rw c.as_slice-4.ensures.value at c.in_ok-used.ensures;
    }
