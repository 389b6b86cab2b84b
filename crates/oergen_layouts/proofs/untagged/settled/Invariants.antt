use Rattle.std.proofs.Common.{◌≡◌, None, length, take}
use Rattle.std.specs.List.{AllZip, zip}
use Rattle.oergen_layouts.specs.Untagged.{IsSettled, first_refusal}
use Rattle.oergen_layouts.proofs.untagged.settled.Given as goal

abbrev pub invariant-loop-definition : goal.invariant-loop-definition
invariant-loop-definition l = record {
  so_far : AllZip (λ both now. IsSettled both.0 both.1 now) (take (length l.yielded) (zip l.fn.all.items l.fn.found.items)) l.settled.items;
  none : length l.fn.all.items ≡ length l.fn.found.items → first_refusal l.keeps_faults (take (length l.yielded) l.fn.found.items) ≡ None;
}
