use Rattle.std.proofs.Common.{◌≡◌, ◌∙◌, ◌≤◌, ℕ, Bool, List, length, take, ap, sym, subst}
use Rattle.std.proofs.lemmas.List.{length-take-le}
use Rattle.std.specs.List.{IsAfterLastMatch}
use Rattle.oergen_layouts.specs.Bits.{AreUpToTheLast}
use Rattle.oergen_layouts.proofs.bits.drop_zeros.Goals as goal

up_to_the_last : (bits kept : List Bool) (count : ℕ) → IsAfterLastMatch (λ (bit : Bool). bit) bits count → count ≤ length bits → kept ≡ take count bits → AreUpToTheLast bits kept
up_to_the_last bits kept count last few is =
    let long : length kept ≡ count = ap length is ∙ length-take-le count bits few in
    record {
      are_first = is ∙ ap (λ (it : ℕ). take it bits) (sym long);
      end_behind = subst (IsAfterLastMatch (λ (bit : Bool). bit) bits) (sym long) last;
    }

pub returns : goal.returns
returns c =
    let last = rw c.as_slice.ensures.value at c.count_to_last-count.ensures.last in
    let few = rw c.as_slice.ensures.value at c.count_to_last-count.ensures.few in
    up_to_the_last c.args.bits.now.items c.truncate.new.self.items c.count_to_last-count.result last few c.truncate.ensures.items
