use Rattle.std.proofs.Common.{◌≡◌, ◌+◌, ◌-◌, ◌≤◌, take, map, length, get_or, arith, subst, ℕ, List}
use Rattle.std.proofs.lemmas.List.{get_or-map, length-map}
use Rattle.asn1_core.specs.Octets.{Octets}
use Rattle.oer_write.specs.Inserted.{Passed, piece, octets_in, IsThere, AreThere}
use Rattle.oer_write.specs.declared.slots.Insertion.{Insertion}
use Rattle.oer_write.proofs.Passing.{passed_first, passed_next, next_room}
use Rattle.oer_write.proofs.Stored.{there_at, length_in}
use Rattle.oer_write.proofs.passes.spread_out.Goals as goal

here : (long : Octets) (xs : List Insertion) (n : ℕ) (d : Insertion) → n + 1 ≤ length (map (piece long) xs) → get_or (map (piece long) xs) n (piece long (get_or xs n d)) ≡ piece long (get_or xs n d)
here long xs n d h = get_or-map (piece long) xs n d (piece long (get_or xs n d)) (omega (arith, h, length-map xs (piece long)))

size : (long : Octets) (xs : List Insertion) (n : ℕ) (d : Insertion) → n + 1 ≤ length (map (piece long) xs) → AreThere (length long) xs → IsThere (length long) (get_or xs n d) × (length (octets_in long (get_or xs n d)) ≡ (get_or xs n d).count)
size long xs n d h a =
    let t = there_at (length long) n xs d (omega (arith, h, length-map xs (piece long))) a in
    (t, length_in long (get_or xs n d) t)

pub put_one-write-requires-clause-there : goal.put_one-write-requires-clause-there
put_one-write-requires-clause-there c =
    let e : c.loop-left.left ≡ (c.loop-left.left - 1) + 1 = omega arith in
    let p = rw e at (c.loop-left.invariant c.requires.ascends.0 c.requires.ascends.1) in
    (size c.args.long.now c.args.insertions.now (c.loop-left.left - 1) (record { place = 0; count = 0; number = 0 }) p.within c.requires.there).0

pub put_one-write-requires-clause-ascends : goal.put_one-write-requires-clause-ascends
put_one-write-requires-clause-ascends c =
    let e : c.loop-left.left ≡ (c.loop-left.left - 1) + 1 = omega arith in
    let p = rw e at (c.loop-left.invariant c.requires.ascends.0 c.requires.ascends.1) in
    (next_room c.requires.ascends.0 (take c.args.written c.args.output.now) c.loop-left.output (map (piece c.args.long.now) c.args.insertions.now) c.args.more (c.loop-left.left - 1) c.loop-left.read c.loop-left.write (length c.args.output.now) _ p (here c.args.long.now c.args.insertions.now (c.loop-left.left - 1) (record { place = 0; count = 0; number = 0 }) p.within)).0

pub put_one-write-requires-clause-room : goal.put_one-write-requires-clause-room
put_one-write-requires-clause-room c =
    let e : c.loop-left.left ≡ (c.loop-left.left - 1) + 1 = omega arith in
    let p = rw e at (c.loop-left.invariant c.requires.ascends.0 c.requires.ascends.1) in
    let s = size c.args.long.now c.args.insertions.now (c.loop-left.left - 1) (record { place = 0; count = 0; number = 0 }) p.within c.requires.there in
    let r = (next_room c.requires.ascends.0 (take c.args.written c.args.output.now) c.loop-left.output (map (piece c.args.long.now) c.args.insertions.now) c.args.more (c.loop-left.left - 1) c.loop-left.read c.loop-left.write (length c.args.output.now) _ p (here c.args.long.now c.args.insertions.now (c.loop-left.left - 1) (record { place = 0; count = 0; number = 0 }) p.within)).1 in
    omega (arith, r, s.1)

pub loop-left-init : goal.loop-left-init
loop-left-init c = λ start a.
    subst (λ (n : ℕ). Passed start (take c.args.written c.args.output.now) c.args.output.now (map (piece c.args.long.now) c.args.insertions.now) c.args.more n c.args.written (length c.args.output.now) (length c.args.output.now)) (length-map c.args.insertions.now (piece c.args.long.now))
    (passed_first start c.args.output.now (map (piece c.args.long.now) c.args.insertions.now) c.args.more c.args.written c.requires.full a)

pub loop-left-preserved : goal.loop-left-preserved
loop-left-preserved c = λ start a.
    let e : c.loop-left.left ≡ (c.loop-left.left - 1) + 1 = omega arith in
    let p = rw e at (c.loop-left.invariant start a) in
    let i : Insertion = get_or c.args.insertions.now (c.loop-left.left - 1) (record { place = 0; count = 0; number = 0 }) in
    let s = size c.args.long.now c.args.insertions.now (c.loop-left.left - 1) (record { place = 0; count = 0; number = 0 }) p.within c.requires.there in
    let b : c.put_one-write.result + (length (octets_in c.args.long.now i) + (c.loop-left.read - i.place)) ≡ c.loop-left.write = (let z = c.put_one-write.ensures.begins in omega (arith, z, s.1)) in
    passed_next start (take c.args.written c.args.output.now) c.loop-left.output c.put_one-write.new.output (map (piece c.args.long.now) c.args.insertions.now) c.args.more (c.loop-left.left - 1) c.loop-left.read c.loop-left.write c.put_one-write.result (length c.args.output.now) (piece c.args.long.now i) p (here c.args.long.now c.args.insertions.now (c.loop-left.left - 1) (record { place = 0; count = 0; number = 0 }) p.within) b c.put_one-write.ensures.len c.put_one-write.ensures.front c.put_one-write.ensures.rear
