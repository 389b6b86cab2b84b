use Rattle.std.proofs.Common.{◌≡◌, ℕ, ◌+◌, ◌-◌, [], length, take, drop, ap, ◌∙◌, arith, rules}
use Rattle.oer_write.specs.Layout.{total}
use Rattle.oer_write.proofs.Exchanging.{behind_less, kept_slot, opens_are, asc_rest, long1, long_two, moved_around, moved_within, moved_laid, moved_last, moved_front}
use Rattle.oer_write.proofs.Regions.{places}
use Rattle.oer_write.proofs.region.move_later.Goals as goal

pub overflow_sub-behind : goal.overflow_sub-behind
overflow_sub-behind c = (let s = c.size_behind.ensures in let t = c.size_behind-2.ensures in omega (arith, s, t, behind_less c.args.region.now c.args.out.now.items c.args.insertions.now c.requires.laid c.requires.begun))

pub overflow_sub-region : goal.overflow_sub-region
overflow_sub-region c = (places c.args.region.now (length c.args.out.now.items) c.args.insertions.now c.requires.laid).1.0

pub join_behind-requires : goal.join_behind-requires
join_behind-requires c = (c.args.region.now.start, asc_rest c.args.region.now c.args.out.now.items c.args.insertions.now c.requires.laid c.requires.begun)

pub exchange-requires : goal.exchange-requires
exchange-requires c =
    let s = c.size_behind.ensures in
    let t = c.size_behind-2.ensures in
    let b = c.in-Some.ensures.1 in
    let count : c.in-Some.count ≡ (c.args.region.now.end - c.args.region.now.start) + (total (drop (c.args.region.now.opens + 1) c.args.insertions.now) - total (drop c.args.region.now.last c.args.insertions.now)) = omega (arith, s, t, b) in
    let l = long1 c.args.region.now c.args.out.now.items c.args.insertions.now c.requires.laid c.requires.begun c.join_behind.new.output.items c.in-Some.count (c.in_ok-join_behind.ensures.done c.args.region.now.start (asc_rest c.args.region.now c.args.out.now.items c.args.insertions.now c.requires.laid c.requires.begun)) count in
    let v : length c.join_behind.new.output.items ≡ c.join_behind.new.output.len = search rules in
    omega (arith, l, v)

pub put_at-requires-clause-free : goal.put_at-requires-clause-free
put_at-requires-clause-free c = (take c.args.region.now.opens c.args.insertions.now, [], c.args.region.now.start, c.in_ok-join_behind.ensures.left ∙ kept_slot c.args.region.now c.args.out.now.items c.args.insertions.now c.requires.laid c.requires.begun, opens_are c.args.region.now c.args.out.now.items c.args.insertions.now c.requires.laid c.requires.begun)

pub returns-clause-octets : goal.returns-clause-octets
returns-clause-octets c =
    let s = c.size_behind.ensures in
    let t = c.size_behind-2.ensures in
    let b = c.in-Some.ensures.1 in
    let count : c.in-Some.count ≡ (c.args.region.now.end - c.args.region.now.start) + (total (drop (c.args.region.now.opens + 1) c.args.insertions.now) - total (drop c.args.region.now.last c.args.insertions.now)) = omega (arith, s, t, b) in
    let n : c.len.result ≡ length c.exchange.new.out.items = search rules in
    let slot = c.put_at.ensures (take c.args.region.now.opens c.args.insertions.now) [] c.args.region.now.start (c.in_ok-join_behind.ensures.left ∙ kept_slot c.args.region.now c.args.out.now.items c.args.insertions.now c.requires.laid c.requires.begun) (opens_are c.args.region.now c.args.out.now.items c.args.insertions.now c.requires.laid c.requires.begun) in
    let m : c.len-2.result ≡ length c.exchange.new.out.items = search rules in
    let place : c.args.region.now.start + (c.len.result - c.args.region.now.start - c.in-Some.count) ≡ c.args.region.now.start + (length c.exchange.new.out.items - c.args.region.now.start - c.in-Some.count) = ap (λ (x : ℕ). c.args.region.now.start + (x - c.args.region.now.start - c.in-Some.count)) n in
    moved_around c.args.region.now c.args.out.now.items c.args.insertions.now c.requires.laid c.requires.begun c.join_behind.new.output.items c.in-Some.count (c.in_ok-join_behind.ensures.done c.args.region.now.start (asc_rest c.args.region.now c.args.out.now.items c.args.insertions.now c.requires.laid c.requires.begun)) count c.exchange.new.out.items c.put_at.new.self (c.args.region.now.start + (c.len.result - c.args.region.now.start - c.in-Some.count)) c.len-2.result c.exchange.ensures place m slot

pub returns-clause-opens : goal.returns-clause-opens
returns-clause-opens c =
    let s = c.size_behind.ensures in
    let t = c.size_behind-2.ensures in
    let b = c.in-Some.ensures.1 in
    let count : c.in-Some.count ≡ (c.args.region.now.end - c.args.region.now.start) + (total (drop (c.args.region.now.opens + 1) c.args.insertions.now) - total (drop c.args.region.now.last c.args.insertions.now)) = omega (arith, s, t, b) in
    let n : c.len.result ≡ length c.exchange.new.out.items = search rules in
    let slot = c.put_at.ensures (take c.args.region.now.opens c.args.insertions.now) [] c.args.region.now.start (c.in_ok-join_behind.ensures.left ∙ kept_slot c.args.region.now c.args.out.now.items c.args.insertions.now c.requires.laid c.requires.begun) (opens_are c.args.region.now c.args.out.now.items c.args.insertions.now c.requires.laid c.requires.begun) in
    let m : c.len-2.result ≡ length c.exchange.new.out.items = search rules in
    let place : c.args.region.now.start + (c.len.result - c.args.region.now.start - c.in-Some.count) ≡ c.args.region.now.start + (length c.exchange.new.out.items - c.args.region.now.start - c.in-Some.count) = ap (λ (x : ℕ). c.args.region.now.start + (x - c.args.region.now.start - c.in-Some.count)) n in
    moved_within c.args.region.now c.args.out.now.items c.args.insertions.now c.requires.laid c.requires.begun c.join_behind.new.output.items c.in-Some.count (c.in_ok-join_behind.ensures.done c.args.region.now.start (asc_rest c.args.region.now c.args.out.now.items c.args.insertions.now c.requires.laid c.requires.begun)) count c.exchange.new.out.items c.put_at.new.self (c.args.region.now.start + (c.len.result - c.args.region.now.start - c.in-Some.count)) c.len-2.result c.exchange.ensures place m slot

pub returns-clause-laid : goal.returns-clause-laid
returns-clause-laid c =
    let s = c.size_behind.ensures in
    let t = c.size_behind-2.ensures in
    let b = c.in-Some.ensures.1 in
    let count : c.in-Some.count ≡ (c.args.region.now.end - c.args.region.now.start) + (total (drop (c.args.region.now.opens + 1) c.args.insertions.now) - total (drop c.args.region.now.last c.args.insertions.now)) = omega (arith, s, t, b) in
    let n : c.len.result ≡ length c.exchange.new.out.items = search rules in
    let slot = c.put_at.ensures (take c.args.region.now.opens c.args.insertions.now) [] c.args.region.now.start (c.in_ok-join_behind.ensures.left ∙ kept_slot c.args.region.now c.args.out.now.items c.args.insertions.now c.requires.laid c.requires.begun) (opens_are c.args.region.now c.args.out.now.items c.args.insertions.now c.requires.laid c.requires.begun) in
    let m : c.len-2.result ≡ length c.exchange.new.out.items = search rules in
    let place : c.args.region.now.start + (c.len.result - c.args.region.now.start - c.in-Some.count) ≡ c.args.region.now.start + (length c.exchange.new.out.items - c.args.region.now.start - c.in-Some.count) = ap (λ (x : ℕ). c.args.region.now.start + (x - c.args.region.now.start - c.in-Some.count)) n in
    moved_laid c.args.region.now c.args.out.now.items c.args.insertions.now c.requires.laid c.requires.begun c.join_behind.new.output.items c.in-Some.count (c.in_ok-join_behind.ensures.done c.args.region.now.start (asc_rest c.args.region.now c.args.out.now.items c.args.insertions.now c.requires.laid c.requires.begun)) count c.exchange.new.out.items c.put_at.new.self (c.args.region.now.start + (c.len.result - c.args.region.now.start - c.in-Some.count)) c.len-2.result c.exchange.ensures place m slot

pub returns-clause-last : goal.returns-clause-last
returns-clause-last c =
    let s = c.size_behind.ensures in
    let t = c.size_behind-2.ensures in
    let b = c.in-Some.ensures.1 in
    let count : c.in-Some.count ≡ (c.args.region.now.end - c.args.region.now.start) + (total (drop (c.args.region.now.opens + 1) c.args.insertions.now) - total (drop c.args.region.now.last c.args.insertions.now)) = omega (arith, s, t, b) in
    let n : c.len.result ≡ length c.exchange.new.out.items = search rules in
    let slot = c.put_at.ensures (take c.args.region.now.opens c.args.insertions.now) [] c.args.region.now.start (c.in_ok-join_behind.ensures.left ∙ kept_slot c.args.region.now c.args.out.now.items c.args.insertions.now c.requires.laid c.requires.begun) (opens_are c.args.region.now c.args.out.now.items c.args.insertions.now c.requires.laid c.requires.begun) in
    let m : c.len-2.result ≡ length c.exchange.new.out.items = search rules in
    let place : c.args.region.now.start + (c.len.result - c.args.region.now.start - c.in-Some.count) ≡ c.args.region.now.start + (length c.exchange.new.out.items - c.args.region.now.start - c.in-Some.count) = ap (λ (x : ℕ). c.args.region.now.start + (x - c.args.region.now.start - c.in-Some.count)) n in
    moved_last c.args.region.now c.args.out.now.items c.args.insertions.now c.requires.laid c.requires.begun c.join_behind.new.output.items c.in-Some.count (c.in_ok-join_behind.ensures.done c.args.region.now.start (asc_rest c.args.region.now c.args.out.now.items c.args.insertions.now c.requires.laid c.requires.begun)) count c.exchange.new.out.items c.put_at.new.self (c.args.region.now.start + (c.len.result - c.args.region.now.start - c.in-Some.count)) c.len-2.result c.exchange.ensures place m slot

pub returns-clause-front : goal.returns-clause-front
returns-clause-front c =
    let s = c.size_behind.ensures in
    let t = c.size_behind-2.ensures in
    let b = c.in-Some.ensures.1 in
    let count : c.in-Some.count ≡ (c.args.region.now.end - c.args.region.now.start) + (total (drop (c.args.region.now.opens + 1) c.args.insertions.now) - total (drop c.args.region.now.last c.args.insertions.now)) = omega (arith, s, t, b) in
    let n : c.len.result ≡ length c.exchange.new.out.items = search rules in
    let slot = c.put_at.ensures (take c.args.region.now.opens c.args.insertions.now) [] c.args.region.now.start (c.in_ok-join_behind.ensures.left ∙ kept_slot c.args.region.now c.args.out.now.items c.args.insertions.now c.requires.laid c.requires.begun) (opens_are c.args.region.now c.args.out.now.items c.args.insertions.now c.requires.laid c.requires.begun) in
    let m : c.len-2.result ≡ length c.exchange.new.out.items = search rules in
    let place : c.args.region.now.start + (c.len.result - c.args.region.now.start - c.in-Some.count) ≡ c.args.region.now.start + (length c.exchange.new.out.items - c.args.region.now.start - c.in-Some.count) = ap (λ (x : ℕ). c.args.region.now.start + (x - c.args.region.now.start - c.in-Some.count)) n in
    moved_front c.args.region.now c.args.out.now.items c.args.insertions.now c.requires.laid c.requires.begun c.join_behind.new.output.items c.in-Some.count (c.in_ok-join_behind.ensures.done c.args.region.now.start (asc_rest c.args.region.now c.args.out.now.items c.args.insertions.now c.requires.laid c.requires.begun)) count c.exchange.new.out.items c.put_at.new.self (c.args.region.now.start + (c.len.result - c.args.region.now.start - c.in-Some.count)) c.len-2.result c.exchange.ensures place m slot

pub overflow_sub-start : goal.overflow_sub-start
overflow_sub-start c =
    let s = c.size_behind.ensures in
    let t = c.size_behind-2.ensures in
    let b = c.in-Some.ensures.1 in
    let count : c.in-Some.count ≡ (c.args.region.now.end - c.args.region.now.start) + (total (drop (c.args.region.now.opens + 1) c.args.insertions.now) - total (drop c.args.region.now.last c.args.insertions.now)) = omega (arith, s, t, b) in
    let n : c.len.result ≡ length c.exchange.new.out.items = search rules in
    let l = long_two c.args.region.now c.args.out.now.items c.args.insertions.now c.requires.laid c.requires.begun c.join_behind.new.output.items c.in-Some.count (c.in_ok-join_behind.ensures.done c.args.region.now.start (asc_rest c.args.region.now c.args.out.now.items c.args.insertions.now c.requires.laid c.requires.begun)) count c.exchange.new.out.items c.exchange.ensures in
    omega (arith, l.0, n)

pub overflow_sub-start-2 : goal.overflow_sub-start-2
overflow_sub-start-2 c =
    let s = c.size_behind.ensures in
    let t = c.size_behind-2.ensures in
    let b = c.in-Some.ensures.1 in
    let count : c.in-Some.count ≡ (c.args.region.now.end - c.args.region.now.start) + (total (drop (c.args.region.now.opens + 1) c.args.insertions.now) - total (drop c.args.region.now.last c.args.insertions.now)) = omega (arith, s, t, b) in
    let n : c.len.result ≡ length c.exchange.new.out.items = search rules in
    let l = long_two c.args.region.now c.args.out.now.items c.args.insertions.now c.requires.laid c.requires.begun c.join_behind.new.output.items c.in-Some.count (c.in_ok-join_behind.ensures.done c.args.region.now.start (asc_rest c.args.region.now c.args.out.now.items c.args.insertions.now c.requires.laid c.requires.begun)) count c.exchange.new.out.items c.exchange.ensures in
    omega (arith, l.1, n)
