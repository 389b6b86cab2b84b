use Rattle.std.proofs.Common.{◌≡◌, ◌-◌, ◌<◌, ◌%◌, length, take, get_or, set, Some, None, true, cond, eqb, ap, sym, ◌∙◌, arith}
use Rattle.std.specs.Vec.{vec_len}
use Rattle.std.proofs.lemmas.Bool.{eq-eqb}
use Rattle.std.proofs.lemmas.List.{get_or_read}
use Rattle.asn1_core.specs.Octets.{AreOctets, bits_of, bits8, octet_of, octets_for, pack}
use Rattle.asn1_strings.proofs.OctetLists.{are_octets}
use Rattle.asn1_strings.proofs.BitLists.{with_front, packed_is, front_is, packed_length, whole_is, cut_is}
use Rattle.asn1_strings.proofs.bits.BitString.from_octets.Goals as goal
use Rattle.asn1_strings.proofs.bits.BitString.from_octets.Goals.{then-bits-ne0, else-bits-ne0}

cut : (c : goal.Joined-bits-ne0) → c.if-bits-ne0.packed.items ≡ with_front (c.args.bits % 8) (length c.args.octets.now - 1) c.args.octets.now
cut c =
    let o = c.args.octets.now in
    let copied : c.in_ok-packed.packed.items ≡ o = c.in_ok-packed.ensures.items in
    let count : vec_len c.in_ok-packed.packed ≡ length o = c.in_ok-packed.ensures.len in
    elim c.if-bits-ne0.branch [
      | then-bits-ne0 w ↦
          let last : w.len-last.result - 1 ≡ length o - 1 = ap (λ n. n - 1) (w.len-last.ensures ∙ count) in
          let some : 0 < length o = omega arith in
          let read : w.index.result.now ≡ get_or o (length o - 1) 0 =
          get_or_read o (length o - 1) w.index.result.now (omega arith) (w.index.ensures ∙ ap (λ l. get_or l (w.len-last.result - 1) w.index.result.now) copied ∙ ap (λ k. get_or o k w.index.result.now) last) 0 in
          let octet : w.front_bits.result ≡ octet_of (take (c.args.bits % 8) (bits8 (get_or o (length o - 1) 0))) = w.front_bits.ensures ∙ ap (λ x. octet_of (take (c.args.bits % 8) (bits8 x))) read in
          cut_is o _ (c.args.bits % 8) (length o - 1) w.front_bits.result w.if-bits-ne0.true octet (ap (λ v. v.items) w.packed-is ∙ ap (λ l. set l (w.len-last.result - 1) w.front_bits.result) copied ∙ ap (λ k. set o k w.front_bits.result) last)
      | else-bits-ne0 w ↦ whole_is o _ (c.args.bits % 8) (length o - 1) w.if-bits-ne0.false (ap (λ v. v.items) w.packed-is ∙ copied)
    ]

as_many : (c : goal.Joined-bits-ne0) → length c.args.octets.now ≡ octets_for c.args.bits
as_many c = omega arith

pub invariant_of-result : goal.invariant_of-result
invariant_of-result c =
    let o = c.args.octets.now in
    let p = c.if-bits-ne0.packed.items in
    let n = c.args.bits in
    let f : AreOctets o = are_octets o (λ k. let fits = c.type_inv.octets k in omega arith) in
    record { enough = packed_length o p n f (as_many c) (cut c); packed = packed_is o p n f (as_many c) (cut c) ∙ ap pack (sym (front_is o p n f (as_many c) (cut c))) }

pub returns-clause-value : goal.returns-clause-value
returns-clause-value c =
    let o = c.args.octets.now in
    let n = c.args.bits in
    let f : AreOctets o = are_octets o (λ k. let fits = c.type_inv.octets k in omega arith) in
    let test : eqb (length o) (octets_for n) ≡ true = eq-eqb (length o) (octets_for n) (as_many c) in
    ap (λ l. Some l) (front_is o c.if-bits-ne0.packed.items n f (as_many c) (cut c)) ∙ ap (λ b. cond b (Some (take n (bits_of o))) None) (sym test)
