use Rattle.std.proofs.Common.{◌≡◌, ◌+◌, ◌++◌, length, map, set, refl, ap, sym, ◌∙◌, subst, ℕ, rules}
use Rattle.asn1_core.specs.Octets.{Octets}
use Rattle.oer_write.specs.Inserted.{AreThere, counts, piece}
use Rattle.oer_write.specs.declared.slots.Insertion.{Insertion}
use Rattle.oer_write.proofs.Stored.{filled_pieces, filled_counts, filled_there, long_there, long_octets, long_more, pieces_more}
use Rattle.oer_write.proofs.insertions.Insertions.fill_long.Goals as goal

pub returns-clause-done : goal.returns-clause-done
returns-clause-done c =
    let i = c.self.inside in
    let f = c.requires.free in
    let o : Octets = c.args.octets.now in
    let w : c.append.new.self ≡ i.long ++ o = c.in_ok-append.ensures.done in
    let n : c.len-begins.result ≡ length i.long = search rules in
    let x : Insertion = record { place = c.get-place.result.place; count = length o; number = c.len-begins.result } in
    let there : AreThere (length (i.long ++ o)) i.slots = long_more i.long o i.slots c.self.invariant.there in
    let seen : map (piece (i.long ++ o)) i.slots ≡ c.args.self.now = pieces_more i.long o i.slots c.self.invariant.there ∙ c.self.view_is in
    ap (map (piece c.append.new.self)) c.set.ensures
    ∙ ap (λ (l : Octets). map (piece l) (set i.slots c.args.slot x)) w
    ∙ filled_pieces (i.long ++ o) i.slots c.args.self.now f.0 f.1 f.2 c.args.slot there seen f.3 f.4 x c.get-place.result o (ap (λ (y : Insertion). y.place) c.get-place.ensures) (long_octets i.long o x c.requires.many n refl)

pub invariant_of-self-2 : goal.invariant_of-self-2
invariant_of-self-2 c =
    let i = c.self.inside in
    let f = c.requires.free in
    let o : Octets = c.args.octets.now in
    let w : c.append.new.self ≡ i.long ++ o = c.in_ok-append.ensures.done in
    let n : c.len-begins.result ≡ length i.long = search rules in
    let x : Insertion = record { place = c.get-place.result.place; count = length o; number = c.len-begins.result } in
    let there : AreThere (length (i.long ++ o)) i.slots = long_more i.long o i.slots c.self.invariant.there in
    let seen : map (piece (i.long ++ o)) i.slots ≡ c.args.self.now = pieces_more i.long o i.slots c.self.invariant.there ∙ c.self.view_is in
    let all : c.in-Some.inserted ≡ i.inserted + length o = (let e = c.in-Some.ensures.1 in search rules) in
    record {
      size = all ∙ ap (λ (m : ℕ). m + length o) c.self.invariant.size ∙ sym (filled_counts (i.long ++ o) i.slots c.args.self.now f.0 f.1 f.2 c.args.slot there seen f.3 f.4 x) ∙ ap counts (sym c.set.ensures);
      there = subst (AreThere (length c.append.new.self)) (sym c.set.ensures) (subst (λ (l : Octets). AreThere (length l) (set i.slots c.args.slot x)) (sym w) (filled_there (i.long ++ o) i.slots c.args.self.now f.0 f.1 f.2 c.args.slot there seen f.3 f.4 x (long_there i.long o x n refl)));
    }
