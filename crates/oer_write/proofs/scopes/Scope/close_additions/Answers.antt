use Rattle.std.proofs.Common.{◌≡◌, [], refl, sym, append-nil, true, false, rules}
use Rattle.std.proofs.lemmas.Result.{on_ok_weaker, err_from_is_err_and, IfErr-weaker}
use Rattle.oer_write.specs.Scopes.{any_true}
use Rattle.oer_write.proofs.Closing.{bitmap_free, closed_filled, closed_alike, closed_cut, closed_none, front_left}
use Rattle.oer_write.proofs.scopes.Scope.close_additions.Goals as goal

pub returns-in_err-begin-clause-refused : goal.returns-in_err-begin-clause-refused
returns-in_err-begin-clause-refused c =
    let p = err_from_is_err_and c.from_residual.result c.from_residual.ensures.1 in
    let e = c.in_err-begin.ensures in
    rw (p.1, p.2) (e.refused, front_left c.args.self.now.region c.begin.new.region c.args.out.now.items c.begin.new.out.items c.begin.new.out.items c.args.insertions.now c.begin.new.insertions c.begin.new.insertions c.requires e.laid e.base e.octets e.front ([], sym (append-nil c.begin.new.out.items)) refl)

pub returns-in_err-begin-2-clause-refused : goal.returns-in_err-begin-2-clause-refused
returns-in_err-begin-2-clause-refused c =
    let p = err_from_is_err_and c.from_residual-in_err-begin-2.result c.from_residual-in_err-begin-2.ensures.1 in
    let e = c.in_err-begin-2.ensures in
    rw (p.1, p.2) (e.refused, front_left c.args.self.now.region c.begin-then-region.new.region c.args.out.now.items c.begin-then-region.new.out.items c.begin-then-region.new.out.items c.args.insertions.now c.begin-then-region.new.insertions c.begin-then-region.new.insertions c.requires e.laid e.base e.octets e.front ([], sym (append-nil c.begin-then-region.new.out.items)) refl)

pub fill_bitmap-requires : goal.fill_bitmap-requires
fill_bitmap-requires c =
    let e = c.in_ok-begin.ensures in
    record { free = bitmap_free c.begin.new.region c.args.self.now.bitmap c.begin.new.out.items c.begin.new.insertions e.laid e.last.0 e.last.1 e.begun }

pub returns-then-any-clause-done : goal.returns-then-any-clause-done
returns-then-any-clause-done c =
    let e = c.in_ok-begin.ensures in
    let some : any_true c.args.self.now.bitmap ≡ true = search rules in
    on_ok_weaker c.fill_bitmap.result (λ h. closed_alike c.args.self.now.region c.begin.new.region c.args.self.now.bitmap c.args.out.now.items c.begin.new.out.items c.begin.new.out.items c.args.insertions.now c.begin.new.insertions c.fill_bitmap.new.insertions e.base e.first e.octets e.opens e.front
    (closed_filled c.begin.new.region c.args.self.now.bitmap c.begin.new.out.items c.begin.new.insertions e.laid e.last.0 e.last.1 c.fill_bitmap.new.insertions e.begun some h)) c.fill_bitmap.ensures.done

pub returns-then-any-clause-refused : goal.returns-then-any-clause-refused
returns-then-any-clause-refused c =
    let e = c.in_ok-begin.ensures in
    IfErr-weaker c.fill_bitmap.result _ _ (λ x h. (h.0, front_left c.args.self.now.region c.begin.new.region c.args.out.now.items c.begin.new.out.items c.begin.new.out.items c.args.insertions.now c.begin.new.insertions c.fill_bitmap.new.insertions c.requires e.laid e.base e.octets e.front ([], sym (append-nil c.begin.new.out.items)) h.1)) c.fill_bitmap.ensures.refused

pub returns-in_ok-begin-2-clause-done : goal.returns-in_ok-begin-2-clause-done
returns-in_ok-begin-2-clause-done c =
    let e = c.in_ok-begin-2.ensures in
    let none : any_true c.args.self.now.bitmap ≡ false = search rules in
    let done = closed_cut c.begin-then-region.new.region c.args.self.now.bitmap c.begin-then-region.new.out.items c.begin-then-region.new.insertions e.laid e.last.0 e.last.1 c.truncate.new.self.items c.cut_apart.new.self none c.truncate.ensures.items c.cut_apart.ensures in
    closed_alike c.args.self.now.region c.begin-then-region.new.region c.args.self.now.bitmap c.args.out.now.items c.begin-then-region.new.out.items c.truncate.new.self.items c.args.insertions.now c.begin-then-region.new.insertions c.cut_apart.new.self e.base e.first e.octets e.opens e.front done

pub returns-else-region-clause-done : goal.returns-else-region-clause-done
returns-else-region-clause-done c =
    let none : any_true c.args.self.now.bitmap ≡ false = search rules in
    let same : c.args.self.now.region.last ≡ c.args.self.now.region.first = search rules in
    closed_none c.args.self.now.region c.args.self.now.bitmap c.args.out.now.items c.args.insertions.now c.requires same none
