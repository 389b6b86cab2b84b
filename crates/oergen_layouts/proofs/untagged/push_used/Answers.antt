use Rattle.std.proofs.Common.{Bool, [], ◌∷◌, ◌++◌, sym, subst}
use Rattle.std.specs.List.{AllZip}
use Rattle.oergen_layouts.specs.Untagged.{IsAtPlaces, used_of}
use Rattle.oergen_layouts.proofs.Placing.{unused_push, used_push}
use Rattle.oergen_layouts.proofs.untagged.push_used.Goals as goal

pub returns-then-is_unused : goal.returns-then-is_unused
returns-then-is_unused c = λ before so_far.
    let R = IsAtPlaces c.args.places.now in
    let kept = c.args.kept.now.items in
    subst (λ (it : Bool). AllZip R (used_of (before ++ (c.args.definition, it) ∷ [])) kept) (sym c.if-is_unused.true) (unused_push R before c.args.definition kept so_far)

pub returns : goal.returns
returns c = λ before so_far.
    let R = IsAtPlaces c.args.places.now in
    let next = c.push.new.self.items in
    subst (λ (it : Bool). AllZip R (used_of (before ++ (c.args.definition, it) ∷ [])) next) (sym c.if-is_unused.false)
    (used_push R before c.args.definition c.place_targets.new.definition c.args.kept.now.items next so_far c.place_targets.ensures c.in_ok-push.ensures.items)
