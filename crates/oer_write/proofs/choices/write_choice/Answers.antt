use Rattle.std.proofs.Common.{◌≡◌, ◌++◌, true, false, Bool, arith, length, length-append, ap, sym, ◌∙◌, subst}
use Rattle.std.proofs.lemmas.Result.{on_ok_weaker}
use Rattle.oer_spec.specs.Lengths.{tag_octets}
use Rattle.oer_write.specs.Choices.{alternative_octets}
use Rattle.oer_write.specs.Layout.{Adds}
use Rattle.oer_write.proofs.Layouts.{ascends_more}
use Rattle.oer_write.proofs.Nesting.{adds_behind}
use Rattle.oer_write.proofs.choices.write_choice.Goals as goal

pub returns-then-is_root-clause-done : goal.returns-then-is_root-clause-done
returns-then-is_root-clause-done g c =
    let root : c.args.is_root ≡ true = c.if-is_root.true in
    on_ok_weaker c.pick_into.result (λ h. (
      h.0,
      h.1,
      (λ (other : c.args.is_root ≡ false). (let z : true ≡ false = sym root ∙ other in absurd cc)),
      subst (λ (b : Bool). Adds (tag_octets c.args.tag ++ alternative_octets b h.0) c.args.out.now.items c.args.insertions.now c.pick_into.new.out.items c.pick_into.new.insertions) (sym root)
          (adds_behind c.args.out.now.items c.write_tag.new.out.items (tag_octets c.args.tag) h.0 c.pick_into.new.out.items c.args.insertions.now c.pick_into.new.insertions c.in_ok-write_tag.ensures h.2),
    )) c.pick_into.ensures.done

pub returns-clause-done : goal.returns-clause-done
returns-clause-done g c =
    let other : c.args.is_root ≡ false = c.if-is_root.false in
    on_ok_weaker c.pick_open.result (λ h. (
      h.0,
      h.1,
      (λ (z : c.args.is_root ≡ false). h.2),
      subst (λ (b : Bool). Adds (tag_octets c.args.tag ++ alternative_octets b h.0) c.args.out.now.items c.args.insertions.now c.pick_open.new.out.items c.pick_open.new.insertions) (sym other)
          (adds_behind c.args.out.now.items c.write_tag.new.out.items (tag_octets c.args.tag) _ c.pick_open.new.out.items c.args.insertions.now c.pick_open.new.insertions c.in_ok-write_tag.ensures h.3),
    )) c.pick_open.ensures.done

pub pick_into-requires-clause-ascends : goal.pick_into-requires-clause-ascends
pick_into-requires-clause-ascends g c = ascends_more 0 c.args.insertions.now (length c.args.out.now.items) (length c.write_tag.new.out.items) c.requires.ascends (omega (arith, ap length c.in_ok-write_tag.ensures, length-append c.args.out.now.items (tag_octets c.args.tag)))

pub pick_open-requires-clause-ascends : goal.pick_open-requires-clause-ascends
pick_open-requires-clause-ascends g c = ascends_more 0 c.args.insertions.now (length c.args.out.now.items) (length c.write_tag.new.out.items) c.requires.ascends (omega (arith, ap length c.in_ok-write_tag.ensures, length-append c.args.out.now.items (tag_octets c.args.tag)))
