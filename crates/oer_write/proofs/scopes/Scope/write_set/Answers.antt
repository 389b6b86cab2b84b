use Rattle.std.proofs.Common.{◌≡◌, ◌++◌, [], append-nil, map, sym, subst, ◌∙◌, rules}
use Rattle.std.proofs.lemmas.Result.{err_from_is_err_and}
use Rattle.asn1_core.specs.Octets.{Octets, pack}
use Rattle.oer_spec.specs.Places.{bodies, extension_bit, presence}
use Rattle.oer_spec.specs.Writing.{AppendsOrMemory}
use Rattle.oer_write.specs.Kept.{item}
use Rattle.oer_write.specs.Scopes.{any_true, extension_of}
use Rattle.oer_write.specs.Seen.{frame_of}
use Rattle.oer_write.proofs.Closing.{apart}
use Rattle.oer_write.proofs.Places.{set_written}
use Rattle.oer_write.proofs.scopes.Scope.write_set.Goals as goal

pub returns-in_err-put_presence : goal.returns-in_err-put_presence
returns-in_err-put_presence c = λ o is.
    let p = err_from_is_err_and c.from_residual-in_err-put_presence.result c.from_residual-in_err-put_presence.ensures.1 in
    rw (p.1, p.2) (c.in_err-put_presence.ensures.refused, ([], sym (append-nil _)))

pub returns : goal.returns
returns c = λ o is.
    let own : (frame_of o is c.args.self.now).components ≡ map (item c.places.inside.octets.items) c.places.inside.places.items = sym (c.places.view_is ∙ c.replace.ensures.value) in
    let bits : c.put_presence.new.bits ≡ presence (map (item []) c.arrange.new.components.items) = search rules in
    let front : c.write_preamble.new.out.items ≡ c.args.out.now.items ++ pack (extension_bit c.args.self.now.extensible (any_true c.args.self.now.bitmap) ++ c.put_presence.new.bits) = search rules in
    let rear : c.put_bodies.new.out.items ≡ c.write_preamble.new.out.items ++ bodies (map (item c.places.inside.octets.items) c.arrange.new.components.items) = search rules in
    set_written c.write_extension.result (frame_of o is c.args.self.now) c.places.inside.places.items c.arrange.new.components.items c.places.inside.octets.items c.put_presence.new.bits c.args.out.now.items c.write_preamble.new.out.items c.put_bodies.new.out.items c.write_extension.new.out.items
    own (c.in_ok-arrange.ensures.done c.places.inside.octets.items) bits front rear
    (subst (λ (x : Octets). AppendsOrMemory c.write_extension.result (extension_of c.args.self.now.bitmap x) c.put_bodies.new.out.items c.write_extension.new.out.items) (sym (apart o is c.args.self.now c.requires)) c.write_extension.ensures)
