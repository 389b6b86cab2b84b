use Rattle.std.proofs.Common.{rules, ◌≡◌, sym, subst, inl}
use Rattle.oer_spec.specs.Encoding.{IsEncoding}
use Rattle.oer_spec.specs.Mode.{mode_of}
use Rattle.oer_spec.specs.Tree.{Tree}
use Rattle.oer_read.specs.Law.{Reads}
use Rattle.oer_read.specs.State.{State}
use Rattle.oer_read.proofs.boxes.BoxDecode.decode_with_tag_and_constraints.Goals as goal

-- what was read of a box's content was read of the box
reads_content : {A B : Type 0} (tree : A → Tree) (IsValue : A → Type 0) (content : B → A) (old : State) (b : B) (v : A) (new : State) → content b ≡ v → Reads tree IsValue old v new → Reads (λ (z : B). tree (content z)) (λ (z : B). IsValue (content z)) old b new
reads_content tree IsValue content old b v new e k = record {
  taken = k.taken;
  split = k.split;
  encoding = subst (λ z. IsEncoding (mode_of old.codec) old.levels k.taken (tree z)) (sym e) k.encoding;
  value = subst IsValue (sym e) k.value;
  only = λ w o i f. k.only (content w) o i f;
  rest = k.rest;
}

pub returns-in-Err-clause-law : goal.returns-in-Err-clause-law
returns-in-Err-clause-law g c =
    let k = c.in-Err.ensures.law.refused in
    record { read = tt; refused = record { same = k.same; mode = k.mode; none = λ m w o i f. k.none m w.value o i f } }

pub returns-in-Err-new-clause-answered : goal.returns-in-Err-new-clause-answered
returns-in-Err-new-clause-answered g c =
    let rest = c.in-Ok.ensures.law.read.rest in
    inl (_, _, c.in-Ok.ensures.answered, search rules)

pub returns-clause-law : goal.returns-clause-law
returns-clause-law g c = record { read = reads_content (g.T.Spelled.tree c.args.constraints) g.T.Spelled.IsValue (λ b. b.value) c.args.decoder.now c.in-Ok-new.boxed c.in-Ok.value _ c.in-Ok-new.ensures.ok c.in-Ok.ensures.law.read; refused = tt }
