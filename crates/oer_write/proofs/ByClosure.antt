-- From what a component's closure writes to the component's row.
use Rattle.std.proofs.Common.{◌≡◌, [], ◌∷◌, ◌++◌, Result, Ok, Err, refl, ap, sym, ◌∙◌, subst, inl, inr, rules}
use Rattle.std.specs.Prelude.{OnOk, IfErr}
use Rattle.std.proofs.lemmas.List.{append_cancel_left}
use Rattle.asn1_core.specs.Octets.{Octets}
use Rattle.asn1_core.specs.declared.error.EncodeError.{EncodeError}
use Rattle.asn1_core.specs.declared.tag.Tag.{Tag}
use Rattle.oer_spec.specs.Encoding.{IsEncodable, canonical_octets}
use Rattle.oer_spec.specs.Places.{needed}
use Rattle.oer_spec.specs.Tree.{Tree, NoRows}
use Rattle.oer_write.specs.ByClosure.{PutBy, KeptBy, ComponentBroken, IsKnownToWriteTree}
use Rattle.oer_write.specs.Lists.{WroteElement}
use Rattle.oer_write.specs.Rows.{RowsDone, SetDone, RowsRefused, WritesRows, WritesSet, required}
use Rattle.oer_write.specs.Scopes.{Runs}
use Rattle.oer_write.specs.Written.{Written, append, Encodes}

-- what was written has the octets of the tree
tree_octets : {runs : Runs} (t : Tree) (o : Octets) → IsKnownToWriteTree runs t → WroteElement runs o → (o ≡ canonical_octets t) × IsEncodable t
tree_octets t o known w =
    let h : Encodes t w.entered w.left = known _ _ _ w.opened w.ran in
    (append_cancel_left w.entered.octets _ _ (sym w.wrote ∙ ap (λ (e : Written). e.octets) h.written), h.encodable)

appended_row : (t : Tree) (tag : Tag) (old : Written) → IsEncodable t → RowsDone (required tag t) NoRows old (append (canonical_octets t) old)
appended_row t tag old h = record {
  roots_encodable = (h, tt);
  additions_encodable = tt;
  octets = search rules;
  frame = search rules;
  outer = refl;
}

kept_row : (t : Tree) (tag : Tag) (old : Written) → IsEncodable t → SetDone (required tag t) NoRows old (record old { frame = record old.frame { components = old.frame.components ++ (needed tag (canonical_octets t) ∷ []) } })
kept_row t tag old h = record {
  roots_encodable = (h, tt);
  additions_encodable = tt;
  octets = search rules;
  frame = search rules;
  outer = refl;
}

-- a closure that writes a tree: its row is written
row_done : {runs : Runs} {old new : Written} (tag : Tag) (t : Tree) → IsKnownToWriteTree runs t → PutBy runs old new → RowsDone (required tag t) NoRows old new
row_done {runs} {old} {new} tag t known h =
    let own = tree_octets t h.content known h.wrote in
    subst (λ (e : Written). RowsDone (required tag t) NoRows old e) (sym (h.appended ∙ ap (λ (o : Octets). append o old) own.0)) (appended_row t tag old own.1)

set_row_done : {runs : Runs} {old new : Written} (tag : Tag) (t : Tree) → IsKnownToWriteTree runs t → KeptBy runs tag old new → SetDone (required tag t) NoRows old new
set_row_done {runs} {old} {new} tag t known h =
    let own = tree_octets t h.content known h.wrote in
    subst (λ (e : Written). SetDone (required tag t) NoRows old e) (sym (h.kept ∙ ap (λ (o : Octets). record old { frame = record old.frame { components = old.frame.components ++ (needed tag o ∷ []) } }) own.0)) (kept_row t tag old own.1)

-- and where the component refuses, it does so by the law
row_refused : {runs : Runs} {old new : Written} (tag : Tag) (t : Tree) → IsKnownToWriteTree runs t → (x : EncodeError) → ComponentBroken runs x old new → RowsRefused (required tag t) NoRows x old new
row_refused {runs} {old} {new} tag t known x broken = record {
  reason = elim broken.reason [
    | inl m ↦ inl m.0
    | inr s ↦ elim (known _ _ _ s.opened s.ran).reason [ inl m ↦ inl m | inr f ↦ inr (inl (inl f)) ]
  ];
  mode = elim broken.reason [ inl m ↦ m.1 | inr s ↦ (known _ _ _ s.opened s.ran).mode ];
  keeps = broken.keeps;
}

-- ---- in a sequence

-- so the call writes the row, or is refused by its law: in a sequence, and in a set
pub row_written : {runs : Runs} (old new : Written) (tag : Tag) (t : Tree) → IsKnownToWriteTree runs t → (r : Result (Unit {0}) EncodeError) → OnOk r (PutBy runs old new) → IfErr r (λ x. ComponentBroken runs x old new) → WritesRows (required tag t) NoRows old r new
row_written old new tag t known (Ok u) done broken = row_done tag t known done
row_written old new tag t known (Err x) done broken = row_refused tag t known x broken

pub set_row_written : {runs : Runs} (old new : Written) (tag : Tag) (t : Tree) → IsKnownToWriteTree runs t → (r : Result (Unit {0}) EncodeError) → OnOk r (KeptBy runs tag old new) → IfErr r (λ x. ComponentBroken runs x old new) → WritesSet (required tag t) NoRows old r new
set_row_written old new tag t known (Ok u) done broken = set_row_done tag t known done
set_row_written old new tag t known (Err x) done broken = row_refused tag t known x broken
