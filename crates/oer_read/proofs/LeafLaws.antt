-- From what a leaf's reader promises to the law of reading.
use Rattle.std.proofs.Common.{◌≡◌, List, ◌++◌, Result, Ok, Err, refl, sym, ap, ◌∙◌, subst}
use Rattle.std.specs.Borrow.{Bor}
use Rattle.std.specs.Prelude.{ℕ, Bool, []}
use Rattle.asn1_core.specs.Octets.{Octets}
use Rattle.asn1_core.specs.declared.error.DecodeError.{DecodeError}
use Rattle.asn1_core.specs.declared.error.DecodeErrorKind.{DecodeErrorKind}
use Rattle.asn1_core.specs.declared.error.DecodeErrorKind.TheVariants.{OutOfMemory}
use Rattle.oer_spec.proofs.Unambiguous.{unique}
use Rattle.oer_spec.specs.Encoding.{IsTree, IsEncoding}
use Rattle.oer_spec.specs.Leaves.{IsLeafEncoding}
use Rattle.oer_spec.specs.Mode.{Mode, mode_of}
use Rattle.oer_spec.specs.Same.{Alike}
use Rattle.oer_spec.specs.Spelled.{boolean, boolean_is, booleans_alike, null, null_is, nulls_alike, IsAny}
use Rattle.oer_spec.specs.Tree.{Tree, Primitive, Leaf, Boolean}
use Rattle.oer_read.specs.Answers.{Took}
use Rattle.oer_read.specs.Law.{Reads, NoEncoding, Decodes, Fronts}
use Rattle.oer_spec.specs.Reading.{ReadsFront, seen}
use Rattle.oer_read.specs.State.{State}

module _ {A : Type 0} (tree : A → Tree) (IsValue : A → Type 0) where
  -- what is promised of the trees of values
  pub record AreSettled : Type 0 where
    pub is_tree : (v : A) → IsValue v → IsTree (tree v)
    pub alike : (v w : A) → IsValue v → IsValue w → Alike (tree v) (tree w)

  -- an encoding of a value that begins what is left is the only one
  pub only_one : AreSettled → (old : State) (v : A) (o rest : Octets) → IsValue v → old.input ≡ o ++ rest → IsEncoding (mode_of old.codec) old.levels o (tree v)
      → (w : A) (p : Octets) → IsValue w → Fronts old p (tree w) → p ≡ o
  only_one k old v o rest i e f w p j g =
      (unique (tree w) (tree v) (mode_of old.codec) old.levels old.levels p o g.rest rest (k.is_tree w j) (k.is_tree v i) (k.alike w v j i) g.encoding f (sym g.split ∙ e)).0

  pub reads_front : AreSettled → (old : State) (v : A) (new : State) (o rest : Octets) → IsValue v → old.input ≡ o ++ rest → IsEncoding (mode_of old.codec) old.levels o (tree v) → new ≡ record old { input = rest } → Reads tree IsValue old v new
  reads_front k old v new o rest i e f n =
      let at : new.input ≡ rest = ap (λ (s : State). s.input) n in
      record {
        taken = o;
        split = e ∙ ap (λ (r : Octets). o ++ r) (sym at);
        encoding = f;
        value = i;
        only = only_one k old v o rest i e f;
        rest = n ∙ ap (λ (r : Octets). record old { input = r }) (sym at);
      }

  module _ (leaf : A → Leaf) (is_primitive : (v : A) → tree v ≡ Primitive (leaf v)) where
    -- the octets of a leaf are those of its tree
    pub encodes : (m : Mode) (d : ℕ) (o : Octets) (v : A) → IsLeafEncoding m o (leaf v) → IsEncoding m d o (tree v)
    unfolding IsEncoding
    encodes m d o v s = subst (λ (t : Tree). IsEncoding m d o t) (sym (is_primitive v)) s

    pub encoded : (m : Mode) (d : ℕ) (o : Octets) (v : A) → IsEncoding m d o (tree v) → IsLeafEncoding m o (leaf v)
    unfolding IsEncoding
    encoded m d o v s = subst (λ (t : Tree). IsEncoding m d o t) (is_primitive v) s

    -- what a reader answers of a leaf, seen by `show`, is read by the law
    pub leaf_law : {V : Type 0} (show : A → V) (Spells : Octets → V → Type 0) (old : State) → AreSettled
        → ((o : Octets) (v : A) → Spells o (show v) → IsValue v × IsLeafEncoding (mode_of old.codec) o (leaf v))
        → ((o : Octets) (v : A) → IsValue v → IsLeafEncoding (mode_of old.codec) o (leaf v) → Spells o (show v))
        → (answer : Result (A × Bor (List ℕ)) DecodeErrorKind) (result : Result A DecodeError) (new : State)
        → ReadsFront Spells old.input (seen (λ (x : A × Bor (List ℕ)). (show x.0, x.1.now)) answer) → Took answer old result new → Decodes tree IsValue old result new
    leaf_law show Spells old k to from (Ok x) result new (o, e, s) (a, n) =
        let f = encodes (mode_of old.codec) old.levels o x.0 (to o x.0 s).1 in
        subst (λ (r : Result A DecodeError). Decodes tree IsValue old r new) (sym a) (record { read = reads_front k old x.0 new o x.1.now (to o x.0 s).0 e f n; refused = tt })
    leaf_law show Spells old k to from (Err kind) result new none (a, n) =
        let nothing : (kind ≡ OutOfMemory → ⊥) → NoEncoding tree IsValue old = λ m w o j f. none m o f.rest (show w) f.split (from o w j (encoded (mode_of old.codec) old.levels o w f.encoding)) in
        subst (λ (r : Result A DecodeError). Decodes tree IsValue old r new) (sym a) (record { read = tt; refused = record { same = n; mode = refl; none = nothing } })

pub boolean_law : (old : State) (answer : Result (Bool × Bor (List ℕ)) DecodeErrorKind) (result : Result Bool DecodeError) (new : State)
    → ReadsFront (λ o v. IsLeafEncoding (mode_of old.codec) o (Boolean v)) old.input (seen (λ (x : Bool × Bor (List ℕ)). (x.0, x.1.now)) answer)
    → Took answer old result new → Decodes boolean IsAny old result new
unfolding boolean
boolean_law old answer result new f t =
    leaf_law boolean IsAny Boolean (λ v. refl) (λ v. v) (λ o v. IsLeafEncoding (mode_of old.codec) o (Boolean v)) old
    (record { is_tree = λ v i. boolean_is v; alike = λ v w i j. booleans_alike v w }) (λ o v s. (tt, s)) (λ o v i s. s) answer result new f t

null_is_empty : (old : State) → IsEncoding (mode_of old.codec) old.levels [] (null tt)
unfolding null IsEncoding
null_is_empty old = (λ k. refl, refl)

pub null_law : (old : State) → Decodes null IsAny old (Ok tt) old
null_law old = record {
  read = reads_front null IsAny (record { is_tree = λ v i. null_is v; alike = λ v w i j. nulls_alike v w }) old tt old [] old.input tt refl (null_is_empty old) refl;
  refused = tt;
}
