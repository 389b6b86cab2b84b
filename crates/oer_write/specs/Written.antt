-- What contracts see of an encoder: the octets written, and the open scopes.
use Rattle.std.specs.Prelude.{◌≡◌, ℕ, Bool, true, false, List, [], ◌++◌, ◌⊎◌, Some, Result, Ok, Err}
use Rattle.asn1_core.specs.Octets.{Octets}
use Rattle.asn1_core.specs.declared.codec.Codec.TheVariants.{Coer}
use Rattle.asn1_core.specs.declared.error.EncodeError.{EncodeError}
use Rattle.asn1_core.specs.declared.error.EncodeErrorKind.TheVariants.{OutOfMemory}
use Rattle.oer_spec.specs.Encoding.{IsEncodable, canonical_octets}
use Rattle.oer_spec.specs.Places.{Item}
use Rattle.oer_spec.specs.Tree.{Leaf, Tree}
use Rattle.oer_spec.specs.Writing.{BeginsWith}
use Rattle.oer_spec.specs.Failures.{Fails, first_failure}
use Rattle.oer_spec.specs.WritingTexts.{identifier_failure}

-- A scope: whether it is open, what kind it is, and what was recorded in it so far.
pub record WriteFrame : Type 0 where
  pub is_open : Bool
  pub is_set : Bool
  pub extensible : Bool
  -- how many octets were written when it was opened
  pub start : ℕ
  -- a sequence's presence bits
  pub presence : List Bool
  -- a set's root components, in the order handed in
  pub components : List Item
  -- for each addition whether it is present, and the open types of those that are
  pub bitmap : List Bool
  pub opens : Octets

pub record Written : Type 0 where
  pub octets : Octets
  -- the innermost scope, whose is_open is false where none is, and those around it
  pub frame : WriteFrame
  pub outer : List WriteFrame

-- a scope in which nothing was recorded
abbrev pub fresh : Bool → Bool → ℕ → WriteFrame
fresh is_set extensible start = record { is_open = true; is_set = is_set; extensible = extensible; start = start; presence = []; components = []; bitmap = []; opens = [] }

-- no scope
abbrev pub no_scope : WriteFrame
no_scope = record { is_open = false; is_set = false; extensible = false; start = 0; presence = []; components = []; bitmap = []; opens = [] }

abbrev pub append : Octets → Written → Written
append octets e = record e { octets = e.octets ++ octets }

-- What every call leaves of an encoder: the octets before it, and the same open scopes, the outer ones as they were, the
-- innermost of the same kind and begun at the same place.
pub record Keeps (e e' : Written) : Type 0 where
  pub octets : BeginsWith e.octets e'.octets
  pub is_open : e'.frame.is_open ≡ e.frame.is_open
  pub is_set : e'.frame.is_set ≡ e.frame.is_set
  pub extensible : e'.frame.extensible ≡ e.frame.extensible
  pub start : e'.frame.start ≡ e.frame.start
  pub outer : e'.outer ≡ e.outer

-- The law of writing: a tree that can be written, and its canonical octets behind those of before, nothing else changed.
pub record Encodes (t : Tree) (e e' : Written) : Type 0 where
  pub encodable : IsEncodable t
  pub written : e' ≡ append (canonical_octets t) e

-- a refusal for want of memory, in the mode that is written in
abbrev pub WantsMemory : EncodeError → Type 0
WantsMemory x = (x.kind ≡ OutOfMemory) × (x.codec ≡ Coer)

-- Refused for want of memory, or by a kind whose condition the tree breaks; it names the mode that is written in.
pub record Refused (t : Tree) (x : EncodeError) (e e' : Written) : Type 0 where
  pub reason : (x.kind ≡ OutOfMemory) ⊎ Fails t x.kind
  pub mode : x.codec ≡ Coer
  pub keeps : Keeps e e'

-- Of a leaf: by the first condition that it breaks.
pub record RefusedLeaf (l : Leaf) (x : EncodeError) (e e' : Written) : Type 0 where
  pub reason : (x.kind ≡ OutOfMemory) ⊎ (first_failure l ≡ Some x.kind)
  pub mode : x.codec ≡ Coer
  pub keeps : Keeps e e'

-- Of an identifier: by arcs that are none, then as a leaf.
pub record RefusedIdentifier (arcs : List ℕ) (x : EncodeError) (e e' : Written) : Type 0 where
  pub reason : (x.kind ≡ OutOfMemory) ⊎ (identifier_failure arcs ≡ Some x.kind)
  pub mode : x.codec ≡ Coer
  pub keeps : Keeps e e'

-- the law by what a call answers
abbrev pub WritesTree : Tree → Written → Result (Unit {0}) EncodeError → Written → Type 0
WritesTree t e (Ok u) e' = Encodes t e e'
WritesTree t e (Err x) e' = Refused t x e e'
