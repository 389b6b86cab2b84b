-- What a choice does, by what its closure does.
use Rattle.std.specs.Prelude.{◌≡◌, ℕ, Bool, true, false, cond, nat_lt, List, length, Option, Some, None, Result, Ok, Err, IfOk, IfErr}
use Rattle.std.specs.Borrow.{Bor, MutBor}
use Rattle.std.specs.Option.{option_map}
use denote.Param.Members.{Once}
use Rattle.asn1_core.specs.Octets.{Octets, AreOctets}
use Rattle.asn1_core.specs.Tags.{holds}
use Rattle.asn1_core.specs.declared.codec.Codec.{Codec}
use Rattle.asn1_core.specs.declared.error.DecodeError.{DecodeError}
use Rattle.asn1_core.specs.declared.error.DecodeErrorKind.{DecodeErrorKind}
use Rattle.asn1_core.specs.declared.error.DecodeErrorKind.TheVariants.{InvalidTagVariantOnChoice}
use Rattle.asn1_core.specs.declared.tag.Tag.{Tag}
use Rattle.oer_spec.specs.Reading.{◌>>=◌, ◌>>◌, canonical, content_at, tag_at}
use Rattle.oer_spec.specs.Tree.{Tree}
use Rattle.oer_read.specs.Law.{Reads, NoEncoding, IsForMemory}
use Rattle.oer_read.specs.Scopes.{level_at}
use Rattle.oer_read.specs.State.{State, closed}

-- the tag of a choice, the decoder that is lent for its alternative, and behind an open type what follows it
pub record Chosen : Type 0 where
  pub tag : Tag
  pub lent : State
  pub behind : Option Octets

-- the same of what code answers
abbrev pub chosen_of : Tag × State × Option (Bor Octets) → Chosen
chosen_of x = record { tag = x.0; lent = x.1; behind = option_map (λ o. o.now) x.2 }

-- whether the tag is one of a root alternative; a tag of neither table is refused
abbrev pub place_at : List Tag → List Tag → Bool → Tag → Result Bool DecodeErrorKind
place_at roots additions extensible g = cond (holds roots g) (Ok true) (cond (holds additions g) (Ok false) (Err (InvalidTagVariantOnChoice g extensible)))

-- a decoder of these octets, within that many levels
abbrev pub lent_alternative : State → ℕ → Octets → State
lent_alternative s levels input = record { input = input; codec = s.codec; levels = levels; frame = closed }

-- an alternative behind its tag: a root one directly, an addition in an open type
abbrev pub alternative_at : State → ℕ → Tag → Octets → Bool → Result Chosen DecodeErrorKind
alternative_at s levels g input true = Ok (record { tag = g; lent = lent_alternative s levels input; behind = None })
alternative_at s levels g input false = content_at s.codec input >>= λ c. Ok (record { tag = g; lent = lent_alternative s levels c.0; behind = Some c.1 })

-- What a choice lends to its closure: a level, the tag, its place in the tables, and the alternative's octets.
unfoldable pub chosen_at : State → List Tag → List Tag → Bool → Result Chosen DecodeErrorKind
chosen_at s roots additions extensible = do
  levels ← level_at s.levels
  tag ← tag_at s.codec s.input
  is_root ← place_at roots additions extensible tag.0
  alternative_at s levels tag.0 tag.1 is_root

-- What is left behind an alternative that left `rest` of what it was lent: canonically nothing of an open type is left over.
abbrev pub behind_at : Codec → Option Octets → Octets → Result Octets DecodeErrorKind
behind_at codec None rest = Ok rest
behind_at codec (Some behind) rest = canonical codec (nat_lt 0 (length rest)) >> Ok behind

-- `f` may be called once, at a `&mut` to x and at a
abbrev pub FnOnceTakesAtMutWith : {F T B R : Type 0} → Once F (MutBor T × (B × Unit {0})) R → F → T → B → Type 0
FnOnceTakesAtMutWith {F} {T} g f x a = (p : MutBor T) → p.now ≡ x → g.pre f (p, (a, tt))

-- at a `&mut` to x and at a, it may give r and leave y there
pub record FnOnceReturnsAtMutWith {F T B R : Type 0} (g : Once F (MutBor T × (B × Unit {0})) (R × (MutBor T × Unit {0}))) (f : F) (a : B) (x : T) (r : R) (y : T) : Type 0 where
  pub shown : MutBor T
  pub shows : shown.now ≡ x
  pub left : MutBor T
  pub met : g.post f (shown, (a, tt)) (r, (left, tt))
  pub leaves : left.now ≡ y

module _ {A : Type 0} (Ran : Tag → State → Result A DecodeError → State → Type 0) (roots additions : List Tag) (extensible : Bool) (old : State) where
  -- The closure answered the value for the tag, on the decoder that it was lent, and what is left is behind the alternative.
  pub record ChoiceRead (v : A) (new : State) : Type 0 where
    pub chosen : Chosen
    pub opened : chosen_at old roots additions extensible ≡ Ok chosen
    pub after : State
    pub ran : Ran chosen.tag chosen.lent (Ok v) after
    pub rest : Octets
    pub closed : behind_at old.codec chosen.behind after.input ≡ Ok rest
    pub left : new ≡ record old { input = rest }
    pub octets : AreOctets old.input

  -- The first that applies: no level is left, or the tag or the open type is refused; the closure refused with that very
  -- error; octets of the open type are left over, in canonical mode.
  pub data ChoiceRefused (e : DecodeError) : Type 0 where
    NotChosen : chosen_at old roots additions extensible ≡ Err e.kind → e.codec ≡ old.codec → ChoiceRefused e
    Stopped : (chosen : Chosen) (after : State) → chosen_at old roots additions extensible ≡ Ok chosen → Ran chosen.tag chosen.lent (Err e) after → ChoiceRefused e
    LeftOver : (chosen : Chosen) (after : State) (v : A) → chosen_at old roots additions extensible ≡ Ok chosen → Ran chosen.tag chosen.lent (Ok v) after → behind_at old.codec chosen.behind after.input ≡ Err e.kind → e.codec ≡ old.codec → ChoiceRefused e

  -- a choice was read or refused, by what its closure promises
  pub record ChoiceAnswers (result : Result A DecodeError) (new : State) : Type 0 where
    pub read : IfOk result (λ v. ChoiceRead v new)
    pub refused : IfErr result (λ e. ChoiceRefused e)

-- The law of a closure that reads the alternative with that tag: such a value was read; or the error names the mode read in
-- and, unless memory was refused, no encoding of what such a value holds begins what is left.
pub record ReadsAlternative {A : Type 0} (child : A → Tree) (IsValue : A → Type 0) (tag_of : A → Tag) (g : Tag) (old : State) (result : Result A DecodeError) (new : State) : Type 0 where
  pub read : IfOk result (λ v. Reads child (λ w. IsValue w × (tag_of w ≡ g)) old v new)
  pub mode : IfErr result (λ e. e.codec ≡ old.codec)
  pub none : IfErr result (λ e. (IsForMemory e → ⊥) → NoEncoding child (λ w. IsValue w × (tag_of w ≡ g)) old)
