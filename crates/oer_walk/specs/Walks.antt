-- The walk of a value by a table: which parts it shows, and what it takes.
use Rattle.std.specs.Prelude.{◌≡◌, ℕ, zero, suc, ◌+◌, ◌-◌, ◌*◌, ◌^◌, Bool, true, false, cond, not, ◌&&◌, ◌||◌, ◌==◌, nat_lt, nat_le, min, List, [], ◌∷◌, ◌++◌, length, drop, get_or, Option, Some, None, Result, Ok, Err, slice_set}
use Rattle.asn1_core.specs.Octets.{Octets}
use Rattle.asn1_core.specs.declared.codec.Codec.TheVariants.{Oer}
use Rattle.asn1_core.specs.declared.error.DecodeErrorKind.{DecodeErrorKind}
use Rattle.asn1_core.specs.declared.error.DecodeErrorKind.TheVariants.{TypeNotExtensible, InvalidTagVariantOnChoice, ExceedsMaxParseDepth, TooManyEmptyElements}
use Rattle.asn1_core.specs.declared.tag.Tag.{Tag}
use Rattle.oer_leaf_read.specs.ReadingEnumerated.{enumerated_at}
use Rattle.oer_spec.specs.Reading.{◌>>=◌, octets_at, length_at, tag_at, quantity_at}
use Rattle.oer_spec.specs.ReadingBits.{preamble_at, bitmap_at}
use Rattle.oer_walk.specs.Tables.{nothing, kind_of, form_of, component_of, alternative_at, alternative_of, optionals}
use Rattle.oer_walk.specs.declared.nodes.Node.{Node}
use Rattle.oer_walk.specs.declared.places.Place.{Place}
use Rattle.oer_walk.specs.declared.places.Scope.{Scope}
use Rattle.oer_walk.specs.declared.places.Stop.{Stop}
use Rattle.oer_walk.specs.declared.table.Form.{Form}
use Rattle.oer_walk.specs.declared.table.Form.TheVariants.{Fixed, Counted, Enumerated, List as ListForm, Sequence, Choice, Nothing}
use Rattle.oer_walk.specs.declared.table.Parts.{Parts}
use Rattle.oer_walk.specs.declared.table.Component.{Component}
use Rattle.oer_walk.specs.declared.walks.Walked.{Walked}

-- The parts that are shown, in order, and the answer: at Err where and why the walk stops.
pub record Walk (A : Type 0) : Type 0 where
  pub nodes : List Node
  pub answer : Result A Stop

abbrev pub done : {A : Type 0} → A → Walk A
done x = record { nodes = []; answer = Ok x }

abbrev pub stopped : {A : Type 0} → ℕ → DecodeErrorKind → Walk A
stopped at kind = record { nodes = []; answer = Err (record { place = at; kind = kind }) }

-- what goes on behind a reading of what is no part, in a part that begins there
abbrev pub reads : {A B : Type 0} → ℕ → Result A DecodeErrorKind → (A → Walk B) → Walk B
reads at (Ok x) f = f x
reads at (Err kind) f = stopped at kind

abbrev pub onto : {A : Type 0} → List Node → Walk A → Walk A
onto ns w = record { nodes = ns ++ w.nodes; answer = w.answer }

abbrev pub goes_on : {A B : Type 0} → List Node → Result A Stop → ℕ → (ℕ → A → Walk B) → Walk B
goes_on ns (Ok x) n f = onto ns (f (n + length ns) x)
goes_on ns (Err s) n f = record { nodes = ns; answer = Err s }

-- what goes on behind a walk that began at so many nodes
abbrev pub behind : {A B : Type 0} → ℕ → Walk A → (ℕ → A → Walk B) → Walk B
behind n w f = goes_on w.nodes w.answer n f

-- the walk of a part, and of a value: at so many nodes, over these octets
abbrev pub PartWalk : Type 0
PartWalk = Place → ℕ → Octets → Walk Octets

abbrev pub ValueWalk : Type 0
ValueWalk = Scope → ℕ → Octets → Walk (ℕ × Octets)

-- where a part's content begins, where it ends, and what is behind the part
abbrev pub Extent : Type 0
Extent = ℕ × ℕ × Octets

abbrev pub ExtentWalk : Type 0
ExtentWalk = Scope → ℕ → Octets → Walk Extent

-- ---- parts

abbrev pub scope_of : Place → ℕ → ℕ → Scope
scope_of p n start = record { type_number = p.type_number; level = p.level; node = n; start = start; end = p.end; most = p.most }

-- the place of a part of a scope
abbrev pub inside : Scope → ℕ → ℕ → Bool → Place
inside s type_number name is_open = record { name = name; type_number = type_number; level = min (s.level + 1) (2 ^ 32 - 1); around = s.node; is_open = is_open; end = s.end; most = s.most }

abbrev pub node_of : List ℕ → Place → ℕ → Result Extent Stop → Node
node_of ws p start (Ok x) =
    record { name = p.name; type_number = p.type_number; kind = kind_of ws p.type_number; level = p.level; around = p.around; start = start; content = x.0; end = x.1 }
node_of ws p start (Err s) =
    record { name = p.name; type_number = p.type_number; kind = kind_of ws p.type_number; level = p.level; around = p.around; start = start; content = start; end = 2 ^ 64 - 1 }

abbrev pub left_of : Result Extent Stop → Result Octets Stop
left_of (Ok x) = Ok x.2
left_of (Err s) = Err s

-- a part, in front of those inside it
abbrev pub noded : List ℕ → Place → ℕ → Walk Extent → Walk Octets
noded ws p start w = record { nodes = node_of ws p start w.answer ∷ w.nodes; answer = left_of w.answer }

-- a value in octets up to that place ends in front of what it leaves of them; what is behind the part may be something else
abbrev pub ends_before : ℕ → (Octets → Octets) → Result (ℕ × Octets) Stop → Result Extent Stop
ends_before end behind (Ok x) = Ok (x.0, end - length x.1, behind x.1)
ends_before end behind (Err s) = Err s

abbrev pub ending : ℕ → (Octets → Octets) → Walk (ℕ × Octets) → Walk Extent
ending end behind w = record { nodes = w.nodes; answer = ends_before end behind w.answer }

abbrev pub is_nothing : Form → Bool
is_nothing Nothing = true
is_nothing _ = false

-- what an open type has in it, where octets may be left behind the value; octets if the table doesn't have its type
unfoldable pub open_content : ValueWalk → List ℕ → Scope → ℕ → ℕ → Octets → Octets → Walk Extent
open_content value ws s n content octets after =
    cond (is_nothing (form_of ws s.type_number)) (done (content, s.end - length after, after)) (ending (s.end - length after) (λ left. after) (value (record s { end = s.end - length after }) n octets))

-- the octets behind a length, what is behind the length, and what is behind the octets
unfoldable pub behind_length_at : Octets → Result (Octets × Octets × Octets) DecodeErrorKind
behind_length_at input = do
  c ← length_at Oer input
  x ← octets_at c.0 c.1
  Ok (x.0, c.1, x.1)

-- an open type (X.696, 30)
unfoldable pub open_by : ValueWalk → List ℕ → ExtentWalk
open_by value ws s n input = reads s.start (behind_length_at input) (λ x. open_content value ws s n (s.end - length x.1) x.0 x.2)

-- what is in a part whose node is at that place
unfoldable pub within_by : ValueWalk → List ℕ → Place → ℕ → Octets → Walk Extent
within_by value ws p n input =
    let s = scope_of p n (p.end - length input) in
    cond p.is_open (open_by value ws s (n + 1) input) (ending s.end (λ rest. rest) (value s (n + 1) input))

unfoldable pub part_by : ValueWalk → List ℕ → PartWalk
part_by value ws p n input = cond (nat_lt n p.most) (noded ws p (p.end - length input) (within_by value ws p n input)) (stopped (p.end - length input) TooManyEmptyElements)

-- ---- what is inside a list, a sequence or a choice

abbrev pub part_if : Bool → PartWalk → Place → ℕ → Octets → Walk Octets
part_if b part p n input = cond b (part p n input) (done input)

abbrev pub content_at : ℕ → Result Octets Stop → Result (ℕ × Octets) Stop
content_at at (Ok rest) = Ok (at, rest)
content_at at (Err s) = Err s

-- a value whose content begins there
abbrev pub from : ℕ → Walk Octets → Walk (ℕ × Octets)
from at w = record { nodes = w.nodes; answer = content_at at w.answer }

-- how many elements without octets there are with one more
abbrev pub with_empty : Bool → ℕ → Option ℕ
with_empty true empty = cond (nat_lt empty 65536) (Some (empty + 1)) None
with_empty false empty = Some empty

abbrev pub if_few : {A : Type 0} → ℕ → Option ℕ → (ℕ → Walk A) → Walk A
if_few at (Some empty) f = f empty
if_few at None f = stopped at TooManyEmptyElements

-- k elements, after so many without octets (X.696, 17)
unfoldable pub elements_by : PartWalk → Scope → Place → ℕ → ℕ → ℕ → Octets → Walk Octets
elements_by part s p zero empty n input = done input
elements_by part s p (suc k) empty n input =
    behind n (part p n input) (λ m rest. if_few s.start (with_empty (length rest == length input) empty) (λ e. elements_by part s p k e m rest))

abbrev pub extension_count : Parts → ℕ
extension_count ps = cond ps.is_extensible 1 0

-- a component by its presence bit, and the bits behind
abbrev pub is_present : Component → List Bool → Bool
is_present c bits = not c.may_be_absent || get_or bits 0 false

abbrev pub later_bits : Component → List Bool → List Bool
later_bits c bits = cond c.may_be_absent (drop 1 bits) bits

-- k components of the root from the one with that number on, by presence bits (16)
unfoldable pub components_by : PartWalk → List ℕ → Parts → Scope → ℕ → ℕ → List Bool → ℕ → Octets → Walk Octets
components_by part ws ps s zero i bits n input = done input
components_by part ws ps s (suc k) i bits n input =
    let c = component_of ws ps i in
    behind n (part_if (is_present c bits) part (inside s c.type_number c.name false) n input) (λ m rest. components_by part ws ps s k (i + 1) (later_bits c bits) m rest)

-- additions that the table doesn't have, by the bits that are left
unfoldable pub unknown_by : PartWalk → Scope → List Bool → ℕ → Octets → Walk Octets
unknown_by part s [] n input = done input
unknown_by part s (b ∷ bits) n input = behind n (part_if b part (inside s nothing nothing true) n input) (λ m rest. unknown_by part s bits m rest)

-- k additions from the one with that number on, and those that the table doesn't have, by a bitmap's bits
unfoldable pub known_by : PartWalk → List ℕ → Parts → Scope → ℕ → ℕ → List Bool → ℕ → Octets → Walk Octets
known_by part ws ps s zero i bits n input = unknown_by part s bits n input
known_by part ws ps s (suc k) i bits n input =
    let c = component_of ws ps (ps.roots + i) in
    behind n (part_if (get_or bits 0 false) part (inside s c.type_number c.name true) n input) (λ m rest. known_by part ws ps s k (i + 1) (drop 1 bits) m rest)

-- a bitmap, and the additions
unfoldable pub additions_by : PartWalk → List ℕ → Parts → Scope → ℕ → Octets → Walk Octets
additions_by part ws ps s n input = reads s.start (bitmap_at Oer input) (λ b. known_by part ws ps s ps.additions 0 b.0 n b.1)

-- what follows a preamble
unfoldable pub body_by : PartWalk → List ℕ → Parts → Scope → List Bool → ℕ → Octets → Walk Octets
body_by part ws ps s bits n input =
    behind n (components_by part ws ps s ps.roots 0 (drop (extension_count ps) bits) n input)
    (λ m rest. cond (ps.is_extensible && get_or bits 0 false) (additions_by part ws ps s m rest) (done rest))

unfoldable pub sequence_by : PartWalk → List ℕ → Parts → ValueWalk
sequence_by part ws ps s n input =
    reads s.start (preamble_at (extension_count ps + optionals ws ps ps.roots) input) (λ b. from (s.end - length b.1) (body_by part ws ps s b.0 n b.1))

-- the number of the alternative whose tag is at the front, and what is behind the tag (20)
abbrev pub found : Parts → Tag → Octets → Option ℕ → Result (ℕ × Octets) DecodeErrorKind
found ps t rest (Some i) = Ok (i, rest)
found ps t rest None = Err (InvalidTagVariantOnChoice t ps.is_extensible)

unfoldable pub tagged_at : List ℕ → Parts → Octets → Result (ℕ × Octets) DecodeErrorKind
tagged_at ws ps input = do
  t ← tag_at Oer input
  found ps t.0 t.1 (alternative_of ws ps t.0)

abbrev pub chosen : PartWalk → List ℕ → Parts → Scope → ℕ → ℕ → Octets → Walk Octets
chosen part ws ps s i n input = let a = alternative_at ws ps i in part (inside s a.type_number a.name (nat_le ps.roots i)) n input

unfoldable pub choice_by : PartWalk → List ℕ → Parts → ValueWalk
choice_by part ws ps s n input = reads s.start (tagged_at ws ps input) (λ t. from (s.end - length t.1) (chosen part ws ps s t.0 n t.1))

unfoldable pub list_by : PartWalk → ℕ → ValueWalk
list_by part element s n input =
    reads s.start (quantity_at Oer input) (λ q. from (s.end - length q.1) (elements_by part s (inside s element nothing false) q.0 0 n q.1))

-- ---- values

abbrev pub is_leaf : Form → Bool
is_leaf (Fixed k) = true
is_leaf Counted = true
is_leaf Enumerated = true
is_leaf Nothing = true
is_leaf (ListForm element) = false
is_leaf (Sequence ps) = false
is_leaf (Choice ps) = false

-- what is behind the length in front of a leaf, and what is behind it all
unfoldable pub leaf_at : Form → Octets → Result (Octets × Octets) DecodeErrorKind
leaf_at (Fixed k) input = do
  x ← octets_at k input
  Ok (input, x.1)
leaf_at Counted input = do
  x ← behind_length_at input
  Ok (x.1, x.2)
leaf_at Enumerated input = do
  x ← enumerated_at Oer input
  Ok (input, x.1)
leaf_at _ input = Err TypeNotExtensible

-- what is inside a value of that form, whose parts are walked so
unfoldable pub scope_by : PartWalk → List ℕ → Form → ValueWalk
scope_by part ws (ListForm element) s n input = list_by part element s n input
scope_by part ws (Sequence ps) s n input = sequence_by part ws ps s n input
scope_by part ws (Choice ps) s n input = choice_by part ws ps s n input
scope_by part ws _ s n input = stopped s.start TypeNotExtensible

-- a leaf, or what is walked by inner
abbrev pub value_by : (Form → ValueWalk) → Form → ValueWalk
value_by inner form s n input = cond (is_leaf form) (reads s.start (leaf_at form input) (λ x. done (s.end - length x.0, x.1))) (inner form s n input)

-- a value within so many levels: each list, sequence and choice takes one
unfoldable pub value_at : List ℕ → ℕ → ValueWalk
value_at ws zero s n input = value_by (λ form r m rest. stopped r.start ExceedsMaxParseDepth) (form_of ws s.type_number) s n input
value_at ws (suc d) s n input = value_by (λ form. scope_by (part_by (value_at ws d) ws) ws form) (form_of ws s.type_number) s n input

abbrev pub part_at : List ℕ → ℕ → PartWalk
part_at ws d = part_by (value_at ws d) ws

-- ---- a walk's answer

-- no walk shows more parts than this of so many octets
abbrev pub most_of : ℕ → ℕ
most_of octets = min (16 * octets + 65536) (2 ^ 64 - 1)

abbrev pub outermost : ℕ → ℕ → Place
outermost type_number octets = record { name = nothing; type_number = type_number; level = 0; around = 2 ^ 64 - 1; is_open = false; end = octets; most = most_of octets }

unfoldable pub walk_of : List ℕ → ℕ → ℕ → Octets → Walk Octets
walk_of ws type_number levels input = part_at ws levels (outermost type_number (length input)) 0 input

-- nodes from a place on, as far as there is room
abbrev pub overlay : List Node → ℕ → List Node → List Node
overlay room n [] = room
overlay room n (x ∷ xs) = overlay (slice_set room n x) (n + 1) xs

-- what the walk of so many octets came to: those that it took and those that are left are all
abbrev pub Came : ℕ → Result Octets Stop → Walked → Type 0
Came octets (Ok rest) w = (w.consumed + length rest ≡ octets) × (w.refusal ≡ None)
Came octets (Err s) w = (w.consumed ≡ s.place) × (w.refusal ≡ Some s.kind)

pub record IsAnswer (octets : ℕ) (w : Walk Octets) (r : Walked) : Type 0 where
  pub count : r.nodes ≡ length w.nodes
  pub answer : Came octets w.answer r

-- what a function answered, seen by view, is the walk's answer
abbrev pub Answers : {X Y : Type 0} → (X → Y) → Result X Stop → Result Y Stop → Type 0
Answers view (Ok x) answer = answer ≡ Ok (view x)
Answers view (Err s) answer = answer ≡ Err s

-- a function that began at so many nodes answered as the walk does, and left its nodes
pub record IsWalk {X Y : Type 0} (view : X → Y) (r : Result X Stop) (n m : ℕ) (before after : List Node) (w : Walk Y) : Type 0 where
  pub answer : Answers view r w.answer
  pub count : m ≡ n + length w.nodes
  pub nodes : after ≡ overlay before n w.nodes

-- what is left of a walk does the same as the whole
pub record Resumes {A : Type 0} (n : ℕ) (before : List Node) (whole : Walk A) (m : ℕ) (now : List Node) (left : Walk A) : Type 0 where
  pub answer : whole.answer ≡ left.answer
  pub count : n + length whole.nodes ≡ m + length left.nodes
  pub nodes : overlay before n whole.nodes ≡ overlay now m left.nodes
