-- The trees of values, and what is promised of them.
use Rattle.std.specs.Prelude.{◌≡◌, ℕ, ◌==◌, ◌++◌, Bool, true, false, ◌&&◌, ℤ, pos, negsuc, List, [], ◌∷◌, Option, Some, None, ⊤, refl, nat_eq}
use Rattle.std.specs.Bool.{Decides, beq}
use Rattle.std.specs.Cmp.{booleans_Decides, signed_Decides, unsigned_Decides}
use Rattle.std.specs.Cmp.Lexicographic.{pointwise, pointwise_decides, bytes_decides}
use Rattle.std.specs.Ordering.{int_eq}
use Rattle.std.proofs.Common.{ap, sym, ◌∙◌}
use Rattle.std.proofs.lemmas.Bool.Decides.{Decides-and}
use Rattle.jiff_core.specs.declared.civil.date.Date.{Date}
use Rattle.jiff_core.specs.declared.civil.datetime.DateTime.{DateTime}
use Rattle.asn1_core.specs.Bounds.{is_consistent, value_bounds, size_bounds}
use Rattle.asn1_core.specs.Numbers.{in_isize}
use Rattle.asn1_core.specs.Octets.{Octets, AreOctets}
use Rattle.asn1_core.specs.Texts.{Rule, Obeys, Utc, Generalized}
use Rattle.asn1_core.specs.Texts.{Date as DateRule}
use Rattle.asn1_core.specs.declared.constraints.Constraints.{Constraints}
use Rattle.asn1_times.proofs.TimeTexts.{utc_law, generalized_law, date_law}
use Rattle.asn1_times.specs.Times.{utc_text, generalized_text, date_text}
use Rattle.asn1_strings.proofs.IdentifierSpelling.{identifiers_obey, spells_one}
use Rattle.asn1_strings.specs.Identifiers.{is_identifier, arcs_octets}
use Rattle.asn1_strings.specs.NamedBits.{IsNamed}
use Rattle.oer_spec.specs.Encoding.{IsTree, AreTrees}
use Rattle.oer_spec.specs.Same.{Same, SameTrees, Alike, AlikeTrees, EachTree}
use Rattle.oer_spec.specs.TimeTexts.{time_content}
use Rattle.oer_spec.specs.Tree.{Tree, Primitive, Boolean, Null, Enum, Int, Bits, Named, Text, InOctets, ListOf, Trees, NoTrees, More}
use Rattle.oer_spec.specs.WritingTexts.{identifier_leaf}

-- every range of the constraints holds a number
abbrev pub IsConsistent : Constraints → Type 0
IsConsistent c = is_consistent c ≡ true

-- every value is one that the type admits
abbrev pub IsAny : {A : Type 0} → A → Type 0
IsAny v = ⊤

abbrev pub EachValue : {A : Type 0} → (A → Type 0) → List A → Type 0
EachValue IsValue [] = ⊤
EachValue IsValue (v ∷ vs) = IsValue v × EachValue IsValue vs

-- the trees of a list's elements
abbrev pub trees_of : {A : Type 0} → (A → Tree) → List A → Trees
trees_of tree [] = NoTrees
trees_of tree (v ∷ vs) = More (tree v) (trees_of tree vs)

unfoldable pub boolean : Bool → Tree
boolean b = Primitive (Boolean b)

unfoldable pub null : Unit {0} → Tree
null v = Primitive Null

-- an integer under constraints
unfoldable pub integer : Constraints → ℤ → Tree
integer c n = Primitive (Int (value_bounds c) n)

-- a bit string under constraints
unfoldable pub bit_string : Constraints → List Bool → Tree
bit_string c b = Primitive (Bits (size_bounds c) b)

-- named bits under constraints
unfoldable pub named_bit_string : Constraints → List Bool → Tree
named_bit_string c b = Primitive (Named (size_bounds c) b)

-- octets that obey a rule, under constraints; and those whose size no constraint bounds
unfoldable pub text : Rule → Constraints → Octets → Tree
text r c o = Primitive (Text r (size_bounds c) (InOctets o))

unfoldable pub unsized_text : Rule → Octets → Tree
unsized_text r o = Primitive (Text r None (InOctets o))

-- octets that obey the rule
pub record IsTextOf (r : Rule) (o : Octets) : Type 0 where
  pub octets : AreOctets o
  pub obeys : Obeys r o

-- an enumerated value, by its number
unfoldable pub enumerated : ℤ → Tree
enumerated n = Primitive (Enum n)

-- an object identifier, by its arcs
unfoldable pub identifier : List ℕ → Tree
identifier arcs = Primitive (identifier_leaf arcs)

abbrev pub IsIdentifier : List ℕ → Type 0
IsIdentifier arcs = is_identifier arcs ≡ true

-- a time or a day, by its text where it has one, else by its civil fields
unfoldable pub time : Rule → Option Octets → List ℕ → Tree
time r o fields = Primitive (Text r None (time_content o fields))

-- a year's sign and the number behind it
abbrev pub year_fields : ℤ → List ℕ
year_fields (pos n) = 0 ∷ n ∷ []
year_fields (negsuc n) = 1 ∷ n ∷ []

abbrev pub day_fields : Date → List ℕ
day_fields d = year_fields d.year ++ (d.month ∷ d.day ∷ [])

abbrev pub moment_fields : DateTime → List ℕ
moment_fields t = day_fields t.date ++ (t.time.hour ∷ t.time.minute ∷ t.time.second ∷ t.time.subsec_nanosecond ∷ [])

abbrev pub utc_time : DateTime → Tree
utc_time t = time Utc (utc_text t) (moment_fields t)

abbrev pub generalized_time : DateTime → Tree
generalized_time t = time Generalized (generalized_text t) (moment_fields t)

abbrev pub date : Date → Tree
date d = time DateRule (date_text d) (day_fields d)

unfoldable pub list_of : {A : Type 0} → Bool → (A → Tree) → List A → Tree
list_of ordered tree vs = ListOf ordered (trees_of tree vs)

pub boolean_is : (b : Bool) → IsTree (boolean b)
unfolding boolean Rattle.oer_spec.specs.Encoding.IsTree
boolean_is b = tt

pub booleans_alike : (a b : Bool) → Alike (boolean a) (boolean b)
unfolding boolean Rattle.oer_spec.specs.Same.Alike
booleans_alike a b = tt

pub null_is : (v : Unit {0}) → IsTree (null v)
unfolding null Rattle.oer_spec.specs.Encoding.IsTree
null_is v = tt

pub nulls_alike : (v w : Unit {0}) → Alike (null v) (null w)
unfolding null Rattle.oer_spec.specs.Same.Alike
nulls_alike v w = tt

pub integer_is : (c : Constraints) (n : ℤ) → IsTree (integer c n)
unfolding integer Rattle.oer_spec.specs.Encoding.IsTree
integer_is c n = tt

pub integers_alike : (c : Constraints) (m n : ℤ) → Alike (integer c m) (integer c n)
unfolding integer Rattle.oer_spec.specs.Same.Alike
integers_alike c m n = refl

pub bit_string_is : (c : Constraints) (b : List Bool) → IsTree (bit_string c b)
unfolding bit_string Rattle.oer_spec.specs.Encoding.IsTree
bit_string_is c b = tt

pub bit_strings_alike : (c : Constraints) (a b : List Bool) → Alike (bit_string c a) (bit_string c b)
unfolding bit_string Rattle.oer_spec.specs.Same.Alike
bit_strings_alike c a b = refl

pub named_bit_string_is : (c : Constraints) (b : List Bool) → IsNamed b → IsTree (named_bit_string c b)
unfolding named_bit_string Rattle.oer_spec.specs.Encoding.IsTree
named_bit_string_is c b i = i

pub named_bit_strings_alike : (c : Constraints) (a b : List Bool) → Alike (named_bit_string c a) (named_bit_string c b)
unfolding named_bit_string Rattle.oer_spec.specs.Same.Alike
named_bit_strings_alike c a b = refl

pub text_is : (r : Rule) (c : Constraints) (o : Octets) → IsTextOf r o → IsTree (text r c o)
unfolding text Rattle.oer_spec.specs.Encoding.IsTree
text_is r c o i = (i.octets, i.obeys)

pub texts_alike : (r : Rule) (c : Constraints) (o p : Octets) → Alike (text r c o) (text r c p)
unfolding text Rattle.oer_spec.specs.Same.Alike
texts_alike r c o p = (refl, refl)

pub unsized_text_is : (r : Rule) (o : Octets) → IsTextOf r o → IsTree (unsized_text r o)
unfolding unsized_text Rattle.oer_spec.specs.Encoding.IsTree
unsized_text_is r o i = (i.octets, i.obeys)

pub unsized_texts_alike : (r : Rule) (o p : Octets) → Alike (unsized_text r o) (unsized_text r p)
unfolding unsized_text Rattle.oer_spec.specs.Same.Alike
unsized_texts_alike r o p = (refl, refl)

pub enumerated_is : (n : ℤ) → in_isize n ≡ true → IsTree (enumerated n)
unfolding enumerated Rattle.oer_spec.specs.Encoding.IsTree
enumerated_is n i = i

pub enumerated_alike : (m n : ℤ) → Alike (enumerated m) (enumerated n)
unfolding enumerated Rattle.oer_spec.specs.Same.Alike
enumerated_alike m n = tt

pub identifier_is : (arcs : List ℕ) → IsIdentifier arcs → IsTree (identifier arcs)
unfolding identifier Rattle.oer_spec.specs.Encoding.IsTree
identifier_is arcs i = identifiers_obey arcs i

pub identifiers_alike : (arcs others : List ℕ) → Alike (identifier arcs) (identifier others)
unfolding identifier Rattle.oer_spec.specs.Same.Alike
identifiers_alike arcs others = (refl, refl)

-- a text obeys its rule, where there is one
abbrev pub TextObeys : Rule → Option Octets → Type 0
TextObeys r text = (o : Octets) → text ≡ Some o → AreOctets o × Obeys r o

time_is : (r : Rule) (text : Option Octets) (fields : List ℕ) → TextObeys r text → IsTree (time r text fields)
unfolding time Rattle.oer_spec.specs.Encoding.IsTree
time_is r None fields h = tt
time_is r (Some o) fields h = h o refl

pub utc_time_is : (t : DateTime) → IsTree (utc_time t)
utc_time_is t = time_is Utc (utc_text t) (moment_fields t) (utc_law t)

pub generalized_time_is : (t : DateTime) → IsTree (generalized_time t)
generalized_time_is t = time_is Generalized (generalized_text t) (moment_fields t) (generalized_law t)

pub date_is : (d : Date) → IsTree (date d)
date_is d = time_is DateRule (date_text d) (day_fields d) (date_law d)

pub times_alike : (r : Rule) (text other : Option Octets) (fields others : List ℕ) → Alike (time r text fields) (time r other others)
unfolding time Rattle.oer_spec.specs.Same.Alike
times_alike r text other fields others = (refl, refl)

-- ---- equality of trees

pub booleans_same : (a b : Bool) → Decides (beq a b) (Same (boolean a) (boolean b))
unfolding boolean Rattle.oer_spec.specs.Same.Same
booleans_same a b = (λ e. ap Boolean ((booleans_Decides a b).0 e), λ s. (booleans_Decides a b).1 (cc s))

pub nulls_same : (v w : Unit {0}) → Same (null v) (null w)
unfolding null Rattle.oer_spec.specs.Same.Same
nulls_same v w = refl

pub integers_same : (c : Constraints) (m n : ℤ) → Decides (int_eq m n) (Same (integer c m) (integer c n))
unfolding integer Rattle.oer_spec.specs.Same.Same
integers_same c m n = (λ e. ap (Int (value_bounds c)) ((signed_Decides m n).0 e), λ s. (signed_Decides m n).1 (cc s))

pub naturals_same : (c : Constraints) (m n : ℕ) → Decides (m == n) (Same (integer c (pos m)) (integer c (pos n)))
unfolding integer Rattle.oer_spec.specs.Same.Same
naturals_same c m n = (λ e. ap (λ k. Int (value_bounds c) (pos k)) ((unsigned_Decides m n).0 e), λ s. (unsigned_Decides m n).1 (cc s))

pub bit_strings_same : (c : Constraints) (a b : List Bool) → Decides (pointwise beq a b) (Same (bit_string c a) (bit_string c b))
unfolding bit_string Rattle.oer_spec.specs.Same.Same
bit_strings_same c a b =
    (λ e. ap (Bits (size_bounds c)) ((pointwise_decides booleans_Decides a b).0 e), λ s. (pointwise_decides booleans_Decides a b).1 (cc s))

pub named_bit_strings_same : (c : Constraints) (a b : List Bool) → Decides (pointwise beq a b) (Same (named_bit_string c a) (named_bit_string c b))
unfolding named_bit_string Rattle.oer_spec.specs.Same.Same
named_bit_strings_same c a b =
    (λ e. ap (Named (size_bounds c)) ((pointwise_decides booleans_Decides a b).0 e), λ s. (pointwise_decides booleans_Decides a b).1 (cc s))

pub texts_same : (r : Rule) (c : Constraints) (o p : Octets) → Decides (pointwise nat_eq o p) (Same (text r c o) (text r c p))
unfolding text Rattle.oer_spec.specs.Same.Same
texts_same r c o p = (λ e. ap (λ z. Text r (size_bounds c) (InOctets z)) ((bytes_decides o p).0 e), λ s. (bytes_decides o p).1 (cc s))

pub unsized_texts_same : (r : Rule) (o p : Octets) → Decides (pointwise nat_eq o p) (Same (unsized_text r o) (unsized_text r p))
unfolding unsized_text Rattle.oer_spec.specs.Same.Same
unsized_texts_same r o p = (λ e. ap (λ z. Text r None (InOctets z)) ((bytes_decides o p).0 e), λ s. (bytes_decides o p).1 (cc s))

-- a test that has nothing more beside it
pub beside_nothing : {P : Type 0} (b : Bool) → Decides b P → Decides (b && true) P
beside_nothing true d = d
beside_nothing false d = d

-- octets are those of one identifier
same_arcs : (arcs others : List ℕ) → IsIdentifier arcs → IsIdentifier others → arcs_octets arcs ≡ arcs_octets others → arcs ≡ others
same_arcs arcs others i j e =
    let obeyed = identifiers_obey arcs i in
    let one = spells_one (arcs_octets arcs) obeyed.0 obeyed.1 in
    one.2 arcs (record { identifier = i; octets_are = refl }) ∙ sym (one.2 others (record { identifier = j; octets_are = e }))

pub identifiers_same : (arcs others : List ℕ) → IsIdentifier arcs → IsIdentifier others → Decides (pointwise nat_eq arcs others) (Same (identifier arcs) (identifier others))
unfolding identifier Rattle.oer_spec.specs.Same.Same
identifiers_same arcs others i j =
    (λ e. ap identifier_leaf ((bytes_decides arcs others).0 e), λ s. (bytes_decides arcs others).1 (same_arcs arcs others i j (cc s)))

module _ {A : Type 0} (tree : A → Tree) (IsValue : A → Type 0) where
  trees_are : ((v : A) → IsValue v → IsTree (tree v)) → (vs : List A) → EachValue IsValue vs → AreTrees (trees_of tree vs)
  unfolding Rattle.oer_spec.specs.Encoding.IsTree
  trees_are is [] i = tt
  trees_are is (v ∷ vs) i = (is v i.0, trees_are is vs i.1)

  each_alike : ((v w : A) → IsValue v → IsValue w → Alike (tree v) (tree w)) → (v : A) (ws : List A) → IsValue v → EachValue IsValue ws → EachTree (λ u. Alike (tree v) u) (trees_of tree ws)
  each_alike like v [] i j = tt
  each_alike like v (w ∷ ws) i j = (like v w i j.0, each_alike like v ws i j.1)

  trees_alike : ((v w : A) → IsValue v → IsValue w → Alike (tree v) (tree w)) → (vs ws : List A) → EachValue IsValue vs → EachValue IsValue ws → AlikeTrees (trees_of tree vs) (trees_of tree ws)
  unfolding Rattle.oer_spec.specs.Same.Alike
  trees_alike like [] ws i j = tt
  trees_alike like (v ∷ vs) ws i j = (each_alike like v ws i.0 j, trees_alike like vs ws i.1 j)

  pub list_is : (ordered : Bool) → ((v : A) → IsValue v → IsTree (tree v)) → (vs : List A) → EachValue IsValue vs → IsTree (list_of ordered tree vs)
  unfolding list_of Rattle.oer_spec.specs.Encoding.IsTree
  list_is ordered is vs i = trees_are is vs i

  pub lists_alike : (ordered : Bool) → ((v w : A) → IsValue v → IsValue w → Alike (tree v) (tree w)) → (vs ws : List A) → EachValue IsValue vs → EachValue IsValue ws → Alike (list_of ordered tree vs) (list_of ordered tree ws)
  unfolding list_of Rattle.oer_spec.specs.Same.Alike
  lists_alike ordered like vs ws i j = (refl, trees_alike like vs ws i j)

  module _ (eq : A → A → Bool) (same : (v w : A) → IsValue v → IsValue w → Decides (eq v w) (Same (tree v) (tree w))) where
    trees_same : (vs ws : List A) → EachValue IsValue vs → EachValue IsValue ws → Decides (pointwise eq vs ws) (SameTrees (trees_of tree vs) (trees_of tree ws))
    unfolding Rattle.oer_spec.specs.Same.Same
    trees_same [] [] i j = (λ e. tt, λ s. refl)
    trees_same [] (w ∷ ws) i j = (λ e. absurd (cc e), λ s. absurd s)
    trees_same (v ∷ vs) [] i j = (λ e. absurd (cc e), λ s. absurd s)
    trees_same (v ∷ vs) (w ∷ ws) i j = Decides-and (eq v w) (pointwise eq vs ws) (same v w i.0 j.0) (trees_same vs ws i.1 j.1)

    pub lists_same : (vs ws : List A) → EachValue IsValue vs → EachValue IsValue ws → Decides (pointwise eq vs ws) (Same (list_of true tree vs) (list_of true tree ws))
    unfolding list_of Rattle.oer_spec.specs.Same.Same
    lists_same vs ws i j = trees_same vs ws i j
