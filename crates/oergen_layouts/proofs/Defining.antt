-- Where the types that modules assign stand among all of these, and what definitions have.
use Rattle.std.proofs.Common.{◌≡◌, ◌∙◌, ℕ, zero, suc, ◌+◌, ◌-◌, ◌<◌, ◌≤◌, ◌^◌, min, nat_lt, ◌&&◌, ◌||◌, Bool, true, false, Option, Some, None, is_some, List, [], ◌∷◌, ◌++◌, append_assoc, append-nil, length, take, drop, get_or, set, map, MatchOption, refl, sym, ap, subst, arith}
use Rattle.std.proofs.lemmas.Bool.{true≢false}
use Rattle.std.proofs.lemmas.List.{map-append, length-append, length-map, length-take, length-take-le, length_push, drop_more, take-append-le, take-take, take_more}
use Rattle.std.proofs.lemmas.List.Elements.{All-cons, All-nil, All-push, All-weaker}
use Rattle.std.proofs.lemmas.Option.{get_or_from_slice_get, slice_get-get_or, slice_get-map, slice_get_within}
use Rattle.std.specs.List.{All, slice_get}
use Rattle.std.specs.Option.{option_map}
use Rattle.oergen_parse.specs.Lists.{list_in}
use Rattle.oergen_parse.specs.declared.ast.Body.{Body}
use Rattle.oergen_parse.specs.declared.ast.Body.TheVariants.{Simple, Integer, BitString, Enumerated, Sequence', Set', Choice', SequenceOf', SetOf', Reference}
use Rattle.oergen_parse.specs.declared.ast.Module.{Module}
use Rattle.oergen_parse.specs.declared.ast.Reference.{Reference as Named}
use Rattle.oergen_parse.specs.declared.ast.TypeAssignment.{TypeAssignment}
use Rattle.oergen_parse.specs.declared.refusal.Refusal.{Refusal}
use Rattle.oergen_parse.specs.declared.ast.Type.{«Type»}
use Rattle.oergen_layouts.specs.Definitions.{AreParts, IsDefined, IsPeeled, LeadsTo, Written, assigned, assigned_by, assigned_from, defined, has_parts, is_enumerated, is_inside, peeled, type_in, waits}
use Rattle.oergen_layouts.specs.Tags.{has_members}
use Rattle.oergen_layouts.specs.Untagged.{is_name_of}
use Rattle.oergen_layouts.specs.declared.definitions.Definition.{Definition}
use Rattle.oergen_layouts.specs.declared.definitions.Part.{Part}
use Rattle.oergen_layouts.specs.declared.definitions.Pending.{Pending}
use Rattle.oergen_layouts.specs.declared.rows.Row.{Row}
use Rattle.oergen_layouts.proofs.Members.{have_members}

pub assigned_append : (at : ℕ) (xs ys : List Module) → assigned_from at (xs ++ ys) ≡ assigned_from at xs ++ assigned_from (at + length xs) ys
assigned_append at [] ys = let same : at ≡ at + 0 = omega arith in ap (λ (k : ℕ). assigned_from k ys) same
assigned_append at (x ∷ xs) ys =
    let first = assigned_by at x.types.items in
    let front = assigned_from (at + 1) xs in
    let number : at + 1 + length xs ≡ at + suc (length xs) = omega arith in
    ap (λ (rest : List Written). first ++ rest) (assigned_append (at + 1) xs ys ∙ ap (λ (k : ℕ). front ++ assigned_from k ys) number)
    ∙ sym (append_assoc first front (assigned_from (at + suc (length xs)) ys))

-- the types of modules in front of one, and the others
pub assigned_cut : (at n : ℕ) (modules : List Module) → assigned_from at modules ≡ assigned_from at (take n modules) ++ assigned_from (at + n) (drop n modules)
assigned_cut at zero modules = let same : at ≡ at + 0 = omega arith in ap (λ (k : ℕ). assigned_from k modules) same
assigned_cut at (suc n) [] = refl
assigned_cut at (suc n) (it ∷ modules) =
    let first = assigned_by at it.types.items in
    let front = assigned_from (at + 1) (take n modules) in
    let number : at + 1 + n ≡ at + suc n = omega arith in
    ap (λ (rest : List Written). first ++ rest) (assigned_cut (at + 1) n modules ∙ ap (λ (k : ℕ). front ++ assigned_from k (drop n modules)) number)
    ∙ sym (append_assoc first front (assigned_from (at + suc n) (drop n modules)))

-- the types of modules in front of one, its own, and those behind
pub assigned_around : (n : ℕ) (modules : List Module) (one : Module) → n < length modules → one ≡ get_or modules n one
    → assigned modules ≡ assigned (take n modules) ++ (assigned_by n one.types.items ++ assigned_from (n + 1) (drop (n + 1) modules))
assigned_around n modules one below is =
    let rest : drop n modules ≡ one ∷ drop (n + 1) modules = drop_more modules n one below ∙ ap (λ (it : Module). it ∷ drop (n + 1) modules) (sym is) in
    let same : 0 + n ≡ n = omega arith in
    assigned_cut 0 n modules ∙ ap (λ (it : List Written). assigned (take n modules) ++ it) (ap (λ (k : ℕ). assigned_from k (drop n modules)) same ∙ ap (assigned_from n) rest)

pub slice_get_behind : {A : Type 0} (xs ys : List A) (k : ℕ) → slice_get (xs ++ ys) (length xs + k) ≡ slice_get ys k
slice_get_behind [] ys k = let same : 0 + k ≡ k = omega arith in ap (slice_get ys) same
slice_get_behind (x ∷ xs) ys k =
    let next : suc (length xs) + k ≡ suc (length xs + k) = omega arith in
    ap (slice_get (x ∷ (xs ++ ys))) next ∙ slice_get_behind xs ys k

pub slice_get_front : {A : Type 0} (xs ys : List A) (k : ℕ) → k < length xs → slice_get (xs ++ ys) k ≡ slice_get xs k
slice_get_front [] ys k below = absurd (omega (arith, below))
slice_get_front (x ∷ xs) ys zero below = refl
slice_get_front (x ∷ xs) ys (suc k) below = slice_get_front xs ys k (omega (arith, below))

-- a list without one more of the lists around its elements
peeled_list : (left : ℕ) (of inner : «Type») (is_set : Bool) → list_in of.body ≡ Some (inner, is_set) → peeled (suc left) of ≡ (suc (peeled left inner).0, (peeled left inner).1)
unfolding peeled
peeled_list left of inner is_set is =
    ap (λ (it : Option («Type» × Bool)). elim it [ None ↦ (0, of) | Some (one, _) ↦ (suc (peeled left one).0, (peeled left one).1) ]) is

peeled_other : (left : ℕ) (of : «Type») → list_in of.body ≡ None → peeled left of ≡ (0, of)
unfolding peeled
peeled_other zero of is = refl
peeled_other (suc left) of is =
    ap (λ (it : Option («Type» × Bool)). elim it [ None ↦ (0, of) | Some (one, _) ↦ (suc (peeled left one).0, (peeled left one).1) ]) is

-- behind so many lists, from which start it was
abbrev pub PeeledSoFar : «Type» → ℕ → «Type» → Type 0
PeeledSoFar start n of = peeled 64 start ≡ (n + (peeled (64 - n) of).0, (peeled (64 - n) of).1)

pub peel_more : (start of inner : «Type») (is_set : Bool) (n : ℕ) → n < 64 → list_in of.body ≡ Some (inner, is_set) → PeeledSoFar start n of → PeeledSoFar start (n + 1) inner
peel_more start of inner is_set n below is so_far =
    let left = 64 - (n + 1) in
    let more : 64 - n ≡ suc left = omega (arith, below) in
    let count : n + suc (peeled left inner).0 ≡ n + 1 + (peeled left inner).0 = omega arith in
    so_far
    ∙ ap (λ (k : ℕ). (n + (peeled k of).0, (peeled k of).1)) more
    ∙ ap (λ (it : ℕ × «Type»). (n + it.0, it.1)) (peeled_list left of inner is_set is)
    ∙ ap (λ (k : ℕ). (k, (peeled left inner).1)) count

pub peel_end : (start of : «Type») (n : ℕ) → list_in of.body ≡ None → PeeledSoFar start n of → peeled 64 start ≡ (n, of)
peel_end start of n is so_far =
    let same : n + 0 ≡ n = omega arith in
    so_far ∙ ap (λ (it : ℕ × «Type»). (n + it.0, it.1)) (peeled_other (64 - n) of is) ∙ ap (λ (k : ℕ). (k, of)) same

pub peel_all : (start of : «Type») (n : ℕ) → 64 ≤ n → PeeledSoFar start n of → peeled 64 start ≡ (n, of)
unfolding peeled
peel_all start of n past so_far =
    let none : 64 - n ≡ 0 = omega (arith, past) in
    let same : n + 0 ≡ n = omega arith in
    so_far ∙ ap (λ (k : ℕ). (n + (peeled k of).0, (peeled k of).1)) none ∙ ap (λ (k : ℕ). (k, of)) same

front_length : (n : ℕ) (modules : List Module) → length (assigned (take n modules)) ≤ length (assigned modules)
front_length n modules =
    let front = assigned (take n modules) in
    let rest = assigned_from (0 + n) (drop n modules) in
    let same : length (assigned modules) ≡ length front + length rest = ap length (assigned_cut 0 n modules) ∙ length-append front rest in
    omega (arith, same)

-- how many types there are in front of a module, counted up to the largest number
pub count_more : (items modules : List Module) (n before count len : ℕ) (one : Module) → items ≡ take before modules → n < length items → one ≡ get_or items n one → length (assigned modules) < 2 ^ 64
    → count ≡ length (assigned (take n items)) → len ≡ length one.types.items → min (count + len) 18446744073709551615 ≡ length (assigned (take (n + 1) items))
count_more items modules n before count len one front below is few so_far size =
    let cut : take (n + 1) items ≡ take n items ++ one ∷ [] = take_more items n one below ∙ ap (λ (it : Module). take n items ++ it ∷ []) (sym is) in
    let next = assigned (take n items) in
    let last = assigned_from (0 + length (take n items)) (one ∷ []) in
    let two : length (assigned (take (n + 1) items)) ≡ length next + length last = ap (λ (it : List Module). length (assigned it)) cut ∙ ap length (assigned_append 0 (take n items) (one ∷ [])) ∙ length-append next last in
    let own : length last ≡ length one.types.items = ap length (append-nil (assigned_by (0 + length (take n items)) one.types.items)) ∙ length-map one.types.items _ in
    let a = front_length (n + 1) items in
    let b : length (assigned items) ≤ length (assigned modules) = subst (λ (it : List Module). length (assigned it) ≤ length (assigned modules)) (sym front) (front_length before modules) in
    omega (arith, two, own, a, b, few, so_far, size)

-- a type of a module among all that are assigned
pub found_at : (n k count : ℕ) (modules : List Module) (home : Module) (one : TypeAssignment) → slice_get modules n ≡ Some home → k < length home.types.items → one ≡ get_or home.types.items k one
    → count ≡ length (assigned (take n modules)) + k → slice_get (assigned modules) count ≡ Some (n, one.of)
found_at n k count modules home one is below own counts =
    let within = slice_get_within modules n home is in
    let there : home ≡ get_or modules n home = sym (get_or_from_slice_get modules n home home is) in
    let front = assigned (take n modules) in
    let types = assigned_by n home.types.items in
    let rest = assigned_from (n + 1) (drop (n + 1) modules) in
    let size : length types ≡ length home.types.items = length-map home.types.items _ in
    let at_k : slice_get types k ≡ Some (n, one.of) =
    slice_get-map (λ (it : TypeAssignment). (n, it.of)) home.types.items k ∙ ap (option_map (λ (it : TypeAssignment). (n, it.of))) (slice_get-get_or home.types.items k one below ∙ ap Some (sym own)) in
    ap (λ (it : List Written). slice_get it count) (assigned_around n modules home within there)
    ∙ ap (slice_get (front ++ (types ++ rest))) counts
    ∙ slice_get_behind front (types ++ rest) k
    ∙ slice_get_front types rest k (omega (arith, size, below))
    ∙ at_k

pub found_below : (all : List Written) (at : ℕ) (it : Written) → slice_get all at ≡ Some it → at < length all
found_below all at it is = slice_get_within all at it is

pub leads : (all : List Written) (at : ℕ) (home : ℕ) (of : «Type») → slice_get all at ≡ Some (home, of) → MatchOption (slice_get all at) ⊥ (λ one. one.1 ≡ of)
leads all at home of is = subst (λ (it : Option Written). MatchOption it ⊥ (λ one. one.1 ≡ of)) (sym is) refl

pub assigned_next : (n : ℕ) (modules : List Module) (one : Module) → n < length modules → one ≡ get_or modules n one → assigned (take (n + 1) modules) ≡ assigned (take n modules) ++ assigned_by n one.types.items
assigned_next n modules one below is =
    let cut : take (n + 1) modules ≡ take n modules ++ one ∷ [] = take_more modules n one below ∙ ap (λ (it : Module). take n modules ++ it ∷ []) (sym is) in
    let size = length-take-le n modules (omega (arith, below)) in
    let at : 0 + length (take n modules) ≡ n = omega (arith, size) in
    ap assigned cut ∙ assigned_append 0 (take n modules) (one ∷ []) ∙ ap (λ (it : List Written). assigned (take n modules) ++ it) (append-nil (assigned_by (0 + length (take n modules)) one.types.items) ∙ ap (λ (k : ℕ). assigned_by k one.types.items) at)

-- another name for a type that waits
pub set_same : (all : List Pending) (at : ℕ) (one next : Pending) → waits next ≡ waits (get_or all at one) → map waits (set all at next) ≡ map waits all
set_same [] at one next same = refl
set_same (it ∷ all) zero one next same = ap (λ (w : Written). w ∷ map waits all) same
set_same (it ∷ all) (suc at) one next same = ap (λ (ws : List Written). waits it ∷ ws) (set_same all at one next same)

name_apart : (body : Body) → is_name_of body ≡ true → has_parts body ≡ false
name_apart (Reference _) e = refl
name_apart (Simple _) e = absurd cc
name_apart (Integer _) e = absurd cc
name_apart (BitString _) e = absurd cc
name_apart (Enumerated _ _) e = absurd cc
name_apart (Sequence' _ _) e = absurd cc
name_apart (Set' _ _) e = absurd cc
name_apart (Choice' _ _) e = absurd cc
name_apart (SequenceOf' _ _ _ _ _) e = absurd cc
name_apart (SetOf' _ _ _ _ _) e = absurd cc

-- a part whose type isn't written inside, where it is a name, and where it is neither
not_inside : (part : Part) → has_parts part.inner.now.body ≡ false → is_inside part ≡ false
not_inside part e = ap (λ (it : Bool). it && (nat_lt 0 part.lists || is_some part.row)) e

pub leads_by_name : (count : ℕ) (all : List Written) (home at : ℕ) (part : Part) → is_name_of part.inner.now.body ≡ true → part.target ≡ Some at → at < count → LeadsTo count all home part
leads_by_name count all home at part name target below =
    let outside = not_inside part (name_apart part.inner.now.body name) in
    record {
      name = λ _. subst (λ (it : Option ℕ). MatchOption it ⊥ (λ to. to < count)) (sym target) below;
      inside = λ is. absurd (true≢false (sym is ∙ outside));
      others = λ other _. absurd (true≢false (sym name ∙ other));
    }

pub leads_inside : (count : ℕ) (all : List Written) (home at : ℕ) (part : Part) → is_inside part ≡ true → part.target ≡ Some at → slice_get all at ≡ Some (home, part.inner.now) → LeadsTo count all home part
leads_inside count all home at part is target there = record {
  name = λ name. absurd (true≢false (sym is ∙ not_inside part (name_apart part.inner.now.body name)));
  inside = λ _. subst (λ (it : Option ℕ). MatchOption it ⊥ (λ to. slice_get all to ≡ Some (home, part.inner.now))) (sym target) there;
  others = λ _ outside. absurd (true≢false (sym is ∙ outside));
}

pub leads_nowhere : (count : ℕ) (all : List Written) (home : ℕ) (part : Part) → is_name_of part.inner.now.body ≡ false → is_inside part ≡ false → part.target ≡ None → LeadsTo count all home part
leads_nowhere count all home part other outside target = record {
  name = λ name. absurd (true≢false (sym name ∙ other));
  inside = λ is. absurd (true≢false (sym is ∙ outside));
  others = λ _ _. target;
}

-- the type that was put behind those that wait
pub put_behind : (old new : List Pending) (at : ℕ) (one : Pending) → at ≡ length old → new ≡ old ++ one ∷ [] → slice_get (map waits new) at ≡ Some (waits one)
put_behind old new at one is pushed =
    let size = length-map old waits in
    let same : at ≡ length (map waits old) + 0 = omega (arith, size, is) in
    ap (λ (it : List Pending). slice_get (map waits it) at) pushed
    ∙ ap (λ (it : List Written). slice_get it at) (map-append waits old (one ∷ []))
    ∙ ap (slice_get (map waits old ++ waits one ∷ [])) same
    ∙ slice_get_behind (map waits old) (waits one ∷ []) 0

pub some_below : {A : Type 0} (all : List A) (at : ℕ) (P : A → Type 0) → MatchOption (slice_get all at) ⊥ P → at < length all
some_below [] at P is = absurd is
some_below (it ∷ all) zero P is = omega arith
some_below (it ∷ all) (suc at) P is = let below = some_below all at P is in omega (arith, below)

pub no_name : (body : Body) → ((it : Named) → body ≡ Reference it → ⊥) → is_name_of body ≡ false
no_name (Reference it) not = absurd (not it refl)
no_name (Simple _) not = refl
no_name (Integer _) not = refl
no_name (BitString _) not = refl
no_name (Enumerated _ _) not = refl
no_name (Sequence' _ _) not = refl
no_name (Set' _ _) not = refl
no_name (Choice' _ _) not = refl
no_name (SequenceOf' _ _ _ _ _) not = refl
no_name (SetOf' _ _ _ _ _) not = refl

-- a list that begins with another, and one that begins with that
pub keeps_on : {A : Type 0} (a b c : List A) → take (length a) b ≡ a → take (length b) c ≡ b → take (length a) c ≡ a
keeps_on a b c first then =
    let size = sym (length-take (length a) b) ∙ ap length first in
    let shorter : length a ≤ length b = omega (arith, size) in
    sym (take-take (length a) (length b) c shorter) ∙ ap (take (length a)) then ∙ first

at_some : {A : Type 0} (it : Option A) (P Q : A → Type 0) → ((x : A) → P x → Q x) → MatchOption it ⊥ P → MatchOption it ⊥ Q
at_some None P Q by is = is
at_some (Some x) P Q by is = by x is

leads_on : (count : ℕ) (all more : List Written) (home : ℕ) (part : Part) → LeadsTo count all home part → LeadsTo count (all ++ more) home part
leads_on count all more home part is = record {
  name = is.name;
  inside = λ inside. at_some part.target _ _ (λ at there. slice_get_front all more at (slice_get_within all at _ there) ∙ there) (is.inside inside);
  others = is.others;
}

-- the parts of a type lead where they led, when more types wait
pub all_lead_on : (count : ℕ) (all next more : List Written) (home : ℕ) (parts : List Part) → next ≡ all ++ more → All (LeadsTo count all home) parts → All (LeadsTo count next home) parts
all_lead_on count all next more home parts e are =
    subst (λ (it : List Written). All (LeadsTo count it home) parts) (sym e) (All-weaker (LeadsTo count all home) (LeadsTo count (all ++ more) home) (leads_on count all more home) parts are)

-- one part more
pub one_more : (P : Part → Type 0) (parts next : List Part) (part : Part) → next ≡ parts ++ part ∷ [] → All P parts → P part → All P next
one_more P parts next part pushed are is = subst (All P) (sym pushed) (All-push P parts part are is)

pub row_more : (rows : List Row) (at : ℕ) (row : Row) (parts next : List Part) (part : Part) → at < length rows → row ≡ get_or rows at row → next ≡ parts ++ part ∷ [] → part.row ≡ Some row
    → map (λ (it : Part). it.row) parts ≡ map Some (take at rows) → map (λ (it : Part). it.row) next ≡ map Some (take (at + 1) rows)
row_more rows at row parts next part below own pushed is so_far =
    let cut : take (at + 1) rows ≡ take at rows ++ row ∷ [] = take_more rows at row below ∙ ap (λ (it : Row). take at rows ++ it ∷ []) (sym own) in
    ap (map (λ (it : Part). it.row)) pushed
    ∙ map-append (λ (it : Part). it.row) parts (part ∷ [])
    ∙ ap (λ (it : List (Option Row)). it ++ part.row ∷ []) so_far
    ∙ ap (λ (it : Option Row). map Some (take at rows) ++ it ∷ []) is
    ∙ sym (map-append Some (take at rows) (row ∷ []))
    ∙ ap (map Some) (sym cut)

pub peeled_row : (whole : «Type») (row : Row) (part : Part) → part.row ≡ Some row → peeled 64 row.of.now ≡ (part.lists, part.inner.now) → IsPeeled whole part
peeled_row whole row part is own = ap (λ (it : Option Row). peeled 64 (type_in whole it)) is ∙ own

or_false : (a b : Bool) → (a || b) ≡ false → (a ≡ false) × (b ≡ false)
or_false false false e = (refl, refl)
or_false false true e = absurd cc
or_false true b e = absurd cc

-- a type without parts is its own
pub whole_part : (count : ℕ) (all : List Written) (home : ℕ) (whole : «Type») (part : Part) → has_parts whole.body ≡ false → part.row ≡ None → peeled 64 whole ≡ (part.lists, part.inner.now) → LeadsTo count all home part
    → AreParts count all home whole (part ∷ [])
whole_part count all home whole part none is own lead =
    let neither = or_false (has_members whole.body) (is_enumerated whole.body) none in
    record {
      are_all = record {
        rows = [];
        are_rows = λ has. absurd (true≢false (sym has ∙ neither.0));
        are_members = λ members are. absurd (true≢false (sym (have_members whole.body members are) ∙ neither.0));
        values = λ has. absurd (true≢false (sym has ∙ neither.1));
        others = λ _. ap (λ (it : Option Row). it ∷ []) is;
      };
      are_peeled = All-cons (IsPeeled whole) part [] (ap (λ (it : Option Row). peeled 64 (type_in whole it)) is ∙ own) (All-nil (IsPeeled whole));
      lead = All-cons (LeadsTo count all home) part [] lead (All-nil (LeadsTo count all home));
    }

-- the definition of the next type that waits, behind those of the types in front of it
pub defined_next : (waiting next more : List Written) (all made : List Definition) (one : Definition) (at : ℕ) → length all ≡ at → at < length waiting → defined one ≡ get_or waiting at (defined one) → next ≡ waiting ++ more → made ≡ all ++ one ∷ []
    → map defined all ≡ take (length all) waiting → map defined made ≡ take (length made) next
defined_next waiting next more all made one at count below is grown pushed so_far =
    let size : length made ≡ at + 1 = ap length pushed ∙ length_push all one ∙ ap (λ (k : ℕ). k + 1) count in
    let front : take (at + 1) next ≡ take (at + 1) waiting = ap (take (at + 1)) grown ∙ take-append-le (at + 1) waiting more (omega (arith, below)) in
    let cut : take (at + 1) waiting ≡ take at waiting ++ defined one ∷ [] = take_more waiting at (defined one) below ∙ ap (λ (it : Written). take at waiting ++ it ∷ []) (sym is) in
    ap (map defined) pushed
    ∙ map-append defined all (one ∷ [])
    ∙ ap (λ (it : List Written). it ++ defined one ∷ []) (so_far ∙ ap (λ (k : ℕ). take k waiting) count)
    ∙ sym (front ∙ cut)
    ∙ ap (λ (k : ℕ). take k next) (sym size)

at_none : (fault : Option Refusal) (P Q : Type 0) (R : Refusal → Type 0) → (P → Q) → MatchOption fault P R → MatchOption fault Q R
at_none None P Q R by is = by is
at_none (Some why) P Q R by is = is

defined_on : (count : ℕ) (all more : List Written) (one : Definition) → IsDefined count all one → IsDefined count (all ++ more) one
defined_on count all more one is =
    let home = one.module in
    let parts = one.parts.items in
    at_none one.fault (AreParts count all home one.of.now parts) (AreParts count (all ++ more) home one.of.now parts) _
    (λ are. record { are_all = are.are_all; are_peeled = are.are_peeled; lead = all_lead_on count all (all ++ more) more home parts refl are.lead }) is

-- definitions stay so when more types wait, and one more is so
pub all_defined_next : (count : ℕ) (waiting next more : List Written) (all made : List Definition) (one : Definition) → next ≡ waiting ++ more → made ≡ all ++ one ∷ [] → All (IsDefined count waiting) all → IsDefined count next one
    → All (IsDefined count next) made
all_defined_next count waiting next more all made one grown pushed so_far is =
    let front = subst (λ (it : List Written). All (IsDefined count it) all) (sym grown) (All-weaker (IsDefined count waiting) (IsDefined count (waiting ++ more)) (defined_on count waiting more) all so_far) in
    subst (All (IsDefined count next)) (sym pushed) (All-push (IsDefined count next) all one front is)

-- what waits at a place, by the type that is read there
pub waits_at : (pending : List Pending) (at : ℕ) (next : Pending) (it : Written) → at < length pending → next ≡ get_or pending at next → it ≡ waits next → it ≡ get_or (map waits pending) at it
waits_at pending at next it below is same =
    let there : slice_get (map waits pending) at ≡ Some (waits next) =
    slice_get-map waits pending at ∙ ap (option_map waits) (slice_get-get_or pending at next below ∙ ap Some (sym is)) in
    same ∙ sym (get_or_from_slice_get (map waits pending) at (waits next) it there)
