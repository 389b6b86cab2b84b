-- Arcs, the parts that they make, and the octets of these.
use Rattle.std.proofs.Common.{◌≡◌, ℕ, suc, ◌+◌, ◌-◌, ◌*◌, ◌/◌, ◌%◌, ◌^◌, ◌<◌, ◌≤◌, Bool, true, false, cond, eqb, ltb, not, List, [], ◌∷◌, ◌++◌, length, map, get_or, Option, Some, None, refl, subst, sym, ap, ap₂, ◌∙◌, arith, append_assoc}
use Rattle.std.specs.Prelude.{◌&&◌, ⊤}
use Rattle.std.specs.List.{list_all, flat_map}
use Rattle.std.specs.Int.Digits.{digits_of}
use Rattle.std.proofs.Math.Bool.{and-true}
use Rattle.std.proofs.lemmas.Bool.{true≢false, eqb-false, and_from, ltb-true, ltb-false, lt-ltb, le-ltb, le-leb, lt-leb}
use Rattle.std.proofs.lemmas.Int.Digits.{digits_of_step}
use Rattle.std.proofs.lemmas.Nat.{div-mul-add, mod-mul-add}
use Rattle.std.proofs.lemmas.List.{map-append}
use Rattle.asn1_core.specs.Octets.{Octets, AreOctets}
use Rattle.asn1_core.specs.Texts.{one_more, parts_from}
use Rattle.asn1_strings.specs.Identifiers.{is_arc, is_start, is_identifier, high_groups, part_octets, last_part, part_arcs, with_parts, is_zero_group, then_parts}

-- ---- groups

digits_step : (n d : ℕ) → d < 128 → 0 < n * 128 + d → digits_of 128 (n * 128 + d) ≡ digits_of 128 n ++ (d ∷ [])
digits_step n d l some = digits_of_step 128 (n * 128 + d) (omega arith) some ∙ ap₂ (λ x y. digits_of 128 x ++ (y ∷ [])) (div-mul-add n 128 d l) (mod-mul-add n 128 d l)

groups_step : (n d : ℕ) → d < 128 → 0 < n * 128 + d → high_groups (n * 128 + d) ≡ high_groups n ++ ((d + 128) ∷ [])
groups_step n d l some = ap (map (λ z. z + 128)) (digits_step n d l some) ∙ map-append (λ z. z + 128) (digits_of 128 n) (d ∷ [])

part_is : (n d : ℕ) → d < 128 → part_octets (n * 128 + d) ≡ high_groups n ++ (d ∷ [])
part_is n d l = ap₂ (λ x y. high_groups x ++ y ∷ []) (div-mul-add n 128 d l) (mod-mul-add n 128 d l)

-- ---- octets that give parts are theirs

some_is : (x y : List ℕ) → Some x ≡ Some y → x ≡ y
some_is x y e = cc

one_more_some : (n : ℕ) (r : Option (List ℕ)) (ps : List ℕ) → one_more n r ≡ Some ps → (qs : List ℕ) × (r ≡ Some qs) × (n ∷ qs ≡ ps)
one_more_some n None ps e = absurd cc
one_more_some n (Some qs) ps e = (qs, refl, some_is (n ∷ qs) ps e)

-- so much of a part is read: nothing where it has no octet yet
abbrev pub IsBegun : Bool → ℕ → Type 0
IsBegun true n = 0 < n
IsBegun false n = n ≡ 0

mutual_step : (inside : Bool) (n x : ℕ) (xs : Octets) (ps : List ℕ) → x < 256 → IsBegun inside n
    → ((inside : Bool) (n : ℕ) (ps : List ℕ) → IsBegun inside n → parts_from inside n xs ≡ Some ps → high_groups n ++ xs ≡ flat_map part_octets ps)
    → parts_from inside n (x ∷ xs) ≡ Some ps → high_groups n ++ (x ∷ xs) ≡ flat_map part_octets ps
mutual_step inside n x xs ps fits begun rest e = first (not inside && eqb x 0x80) refl
  where
    last : (ltb x 128 ≡ true) → one_more (n * 128 + x) (parts_from false 0 xs) ≡ Some ps → high_groups n ++ (x ∷ xs) ≡ flat_map part_octets ps
    last below h =
        let (qs, is, made) = one_more_some (n * 128 + x) (parts_from false 0 xs) ps h in
        let more : xs ≡ flat_map part_octets qs = rest false 0 qs refl is in
        ap (λ z. high_groups n ++ (x ∷ z)) more ∙ sym (append_assoc (high_groups n) (x ∷ []) (flat_map part_octets qs))
        ∙ ap (λ z. z ++ flat_map part_octets qs) (sym (part_is n x (ltb-true x 128 below)))
        ∙ ap (flat_map part_octets) made

    inner : (ltb x 128 ≡ false) → (not inside && eqb x 0x80 ≡ false) → parts_from true (n * 128 + (x - 128)) xs ≡ Some ps → high_groups n ++ (x ∷ xs) ≡ flat_map part_octets ps
    inner above apart h =
        let high : 128 ≤ x = ltb-false x 128 above in
        let some : 0 < n * 128 + (x - 128) = positive inside begun apart in
        let top : x - 128 + 128 ≡ x = omega arith in
        ap (λ z. high_groups n ++ (z ∷ xs)) (sym top) ∙ sym (append_assoc (high_groups n) ((x - 128 + 128) ∷ []) xs)
        ∙ ap (λ z. z ++ xs) (sym (groups_step n (x - 128) (omega arith) some)) ∙ rest true (n * 128 + (x - 128)) ps some h
      where
        positive : (b : Bool) → IsBegun b n → (not b && eqb x 0x80 ≡ false) → 0 < n * 128 + (x - 128)
        positive true begun apart = omega arith
        positive false begun apart = let differs = eqb-false x 0x80 apart in let high : 128 ≤ x = ltb-false x 128 above in omega arith

    first : (b : Bool) → (not inside && eqb x 0x80 ≡ b) → high_groups n ++ (x ∷ xs) ≡ flat_map part_octets ps
    first true is = absurd (apart (sym (ap (λ b. cond b None (cond (ltb x 128) (one_more (n * 128 + x) (parts_from false 0 xs)) (parts_from true (n * 128 + (x - 128)) xs))) is) ∙ e))
      where
        apart : ◌≡◌ {A = Option (List ℕ)} None (Some ps) → ⊥
        apart h = cc
    first false is = second (ltb x 128) refl
      where
        e' : cond (ltb x 128) (one_more (n * 128 + x) (parts_from false 0 xs)) (parts_from true (n * 128 + (x - 128)) xs) ≡ Some ps
        e' = sym (ap (λ b. cond b None (cond (ltb x 128) (one_more (n * 128 + x) (parts_from false 0 xs)) (parts_from true (n * 128 + (x - 128)) xs))) is) ∙ e

        second : (b : Bool) → ltb x 128 ≡ b → high_groups n ++ (x ∷ xs) ≡ flat_map part_octets ps
        second true below = last below (sym (ap (λ b. cond b (one_more (n * 128 + x) (parts_from false 0 xs)) (parts_from true (n * 128 + (x - 128)) xs)) below) ∙ e')
        second false above = inner above is (sym (ap (λ b. cond b (one_more (n * 128 + x) (parts_from false 0 xs)) (parts_from true (n * 128 + (x - 128)) xs)) above) ∙ e')

pub parts_spell : (o : Octets) (inside : Bool) (n : ℕ) (ps : List ℕ) → AreOctets o → IsBegun inside n → parts_from inside n o ≡ Some ps → high_groups n ++ o ≡ flat_map part_octets ps
parts_spell [] true n ps f begun e = absurd cc
parts_spell [] false n ps f begun e = ap (λ z. high_groups z ++ []) begun ∙ ap (flat_map part_octets) (some_is [] ps e)
parts_spell (x ∷ xs) inside n ps f begun e = mutual_step inside n x xs ps f.0 begun (λ b m qs g h. parts_spell xs b m qs f.1 g h) e

-- ---- what is_identifier says of slices

pub each_is_arc : (arcs : List ℕ) → ((k : ℕ) → get_or arcs k 0 < 2 ^ 32) → list_all is_arc arcs ≡ true
each_is_arc [] h = refl
each_is_arc (a ∷ arcs) h = and_from (is_arc a) (list_all is_arc arcs) (lt-ltb a (2 ^ 32) (h 0)) (each_is_arc arcs (λ k. h (suc k)))

pub start_is : (arcs : List ℕ) → 2 ≤ length arcs → list_all is_arc arcs ≡ true → is_start (get_or arcs 0 0) (get_or arcs 1 0) ≡ is_identifier arcs
start_is [] two each = absurd (omega arith)
start_is (x ∷ []) two each = absurd (omega arith)
start_is (x ∷ y ∷ arcs) two each = sym (and-true (is_start x y)) ∙ ap (λ t. is_start x y && t) (sym each)

-- ---- what is appended

pub high_groups-step : (n : ℕ) → (n ≡ 0 → ⊥) → high_groups (n / 128) ++ ((n % 128 + 128) ∷ []) ≡ high_groups n
high_groups-step n some = let whole : n / 128 * 128 + n % 128 ≡ n = omega arith in sym (groups_step (n / 128) (n % 128) (omega arith) (omega arith)) ∙ ap high_groups whole

-- ---- reading, octet by octet

by_octet : (P : Option (List ℕ) → Type 0) (inside : Bool) (n x : ℕ) (xs : Octets)
    → (is_zero_group inside x ≡ true → P None)
    → (is_zero_group inside x ≡ false → ltb x 128 ≡ true → P (one_more (n * 128 + x) (parts_from false 0 xs)))
    → (is_zero_group inside x ≡ false → ltb x 128 ≡ false → P (parts_from true (n * 128 + (x - 128)) xs))
    → P (parts_from inside n (x ∷ xs))
by_octet P inside n x xs refused ends goes = first (is_zero_group inside x) refl
  where
    last : Option (List ℕ)
    last = one_more (n * 128 + x) (parts_from false 0 xs)

    more : Option (List ℕ)
    more = parts_from true (n * 128 + (x - 128)) xs

    second : (b : Bool) → ltb x 128 ≡ b → is_zero_group inside x ≡ false → P (cond (ltb x 128) last more)
    second true below is = subst (λ t. P (cond t last more)) (sym below) (ends is below)
    second false above is = subst (λ t. P (cond t last more)) (sym above) (goes is above)

    first : (b : Bool) → is_zero_group inside x ≡ b → P (cond (is_zero_group inside x) None (cond (ltb x 128) last more))
    first true is = subst (λ t. P (cond t None (cond (ltb x 128) last more))) (sym is) (refused is)
    first false is = subst (λ t. P (cond t None (cond (ltb x 128) last more))) (sym is) (second (ltb x 128) refl is)

pub octet_ends : (inside : Bool) (n x : ℕ) (xs : Octets) → is_zero_group inside x ≡ false → x < 128 → parts_from inside n (x ∷ xs) ≡ one_more (n * 128 + x % 128) (parts_from false 0 xs)
octet_ends inside n x xs is below =
    let low : x % 128 ≡ x = omega arith in
    by_octet (λ r. r ≡ one_more (n * 128 + x % 128) (parts_from false 0 xs)) inside n x xs
    (λ h. absurd (true≢false (sym h ∙ is)))
    (λ _ _. ap (λ z. one_more (n * 128 + z) (parts_from false 0 xs)) (sym low))
    (λ _ h. absurd (true≢false (sym (lt-ltb x 128 below) ∙ h)))

pub octet_goes_on : (inside : Bool) (n x : ℕ) (xs : Octets) → is_zero_group inside x ≡ false → 128 ≤ x → x < 256 → parts_from inside n (x ∷ xs) ≡ parts_from true (n * 128 + x % 128) xs
octet_goes_on inside n x xs is above fits =
    let low : x % 128 ≡ x - 128 = omega arith in
    by_octet (λ r. r ≡ parts_from true (n * 128 + x % 128) xs) inside n x xs
    (λ h. absurd (true≢false (sym h ∙ is)))
    (λ _ h. absurd (true≢false (sym h ∙ le-ltb x 128 above)))
    (λ _ _. ap (λ z. parts_from true (n * 128 + z) xs) (sym low))

-- a part that is begun is finished by a number that is not less
abbrev pub IsAtLeast : ℕ → Option (List ℕ) → Type 0
IsAtLeast n None = ⊤
IsAtLeast n (Some []) = ⊥
IsAtLeast n (Some (p ∷ ps)) = n ≤ p

least_one_more : (n m : ℕ) (r : Option (List ℕ)) → n ≤ m → IsAtLeast n (one_more m r)
least_one_more n m None le = tt
least_one_more n m (Some ps) le = le

least_down : (n m : ℕ) (r : Option (List ℕ)) → n ≤ m → IsAtLeast m r → IsAtLeast n r
least_down n m None le h = tt
least_down n m (Some []) le h = h
least_down n m (Some (p ∷ ps)) le h = omega arith

part_grows : (o : Octets) (n : ℕ) → IsAtLeast n (parts_from true n o)
part_grows [] n = tt
part_grows (x ∷ xs) n =
    by_octet (IsAtLeast n) true n x xs (λ _. tt)
    (λ _ _. least_one_more n (n * 128 + x) (parts_from false 0 xs) (omega arith))
    (λ _ _. least_down n (n * 128 + (x - 128)) (parts_from true (n * 128 + (x - 128)) xs) (omega arith) (part_grows xs (n * 128 + (x - 128))))

too_great : (arcs : List ℕ) (n : ℕ) (r : Option (List ℕ)) → last_part arcs < n → IsAtLeast n r → then_parts arcs r ≡ None
too_great arcs n None gt h = refl
too_great arcs n (Some []) gt h = absurd h
too_great arcs n (Some (p ∷ ps)) gt h = ap (λ b. cond b (with_parts (arcs ++ part_arcs arcs p) ps) None) (lt-leb p (last_part arcs) (omega arith))

pub part_too_great : (arcs : List ℕ) (inside : Bool) (n x : ℕ) (xs : Octets) → x < 256 → last_part arcs < n * 128 + x % 128 → then_parts arcs (parts_from inside n (x ∷ xs)) ≡ None
part_too_great arcs inside n x xs fits gt =
    by_octet (λ r. then_parts arcs r ≡ None) inside n x xs (λ _. refl)
    (λ _ h. let low = ltb-true x 128 h in too_great arcs (n * 128 + x % 128) (one_more (n * 128 + x) (parts_from false 0 xs)) gt (least_one_more (n * 128 + x % 128) (n * 128 + x) (parts_from false 0 xs) (omega arith)))
    (λ _ h. let high = ltb-false x 128 h in too_great arcs (n * 128 + x % 128) (parts_from true (n * 128 + (x - 128)) xs) gt (least_down (n * 128 + x % 128) (n * 128 + (x - 128)) (parts_from true (n * 128 + (x - 128)) xs) (omega arith) (part_grows xs (n * 128 + (x - 128)))))

pub one_more_part : (arcs : List ℕ) (m : ℕ) (r : Option (List ℕ)) → m ≤ last_part arcs → then_parts arcs (one_more m r) ≡ then_parts (arcs ++ part_arcs arcs m) r
one_more_part arcs m None le = refl
one_more_part arcs m (Some ps) le = ap (λ b. cond b (with_parts (arcs ++ part_arcs arcs m) ps) None) (le-leb m (last_part arcs) le)

pub part_ends : (arcs : List ℕ) (inside : Bool) (n x : ℕ) (xs : Octets) (total : Option (List ℕ)) → is_zero_group inside x ≡ false → x < 128 → n * 128 + x % 128 ≤ last_part arcs
    → then_parts arcs (parts_from inside n (x ∷ xs)) ≡ total → then_parts (arcs ++ part_arcs arcs (n * 128 + x % 128)) (parts_from false 0 xs) ≡ total
part_ends arcs inside n x xs total is below le read =
    sym (one_more_part arcs (n * 128 + x % 128) (parts_from false 0 xs) le) ∙ sym (ap (then_parts arcs) (octet_ends inside n x xs is below)) ∙ read

pub part_goes_on : (arcs : List ℕ) (inside : Bool) (n x : ℕ) (xs : Octets) (total : Option (List ℕ)) → is_zero_group inside x ≡ false → 128 ≤ x → x < 256
    → then_parts arcs (parts_from inside n (x ∷ xs)) ≡ total → then_parts arcs (parts_from true (n * 128 + x % 128) xs) ≡ total
part_goes_on arcs inside n x xs total is above fits read = sym (ap (then_parts arcs) (octet_goes_on inside n x xs is above fits)) ∙ read
