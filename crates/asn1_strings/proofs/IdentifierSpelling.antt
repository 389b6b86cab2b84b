-- Octets are those of an identifier exactly where its arcs are read of them.
use Rattle.std.proofs.Common.{◌≡◌, ℕ, zero, suc, ◌+◌, ◌-◌, ◌*◌, ◌/◌, ◌%◌, ◌^◌, ◌<◌, ◌≤◌, Bool, true, false, cond, eqb, leb, ltb, List, [], ◌∷◌, ◌++◌, map, Option, Some, None, refl, sym, ap, ◌∙◌, arith, append_assoc, inl, inr}
use Rattle.std.specs.Prelude.{◌&&◌, ◌||◌, ◌⊎◌}
use Rattle.std.specs.List.{list_all, flat_map, AllByRecursion}
use Rattle.std.specs.Int.Digits.{digits_of}
use Rattle.std.proofs.lemmas.Bool.{eqb-true, ne_eqb, and_parts, and_from, or_cases, ltb-true, lt-ltb, le-ltb, leb-true, le-leb, cases_lt}
use Rattle.std.proofs.lemmas.Int.Digits.{all_below_base_digits_of}
use Rattle.std.proofs.lemmas.List.{append-nil}
use Rattle.asn1_core.specs.Octets.{Octets, AreOctets}
use Rattle.asn1_core.specs.Texts.{one_more, parts_from, are_parts}
use Rattle.asn1_strings.specs.Identifiers.{is_arc, is_start, is_identifier, parts_of, high_groups, part_octets, arcs_octets, SpellsIdentifier, part_arcs, with_parts, then_parts, is_zero_group, arcs_of, IdentifiersObey, SpellsOne}
use Rattle.asn1_strings.proofs.IdentifierLists.{IsBegun, octet_goes_on, octet_ends, high_groups-step, parts_spell}

-- ---- the octets of parts are read arcs these parts

begun_at : (n : ℕ) → (b : Bool) × IsBegun b n
begun_at zero = (false, refl)
begun_at (suc n) = (true, omega arith)

no_zero_group : (b : Bool) (m d : ℕ) → IsBegun b m → 0 < m * 128 + d → is_zero_group b (d + 128) ≡ false
no_zero_group true m d begun some = refl
no_zero_group false m d begun some = ne_eqb (d + 128) 0x80 (λ h. omega (arith, begun))

groups_read : (fuel n : ℕ) (b : Bool) (rest : Octets) → n ≤ fuel → IsBegun b n → parts_from false 0 (high_groups n ++ rest) ≡ parts_from b n rest
groups_read fuel zero false rest le begun = refl
groups_read fuel zero true rest le begun = absurd (omega arith)
groups_read fuel (suc n) false rest le begun = absurd (omega arith)
groups_read zero (suc n) true rest le begun = absurd (omega arith)
groups_read (suc fuel) (suc n) true rest le begun =
    let m = suc n / 128 in
    let d = suc n % 128 in
    let high : suc n / 128 ≤ fuel = omega arith in
    let some : 0 < m * 128 + d = omega arith in
    let low : (d + 128) % 128 ≡ d = omega arith in
    let whole : m * 128 + d ≡ suc n = omega arith in
    let (c, is) = begun_at m in
    ap (λ z. parts_from false 0 (z ++ rest)) (sym (high_groups-step (suc n) (λ h. omega arith)))
    ∙ ap (parts_from false 0) (append_assoc (high_groups m) ((d + 128) ∷ []) rest)
    ∙ groups_read fuel m c ((d + 128) ∷ rest) high is
    ∙ octet_goes_on c m (d + 128) rest (no_zero_group c m d is some) (omega arith) (omega arith)
    ∙ ap (λ z. parts_from true z rest) (ap (λ z. m * 128 + z) low ∙ whole)

part_read : (p : ℕ) (rest : Octets) → parts_from false 0 (part_octets p ++ rest) ≡ one_more p (parts_from false 0 rest)
part_read p rest =
    let m = p / 128 in
    let d = p % 128 in
    let (b, is) = begun_at m in
    let whole : m * 128 + d % 128 ≡ p = omega arith in
    let plain : is_zero_group b d ≡ false = no_group b (ne_eqb d 0x80 (λ h. omega arith)) in
    ap (parts_from false 0) (append_assoc (high_groups m) (d ∷ []) rest)
    ∙ groups_read m m b (d ∷ rest) (omega arith) is
    ∙ octet_ends b m d rest plain (omega arith)
    ∙ ap (λ z. one_more z (parts_from false 0 rest)) whole
  where
    no_group : (b : Bool) → eqb (p % 128) 0x80 ≡ false → is_zero_group b (p % 128) ≡ false
    no_group true e = refl
    no_group false e = e

parts_read : (ps : List ℕ) → parts_from false 0 (flat_map part_octets ps) ≡ Some ps
parts_read [] = refl
parts_read (p ∷ ps) = part_read p (flat_map part_octets ps) ∙ ap (one_more p) (parts_read ps)

-- ---- parts and arcs

first_part : (a b : ℕ) → is_start a b ≡ true → part_arcs [] (40 * a + b) ≡ a ∷ b ∷ []
first_part zero b e =
    let small : b < 40 = ltb-true b 40 (only (ltb b 40) e) in
    let n : 40 * 0 + b ≡ b = omega arith in
    ap (λ z. part_arcs [] z) n ∙ ap (λ t. cond t (0 ∷ b ∷ []) (cond (ltb b 80) (1 ∷ (b - 40) ∷ []) (2 ∷ (b - 80) ∷ []))) (lt-ltb b 40 small)
  where
    only : (t : Bool) → (t || false) ≡ true → t ≡ true
    only true e = refl
    only false e = e
first_part (suc zero) b e =
    let small : b < 40 = ltb-true b 40 (only (ltb b 40) e) in
    let n : 40 * 1 + b ≡ 40 + b = omega arith in
    let rest : 40 + b - 40 ≡ b = omega arith in
    ap (λ z. part_arcs [] z) n
    ∙ ap (λ t. cond t (0 ∷ (40 + b) ∷ []) (cond (ltb (40 + b) 80) (1 ∷ (40 + b - 40) ∷ []) (2 ∷ (40 + b - 80) ∷ []))) (le-ltb (40 + b) 40 (omega arith))
    ∙ ap (λ t. cond t (1 ∷ (40 + b - 40) ∷ []) (2 ∷ (40 + b - 80) ∷ [])) (lt-ltb (40 + b) 80 (omega arith))
    ∙ ap (λ z. 1 ∷ z ∷ []) rest
  where
    only : (t : Bool) → (t || false) ≡ true → t ≡ true
    only true e = refl
    only false e = e
first_part (suc (suc zero)) b e =
    let n : 40 * 2 + b ≡ 80 + b = omega arith in
    let rest : 80 + b - 80 ≡ b = omega arith in
    ap (λ z. part_arcs [] z) n
    ∙ ap (λ t. cond t (0 ∷ (80 + b) ∷ []) (cond (ltb (80 + b) 80) (1 ∷ (80 + b - 40) ∷ []) (2 ∷ (80 + b - 80) ∷ []))) (le-ltb (80 + b) 40 (omega arith))
    ∙ ap (λ t. cond t (1 ∷ (80 + b - 40) ∷ []) (2 ∷ (80 + b - 80) ∷ [])) (le-ltb (80 + b) 80 (omega arith))
    ∙ ap (λ z. 2 ∷ z ∷ []) rest
first_part (suc (suc (suc a))) b e = absurd (no_start (or_cases (ltb (suc (suc (suc a))) 2 && ltb b 40) (eqb (suc (suc (suc a))) 2) e))
  where
    no_start : ((ltb (suc (suc (suc a))) 2 && ltb b 40) ≡ true) ⊎ (eqb (suc (suc (suc a))) 2 ≡ true) → ⊥
    no_start (inl h) = let less = ltb-true (suc (suc (suc a))) 2 (and_parts (ltb (suc (suc (suc a))) 2) (ltb b 40) h).0 in omega arith
    no_start (inr h) = let same = eqb-true (suc (suc (suc a))) 2 h in omega arith

pub record FirstArcs (n : ℕ) : Type 0 where
  pub first : ℕ
  pub second : ℕ
  pub arcs_are : part_arcs [] n ≡ first ∷ second ∷ []
  pub part_is : 40 * first + second ≡ n
  pub start : is_start first second ≡ true
  pub low : first ≤ 2

first_arcs : (n : ℕ) → FirstArcs n
first_arcs n = by_size (cases_lt n 40) (cases_lt n 80)
  where
    two : (a b : ℕ) → 40 * a + b ≡ n → is_start a b ≡ true → a ≤ 2 → FirstArcs n
    two a b e s l = record { first = a; second = b; arcs_are = ap (λ z. part_arcs [] z) (sym e) ∙ first_part a b s; part_is = e; start = s; low = l }

    or_false : (t : Bool) → t ≡ true → (t || false) ≡ true
    or_false true e = refl
    or_false false e = e

    by_size : (n < 40) ⊎ (40 ≤ n) → (n < 80) ⊎ (80 ≤ n) → FirstArcs n
    by_size (inl h) g = two 0 n (omega arith) (or_false (ltb n 40) (lt-ltb n 40 h)) (omega arith)
    by_size (inr h) (inl g) = two 1 (n - 40) (omega arith) (or_false (ltb (n - 40) 40) (lt-ltb (n - 40) 40 (omega arith))) (omega arith)
    by_size (inr h) (inr g) = two 2 (n - 80) (omega arith) refl (omega arith)

more_parts : (a : ℕ) (arcs ps : List ℕ) → list_all is_arc ps ≡ true → with_parts (a ∷ arcs) ps ≡ Some ((a ∷ arcs) ++ ps)
more_parts a arcs [] h = ap (λ z. Some (a ∷ z)) (sym (append-nil arcs))
more_parts a arcs (p ∷ ps) h =
    let both = and_parts (is_arc p) (list_all is_arc ps) h in
    let small : p < 2 ^ 32 = ltb-true p (2 ^ 32) both.0 in
    ap (λ t. cond t (with_parts (a ∷ (arcs ++ p ∷ [])) ps) None) (le-leb p (2 ^ 32 - 1) (omega arith)) ∙ more_parts a (arcs ++ p ∷ []) ps both.1 ∙ ap (λ z. Some (a ∷ z)) (append_assoc arcs (p ∷ []) ps)

some_of : (t : Bool) (r : Option (List ℕ)) (x : List ℕ) → cond t r None ≡ Some x → (t ≡ true) × (r ≡ Some x)
some_of true r x e = (refl, e)
some_of false r x e = absurd cc

pub record MoreArcs (arcs ps result : List ℕ) : Type 0 where
  pub each : list_all is_arc ps ≡ true
  pub joined : result ≡ arcs ++ ps

more_parts_back : (a : ℕ) (arcs ps result : List ℕ) → with_parts (a ∷ arcs) ps ≡ Some result → MoreArcs (a ∷ arcs) ps result
more_parts_back a arcs [] result e = record { each = refl; joined = sym (same (a ∷ arcs) result e) ∙ ap (λ z. a ∷ z) (sym (append-nil arcs)) }
  where
    same : (x y : List ℕ) → Some x ≡ Some y → x ≡ y
    same x y e = cc
more_parts_back a arcs (p ∷ ps) result e =
    let (below, rest) = some_of (leb p (2 ^ 32 - 1)) (with_parts (a ∷ (arcs ++ p ∷ [])) ps) result e in
    let more = more_parts_back a (arcs ++ p ∷ []) ps result rest in
    let small = leb-true p (2 ^ 32 - 1) below in
    record {
      each = and_from (is_arc p) (list_all is_arc ps) (lt-ltb p (2 ^ 32) (omega arith)) more.each;
      joined = more.joined ∙ ap (λ z. a ∷ z) (append_assoc arcs (p ∷ []) ps);
    }

-- an identifier's parts give its arcs
parts_back : (arcs : List ℕ) → is_identifier arcs ≡ true → with_parts [] (parts_of arcs) ≡ Some arcs
parts_back [] e = absurd cc
parts_back (a ∷ []) e = absurd cc
parts_back (a ∷ b ∷ rest) e =
    let both = and_parts (is_start a b) (list_all is_arc (a ∷ b ∷ rest)) e in
    let first = and_parts (is_arc a) (list_all is_arc (b ∷ rest)) both.1 in
    let second = and_parts (is_arc b) (list_all is_arc rest) first.1 in
    let small : b < 2 ^ 32 = ltb-true b (2 ^ 32) second.0 in
    let low = start_low a b both.0 in
    ap (λ t. cond t (with_parts (part_arcs [] (40 * a + b)) rest) None) (le-leb (40 * a + b) (80 + (2 ^ 32 - 1)) (omega arith))
    ∙ ap (λ z. with_parts z rest) (first_part a b both.0)
    ∙ more_parts a (b ∷ []) rest second.1
  where
    start_low : (a b : ℕ) → is_start a b ≡ true → a ≤ 2
    start_low a b s = low (or_cases (ltb a 2 && ltb b 40) (eqb a 2) s)
      where
        low : ((ltb a 2 && ltb b 40) ≡ true) ⊎ (eqb a 2 ≡ true) → a ≤ 2
        low (inl h) = let less = ltb-true a 2 (and_parts (ltb a 2) (ltb b 40) h).0 in omega arith
        low (inr h) = let same = eqb-true a 2 h in omega arith

-- parts that give arcs are an identifier's
pub record GivesArcs (ps arcs : List ℕ) : Type 0 where
  pub identifier : is_identifier arcs ≡ true
  pub parts : ps ≡ parts_of arcs

arcs_given : (ps arcs : List ℕ) → with_parts [] ps ≡ Some arcs → GivesArcs ps arcs
arcs_given [] arcs e = absurd cc
arcs_given (n ∷ ps) arcs e =
    let (below, rest) = some_of (leb n (80 + (2 ^ 32 - 1))) (with_parts (part_arcs [] n) ps) arcs e in
    let f = first_arcs n in
    let small = leb-true n (80 + (2 ^ 32 - 1)) below in
    let more = more_parts_back f.first (f.second ∷ []) ps arcs (sym (ap (λ z. with_parts z ps) f.arcs_are) ∙ rest) in
    let second : f.second < 2 ^ 32 = second_small n f.first f.second f.part_is f.start small in
    let first : f.first < 2 ^ 32 = omega (arith, f.low) in
    let each : list_all is_arc (f.first ∷ f.second ∷ ps) ≡ true = and_from (is_arc f.first) (list_all is_arc (f.second ∷ ps)) (lt-ltb f.first (2 ^ 32) first) (and_from (is_arc f.second) (list_all is_arc ps) (lt-ltb f.second (2 ^ 32) second) more.each) in
    record {
      identifier = ap is_identifier more.joined ∙ and_from (is_start f.first f.second) (list_all is_arc (f.first ∷ f.second ∷ ps)) f.start each;
      parts = ap (λ z. z ∷ ps) (sym f.part_is) ∙ sym (ap parts_of more.joined);
    }
  where
    second_small : (n a b : ℕ) → 40 * a + b ≡ n → is_start a b ≡ true → n ≤ 80 + (2 ^ 32 - 1) → b < 2 ^ 32
    second_small n a b e s le = small (or_cases (ltb a 2 && ltb b 40) (eqb a 2) s)
      where
        small : ((ltb a 2 && ltb b 40) ≡ true) ⊎ (eqb a 2 ≡ true) → b < 2 ^ 32
        small (inl h) = let less = ltb-true b 40 (and_parts (ltb a 2) (ltb b 40) h).1 in omega arith
        small (inr h) = let same = eqb-true a 2 h in omega arith

-- ---- octets and arcs

pub spelled_back : (o : Octets) (arcs : List ℕ) → SpellsIdentifier o arcs → arcs_of o ≡ Some arcs
spelled_back o arcs s = ap arcs_of s.octets_are ∙ ap (then_parts []) (parts_read (parts_of arcs)) ∙ parts_back arcs s.identifier

pub arcs_spell : (o : Octets) (arcs : List ℕ) → AreOctets o → arcs_of o ≡ Some arcs → SpellsIdentifier o arcs
arcs_spell o arcs f e = go (parts_from false 0 o) refl
  where
    go : (r : Option (List ℕ)) → parts_from false 0 o ≡ r → SpellsIdentifier o arcs
    go None is = absurd (apart (sym (ap (then_parts []) is) ∙ e))
      where
        apart : ◌≡◌ {A = Option (List ℕ)} None (Some arcs) → ⊥
        apart h = cc
    go (Some ps) is =
        let given = arcs_given ps arcs (sym (ap (then_parts []) is) ∙ e) in
        record { identifier = given.identifier; octets_are = parts_spell o false 0 ps f refl is ∙ ap (flat_map part_octets) given.parts }

pub none_spelled : (o : Octets) → None ≡ arcs_of o → (arcs : List ℕ) → SpellsIdentifier o arcs → ⊥
none_spelled o e arcs s = apart (e ∙ spelled_back o arcs s)
  where
    apart : ◌≡◌ {A = Option (List ℕ)} None (Some arcs) → ⊥
    apart h = cc

-- ---- the rule of texts

octets_joined : (o p : Octets) → AreOctets o → AreOctets p → AreOctets (o ++ p)
octets_joined [] p f g = g
octets_joined (x ∷ o) p f g = (f.0, octets_joined o p f.1 g)

groups_are : (ds : List ℕ) → AllByRecursion (λ d. d < 128) ds → AreOctets (map (λ d. d + 128) ds)
groups_are [] f = tt
groups_are (d ∷ ds) f = (omega (arith, f.0), groups_are ds f.1)

parts_are : (ps : List ℕ) → AreOctets (flat_map part_octets ps)
parts_are [] = tt
parts_are (p ∷ ps) =
    let last : AreOctets (p % 128 ∷ []) = (omega arith, tt) in
    octets_joined (part_octets p) (flat_map part_octets ps) (octets_joined (high_groups (p / 128)) (p % 128 ∷ []) (groups_are (digits_of 128 (p / 128)) (all_below_base_digits_of 128 (p / 128) (omega arith))) last) (parts_are ps)

arcs_from_parts : (r : Option (List ℕ)) → are_parts r ≡ true → (arcs : List ℕ) × (then_parts [] r ≡ Some arcs)
arcs_from_parts None e = absurd cc
arcs_from_parts (Some []) e = absurd cc
arcs_from_parts (Some (n ∷ ps)) e =
    let both = and_parts (ltb n (80 + 2 ^ 32)) (list_all is_arc ps) e in
    let small = ltb-true n (80 + 2 ^ 32) both.0 in
    let f = first_arcs n in (
      f.first ∷ f.second ∷ ps,
      ap (λ t. cond t (with_parts (part_arcs [] n) ps) None) (le-leb n (80 + (2 ^ 32 - 1)) (omega arith)) ∙ ap (λ z. with_parts z ps) f.arcs_are ∙ more_parts f.first (f.second ∷ []) ps both.1,
    )

parts_from_arcs : (r : Option (List ℕ)) (arcs : List ℕ) → then_parts [] r ≡ Some arcs → are_parts r ≡ true
parts_from_arcs None arcs e = absurd cc
parts_from_arcs (Some []) arcs e = absurd cc
parts_from_arcs (Some (n ∷ ps)) arcs e =
    let (below, rest) = some_of (leb n (80 + (2 ^ 32 - 1))) (with_parts (part_arcs [] n) ps) arcs e in
    let f = first_arcs n in
    let small = leb-true n (80 + (2 ^ 32 - 1)) below in
    let more = more_parts_back f.first (f.second ∷ []) ps arcs (sym (ap (λ z. with_parts z ps) f.arcs_are) ∙ rest) in
    and_from (ltb n (80 + 2 ^ 32)) (list_all is_arc ps) (lt-ltb n (80 + 2 ^ 32) (omega arith)) more.each

pub identifiers_obey : (arcs : List ℕ) → IdentifiersObey arcs
identifiers_obey arcs e =
    let spelled : SpellsIdentifier (arcs_octets arcs) arcs = record { identifier = e; octets_are = refl } in
    (parts_are (parts_of arcs), parts_from_arcs (parts_from false 0 (arcs_octets arcs)) arcs (spelled_back (arcs_octets arcs) arcs spelled))

pub spells_one : (o : Octets) → SpellsOne o
spells_one o f e =
    let (arcs, read) = arcs_from_parts (parts_from false 0 o) e in
    let spelled = arcs_spell o arcs f read in
    (arcs, spelled, λ others s. same others arcs (sym (spelled_back o others s) ∙ read))
  where
    same : (x y : List ℕ) → Some x ≡ Some y → x ≡ y
    same x y e = cc
