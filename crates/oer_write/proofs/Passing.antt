-- The pass from the rear.
use Rattle.std.proofs.Common.{take-add, append_assoc, ◌≡◌, ℕ, ◌+◌, ◌-◌, ◌<◌, ◌≤◌, List, [], ◌∷◌, ◌++◌, length, take, drop, refl, ap, ap₂, sym, ◌∙◌, get_or, append-nil, arith}
use Rattle.std.proofs.lemmas.List.{take_at, take-take, drop-take, length-take-le, drop_all, take_all, take_more, drop_more, take-append-drop}
use Rattle.asn1_core.specs.Octets.{Octets}
use Rattle.oer_write.specs.Layout.{Piece, spread, total, Ascends}
use Rattle.oer_write.specs.Inserted.{Passed}
use Rattle.oer_write.proofs.Layouts.{spread_from, ascends_lower, ascends_last, total_append}

pub passed_first : (start : ℕ) (out : Octets) (is : List Piece) (more written : ℕ) → length out ≡ written + (total is + more) → Ascends start is written → Passed start (take written out) out is more (length is) written (length out) (length out)
passed_first start out is more written f a =
    let t : take (length is) is ≡ is = take_all (length is) is (omega arith) in
    let d : drop (length is) is ≡ [] = drop_all (length is) is (omega arith) in
    let l : length (take written out) ≡ written = length-take-le written out (omega arith) in
    let e : drop (length out) out ≡ [] = drop_all (length out) out (omega arith) in
    let g : drop written (take written out) ≡ [] = drop_all written (take written out) (omega arith) in
    let k : take written (take written out) ≡ take written out = take-take written written out (omega arith) in
    record { within = omega arith; full = refl; fits = omega arith; room = rw t f; ascends = rw t a; behind = rw d (omega arith); front = sym k; rear = rw (d, e) (sym g) }

pub part_same : (p q : ℕ) (out base : Octets) → p ≤ q → take q out ≡ take q base → take (q - p) (drop p out) ≡ take (q - p) (drop p base)
part_same p q out base h e =
    let a : drop p (take (p + (q - p)) out) ≡ take (q - p) (drop p out) = drop-take p (q - p) out in
    let b : drop p (take (p + (q - p)) base) ≡ take (q - p) (drop p base) = drop-take p (q - p) base in
    let c : p + (q - p) ≡ q = omega arith in
    cc

pub rear_next : (base : Octets) (i : Piece) (is : List Piece) (read : ℕ) (n : ℕ) → i.place ≤ read → Ascends read is n → spread i.place base (i ∷ is) ≡ i.octets ++ (take (read - i.place) (drop i.place base) ++ spread read base is)
rear_next base i is read n h a =
    let z : i.place - i.place ≡ 0 = omega arith in
    let s : spread i.place base is ≡ take (read - i.place) (drop i.place base) ++ spread read base is = spread_from i.place read base is n h a in
    rw (z, s) refl

pub front_same : (p q : ℕ) (out base : Octets) → p ≤ q → take q out ≡ take q base → take p out ≡ take p base
front_same p q out base h e =
    let a : take p (take q out) ≡ take p out = take-take p q out h in
    let b : take p (take q base) ≡ take p base = take-take p q base h in
    cc

pub passed_next : (start : ℕ) (base out next : Octets) (is : List Piece) (more left read write begins n : ℕ) (i : Piece) → Passed start base out is more (left + 1) read write n → get_or is left i ≡ i → begins + (length i.octets + (read - i.place)) ≡ write → length next ≡ length out → take i.place next ≡ take i.place out
    → drop begins next ≡ i.octets ++ (take (read - i.place) (drop i.place out) ++ drop write out) → Passed start base next is more left i.place begins n
passed_next start base out next is more left read write begins n i p g b l f r =
    let within : left + 1 ≤ length is = p.within in
    let lt : left < length is = omega arith in
    let t0 : take (left + 1) is ≡ take left is ++ get_or is left i ∷ [] = take_more is left i lt in
    let t : take (left + 1) is ≡ take left is ++ i ∷ [] = rw g at t0 in
    let d0 : drop left is ≡ get_or is left i ∷ drop (left + 1) is = drop_more is left i lt in
    let d : drop left is ≡ i ∷ drop (left + 1) is = rw g at d0 in
    let u : total (take left is ++ i ∷ []) ≡ total (take left is) + (length i.octets + 0) = total_append (take left is) (i ∷ []) in
    let v : total (take (left + 1) is) ≡ total (take left is) + (length i.octets + 0) = rw t u in
    let al = ascends_last start (take left is) i read (rw t at p.ascends) in
    let at : i.place ≤ read = al.1 in
    let rear : spread i.place base (i ∷ drop (left + 1) is) ≡ i.octets ++ (take (read - i.place) (drop i.place base) ++ spread read base (drop (left + 1) is)) = rear_next base i (drop (left + 1) is) read (length base) at p.behind in
    let part : take (read - i.place) (drop i.place out) ≡ take (read - i.place) (drop i.place base) = part_same i.place read out base at p.front in
    let front : take i.place out ≡ take i.place base = front_same i.place read out base at p.front in
    let room : write ≡ read + (total (take (left + 1) is) + more) = p.room in
    let fits : write ≤ n = p.fits in
    let rest : drop write out ≡ spread read base (drop (left + 1) is) = p.rear in
    let behind : Ascends i.place (i ∷ drop (left + 1) is) (length base) = (omega arith, ascends_lower i.place read (drop (left + 1) is) (length base) at p.behind) in
    let done : drop begins next ≡ spread i.place base (i ∷ drop (left + 1) is) = cc in
    record { within = omega arith; full = l ∙ p.full; fits = omega arith; room = omega arith; ascends = al.0; behind = rw d behind; front = f ∙ front; rear = rw d done }

-- what the next step asks
pub next_room : (start : ℕ) (base out : Octets) (is : List Piece) (more left read write n : ℕ) (i : Piece) → Passed start base out is more (left + 1) read write n → get_or is left i ≡ i → (i.place ≤ read) × (read + length i.octets ≤ write)
next_room start base out is more left read write n i p g =
    let within : left + 1 ≤ length is = p.within in
    let lt : left < length is = omega arith in
    let t0 : take (left + 1) is ≡ take left is ++ get_or is left i ∷ [] = take_more is left i lt in
    let t : take (left + 1) is ≡ take left is ++ i ∷ [] = rw g at t0 in
    let u : total (take left is ++ i ∷ []) ≡ total (take left is) + (length i.octets + 0) = total_append (take left is) (i ∷ []) in
    let v : total (take (left + 1) is) ≡ total (take left is) + (length i.octets + 0) = rw t u in
    let al = ascends_last start (take left is) i read (rw t at p.ascends) in
    let room : write ≡ read + (total (take (left + 1) is) + more) = p.room in
    (al.1, omega arith)

-- the last step puts octets from start on
pub last_room : (start : ℕ) (base out : Octets) (is : List Piece) (more read write n : ℕ) → Passed start base out is more 0 read write n → (start ≤ read) × (read + more ≤ write)
last_room start base out is more read write n p = let r : write ≡ read + (0 + more) = p.room in let a : start ≤ read = p.ascends in (a, omega arith)

pub passed_last : (start : ℕ) (base out next octets : Octets) (is : List Piece) (read write begins n : ℕ) → Passed start base out is (length octets) 0 read write n → begins + (length octets + (read - start)) ≡ write → take start next ≡ take start out
    → drop begins next ≡ octets ++ (take (read - start) (drop start out) ++ drop write out) → next ≡ take start base ++ (octets ++ spread start base is)
passed_last start base out next octets is read write begins n p b f r =
    let room : write ≡ read + (0 + length octets) = p.room in
    let at : start ≤ read = p.ascends in
    let same : begins ≡ start = omega (arith, b, room, at) in
    let part : take (read - start) (drop start out) ≡ take (read - start) (drop start base) = part_same start read out base at p.front in
    let front : take start out ≡ take start base = front_same start read out base at p.front in
    let s : spread start base is ≡ take (read - start) (drop start base) ++ spread read base is = spread_from start read base is (length base) at p.behind in
    let rest : drop write out ≡ spread read base is = p.rear in
    let rear : drop start next ≡ octets ++ spread start base is = ap (λ (m : ℕ). drop m next) (sym same) ∙ r ∙ ap₂ (λ (x y : Octets). octets ++ (x ++ y)) part rest ∙ ap (λ (x : Octets). octets ++ x) (sym s) in
    sym (take-append-drop start next) ∙ ap₂ (λ (x y : Octets). x ++ y) (f ∙ front) rear

front_parts : (p q : ℕ) (o : Octets) → p ≤ q → take q o ≡ take p o ++ take (q - p) (drop p o)
front_parts p q o h =
    let c : p + (q - p) ≡ q = omega arith in
    ap (λ (m : ℕ). take m o) (sym c) ∙ take-add p (q - p) o

-- where nothing more is put, the pass is done
pub passed_done : (start : ℕ) (base out : Octets) (is : List Piece) (read write n : ℕ) → Passed start base out is 0 0 read write n → out ≡ take start base ++ spread start base is
passed_done start base out is read write n p =
    let room : write ≡ read + (0 + 0) = p.room in
    let at : start ≤ read = p.ascends in
    let same : write ≡ read = omega (arith, room) in
    let s : spread start base is ≡ take (read - start) (drop start base) ++ spread read base is = spread_from start read base is (length base) at p.behind in
    let parts : take read out ≡ take start base ++ take (read - start) (drop start base) = p.front ∙ front_parts start read base at in
    let rear : drop read out ≡ spread read base is = ap (λ (m : ℕ). drop m out) (sym same) ∙ p.rear in
    sym (take-append-drop read out) ∙ ap₂ (λ (x y : Octets). x ++ y) parts rear ∙ append_assoc (take start base) (take (read - start) (drop start base)) (spread read base is) ∙ ap (λ (x : Octets). take start base ++ x) (sym s)

-- an output that has grown
pub grown_whole : (len : ℕ) (new items : Octets) → length new ≡ length items → len ≡ length items → take len (new ++ drop (length new) items) ≡ new
grown_whole len new items m n =
    let z : drop (length new) items ≡ [] = drop_all (length new) items (omega (arith, m)) in
    ap (λ (x : Octets). take len (new ++ x)) z ∙ ap (take len) (append-nil new) ∙ take_all len new (omega (arith, m, n))

pub grown_base : (written full : ℕ) (old pad whole items : Octets) → whole ≡ items → items ≡ take full old ++ pad → length old ≤ full → written ≡ length old → take written whole ≡ old
grown_base written full old pad whole items a b f w =
    let g : whole ≡ old ++ pad = a ∙ b ∙ ap (λ (z : Octets). z ++ pad) (take_all full old f) in
    ap (take written) g ∙ take_at old pad written (sym w)
