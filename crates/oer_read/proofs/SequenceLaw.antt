-- From what a sequence does, and what its closure promises, to the law of reading.
use Rattle.std.proofs.Common.{◌≡◌, ℕ, suc, ◌+◌, ◌-◌, Bool, true, false, cond, Result, Ok, Err, List, [], ◌∷◌, ◌++◌, length, inl, inr, refl, sym, ap, ap₂, ◌∙◌, subst, arith, append_assoc, length-append, get_or, drop, map}
use Rattle.std.specs.Prelude.{not}
use Rattle.std.proofs.lemmas.List.{append_cancel_right}
use Rattle.std.specs.Result.{IfOk, IfErr, OnErr}
use Rattle.asn1_core.specs.Octets.{Octets, AreOctets}
use Rattle.asn1_core.specs.Rows.{Row, may_be_absent}
use Rattle.asn1_core.specs.declared.error.DecodeError.{DecodeError}
use Rattle.asn1_core.specs.declared.error.DecodeErrorKind.{DecodeErrorKind}
use Rattle.asn1_core.specs.declared.fields.FieldPresence.{FieldPresence}
use Rattle.asn1_core.specs.declared.tag.Tag.{Tag}
use Rattle.oer_spec.proofs.Lists.{Pairwise}
use Rattle.oer_spec.specs.Encoding.{IsEncoding, AreItems, IsItem}
use Rattle.oer_spec.specs.Mode.{Mode, mode_of}
use Rattle.oer_spec.specs.Places.{Item, presence, bodies, extension_bit, IsPreamble, IsExtension}
use Rattle.oer_spec.specs.Tree.{Tree, Struct, Rows, NoRows, Required, Optional, Default, Slot, Absent, Present}
use Rattle.oer_read.specs.Law.{Reads, Decodes, Fronts, IsForMemory}
use Rattle.oer_read.specs.Parts.{Comes, asks_in, places_in, Parts, NoParts, RequiredPart, OptionalPart, DefaultPart, AreOf, IsTableOf, ReadsParts, part_places}
use Rattle.oer_read.specs.Scopes.{bits_for, extension_in, presence_in, frame_behind, opened_at, closed_at, SequenceRead, SequenceRefused, NotOpened, Stopped, NotClosed}
use Rattle.oer_read.specs.State.{Ask, Place, State, asks_of, marked_count, places_of}
use Rattle.oer_read.proofs.Openings.{Opens, opened_opens, opened_mode, opens_opened, closed_comes, comes_closed, rear_trans, rear_are_octets, opens_rear}

-- ---- the items of a table's rows

-- an item of a row
pub record IsOfRow (i : Item) (r : Row) : Type 0 where
  pub marked : i.marked ≡ may_be_absent r.presence
  pub tag : i.tag ≡ r.tag

of_row : (i : Item) (r : Row) (g : Tag) (p : FieldPresence) → r.tag ≡ g → r.presence ≡ p → i.marked ≡ may_be_absent p → i.tag ≡ g → IsOfRow i r
of_row i r g p e f h k = record { marked = h ∙ sym (ap may_be_absent f); tag = k ∙ sym e }

item_marks : (m : Mode) (d : ℕ) (g : Tag) (i : Item) (s : Slot) → IsItem m d g i s → (i.marked ≡ true) × (i.tag ≡ g)
unfolding IsEncoding
item_marks m d g i Absent f = (ap (λ (z : Item). z.marked) f, ap (λ (z : Item). z.tag) f)
item_marks m d g i (Present t) f = (ap (λ (z : Item). z.marked) f.0, ap (λ (z : Item). z.tag) f.0)

pub items_of_rows : (m : Mode) (d : ℕ) (is : List Item) (r : Rows) (table : List Row) (ps : Parts) → IsTableOf table ps → AreOf ps r → AreItems m d is r → Pairwise IsOfRow is table
unfolding IsEncoding
items_of_rows m d is NoRows [] NoParts t f h = subst (λ (l : List Item). Pairwise IsOfRow l []) (sym h) tt
items_of_rows m d [] (Required g u r) (q ∷ table) (RequiredPart k P ps) t f h = absurd h
items_of_rows m d [] (Optional g u r) (q ∷ table) (OptionalPart k P ps) t f h = absurd h
items_of_rows m d [] (Default g v u r) (q ∷ table) (DefaultPart k w P ps) t f h = absurd h
items_of_rows m d (i ∷ is) (Required g u r) (q ∷ table) (RequiredPart k P ps) (a, b, t) (e, p, f) (x, y, h) =
    (of_row i q k _ a b (ap (λ (z : Item). z.marked) x) (ap (λ (z : Item). z.tag) x ∙ e), items_of_rows m d is r table ps t f h)
items_of_rows m d (i ∷ is) (Optional g u r) (q ∷ table) (OptionalPart k P ps) (a, b, t) (e, p, f) (x, h) =
    let n = item_marks m d g i u x in
    (of_row i q k _ a b n.0 (n.1 ∙ e), items_of_rows m d is r table ps t f h)
items_of_rows m d (i ∷ is) (Default g v u r) (q ∷ table) (DefaultPart k w P ps) (a, b, t) (e, p, o, n, f) (inl x, h) =
    let n = item_marks m d g i u x in
    (of_row i q k _ a b n.0 (n.1 ∙ e), items_of_rows m d is r table ps t f h)
items_of_rows m d (i ∷ is) (Default g v u r) (q ∷ table) (DefaultPart k w P ps) (a, b, t) (e, p, o, n, f) (inr (_, _, x, _), h) =
    (of_row i q k _ a b (ap (λ (z : Item). z.marked) x) (ap (λ (z : Item). z.tag) x ∙ e), items_of_rows m d is r table ps t f h)
items_of_rows m d is NoRows (q ∷ table) NoParts t f h = absurd t
items_of_rows m d is r [] (RequiredPart k P ps) t f h = absurd t
items_of_rows m d is r [] (OptionalPart k P ps) t f h = absurd t
items_of_rows m d is r [] (DefaultPart k w P ps) t f h = absurd t
items_of_rows m d is NoRows (q ∷ table) (RequiredPart k P ps) t f h = absurd f
items_of_rows m d is NoRows (q ∷ table) (OptionalPart k P ps) t f h = absurd f
items_of_rows m d is NoRows (q ∷ table) (DefaultPart k w P ps) t f h = absurd f
items_of_rows m d is (Required g u r) table NoParts t f h = absurd f
items_of_rows m d is (Required g u r) (q ∷ table) (OptionalPart k P ps) t f h = absurd f
items_of_rows m d is (Required g u r) (q ∷ table) (DefaultPart k w P ps) t f h = absurd f
items_of_rows m d is (Optional g u r) table NoParts t f h = absurd f
items_of_rows m d is (Optional g u r) (q ∷ table) (RequiredPart k P ps) t f h = absurd f
items_of_rows m d is (Optional g u r) (q ∷ table) (DefaultPart k w P ps) t f h = absurd f
items_of_rows m d is (Default g v u r) table NoParts t f h = absurd f
items_of_rows m d is (Default g v u r) (q ∷ table) (RequiredPart k P ps) t f h = absurd f
items_of_rows m d is (Default g v u r) (q ∷ table) (OptionalPart k P ps) t f h = absurd f

-- as they are asked
asks_step : (a b : Bool) (g h : Tag) (bit : Bool) (ks : List Ask) (bits : List Bool) (rows : List Row) → a ≡ b → g ≡ h → ks ≡ asks_of rows bits
    → cond a (record { tag = g; bit = bit } ∷ ks) ks ≡ cond b (record { tag = h; bit = get_or (cond a (bit ∷ bits) bits) 0 false } ∷ asks_of rows (drop 1 (cond a (bit ∷ bits) bits))) (asks_of rows (cond a (bit ∷ bits) bits))
asks_step true true g h bit ks bits rows e f k = λ z. record { tag = f z; bit = bit } ∷ k z
asks_step false false g h bit ks bits rows e f k = k
asks_step true false g h bit ks bits rows e f k = absurd (cc e)
asks_step false true g h bit ks bits rows e f k = absurd (cc e)

pub items_asks : (is : List Item) (table : List Row) → Pairwise IsOfRow is table → asks_in is ≡ asks_of table (presence is)
items_asks [] [] h = refl
items_asks (i ∷ is) (r ∷ table) (o, h) = asks_step i.marked (may_be_absent r.presence) i.tag r.tag i.bit (asks_in is) (presence is) table o.marked o.tag (items_asks is table h)
items_asks [] (r ∷ table) h = absurd h
items_asks (i ∷ is) [] h = absurd h

count_step : (a b : Bool) (bit : Bool) (bits : List Bool) (n : ℕ) → a ≡ b → length bits ≡ n → length (cond a (bit ∷ bits) bits) ≡ cond b (suc n) n
count_step true true bit bits n e f = ap suc f
count_step false false bit bits n e f = f
count_step true false bit bits n e f = absurd (cc e)
count_step false true bit bits n e f = absurd (cc e)

pub items_count : (is : List Item) (table : List Row) → Pairwise IsOfRow is table → length (presence is) ≡ marked_count table
items_count [] [] h = refl
items_count (i ∷ is) (r ∷ table) (o, h) = count_step i.marked (may_be_absent r.presence) i.bit (presence is) (marked_count table) o.marked (items_count is table h)
items_count [] (r ∷ table) h = absurd h
items_count (i ∷ is) [] h = absurd h

pub items_places : (is : List Item) (table : List Row) → Pairwise IsOfRow is table → places_in is ≡ places_of table
items_places [] [] h = refl
items_places (i ∷ is) (r ∷ table) (o, h) =
    ap₂ ◌∷◌ (λ z. record { tag = o.tag z; needed = not (o.marked z) }) (items_places is table h)
items_places [] (r ∷ table) h = absurd h
items_places (i ∷ is) [] h = absurd h

-- no rows, no items
none_of_none : (is : List Item) (table : List Row) → Pairwise IsOfRow is table → table ≡ [] → is ≡ []
none_of_none [] table h e = refl
none_of_none (i ∷ is) [] h e = absurd h
none_of_none (i ∷ is) (r ∷ table) h e = absurd (cc e)

-- a table's rows, as they are asked, are those of its parts
place_of : (r : Row) (g : Tag) (n : Bool) {ps qs : List Place} → r.tag ≡ g → not (may_be_absent r.presence) ≡ n → ps ≡ qs → ◌≡◌ {A = List Place} (record { tag = r.tag; needed = not (may_be_absent r.presence) } ∷ ps) (record { tag = g; needed = n } ∷ qs)
place_of r g n e f h = λ z. record { tag = e z; needed = f z } ∷ h z

table_places : (table : List Row) (ps : Parts) → IsTableOf table ps → places_of table ≡ part_places ps
table_places [] NoParts t = refl
table_places (q ∷ table) (RequiredPart k P ps) (a, b, t) = place_of q k true a (ap (λ (p : FieldPresence). not (may_be_absent p)) b) (table_places table ps t)
table_places (q ∷ table) (OptionalPart k P ps) (a, b, t) = place_of q k false a (ap (λ (p : FieldPresence). not (may_be_absent p)) b) (table_places table ps t)
table_places (q ∷ table) (DefaultPart k w P ps) (a, b, t) = place_of q k false a (ap (λ (p : FieldPresence). not (may_be_absent p)) b) (table_places table ps t)
table_places [] (RequiredPart k P ps) t = absurd t
table_places [] (OptionalPart k P ps) t = absurd t
table_places [] (DefaultPart k w P ps) t = absurd t
table_places (q ∷ table) NoParts t = absurd t

-- the bits of asks
abbrev asked_bits : List Ask → List Bool
asked_bits ks = map (λ (k : Ask). k.bit) ks

bits_step : (a : Bool) (g : Tag) (bit : Bool) (ks : List Ask) (bits : List Bool) → asked_bits ks ≡ bits → asked_bits (cond a (record { tag = g; bit = bit } ∷ ks) ks) ≡ cond a (bit ∷ bits) bits
bits_step true g bit ks bits e = ap (λ (l : List Bool). bit ∷ l) e
bits_step false g bit ks bits e = e

bits_of_items : (is : List Item) → asked_bits (asks_in is) ≡ presence is
bits_of_items [] = refl
bits_of_items (i ∷ is) = bits_step i.marked i.tag i.bit (asks_in is) (presence is) (bits_of_items is)

bits_of_asks : (table : List Row) (b : List Bool) → length b ≡ marked_count table → asked_bits (asks_of table b) ≡ b
bits_of_asks [] [] e = refl
bits_of_asks [] (x ∷ b) e = absurd (omega (arith, e))
bits_of_asks (r ∷ table) b e = go (may_be_absent r.presence) b (λ l f. bits_of_asks table l f) e
  where
    go : (a : Bool) (b : List Bool) → ((l : List Bool) → length l ≡ marked_count table → asked_bits (asks_of table l) ≡ l) → length b ≡ cond a (suc (marked_count table)) (marked_count table)
        → asked_bits (cond a (record { tag = r.tag; bit = get_or b 0 false } ∷ asks_of table (drop 1 b)) (asks_of table b)) ≡ b
    go false b ih e = ih b e
    go true [] ih e = absurd (omega (arith, e))
    go true (x ∷ b) ih e = ap (λ (l : List Bool). x ∷ l) (ih b (omega (arith, e)))

-- ---- the preamble

front_length : (extensible extended : Bool) → length (extension_bit extensible extended) ≡ cond extensible 1 0
front_length true extended = refl
front_length false extended = refl

front_extension : (extensible extended : Bool) (b : List Bool) → (extended ≡ true → extensible ≡ true) → extension_in extensible (extension_bit extensible extended ++ b) ≡ extended
front_extension true extended b h = refl
front_extension false false b h = refl
front_extension false true b h = absurd (cc (h refl))

front_presence : (extensible extended : Bool) (b : List Bool) → presence_in extensible (extension_bit extensible extended ++ b) ≡ b
front_presence true extended b = refl
front_presence false extended b = refl

-- bits of that count are an extension bit and presence bits
bits_again : (extensible : Bool) (b : List Bool) (n : ℕ) → length b ≡ cond extensible 1 0 + n → (extension_bit extensible (extension_in extensible b) ++ presence_in extensible b ≡ b) × (length (presence_in extensible b) ≡ n)
bits_again true [] n e = absurd (omega (arith, e))
bits_again true (x ∷ b) n e = (refl, omega (arith, e))
bits_again false b n e = (refl, omega (arith, e))

extended_only : (extensible : Bool) (b : List Bool) → extension_in extensible b ≡ true → extensible ≡ true
extended_only true b e = refl
extended_only false b e = absurd (cc e)

-- ---- an encoding of a struct, and what comes behind its preamble
module _ (extensible : Bool) (table more : List Row) (ps qs : Parts) (is_table : IsTableOf table ps) (is_more : IsTableOf more qs) (only : extensible ≡ false → more ≡ []) where
  pub record Begun (s : State) (r a : Rows) (rest : Octets) : Type 0 where
    pub lent : State
    pub opened : opened_at s extensible table more ≡ Ok lent
    pub comes : Comes lent r a rest

  pub begins : (s : State) (r a : Rows) (o rest : Octets) → AreOf ps r → AreOf qs a → s.input ≡ o ++ rest → IsEncoding (mode_of s.codec) s.levels o (Struct false extensible r a) → Begun s r a rest
  unfolding IsEncoding
  begins s r a o rest fits more_fit e (level, is, js, h, k, f) =
      let m : Mode = mode_of s.codec in
      let rows : Pairwise IsOfRow is table = items_of_rows m (s.levels - 1) is r table ps is_table fits h in
      let more_rows : Pairwise IsOfRow js more = items_of_rows m (s.levels - 1) js a more qs is_more more_fit k in
      let bits : List Bool = extension_bit extensible f.extended ++ presence is in
      let behind : Octets = (bodies is ++ f.extension) ++ rest in
      let count : length bits ≡ bits_for extensible table = length-append (extension_bit extensible f.extended) (presence is) ∙ ap₂ ◌+◌ (front_length extensible f.extended) (items_count is table rows) in
      let lent : State = record { input = behind; codec = s.codec; levels = s.levels - 1; frame = frame_behind extensible table more bits } in
      let opens : Opens s extensible table more lent = record {
        level = level;
        preamble = f.preamble;
        bits = bits;
        rest = behind;
        split = e ∙ ap (λ (l : Octets). l ++ rest) f.whole ∙ append_assoc f.preamble (bodies is ++ f.extension) rest;
        spelled = f.bits;
        count = count;
        is = refl;
      } in
      record {
        lent = lent;
        opened = opens_opened s extensible table more lent opens;
        comes = record {
          roots = is;
          additions = js;
          extension = f.extension;
          split = append_assoc (bodies is) f.extension rest;
          are_roots = h;
          are_additions = k;
          asked = items_asks is table rows ∙ ap (asks_of table) (sym (front_presence extensible f.extended (presence is)));
          placed = items_places js more more_rows;
          only = λ x. none_of_none js more more_rows (only x);
          tail = subst (λ (x : Bool). IsExtension m x f.extension js) (sym (front_extension extensible f.extended (presence is) f.only)) f.rest;
        };
      }

  pub begun : (s lent : State) (r a : Rows) (rest : Octets) → AreOf ps r → AreOf qs a → Opens s extensible table more lent → Comes lent r a rest → (o : Octets) × (s.input ≡ o ++ rest) × IsEncoding (mode_of s.codec) s.levels o (Struct false extensible r a)
  unfolding IsEncoding
  begun s lent r a rest fits more_fit o c' =
      let m : Mode = mode_of s.codec in
      let frame : State = record { input = o.rest; codec = s.codec; levels = s.levels - 1; frame = frame_behind extensible table more o.bits } in
      let c : Comes frame r a rest = subst (λ (z : State). Comes z r a rest) o.is c' in
      let parts = bits_again extensible o.bits (marked_count table) o.count in
      let same : presence c.roots ≡ presence_in extensible o.bits =
      sym (bits_of_items c.roots) ∙ ap asked_bits c.asked ∙ bits_of_asks table (presence_in extensible o.bits) parts.1 in
      let bits : o.bits ≡ extension_bit extensible (extension_in extensible o.bits) ++ presence c.roots =
      sym parts.0 ∙ ap (λ (l : List Bool). extension_bit extensible (extension_in extensible o.bits) ++ l) (sym same) in
      let whole : s.input ≡ (o.preamble ++ (bodies c.roots ++ c.extension)) ++ rest =
      o.split ∙ ap (λ (l : Octets). o.preamble ++ l) (c.split ∙ sym (append_assoc (bodies c.roots) c.extension rest)) ∙ sym (append_assoc o.preamble (bodies c.roots ++ c.extension) rest) in (
        o.preamble ++ (bodies c.roots ++ c.extension),
        whole,
        (
          o.level,
          c.roots,
          c.additions,
          c.are_roots,
          c.are_additions,
          record {
            extended = extension_in extensible o.bits;
            preamble = o.preamble;
            extension = c.extension;
            whole = refl;
            bits = subst (λ (l : List Bool). IsPreamble o.preamble l) bits o.spelled;
            rest = c.tail;
            only = extended_only extensible o.bits;
          },
        ),
      )

-- ---- the law
lent_same : (s : State) (extensible : Bool) (table more : List Row) (a b : State) → opened_at s extensible table more ≡ Ok a → opened_at s extensible table more ≡ Ok b → a ≡ b
lent_same s extensible table more a b e f = ok_same a b (sym e ∙ f)
  where
    ok_same : (a b : State) → ◌≡◌ {A = Result State DecodeErrorKind} (Ok a) (Ok b) → a ≡ b
    ok_same a b e = cc e

rest_same : (a b : Octets) → ◌≡◌ {A = Result Octets DecodeErrorKind} (Ok a) (Ok b) → a ≡ b
rest_same a b e = cc e

pub not_both : {X : Type 0} (r : Result X DecodeErrorKind) (x : X) (k : DecodeErrorKind) → r ≡ Ok x → r ≡ Err k → ⊥
not_both {X} r x k e f = go (sym e ∙ f)
  where
    go : ◌≡◌ {A = Result X DecodeErrorKind} (Ok x) (Err k) → ⊥
    go h = cc h

module _ {A : Type 0} (ps qs : Parts) (roots additions : A → Rows) (extensible : Bool) (table more : List Row) (is_table : IsTableOf table ps) (is_more : IsTableOf more qs)
    (only : extensible ≡ false → more ≡ [])
    (tree : A → Tree) (IsValue : A → Type 0)
    (is : (v : A) → tree v ≡ Struct false extensible (roots v) (additions v))
    (made : (v : A) → AreOf ps (roots v) → AreOf qs (additions v) → IsValue v)
    (parts : (v : A) → IsValue v → AreOf ps (roots v) × AreOf qs (additions v))
    (Ran : State → Result A DecodeError → State → Type 0) (promise : (s : State) (r : Result A DecodeError) (t : State) → Ran s r t → ReadsParts ps qs roots additions s r t) where
  -- what an encoding of a value that begins what is left leaves for the closure
  begins_value : (old : State) (w : A) (o : Octets) → IsValue w → (f : Fronts old o (tree w)) → Begun extensible table more ps qs is_table is_more only old (roots w) (additions w) f.rest
  begins_value old w o i f =
      begins extensible table more ps qs is_table is_more only old (roots w) (additions w) o f.rest (parts w i).0 (parts w i).1 f.split
      (subst (λ (t : Tree). IsEncoding (mode_of old.codec) old.levels o t) (is w) f.encoding)

  sequence_read : (old : State) (v : A) (new : State) → SequenceRead Ran extensible table more old v new → Reads tree IsValue old v new
  sequence_read old v new k =
      let p = (promise k.lent (Ok v) k.after k.ran).read in
      let opens = opened_opens old extensible table more k.lent k.octets k.opened in
      let after_fits : AreOctets k.after.input = rear_are_octets old.input k.after.input (rear_trans old.input k.lent.input k.after.input (opens_rear old extensible table more k.lent opens) p.rear) k.octets in
      let enc = begun extensible table more ps qs is_table is_more only old k.lent (roots v) (additions v) k.rest p.fits p.more_fit opens (p.sound (ap (λ (z : State). z.frame.additions) opens.is ∙ table_places more qs is_more) k.rest (closed_comes k.after k.rest after_fits k.closed)) in
      let input : new.input ≡ k.rest = ap (λ (z : State). z.input) k.left in
      record {
        taken = enc.0;
        split = enc.1 ∙ ap (λ (l : Octets). enc.0 ++ l) (sym input);
        encoding = subst (λ (t : Tree). IsEncoding (mode_of old.codec) old.levels enc.0 t) (sym (is v)) enc.2;
        value = made v p.fits p.more_fit;
        only = λ w o i f.
            let b = begins_value old w o i f in
            let c : Comes k.lent (roots w) (additions w) f.rest = subst (λ (z : State). Comes z (roots w) (additions w) f.rest) (lent_same old extensible table more b.lent k.lent b.opened k.opened) b.comes in
            let same : f.rest ≡ k.rest = rest_same f.rest k.rest (sym (comes_closed k.after f.rest (p.complete (roots w) (additions w) f.rest (parts w i).0 (parts w i).1 c)) ∙ k.closed) in
            append_cancel_right o enc.0 k.rest (ap (λ (l : Octets). o ++ l) (sym same) ∙ sym f.split ∙ enc.1);
        rest = k.left ∙ ap (λ (l : Octets). record old { input = l }) (sym input);
      }

  sequence_refused : (old : State) (e : DecodeError) → SequenceRefused Ran extensible table more old e → (IsForMemory e → ⊥) → (w : A) (o : Octets) → IsValue w → Fronts old o (tree w) → ⊥
  sequence_refused old e (NotOpened x codec) m w o i f =
      let b = begins_value old w o i f in
      not_both (opened_at old extensible table more) b.lent e.kind b.opened x
  sequence_refused old e (Stopped lent after x ran) m w o i f =
      let b = begins_value old w o i f in
      let c : Comes lent (roots w) (additions w) f.rest = subst (λ (z : State). Comes z (roots w) (additions w) f.rest) (lent_same old extensible table more b.lent lent b.opened x) b.comes in
      (promise lent (Err e) after ran).stops.none m (roots w) (additions w) f.rest (parts w i).0 (parts w i).1 c
  sequence_refused old e (NotClosed lent after v x ran y codec) m w o i f =
      let b = begins_value old w o i f in
      let c : Comes lent (roots w) (additions w) f.rest = subst (λ (z : State). Comes z (roots w) (additions w) f.rest) (lent_same old extensible table more b.lent lent b.opened x) b.comes in
      let p = (promise lent (Ok v) after ran).read in
      not_both (closed_at after) f.rest e.kind (comes_closed after f.rest (p.complete (roots w) (additions w) f.rest (parts w i).0 (parts w i).1 c)) y

  sequence_mode : (old : State) (e : DecodeError) → SequenceRefused Ran extensible table more old e → e.codec ≡ old.codec
  sequence_mode old e (NotOpened _ mode) = mode
  sequence_mode old e (Stopped lent after x ran) = (promise lent (Err e) after ran).stops.mode ∙ opened_mode old extensible table more lent x
  sequence_mode old e (NotClosed _ _ _ _ _ _ mode) = mode

  -- a type whose closure reads its components keeps the law of reading
  pub sequence_law : (old : State) (result : Result A DecodeError) (new : State) → IfOk result (λ v. SequenceRead Ran extensible table more old v new)
      → IfErr result (λ e. SequenceRefused Ran extensible table more old e) → OnErr result (new ≡ old) → Decodes tree IsValue old result new
  sequence_law old (Ok v) new k e u = record { read = sequence_read old v new k; refused = tt }
  sequence_law old (Err e) new k l u = record { read = tt; refused = record { same = u; mode = sequence_mode old e l; none = sequence_refused old e l } }
