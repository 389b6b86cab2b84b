-- The places of a set's components, as the octets of more are written behind.
use Rattle.std.proofs.Common.{◌≡◌, ℕ, ◌+◌, ◌-◌, ◌<◌, ◌≤◌, get_or, Bool, cond, List, [], ◌∷◌, ◌++◌, length, take, drop, map, refl, ap, ap₂, sym, ◌∙◌, arith, append_assoc, length-append, length-drop, Ok, Err, Result}
use Rattle.std.proofs.lemmas.List.{take-append-le, drop-append-le, drop_at, take_all, drop_more, map-append}
use Rattle.asn1_core.specs.Octets.{Octets, pack}
use Rattle.asn1_core.specs.declared.error.EncodeErrorKind.{EncodeErrorKind}
use Rattle.asn1_core.specs.declared.tag.Tag.{Tag}
use Rattle.oer_spec.specs.Places.{Item, by_tag, presence, bodies, extension_bit}
use Rattle.oer_spec.specs.Writing.{AppendsOrMemory, BeginsWith}
use Rattle.oer_write.specs.Kept.{item, AreLaid}
use Rattle.oer_write.specs.Scopes.{any_true, extension_of, set_octets}
use Rattle.oer_write.specs.Written.{WriteFrame}
use Rattle.oer_write.specs.declared.component.Component.{Component}

pub laid_more : (o n : Octets) (cs : List Component) → BeginsWith o n → AreLaid o cs → AreLaid n cs
laid_more o n [] b h = tt
laid_more o n (c ∷ cs) b h = (let l = h.0 in omega (arith, l, ap length b.1, length-append o b.0), laid_more o n cs b h.1)

pub laid_push : (o : Octets) (cs : List Component) (c : Component) → AreLaid o cs → c.start + c.size ≤ length o → AreLaid o (cs ++ c ∷ [])
laid_push o [] c h l = (l, tt)
laid_push o (d ∷ cs) c h l = (h.0, laid_push o cs c h.1 l)

body_same : (o x : Octets) (start size : ℕ) → start + size ≤ length o → take size (drop start (o ++ x)) ≡ take size (drop start o)
body_same o x start size l =
    ap (take size) (drop-append-le start o x (omega (arith, l))) ∙ take-append-le size (drop start o) x (omega (arith, l, length-drop start o))

pub items_more : (o n : Octets) (cs : List Component) → BeginsWith o n → AreLaid o cs → map (item n) cs ≡ map (item o) cs
items_more o n [] b h = refl
items_more o n (c ∷ cs) b h = ap₂ (λ (i : Item) (is : List Item). i ∷ is) here (items_more o n cs b h.1)
  where
    here : item n c ≡ item o c
    here = ap (λ (w : Octets). let i : Item = record { tag = c.tag; marked = c.marked; bit = c.bit; octets = w } in i) (ap (λ (z : Octets). take c.size (drop c.start z)) b.1 ∙ body_same o b.0 c.start c.size h.0)

-- a component that was written behind the others
pub items_written : (o n x : Octets) (cs newer : List Component) (c : Component) (tag : Tag) (marked bit : Bool) → n ≡ o ++ x → newer ≡ cs ++ c ∷ [] → c.start ≡ length o → c.size ≡ length n - length o → c.tag ≡ tag → c.marked ≡ marked → c.bit ≡ bit → AreLaid o cs
    → map (item n) newer ≡ map (item o) cs ++ record { tag = tag; marked = marked; bit = bit; octets = x } ∷ []
items_written o n x cs newer c tag marked bit e p s z t m b h =
    let body : take c.size (drop c.start n) ≡ x = ap₂ (λ (k : ℕ) (w : Octets). take c.size (drop k w)) s e ∙ ap (take c.size) (drop_at o x (length o) refl) ∙ take_all c.size x (omega (arith, z, ap length e, length-append o x)) in
    let here : item n c ≡ record { tag = tag; marked = marked; bit = bit; octets = x } = λ i. record { tag = t i; marked = m i; bit = b i; octets = body i } in
    ap (map (item n)) p ∙ map-append (item n) cs (c ∷ []) ∙ ap₂ (λ (is : List Item) (i : Item). is ++ i ∷ []) (items_more o n cs (x, e) h) here

pub laid_written : (o n x : Octets) (cs newer : List Component) (c : Component) → n ≡ o ++ x → newer ≡ cs ++ c ∷ [] → c.start ≡ length o → c.size ≡ length n - length o → AreLaid o cs → AreLaid n newer
laid_written o n x cs newer c e p s z h =
    rw p (laid_push n cs c (laid_more o n cs (x, e) h) (omega (arith, s, z, ap length e, length-append o x)))

-- presence bits don't depend on where octets lie
pub presence_any : (o n : Octets) (cs : List Component) → presence (map (item o) cs) ≡ presence (map (item n) cs)
presence_any o n [] = refl
presence_any o n (c ∷ cs) = ap (λ (bs : List Bool). cond c.marked (c.bit ∷ bs) bs) (presence_any o n cs)

-- a set is written from its places, in tag order
pub set_written : {T : Type 0} (r : Result T EncodeErrorKind) (f : WriteFrame) (places arranged : List Component) (octets : Octets) (bits : List Bool) (out one two new : Octets) → f.components ≡ map (item octets) places → map (item octets) arranged ≡ by_tag (map (item octets) places)
    → bits ≡ presence (map (item []) arranged) → one ≡ out ++ pack (extension_bit f.extensible (any_true f.bitmap) ++ bits) → two ≡ one ++ bodies (map (item octets) arranged) → AppendsOrMemory r (extension_of f.bitmap f.opens) two new → AppendsOrMemory r (set_octets f) out new
set_written {T} r f places arranged octets bits out one two new own sorted b p q a = go r a
  where
    same : map (item octets) arranged ≡ by_tag f.components
    same = sorted ∙ ap by_tag (sym own)

    bits_are : bits ≡ presence (by_tag f.components)
    bits_are = b ∙ presence_any [] octets arranged ∙ ap presence same

    laid : two ≡ (out ++ pack (extension_bit f.extensible (any_true f.bitmap) ++ presence (by_tag f.components))) ++ bodies (by_tag f.components)
    laid = q ∙ ap₂ (λ (o : Octets) (is : List Item). o ++ bodies is) (p ∙ ap (λ (bs : List Bool). out ++ pack (extension_bit f.extensible (any_true f.bitmap) ++ bs)) bits_are) same

    go : (r : Result T EncodeErrorKind) → AppendsOrMemory r (extension_of f.bitmap f.opens) two new → AppendsOrMemory r (set_octets f) out new
    go (Ok u) a = a ∙ ap (λ (o : Octets). o ++ extension_of f.bitmap f.opens) laid ∙ append_assoc (out ++ pack (extension_bit f.extensible (any_true f.bitmap) ++ presence (by_tag f.components))) (bodies (by_tag f.components)) _ ∙ append_assoc out _ _
    go (Err k) a = (a.0, (pack (extension_bit f.extensible (any_true f.bitmap) ++ presence (by_tag f.components)) ++ (bodies (by_tag f.components) ++ a.1.0), a.1.1 ∙ ap (λ (o : Octets). o ++ a.1.0) laid ∙ append_assoc (out ++ pack (extension_bit f.extensible (any_true f.bitmap) ++ presence (by_tag f.components))) (bodies (by_tag f.components)) _ ∙ append_assoc out _ _))

-- one more component is appended, in turn
pub bodies_more : (o : Octets) (cs : List Component) (i : ℕ) (c : Component) (out new whole : Octets) → i < length cs → c ≡ get_or cs i c → new ≡ out ++ take c.size (drop c.start o)
    → out ++ bodies (map (item o) (drop i cs)) ≡ whole → new ++ bodies (map (item o) (drop (i + 1) cs)) ≡ whole
bodies_more o cs i c out new whole short there e h =
    let rest : Octets = bodies (map (item o) (drop (i + 1) cs)) in
    let split : drop i cs ≡ c ∷ drop (i + 1) cs = drop_more cs i c short ∙ ap (λ (x : Component). x ∷ drop (i + 1) cs) (sym there) in
    ap (λ (x : Octets). x ++ rest) e ∙ append_assoc out _ rest ∙ ap (λ (x : List Component). out ++ bodies (map (item o) x)) (sym split) ∙ h
