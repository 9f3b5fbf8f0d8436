-- Tokens of documents that are written one after another.
use Rattle.smithy_document.proofs.Common.{◌≡◌, ℕ, ◌+◌, ◌<◌, List, [], ◌∷◌, ◌++◌, drop, get_or, length, map, ℤ, pos, negsuc, Result, Ok, Err, refl, sym, ap, ◌∙◌, append_assoc, rules, drop_more, signed_decimal, number_text, items_of, view, items_view, members_view, document_tokens, item_tokens, Prints}
use Rattle.json.specs.Token.{Token}
use Rattle.json.specs.Written.{Written, Writes}
use Rattle.serde_json.specs.Find.{of_integer}
use Rattle.smithy_types.specs.declared.document.Document as code
use Rattle.smithy_types.specs.declared.document.Document.{Array, Object, the_lemmas}
use Rattle.smithy_types.specs.declared.document.Documents as lists
use Rattle.smithy_types.specs.declared.document.Members as maps
use Rattle.smithy_types.specs.Documents as doc

pub view-Array : (ds : lists.Documents) → view (Array ds) ≡ doc.array (items_view ds)
view-Array ds = search (rules, the_lemmas)

pub view-Object : (ms : maps.Members) → view (Object ms) ≡ doc.object (members_view ms)
view-Object ms = search (rules, the_lemmas)

-- a token is printed
pub printed : {E : Type 0} (r : Result (Unit {0}) E) (old new : Written) (t : Token) → Writes r old new t → Prints (t ∷ []) old new r
printed (Ok u) old new t w = (w.room.0, w.ok)
printed (Err e) old new t w = tt

-- the text of a number that may be below zero
pub integer_text : (z : ℤ) → signed_decimal z ≡ number_text (of_integer z)
integer_text (pos n) = refl
integer_text (negsuc n) = refl

-- what is written
abbrev pub IsPrinted : List Token → Written → Written → Type 0
IsPrinted ts old new = (new.before ≡ old.before) × (new.tokens ≡ old.tokens ++ ts)

-- tokens behind one that was written
pub behind_one : {E : Type 0} (r : Result (Unit {0}) E) (old mid new : Written) (t : Token) (ts : List Token) → IsPrinted (t ∷ []) old mid → Prints ts mid new r → Prints (t ∷ ts) old new r
behind_one (Ok u) old mid new t ts h p = (p.0 ∙ h.0, p.1 ∙ ap (λ us. us ++ ts) h.1 ∙ append_assoc old.tokens (t ∷ []) ts)
behind_one (Err e) old mid new t ts h p = tt

-- ---- what is left of a list gives from here what all gives from the start

abbrev pub Leaves : List Token → List Token → Written → Written → Type 0
Leaves rest all old now = (now.before ≡ old.before) × (now.tokens ++ rest ≡ old.tokens ++ all)

pub leaves_all : (all : List Token) (w : Written) → Leaves all all w w
leaves_all all w = (refl, refl)

pub leaves_less : (part rest all : List Token) (old now next : Written) → IsPrinted part now next → Leaves (part ++ rest) all old now → Leaves rest all old next
leaves_less part rest all old now next p l = (p.0 ∙ l.0, ap (λ ts. ts ++ rest) p.1 ∙ append_assoc now.tokens part rest ∙ l.1)

pub leaves_last : {E : Type 0} (r : Result (Unit {0}) E) (rest all : List Token) (old now end : Written) → Leaves rest all old now → Prints rest now end r → Prints all old end r
leaves_last (Ok u) rest all old now end l p = (p.0 ∙ l.0, p.1 ∙ l.1)
leaves_last (Err e) rest all old now end l p = tt

pub first_item : (xs : List code.Document) (i : ℕ) (x : code.Document) → i < length xs → x ≡ get_or xs i x
    → item_tokens (items_of (map view (drop i xs))) ≡ document_tokens (view x) ++ item_tokens (items_of (map view (drop (i + 1) xs)))
first_item xs i x within is = ap (λ ys. item_tokens (items_of (map view ys))) (drop_more xs i x within ∙ ap (λ y. y ∷ drop (i + 1) xs) (sym is))
