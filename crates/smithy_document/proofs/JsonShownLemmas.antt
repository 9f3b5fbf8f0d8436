-- The text of an array and of an object is that of its parts, told one by one.
use Rattle.std.proofs.Common.{◌≡◌, ℕ, ℤ, pos, negsuc, Bool, true, false, ◌||◌, List, [], ◌∷◌, ◌++◌, refl, sym, ap, ap₂, ◌∙◌, append_assoc, arith}
use Rattle.std.proofs.lemmas.List.{append-nil}
use Rattle.std.specs.Fmt.{signed_decimal}
use Rattle.std.specs.List.{list_all}
use Rattle.std.proofs.lemmas.Bool.{and_parts}
use Rattle.json.proofs.Printed.Strings.{escape_byte_plain}
use Rattle.json.specs.Print.{escape, escape_byte, quoted, token_text, print, print_from}
use Rattle.json.specs.Token as token
use Rattle.json.specs.Token.{Token}
use Rattle.json.specs.Written.{Written}
use Rattle.serde_json.specs.Written.{comma_if, items_text, members_text}
use Rattle.smithy_types.specs.Documents as doc
use Rattle.smithy_types.specs.Documents.{Document, Items, Members, number_of, items_snoc, list_of_members}
use Rattle.smithy_document.specs.JsonText.{json_text, items_as_data, members_as_data}
use Rattle.smithy_document.specs.views.JsonShown.{is_plain_byte, some_items, items_shown, Pair, some_pairs, name_shown, fields_shown}

items_end : (later : Bool) (ds : Items) → items_text later (items_as_data ds) ≡ items_shown later ds ++ 93 ∷ []
unfolding json_text
items_end later doc.no_items = refl
items_end later (doc.item d ds) =
    ap (λ t. comma_if later ++ (json_text d ++ t)) (items_end true ds)
    ∙ ap (λ t. comma_if later ++ t) (sym (append_assoc (json_text d) (items_shown true ds) (93 ∷ [])))
    ∙ sym (append_assoc (comma_if later) (json_text d ++ items_shown true ds) (93 ∷ []))

pub array_text : (ds : Items) → json_text (doc.array ds) ≡ 91 ∷ (items_shown false ds ++ 93 ∷ [])
unfolding json_text
array_text ds = ap (λ t. 91 ∷ t) (items_end false ds)

-- one item more
pub one_more_item : (later : Bool) (ds : Items) (d : Document) → items_shown later (items_snoc ds d) ≡ items_shown later ds ++ (comma_if (later || some_items ds) ++ json_text d)
one_more_item true doc.no_items d = ap (λ t. comma_if true ++ t) (append-nil (json_text d))
one_more_item false doc.no_items d = append-nil (json_text d)
one_more_item true (doc.item e ds) d =
    ap (λ t. comma_if true ++ (json_text e ++ t)) (one_more_item true ds d)
    ∙ ap (λ t. comma_if true ++ t) (sym (append_assoc (json_text e) (items_shown true ds) _))
one_more_item false (doc.item e ds) d =
    ap (λ t. json_text e ++ t) (one_more_item true ds d)
    ∙ sym (append_assoc (json_text e) (items_shown true ds) _)

fields_end : (later : Bool) (ms : Members) → members_text later (members_as_data ms) ≡ fields_shown later (list_of_members ms) ++ 125 ∷ []
unfolding json_text
fields_end later doc.no_members = refl
fields_end later (doc.member k d ms) =
    ap (λ t. comma_if later ++ (quoted k ++ 58 ∷ (json_text d ++ t))) (fields_end true ms)
    ∙ ap (λ t. comma_if later ++ (quoted k ++ 58 ∷ t)) (sym (append_assoc (json_text d) (fields_shown true (list_of_members ms)) (125 ∷ [])))
    ∙ ap (λ t. comma_if later ++ t) (sym (append_assoc (quoted k) (58 ∷ []) _))
    ∙ ap (λ t. comma_if later ++ t) (sym (append_assoc (name_shown k) (json_text d ++ fields_shown true (list_of_members ms)) (125 ∷ [])))
    ∙ sym (append_assoc (comma_if later) (name_shown k ++ (json_text d ++ fields_shown true (list_of_members ms))) (125 ∷ []))

pub object_text : (ms : Members) → json_text (doc.object ms) ≡ 123 ∷ (fields_shown false (list_of_members ms) ++ 125 ∷ [])
unfolding json_text
object_text ms = ap (λ t. 123 ∷ t) (fields_end false ms)

-- one field more
pub one_more_field : (later : Bool) (ps : List Pair) (p : Pair)
    → fields_shown later (ps ++ p ∷ []) ≡ fields_shown later ps ++ (comma_if (later || some_pairs ps) ++ (name_shown p.0 ++ json_text p.1))
one_more_field true [] p = ap (λ t. comma_if true ++ (name_shown p.0 ++ t)) (append-nil (json_text p.1))
one_more_field false [] p = ap (λ t. name_shown p.0 ++ t) (append-nil (json_text p.1))
one_more_field true (q ∷ ps) p =
    ap (λ t. comma_if true ++ (name_shown q.0 ++ (json_text q.1 ++ t))) (one_more_field true ps p)
    ∙ ap (λ t. comma_if true ++ (name_shown q.0 ++ t)) (sym (append_assoc (json_text q.1) (fields_shown true ps) _))
    ∙ ap (λ t. comma_if true ++ t) (sym (append_assoc (name_shown q.0) (json_text q.1 ++ fields_shown true ps) _))
one_more_field false (q ∷ ps) p =
    ap (λ t. name_shown q.0 ++ (json_text q.1 ++ t)) (one_more_field true ps p)
    ∙ ap (λ t. name_shown q.0 ++ t) (sym (append_assoc (json_text q.1) (fields_shown true ps) _))
    ∙ sym (append_assoc (name_shown q.0) (json_text q.1 ++ fields_shown true ps) _)

-- ---- what one token of a writer gives

pub token_written : (t : Token) {whole : List ℕ} (made told : Written) → made.before ≡ [] → made.tokens ≡ [] → told.before ≡ made.before → told.tokens ≡ made.tokens ++ t ∷ []
    → whole ≡ told.before ++ print told.tokens → whole ≡ token_text t
unfolding print_from
token_written t made told start none kept one is =
    is ∙ ap₂ (λ before ts. before ++ print ts) (kept ∙ start) (one ∙ ap (λ ts. ts ++ t ∷ []) none) ∙ append-nil (token_text t)

plain_byte : (x : ℕ) → is_plain_byte x ≡ true → escape_byte x ≡ x ∷ []
plain_byte x h = escape_byte_plain x (λ e. grind (arith, h, e)) (λ e. grind (arith, h, e)) (grind (arith, h))

pub plain_escape : (s : List ℕ) → list_all is_plain_byte s ≡ true → escape s ≡ s
plain_escape [] h = refl
plain_escape (x ∷ s) h = let both = and_parts _ _ h in ap₂ (λ a b. a ++ b) (plain_byte x both.0) (plain_escape s both.1)

pub integer_text : (z : ℤ) → json_text (doc.number (number_of z)) ≡ signed_decimal z
unfolding json_text
integer_text (pos n) = refl
integer_text (negsuc n) = refl

pub string_text : (s : List ℕ) → json_text (doc.string s) ≡ quoted s
unfolding json_text
string_text s = refl

pub null_text : json_text doc.null ≡ token_text token.null
unfolding json_text
null_text = refl

pub some_item : (ds : Items) (d : Document) → some_items (items_snoc ds d) ≡ true
some_item doc.no_items d = refl
some_item (doc.item e ds) d = refl

pub some_pair : (ps : List Pair) (p : Pair) → some_pairs (ps ++ p ∷ []) ≡ true
some_pair [] p = refl
some_pair (q ∷ ps) p = refl
