-- A JSON value whose numbers are numbers and whose texts are UTF-8: its text is not empty, is UTF-8, and is read back.
use Rattle.std.proofs.Common.{append-nil}
use Rattle.std.proofs.lemmas.Str.{IsUtf8-append, IsUtf8-nil, is_utf8-from_IsUtf8}
use Rattle.std.specs.Str.{IsUtf8}
use Rattle.smithy_wire.proofs.Common.{◌≡◌, ◌≢◌, refl, sym, ap, ◌∙◌, ℕ, ◌≤◌, Bool, true, false, if◌then◌else◌, ⊤, List, [], ◌∷◌, ◌++◌, Some, None, option_and_then}
use Rattle.json.specs.Token.{Token}
use Rattle.json.specs.Lex.{tokens}
use Rattle.json.specs.Json as json
use Rattle.json.specs.Json.{Json}
use Rattle.json.specs.Tree.{depth, json_tokens, items_tokens, members_tokens, HasNumbers, ItemsHaveNumbers, MembersHaveNumbers}
use Rattle.json.specs.Print.{print, print_from, ends, token_text, IsNumber}
use Rattle.json.specs.Word.{after_number}
use Rattle.json.proofs.Printed.Tokens.{tokens-print}
use Rattle.json.proofs.Printed.Trees.{value-json_tokens, ArePrintable-json_tokens}
use Rattle.json.proofs.Printed.Utf8.{IsUtf8-are_ascii, IsUtf8-quoted, IsUtf8-key, IsUtf8-boolean, IsUtf8-separator}
use Rattle.serde_json.specs.Read.{max_depth}
use Rattle.smithy_wire.specs.WireText.{json_in, json_of}

abbrev mutual
  pub IsWritable : Json → Type 0
  IsWritable json.null = ⊤
  IsWritable (json.boolean b) = ⊤
  IsWritable (json.number s) = IsNumber s × IsUtf8 s
  IsWritable (json.string s) = IsUtf8 s
  IsWritable (json.array js) = AreItemsWritable js
  IsWritable (json.object ms) = AreMembersWritable ms

  pub AreItemsWritable : json.Items → Type 0
  AreItemsWritable json.no_items = ⊤
  AreItemsWritable (json.item j js) = IsWritable j × AreItemsWritable js

  pub AreMembersWritable : json.Members → Type 0
  AreMembersWritable json.no_members = ⊤
  AreMembersWritable (json.member k j ms) = IsUtf8 k × IsWritable j × AreMembersWritable ms

mutual
  pub has_numbers : (j : Json) → IsWritable j → HasNumbers j
  has_numbers json.null h = tt
  has_numbers (json.boolean b) h = tt
  has_numbers (json.number s) h = h.0
  has_numbers (json.string s) h = tt
  has_numbers (json.array js) h = items_have js h
  has_numbers (json.object ms) h = members_have ms h

  items_have : (js : json.Items) → AreItemsWritable js → ItemsHaveNumbers js
  items_have json.no_items h = tt
  items_have (json.item j js) h = (has_numbers j h.0, items_have js h.1)

  members_have : (ms : json.Members) → AreMembersWritable ms → MembersHaveNumbers ms
  members_have json.no_members h = tt
  members_have (json.member k j ms) h = (has_numbers j h.1, members_have ms h.2)

-- ---- UTF-8

abbrev AreUtf8 : List Token → Type 0
AreUtf8 [] = ⊤
AreUtf8 (t ∷ ts) = IsUtf8 (token_text t) × AreUtf8 ts

both_utf8 : (ts us : List Token) → AreUtf8 ts → AreUtf8 us → AreUtf8 (ts ++ us)
both_utf8 [] us h g = g
both_utf8 (t ∷ ts) us h g = (h.0, both_utf8 ts us h.1 g)

mutual
  tokens_utf8 : (j : Json) → IsWritable j → AreUtf8 (json_tokens j)
  tokens_utf8 json.null h = (IsUtf8-are_ascii _ refl, tt)
  tokens_utf8 (json.boolean b) h = (IsUtf8-boolean b, tt)
  tokens_utf8 (json.number s) h = (h.1, tt)
  tokens_utf8 (json.string s) h = (IsUtf8-quoted s h, tt)
  tokens_utf8 (json.array js) h = (IsUtf8-are_ascii _ refl, items_utf8 js h)
  tokens_utf8 (json.object ms) h = (IsUtf8-are_ascii _ refl, members_utf8 ms h)

  items_utf8 : (js : json.Items) → AreItemsWritable js → AreUtf8 (items_tokens js)
  items_utf8 json.no_items h = (IsUtf8-are_ascii _ refl, tt)
  items_utf8 (json.item j js) h = both_utf8 (json_tokens j) (items_tokens js) (tokens_utf8 j h.0) (items_utf8 js h.1)

  members_utf8 : (ms : json.Members) → AreMembersWritable ms → AreUtf8 (members_tokens ms)
  members_utf8 json.no_members h = (IsUtf8-are_ascii _ refl, tt)
  members_utf8 (json.member k j ms) h = (IsUtf8-key k h.0, both_utf8 (json_tokens j) (members_tokens ms) (tokens_utf8 j h.1) (members_utf8 ms h.2))

print_utf8 : (c : Bool) (ts : List Token) → AreUtf8 ts → IsUtf8 (print_from c ts)
unfolding print_from
print_utf8 c [] h = IsUtf8-nil
print_utf8 c (t ∷ ts) h = IsUtf8-append _ _ (IsUtf8-separator c t) (IsUtf8-append _ _ h.0 (print_utf8 (ends t) ts h.1))

-- ---- texts

no_number : (s xs : List ℕ) → IsNumber s → s ++ xs ≢ []
unfolding after_number
no_number [] xs h e = cc h
no_number (b ∷ s) xs h e = cc e

pub printed_some : (j : Json) → IsWritable j → print (json_tokens j) ≢ []
unfolding print_from
printed_some json.null h e = cc e
printed_some (json.boolean true) h e = cc e
printed_some (json.boolean false) h e = cc e
printed_some (json.number s) h e = no_number s [] h.0 e
printed_some (json.string s) h e = cc e
printed_some (json.array js) h e = cc e
printed_some (json.object ms) h e = cc e

pub read_printed : (j : Json) → IsWritable j → depth j ≤ max_depth → json_in (print (json_tokens j)) ≡ Some j
unfolding json_in json_of
read_printed j h shallow =
    ap (λ b. if b then option_and_then (λ p. json.if_last p.0 p.1) (json.value max_depth (tokens (print (json_tokens j)))) else None) (is_utf8-from_IsUtf8 (print (json_tokens j)) (print_utf8 false (json_tokens j) (tokens_utf8 j h)))
    ∙ ap (λ ts. option_and_then (λ p. json.if_last p.0 p.1) (json.value max_depth ts)) (tokens-print (json_tokens j) (ArePrintable-json_tokens j (has_numbers j h)) ∙ sym (append-nil (json_tokens j)))
    ∙ ap (option_and_then (λ p. json.if_last p.0 p.1)) (value-json_tokens j max_depth [] shallow)
