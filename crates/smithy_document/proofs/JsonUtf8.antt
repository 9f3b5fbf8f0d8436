-- The JSON text of a document is UTF-8.
use Rattle.smithy_document.proofs.Common.{◌≡◌, ℕ, suc, ◌<◌, pos, negsuc, List, [], ◌∷◌, Bool, true, false, decimal, IsUtf8, refl, arith, lt-ltb, digit_value, AllDigits, decimal_is_IsNumeral, IsUtf8-append, IsUtf8-nil, number_text, compact_text, items_text, members_text, comma_if, Document, Number, number_as_data, as_data, items_as_data, members_as_data, json_text}
use Rattle.json.proofs.Printed.Utf8.{are_ascii, IsUtf8-are_ascii, IsUtf8-quoted, IsUtf8-boolean}
use Rattle.smithy_types.specs.Documents as doc
use Rattle.smithy_document.proofs.SoundDocuments.{IsSoundNumber, IsSound, AreItemsSound, AreMembersSound}

ascii_digit : (d : ℕ) → digit_value d < 10 → d < 128
ascii_digit d h = grind arith

digits_ascii : (ds : List ℕ) → AllDigits 10 ds → are_ascii ds ≡ true
digits_ascii [] h = refl
digits_ascii (d ∷ ds) h = rw (lt-ltb _ _ (ascii_digit d h.0)) (digits_ascii ds h.1)

number_utf8 : (n : Number) → IsSoundNumber n → IsUtf8 (number_text (number_as_data n))
number_utf8 (doc.positive n) h = IsUtf8-are_ascii (decimal n) (digits_ascii (decimal n) (decimal_is_IsNumeral n h).0.1)
number_utf8 (doc.negative (pos n)) h = absurd h
number_utf8 (doc.negative (negsuc n)) h = IsUtf8-are_ascii (45 ∷ decimal (suc n)) (digits_ascii (decimal (suc n)) (decimal_is_IsNumeral (suc n) (omega (arith, h))).0.1)

one_utf8 : (x : ℕ) (xs : List ℕ) → are_ascii (x ∷ []) ≡ true → IsUtf8 xs → IsUtf8 (x ∷ xs)
one_utf8 x xs small h = IsUtf8-append (x ∷ []) xs (IsUtf8-are_ascii (x ∷ []) small) h

comma_utf8 : (b : Bool) → IsUtf8 (comma_if b)
comma_utf8 true = IsUtf8-are_ascii (44 ∷ []) refl
comma_utf8 false = IsUtf8-nil

mutual
  utf8 : (d : Document) → IsSound d → IsUtf8 (compact_text (as_data d))
  utf8 doc.null h = IsUtf8-are_ascii _ refl
  utf8 (doc.boolean b) h = IsUtf8-boolean b
  utf8 (doc.number n) h = number_utf8 n h
  utf8 (doc.string s) h = IsUtf8-quoted s h
  utf8 (doc.array ds) h = one_utf8 91 _ refl (items_utf8 false ds h)
  utf8 (doc.object ms) h = one_utf8 123 _ refl (members_utf8 false ms h)

  items_utf8 : (b : Bool) (ds : doc.Items) → AreItemsSound ds → IsUtf8 (items_text b (items_as_data ds))
  items_utf8 b doc.no_items h = IsUtf8-are_ascii _ refl
  items_utf8 b (doc.item d ds) h = IsUtf8-append _ _ (comma_utf8 b) (IsUtf8-append _ _ (utf8 d h.0) (items_utf8 true ds h.1))

  members_utf8 : (b : Bool) (ms : doc.Members) → AreMembersSound ms → IsUtf8 (members_text b (members_as_data ms))
  members_utf8 b doc.no_members h = IsUtf8-are_ascii _ refl
  members_utf8 b (doc.member k d ms) h =
      IsUtf8-append _ _ (comma_utf8 b) (IsUtf8-append _ _ (IsUtf8-quoted k h.0) (one_utf8 58 _ refl (IsUtf8-append _ _ (utf8 d h.1) (members_utf8 true ms h.3))))

pub json_text-IsUtf8 : (d : Document) → IsSound d → IsUtf8 (json_text d)
unfolding json_text
json_text-IsUtf8 d h = utf8 d h
