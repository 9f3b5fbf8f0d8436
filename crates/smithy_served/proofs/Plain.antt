-- Texts of numbers and bytes stand in a header as one token.
use Rattle.smithy_served.proofs.Common.{standard, tokens_of, begins_with_white_space, ends_with_white_space, is_delimiter, needs_quotes, quoted, tokens-listed, listed, is_big_decimal, is_digit, is_signed_digits, Bool, List, None, Ok, Option, Some, [], agree_below, agree_below_at, and_from, and_parts, ap, arith, base64, cond, false, last_or, leb-true, length, list_all, list_all-append, list_any, map, nat_le, not, option_map_or, refl, suc, sym, true, zero, ℕ, ◌&&◌, ◌||◌, ◌∙◌, ◌∷◌, ◌≡◌, ◌≢◌, get_or, replicate, IsUtf8-from_ascii, chars-IsAscii, IsAscii}
use Rattle.std.specs.Char.{is_whitespace}
use Rattle.base64.specs.Rfc4648.{encode_group, encode_symbols, padding_len}
use Rattle.smithy_ids.specs.declared.shape_type.ShapeType.TheVariants as kind
use Rattle.smithy_strings.proofs.AsciiTexts.{is_low, are_low, IsAscii-from_test}
use Rattle.smithy_strings.proofs.NumberTexts.{PassesNumbers, signed_passes, decimal_passes}

-- an ASCII byte that is no white space and no delimiter of a list
abbrev pub is_bare : ℕ → Bool
is_bare b = is_low b && (not (is_delimiter b) && not (is_whitespace b))

abbrev pub are_bare : List ℕ → Bool
are_bare text = list_all is_bare text

pub neither : (a b : Bool) → (not a && not b) ≡ true → (a ≡ false) × (b ≡ false)
neither false false h = (refl, refl)
neither true b h = absurd (cc h)
neither false true h = absurd (cc h)

-- such a text has no white space at its ends and no delimiter, so it stands as it is
record StandsBare (o : Option ℕ) (text : List ℕ) : Type 0 where
  low : are_low text ≡ true
  begins : begins_with_white_space text ≡ false
  ends : option_map_or is_whitespace o false ≡ false → option_map_or is_whitespace (last_or o text) false ≡ false
  unmarked : list_any is_delimiter text ≡ false

bare_stands : (o : Option ℕ) (text : List ℕ) → are_bare text ≡ true → StandsBare o text
bare_stands o [] e = record { low = refl; begins = refl; ends = λ h. h; unmarked = refl }
bare_stands o (b ∷ text) e =
    let parts = and_parts (is_bare b) (are_bare text) e in
    let own = and_parts (is_low b) (not (is_delimiter b) && not (is_whitespace b)) parts.0 in
    let marks = neither (is_delimiter b) (is_whitespace b) own.1 in
    let rest = bare_stands (Some b) text parts.1 in
    record { low = and_from (is_low b) (are_low text) own.0 rest.low; begins = marks.1; ends = λ h. rest.ends marks.1; unmarked = ap (λ d. d || list_any is_delimiter text) marks.0 ∙ rest.unmarked }

-- a bare text is the one token of its header
pub one_token-bare : (text : List ℕ) → text ≢ [] → are_bare text ≡ true → tokens_of (text ∷ []) ≡ Ok (text ∷ [])
unfolding listed
one_token-bare text some e = ap (λ t. tokens_of (t ∷ [])) (sym (one_listed text some alone)) ∙ tokens-listed kind.String (text ∷ []) (λ q. cc q) (IsUtf8-from_ascii text ascii, tt)
  where
    is : StandsBare None text
    is = bare_stands None text e

    ascii : IsAscii text
    ascii = IsAscii-from_test text is.low

    alone : needs_quotes text ≡ false
    alone = ap (λ cs. begins_with_white_space cs || ends_with_white_space cs || list_any is_delimiter text) (chars-IsAscii text ascii) ∙ (λ i. is.begins i || is.ends refl i || is.unmarked i)

    one_listed : (t : List ℕ) → t ≢ [] → needs_quotes t ≡ false → listed kind.String (t ∷ []) ≡ t
    one_listed [] some q = absurd (some refl)
    one_listed (b ∷ t) some q = ap (λ q. cond q (quoted (b ∷ t)) (b ∷ t)) q

-- Numbers: digits, signs, a point and the marks of an exponent.

digit_agrees : agree_below (λ b. not (is_digit b) || is_bare b) (λ b. true) 128 ≡ true
digit_agrees = refl

bare_digit : (b : ℕ) → is_digit b ≡ true → is_bare b ≡ true
bare_digit b e =
    let high = leb-true b 57 (and_parts (nat_le 48 b) (nat_le b 57) e).1 in
    ap (λ d. not d || is_bare b) (sym e) ∙ agree_below_at (λ b. not (is_digit b) || is_bare b) (λ b. true) 128 b digit_agrees (omega (arith, high))

bare_numbers : PassesNumbers is_bare
bare_numbers = record { digit = bare_digit; plus = refl; hyphen = refl; point = refl; small_e = refl; great_e = refl }

pub bare_signed : (text : List ℕ) → is_signed_digits text ≡ true → are_bare text ≡ true
bare_signed = signed_passes is_bare bare_numbers

pub bare_decimal : (text : List ℕ) → is_big_decimal text ≡ true → are_bare text ≡ true
bare_decimal = decimal_passes is_bare bare_numbers

-- Base64.

bare_at : (t : List ℕ) (i : ℕ) → are_bare t ≡ true → is_bare (get_or t i 0) ≡ true
bare_at [] i e = refl
bare_at (b ∷ t) zero e = (and_parts (is_bare b) (are_bare t) e).0
bare_at (b ∷ t) (suc i) e = bare_at t i (and_parts (is_bare b) (are_bare t) e).1

bare_each : (t places : List ℕ) → are_bare t ≡ true → are_bare (map (λ i. get_or t i 0) places) ≡ true
bare_each t [] e = refl
bare_each t (i ∷ places) e = and_from (is_bare (get_or t i 0)) (are_bare (map (λ i. get_or t i 0) places)) (bare_at t i e) (bare_each t places e)

bare_symbols : (t m : List ℕ) → are_bare t ≡ true → are_bare (encode_symbols t m) ≡ true
unfolding encode_symbols
bare_symbols t [] e = refl
bare_symbols t (a ∷ []) e = bare_each t (_ ∷ _ ∷ []) e
bare_symbols t (a ∷ b ∷ []) e = bare_each t (_ ∷ _ ∷ _ ∷ []) e
bare_symbols t (a ∷ b ∷ c ∷ rest) e =
    list_all-append is_bare (encode_group t a b c) (encode_symbols t rest)
    ∙ and_from (are_bare (encode_group t a b c)) (are_bare (encode_symbols t rest)) (bare_each t (_ ∷ _ ∷ _ ∷ _ ∷ []) e) (bare_symbols t rest e)

bare_padding : (n : ℕ) → are_bare (replicate n 61) ≡ true
bare_padding zero = refl
bare_padding (suc n) = bare_padding n

pub bare_base64 : (bytes : List ℕ) → are_bare (base64 bytes) ≡ true
bare_base64 bytes =
    let symbols : List ℕ = encode_symbols standard.encode_table bytes in
    let padding : List ℕ = replicate (padding_len (length bytes)) 61 in
    list_all-append is_bare symbols padding
    ∙ and_from (are_bare symbols) (are_bare padding) (bare_symbols standard.encode_table bytes refl) (bare_padding (padding_len (length bytes)))
