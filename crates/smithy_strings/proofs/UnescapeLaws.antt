-- An escape is taken back as the text that it is of.
use Rattle.std.proofs.Common.{◌≡◌, refl, sym, ◌∙◌, ap, ℕ, Bool, true, false, List, [], ◌∷◌, Option, Some, None, option_and_then, eq-eqb}
use Rattle.std.specs.Str.{IsUtf8, is_utf8}
use Rattle.std.specs.Cmp.Derive.{both_true}
use Rattle.std.specs.Cmp.Lexicographic.{same_text as same_from_test}
use Rattle.std.proofs.lemmas.Str.{IsUtf8-from_is_utf8, is_utf8-from_IsUtf8}
use Rattle.percent_encoding.specs.Percent.{percent_decode}
use Rattle.smithy_types.specs.Texts.{same_text}
use Rattle.std.specs.Bool.{then_some}
use Rattle.smithy_strings.specs.Escapes.{escape, decoded, unescaped, UnescapeIsExact}
use Rattle.smithy_strings.proofs.Bytes.{AreBytes-from_utf8}
use Rattle.smithy_strings.proofs.EscapeLaws.{decode-escape}

pub same_self : (text : List ℕ) → same_text text text ≡ true
same_self [] = refl
same_self (b ∷ text) = both_true (eq-eqb b b refl) (same_self text)

decoded-escape : (text : List ℕ) → IsUtf8 text → decoded (escape text) ≡ Some text
decoded-escape text utf8 =
    let test = is_utf8-from_IsUtf8 text utf8 in
    ap (λ t. then_some (is_utf8 t) t) (decode-escape text (AreBytes-from_utf8 text test)) ∙ ap (λ b. then_some b text) test

-- the escape of a text is taken back as the text
pub unescaped-escape : (text : List ℕ) → IsUtf8 text → unescaped (escape text) ≡ Some text
unfolding unescaped
unescaped-escape text utf8 =
    ap (option_and_then (λ t. then_some (same_text (escape t) (escape text)) t)) (decoded-escape text utf8) ∙ ap (λ b. then_some b text) (same_self (escape text))

-- what is taken back is a text with that escape
unescaped_some : (input text : List ℕ) → unescaped input ≡ Some text → IsUtf8 text × (escape text ≡ input)
unfolding unescaped
unescaped_some input text e = first (is_utf8 (percent_decode input)) refl e
  where
    kept : List ℕ → Option (List ℕ)
    kept t = then_some (same_text (escape t) input) t

    second : (b : Bool) → same_text (escape (percent_decode input)) input ≡ b → is_utf8 (percent_decode input) ≡ true → then_some b (percent_decode input) ≡ Some text → IsUtf8 text × (escape text ≡ input)
    second true same utf8 is =
        let one : percent_decode input ≡ text = cc is in
        let test = ap is_utf8 (sym one) ∙ utf8 in
        (IsUtf8-from_is_utf8 text test, ap escape (sym one) ∙ same_from_test (escape (percent_decode input)) input (sym same))
    second false same utf8 is = absurd (cc is)

    first : (b : Bool) → is_utf8 (percent_decode input) ≡ b → option_and_then (λ t. then_some (same_text (escape t) input) t) (then_some b (percent_decode input)) ≡ Some text → IsUtf8 text × (escape text ≡ input)
    first true utf8 is = second (same_text (escape (percent_decode input)) input) refl utf8 is
    first false utf8 is = absurd (cc is)

pub unescape_is_exact : UnescapeIsExact
unescape_is_exact input = record {
  reads_back = λ text utf8 is. ap unescaped (sym is) ∙ unescaped-escape text utf8;
  has_escape = λ text e. unescaped_some input text e;
}

-- the text that was decoded, and none where it is not UTF-8
pub decoded_some : (input text : List ℕ) → text ≡ percent_decode input → IsUtf8 (percent_decode input) → Some text ≡ decoded input
decoded_some input text is utf8 = ap Some is ∙ sym (ap (λ b. then_some b (percent_decode input)) (is_utf8-from_IsUtf8 (percent_decode input) utf8))

pub decoded_none : (input : List ℕ) → (IsUtf8 (percent_decode input) → ⊥) → None ≡ decoded input
decoded_none input other = go (is_utf8 (percent_decode input)) refl
  where
    go : (b : Bool) → is_utf8 (percent_decode input) ≡ b → None ≡ then_some b (percent_decode input)
    go true e = absurd (other (IsUtf8-from_is_utf8 (percent_decode input) e))
    go false e = refl
