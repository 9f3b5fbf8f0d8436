-- The steps of reading a header list.
use Rattle.std.proofs.Common.{◌≡◌, ◌≢◌, refl, sym, ◌∙◌, ap, subst, ℕ, suc, ◌<◌, ◌≤◌, arith, Bool, true, false, cond, ◌||◌, ◌==◌, List, [], ◌∷◌, ◌++◌, length, get_or, Option, Some, None, option_map, MatchOption, Ok, Err, IsUtf8, ne_eqb, encode_utf8, inl, inr}
use Rattle.std.specs.Borrow.{Bor}
use Rattle.std.specs.List.{AllByRecursion}
use Rattle.std.specs.Str.{is_utf8}
use Rattle.std.proofs.lemmas.Bool.{cases_lt}
use Rattle.std.proofs.lemmas.List.{append_assoc, append-nil}
use Rattle.std.proofs.lemmas.Str.{encode_ascii, inside_one, length-encode, len_utf8_bounds, is_utf8-from_IsUtf8, IsUtf8-from_is_utf8}
use Rattle.smithy_http.specs.declared.error.ListFault.TheVariants as fault
use Rattle.smithy_http.specs.HeaderValues.{text_of}
use Rattle.smithy_http.specs.views.ItemReading.{with_text}
use Rattle.smithy_http.specs.ListTexts.{behind_blanks, with_first, quoted_text, behind_comma}

-- ---- blanks and commas

-- what is told of what stands behind a blank
abbrev pub IsBehindBlank : List ℕ → Option (Bor (List ℕ)) → Type 0
IsBehindBlank text o = MatchOption o (behind_blanks text ≡ text) (λ rest. (length rest.now < length text) × (behind_blanks rest.now ≡ behind_blanks text))

no_blank : (text : List ℕ) → ((rest : List ℕ) → text ≢ 32 ∷ rest) → ((rest : List ℕ) → text ≢ 9 ∷ rest) → behind_blanks text ≡ text
no_blank [] no_space no_tab = refl
no_blank (b ∷ text) no_space no_tab =
    ap (λ x. cond (x || (b == 9)) (behind_blanks text) (b ∷ text)) (ne_eqb b 32 (λ e. no_space text (ap (λ x. x ∷ text) e)))
    ∙ ap (λ x. cond x (behind_blanks text) (b ∷ text)) (ne_eqb b 9 (λ e. no_tab text (ap (λ x. x ∷ text) e)))

pub behind_tab : (text : List ℕ) (o : Option (Bor (List ℕ))) → ((rest : List ℕ) → text ≢ 32 ∷ rest) → MatchOption o ((rest : List ℕ) → text ≢ 9 ∷ rest) (λ x. text ≡ 9 ∷ x.now) → IsBehindBlank text o
behind_tab text None no_space told = no_blank text no_space told
behind_tab text (Some rest) no_space told = (omega (arith, ap length told), ap behind_blanks (sym told))

pub not_comma : (text : List ℕ) → text ≢ [] → ((rest : List ℕ) → text ≢ 44 ∷ rest) → behind_comma text ≡ Err fault.Trailing
not_comma [] some other = absurd (some refl)
not_comma (b ∷ text) some other = ap (λ x. cond x (Ok text) (Err fault.Trailing)) (ne_eqb b 44 (λ e. other text (ap (λ x. x ∷ text) e)))

-- ---- texts

pub text_of-utf8 : (value : List ℕ) → IsUtf8 value → text_of value ≡ Some value
text_of-utf8 value utf8 = ap (λ b. cond b (Some value) None) (is_utf8-from_IsUtf8 value utf8)

pub text_of-other : (value : List ℕ) → (IsUtf8 value → ⊥) → text_of value ≡ None
text_of-other value other = go (is_utf8 value) refl
  where
    go : (b : Bool) → is_utf8 value ≡ b → cond b (Some value) None ≡ None
    go true e = absurd (other (IsUtf8-from_is_utf8 value e))
    go false e = refl

-- ---- quoted texts, character by character

-- neither `"` nor `\`
abbrev pub IsPlain : ℕ → Type 0
IsPlain b = (b ≢ 34) × (b ≢ 92)

all_at : (P : ℕ → Type 0) (xs : List ℕ) → ((k : ℕ) → k < length xs → P (get_or xs k 0)) → AllByRecursion P xs
all_at P [] at = tt
all_at P (x ∷ xs) at = (at 0 (omega arith), all_at P xs (λ k l. at (suc k) (omega arith)))

-- an ASCII byte of a character is the character
ascii_inside : (c k : ℕ) → k < length (encode_utf8 c) → get_or (encode_utf8 c) k 0 < 128 → c ≡ get_or (encode_utf8 c) k 0
ascii_inside c k l ascii = inside_one c [] (encode_utf8 c) k (sym (append-nil (encode_utf8 c))) l ascii

pub plain_char : (c : ℕ) → c ≢ 34 → c ≢ 92 → AllByRecursion IsPlain (encode_utf8 c)
plain_char c no_quote no_pair =
    all_at IsPlain (encode_utf8 c)
    (λ k l. (
      λ e. no_quote (ascii_inside c k l (omega arith) ∙ e),
      λ e. no_pair (ascii_inside c k l (omega arith) ∙ e),
    ))

with_text-nil : (o : Option (List ℕ × List ℕ)) → o ≡ option_map (with_text []) o
with_text-nil None = refl
with_text-nil (Some read) = refl

with_text-first : (b : ℕ) (text : List ℕ) (o : Option (List ℕ × List ℕ)) → option_map (with_first b) (option_map (with_text text) o) ≡ option_map (with_text (b ∷ text)) o
with_text-first b text None = refl
with_text-first b text (Some read) = refl

with_text-append : (text more : List ℕ) (o : Option (List ℕ × List ℕ)) → option_map (with_text (text ++ more)) o ≡ option_map (with_text text) (option_map (with_text more) o)
with_text-append text more None = refl
with_text-append text more (Some read) = ap (λ xs. Some (xs, read.1)) (append_assoc text more read.0)

quoted_text-plain : (bytes rest : List ℕ) → AllByRecursion IsPlain bytes → quoted_text false (bytes ++ rest) ≡ option_map (with_text bytes) (quoted_text false rest)
quoted_text-plain [] rest all = with_text-nil (quoted_text false rest)
quoted_text-plain (b ∷ bytes) rest all =
    ap (λ x. cond x (Some ([], bytes ++ rest)) (cond (b == 92) (quoted_text true (bytes ++ rest)) (option_map (with_first b) (quoted_text false (bytes ++ rest))))) (ne_eqb b 34 all.0.0)
    ∙ ap (λ x. cond x (quoted_text true (bytes ++ rest)) (option_map (with_first b) (quoted_text false (bytes ++ rest)))) (ne_eqb b 92 all.0.1)
    ∙ ap (option_map (with_first b)) (quoted_text-plain bytes rest all.1)
    ∙ with_text-first b bytes (quoted_text false rest)

-- a character that ends nothing and pairs with nothing is a part of the text
quoted_text-char : (c : ℕ) (rest : List ℕ) → c ≢ 34 → c ≢ 92 → quoted_text false (encode_utf8 c ++ rest) ≡ option_map (with_text (encode_utf8 c)) (quoted_text false rest)
quoted_text-char c rest no_quote no_pair = quoted_text-plain (encode_utf8 c) rest (plain_char c no_quote no_pair)

-- behind a `\`, the first byte is a part of the text, and the others are as they were
paired_plain : (bytes rest : List ℕ) → bytes ≢ [] → AllByRecursion IsPlain bytes → quoted_text true (bytes ++ rest) ≡ option_map (with_text bytes) (quoted_text false rest)
paired_plain [] rest some all = absurd (some refl)
paired_plain (b ∷ bytes) rest some all = ap (option_map (with_first b)) (quoted_text-plain bytes rest all.1) ∙ with_text-first b bytes (quoted_text false rest)

encode_nonempty : (c : ℕ) → encode_utf8 c ≢ []
encode_nonempty c e = let bounds = len_utf8_bounds c in absurd (omega (arith, ap length e, length-encode c, bounds.0))

paired_char : (c : ℕ) (rest : List ℕ) → quoted_text true (encode_utf8 c ++ rest) ≡ option_map (with_text (encode_utf8 c)) (quoted_text false rest)
paired_char c rest = elim (cases_lt c 128) [ inl ascii ↦ by_byte ascii | inr other ↦ by_bytes other ]
  where
    by_byte : c < 128 → quoted_text true (encode_utf8 c ++ rest) ≡ option_map (with_text (encode_utf8 c)) (quoted_text false rest)
    by_byte ascii =
        subst (λ bytes. quoted_text true (bytes ++ rest) ≡ option_map (with_text bytes) (quoted_text false rest)) (sym (encode_ascii c ascii))
        (ap (option_map (with_first c)) (with_text-nil (quoted_text false rest)) ∙ with_text-first c [] (quoted_text false rest))

    by_bytes : 128 ≤ c → quoted_text true (encode_utf8 c ++ rest) ≡ option_map (with_text (encode_utf8 c)) (quoted_text false rest)
    by_bytes other = paired_plain (encode_utf8 c) rest (encode_nonempty c) (plain_char c (λ e. absurd (omega arith)) (λ e. absurd (omega arith)))

-- one character, where what stands before it was read
pub push-char : (paired : Bool) (c : ℕ) (text rest : List ℕ) → (paired ≡ false → c ≢ 34) → (paired ≡ false → c ≢ 92) → option_map (with_text (text ++ encode_utf8 c)) (quoted_text false rest) ≡ option_map (with_text text) (quoted_text paired (encode_utf8 c ++ rest))
push-char true c text rest no_quote no_pair = with_text-append text (encode_utf8 c) (quoted_text false rest) ∙ ap (option_map (with_text text)) (sym (paired_char c rest))
push-char false c text rest no_quote no_pair =
    with_text-append text (encode_utf8 c) (quoted_text false rest) ∙ ap (option_map (with_text text)) (sym (quoted_text-char c rest (no_quote refl) (no_pair refl)))
