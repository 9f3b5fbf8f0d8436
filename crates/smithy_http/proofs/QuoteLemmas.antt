-- Characters between quotes, and at the end of a text.
use Rattle.std.proofs.Common.{◌≡◌, refl, sym, ◌∙◌, ap, subst, ℕ, lit<, Bool, true, false, cond, ◌||◌, ◌==◌, List, [], ◌∷◌, ◌++◌, length, take, flat_map, encode_utf8, IsUtf8, Option, None, Some, ne_eqb, ◌⊎◌, inl, inr}
use Rattle.std.specs.Char.{is_whitespace, IsScalar}
use Rattle.std.specs.List.{AllByRecursion, last_or}
use Rattle.std.specs.Option.{option_map_or}
use Rattle.std.specs.Str.{chars}
use Rattle.std.proofs.lemmas.Bool.{or_cases, or_parts, or_from, eqb-true, eqb-false}
use Rattle.std.proofs.lemmas.List.{append-nil, take_at}
use Rattle.std.proofs.lemmas.Str.{encode_ascii, chars-append, chars_past_char, chars-nil, IsUtf8-encode, IsUtf8-take, IsCharBoundary-at_seam}
use Rattle.smithy_http.specs.Quoting.{mark_before, paired, ends_with_white_space}
use Rattle.smithy_http.proofs.ItemLemmas.{IsPlain, plain_char}

-- a byte that is paired with nothing stands as it is
flat_map-plain : (bytes : List ℕ) → AllByRecursion IsPlain bytes → flat_map paired bytes ≡ bytes
flat_map-plain [] all = refl
flat_map-plain (b ∷ bytes) all =
    let none : ((b == 34) || (b == 92)) ≡ false = or_from (b == 34) (b == 92) (ne_eqb b 34 all.0.0) (ne_eqb b 92 all.0.1) in
    ap (λ x. (cond x (92 ∷ []) [] ++ b ∷ []) ++ flat_map paired bytes) none ∙ ap (λ xs. b ∷ xs) (flat_map-plain bytes all.1)

-- a character with what stands before it
pub paired-char : (c : ℕ) → flat_map paired (encode_utf8 c) ≡ mark_before c ++ encode_utf8 c
paired-char c = go ((c == 34) || (c == 92)) refl
  where
    marked : (d : ℕ) → c ≡ d → flat_map paired (encode_utf8 d) ≡ mark_before d ++ encode_utf8 d → flat_map paired (encode_utf8 c) ≡ mark_before c ++ encode_utf8 c
    marked d same known = subst (λ x. flat_map paired (encode_utf8 x) ≡ mark_before x ++ encode_utf8 x) (sym same) known

    which : (c == 34) ≡ true ⊎ (c == 92) ≡ true → flat_map paired (encode_utf8 c) ≡ mark_before c ++ encode_utf8 c
    which (inl e) = marked 34 (eqb-true c 34 e) (subst (λ xs. flat_map paired xs ≡ mark_before 34 ++ xs) (sym (encode_ascii 34 (lit< tt))) refl)
    which (inr e) = marked 92 (eqb-true c 92 e) (subst (λ xs. flat_map paired xs ≡ mark_before 92 ++ xs) (sym (encode_ascii 92 (lit< tt))) refl)

    go : (p : Bool) → ((c == 34) || (c == 92)) ≡ p → flat_map paired (encode_utf8 c) ≡ mark_before c ++ encode_utf8 c
    go true e = which (or_cases (c == 34) (c == 92) e)
    go false e =
        let none = or_parts (c == 34) (c == 92) e in
        flat_map-plain (encode_utf8 c) (plain_char c (eqb-false c 34 none.0) (eqb-false c 92 none.1))
        ∙ ap (λ x. cond x (92 ∷ []) [] ++ encode_utf8 c) (sym e)

last_or-push : (o : Option ℕ) (xs : List ℕ) (x : ℕ) → last_or o (xs ++ x ∷ []) ≡ Some x
last_or-push o [] x = refl
last_or-push o (y ∷ xs) x = last_or-push (Some y) xs x

-- the last character
pub ends-char : (text front : List ℕ) (c : ℕ) → IsUtf8 text → IsScalar c → text ≡ front ++ encode_utf8 c → ends_with_white_space (chars text) ≡ is_whitespace c
ends-char text front c utf8 scalar e =
    let seam = IsCharBoundary-at_seam text front (encode_utf8 c) e (IsUtf8-encode c scalar) in
    let before : take (length front) text ≡ front = ap (take (length front)) e ∙ take_at front (encode_utf8 c) (length front) refl in
    let front_utf8 : IsUtf8 front = subst IsUtf8 before (IsUtf8-take text (length front) utf8 seam) in
    let last : chars (encode_utf8 c) ≡ c ∷ [] = chars_past_char (encode_utf8 c) [] c (IsUtf8-encode c scalar) (sym (append-nil (encode_utf8 c))) ∙ ap (λ cs. c ∷ cs) chars-nil in
    let all : chars text ≡ chars front ++ c ∷ [] = ap chars e ∙ chars-append front (encode_utf8 c) front_utf8 ∙ ap (λ cs. chars front ++ cs) last in
    ap ends_with_white_space all ∙ ap (λ o. option_map_or is_whitespace o false) (last_or-push None (chars front) c)

pub ends-nothing : (text : List ℕ) → text ≡ [] → ends_with_white_space (chars text) ≡ false
ends-nothing text e = ap (λ t. ends_with_white_space (chars t)) e ∙ ap ends_with_white_space chars-nil
