-- Texts read as big numbers.
use Rattle.smithy_document.proofs.Common.{◌≡◌, ℕ, List, Bool, true, false, Some, None, Result, Ok, Err, inr, refl, sym, ◌∙◌, ap, subst, codes, IsTrue, is_big_integer_in_range, is_big_decimal_in_range, then_give, Document, Number, string_in, number_in, whole_text, is_negative, big_integer_of_text, big_decimal_of_text, truncated, scalar_of_document, mismatch, SerdeError, OutOfMemory, Gives, IsRefusal, Scalar, big_integer, big_decimal, then_some, whole_part, too_large}
use Rattle.smithy_ids.specs.declared.shape_type.ShapeType.TheVariants as kind
use Rattle.std.specs.Option.{ok_or}
use Rattle.smithy_types.specs.Documents as doc
use Rattle.smithy_document.specs.BigReads.{not_parsed}
use Rattle.smithy_document.proofs.Truncations.{has_parts, truncated_from}

pub gives_memory : {A : Type 0} (see : A → Scalar) (r : Result Scalar SerdeError) (e : SerdeError) → e ≡ OutOfMemory → Gives see (Some r) (Err e)
gives_memory see (Ok v) e h = h
gives_memory see (Err x) e h = inr h

pub none_passes : (b : Bool) (text : List ℕ) → None ≡ then_some b text → b ≡ false
none_passes true text h = absurd (cc h)
none_passes false text h = refl

pub passed : (b : Bool) (text n : List ℕ) → Some n ≡ then_some b text → (b ≡ true) × (n ≡ text)
passed true text n h = (refl, cc h)
passed false text n h = absurd (cc h)

pub integer_given : (text n : List ℕ) → Some n ≡ then_some (is_big_integer_in_range text) text → Gives {A = List ℕ} big_integer (Some (big_integer_of_text text)) (Ok n)
integer_given text n h = let p = passed (is_big_integer_in_range text) text n h in rw p.0 (ap big_integer p.1)

pub decimal_given : (text n : List ℕ) → Some n ≡ then_some (is_big_decimal_in_range text) text → Gives {A = List ℕ} big_decimal (Some (big_decimal_of_text text)) (Ok n)
decimal_given text n h = let p = passed (is_big_decimal_in_range text) text n h in rw p.0 (ap big_decimal p.1)

pub decimal_none : (text : List ℕ) (e : SerdeError) → None ≡ then_some (is_big_decimal_in_range text) text → IsRefusal (not_parsed text (codes " as bigDecimal")) e → Gives {A = List ℕ} big_decimal (Some (big_decimal_of_text text)) (Err e)
decimal_none text e h refusal = rw (none_passes (is_big_decimal_in_range text) text h) refusal

pub part_none : (text : List ℕ) (e : SerdeError) → is_big_integer_in_range text ≡ false → None ≡ then_some (is_big_decimal_in_range text) text → IsRefusal (not_parsed text (codes " as bigInteger")) e
    → Gives {A = List ℕ} big_integer (Some (big_integer_of_text text)) (Err e)
part_none text e wide h refusal = rw (wide, none_passes (is_big_decimal_in_range text) text h) refusal

pub part_given : (text n : List ℕ) (r : Result (List ℕ) SerdeError) → is_big_integer_in_range text ≡ false → Some n ≡ then_some (is_big_decimal_in_range text) text → Gives {A = List ℕ} big_integer (Some (truncated n)) r
    → Gives {A = List ℕ} big_integer (Some (big_integer_of_text text)) r
part_given text n r wide h gives = let p = passed (is_big_decimal_in_range text) text n h in rw (wide, p.0, ← p.1) gives

-- ---- the integer part of a decimal

pub part_of : (text v : List ℕ) (r : Result (List ℕ) SerdeError) → IsTrue (is_big_decimal_in_range text) → Some v ≡ whole_text (is_negative text) (whole_part text) → Gives {A = List ℕ} big_integer (Some (Ok (big_integer v))) r → Gives {A = List ℕ} big_integer (Some (truncated text)) r
part_of text v r range is given =
    let e : truncated text ≡ Ok (big_integer v) = truncated_from text (has_parts text range) ∙ ap (λ o. then_give (ok_or o (too_large text)) (λ t. big_integer t)) (sym is) in
    subst (λ x. Gives {A = List ℕ} big_integer (Some x) r) (sym e) given

pub part_too_large : (text : List ℕ) (e : SerdeError) → IsTrue (is_big_decimal_in_range text) → None ≡ whole_text (is_negative text) (whole_part text) → IsRefusal (too_large text) e → Gives {A = List ℕ} big_integer (Some (truncated text)) (Err e)
part_too_large text e range is refusal =
    let same : truncated text ≡ Err (too_large text) = truncated_from text (has_parts text range) ∙ ap (λ o. then_give (ok_or o (too_large text)) (λ t. big_integer t)) (sym is) in
    subst (λ x. Gives {A = List ℕ} big_integer (Some x) (Err e)) (sym same) refusal

-- ---- a document, as what it is

pub is_string : (d : Document) (t : List ℕ) → Some t ≡ string_in d → doc.string t ≡ d
is_string (doc.string s) t is = ap doc.string (cc is)
is_string _ t is = absurd (cc is)

pub is_number : (d : Document) (n : Number) → Some n ≡ number_in d → doc.number n ≡ d
is_number (doc.number m) n is = ap doc.number (cc is)
is_number _ n is = absurd (cc is)

pub is_neither : (d : Document) → string_in d ≡ None → None ≡ number_in d
    → (scalar_of_document kind.BigInteger d ≡ Err (mismatch kind.BigInteger d)) × (scalar_of_document kind.BigDecimal d ≡ Err (mismatch kind.BigDecimal d))
is_neither (doc.string s) no_text no_number = absurd (cc no_text)
is_neither (doc.number n) no_text no_number = absurd (cc no_number)
is_neither _ no_text no_number = (refl, refl)
