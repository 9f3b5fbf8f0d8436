-- The texts of a header's values are what the values spell.
use Rattle.std.proofs.Common.{◌≡◌, refl, sym, ◌∙◌, ap, subst, ℕ, Bool, true, false, cond, List, [], ◌∷◌, ◌++◌, Some, None, Result, Ok, Err, IsUtf8}
use Rattle.std.specs.Str.{is_utf8, trim}
use Rattle.std.proofs.lemmas.Str.{is_utf8-from_IsUtf8, IsUtf8-from_is_utf8}
use Rattle.smithy_types.specs.Results.{then_try, then_give}
use Rattle.smithy_http.specs.declared.error.ListFault.{ListFault}
use Rattle.smithy_http.specs.declared.error.HttpError.{HttpError}
use Rattle.smithy_http.specs.declared.error.HttpError.TheVariants as error
use Rattle.smithy_http.specs.HeaderValues.{value_text, value_texts, or_list_fault, gathered, tokens_of, SpellInOrder, one_text_of, refusal_of_second}
use Rattle.smithy_http.specs.ListTexts.{list_texts}
use Rattle.smithy_http.specs.Spelling.{Spells}
use Rattle.smithy_http.proofs.SpellingLaws.{list_texts-spelled, Spells-list_texts}

pub value_text-utf8 : (value : List ℕ) → IsUtf8 value → value_text value ≡ Ok value
value_text-utf8 value utf8 = ap (λ b. cond b (Ok value) (Err error.NotUtf8)) (is_utf8-from_IsUtf8 value utf8)

value_texts-spelled : (value : List ℕ) (own : List (List ℕ)) → IsUtf8 value → Spells own value → value_texts value ≡ Ok own
value_texts-spelled value own utf8 spelled =
    ap (λ r. then_try r (λ text. or_list_fault (list_texts text))) (value_text-utf8 value utf8) ∙ ap or_list_fault (list_texts-spelled own value spelled)

gathered-spelled : (values texts : List (List ℕ)) → SpellInOrder values texts → gathered value_texts values ≡ Ok texts
gathered-spelled [] texts e = ap (λ ts. Ok ts) (sym e)
gathered-spelled (value ∷ values) texts s =
    ap (λ r. then_try r (λ items. then_give (gathered value_texts values) (λ others. items ++ others))) (value_texts-spelled value s.0 s.2 s.3)
    ∙ ap (λ r. then_give r (λ others. s.0 ++ others)) (gathered-spelled values s.1 s.4)
    ∙ ap (λ ts. Ok ts) (sym s.5)

-- the value of a first step, if both steps are taken
spelled_value : (value : List ℕ) (own : List (List ℕ)) → value_texts value ≡ Ok own → IsUtf8 value × Spells own value
spelled_value value own e = go (is_utf8 value) (list_texts value) refl refl e
  where
    go : (utf8 : Bool) (r : Result (List (List ℕ)) ListFault) → is_utf8 value ≡ utf8 → list_texts value ≡ r
        → then_try (cond utf8 (Ok value) (Err error.NotUtf8)) (λ text. or_list_fault (list_texts text)) ≡ Ok own → IsUtf8 value × Spells own value
    go false r is_text read e = absurd (cc e)
    go true (Err f) is_text read e = let q : Err (error.List f) ≡ Ok own = sym (ap or_list_fault read) ∙ e in absurd (cc q)
    go true (Ok texts) is_text read e =
        let q : Ok texts ≡ Ok own = sym (ap or_list_fault read) ∙ e in
        let same : texts ≡ own = cc q in
        (IsUtf8-from_is_utf8 value is_text, subst (λ ts. Spells ts value) same (Spells-list_texts texts value read))

spelled-gathered : (values texts : List (List ℕ)) → gathered value_texts values ≡ Ok texts → SpellInOrder values texts
spelled-gathered [] texts e = let q : [] ≡ texts = cc e in sym q
spelled-gathered (value ∷ values) texts e = go (value_texts value) (gathered value_texts values) refl refl e (spelled-gathered values)
  where
    go : (r rs : Result (List (List ℕ)) HttpError) → value_texts value ≡ r → gathered value_texts values ≡ rs → then_try r (λ items. then_give rs (λ others. items ++ others)) ≡ Ok texts
        → ((ts : List (List ℕ)) → gathered value_texts values ≡ Ok ts → SpellInOrder values ts) → SpellInOrder (value ∷ values) texts
    go (Err f) rs at behind e before = absurd (cc e)
    go (Ok own) (Err f) at behind e before = absurd (cc e)
    go (Ok own) (Ok others) at behind e before =
        let q : own ++ others ≡ texts = cc e in
        let first = spelled_value value own at in
        (own, others, first.0, first.1, before others behind, sym q)

pub tokens_of-spelled : (values texts : List (List ℕ)) → SpellInOrder values texts → tokens_of values ≡ Ok texts
unfolding tokens_of
tokens_of-spelled values texts s = gathered-spelled values texts s

pub spelled-tokens_of : (values texts : List (List ℕ)) → tokens_of values ≡ Ok texts → SpellInOrder values texts
unfolding tokens_of
spelled-tokens_of values texts e = spelled-gathered values texts e

-- ---- the one text

pub one_text_of-fault : (value : List ℕ) (values : List (List ℕ)) (e : HttpError) → value_text value ≡ Err e → one_text_of (value ∷ values) ≡ Err e
unfolding one_text_of
one_text_of-fault value [] e at = ap (λ r. then_give r (λ text. Some (trim text))) at
one_text_of-fault value (second ∷ values) e at = ap (λ r. then_try r (λ _. Err (refusal_of_second second))) at

pub one_text_of-second : (value text second : List ℕ) (values : List (List ℕ)) → value_text value ≡ Ok text → one_text_of (value ∷ second ∷ values) ≡ Err (refusal_of_second second)
unfolding one_text_of
one_text_of-second value text second values at = ap (λ r. then_try r (λ _. Err (refusal_of_second second))) at

pub one_text_of-one : (value text : List ℕ) → value_text value ≡ Ok text → one_text_of (value ∷ []) ≡ Ok (Some (trim text))
unfolding one_text_of
one_text_of-one value text at = ap (λ r. then_give r (λ t. Some (trim t))) at

pub one_text_of-none : one_text_of [] ≡ Ok None
unfolding one_text_of
one_text_of-none = refl
