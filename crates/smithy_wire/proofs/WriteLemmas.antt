-- Tokens of documents that are written one after another.
use Rattle.smithy_wire.proofs.Common.{◌≡◌, refl, sym, ap, ◌∙◌, ℕ, ◌+◌, ◌^◌, ◌<◌, ◌≤◌, arith, Bool, true, false, if◌then◌else◌, List, ◌∷◌, ◌++◌, length, drop, map, Some, None, option_map, pos, and_parts}
use Rattle.std.proofs.Common.{get_or, leb-true}
use Rattle.std.proofs.lemmas.List.{drop_more}
use Rattle.std.specs.Prelude.{int_le, neg_ℤ, unsigned_abs, ◌+ℤ◌}
use Rattle.json.specs.Tree.{json_tokens, items_tokens}
use Rattle.smithy_types.specs.DocumentView.{view}
use Rattle.smithy_types.specs.Documents.{items_of}
use Rattle.smithy_types.specs.Timestamps.{calendar_text, is_in_calendar, since_year_one}
use Rattle.smithy_types.specs.declared.date_time.Format.{Format}
use Rattle.smithy_types.specs.declared.document.Document as code
use Rattle.smithy_wire.specs.Forms.{Form}
use Rattle.smithy_wire.specs.Wire.{wire, wire_items}

pub first_item : (names : Bool) (f : Form) (xs : List code.Document) (i : ℕ) (x : code.Document) → i < length xs → x ≡ get_or xs i x
    → items_tokens (wire_items names f (items_of (map view (drop i xs)))) ≡ json_tokens (wire names f (view x)) ++ items_tokens (wire_items names f (items_of (map view (drop (i + 1) xs))))
first_item names f xs i x within is =
    ap (λ ys. items_tokens (wire_items names f (items_of (map view ys)))) (drop_more xs i x within ∙ ap (λ y. y ∷ drop (i + 1) xs) (sym is))

-- a number past 63 bits has no text
pub no_time : (format : Format) (n : ℕ) → 2 ^ 63 ≤ n → None ≡ option_map (calendar_text format) (since_year_one (pos n))
no_time format n large = go (is_in_calendar (pos n)) refl
  where
    go : (b : Bool) → is_in_calendar (pos n) ≡ b → None ≡ option_map (calendar_text format) (if b then Some (unsigned_abs (pos n +ℤ pos 62135596800)) else None)
    go false is = refl
    go true is =
        let parts = and_parts (int_le (neg_ℤ (pos 62135596800)) (pos n)) (int_le (pos n) (pos 253402300799)) is in
        let high : n ≤ 253402300799 = leb-true n 253402300799 parts.1 in
        absurd (omega (arith, large, high))
