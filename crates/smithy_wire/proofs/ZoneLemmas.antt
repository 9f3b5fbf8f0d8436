-- Texts of times that are cut before a zone, an offset or a point.
use Rattle.smithy_wire.proofs.Common.{◌≡◌, ◌≢◌, refl, sym, ap, ◌∙◌, subst, ℕ, ◌-◌, ◌+◌, ◌<◌, ◌≤◌, ◌==◌, arith, Bool, true, false, if◌then◌else◌, List, ◌++◌, length, take, drop, Option, Some, None, option_map, option_and_then, length-append, ℤ}
use Rattle.std.proofs.Common.{leb-true, eqb-true, lit<}
use Rattle.std.proofs.Math.ListN.{drop_of_length-le}
use Rattle.std.proofs.Math.Seq.{drop-append_seam, take-append_seam}
use Rattle.std.proofs.lemmas.List.{take-append-drop}
use Rattle.std.proofs.lemmas.Str.{IsCharBoundary-before_ascii, IsCharBoundary-after_ascii}
use Rattle.std.proofs.lemmas.Str.Pattern.{IsSplitOnceResult, split_once_first}
use Rattle.std.specs.Borrow.{Bor}
use Rattle.std.specs.Cmp.Lexicographic.{same_text as same_from_test}
use Rattle.std.specs.List.{after_first, before_first, position_or_len}
use Rattle.std.specs.Option.{is_some}
use Rattle.std.specs.Prelude.{MatchOption, codes, nat_le, slice_index}
use Rattle.std.specs.Str.{IsCharBoundary, IsUtf8}
use Rattle.std.specs.Str.Pattern.{FindsTextSuffix}
use Rattle.smithy_types.specs.declared.date_time.Format.TheVariants.{DateTime}
use Rattle.smithy_types.specs.Texts.{ascii, same_text}
use Rattle.smithy_json.proofs.OrderedPairs.{same_self}
use Rattle.smithy_wire.specs.WireTimes.{at_end, at_zone, before_end, before_offset, before_zone, clock_seconds, is_behind, offset_sign, without_offset}
use Rattle.smithy_wire.specs.views.TimeCuts.{CutsAtPoint}

-- ---- zones

zone_back : (zone front : List ℕ) → before_zone zone (front ++ zone) ≡ Some front
zone_back zone front =
    let longer : length (front ++ zone) - length zone ≡ length front = omega (arith, length-append front zone) in
    let end : at_end (length zone) (front ++ zone) ≡ zone = ap (λ n. drop n (front ++ zone)) longer ∙ drop-append_seam front zone in
    ap (λ e. if same_text e zone then Some (before_end (length zone) (front ++ zone)) else None) end
    ∙ ap (λ b. if b then Some (before_end (length zone) (front ++ zone)) else None) (same_self zone)
    ∙ ap (λ f. Some f) (ap (λ n. take n (front ++ zone)) longer ∙ take-append_seam front zone)

no_zone : (zone text : List ℕ) → ((front : List ℕ) → text ≢ front ++ zone) → None ≡ before_zone zone text
no_zone zone text none = go (same_text (at_end (length zone) text) zone) refl
  where
    go : (b : Bool) → same_text (at_end (length zone) text) zone ≡ b → None ≡ (if b then Some (before_end (length zone) text) else None)
    go false is = refl
    go true is =
        let last : at_end (length zone) text ≡ zone = same_from_test (at_end (length zone) text) zone (sym is) in
        let whole : text ≡ before_end (length zone) text ++ zone = sym (take-append-drop (length text - length zone) text) ∙ ap (λ e. before_end (length zone) text ++ e) last in
        absurd (none (before_end (length zone) text) whole)

pub zone_cases : (zone text : List ℕ) (r : Option (Bor (List ℕ)))
    → MatchOption r (FindsTextSuffix zone text None) (λ x. (n : ℕ) × FindsTextSuffix zone text (Some n) × (x.now ≡ take (length text - n) text) × (length x.now + n ≡ length text))
    → option_map (λ t. t.now) r ≡ before_zone zone text
zone_cases zone text None none = no_zone zone text none
zone_cases zone text (Some x) is =
    let whole : text ≡ x.now ++ zone = is.1.1 ∙ ap (λ f. f ++ zone) (sym is.2) in
    sym (ap (before_zone zone) whole ∙ zone_back zone x.now)

-- ---- points

pub cuts_at_point : (text : List ℕ) (r : Option (Bor (List ℕ) × Bor (List ℕ))) → IsSplitOnceResult 46 text r → CutsAtPoint text r
cuts_at_point text r h = go r (split_once_first 46 text r h (lit< tt))
  where
    go : (r : Option (Bor (List ℕ) × Bor (List ℕ)))
        → MatchOption r (position_or_len (λ b. b == 46) text ≡ length text) (λ x. (position_or_len (λ b. b == 46) text < length text) × (x.0.now ≡ before_first (λ b. b == 46) text) × (x.1.now ≡ after_first (λ b. b == 46) text)) → CutsAtPoint text r
    go None e = drop_of_length-le text (omega (arith, e))
    go (Some x) cut = (cut.1, cut.2)

-- ---- offsets

pub record IsSigned (text : List ℕ) : Type 0 where
  pub within : 6 ≤ length text
  pub ascii : slice_index text (length text - 6) < 128

sign_ascii : (b : ℕ) → is_some (is_behind b) ≡ true → b < 128
sign_ascii b e = go (b == ascii "+") refl (b == ascii "-") refl e
  where
    go : (p : Bool) → (b == ascii "+") ≡ p → (q : Bool) → (b == ascii "-") ≡ q → is_some (if p then Some false else if q then Some true else None) ≡ true → b < 128
    go true is q at e = let same : b ≡ 43 = eqb-true b 43 is in omega (arith, same)
    go false is true at e = let same : b ≡ 45 = eqb-true b 45 at in omega (arith, same)
    go false is false at e = absurd (cc e)

pub signed : (text : List ℕ) → is_some (offset_sign text) ≡ true → IsSigned text
signed text e = go (nat_le 6 (length text)) refl e
  where
    go : (b : Bool) → nat_le 6 (length text) ≡ b → is_some (if b then is_behind (slice_index text (length text - 6)) else None) ≡ true → IsSigned text
    go true is e = record { within = leb-true 6 (length text) is; ascii = sign_ascii (slice_index text (length text - 6)) e }
    go false is e = absurd (cc e)

pub sign_boundary : (text : List ℕ) (i : ℕ) → IsSigned text → i + 6 ≡ length text → IsCharBoundary text i
sign_boundary text i h is =
    let here : length text - 6 ≡ i = omega (arith, is) in
    IsCharBoundary-before_ascii text i (omega (arith, is)) (subst (λ n. slice_index text n < 128) here h.ascii)

pub clock_boundary : (text : List ℕ) (i : ℕ) → IsUtf8 text → IsSigned text → i + 5 ≡ length text → IsCharBoundary text i
clock_boundary text i utf8 h is =
    let within = h.within in
    let here : length text - 6 + 1 ≡ i = omega (arith, is, within) in
    subst (IsCharBoundary text) here (IsCharBoundary-after_ascii text (length text - 6) utf8 (omega (arith, within)) h.ascii)

pub clock_cut : (text : List ℕ) → IsUtf8 text → is_some (offset_sign text) ≡ true → IsCharBoundary text (length text - 5)
clock_cut text utf8 e =
    let h = signed text e in
    let within = h.within in
    clock_boundary text (length text - 5) utf8 h (omega (arith, within))

pub offset_told : (floors behind : Bool) (front clock : List ℕ) (offset seconds : ℤ) (r : Option ℤ) → Some offset ≡ clock_seconds clock
    → Some seconds ≡ at_zone floors DateTime (codes "Z") front → r ≡ without_offset behind offset seconds → r ≡ before_offset floors behind front clock
offset_told floors behind front clock offset seconds r told zone is =
    is ∙ ap (λ o. option_and_then (without_offset behind offset) o) zone
    ∙ ap (λ o. option_and_then (λ off. option_and_then (without_offset behind off) (at_zone floors DateTime (codes "Z") front)) o) told
