-- A text with a blank at its end, and one without.
use Rattle.smithy_wire.proofs.Common.{◌≡◌, ◌≢◌, refl, sym, ap, ◌∙◌, ℕ, ◌-◌, Bool, true, false, if◌then◌else◌, List, [], ◌∷◌, ◌++◌, length, Option, Some, None, option_map}
use Rattle.std.proofs.lemmas.List.{take-append-drop}
use Rattle.std.specs.Borrow.{Bor}
use Rattle.std.specs.Prelude.{MatchOption, codes}
use Rattle.std.specs.Cmp.Lexicographic.{same_text as same_from_test}
use Rattle.smithy_types.specs.Texts.{same_text}
use Rattle.smithy_wire.specs.WireTimes.{at_end, before_end, before_blank}
use Rattle.smithy_wire.proofs.TimeLaws.{front_back}

-- where the last byte is a blank, the text is what stands before it and the blank
no_blank_behind : (text : List ℕ) → ((front : List ℕ) → text ≢ front ++ 32 ∷ []) → None ≡ before_blank text
no_blank_behind text none = go (same_text (at_end 1 text) (codes " ")) refl
  where
    go : (b : Bool) → same_text (at_end 1 text) (codes " ") ≡ b → None ≡ (if b then Some (before_end 1 text) else None)
    go false is = refl
    go true is =
        let last : at_end 1 text ≡ 32 ∷ [] = same_from_test (at_end 1 text) (codes " ") (sym is) in
        let whole : text ≡ before_end 1 text ++ 32 ∷ [] = sym (take-append-drop (length text - 1) text) ∙ ap (λ e. before_end 1 text ++ e) last in
        absurd (none (before_end 1 text) whole)

pub blank_cases : (text : List ℕ) (r : Option (Bor (List ℕ))) → MatchOption r ((front : List ℕ) → text ≢ front ++ 32 ∷ []) (λ x. text ≡ x.now ++ 32 ∷ [])
    → option_map (λ t. t.now) r ≡ before_blank text
blank_cases text None none = no_blank_behind text none
blank_cases text (Some x) is = sym (ap before_blank is ∙ front_back x.now)
