-- JSON texts with a line feed are lawful texts.
use Rattle.std.proofs.Common.{◌≡◌, ◌≢◌, refl, ap, sym, ◌∙◌, arith, Bool, true, false, ℕ, List, [], ◌∷◌, ◌++◌, ◌==◌, if◌then◌else◌, length}
use Rattle.std.proofs.lemmas.Bool.{eqb-true}
use Rattle.smithy_serde.specs.Lawful.{IsLawfulText}
use Rattle.smithy_document.specs.JsonHeld.{json_held}
use Rattle.smithy_document.specs.JsonText.{json_text}
use Rattle.second_codec.specs.SpacedText.{spaced, spaced_text, without_line, spaced_holds}
use Rattle.smithy_document.proofs.JsonLaws.{json_is_lawful}

not_zero : (b : ℕ) (bytes : List ℕ) → (length (b ∷ bytes) == 0) ≡ false
not_zero b bytes = go (length (b ∷ bytes) == 0) refl
  where
    go : (t : Bool) → (length (b ∷ bytes) == 0) ≡ t → t ≡ false
    go false e = refl
    go true e = absurd (let none : length (b ∷ bytes) ≡ 0 = eqb-true (length (b ∷ bytes)) 0 e in omega (arith, none))

-- a text with a byte
with_line : (b : ℕ) (bytes : List ℕ) → spaced (b ∷ bytes) ≡ b ∷ (bytes ++ 10 ∷ [])
with_line b bytes = rw (not_zero b bytes) refl

some : (bytes : List ℕ) → bytes ≢ [] → spaced bytes ≢ []
some [] given e = given refl
some (b ∷ bytes) given e = let q : b ∷ (bytes ++ 10 ∷ []) ≡ [] = sym (with_line b bytes) ∙ e in cc q

-- a line feed behind bytes is taken off
taken : (bytes : List ℕ) → without_line (bytes ++ 10 ∷ []) ≡ bytes
taken [] = refl
taken (b ∷ []) = refl
taken (b ∷ c ∷ bytes) = ap (λ l. b ∷ l) (taken (c ∷ bytes))

-- where there is none, nothing is
none_taken : (bytes : List ℕ) → ((front : List ℕ) → bytes ≢ front ++ 10 ∷ []) → without_line bytes ≡ bytes
none_taken [] none = refl
none_taken (b ∷ []) none = by_test (b == 10) refl
  where
    by_test : (t : Bool) → (b == 10) ≡ t → (if t then [] else b ∷ []) ≡ b ∷ []
    by_test false e = refl
    by_test true e = absurd (none [] (ap (λ c. c ∷ []) (eqb-true b 10 e)))
none_taken (b ∷ c ∷ bytes) none = ap (λ l. b ∷ l) (none_taken (c ∷ bytes) (λ front e. none (b ∷ front) (ap (λ l. b ∷ l) e)))

-- what a test of the last bytes says, where these are a line feed
pub taken_off : (s p x : List ℕ) → p ≡ 10 ∷ [] → s ≡ x ++ p → x ≡ without_line s
taken_off s p x line is = sym (ap without_line (is ∙ ap (λ l. x ++ l) line) ∙ taken x)

pub left_on : (s p : List ℕ) → p ≡ 10 ∷ [] → ((front : List ℕ) → s ≢ front ++ p) → s ≡ without_line s
left_on s p line none = sym (none_taken s (λ front e. none front (e ∙ ap (λ l. front ++ l) (sym line))))

spaced_back : (bytes : List ℕ) → without_line (spaced bytes) ≡ bytes
spaced_back [] = refl
spaced_back (b ∷ bytes) = ap without_line (with_line b bytes) ∙ taken (b ∷ bytes)

pub spaced_is_lawful : IsLawfulText spaced_text spaced_holds
spaced_is_lawful = record {
  is_not_empty = λ d sound. some (json_text d) (json_is_lawful.is_not_empty d sound);
  reads_back = λ d sound low. ap json_held (spaced_back (json_text d)) ∙ json_is_lawful.reads_back d sound low;
}
