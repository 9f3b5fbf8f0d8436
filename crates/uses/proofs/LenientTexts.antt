-- JSON whose reader takes no bytes for an empty object keeps what is asked of a codec.
use Rattle.std.proofs.Common.{◌≡◌, ◌≢◌, refl, ap, ◌∙◌, arith, Bool, true, false, ℕ, List, [], ◌∷◌, ◌==◌, length}
use Rattle.std.proofs.lemmas.Bool.{eqb-true}
use Rattle.smithy_serde.specs.Lawful.{IsLawfulText}
use Rattle.smithy_document.specs.JsonHeld.{json_held}
use Rattle.smithy_document.specs.JsonText.{json_text}
use Rattle.uses.specs.LenientText.{or_empty_object, lenient_held}
use Rattle.smithy_document.proofs.JsonLaws.{json_is_lawful}

not_zero : (b : ℕ) (bytes : List ℕ) → (length (b ∷ bytes) == 0) ≡ false
not_zero b bytes = go (length (b ∷ bytes) == 0) refl
  where
    go : (t : Bool) → (length (b ∷ bytes) == 0) ≡ t → t ≡ false
    go false e = refl
    go true e = absurd (let none : length (b ∷ bytes) ≡ 0 = eqb-true (length (b ∷ bytes)) 0 e in omega (arith, none))

-- bytes that are there stay
same : (bytes : List ℕ) → bytes ≢ [] → or_empty_object bytes ≡ bytes
same [] given = absurd (given refl)
same (b ∷ bytes) given = rw (not_zero b bytes) refl

pub lenient_is_lawful : IsLawfulText json_text lenient_held
lenient_is_lawful = record {
  is_not_empty = json_is_lawful.is_not_empty;
  reads_back = λ d sound low. ap json_held (same (json_text d) (json_is_lawful.is_not_empty d sound)) ∙ json_is_lawful.reads_back d sound low;
}
