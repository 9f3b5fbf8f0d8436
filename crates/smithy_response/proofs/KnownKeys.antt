-- One more text is known.
use Rattle.smithy_response.proofs.Common.{◌≡◌, refl, sym, ◌∙◌, ℕ, Bool, true, false, ◌||◌, cond, List, [], ◌∷◌, ◌++◌, Option, Some, is_some, bytes_eq, with_key}
use Rattle.std.proofs.lemmas.List.Folds.{list_any-append}
use Rattle.smithy_types.specs.Texts.{same_text, is_one_of}
use Rattle.smithy_binding.proofs.DistinctNames.{later-more}

last : (a b : Bool) → (b || a) ≡ (a || (b || false))
last true true = refl
last true false = refl
last false true = refl
last false false = refl

pub known-more : (texts : List (List ℕ)) (text : List ℕ) (place : ℕ) (before after : List ℕ → Option ℕ) → ((q : List ℕ) → is_some (before q) ≡ is_one_of q texts)
    → ((q : List ℕ) → after q ≡ cond (bytes_eq text q) (Some place) (before q)) → (q : List ℕ) → is_some (after q) ≡ is_one_of q (texts ++ text ∷ [])
known-more texts text place before after old new q =
    later-more texts text place before after old new q ∙ last (is_one_of q texts) (same_text q text) ∙ sym (list_any-append (same_text q) texts (text ∷ []))

pub key-known : (texts : List (List ℕ)) (text : List ℕ) → is_one_of text texts ≡ true → texts ≡ with_key texts text
key-known texts text known = rw known refl

pub key-new : (texts : List (List ℕ)) (text : List ℕ) → is_one_of text texts ≡ false → texts ++ text ∷ [] ≡ with_key texts text
key-new texts text new = rw new refl
