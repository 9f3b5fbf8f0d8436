-- Texts of headers.
use Rattle.smithy_response.proofs.Common.{◌≡◌, ℕ, Bool, true, false, List, codes, drop, Option, Some, None, MatchOption, Ok, Err, refl, sym, ap, subst, ◌∙◌, nat_eq, starts_with, option_copied, IsUtf8, is_utf8, IsCharBoundary, InvalidInput, decoded_text, behind_lower}
use Rattle.std.specs.Borrow.{Bor}
use Rattle.std.specs.Result.{result_ok}
use Rattle.std.proofs.lemmas.Str.{is_utf8-from_IsUtf8, IsUtf8-from_is_utf8}
use Rattle.std.proofs.lemmas.Str.Pattern.{starts_text}
use Rattle.std.specs.Str.Pattern.{FindsTextPrefix, StripsPrefix}
use Rattle.base64.specs.GeneralPurpose.{decoded_of, decode_of}
use Rattle.base64.specs.Engines.{standard}
use Rattle.smithy_serde.specs.Values as value

-- bytes that are no text
pub not_utf8 : (value : List ℕ) → (IsUtf8 value → ⊥) → is_utf8 value ≡ false
not_utf8 value other = go (is_utf8 value) refl
  where
    go : (b : Bool) → is_utf8 value ≡ b → b ≡ false
    go true e = absurd (other (IsUtf8-from_is_utf8 value e))
    go false e = refl

pub utf8 : (value : List ℕ) → IsUtf8 value → is_utf8 value ≡ true
utf8 = is_utf8-from_IsUtf8

pub stripped : (r : Option (Bor (List ℕ))) (n s : List ℕ) → MatchOption r (FindsTextPrefix n s None) (λ x. StripsPrefix (FindsTextPrefix n) s x.now)
    → option_copied r ≡ behind_lower n s
stripped None n s none = (let starts : false ≡ starts_with nat_eq s n = starts_text false n s none in rw (sym starts) refl)
stripped (Some x) n s h =
    let starts : true ≡ starts_with nat_eq s n = starts_text true n s (h.0, h.1, subst (λ i. IsCharBoundary s i) (sym h.1.0) h.1.2) in
    rw (sym starts) (ap (λ t. Some t) (h.2 ∙ ap (λ k. drop k s) h.1.0))

module _ (text : List ℕ) where
  pub decoded_utf8 : (bytes : List ℕ) → decode_of standard text ≡ Ok bytes → is_utf8 bytes ≡ true → decoded_text text ≡ Ok (value.text bytes)
  unfolding decoded_of
  decoded_utf8 bytes decoded u = rw (decoded, u) refl

  pub decoded_bytes : (bytes : List ℕ) → decode_of standard text ≡ Ok bytes → is_utf8 bytes ≡ false
      → decoded_text text ≡ Err (InvalidInput (codes "base64 encoded data was not valid utf-8"))
  unfolding decoded_of
  decoded_bytes bytes decoded u = rw (decoded, u) refl

  pub not_decoded : result_ok (decode_of standard text) ≡ None → decoded_text text ≡ Err (InvalidInput (codes "failed to decode base64"))
  unfolding decoded_of
  not_decoded failed = rw failed refl
