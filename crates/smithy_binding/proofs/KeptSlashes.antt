-- The kit's set of bytes without `/` escapes what a greedy hole escapes.
use Rattle.smithy_binding.proofs.Common.{◌≡◌, refl, ap, ℕ, zero, suc, ◌<◌, Bool, true, ◌&&◌, List, [], ◌∷◌, ◌++◌, get_or, if◌then◌else◌, ◌==◌, bytes_eq, keep_slashes}
use Rattle.smithy_strings.specs.Escapes.{escape_byte}
use Rattle.std.proofs.lemmas.Bool.Decides.{Decides-below_and}
use Rattle.std.proofs.lemmas.Slice.Eq.{bytes_eq-Decides}
use Rattle.percent_encoding.specs.AsciiSet.{should_percent_encode}
use Rattle.percent_encoding.specs.Percent.{percent_encode_byte, percent_encode, encode_byte}
use Rattle.smithy_binding.specs.declared.target.TheConstants.{ESCAPED_BUT_SLASH}

-- what stands for a byte
abbrev kept_byte : ℕ → List ℕ
kept_byte b = if b == 47 then b ∷ [] else escape_byte b

abbrev bytes_match : ℕ → Bool
bytes_match zero = true
bytes_match (suc n) = bytes_eq (encode_byte ESCAPED_BUT_SLASH n) (kept_byte n) && bytes_match n

bytes_checked : bytes_match 256 ≡ true
unfolding should_percent_encode percent_encode_byte
bytes_checked = refl

byte_agrees : (b : ℕ) → b < 256 → encode_byte ESCAPED_BUT_SLASH b ≡ kept_byte b
byte_agrees =
    (Decides-below_and (λ b. bytes_eq (encode_byte ESCAPED_BUT_SLASH b) (kept_byte b)) (λ b. encode_byte ESCAPED_BUT_SLASH b ≡ kept_byte b) bytes_match (λ b. bytes_eq-Decides _ _) refl (λ _. refl) 256).0 bytes_checked

pub keep_slashes-percent_encode : (bytes : List ℕ) → ((i : ℕ) → get_or bytes i 0 < 256) → percent_encode ESCAPED_BUT_SLASH bytes ≡ keep_slashes bytes
unfolding percent_encode
keep_slashes-percent_encode [] small = refl
keep_slashes-percent_encode (b ∷ bytes) small = rw (byte_agrees b (small 0)) (ap (λ rest. kept_byte b ++ rest) (keep_slashes-percent_encode bytes (λ i. small (suc i))))
