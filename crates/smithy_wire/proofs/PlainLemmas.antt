-- The integer of a text's parts is its plain number.
use Rattle.smithy_wire.proofs.Common.{◌≡◌, refl, sym, ap, ◌∙◌, ℕ, ◌^◌, Bool, true, false, ◌&&◌, if◌then◌else◌, List, drop, Option, Some, None, option_and_then}
use Rattle.std.specs.Prelude.{nat_lt, nat_le}
use Rattle.std.specs.Float.{binary64, float_is_finite}
use Rattle.fast_float.specs.Text.{Parts, digits_of, nearest, scan, with_sign}
use Rattle.serde_json.specs.Data.{Num, unsigned, negative, float}
use Rattle.serde_json.specs.Read.{is_integer, number_from, float_of}
use Rattle.smithy_json.specs.FromData.{number_of_data}
use Rattle.smithy_json.specs.Integers.{integer_of}
use Rattle.smithy_json.proofs.NumberLemmas.{by_sign}
use Rattle.smithy_wire.specs.ExactNumbers.{is_below_zero, parts_of, plain_number}

no_float : (b : Bool) (p : Parts) → None ≡ option_and_then number_of_data (float_of b p)
no_float b p = go (float_is_finite (nearest binary64 b p))
  where
    go : (t : Bool) → None ≡ option_and_then number_of_data (if t then Some (float (nearest binary64 b p)) else None)
    go true = refl
    go false = refl

chosen : (t : Bool) (n : Num) (other : Option Num) → None ≡ option_and_then number_of_data other
    → option_and_then number_of_data (if t then Some n else None) ≡ option_and_then number_of_data (if t then Some n else other)
chosen true n other none = refl
chosen false n other none = none

same : (b : Bool) (p : Parts) → option_and_then number_of_data (integer_of b p) ≡ option_and_then number_of_data (number_from b p)
same false p = chosen (is_integer p && nat_lt (digits_of p) (2 ^ 64)) (unsigned (digits_of p)) (float_of false p) (no_float false p)
same true p = chosen (is_integer p && nat_lt 0 (digits_of p) && nat_le (digits_of p) (2 ^ 63)) (negative (with_sign true (digits_of p))) (float_of true p) (no_float true p)

pub plain_is : (text bytes : List ℕ) (b : Bool) (p : Parts) → bytes ≡ text → p ≡ parts_of bytes → b ≡ is_below_zero bytes
    → option_and_then number_of_data (integer_of b p) ≡ plain_number text
unfolding parts_of
plain_is text bytes b p is parts sign =
    same b p
    ∙ ap (λ q. option_and_then number_of_data (number_from b q)) (parts ∙ ap (λ t. scan (if t then drop 1 bytes else bytes)) (sym sign))
    ∙ ap (option_and_then number_of_data) (by_sign bytes b sign) ∙ ap plain_number is
