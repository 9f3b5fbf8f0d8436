-- A number of a text is an integer or else the nearest float.
use Rattle.std.proofs.Common.{◌≡◌, refl, ℕ, ◌==◌, cond, if◌then◌else◌, Bool, true, false, List, drop, slice_index, Option, Some, None}
use Rattle.fast_float.specs.Text.{Parts, scan}
use Rattle.serde_json.specs.Data.{Num}
use Rattle.serde_json.specs.Read.{number_of, number_from, float_of}
use Rattle.smithy_json.specs.Integers.{integer_of}

chosen : (b : Bool) (x n : Num) (other : Option Num) → Some n ≡ cond b (Some x) None → Some n ≡ cond b (Some x) other
chosen true x n other is = is
chosen false x n other is = absurd (cc is)

other_chosen : (b : Bool) (x : Num) (other : Option Num) → None ≡ cond b (Some x) None → other ≡ cond b (Some x) other
other_chosen true x other is = absurd (cc is)
other_chosen false x other is = refl

-- an integer is the number
pub integer_first : (is_negative : Bool) (p : Parts) (n : Num) → Some n ≡ integer_of is_negative p → Some n ≡ number_from is_negative p
integer_first false p n is = chosen _ _ n (float_of false p) is
integer_first true p n is = chosen _ _ n (float_of true p) is

-- and where there is none, the float
pub float_else : (is_negative : Bool) (p : Parts) → None ≡ integer_of is_negative p → float_of is_negative p ≡ number_from is_negative p
float_else false p is = other_chosen _ _ (float_of false p) is
float_else true p is = other_chosen _ _ (float_of true p) is

-- the number of a text is that of its sign and of what stands behind it
pub by_sign : (text : List ℕ) (is_negative : Bool) → is_negative ≡ (slice_index text 0 == 45) → number_from is_negative (scan (if is_negative then drop 1 text else text)) ≡ number_of text
unfolding number_of
by_sign text true is = rw (← is) refl
by_sign text false is = rw (← is) refl
