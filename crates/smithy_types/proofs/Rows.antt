-- Texts that the definitions give.
use Rattle.std.proofs.Common.{pos, neg_ℤ, ◌≡◌, refl, codes, Some, None, true, false}
use Rattle.smithy_types.specs.declared.date_time.Format.TheVariants.{EpochSeconds, DateTime, HttpDate}
use Rattle.smithy_types.proofs.OnLiterals.{types_on_literals}
use Rattle.smithy_types.specs.Timestamps.{timestamp_text}
use Rattle.smithy_types.specs.Grammars.{is_token, is_legal_target}
use Rattle.smithy_types.specs.BigNumbers.{is_big_decimal_in_range, is_big_integer_in_range}

pub row_14a : timestamp_text HttpDate (pos 1515523620) ≡ Some (codes "Tue, 09 Jan 2018 18:47:00 GMT")
unfolding types_on_literals
row_14a = refl

pub row_14b : timestamp_text DateTime (pos 1515523620) ≡ Some (codes "2018-01-09T18:47:00Z")
unfolding types_on_literals
row_14b = refl

pub row_14c : timestamp_text EpochSeconds (pos 1515523620) ≡ Some (codes "1515523620")
unfolding types_on_literals
row_14c = refl

pub row_15a : timestamp_text HttpDate (pos 253402300799) ≡ Some (codes "Fri, 31 Dec 9999 23:59:59 GMT")
unfolding types_on_literals
row_15a = refl

pub row_15b : timestamp_text HttpDate (pos 253402300800) ≡ None
unfolding types_on_literals
row_15b = refl

pub row_15c : timestamp_text HttpDate (neg_ℤ (pos 62135596800)) ≡ Some (codes "Mon, 01 Jan 0001 00:00:00 GMT")
unfolding types_on_literals
row_15c = refl

pub tokens : is_token (codes "X-A") ≡ true
tokens = refl

pub no_tokens : is_token (codes "a b") ≡ false
no_tokens = refl

pub targets : is_legal_target (codes "https://a/b?c=`") ≡ true
targets = refl

pub no_targets : is_legal_target (codes "https:///b?c=`") ≡ false
no_targets = refl

pub decimals : is_big_decimal_in_range (codes "-.5e+7") ≡ true
decimals = refl

pub no_decimals : is_big_decimal_in_range (codes ".e7") ≡ false
no_decimals = refl

pub wide : is_big_integer_in_range (codes "170141183460469231731687303715884105728") ≡ false
wide = refl

pub narrow : is_big_integer_in_range (codes "-170141183460469231731687303715884105728") ≡ true
narrow = refl
