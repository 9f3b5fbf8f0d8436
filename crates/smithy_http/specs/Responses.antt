-- What a response is (RFC 7230, section 3).
use Rattle.std.specs.Prelude.{ℕ, List, Option}

pub record Response : Type 0 where
  -- three digits (RFC 7231, section 6)
  pub status : ℕ
  -- lower-case names and values, in order
  pub headers : List (List ℕ × List ℕ)
  -- none where it is not buffered
  pub body : Option (List ℕ)
