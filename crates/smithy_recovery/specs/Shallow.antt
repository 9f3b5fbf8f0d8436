-- How deep values are nested.
use Rattle.std.specs.Prelude.{ℕ, nat_le, Bool}
use Rattle.smithy_serde.specs.Values.{Value}
pub use Rattle.smithy_serde.specs.Nesting.{scalar_nesting, value_nesting, writes_nesting}

-- nested at most so deep
abbrev pub is_shallow_at : ℕ → Value → Bool
is_shallow_at levels v = nat_le (value_nesting v) levels
