-- The places of the prelude's nodes.
use Rattle.std.specs.Prelude.{◌≡◌, ℕ, ◌+◌}
use Rattle.smithy_schema.specs.declared.prelude.Prelude.{Prelude}

-- the places follow one another from this one, in the order of the nodes
pub record IsInOrderFrom (first : ℕ) (prelude : Prelude) : Type 0 where
  pub string : prelude.string.0 ≡ first
  pub boolean : prelude.boolean.0 ≡ first + 1
  pub byte : prelude.byte.0 ≡ first + 2
  pub short : prelude.short.0 ≡ first + 3
  pub integer : prelude.integer.0 ≡ first + 4
  pub long : prelude.long.0 ≡ first + 5
  pub float : prelude.float.0 ≡ first + 6
  pub double : prelude.double.0 ≡ first + 7
  pub big_integer : prelude.big_integer.0 ≡ first + 8
  pub big_decimal : prelude.big_decimal.0 ≡ first + 9
  pub blob : prelude.blob.0 ≡ first + 10
  pub timestamp : prelude.timestamp.0 ≡ first + 11
  pub document : prelude.document.0 ≡ first + 12
  pub unit : prelude.unit.0 ≡ first + 13
