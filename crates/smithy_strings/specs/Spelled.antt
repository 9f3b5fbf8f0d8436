-- What is read from a text as a scalar.
use Rattle.std.specs.Prelude.{◌≡◌, ℕ, IsTrue, List, Option, option_map, IfSome}
use Rattle.smithy_serde.specs.Values.{Scalar}
use Rattle.smithy_serde.specs.declared.read_scalar.ScalarKind.{ScalarKind}
use Rattle.smithy_serde.specs.declared.read_scalar.ReadScalar.{ReadScalar}
use Rattle.smithy_serde.specs.ReadCalls.{type_of, scalar_of_read, is_of_kind}
use Rattle.smithy_serde.specs.TextReads.{scalar_of_text}

-- the scalar was read, which is one of the kind, and nothing where there is none
pub record IsReadAs (k : ScalarKind) (expected : Option Scalar) (read : Option ReadScalar) : Type 0 where
  pub value : option_map scalar_of_read read ≡ expected
  pub of_kind : IfSome read (λ r. IsTrue (is_of_kind k (scalar_of_read r)))

-- what the text spells as a scalar of the kind was read, and nothing where it spells none
abbrev pub IsSpelled : ScalarKind → List ℕ → Option ReadScalar → Type 0
IsSpelled k text read = IsReadAs k (scalar_of_text (type_of k) text) read
