-- What the laws assume.
use Rattle.smithy_unambiguity.proofs.Common.{List, ℕ, Option, IsTrue, Schema, is_well_made, Held, IsLawfulText, checked_input, Protocol}

-- a lawful codec, and a checked schema that a program can hold
pub record IsSetting (protocol : Protocol) (schema : Schema) : Type 0 where
  pub holds : List ℕ → Option Held
  pub lawful : IsLawfulText protocol.text_of holds
  pub checked : IsTrue (checked_input schema)
  pub well_made : IsTrue (is_well_made schema)
