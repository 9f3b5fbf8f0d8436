-- How far a reader of a response has come, beside what is open of its body's reader.
use Rattle.std.specs.Prelude.{ℕ, Bool, true, nat_eq}
use Rattle.smithy_response.specs.declared.stage.Stage.{Stage}
use Rattle.smithy_response.specs.declared.stage.Stage.TheVariants as stage

-- a reader, and how many of its containers are open
pub record Counting (D : Type 0) : Type 0 where
  pub reader : D
  pub depth : ℕ

-- while bound members are handed out, nothing is open of the body
abbrev pub fits_depth : Stage → ℕ → Bool
fits_depth (stage.Bound is_given) depth = nat_eq depth 0
fits_depth _ depth = true
