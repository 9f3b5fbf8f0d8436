-- A response code that an output without a fault has is one of three digits.
use Rattle.std.proofs.Common.{◌≡◌, refl, ap, subst, ℕ, ℤ, pos, negsuc, ◌≤◌, ◌&&◌, Bool, true, false, List, Option, Some, None, Result, Ok, Err, nat_le, option_map, option_and_then, if◌then◌else◌, IfSome}
use Rattle.std.proofs.lemmas.Bool.{leb-true}
use Rattle.smithy_types.specs.Results.{then_give}
use Rattle.smithy_http.specs.Responses.{Response}
use Rattle.smithy_schema.specs.Nodes.{Schema}
use Rattle.smithy_serde.specs.Values as value
use Rattle.smithy_serde.specs.Values.{Value, Write}
use Rattle.smithy_serde.specs.Writes.{Resolved}
use Rattle.smithy_binding.specs.Faults.{Fault, behind}
unfoldable use Rattle.smithy_binding.specs.Outputs.{placed_output}
use Rattle.smithy_binding.specs.Outputs.{as_output}
unfoldable use Rattle.smithy_binding.specs.ResponseCodes.{written_code}
use Rattle.smithy_binding.specs.ResponseCodes.{as_status, code_write, status_value}
use Rattle.smithy_binding.specs.Placing.{Protocol}
use Rattle.smithy_binding.specs.declared.output.PlacedOutput.{PlacedOutput}
unfoldable use Rattle.smithy_serve.specs.Answer.{answer_response}
use Rattle.smithy_serve.specs.Answer.{response_at}

abbrev IsStatus : ℕ → Type 0
IsStatus n = (100 ≤ n) × (n ≤ 999)

digits-status : (z : ℤ) → IfSome (as_status z) IsStatus
digits-status (negsuc n) = tt
digits-status (pos n) = go (nat_le 100 n) refl (nat_le n 999) refl
  where
    go : (a : Bool) → nat_le 100 n ≡ a → (b : Bool) → nat_le n 999 ≡ b → IfSome (if a && b then Some n else None) IsStatus
    go true low true high = (leb-true 100 n low, leb-true n 999 high)
    go true low false high = tt
    go false low b high = tt

code-status : (v : Value) → IfSome (status_value v) IsStatus
code-status (value.scalar (value.whole value.integer z)) = digits-status z
code-status _ = tt

written-status : (schema : Schema) (ws : List Write) → IfSome (written_code schema ws) IsStatus
unfolding written_code
written-status schema ws = go (code_write schema ws)
  where
    go : (o : Option Resolved) → IfSome (option_and_then status_value (option_map (λ r. r.value) o)) IsStatus
    go None = tt
    go (Some r) = code-status r.value

pub placed-status : (protocol : Protocol) (schema : Schema) (ws : List Write) (placed : PlacedOutput) → placed_output protocol schema ws ≡ Ok placed → IfSome placed.code IsStatus
unfolding placed_output
placed-status protocol schema ws placed e = go _ _ (written-status (as_output schema) ws) e
  where
    go : (o : Option Fault) (p : PlacedOutput) → IfSome p.code IsStatus → behind o (Ok p) ≡ Ok placed → IfSome placed.code IsStatus
    go (Some f) p range given = absurd (cc given)
    go None p range given = let same : p ≡ placed = cc given in subst (λ (q : PlacedOutput). IfSome q.code IsStatus) same range

pub answer-ok : (protocol : Protocol) (schema : Schema) (ws : List Write) (code : ℕ) (placed : PlacedOutput) → placed_output protocol schema ws ≡ Ok placed → answer_response protocol schema ws code ≡ Ok (response_at code placed)
unfolding answer_response
answer-ok protocol schema ws code placed e = ap (λ (r : Result PlacedOutput Fault). then_give r (response_at code)) e

pub answer-err : (protocol : Protocol) (schema : Schema) (ws : List Write) (code : ℕ) (f : Fault) → placed_output protocol schema ws ≡ Err f → answer_response protocol schema ws code ≡ Err f
unfolding answer_response
answer-err protocol schema ws code f e = ap (λ (r : Result PlacedOutput Fault). then_give r (response_at code)) e
