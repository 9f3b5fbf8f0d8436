-- The first write of the response code, a write at a time.
use Rattle.smithy_binding.proofs.Common.{◌≡◌, refl, ap, sym, ◌∙◌, ℕ, Bool, true, false, cond, List, [], ◌∷◌, find, Option, Some, None, option_map, cons_option, option_map_or, Schema, Table, binding_of, label_at, value_in, listed, Value, Write, list_of, OneWrite, Resolved, all_resolved, finds, code_write, is_label, Ok, Err, Fault, Protocol, body, as_output, message_fault, message_headers, placed_output, written_code}
use Rattle.smithy_binding.specs.views.Resolving.{is_code_label}
use Rattle.smithy_binding.specs.Outputs.{keep_defaults}
use Rattle.smithy_binding.specs.ResponseCodes.{output_bound_fault}
use Rattle.smithy_binding.specs.declared.output.PlacedOutput.{PlacedOutput}
use Rattle.smithy_binding.proofs.WriteSteps.{resolved-is}

-- the value of the first write of the code among these
abbrev pub code_in : Schema → List Write → Option Value
code_in schema ws = option_map (λ r. r.value) (code_write schema ws)

code-next : (schema : Schema) (w : Write) (ws : List Write) → code_in schema (w ∷ ws) ≡ cond (is_code_label schema w.label) (Some w.value) (code_in schema ws)
code-next schema w ws = ap (λ o. value_of (find is_code (cons_option o (all_resolved schema ws)))) (resolved-is schema w) ∙ go (finds schema w.label)
  where
    is_code : Resolved → Bool
    is_code r = is_label (binding_of r.member)

    value_of : Option Resolved → Option Value
    value_of o = option_map (λ r. r.value) o

    at : (i : ℕ) (m : Schema) (b : Bool) → value_of (cond b (Some (record { position = i; member = m; value = w.value })) (find is_code (all_resolved schema ws))) ≡ cond b (Some w.value) (code_in schema ws)
    at i m true = refl
    at i m false = refl

    go : (o : Option (ℕ × Schema)) → value_of (find is_code (cons_option (option_map (λ (f : ℕ × Schema). record { position = f.0; member = f.1; value = w.value }) o) (all_resolved schema ws)))
        ≡ cond (option_map_or (λ f. is_label (binding_of f.1)) o false) (Some w.value) (code_in schema ws)
    go None = refl
    go (Some f) = at f.0 f.1 (is_label (binding_of f.1))

-- a write further
module _ (t : Table) (schema : Schema) (x : OneWrite) (rest more : List OneWrite) (steps : rest ≡ x ∷ more) where
  abbrev own : Write
  own = record { label = label_at t x.node.0; value = value_in t x.value }

  pub code-more : is_code_label schema (label_at t x.node.0) ≡ false → code_in schema (list_of (listed t rest)) ≡ code_in schema (list_of (listed t more))
  code-more other = ap (λ xs. code_in schema (list_of (listed t xs))) steps ∙ code-next schema own (list_of (listed t more)) ∙ ap (λ b. cond b (Some own.value) (code_in schema (list_of (listed t more)))) other

  pub code-here : is_code_label schema (label_at t x.node.0) ≡ true → code_in schema (list_of (listed t rest)) ≡ Some (value_in t x.value)
  code-here found = ap (λ xs. code_in schema (list_of (listed t xs))) steps ∙ code-next schema own (list_of (listed t more)) ∙ ap (λ b. cond b (Some own.value) (code_in schema (list_of (listed t more)))) found

pub code-end : (t : Table) (schema : Schema) (rest : List OneWrite) → rest ≡ [] → code_in schema (list_of (listed t rest)) ≡ None
code-end t schema rest none = ap (λ xs. code_in schema (list_of (listed t xs))) none

-- a fault of the message is the output's
pub output-err : (protocol : Protocol) (schema : Schema) (ws : List Write) (f : Fault) → message_fault output_bound_fault (as_output schema) ws ≡ Some f → placed_output protocol schema ws ≡ Err f
unfolding placed_output
output-err protocol schema ws f e = rw e refl

-- and where there is none, these are its parts
pub output-ok : (protocol : Protocol) (schema : Schema) (ws : List Write) → message_fault output_bound_fault (as_output schema) ws ≡ None → (placed : PlacedOutput) → placed.code ≡ written_code (as_output schema) ws
    → placed.headers ≡ message_headers protocol (as_output schema) ws keep_defaults → placed.body ≡ (body protocol.text_of (as_output schema) ws).bytes → placed_output protocol schema ws ≡ Ok placed
unfolding placed_output
output-ok protocol schema ws none placed c h b = rw none (sym (λ i. Ok (record { code = c i; headers = h i; body = b i })))
