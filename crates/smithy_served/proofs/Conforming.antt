-- What a typed output without a fault says of its first writes and its response.
use Rattle.smithy_served.proofs.Common.{IsCheckedOutput, message_fault, message_headers, as_output, keep_defaults, placed_output, output_bound_fault, status_fault, written_code, Response, source_of, answer_fault, response_at, answer_response, first_value, IsTypedOutput, is_typed_at, is_typed_header, Fault, IsTrue, List, None, Ok, Option, Protocol, Schema, Some, Value, Write, [], ap, behind, binding_of, body, body_fault, bound_fault, fits, is_bound, is_null, is_placed_at, member_at, sym, then_give, true, writes_fault_by, ℕ, ◌∙◌, ◌≡◌, IsFittingWrite, first_unfaulted, fitting_by, no_first, bound_fits, first_found, first_has, fitting_first, IsSoundMessage}
use Rattle.smithy_binding.specs.declared.output.PlacedOutput.{PlacedOutput}
use Rattle.smithy_unambiguity.proofs.ByMember.{at_member}
use Rattle.smithy_served.proofs.Alike.{member_at-out, first_value-out}
use Rattle.smithy_served.proofs.Messages.{sound_output}

-- a member of a checked schema, and a typed output by it
pub record IsMember (protocol : Protocol) (schema : Schema) (ws : List Write) (i : ℕ) (m : Schema) : Type 0 where
  pub checked : IsCheckedOutput schema
  pub typed : IsTypedOutput protocol schema ws
  pub at : member_at schema i ≡ Some m

module _ (protocol : Protocol) (schema : Schema) (ws : List Write) (i : ℕ) (m : Schema) (is : IsMember protocol schema ws i m) where
  abbrev out : Schema
  out = as_output schema

  pub at_out : member_at (as_output schema) i ≡ Some (as_output m)
  at_out = member_at-out schema i m is.at

  pub message : IsSoundMessage (as_output schema)
  message = sound_output schema is.checked

  no_fault : writes_fault_by output_bound_fault out [] ws ≡ None
  unfolding message_fault
  no_fault = (no_first (writes_fault_by output_bound_fault out [] ws) (body_fault out ws) is.typed.conforming).0

  -- Its first write.
  module _ (u : Value) (e : first_value schema ws i ≡ Some u) where
    found : first_value out ws i ≡ Some u
    found = first_value-out schema ws i ∙ e

    pub fitting : IsFittingWrite (at_member i (as_output m) u)
    fitting = fitting_first out ws i (as_output m) u (fitting_by output_bound_fault out ws no_fault is.typed.in_range) at_out found

    pub fits_kind : is_bound (as_output m) ≡ true → fits m.node.kind u ≡ true
    fits_kind bound = bound_fits (fits m.node.kind u) (is_null u) (is_bound (as_output m)) bound fitting.fits

    -- that of a placed member has neither the faults of a request's nor those of a status
    pub unfaulted : is_placed_at (binding_of (as_output m)) ≡ true → (bound_fault (at_member i (as_output m) u) ≡ None) × (status_fault (binding_of (as_output m)) u ≡ None)
    unfaulted placed =
        no_first (bound_fault (at_member i (as_output m) u)) (status_fault (binding_of (as_output m)) u)
        (first_unfaulted output_bound_fault out ws no_fault i (at_member i (as_output m) u) (first_found out ws i (as_output m) u at_out found) placed)

    pub typed_value : is_typed_at (source_of m) m u ≡ true
    typed_value = first_has (λ r. IsTrue (is_typed_header r)) schema ws i m u is.at e is.typed.header_values

-- what an output without a fault has
abbrev pub output_of : Protocol → Schema → List Write → PlacedOutput
output_of protocol schema ws =
    let out = as_output schema in
    record { code = written_code out ws; headers = message_headers protocol out ws keep_defaults; body = (body protocol.text_of out ws).bytes }

-- its response is made of that
pub response_is : (protocol : Protocol) (schema : Schema) (ws : List Write) (code : ℕ) (response : Response) → answer_fault schema ws ≡ None → answer_response protocol schema ws code ≡ Ok response
    → response ≡ response_at code (output_of protocol schema ws)
unfolding answer_response placed_output
response_is protocol schema ws code response conforming e =
    let both : Ok (response_at code (output_of protocol schema ws)) ≡ Ok response =
    sym (ap (λ (f : Option Fault). then_give (behind f (Ok (output_of protocol schema ws))) (response_at code)) conforming) ∙ e in
    sym (cc both)
