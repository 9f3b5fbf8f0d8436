-- The walk, and then the body: what a message has, or its first fault.
use Rattle.smithy_binding.proofs.Common.{◌≡◌, refl, sym, ◌∙◌, ap, ℕ, List, [], subst, Result, Ok, Err, Option, Some, None, Schema, Write, all_resolved, body, BodyParts, body_parts, body_fault, document_value, document_by, bytes_by, form_in, Protocol, OmitFlags, all_headers, message_fault, message_headers, Direction, Fault, fault_of_document, writes_fault_by, bound_fault_in, Gathered, gather, ok_unless, nothing_yet}
use Rattle.smithy_types.specs.Documents.{Document}
use Rattle.smithy_binding.specs.declared.body_form.BodyForm.{BodyForm}
use Rattle.smithy_binding.proofs.Gathers.{gathered, gather-all, IsGathered, IsGathered-all}

-- what the walk says when it ends well
walked : (way : Direction) (schema : Schema) (ws : List Write) (s : Gathered) → gather way schema (nothing_yet schema) ws ≡ Ok s → (writes_fault_by (bound_fault_in way) schema [] ws ≡ None) × IsGathered schema ws s
walked way schema ws s e = go (writes_fault_by (bound_fault_in way) schema [] ws) refl (sym (gather-all way schema ws) ∙ e)
  where
    go : (o : Option Fault) → writes_fault_by (bound_fault_in way) schema [] ws ≡ o → ok_unless o (gathered schema (nothing_yet schema) (all_resolved schema ws)) ≡ Ok s → (o ≡ None) × IsGathered schema ws s
    go (Some f) h given = absurd (cc given)
    go None h given =
        let same : gathered schema (nothing_yet schema) (all_resolved schema ws) ≡ s = cc given in (refl, subst (IsGathered schema ws) same (IsGathered-all schema ws))

walk-fault : (way : Direction) (schema : Schema) (ws : List Write) (f : Fault) → gather way schema (nothing_yet schema) ws ≡ Err f → writes_fault_by (bound_fault_in way) schema [] ws ≡ Some f
walk-fault way schema ws f e = go (writes_fault_by (bound_fault_in way) schema [] ws) (sym (gather-all way schema ws) ∙ e)
  where
    go : (o : Option Fault) → ok_unless o (gathered schema (nothing_yet schema) (all_resolved schema ws)) ≡ Err f → o ≡ Some f
    go (Some g) given = ap (λ (r : Result Gathered Fault). fault_in r) given
      where
        fault_in : Result Gathered Fault → Option Fault
        fault_in (Ok x) = None
        fault_in (Err g) = Some g
    go None given = absurd (cc given)

-- a fault of the walk is the message's
pub message-walk : (way : Direction) (schema : Schema) (ws : List Write) (f : Fault) → gather way schema (nothing_yet schema) ws ≡ Err f → message_fault (bound_fault_in way) schema ws ≡ Some f
unfolding message_fault
message-walk way schema ws f e = rw (walk-fault way schema ws f e) refl

-- Once the writes are gathered, and the form of the body is known.
module _ (way : Direction) (schema : Schema) (ws : List Write) (s : Gathered) (form : BodyForm) (parts : BodyParts) (walk : gather way schema (nothing_yet schema) ws ≡ Ok s) (known : form ≡ form_in schema) (same : parts ≡ body_parts schema ws) where
  body-fault : body_fault schema ws ≡ fault_of_document (document_by form parts)
  unfolding body_fault document_value
  body-fault = rw (known, same) refl

  -- a rule of documents that the body breaks is the message's
  pub message-body : (f : Fault) → fault_of_document (document_by form parts) ≡ Some f → message_fault (bound_fault_in way) schema ws ≡ Some f
  unfolding message_fault
  message-body f given = rw ((walked way schema ws s walk).0, body-fault ∙ given) refl

  pub message-none : fault_of_document (document_by form parts) ≡ None → message_fault (bound_fault_in way) schema ws ≡ None
  unfolding message_fault
  message-none none = rw ((walked way schema ws s walk).0, body-fault ∙ none) refl

  pub message-parts : IsGathered schema ws s
  message-parts = (walked way schema ws s walk).1

  pub message-bytes : (text : Document → List ℕ) (bytes : List ℕ) → bytes ≡ bytes_by form text parts → bytes ≡ (body text schema ws).bytes
  unfolding body
  message-bytes text bytes told = rw (told, known, same) refl

  pub message-headers : (protocol : Protocol) (omit : OmitFlags) (bytes : List ℕ) → bytes ≡ bytes_by form protocol.text_of parts
      → all_headers protocol (record { bytes = bytes; form = form }) omit s.headers ≡ message_headers protocol schema ws omit
  unfolding body message_headers
  message-headers protocol omit bytes told = rw (told, known, same, message-parts.headers) refl
