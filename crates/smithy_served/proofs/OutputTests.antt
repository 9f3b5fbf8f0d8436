-- The fields of typed outputs as tests: an output that passes all of them is typed.
use Rattle.smithy_served.proofs.Common.{◌≡◌, refl, ℕ, codes, Bool, true, false, not, ◌||◌, List, [], ◌∷◌, is_none, is_some, option_and_then, list_all, AllByRecursion, Schema, Write, are_in_range, doc_of, firsts, document_value, prefixes, as_output, Protocol, code_write, is_shaped_write, is_shallow, answer_fault, IsTypedOutput, bodied, is_shaped_payload, is_typed_header, has_code, writes_defaults, begins_no_default, all_from_test}
use Rattle.std.specs.Bool.{IsTrue}
use Rattle.smithy_served.proofs.Alike.{none_is}

-- the tests under the names of their fields
abbrev tests : Protocol → Schema → List Write → List (List ℕ × Bool)
tests protocol schema ws =
    (codes "in_range", are_in_range ws)
    ∷ (codes "conforming", is_none (answer_fault schema ws))
    ∷ (codes "unbound_shaped", list_all is_shaped_write (bodied schema ws))
    ∷ (codes "payload_shaped", list_all is_shaped_payload (firsts schema ws))
    ∷ (codes "shallow", is_shallow (option_and_then doc_of (document_value (as_output schema) ws)))
    ∷ (codes "header_values", list_all is_typed_header (firsts schema ws))
    ∷ (codes "code", not (has_code schema) || is_some (code_write (as_output schema) ws))
    ∷ (codes "defaults", writes_defaults protocol (as_output schema) ws)
    ∷ (codes "prefixed", list_all begins_no_default (prefixes schema))
    ∷ []

-- the names of the tests that fail
abbrev failed : List (List ℕ × Bool) → List (List ℕ)
failed [] = []
failed ((name, true) ∷ ts) = failed ts
failed ((name, false) ∷ ts) = name ∷ failed ts

-- the fields that an output fails
abbrev pub failing : Protocol → Schema → List Write → List (List ℕ)
failing protocol schema ws = failed (tests protocol schema ws)

passed : (ts : List (List ℕ × Bool)) → failed ts ≡ [] → AllByRecursion (λ t. IsTrue t.1) ts
passed [] e = tt
passed ((name, true) ∷ ts) e = (refl, passed ts e)
passed ((name, false) ∷ ts) e = absurd (cc e)

pub typed_if_nothing_fails : (protocol : Protocol) (schema : Schema) (ws : List Write) → failing protocol schema ws ≡ [] → IsTypedOutput protocol schema ws
typed_if_nothing_fails protocol schema ws e =
    let t = passed (tests protocol schema ws) e in
    record {
      in_range = t.0;
      conforming = none_is _ t.1.0;
      unbound_shaped = all_from_test is_shaped_write _ t.1.1.0;
      payload_shaped = all_from_test is_shaped_payload _ t.1.1.1.0;
      shallow = t.1.1.1.1.0;
      header_values = all_from_test is_typed_header _ t.1.1.1.1.1.0;
      code = t.1.1.1.1.1.1.0;
      defaults = t.1.1.1.1.1.1.1.0;
      prefixed = t.1.1.1.1.1.1.1.1.0;
    }
