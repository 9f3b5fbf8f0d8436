-- The fields of typed inputs as tests: an input that passes all of them is typed, and one that fails one of them is not.
use Rattle.std.proofs.Common.{◌≡◌, refl, ℕ, codes, Bool, true, false, List, [], ◌∷◌, Option, Some, None, is_none, option_and_then}
use Rattle.std.proofs.lemmas.Bool.{and_parts}
use Rattle.std.specs.Bool.{IsTrue}
use Rattle.std.specs.List.{list_all, AllByRecursion}
use Rattle.smithy_schema.specs.Nodes.{Schema, binding_of, members_of}
use Rattle.smithy_serde.specs.Values.{Write}
use Rattle.smithy_serde.specs.Ranges.{are_in_range}
use Rattle.smithy_serde.specs.DocumentOf.{doc_of}
use Rattle.smithy_serde.specs.Writes.{firsts}
use Rattle.smithy_binding.specs.Bindings.{headers}
use Rattle.smithy_binding.specs.Bodies.{body, document_value}
use Rattle.smithy_binding.specs.Faults.{fault}
use Rattle.smithy_binding.specs.Typed.{IsTyped, is_shaped_write, bodied, is_shaped_payload, is_placed_typed, writes_default, has_no_default_name, has_clear_template, is_shallow}
use Rattle.second_codec.proofs.Making.{json, keep_all}

-- the tests under the names of their fields
abbrev tests : Schema → List ℕ → List Write → List (List ℕ × Bool)
tests schema endpoint ws =
    (codes "in_range", are_in_range ws)
    ∷ (codes "conforming", is_none (fault schema ws endpoint))
    ∷ (codes "unbound_shaped", list_all is_shaped_write (bodied schema ws))
    ∷ (codes "payload_shaped", is_shaped_payload schema ws)
    ∷ (codes "placed_values", list_all is_placed_typed (firsts schema ws))
    ∷ (codes "defaults", list_all (λ m. writes_default (body json.text_of schema ws) keep_all (headers schema ws) (binding_of m)) (members_of schema))
    ∷ (codes "prefixed", list_all (λ r. has_no_default_name (binding_of r.member) r) (firsts schema ws))
    ∷ (codes "clear", has_clear_template schema endpoint)
    ∷ (codes "shallow", is_shallow (option_and_then doc_of (document_value schema ws)))
    ∷ []

-- the names of the tests that fail
abbrev failed : List (List ℕ × Bool) → List (List ℕ)
failed [] = []
failed ((name, true) ∷ ts) = failed ts
failed ((name, false) ∷ ts) = name ∷ failed ts

-- the fields that an input fails
abbrev pub failing : Schema → List ℕ → List Write → List (List ℕ)
failing schema endpoint ws = failed (tests schema endpoint ws)

passed : (ts : List (List ℕ × Bool)) → failed ts ≡ [] → AllByRecursion (λ t. IsTrue t.1) ts
passed [] e = tt
passed ((name, true) ∷ ts) e = (refl, passed ts e)
passed ((name, false) ∷ ts) e = absurd (cc e)

each : {X : Type 0} (test : X → Bool) (xs : List X) → list_all test xs ≡ true → AllByRecursion (λ x. IsTrue (test x)) xs
each test [] e = tt
each test (x ∷ xs) e = let p = and_parts (test x) (list_all test xs) e in (p.0, each test xs p.1)

all : {X : Type 0} (test : X → Bool) (xs : List X) → AllByRecursion (λ x. IsTrue (test x)) xs → list_all test xs ≡ true
all test [] h = refl
all test (x ∷ xs) h = rw h.0 (all test xs h.1)

none : {X : Type 0} (o : Option X) → is_none o ≡ true → o ≡ None
none None e = refl
none (Some x) e = absurd (cc e)

pub typed_if_nothing_fails : (schema : Schema) (endpoint : List ℕ) (ws : List Write) → failing schema endpoint ws ≡ [] → IsTyped json schema endpoint keep_all ws
typed_if_nothing_fails schema endpoint ws e =
    let t = passed (tests schema endpoint ws) e in
    record {
      in_range = t.0;
      conforming = none _ t.1.0;
      unbound_shaped = each is_shaped_write _ t.1.1.0;
      payload_shaped = t.1.1.1.0;
      placed_values = each is_placed_typed _ t.1.1.1.1.0;
      defaults = t.1.1.1.1.1.0;
      prefixed = each (λ r. has_no_default_name (binding_of r.member) r) _ t.1.1.1.1.1.1.0;
      clear = t.1.1.1.1.1.1.1.0;
      shallow = t.1.1.1.1.1.1.1.1.0;
    }

pub nothing_fails_if_typed : (schema : Schema) (endpoint : List ℕ) (ws : List Write) → IsTyped json schema endpoint keep_all ws → failing schema endpoint ws ≡ []
nothing_fails_if_typed schema endpoint ws t =
    let shaped = all is_shaped_write (bodied schema ws) t.unbound_shaped in
    let placed = all is_placed_typed (firsts schema ws) t.placed_values in
    let prefixed = all (λ r. has_no_default_name (binding_of r.member) r) (firsts schema ws) t.prefixed in
    rw (t.in_range, t.conforming, shaped, t.payload_shaped, placed, t.defaults, prefixed, t.clear, t.shallow) refl
