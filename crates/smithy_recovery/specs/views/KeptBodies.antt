-- What is kept of a body, where what the codec's reader has of it is told. It has nodes of the table alone either way.
use Rattle.std.specs.Prelude.{ℕ, Bool, false, not, List, Option, Result, IsTrue, IfOk, IfSome}
use Rattle.std.specs.Option.{option_map_or}
use Rattle.smithy_schema.specs.Nodes.{Schema, Table, at_place, to_payload, is_bound}
use Rattle.smithy_serde.specs.Held.{Held}
use Rattle.smithy_serde.specs.StoredValues.{IsDefined, AreDefined}
use Rattle.smithy_serde.specs.Values.{Value, Write}
use Rattle.smithy_serde.specs.declared.value.ShapeValue.{ShapeValue}
use Rattle.smithy_serde.specs.declared.value.WriteList.{WriteList}
use Rattle.smithy_binding.specs.Bodies.{is_raw_kind}
use Rattle.smithy_recovery.specs.BodyParts.{payload_value, payload_part, body_part, is_asked_at, reads_body, is_told}
use Rattle.smithy_recovery.specs.views.Keeping.{Keeps, KeepsDefined, KeepsPart, KeepsWrites}
use Rattle.smithy_recovery.specs.declared.error.RecoverError.{RecoverError}

-- a value
pub record KeepsValueTold (told : Bool) (t : Table) (read : Option Value) (result : Result ShapeValue RecoverError) : Type 0 where
  pub value : IsTrue told → Keeps t read result
  pub defined : KeepsDefined t result

-- the part of a member
pub record KeepsPartTold (told : Bool) (t : Table) (read : Option (Option Value)) (result : Result (Option ShapeValue) RecoverError) : Type 0 where
  pub part : IsTrue told → KeepsPart t read result
  pub defined : IfOk result (λ o. IfSome o (λ v. IsDefined t v))

-- writes
pub record KeepsWritesTold (told : Bool) (t : Table) (read : Option (List Write)) (result : Result WriteList RecoverError) : Type 0 where
  pub writes : IsTrue told → KeepsWrites t read result
  pub defined : IfOk result (λ ws. AreDefined t ws)

-- the value of a payload by its kind
abbrev pub KeepsPayloadValue : Table → (List ℕ → Option Held) → Schema → List ℕ → Result ShapeValue RecoverError → Type 0
KeepsPayloadValue t holds m body result =
    KeepsValueTold (is_told (not (is_raw_kind m.node.kind)) (holds body)) t (payload_value holds m.node.kind m body) result

-- the part of a payload
abbrev pub KeepsPayload : Table → (List ℕ → Option Held) → Schema → List ℕ → Result (Option ShapeValue) RecoverError → Type 0
KeepsPayload t holds m body result =
    KeepsPartTold (is_told (is_asked_at to_payload m.node.kind body) (holds body)) t (payload_part holds m body) result

-- the writes of the body
abbrev pub KeepsBody : Table → (List ℕ → Option Held) → Schema → List ℕ → Result WriteList RecoverError → Type 0
KeepsBody t holds schema body result =
    KeepsWritesTold (is_told (reads_body schema body) (holds body)) t (body_part holds schema body) result

-- the member at a place, if there is one, stands in the body
abbrev pub is_unbound_at : Table → (place : ℕ) → Bool
is_unbound_at t place = option_map_or (λ m. not (is_bound m)) (at_place t place) false
