-- What is made of one bound member of a response.
use Rattle.smithy_served.proofs.Common.{Route, handed_body, handed_out, passed_over, refused, value_read, IsReadAs, IsSame, Held, None, Ok, Option, Schema, Some, Value, body, refl, true, ◌≡◌}
use Rattle.smithy_serde.specs.Values as value

-- by the member's route: it is handed out as this value, or there is none and it is not; the body is handed out for a payload alone
abbrev pub HandsSame : Held → Route → Schema → Option Value → Type 0
HandsSame body passed_over m o = o ≡ None
HandsSame body (handed_out h) m o = IsReadAs m h o
HandsSame body handed_body m o = (m.node.traits.http_payload ≡ true) × IsReadAs m body o
HandsSame body (refused e) m o = ⊥

-- what is read is the same as itself
pub read_as : (m : Schema) (h : Held) (v : Value) → value_read m h ≡ Ok v → IsReadAs m h (Some v)
read_as m h v e = (v, e, same v)
  where
    same : (v : Value) → IsSame v v
    same (value.map ws) = refl
    same _ = refl
