-- Where each member is handed out as its part of the normal form, so are all, before what is left of the body.
use Rattle.smithy_served.proofs.Common.{Response, Ended, routed, with_route, Route, handed_body, handed_out, passed_over, refused, route, write_by, AreReadAs, AllByRecursion, Bool, Held, List, None, Option, Schema, Some, Value, Write, [], ap, arith, body, cond, cons_option, enumerate_from, false, filter, length, list_any, option_map, or_right, refl, subst, sym, true, ℕ, ◌++◌, ◌+◌, ◌||◌, ◌∷◌, ◌≡◌, ◌≤◌, given, from_bool}
use Rattle.smithy_served.proofs.MemberHanded.{HandsSame}
use Rattle.smithy_served.proofs.Merge.{made_from}

-- what is handed out are these writes
pub record IsHanded (e : Ended) (view : List Write) : Type 0 where
  pub without_refusal : e.ends ≡ None
  pub members : AreReadAs e.items view

-- one member's route, before what follows; the body is there for a payload
step : (body : Held) (m : Schema) (r : Route) (o : Option Value) (given : Option Held) (rest after : Ended) (view tail : List Write) → HandsSame body r m o → (m.node.traits.http_payload ≡ true → given ≡ Some body)
    → IsHanded rest (view ++ tail) → (m.node.traits.http_payload ≡ true → IsHanded after (view ++ tail)) → IsHanded (with_route r m given rest after) (cons_option (option_map (write_by m) o) view ++ tail)
step body m passed_over o given rest after view tail same there is later = subst (λ o. IsHanded rest (cons_option (option_map (write_by m) o) view ++ tail)) (sym same) is
step body m (handed_out h) None given rest after view tail same there is later = absurd same
step body m (handed_out h) (Some v) given rest after view tail same there is later = record { without_refusal = is.without_refusal; members = (refl, same, is.members) }
step body m handed_body None given rest after view tail same there is later = absurd same.1
step body m handed_body (Some v) given rest after view tail same there is later =
    let a = later same.0 in
    subst (λ g. IsHanded (with_route handed_body m g rest after) (write_by m v ∷ view ++ tail)) (sym (there same.0)) (record { without_refusal = a.without_refusal; members = (refl, same.1, a.members) })
step body m (refused e) o given rest after view tail same there is later = absurd same

-- how many members are payloads
abbrev pub payloads : List Schema → ℕ
payloads ms = length (filter (λ m. m.node.traits.http_payload) ms)

-- one more, where the first is one
counted : (m : Schema) (ms : List Schema) (b : Bool) → m.node.traits.http_payload ≡ b → payloads (m ∷ ms) ≡ from_bool b + payloads ms
counted m ms true e = rw e (omega arith)
counted m ms false e = rw e (omega arith)

-- The body is given for a payload at most; where it was handed out, what follows it has these writes too.
module _ (response : Response) (body : Held) (left : Option Held → Ended) (tail : List Write) (v : ℕ → Schema → Option Value) where
  pub joined : (given : Bool) (k : ℕ) (ms : List Schema) → AllByRecursion (λ p. HandsSame body (route p.1 response) p.1 (v p.0 p.1)) (enumerate_from k ms) → payloads ms ≤ from_bool given
      → IsHanded (left (cond given (Some body) None)) tail → (list_any (λ m. m.node.traits.http_payload) ms ≡ true → IsHanded (left None) tail) → IsHanded (routed response left (cond given (Some body) None) ms) (made_from v k ms ++ tail)
  joined given k [] same few end after = end
  joined given k (m ∷ ms) same few end after =
      let is = counted m ms m.node.traits.http_payload refl in
      let later : list_any (λ m. m.node.traits.http_payload) ms ≡ true → IsHanded (left None) tail = λ some. after (or_right m.node.traits.http_payload (list_any (λ m. m.node.traits.http_payload) ms) some) in
      step body m (route m response) (v k m) (cond given (Some body) None) (routed response left (cond given (Some body) None) ms) (routed response left None ms) (made_from v (k + 1) ms) tail same.0
      (λ paid. there given few (counted m ms true paid))
      (joined given (k + 1) ms same.1 (omega (arith, is, few)) end later)
      (λ paid. let one = counted m ms true paid in let most = at_most given in joined false (k + 1) ms same.1 (omega (arith, one, few, most)) (after (ap (λ b. b || list_any (λ m. m.node.traits.http_payload) ms) paid)) later)
    where
      there : (b : Bool) → payloads (m ∷ ms) ≤ from_bool b → payloads (m ∷ ms) ≡ 1 + payloads ms → cond b (Some body) None ≡ Some body
      there true few one = refl
      there false few one = absurd (omega (arith, few, one))

      at_most : (b : Bool) → from_bool b ≤ 1
      at_most true = omega arith
      at_most false = omega arith
