-- What the tokens of a JSON text are from one of them on, and what is left behind it (RFC 8259).
use Rattle.std.specs.Prelude.{◌≡◌, ◌∷◌, [], ℕ, List, length, Option, Some, None, Result, Ok, Err}
use Rattle.json.specs.Token.{Token}
use Rattle.json.specs.Json.{value, items, members}
use Rattle.json.specs.Reads.{token_of}
use Rattle.json.specs.declared.token.Token as code
use Rattle.serde_json.specs.Data.{Data, Items, Members, no_members}
use Rattle.serde_json.specs.Read.{of_json, of_items, of_members, converted}
use Rattle.smithy_json.specs.declared.error.JsonError.{JsonError}
use Rattle.smithy_json.specs.declared.error.JsonError.TheVariants.{Unreadable, OutOfMemory}

-- a value in which arrays and objects nest so deep at most
abbrev pub value_at : ℕ → List Token → Option (Data × List Token)
value_at depth ts = converted of_json (value depth ts)

-- the values up to the end of an array
abbrev pub items_at : ℕ → List Token → Option (Items × List Token)
items_at depth ts = converted of_items (items (value depth) (length ts) ts)

-- these members and those up to the end of an object; of members with one name the last one stays
abbrev pub members_at : ℕ → Members → List Token → Option (Members × List Token)
members_at depth before ts = converted (λ ms. of_members ms before) (members (value depth) (length ts) ts)

-- the members of an object, up to its end
abbrev pub object_at : ℕ → List Token → Option (Members × List Token)
object_at depth ts = members_at depth no_members ts

-- the first of these tokens, with what is left behind it, and a refusal exactly where there is none
abbrev pub NextToken : List Token → List Token → Result code.Token JsonError → Type 0
NextToken ts left (Ok t) = ts ≡ token_of t ∷ left
NextToken ts left (Err e) = (e ≡ Unreadable) × (ts ≡ [])

-- what stands there, by its view, with what is left, and a refusal exactly where nothing does; want of memory is free
abbrev pub Takes : {A V : Type 0} → (A → V) → Option (V × List Token) → List Token → Result A JsonError → Type 0
Takes view there left (Ok a) = there ≡ Some (view a, left)
Takes view there left (Err Unreadable) = there ≡ None
Takes view there left (Err OutOfMemory) = Unit {0}
