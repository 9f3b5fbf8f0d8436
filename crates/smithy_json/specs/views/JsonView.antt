-- The data that a value of JSON stands for.
use Rattle.std.specs.Prelude.{ℕ, List, [], ◌∷◌, map}
use Rattle.std.specs.Borrow.{Bor}
use Rattle.serde_json.specs.Data as parsed
use Rattle.serde_json.specs.Data.{Data, Items, Members}
use Rattle.serde_json.specs.View.{number_view, items_of}
use Rattle.smithy_json.specs.declared.value.JsonValue.{JsonValue, fold-JsonValue}
use Rattle.smithy_json.specs.declared.value.JsonValue.TheOpen.{JsonValue-F}

-- a member of an object: its name and its value
abbrev pub Member : Type 0
Member = Bor (List ℕ) × JsonValue

abbrev pub members_of : List (Bor (List ℕ) × Data) → Members
members_of [] = parsed.no_members
members_of (m ∷ ms) = parsed.member m.0.now m.1 (members_of ms)

-- one level, with each value inside already seen as its data
abbrev pub view_step : JsonValue-F Data → Data
view_step JsonValue-F.Null = parsed.null
view_step (JsonValue-F.Bool b) = parsed.boolean b
view_step (JsonValue-F.Number n) = parsed.number (number_view n)
view_step (JsonValue-F.String s) = parsed.string s.now
view_step (JsonValue-F.Array v) = parsed.array (items_of v.items)
view_step (JsonValue-F.Object v) = parsed.object (members_of v.items)

abbrev pub view : JsonValue → Data
view = fold-JsonValue Data view_step

abbrev pub items_view : List JsonValue → Items
items_view vs = items_of (map view vs)

abbrev pub members_view : List Member → Members
members_view ms = members_of (map (λ m. (m.0, view m.1)) ms)

-- a member as its name's bytes and its data
abbrev pub entry_of : Member → List ℕ × Data
entry_of m = (m.0.now, view m.1)

abbrev pub entries : List Member → List (List ℕ × Data)
entries ms = map entry_of ms
