-- How far bytes are the front of a JSON text.
use Rattle.std.specs.Prelude.{ℕ, suc, ◌-◌, List, [], ◌∷◌, ◌++◌, length, take, slice_get, nat_lt, Option, Some, None, option_and_then, if◌then◌else◌}
use Rattle.std.specs.Option.{option_map_or}
use Rattle.serde_json.specs.Read.{max_depth}
use Rattle.smithy_json.specs.NextPlaces.{step}
use Rattle.smithy_json.specs.declared.places.Bracket.{Bracket}
use Rattle.smithy_json.specs.declared.places.Bracket.TheVariants.{Array, Object}
use Rattle.smithy_json.specs.declared.places.Place.{Place}
use Rattle.smithy_json.specs.declared.places.Place.TheVariants.{Value, FirstItem, FirstName, Behind}
use Rattle.smithy_json.specs.declared.places.Step.{Step}
use Rattle.smithy_json.specs.declared.places.Step.TheVariants.{To, Open, Close}

-- the arrays and objects that are open, the innermost last
abbrev pub Opened : Type 0
Opened = List Bracket

abbrev pub innermost : Opened → Option Bracket
innermost opened = slice_get opened (length opened - 1)

abbrev pub outer : Opened → Opened
outer opened = take (length opened - 1) opened

-- what may stand first in it
abbrev pub first_in : Bracket → Place
first_in Array = FirstItem
first_in Object = FirstName

-- What is open and what may stand next behind a step. Arrays and objects nest as deep as they are read.
abbrev pub moved : Opened → Step → Option (Opened × Place)
moved opened (To place) = Some (opened, place)
moved opened (Open b) = if nat_lt (length opened) max_depth then Some (opened ++ b ∷ [], first_in b) else None
moved opened Close = Some (outer opened, Behind)

abbrev pub moved_by : Opened → Place → ℕ → Option (Opened × Place)
moved_by opened place b = option_and_then (moved opened) (step place (innermost opened) b)

-- how many of the bytes can stand there, one behind the other
abbrev pub front_from : Opened → Place → List ℕ → ℕ
front_from opened place [] = 0
front_from opened place (b ∷ bs) = option_map_or (λ m. suc (front_from m.0 m.1 bs)) (moved_by opened place b) 0

-- The length of the longest front of the bytes that some JSON text begins with (RFC 8259): a text in UTF-8 with surrogates in pairs
-- alone, whose arrays and objects nest at most 127 deep. It is the place of the first byte that can't stand there.
abbrev pub json_end : List ℕ → ℕ
json_end bytes = front_from [] Value bytes
