-- A value that is read from tokens.
use Rattle.std.specs.Prelude.{◌≡◌, List, Option, Some, None, Result, Ok, Err}
use Rattle.std.specs.declared.alloc.Global.{Global}
use Rattle.json.specs.Json.{Json}
use Rattle.json.specs.Token.{Token}
use Rattle.json.specs.Value.{value_view}
use Rattle.json.specs.declared.value.Value.{Value}
use Rattle.smithy_json.specs.declared.error.JsonError.{JsonError}
use Rattle.smithy_json.specs.declared.error.JsonError.TheVariants.{Unreadable, OutOfMemory}

-- a value is taken off the front of tokens, or none is there; want of memory is free
abbrev pub Takes : Option (Json × List Token) → List Token → Result (Value Global) JsonError → Type 0
Takes there left (Ok v) = there ≡ Some (value_view v, left)
Takes there left (Err Unreadable) = there ≡ None
Takes there left (Err OutOfMemory) = Unit {0}
