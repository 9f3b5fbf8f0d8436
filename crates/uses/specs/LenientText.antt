-- What a reader of JSON has at hand that takes no bytes for an empty object.
use Rattle.std.specs.Prelude.{ℕ, codes, List, ◌==◌, length, Option, if◌then◌else◌}
use Rattle.smithy_serde.specs.Held.{Held}
use Rattle.smithy_document.specs.JsonHeld.{json_held}

-- bytes, and those of the empty object where there are none
abbrev pub or_empty_object : List ℕ → List ℕ
or_empty_object bytes = if length bytes == 0 then codes "{}" else bytes

abbrev pub lenient_held : List ℕ → Option Held
lenient_held bytes = json_held (or_empty_object bytes)
