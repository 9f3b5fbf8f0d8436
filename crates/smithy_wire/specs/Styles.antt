-- How bodies differ from JSON over documents.
use Rattle.std.specs.Prelude.{Bool, false}
use Rattle.smithy_wire.specs.declared.wire_style.WireStyle.{WireStyle}

-- a time with a fraction of a second is refused
abbrev pub refusing : Bool → WireStyle
refusing names = record { json_names = names; floors_times = false }
