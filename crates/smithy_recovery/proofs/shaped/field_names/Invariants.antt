use Rattle.std.proofs.Common.{◌≡◌, ◌++◌, drop}
use Rattle.smithy_schema.specs.Places.{places_of}
use Rattle.smithy_recovery.proofs.FieldNames.{shown, names_from}
use Rattle.smithy_recovery.proofs.shaped.field_names.Given as goal

-- the names so far, and those of the members behind
abbrev pub invariant-members : goal.invariant-members
invariant-members l = shown l.names.items ++ names_from l.table (drop l.place-index (places_of l.places)) ≡ names_from l.table (places_of l.places)
