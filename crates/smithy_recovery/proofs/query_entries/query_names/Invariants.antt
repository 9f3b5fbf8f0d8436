use Rattle.std.proofs.Common.{◌≡◌, ◌||◌, ℕ, List}
use Rattle.smithy_types.specs.Texts.{is_one_of}
use Rattle.smithy_schema.specs.References.{schema_of}
use Rattle.smithy_binding.specs.Bindings.{query_names}
use Rattle.smithy_binding.proofs.MapEntries.{names_from}
use Rattle.smithy_recovery.specs.views.KeptQueries.{is_named}
use Rattle.smithy_recovery.proofs.query_entries.query_names.Given as goal

abbrev pub invariant-loop-position : goal.invariant-loop-position
invariant-loop-position l =
    (name : List ℕ) → (is_named l.names name || is_one_of name (names_from (schema_of l.schema) l.position)) ≡ is_one_of name (query_names (schema_of l.schema))
