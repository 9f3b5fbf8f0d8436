use Rattle.std.proofs.Common.{◌≡◌, drop, option_map}
use Rattle.smithy_types.specs.Results.{each}
use Rattle.smithy_schema.specs.References.{schema_of}
use Rattle.smithy_serde.specs.StoredValues.{writes_in, AreDefined}
use Rattle.smithy_recovery.specs.HeaderParts.{text_value}
use Rattle.smithy_recovery.proofs.Collected.{made, so_far}
use Rattle.smithy_recovery.proofs.values.scalar_list.Given as goal

abbrev pub invariant-loop-text : goal.invariant-loop-text
invariant-loop-text l =
    record {
      read : so_far (schema_of l.element) (writes_in (schema_of l.element).table l.writes) (each (text_value (schema_of l.element) l.place) (drop l.text-index l.texts))
          ≡ option_map (made (schema_of l.element)) (each (text_value (schema_of l.element) l.place) l.texts);
      defined : AreDefined (schema_of l.element).table l.writes;
    }
