use Rattle.std.proofs.Common.{◌≡◌, drop, map}
use Rattle.smithy_schema.specs.References.{schema_of}
use Rattle.smithy_serde.specs.StoredValues.{writes_in, AreDefined}
use Rattle.smithy_serde.specs.Told.{appended}
use Rattle.smithy_recovery.specs.MapParts.{as_text}
use Rattle.smithy_recovery.proofs.Collected.{made}
use Rattle.smithy_recovery.proofs.entry_values.list_of_texts.Given as goal

abbrev pub invariant-loop-text : goal.invariant-loop-text
invariant-loop-text l =
    record {
      read : appended (writes_in (schema_of l.element).table l.writes) (made (schema_of l.element) (map as_text (drop l.text-index l.texts))) ≡ made (schema_of l.element) (map as_text l.texts);
      defined : AreDefined (schema_of l.element).table l.writes;
    }
