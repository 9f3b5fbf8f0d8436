use Rattle.std.proofs.Common.{◌≡◌, drop, map}
use Rattle.smithy_schema.specs.References.{schema_of}
use Rattle.smithy_serde.specs.StoredValues.{writes_in, AreDefined}
use Rattle.smithy_serde.specs.Told.{appended}
use Rattle.smithy_serde.specs.Values as value
use Rattle.smithy_recovery.proofs.Collected.{made}
use Rattle.smithy_recovery.proofs.values.time_list.Given as goal

abbrev pub invariant-loop-seconds : goal.invariant-loop-seconds
invariant-loop-seconds l =
    record {
      read : appended (writes_in (schema_of l.element).table l.writes) (made (schema_of l.element) (map (λ z. value.scalar (value.timestamp z)) (drop l.seconds-index l.initial.seconds)))
          ≡ made (schema_of l.element) (map (λ z. value.scalar (value.timestamp z)) l.initial.seconds);
      defined : AreDefined (schema_of l.element).table l.writes;
    }
