use Rattle.std.proofs.Common.{◌≡◌, Some, Ok, Err, option_map, subst}
use Rattle.smithy_schema.specs.Nodes.{at_place}
use Rattle.smithy_schema.specs.References.{schema_of}
use Rattle.smithy_serde.specs.ReadCalls.{Gives}
use Rattle.smithy_serde.specs.StoredValues.{value_in}
use Rattle.smithy_serde.specs.ValueRead.{value_read}
use Rattle.smithy_recovery.proofs.BodyRead.{read_given, read_refused}
use Rattle.smithy_recovery.proofs.body_writes.value_at_hand.Goals as goal

pub returns-in-Ok : goal.returns-in-Ok
returns-in-Ok g c =
    let m = schema_of c.args.member in
    let t = c.args.table.now in
    let own : at_place t c.own_place.result.0 ≡ Some m = subst (λ t. at_place t c.own_place.result.0 ≡ Some m) c.requires.table c.own_place.ensures in
    record {
      value = λ h told.
          record {
            value = read_given t (value_read m h) c.in-Ok.value (subst (λ o. Gives (value_in t) (option_map (value_read m) o) (Ok c.in-Ok.value)) told (c.in-Ok.ensures.gives m own));
            defined = c.in-Ok.ensures.defined;
          };
      defined = c.in-Ok.ensures.defined;
    }

pub returns-in-Err : goal.returns-in-Err
returns-in-Err g c =
    let m = schema_of c.args.member in
    let t = c.args.table.now in
    let own : at_place t c.own_place.result.0 ≡ Some m = subst (λ t. at_place t c.own_place.result.0 ≡ Some m) c.requires.table c.own_place.ensures in
    record {
      value = λ h told.
          rw c.from.ensures (read_refused t (value_read m h) c.in-Err.error (subst (λ o. Gives (value_in t) (option_map (value_read m) o) (Err c.in-Err.error)) told (c.in-Err.ensures.gives m own)));
      defined = tt;
    }
