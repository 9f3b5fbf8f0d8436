use Rattle.std.proofs.Common.{Ok, Err, option_map, subst}
use Rattle.smithy_schema.specs.References.{schema_of}
use Rattle.smithy_serde.specs.MembersRead.{structure_in}
use Rattle.smithy_serde.specs.ReadCalls.{Gives}
use Rattle.smithy_serde.specs.ValueRead.{value_read, value_of_structure}
use Rattle.smithy_recovery.proofs.BodyRead.{members_given, members_refused}
use Rattle.smithy_recovery.proofs.body_writes.members_at_hand.Goals as goal

pub returns-in-Ok : goal.returns-in-Ok
returns-in-Ok g c =
    let m = schema_of c.args.schema in
    let t = c.args.table.now in
    record {
      writes = λ h told.
          record {
            writes = members_given t (value_of_structure value_read m h) c.in-Ok.writes (subst (λ o. Gives (structure_in t) (option_map (value_of_structure value_read m) o) (Ok c.in-Ok.writes)) told c.in-Ok.ensures.gives);
            defined = c.in-Ok.ensures.defined;
          };
      defined = c.in-Ok.ensures.defined;
    }

pub returns-in-Err : goal.returns-in-Err
returns-in-Err g c =
    let m = schema_of c.args.schema in
    let t = c.args.table.now in
    record {
      writes = λ h told.
          rw c.from.ensures
          (members_refused t (value_of_structure value_read m h) c.in-Err.error (subst (λ o. Gives (structure_in t) (option_map (value_of_structure value_read m) o) (Err c.in-Err.error)) told c.in-Err.ensures.gives));
      defined = tt;
    }
