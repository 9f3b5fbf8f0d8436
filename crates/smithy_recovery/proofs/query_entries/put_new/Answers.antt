use Rattle.std.proofs.Common.{rules, Some}
use Rattle.smithy_schema.specs.References.{schema_of}
use Rattle.smithy_recovery.specs.views.KeptQueries.{entries_in, value_under, new_put}
use Rattle.smithy_recovery.proofs.EntriesPut.{put_there, put_first, put_none, first_defined}
use Rattle.smithy_recovery.proofs.QueryKept.{shown, put_refused}
use Rattle.smithy_recovery.proofs.query_entries.put_new.Goals as goal

pub returns-in_err-value-in-Vacant-clause-put : goal.returns-in_err-value-in-Vacant-clause-put
returns-in_err-value-in-Vacant-clause-put c =
    let n = schema_of c.args.here in
    let none = rw c.in-Vacant.is at c.in_ok-entries.ensures.found in
    put_refused n.table (λ _. _) (value_under (Some n) (shown c.args.pieces.now)) (new_put (Some n) (shown c.args.pieces.now) (entries_in n.table c.args.entries.now) c.args.key) c.in_err-value-in-Vacant.field-0.0
    c.from_residual-in_err-value-in-Vacant.result (search rules)
    (put_none n.table (Some n) (shown c.args.pieces.now) c.args.key c.into_string.result c.into_string.ensures c.args.entries.now none)
    c.in_err-value-in-Vacant.ensures

pub returns-in-Occupied-clause-put : goal.returns-in-Occupied-clause-put
returns-in-Occupied-clause-put c =
    let n = schema_of c.args.here in
    let found = rw c.in-Occupied.is at c.in_ok-entries.ensures.found in
    put_there n.table (Some n) (shown c.args.pieces.now) c.args.key c.into_string.result c.into_string.ensures c.args.entries.now _ found.0 (search rules)

pub returns-in_ok-value-in-Vacant-clause-put : goal.returns-in_ok-value-in-Vacant-clause-put
returns-in_ok-value-in-Vacant-clause-put c =
    let n = schema_of c.args.here in
    let none = rw c.in-Vacant.is at c.in_ok-entries.ensures.found in
    put_first n.table (Some n) (shown c.args.pieces.now) c.args.key c.into_string.result c.into_string.ensures c.args.entries.now _ c.in_ok-value-in-Vacant.value none
    c.in_ok-value-in-Vacant.ensures.value (search rules)

pub returns-in_ok-value-in-Vacant-clause-defined : goal.returns-in_ok-value-in-Vacant-clause-defined
returns-in_ok-value-in-Vacant-clause-defined c = λ all.
    first_defined (schema_of c.args.here).table c.args.entries.now _ c.into_string.result c.in_ok-value-in-Vacant.value (search rules) c.in_ok-value-in-Vacant.ensures.defined all
