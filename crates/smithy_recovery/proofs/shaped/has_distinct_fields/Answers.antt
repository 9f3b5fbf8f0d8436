use Rattle.std.proofs.Common.{◌≡◌, sym, ap, ◌∙◌, subst}
use Rattle.smithy_schema.specs.Nodes.{Schema, Table}
use Rattle.smithy_schema.specs.References.{schema_of}
use Rattle.smithy_recovery.specs.views.KnownShapes.{has_distinct_members, AreKnown}
use Rattle.smithy_recovery.proofs.FieldNames.{shape_table}
use Rattle.smithy_recovery.proofs.shaped.has_distinct_fields.Goals as goal

pub is_known-requires : goal.is_known-requires
is_known-requires c =
    let here : (schema_of c.shape_of-shape.result).table ≡ c.args.table.now = ap (λ (s : Schema). s.table) c.shape_of-shape.ensures ∙ shape_table (schema_of c.args.node) ∙ c.requires.table in
    subst (λ (t : Table). AreKnown t c.args.known.now) (sym here) c.requires.known

pub returns-then-is_known-clause-test : goal.returns-then-is_known-clause-test
returns-then-is_known-clause-test c = sym (ap has_distinct_members (sym c.shape_of-shape.ensures) ∙ c.is_known.ensures c.if-is_known.true)

pub keep-requires-clause-known : goal.keep-requires-clause-known
keep-requires-clause-known c =
    let here : (schema_of c.shape_of-shape.result).table ≡ c.args.table.now = ap (λ (s : Schema). s.table) c.shape_of-shape.ensures ∙ shape_table (schema_of c.args.node) ∙ c.requires.table in
    subst (λ (t : Table). AreKnown t c.args.known.now) (sym here) c.requires.known

pub returns-in_err-keep-clause-known : goal.returns-in_err-keep-clause-known
returns-in_err-keep-clause-known c =
    let here : (schema_of c.shape_of-shape.result).table ≡ c.args.table.now = ap (λ (s : Schema). s.table) c.shape_of-shape.ensures ∙ shape_table (schema_of c.args.node) ∙ c.requires.table in
    subst (λ (t : Table). AreKnown t c.keep.new.known) here c.keep.ensures

pub returns-clause-known : goal.returns-clause-known
returns-clause-known c =
    let here : (schema_of c.shape_of-shape.result).table ≡ c.args.table.now = ap (λ (s : Schema). s.table) c.shape_of-shape.ensures ∙ shape_table (schema_of c.args.node) ∙ c.requires.table in
    subst (λ (t : Table). AreKnown t c.keep.new.known) here c.keep.ensures
