use Rattle.std.proofs.Common.{rules, sym, ap, ◌∙◌, [], Some, subst}
use Rattle.smithy_http.specs.Facts.{query_pieces}
use Rattle.smithy_schema.specs.References.{schema_of}
use Rattle.smithy_recovery.specs.views.KeptQueries.{shown_values, pieces_put, AreKeptDefined}
use Rattle.smithy_serde.specs.NormalBody.{map_value}
use Rattle.smithy_recovery.specs.MapParts.{query_map_part}
use Rattle.smithy_recovery.proofs.EntriesPut.{cited_table, part_of, part_none, part_kept, none_kept}
use Rattle.smithy_recovery.proofs.QueryKept.{map_refused}
use Rattle.smithy_recovery.proofs.QueryPut.{query_put}
use Rattle.smithy_recovery.proofs.query_entries.query_map_part.Goals as goal

pub map_of-requires-clause-defined : goal.map_of-requires-clause-defined
map_of-requires-clause-defined c =
    let m = schema_of c.args.member in
    let n = schema_of c.in-Some.node in
    subst (λ t. AreKeptDefined t c.in_ok-entries.entries) (cited_table m n m.node.value c.in-Some.ensures) c.in_ok-entries.ensures.defined

pub returns-in_err-entries : goal.returns-in_err-entries
returns-in_err-entries c = λ t all left named.
    let m = schema_of c.args.member in
    let n = schema_of c.in-Some.node in
    let ps = query_pieces c.args.target.now in
    map_refused n.table m.table (pieces_put c.args.own.now c.args.pieces.now c.args.names.now (Some n) ps []) (query_map_part t all m ps) c.in_err-entries.field-0.0 c.from_residual.result (search rules)
    (λ none. sym (query_put t all m ps c.args.own.now c.args.pieces.now c.args.names.now left named)
    ∙ ap (λ here. part_of m (pieces_put c.args.own.now c.args.pieces.now c.args.names.now here ps [])) (sym c.in-Some.ensures) ∙ ap (part_of m) none)
    c.in_err-entries.ensures

pub returns-then-is_empty : goal.returns-then-is_empty
returns-then-is_empty c = λ t all left named.
    let m = schema_of c.args.member in
    let n = schema_of c.in-Some.node in
    let ps = query_pieces c.args.target.now in
    sym (query_put t all m ps c.args.own.now c.args.pieces.now c.args.names.now left named)
    ∙ ap (λ here. part_of m (pieces_put c.args.own.now c.args.pieces.now c.args.names.now here ps [])) (sym c.in-Some.ensures)
    ∙ part_none m (pieces_put c.args.own.now c.args.pieces.now c.args.names.now (Some n) ps [])
    (c.in_ok-entries.ensures.entries ∙ ap (λ es. Some es) (none_kept n.table c.in_ok-entries.entries.entries (c.is_empty.ensures.0 c.if-is_empty.true)))

pub returns : goal.returns
returns c = λ t all left named.
    let m = schema_of c.args.member in
    let n = schema_of c.in-Some.node in
    let ps = query_pieces c.args.target.now in
    let es = c.in_ok-entries.entries.entries in (
      sym (query_put t all m ps c.args.own.now c.args.pieces.now c.args.names.now left named)
          ∙ ap (λ here. part_of m (pieces_put c.args.own.now c.args.pieces.now c.args.names.now here ps [])) (sym c.in-Some.ensures)
          ∙ part_kept n.table m (pieces_put c.args.own.now c.args.pieces.now c.args.names.now (Some n) ps []) es c.in_ok-entries.ensures.entries
          (λ none. let empty = c.is_empty.ensures.1 none in cc (empty, c.if-is_empty.false))
          ∙ ap (λ t. Some (Some (map_value (Some m) (shown_values t es)))) (cited_table m n m.node.value c.in-Some.ensures)
          ∙ ap (λ o. Some o) c.in_ok-map.ensures.value,
      c.in_ok-map.ensures.defined,
    )
