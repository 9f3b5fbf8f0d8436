use Rattle.smithy_binding.proofs.Common.{ap, sym, ◌∙◌, option_map, schema_of, directed_of, directed_schema}
use Rattle.smithy_binding.proofs.Directions.{directed-in, member-in}
use Rattle.smithy_binding.proofs.NameSteps.{member-is}
use Rattle.smithy_binding.proofs.binding.member_at.Goals as goal

pub returns-clause-node : goal.returns-clause-node
returns-clause-node c =
    let way = c.args.schema.way in
    ap (option_map directed_of) c.directed.ensures ∙ directed-in way c.member_schema_by_index.result
    ∙ ap (option_map (directed_schema way)) c.member_schema_by_index.ensures.node ∙ sym (member-in way (schema_of c.args.schema.schema) c.args.position)

pub returns-clause-member : goal.returns-clause-member
returns-clause-member c =
    member-is c.args.schema c.args.position c.member_schema_by_index.result c.directed.result c.directed.ensures c.member_schema_by_index.ensures.node c.member_schema_by_index.ensures.place
