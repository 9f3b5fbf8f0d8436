use Rattle.smithy_binding.proofs.Common.{ap, ◌∙◌, schema_of, shown, broken_among}
use Rattle.smithy_binding.proofs.BrokenLaws.{broken_input-is, broken_input-named}
use Rattle.smithy_binding.proofs.breaking.broken_input_rule.Goals as goal

pub named_rule-requires : goal.named_rule-requires
named_rule-requires c = rw c.in-None.is at c.in_ok-members.ensures

pub returns-in_ok-broken_among-in-Some : goal.returns-in_ok-broken_among-in-Some
returns-in_ok-broken_among-in-Some c =
    let known = rw c.in-Some.is at c.in_ok-members.ensures in
    c.in_ok-broken_among-in-Some.ensures ∙ ap (broken_among (schema_of c.args.schema)) (ap shown c.as_slice.ensures.value ∙ known.1) ∙ broken_input-is (schema_of c.args.schema) known.0

pub returns-in_ok-named_rule-in-None : goal.returns-in_ok-named_rule-in-None
returns-in_ok-named_rule-in-None c = c.by_schema.ensures ∙ broken_input-named (schema_of c.args.schema) _ c.in_ok-named_rule-in-None.ensures
