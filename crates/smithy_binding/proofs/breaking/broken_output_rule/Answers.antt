use Rattle.smithy_binding.proofs.Common.{ap, ◌∙◌, schema_of, shown, broken_response_among}
use Rattle.smithy_binding.proofs.BrokenLaws.{broken_output-is, broken_output-named}
use Rattle.smithy_binding.proofs.breaking.broken_output_rule.Goals as goal

pub named_rule-requires : goal.named_rule-requires
named_rule-requires c = rw c.in-None.is at c.in_ok-members.ensures

pub returns-in_ok-broken_response_among-in-Some : goal.returns-in_ok-broken_response_among-in-Some
returns-in_ok-broken_response_among-in-Some c =
    let known = rw c.in-Some.is at c.in_ok-members.ensures in
    c.in_ok-broken_response_among-in-Some.ensures ∙ ap broken_response_among (ap shown c.as_slice.ensures.value ∙ known.1) ∙ broken_output-is (schema_of c.args.schema) known.0

pub returns-in_ok-named_rule-in-None : goal.returns-in_ok-named_rule-in-None
returns-in_ok-named_rule-in-None c = c.by_schema.ensures ∙ broken_output-named (schema_of c.args.schema) _ c.in_ok-named_rule-in-None.ensures
