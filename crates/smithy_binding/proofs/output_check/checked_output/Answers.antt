use Rattle.smithy_binding.proofs.Common.{ap, ◌∙◌, List, ◌&&◌, Schema, members_of, schema_of, has_named_members, has_sound_headers, checked_output, shown, are_sound_response, have_sound_headers}
use Rattle.smithy_binding.proofs.JointTests.{first_decides, others_decide}
use Rattle.smithy_binding.proofs.CheckingLemmas.{checked_output-is}
use Rattle.smithy_binding.proofs.output_check.checked_output.Goals as goal

pub returns-in-None : goal.returns-in-None
returns-in-None c =
    let schema = schema_of c.args.schema in
    first_decides (has_named_members schema) (are_sound_response (members_of schema) && has_sound_headers schema) (checked_output schema)
    (rw c.in-None.is at c.in_ok-members.ensures) (checked_output-is schema)

pub returns-in_ok-are_checked-in-Some : goal.returns-in_ok-are_checked-in-Some
returns-in_ok-are_checked-in-Some c =
    let schema = schema_of c.args.schema in
    let known = rw c.in-Some.is at c.in_ok-members.ensures in
    c.in_ok-are_checked-in-Some.ensures
    ∙ ap (λ (ms : List Schema). are_sound_response ms && have_sound_headers ms) (ap shown c.as_slice.ensures.value ∙ known.1)
    ∙ others_decide (has_named_members schema) (are_sound_response (members_of schema) && has_sound_headers schema) (checked_output schema) known.0 (checked_output-is schema)
