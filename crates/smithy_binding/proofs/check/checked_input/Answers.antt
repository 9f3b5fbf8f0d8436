use Rattle.smithy_binding.proofs.Common.{ap, ◌∙◌, ◌&&◌, members_of, schema_of, has_named_members, has_sound_names, has_sound_http, checked_input, shown, are_sound}
use Rattle.smithy_binding.proofs.JointTests.{first_decides, others_decide}
use Rattle.smithy_binding.proofs.CheckingLemmas.{checked_input-is}
use Rattle.smithy_binding.proofs.check.checked_input.Goals as goal

pub are_checked-requires : goal.are_checked-requires
are_checked-requires c = let known = rw c.in-Some.is at c.in_ok-members.ensures in ap shown c.as_slice.ensures.value ∙ known.1

pub returns-in-None : goal.returns-in-None
returns-in-None c =
    let schema = schema_of c.args.schema in
    first_decides (has_named_members schema) (are_sound schema (members_of schema) && has_sound_names schema && has_sound_http schema) (checked_input schema)
    (rw c.in-None.is at c.in_ok-members.ensures) (checked_input-is schema)

pub returns-in_ok-are_checked-in-Some : goal.returns-in_ok-are_checked-in-Some
returns-in_ok-are_checked-in-Some c =
    let schema = schema_of c.args.schema in
    let known = rw c.in-Some.is at c.in_ok-members.ensures in
    c.in_ok-are_checked-in-Some.ensures
    ∙ others_decide (has_named_members schema) (are_sound schema (members_of schema) && has_sound_names schema && has_sound_http schema) (checked_input schema) known.0 (checked_input-is schema)
