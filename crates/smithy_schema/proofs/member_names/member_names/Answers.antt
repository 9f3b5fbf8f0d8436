use Rattle.smithy_schema.specs.views.MemberNames.{IsMapped}
use Rattle.smithy_schema.specs.views.Places.{places_of}
use Rattle.smithy_schema.specs.views.Stored.{table_stored}
use Rattle.smithy_schema.proofs.member_names.member_names.Goals as goal

pub returns : goal.returns
returns c =
    let has : IsMapped (table_stored c.args.nodes.now) (places_of c.args.members.now) (record { positions = c.in_ok-positions.positions; followers = c.in_ok-followers.followers }) =
    record { positions = c.in_ok-positions.ensures; followers = c.in_ok-followers.ensures } in
    rw c.in_ok-new.ensures.ok has
