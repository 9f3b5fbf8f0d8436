use Rattle.std.proofs.Common.{◌≡◌, ℕ, List, take, position}
use Rattle.std.specs.BTreeMap.{get_by_text}
use Rattle.smithy_schema.specs.views.Places.{places_of}
use Rattle.smithy_schema.specs.views.Stored.{table_stored}
use Rattle.smithy_schema.specs.views.MemberNames.{is_named_at}
use Rattle.smithy_schema.proofs.member_names.first_positions.Given as goal

abbrev pub invariant-loop-position : goal.invariant-loop-position
invariant-loop-position l =
    (name : List ℕ) → get_by_text l.positions name ≡ position (is_named_at (table_stored l.nodes) name) (take l.position (places_of l.members))
