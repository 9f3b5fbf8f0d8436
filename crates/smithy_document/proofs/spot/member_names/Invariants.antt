use Rattle.smithy_document.proofs.Common.{◌≡◌, ◌++◌, list_of_members, members_view}
use Rattle.std.specs.Map.{keys_of}
use Rattle.smithy_document.proofs.spot.member_names.Given as goal

abbrev pub invariant-members : goal.invariant-members
invariant-members l = keys_of (list_of_members (members_view l.members)) ≡ l.names.items ++ keys_of l.name-iterator
