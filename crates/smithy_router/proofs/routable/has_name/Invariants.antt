use Rattle.smithy_router.proofs.Common.{◌≡◌, drop, map, list_any, part_seen, is_named}
use Rattle.smithy_router.proofs.routable.has_name.Given as goal

abbrev pub invariant-loop-part : goal.invariant-loop-part
invariant-loop-part l =
    list_any (is_named l.name) (map part_seen (drop l.part-index l.parts)) ≡ list_any (is_named l.name) (map part_seen l.parts)
