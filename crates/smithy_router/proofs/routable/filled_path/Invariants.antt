use Rattle.smithy_router.proofs.Common.{◌≡◌, ◌++◌, drop, map, string_bytes, part_seen, filled_path}
use Rattle.smithy_router.proofs.routable.filled_path.Given as goal

abbrev pub invariant-loop-part : goal.invariant-loop-part
invariant-loop-part l =
    string_bytes l.path ++ filled_path (map part_seen (drop l.part-index l.parts)) ≡ filled_path (map part_seen l.parts)
