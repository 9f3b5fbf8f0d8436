use Rattle.smithy_response.proofs.Common.{◌≡◌, filter_map, behind_lower, with_new, keys_behind_lower}
use Rattle.smithy_response.specs.KnownKeys.{AreKnown}
use Rattle.smithy_response.proofs.prefixes.keys_behind.Given as goal

abbrev pub invariant-loop-name : goal.invariant-loop-name
invariant-loop-name l = record {
  can : (goal.iterator-loop-name).can_next l.name-iterator;
  finite : (goal.iterator-loop-name).is_finite l.name-iterator;
  known : AreKnown l.known l.keys;
  read : keys_behind_lower l.prefix l.fn.pairs ≡ with_new l.keys (filter_map (λ p. behind_lower l.prefix p.0) l.name-iterator);
}
