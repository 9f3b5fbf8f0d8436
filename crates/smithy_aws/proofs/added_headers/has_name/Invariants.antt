use Rattle.std.proofs.Common.{◌≡◌}
use Rattle.std.specs.Prelude.{is_some}
use Rattle.smithy_types.specs.Texts.{found}
use Rattle.smithy_aws.proofs.added_headers.has_name.Given as goal

abbrev pub invariant-loop-own : goal.invariant-loop-own
invariant-loop-own l = record {
  can : (goal.iterator-loop-own).can_next l.own-iterator;
  finite : (goal.iterator-loop-own).is_finite l.own-iterator;
  same : is_some (found l.name l.own-iterator) ≡ is_some (found l.name l.headers);
}
