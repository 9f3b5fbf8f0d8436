use Rattle.std.proofs.Common.{◌≡◌, drop, is_some}
use Rattle.std.specs.List.{list_all}
use Rattle.smithy_job.proofs.common.are_some.Given as goal

abbrev pub invariant-loop-writes : goal.invariant-loop-writes
invariant-loop-writes l = list_all (λ w. is_some w) (drop l.writes-index l.each) ≡ list_all (λ w. is_some w) l.each
