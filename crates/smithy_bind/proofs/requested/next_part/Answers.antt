use Rattle.smithy_bind.proofs.RequestedLemmas.{cut_all, cut_few}
use Rattle.smithy_bind.proofs.requested.next_part.Goals as goal

pub returns-then-whole-clause-cut : goal.returns-then-whole-clause-cut
returns-then-whole-clause-cut c = cut_all c.args.inputs.now c.split_at.result.1.now c.args.done c.split_at.ensures.back

pub returns-in-Some-clause-cut : goal.returns-in-Some-clause-cut
returns-in-Some-clause-cut c =
    cut_few c.args.inputs.now c.split_at.result.1.now c.in-Some.few.now c.args.done _ c.split_at.ensures.back c.in-Some.ensures.cases.1 c.in-Some.ensures.cases.0

pub returns-in-None-clause-cut : goal.returns-in-None-clause-cut
returns-in-None-clause-cut c = cut_all c.args.inputs.now c.split_at.result.1.now c.args.done c.split_at.ensures.back
