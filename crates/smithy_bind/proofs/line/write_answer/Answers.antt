use Rattle.std.proofs.Common.{◌≡◌, Some, Err, rules, subst}
use Rattle.smithy_bind.specs.views.LineView.{IsMade}
use Rattle.smithy_bind.proofs.LineWrites.{answer-refused}
use Rattle.smithy_bind.proofs.line.write_answer.Goals as goal

pub returns-in-Some-Err : goal.returns-in-Some-Err
returns-in-Some-Err c = λ answer is.
    let same : c.args.made.now ≡ Some (Err c.in-Some-Err.refusal) = search rules in
    answer-refused c.args.writer.now c.write_refusal.new.writer c.in-Some-Err.refusal c.write_refusal.result c.write_refusal.ensures answer (subst (λ made. IsMade made answer) same is)
