use Rattle.std.proofs.Common.{◌++◌, ◌∙◌, [], ap, append_assoc, codes}
use Rattle.smithy_bind.proofs.LineWrites.{line_added, line_written}
use Rattle.smithy_bind.proofs.line.with_line.Goals as goal

pub returns : goal.returns
returns c =
    let written = c.into_inner-line.result.items in
    let line = written ++ codes "\n" in
    line_added c.args.made.now c.args.lines.items line c.push.new.self.items
    (c.in_ok-push.ensures.items ∙ ap (λ t. t ++ codes "\n") (c.in_ok-extend_from_slice.ensures.items ∙ ap (λ w. c.args.lines.items ++ w) c.as_slice.ensures.value) ∙ append_assoc c.args.lines.items written (codes "\n"))
    (line_written c.args.made.now c.new-writer.result c.write_answer.new.writer [] line (c.new-writer.ensures.before ∙ c.in_ok-with_capacity.ensures.items) c.new-writer.ensures.tokens c.in_ok-write_answer.ensures
    (ap (λ t. t ++ codes "\n") c.into_inner-line.ensures.items))
