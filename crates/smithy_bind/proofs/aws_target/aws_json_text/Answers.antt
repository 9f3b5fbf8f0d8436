use Rattle.smithy_bind.proofs.aws_target.aws_json_text.Goals as goal

pub returns : goal.returns
returns c = λ s at. c.value_text.ensures _ (c.aws_json_value_with-value.ensures s at)
