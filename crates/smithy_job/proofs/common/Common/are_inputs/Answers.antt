use Rattle.std.proofs.Common.{◌∙◌, ap, is_some, map}
use Rattle.std.specs.List.{list_all}
use Rattle.smithy_json.specs.views.JsonView.{view}
use Rattle.smithy_job.proofs.CommonLemmas.{are-some}
use Rattle.smithy_job.proofs.common.Common.are_inputs.Goals as goal

pub returns : goal.returns
returns c = λ is common.
    c.are_some.ensures ∙ ap (list_all (λ w. is_some w)) c.as_slice.ensures.value ∙ are-some c.args.self.now is c.in_ok-inputs.inputs (map view c.args.values.now) (c.in_ok-inputs.ensures is common)
