use Rattle.std.proofs.Common.{◌∙◌, ap, false, List, Bool, take}
use Rattle.std.proofs.lemmas.List.{take-replicate}
use Rattle.smithy_binding.proofs.marks.few_marks.Goals as goal

pub returns : goal.returns
returns c = ap (λ (l : List Bool). take c.args.count l) c.no_marks.ensures ∙ take-replicate c.args.count 64 false c.requires
