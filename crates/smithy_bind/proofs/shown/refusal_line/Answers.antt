use Rattle.std.proofs.Common.{◌∙◌, ap}
use Rattle.smithy_bind.proofs.LineLemmas.{line_is}
use Rattle.smithy_bind.proofs.shown.refusal_line.Goals as goal

pub returns : goal.returns
returns c = line_is c.args.refusal.now _ (ap (λ v. v.items) c.into_bytes.ensures.value ∙ (rw c.variant_name-name.ensures at c.in_ok-line.ensures.ok))
