use Rattle.smithy_document.proofs.Common.{◌≡◌, ◌==◌, position, None, sym}
use Rattle.smithy_types.proofs.Positions.{length-position}
use Rattle.smithy_document.proofs.decimal_parts.point_place.Goals as goal

pub returns-in-None-clause-value : goal.returns-in-None-clause-value
returns-in-None-clause-value c =
    let e : None ≡ position (λ b. b == 46) c.args.mantissa.now = c.in-None.ensures in
    length-position (λ b. b == 46) c.args.mantissa.now (sym e)
