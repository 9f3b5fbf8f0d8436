use Rattle.smithy_document.proofs.Common.{◌≡◌, position, None, sym, is_exponent_mark}
use Rattle.smithy_types.proofs.Positions.{length-position}
use Rattle.smithy_document.proofs.decimal_parts.mark_place.Goals as goal

pub returns-in-None-clause-value : goal.returns-in-None-clause-value
returns-in-None-clause-value c =
    let e : None ≡ position is_exponent_mark c.args.number.now = c.in-None.ensures in
    length-position is_exponent_mark c.args.number.now (sym e)
