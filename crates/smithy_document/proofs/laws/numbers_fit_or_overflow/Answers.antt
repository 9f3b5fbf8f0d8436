use Rattle.smithy_document.proofs.ShapedScalars.{number_fits, number_overflows}
use Rattle.smithy_document.proofs.laws.numbers_fit_or_overflow.Goals as goal

pub returns-clause-fits : goal.returns-clause-fits
returns-clause-fits c = number_fits

pub returns-clause-overflows : goal.returns-clause-overflows
returns-clause-overflows c = number_overflows
