use Rattle.std.proofs.Common.{sym, subst}
use Rattle.smithy_types.specs.DocumentView.{view}
use Rattle.smithy_wire.specs.WireOf.{form_in, style_in}
use Rattle.smithy_wire.specs.WireText.{wire_held}
use Rattle.uses.specs.RoundTrip.{ComesBackFrom}
use Rattle.uses.proofs.WireBack.{refused_body, read_body}
use Rattle.uses.proofs.aws_bodies.aws_structure.Goals as goal

pub returns-in_err-document : goal.returns-in_err-document
returns-in_err-document c = λ d is.
    refused_body c.args.reader (wire_held (style_in c.args.wire.now) (form_in c.args.wire.now) c.args.body.now) d c.in_err-document.field-0.0 c.from_residual.result c.from_residual.ensures.1 c.in_err-document.ensures is

pub returns : goal.returns
returns c = λ d is.
    read_body c.args.reader (wire_held (style_in c.args.wire.now) (form_in c.args.wire.now) c.args.body.now) d (view c.in_ok-document.document) c.structure_in.result c.in_ok-document.ensures is
    (subst (λ x. ComesBackFrom c.args.reader x c.structure_in.result) c.new-told.ensures.document c.structure_in.ensures)
