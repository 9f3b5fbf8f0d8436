use Rattle.smithy_wire.specs.views.FormView.{form_view}
use Rattle.smithy_wire.proofs.TextLaws.{wire_is_lawful}
use Rattle.smithy_wire.proofs.wire_codec.wire_json_is_lawful.Goals as goal

pub returns : goal.returns
returns c = wire_is_lawful c.args._codec.now.style (form_view c.args._codec.now.form) c.args._codec.now.stand
