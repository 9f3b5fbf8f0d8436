use Rattle.smithy_wire.proofs.Common.{sym, ◌∙◌}
use Rattle.smithy_wire.proofs.StandLemmas.{bare_stands}
use Rattle.smithy_wire.proofs.standing.structure_stands.Goals as goal

pub returns-in-None : goal.returns-in-None
returns-in-None c = sym (bare_stands c.args.side c.args.schema c.in-None.ensures (sym c.in_ok-fields_stand.ensures ∙ c.if-not-branch.false))
