use Rattle.smithy_wire.proofs.ZoneLemmas.{zone_cases}
use Rattle.smithy_wire.proofs.time_texts.before_zone.Goals as goal

pub returns : goal.returns
returns c = zone_cases c.args.zone.now c.args.text.now c.strip_suffix.result c.strip_suffix.ensures.cases
