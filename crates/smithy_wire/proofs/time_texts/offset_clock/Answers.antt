use Rattle.smithy_wire.proofs.ZoneLemmas.{clock_cut}
use Rattle.smithy_wire.proofs.time_texts.offset_clock.Goals as goal

pub range_from-requires : goal.range_from-requires
range_from-requires c first = clock_cut c.args.text.now c.utf8.text c.requires
