use Rattle.smithy_http.proofs.DateLemmas.{cut_whole}
use Rattle.smithy_http.proofs.date_list.cutting_comma.Goals as goal

pub loop-place-init : goal.loop-place-init
loop-place-init c = cut_whole c.args.own_comma c.args.own_comma c.args.bytes.now
