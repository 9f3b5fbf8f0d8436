use Rattle.std.proofs.Common.{[], ◌∷◌}
use Rattle.response_rows.proofs.reads.refused_inside.Goals as goal

pub returns : goal.returns
returns g c = let opened = c.in_ok-open_list.ensures in (opened.frame ∷ [], opened.now_is)
