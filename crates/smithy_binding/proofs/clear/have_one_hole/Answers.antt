use Rattle.smithy_binding.proofs.Common.{ap, ◌∙◌, false, map, unwrap_or, is_marked_once, once_mark, times_named, hole_shown}
use Rattle.smithy_binding.proofs.ClearLemmas.{one_hole, list_all-same}
use Rattle.smithy_binding.proofs.clear.have_one_hole.Goals as goal

pub returns : goal.returns
unfolding is_marked_once
returns c =
    c.are_once.ensures
    ∙ list_all-same _ _ (λ name. ap (λ o. unwrap_or o false) (c.in_ok-once.ensures name.now ∙ ap (λ hs. once_mark (times_named name.now (map hole_shown hs))) c.as_slice.ensures.value) ∙ one_hole c.args.template.now name.now) c.args.names.now
