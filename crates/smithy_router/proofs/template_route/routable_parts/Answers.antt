use Rattle.smithy_router.proofs.Common.{List, ℕ, ◌∷◌, ◌∙◌, ap, sym, query_seen}
use Rattle.smithy_router.proofs.Cuts.{not_path}
use Rattle.smithy_router.proofs.TemplateLemmas.{gives_parts, not_routable}
use Rattle.smithy_router.proofs.template_route.routable_parts.Goals as goal

pub returns-in-Some : goal.returns-in-Some
returns-in-Some c =
    let cut = c.in-Some.ensures.cases in
    gives_parts _ c.args.template.now c.cut_target.result.0.now c.in-Some.rest.now (query_seen c.cut_target.result.1) c.sound_parts.result
    c.cut_target.ensures.path (cut.1.1 ∙ ap (λ (t : List ℕ). 47 ∷ t) (sym cut.2)) c.cut_target.ensures.query c.sound_parts.ensures

pub returns-in-None : goal.returns-in-None
returns-in-None c =
    not_routable c.args.template.now
    (not_path c.args.template.now c.cut_target.result.0.now c.cut_target.ensures.path (λ rest e. c.in-None.ensures.cases rest e))
