use Rattle.smithy_gateway.proofs.Kept.{posts_view, places_view}
use Rattle.smithy_gateway.proofs.laws.input_is_kept.Goals as goal

pub returns-clause-to_rpc : goal.returns-clause-to_rpc
returns-clause-to_rpc g c = λ schema endpoint.
    posts_view _ _ (g.met.C.Codec.tells c.args.rest.now.codec c.requires.lawful) c.facts_decide_view.ensures c.view_settles.ensures.settles c.view_settles.ensures.typed

pub returns-clause-to_rest : goal.returns-clause-to_rest
returns-clause-to_rest g c = λ schema endpoint.
    places_view _ _ (g.met.C.Codec.tells c.args.rest.now.codec c.requires.lawful) c.facts_decide_view.ensures c.view_settles.ensures.settles c.view_settles.ensures.typed
    (g.met.D.Codec.tells c.args.rpc.now.codec c.requires.lawful_rpc)
