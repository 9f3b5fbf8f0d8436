use Rattle.std.proofs.Common.{◌≡◌, [], ◌∷◌, ◌++◌, ap, map, rules, Some, None}
use Rattle.smithy_json.specs.JsonView.{view}
use Rattle.smithy_job.specs.CommonView.{nodes_among}
use Rattle.smithy_bind.proofs.RequestedLemmas.{one_placed, made_has, made_no}
use Rattle.smithy_bind.proofs.requested.ReadOperation.request.Goals as goal

pub returns-in-Some-made : goal.returns-in-Some-made
returns-in-Some-made g c = λ is o.
    let inputs = c.in_ok-further.field-0 in
    let nodes : c.unwrap_or-nodes.result.now ≡ nodes_among c.args.self.now.common inputs = search rules in
    let one : map view c.from_ref.result.now ≡ view c.args.input.now ∷ [] = search rules in
    let each : inputs.each.items ≡ c.pop.new.self.items ++ c.in-Some.writes ∷ [] = search rules in
    made_has c.in-Some-made.made _
    (one_placed (g.C.Codec.text c.args.codec) (g.C.Codec.text c.rest_json-protocol.result.codec) c.args.self.now inputs c.unwrap_or-nodes.result.now (view c.args.input.now) (map view c.from_ref.result.now) c.pop.new.self.items c.in-Some.writes
    (Some c.in-Some-made.made) (ap g.C.Codec.text c.rest_json-protocol.ensures.codec) nodes one each c.in_ok-further.ensures c.in-Some-made.ensures is o)

pub returns : goal.returns
returns g c = λ is o.
    let inputs = c.in_ok-further.field-0 in
    let nodes : c.unwrap_or-nodes.result.now ≡ nodes_among c.args.self.now.common inputs = search rules in
    let one : map view c.from_ref.result.now ≡ view c.args.input.now ∷ [] = search rules in
    let each : inputs.each.items ≡ c.pop.new.self.items ++ c.in-Some.writes ∷ [] = search rules in
    made_no _
    (one_placed (g.C.Codec.text c.args.codec) (g.C.Codec.text c.rest_json-protocol.result.codec) c.args.self.now inputs c.unwrap_or-nodes.result.now (view c.args.input.now) (map view c.from_ref.result.now) c.pop.new.self.items c.in-Some.writes
    None (ap g.C.Codec.text c.rest_json-protocol.ensures.codec) nodes one each c.in_ok-further.ensures c.in-None.ensures is o)
