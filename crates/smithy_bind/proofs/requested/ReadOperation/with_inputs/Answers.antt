use Rattle.std.proofs.Common.{◌≡◌, refl, map, rules}
use Rattle.smithy_json.specs.JsonView.{view}
use Rattle.smithy_job.specs.CommonView.{nodes_among}
use Rattle.smithy_bind.proofs.RequestedLemmas.{lines_read}
use Rattle.smithy_bind.proofs.requested.ReadOperation.with_inputs.Goals as goal

pub returns-clause-lines : goal.returns-clause-lines
returns-clause-lines g c =
    let inputs = c.in_ok-further.field-0 in
    let nodes : c.unwrap_or-nodes.result.now ≡ nodes_among c.args.self.now.common inputs = search rules in
    lines_read (g.C.Codec.text c.args.protocol.now.codec) c.args.self.now inputs inputs.each c.unwrap_or-nodes.result.now (map view c.args.inputs.now) c.args.lines c.in_ok-more.more c.is_some.result nodes refl c.in_ok-further.ensures c.in_ok-more.ensures.lines
