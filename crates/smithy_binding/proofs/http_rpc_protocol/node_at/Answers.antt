use Rattle.std.specs.Prelude.{option_map, unwrap_or}
use Rattle.smithy_binding.proofs.Common.{ap, label_of, no_label}
use Rattle.smithy_binding.proofs.http_rpc_protocol.node_at.Goals as goal

pub returns : goal.returns
returns c = ap (λ o. unwrap_or (option_map label_of o) no_label) c.in-Some.ensures.node
