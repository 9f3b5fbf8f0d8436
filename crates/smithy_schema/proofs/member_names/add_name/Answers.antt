use Rattle.std.proofs.Common.{arith}
use Rattle.std.specs.BTreeMap.Entry.{map_with_value}
use Rattle.smithy_schema.proofs.NamedLemmas.{put_once}
use Rattle.smithy_schema.proofs.member_names.add_name.Goals as goal

pub returns : goal.returns
returns c =
    let put = c.or_insert.result.now in
    let once = put_once c.args.positions.now (map_with_value c.in_ok-positions.field-0 put) c.in_ok-name.name c.args.name.now c.args.position put c.in_ok-name.ensures.ok (grind arith) (c.in_ok-positions.ensures.update.0 put) in
    λ q. grind (arith, once q)
