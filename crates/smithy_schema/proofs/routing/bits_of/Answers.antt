use Rattle.std.proofs.Common.{◌≡◌, ◌+◌, ◌-◌, ◌*◌, ap, ◌∙◌, ℕ, arith, drop}
use Rattle.std.specs.Simd.Lanes.{mask_l}
use Rattle.smithy_schema.specs.Routing.{bound_among}
use Rattle.smithy_schema.specs.views.Places.{places_of}
use Rattle.smithy_schema.specs.views.Stored.{table_stored}
use Rattle.smithy_schema.proofs.RoutingLemmas.{bits_step, bits-few}
use Rattle.smithy_schema.proofs.routing.bits_of.Goals as goal

pub loop-i-preserved : goal.loop-i-preserved
loop-i-preserved c =
    let table = table_stored c.args.nodes.now in
    let xs = c.args.members.now in
    let i = c.loop-i.i in
    let bits : 2 * c.loop-i.bits + c.bit_where.result ≡ mask_l (drop (i - 1) (bound_among table (places_of xs))) =
    ap (λ (n : ℕ). 2 * n + c.bit_where.result) c.loop-i.invariant.bits ∙ bits_step table xs i c.bit_where.result c.is_bound_at.result _ c.loop-i-test.true c.loop-i.invariant.within c.is_bound_at.ensures c.bit_where.ensures in
    let few = bits-few table xs (i - 1) c.requires in
    record { within = omega (arith, c.loop-i.invariant.within); bits = bits; few = rw bits few }
