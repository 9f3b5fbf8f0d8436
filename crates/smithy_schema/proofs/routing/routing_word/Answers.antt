use Rattle.std.proofs.Common.{arith}
use Rattle.smithy_schema.specs.views.Stored.{table_stored}
use Rattle.std.proofs.lemmas.List.{take_rest}
use Rattle.smithy_schema.proofs.RoutingLemmas.{word_from, word_fits}
use Rattle.smithy_schema.proofs.routing.routing_word.Goals as goal

pub overflow_add-result : goal.overflow_add-result
overflow_add-result c =
    let fits = word_fits (table_stored c.args.nodes.now) c.args.members.now c.min-own.result c.bits_of.result c.bit_where-in_body.result c.bit_where-behind.result c.has_some.result c.has_some-2.result c.min-own.ensures c.bits_of.ensures c.bit_where-in_body.ensures c.bit_where-behind.ensures in
    omega (arith, fits)

pub overflow_add-result-2 : goal.overflow_add-result-2
overflow_add-result-2 c =
    let fits = word_fits (table_stored c.args.nodes.now) c.args.members.now c.min-own.result c.bits_of.result c.bit_where-in_body.result c.bit_where-behind.result c.has_some.result c.has_some-2.result c.min-own.ensures c.bits_of.ensures c.bit_where-in_body.ensures c.bit_where-behind.ensures in
    omega (arith, fits)

pub returns : goal.returns
returns c =
    word_from (table_stored c.args.nodes.now) c.args.members.now c.min-own.result c.bits_of.result c.bit_where-in_body.result c.bit_where-behind.result c.has_some.result c.has_some-2.result c.min-own.ensures c.bits_of.ensures c.has_some.ensures (rw take_rest at c.has_some-2.ensures) c.bit_where-in_body.ensures c.bit_where-behind.ensures
