use Rattle.std.proofs.Common.{sym, ◌∙◌}
use Rattle.smithy_schema.specs.views.DescribedTraits.{text_of}
use Rattle.smithy_schema.specs.views.Stored.{table_stored}
use Rattle.smithy_schema.proofs.AscendLemmas.{no_rise, one_rise}
use Rattle.smithy_schema.proofs.member_names.names_ascend.Goals as goal

pub returns-then-not-rises : goal.returns-then-not-rises
returns-then-not-rises c =
    sym (c.loop-member.invariant ∙ no_rise (table_stored c.args.nodes.now) c.args.members.now c.loop-member.member-index (text_of c.loop-member.before) (text_of c.name_at-name.result) c.rises.result c.loop-member-test.true c.name_at-name.ensures c.rises.ensures c.if-not-rises.true)

pub loop-member-preserved : goal.loop-member-preserved
loop-member-preserved c =
    c.loop-member.invariant ∙ one_rise (table_stored c.args.nodes.now) c.args.members.now c.loop-member.member-index (text_of c.loop-member.before) (text_of c.name_at-name.result) c.rises.result c.loop-member-test.true c.name_at-name.ensures c.rises.ensures c.if-not-rises.false
