use Rattle.std.proofs.Common.{◌∙◌, ap, subst, ◌++◌, Option}
use Rattle.serde_json.specs.Data.{Data}
use Rattle.smithy_json.specs.JsonView.{view}
use Rattle.smithy_job.specs.Keys.{Keys}
use Rattle.smithy_bind.specs.Replying.{reply_line}
use Rattle.smithy_bind.specs.Responding.{reply_among}
use Rattle.smithy_bind.specs.views.ReplyView.{AreKnown}
use Rattle.smithy_bind.proofs.ReplyLemmas.{lines_more}
use Rattle.smithy_bind.proofs.responded.lines_of.Goals as goal

pub loop-item-preserved : goal.loop-item-preserved
loop-item-preserved c = record {
  known = subst (λ (m : Option Data). AreKnown m c.line_of.new.self.known.items) (ap (λ (k : Keys). k.model) c.among.ensures) c.in_ok-line.ensures.known;
  lines = lines_more (view c.args.job.now) c.args.items.now c.loop-item.item-index c.item-item.result c.loop-item.text.items c.in_ok-line.line.items c.extend_from_slice.new.self.items _ c.loop-item-test.true c.item-item.is
      (c.in_ok-line.ensures.line ∙ ap (λ k. reply_line (reply_among k)) c.among.ensures) (c.in_ok-extend_from_slice.ensures.items ∙ ap (λ t. c.loop-item.text.items ++ t) c.as_slice.ensures.value) c.loop-item.invariant.lines;
}
