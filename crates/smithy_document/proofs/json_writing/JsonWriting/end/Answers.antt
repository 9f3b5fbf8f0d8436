use Rattle.smithy_document.proofs.Common.{rules, subst, sym, ◌<◌, length}
use Rattle.smithy_document.proofs.JsonEnds.{both_end, end_stops}
use Rattle.smithy_document.proofs.json_writing.JsonWriting.end.Goals as goal

pub leave-requires : goal.leave-requires
leave-requires c = subst (λ v. 0 < length v.items) (sym c.in_ok-end_text.ensures.around) c.requires

pub returns-in_err-end_text : goal.returns-in_err-end_text
returns-in_err-end_text c = let whole = end_stops (Unit {0}) (Unit {0}) c.args.self.now c.end_text.new.self _ c.in_err-end_text.ensures.ends c.in_err-end_text.ensures.around in search rules

pub returns : goal.returns
returns c = both_end {U = Unit {0}} (tt {0}) c.args.self.now c.end_text.new.self _ _ c.in_ok-end_text.ensures.ends c.in_ok-end_text.ensures.around c.leave.ensures
