use Rattle.smithy_response.proofs.Common.{sym, ap, ◌∙◌, rules, option_copied, schema_of}
use Rattle.smithy_response.proofs.Readings.{reads_text, reads_date, no_text, no_date}
use Rattle.smithy_response.proofs.parts.OpenList.read.Goals as goal

pub returns-in-Some : goal.returns-in-Some
returns-in-Some c =
    reads_text c.args.kind (schema_of c.args.schema) c.args.self.now c.saturating_sub-place.result c.scalar_of_element.result c.saturating_sub-place.ensures
    c.in-Texts.words c.in-Some.word.now c.in-Texts.is (ap option_copied (sym c.in-Some.is) ∙ c.get.ensures) c.scalar_of_element.ensures

pub returns-in-None : goal.returns-in-None
returns-in-None c =
    no_text c.args.kind (schema_of c.args.schema) c.args.self.now c.saturating_sub-place.result c.nothing_at_hand.result c.saturating_sub-place.ensures
    c.in-Texts.words c.in-Texts.is (ap option_copied (sym c.in-None.is) ∙ c.get.ensures)

pub returns-in-Some-get : goal.returns-in-Some-get
returns-in-Some-get c =
    let found = ap option_copied (sym c.in-Some-get.is) ∙ c.get-in-Dates.ensures in
    reads_date c.args.kind (schema_of c.args.schema) c.args.self.now c.saturating_sub-place.result c.scalar_of_date.result c.saturating_sub-place.ensures
    c.in-Dates.seconds _ c.in-Dates.is (search (rules, found)) c.scalar_of_date.ensures

pub returns-in-None-get : goal.returns-in-None-get
returns-in-None-get c =
    no_date c.args.kind (schema_of c.args.schema) c.args.self.now c.saturating_sub-place.result c.nothing_at_hand-in-None-get.result c.saturating_sub-place.ensures
    c.in-Dates.seconds c.in-Dates.is (ap option_copied (sym c.in-None-get.is) ∙ c.get-in-Dates.ensures)
