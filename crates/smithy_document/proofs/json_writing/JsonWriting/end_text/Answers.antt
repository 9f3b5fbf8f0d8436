use Rattle.smithy_document.proofs.Common.{refl}
use Rattle.smithy_document.proofs.JsonEnds.{top_ends, array_ends, structure_ends, map_ends, keyed_refused}
use Rattle.smithy_document.proofs.json_writing.JsonWriting.end_text.Goals as goal

pub returns-in-Top-clause-ends : goal.returns-in-Top-clause-ends
returns-in-Top-clause-ends c = λ g outer inner b of_group j h. absurd (top_ends c.args.self.now c.args.self.now c.in-Top.is g of_group)

pub returns-in_ok-push-in-Items-clause-ends : goal.returns-in_ok-push-in-Items-clause-ends
returns-in_ok-push-in-Items-clause-ends c = array_ends c.args.self.now _ c.in-Items.is c.in_ok-push-in-Items.ensures.items refl

pub returns-in_ok-end_object-in-Fields-clause-ends : goal.returns-in_ok-end_object-in-Fields-clause-ends
returns-in_ok-end_object-in-Fields-clause-ends c = structure_ends c.args.self.now _ c.in-Fields.is c.in_ok-end_object-in-Fields.ensures.ends

pub returns-in_ok-end_object-in-Entries-clause-ends : goal.returns-in_ok-end_object-in-Entries-clause-ends
returns-in_ok-end_object-in-Entries-clause-ends c = map_ends c.args.self.now _ c.in-Entries.is c.if-self.false c.in_ok-end_object-in-Entries.ensures.ends

pub returns-then-self-clause-ends : goal.returns-then-self-clause-ends
returns-then-self-clause-ends c = λ inner b h. keyed_refused c.args.self.now.level inner b c.unmatched_key.result c.in-Entries.is c.if-self.true h c.unmatched_key.ensures
