use Rattle.std.proofs.Common.{sym, ap, ◌∙◌, Some}
use Rattle.smithy_recovery.proofs.BodyRead.{text_some, text_none}
use Rattle.smithy_recovery.proofs.body_writes.text_payload.Goals as goal

pub returns-in_ok-text_value-in-Some : goal.returns-in_ok-text_value-in-Some
returns-in_ok-text_value-in-Some c = λ t.
    record {
      value = text_some c.args.body.now c.in-Some.text.now c.in-Some.ensures ∙ ap (λ v. Some v) (sym (c.in_ok-text_value-in-Some.ensures.value t));
      defined = c.in_ok-text_value-in-Some.ensures.defined t;
    }

pub returns-in-None : goal.returns-in-None
returns-in-None c = λ t. text_none c.args.body.now c.in-None.ensures
