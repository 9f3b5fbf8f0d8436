use Rattle.std.proofs.Common.{sym, ap, ◌∙◌, map, Some}
use Rattle.std.proofs.lemmas.List.{map-append}
use Rattle.smithy_recovery.specs.views.NameOrder.{text_seen, texts_seen}
use Rattle.smithy_recovery.proofs.EntriesPut.{text_put_some}
use Rattle.smithy_recovery.proofs.prefix_entries.push_text.Goals as goal

pub returns-in_ok-push-in-Some : goal.returns-in_ok-push-in-Some
returns-in_ok-push-in-Some c =
    text_put_some c.args.key.now c.args.value.now c.in-Some.text.now (texts_seen c.args.entries.now) c.in-Some.ensures
    ∙ ap (λ es. Some es) (sym (ap (map text_seen) c.in_ok-push-in-Some.ensures.items ∙ map-append text_seen c.args.entries.now.items _))
