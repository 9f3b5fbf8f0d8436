use Rattle.std.proofs.Common.{sym, ap, ◌∙◌, not, Some, option_map}
use Rattle.std.specs.Bool.{then_some}
use Rattle.smithy_recovery.specs.views.KeptQueries.{is_named}
use Rattle.smithy_recovery.proofs.query_entries.unnamed_key.Goals as goal

pub returns-then-is_named : goal.returns-then-is_named
returns-then-is_named c =
    ap (option_map (λ key. then_some (not (is_named c.args.names.now key)) key)) (sym c.in_ok-key.ensures ∙ c.in-Some.is)
    ∙ ap (λ b. Some (then_some (not b) c.in-Some.key)) (ap (is_named c.args.names.now) (sym c.as_str.ensures) ∙ sym c.is_named.ensures ∙ c.if-is_named.true)

pub returns-else-is_named : goal.returns-else-is_named
returns-else-is_named c =
    ap (option_map (λ key. then_some (not (is_named c.args.names.now key)) key)) (sym c.in_ok-key.ensures ∙ c.in-Some.is)
    ∙ ap (λ b. Some (then_some (not b) c.in-Some.key)) (ap (is_named c.args.names.now) (sym c.as_str.ensures) ∙ sym c.is_named.ensures ∙ c.if-is_named.false)
