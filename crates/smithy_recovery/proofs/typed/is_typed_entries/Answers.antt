use Rattle.std.proofs.Common.{sym, ◌∙◌}
use Rattle.smithy_recovery.proofs.TypedSteps.{entries-tested}
use Rattle.smithy_recovery.proofs.typed.is_typed_entries.Goals as goal

pub returns : goal.returns
returns c =
    let t = c.args.table.now in
    entries-tested c.args.prefix.now c.args.member t c.args.value.now c.has_no_default.result (sym c.in_ok-is_typed_text.ensures ∙ c.if-not-branch.false) (c.has_no_default.ensures t)
