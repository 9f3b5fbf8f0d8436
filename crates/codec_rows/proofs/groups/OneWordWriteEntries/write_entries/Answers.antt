use Rattle.std.proofs.Common.{rules, refl, ap}
use Rattle.smithy_serde.specs.Values.{scalar, text}
use Rattle.smithy_serde.specs.Told.{one_write}
use Rattle.smithy_serde.specs.Writing.{label}
use Rattle.smithy_serde.proofs.Calls.{tells_then, tells_before}
use Rattle.smithy_serde.proofs.InOrder.{adds_as}
use Rattle.codec_rows.proofs.groups.OneWordWriteEntries.write_entries.Goals as goal

pub returns-in_err-write_string : goal.returns-in_err-write_string
returns-in_err-write_string g c =
    let w = one_write (label c.args.self.now.node) (scalar (text c.args.self.now.word)) in
    let whole = tells_before w w _ _ _ (adds_as _ _ _ _ _ _ _ refl (ap text c.as_str.ensures) c.in_err-write_string.ensures) in search rules

pub returns : goal.returns
returns g c =
    let w = one_write (label c.args.self.now.node) (scalar (text c.args.self.now.word)) in
    tells_then w w _ _ _ _ _ (adds_as _ _ _ _ _ _ _ refl (ap text c.as_str.ensures) c.in_ok-write_string.ensures) (adds_as _ _ _ _ _ _ _ refl (ap text c.as_str-2.ensures) c.write_string-2.ensures)
