use Rattle.std.proofs.Common.{◌≡◌, Some, pos, w8, w16, w32, FitsSigned, sym, ap, ◌∙◌, unsigned_abs, arith}
use Rattle.jiff_core.proofs.SignedLemmas.{signed_arith}
use Rattle.std.proofs.lemmas.Int.{to_z_pos, to_z-of_z}
use Rattle.smithy_types.proofs.Readings.{day_number-epoch_day}
use Rattle.smithy_types.proofs.date_reader.day_number.Goals as goal

pub returns-in-Ok : goal.returns-in-Ok
returns-in-Ok c =
    let r = c.in-Ok.date in
    let parts = c.in-Ok.ensures.value in
    let year : r.year ≡ pos c.args.year = parts.0 ∙ to_z_pos w16 c.args.year (omega arith) in
    let month : r.month ≡ c.args.month = ap unsigned_abs (parts.1 ∙ to_z_pos w8 c.args.month (omega arith)) in
    let day : r.day ≡ c.args.day = ap unsigned_abs (parts.2 ∙ to_z_pos w8 c.args.day (omega arith)) in
    ap Some (to_z-of_z w32 c.to_unix_epoch_day.result (let fits : FitsSigned w32 c.to_unix_epoch_day.result = omega (arith, signed_arith, c.to_unix_epoch_day.ensures.bound) in fits) ∙ c.to_unix_epoch_day.ensures.value)
    ∙ sym (day_number-epoch_day r c.args.year c.args.month c.args.day year month day (omega arith))
