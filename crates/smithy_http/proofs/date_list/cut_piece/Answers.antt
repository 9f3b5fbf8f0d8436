use Rattle.std.proofs.Common.{arith}
use Rattle.std.proofs.lemmas.Str.{IsCharBoundary-after_ascii}
use Rattle.smithy_http.proofs.date_list.cut_piece.Goals as goal

pub range_from-requires : goal.range_from-requires
range_from-requires c =
    let told = rw c.as_bytes.ensures.value at c.in-Some.ensures in
    λ _. IsCharBoundary-after_ascii c.args.text.now c.in-Some.place c.utf8.text told.0 (omega (arith, told.1))
