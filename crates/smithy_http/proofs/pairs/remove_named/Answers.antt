use Rattle.std.proofs.Common.{sym}
use Rattle.std.specs.Str.{str_to_ascii_lowercase}
use Rattle.smithy_http.proofs.PlaceLemmas.{without-absent}
use Rattle.smithy_http.proofs.pairs.remove_named.Goals as goal

pub returns-in-None-clause-pairs : goal.returns-in-None-clause-pairs
returns-in-None-clause-pairs c =
    let absent = rw c.deref.ensures.value at (sym c.in-None.ensures) in
    sym (without-absent (str_to_ascii_lowercase c.args.name.now) c.args.pairs.now.items absent)
