use Rattle.std.proofs.Common.{ap, sym, ◌∙◌}
use Rattle.std.specs.Str.{str_to_ascii_lowercase}
use Rattle.smithy_http.proofs.ValueLemmas.{lower_twice}
use Rattle.value_rows.proofs.http.headers.insert_lower.Goals as goal

pub insert_lower-requires : goal.insert_lower-requires
insert_lower-requires c =
    let lower = c.from_string-lower.ensures ∙ c.in_ok-to_ascii_lowercase.ensures.ok in ap str_to_ascii_lowercase lower ∙ lower_twice c.args.name.now ∙ sym lower
