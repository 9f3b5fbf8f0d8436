use Rattle.std.proofs.Common.{◌≡◌, ap, ◌∙◌, subst}
use Rattle.std.specs.Str.{str_to_ascii_lowercase}
use Rattle.smithy_http.proofs.ValueLemmas.{lower_twice}
use Rattle.smithy_http.specs.Facts.{values_at}
use Rattle.smithy_schema.specs.References.{schema_of}
use Rattle.smithy_recovery.specs.HeaderParts.{header_part}
use Rattle.smithy_recovery.specs.views.Keeping.{KeepsPart}
use Rattle.smithy_recovery.proofs.header_values.lowered_value.Goals as goal

pub returns : goal.returns
returns c =
    let same : str_to_ascii_lowercase c.as_str.result.now ≡ str_to_ascii_lowercase c.args.name.now
    = ap str_to_ascii_lowercase (c.as_str.ensures.value ∙ c.in_ok-lower.ensures.ok) ∙ lower_twice c.args.name.now in
    subst (λ name. KeepsPart (schema_of c.args.member).table (header_part (schema_of c.args.member) (values_at name c.args.headers.now)) c.named_value.result) same c.named_value.ensures
