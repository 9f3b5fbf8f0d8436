use Rattle.std.proofs.Common.{◌≡◌, ap, ◌∙◌, subst, Some, None, option_map}
use Rattle.std.specs.Str.{str_to_ascii_lowercase}
use Rattle.smithy_http.specs.Facts.{values_at}
use Rattle.smithy_schema.specs.References.{schema_of}
use Rattle.smithy_recovery.specs.HeaderParts.{only_of, header_value}
use Rattle.smithy_recovery.specs.views.Keeping.{KeepsPart}
use Rattle.smithy_recovery.proofs.HeaderSteps.{only_is, part_of_one, part_of_none}
use Rattle.smithy_recovery.proofs.header_values.named_value.Goals as goal

pub returns-in-Some : goal.returns-in-Some
returns-in-Some c =
    let values = values_at (str_to_ascii_lowercase c.args.name.now) c.args.headers.now in
    let only : only_of values ≡ Some (Some c.in-Some.value.now) = c.in_ok-value.ensures ∙ ap (λ o. Some (option_map (λ v. v.now) o)) c.in-Some.is in
    subst (λ part. KeepsPart (schema_of c.args.member).table part c.written.result) (part_of_one (schema_of c.args.member) values c.in-Some.value.now only)
    (c.written.ensures (schema_of c.args.member).table (header_value (schema_of c.args.member) c.in-Some.value.now) (c.header_value.ensures (only_is values c.in-Some.value.now only)))

pub returns-in-None : goal.returns-in-None
returns-in-None c =
    let values = values_at (str_to_ascii_lowercase c.args.name.now) c.args.headers.now in
    let only : only_of values ≡ Some None = c.in_ok-value.ensures ∙ ap (λ o. Some (option_map (λ v. v.now) o)) c.in-None.is in
    part_of_none (schema_of c.args.member) values only
