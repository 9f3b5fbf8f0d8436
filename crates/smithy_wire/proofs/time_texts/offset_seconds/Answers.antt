use Rattle.smithy_wire.proofs.Common.{◌≡◌, sym, ap, ◌∙◌, subst}
use Rattle.std.proofs.Common.{rules, w64, FitsSigned, to_z, of_z}
use Rattle.std.proofs.lemmas.Int.{to_z-of_z}
use Rattle.smithy_types.specs.TimestampReading.{timestamp_of}
use Rattle.smithy_types.specs.declared.date_time.Format.TheVariants.{DateTime}
use Rattle.smithy_wire.specs.WireTimes.{without_offset}
use Rattle.smithy_wire.proofs.ZoneLemmas.{offset_told}
use Rattle.smithy_wire.proofs.time_texts.offset_seconds.Goals as goal

pub returns-in-Some-2 : goal.returns-in-Some-2
returns-in-Some-2 c =
    let behind = c.args.is_behind in
    let offset = c.in-Some.offset in
    let seconds = c.in-Some-2.seconds in
    let offset_fits : FitsSigned w64 offset = search rules in
    let seconds_fits : FitsSigned w64 seconds = search rules in
    let half = subst (λ z. c.without_offset.result ≡ without_offset behind z (to_z w64 (of_z w64 seconds))) (to_z-of_z w64 offset offset_fits) c.without_offset.ensures in
    let moved = subst (λ z. c.without_offset.result ≡ without_offset behind offset z) (to_z-of_z w64 seconds seconds_fits) half in
    offset_told c.args.floors behind c.args.front.now c.args.clock.now offset seconds c.without_offset.result
    (c.in-Some.ensures ∙ ap (timestamp_of DateTime) (c.as_str.ensures.value ∙ c.in_ok-day.ensures.ok))
    (sym c.in-Some-2.is ∙ c.in_ok-seconds.ensures) moved
