use Rattle.std.proofs.Common.{codes, nat_eq, ap, ◌∙◌, sym}
use Rattle.std.specs.List.{starts_with}
use Rattle.smithy_types.proofs.EpochReading.{read_seconds}
use Rattle.smithy_types.proofs.date_reader.read_epoch_seconds.Goals as goal

pub returns : goal.returns
returns c =
    c.ok.ensures.value
    ∙ read_seconds c.args.text.now c.parse.result c.parse.ensures.value.0 (ap (λ t. starts_with nat_eq t (codes "+")) (sym c.as_bytes.ensures.value) ∙ sym c.if-starts_with.ensures.value)
