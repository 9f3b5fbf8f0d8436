-- The format of texts that `@timestampFormat` names (Smithy, timestampFormat trait).
use Rattle.smithy_types.specs.declared.date_time.Format.{Format}
use Rattle.smithy_types.specs.declared.date_time.Format.TheVariants as text
use Rattle.smithy_ids.specs.declared.traits.TimestampFormat.{TimestampFormat}
use Rattle.smithy_ids.specs.declared.traits.TimestampFormat.TheVariants.{EpochSeconds, DateTime, HttpDate}

abbrev pub format_of : TimestampFormat → Format
format_of EpochSeconds = text.EpochSeconds
format_of DateTime = text.DateTime
format_of HttpDate = text.HttpDate
