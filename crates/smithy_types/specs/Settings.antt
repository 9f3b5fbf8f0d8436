-- How the texts and numbers of documents are read as other kinds, where nothing else is said.
use Rattle.std.specs.Prelude.{ℕ, ◌^◌, nat_lt, decimal, codes, List, ◌++◌, Option, Result, Ok, Err, if◌then◌else◌, ℤ, pos}
use Rattle.std.specs.Option.{ok_or}
use Rattle.base64.specs.Engines.{standard}
use Rattle.base64.specs.GeneralPurpose.{decoded_of}
use Rattle.smithy_types.specs.declared.error.DocumentError.{DocumentError}
use Rattle.smithy_types.specs.declared.error.DocumentError.TheVariants.{Custom}
use Rattle.smithy_types.specs.declared.date_time.Format.TheVariants.{DateTime}
use Rattle.smithy_types.specs.Documents.{Document, Number, positive, negative}
use Rattle.smithy_types.specs.TimestampReading.{timestamp_of}

-- the bytes of a text in base64 (RFC 4648, section 4)
unfoldable pub plain_blob : List ℕ → Result (List ℕ) DocumentError
plain_blob text = ok_or (decoded_of standard text) (Custom (codes "cannot base64-decode string as blob"))

-- a number of seconds since 1970 within 64 bits
unfoldable pub plain_number_timestamp : Number → Result ℤ DocumentError
plain_number_timestamp (positive n) =
    if nat_lt n (2 ^ 63) then Ok (pos n) else Err (Custom (codes "epoch seconds " ++ decimal n ++ codes " out of range"))
plain_number_timestamp (negative z) = Ok z

-- a date-time of RFC 3339 with the zone `Z`
unfoldable pub plain_text_timestamp : List ℕ → Result ℤ DocumentError
plain_text_timestamp text = ok_or (timestamp_of DateTime text) (Custom (codes "cannot parse string as a date-time timestamp"))

-- a document with the name of its shape, where that is known, and settings
pub record Discriminated (S : Type 0) : Type 0 where
  pub document : Document
  pub discriminator : Option (List ℕ)
  pub settings : S
