-- Header values, and which header stands where.
use Rattle.std.proofs.Common.{◌≡◌, refl, ℕ, codes, true, false, List, [], ◌∷◌, Option, Some, None, pos, neg_ℤ}
use Rattle.std.specs.Option.{option_map as mapped}
use Rattle.second_codec.proofs.OnLiterals.{second_codec_on_literals}
use Rattle.smithy_ids.specs.declared.traits.TimestampFormat.TheVariants.{EpochSeconds, DateTime}
use Rattle.smithy_ids.specs.declared.shape_type.ShapeType.TheVariants as kind
use Rattle.smithy_schema.specs.Nodes.{Schema}
use Rattle.smithy_serde.specs.Values.{scalar, Write, whole, integer, text, blob, timestamp}
use Rattle.smithy_strings.specs.declared.wire.Place.TheVariants.{Header}
use Rattle.smithy_strings.specs.Wire.{scalar_wire}
use Rattle.smithy_strings.specs.Lists.{listed}
use Rattle.smithy_binding.specs.Answer.{place}
use Rattle.second_codec.proofs.Making.{to, strings, string_map, json, keep_all}
use Rattle.second_codec.proofs.Samples.{get_object, bucket, key, one_header, tags, metadata}

-- the headers of a request
abbrev headers_placed : Schema → List Write → Option (List (List ℕ × List ℕ))
headers_placed schema ws = mapped (λ r. r.headers) (place json schema ws [] keep_all)

pub list_with_quotes : listed kind.String (codes "a,b" ∷ codes " c" ∷ codes "d\"e" ∷ []) ≡ codes "\"a,b\", \" c\", \"d\\\"e\""
unfolding second_codec_on_literals
list_with_quotes = refl

pub empty_text_is_quoted : headers_placed tags (to tags 0 (strings (codes "a" ∷ [] ∷ [])) ∷ []) ≡ Some ((codes "x-tags", codes "a, \"\"") ∷ [])
unfolding second_codec_on_literals
empty_text_is_quoted = refl

pub list_of_one_empty_text : headers_placed tags (to tags 0 (strings ([] ∷ [])) ∷ []) ≡ Some ((codes "x-tags", codes "\"\"") ∷ [])
unfolding second_codec_on_literals
list_of_one_empty_text = refl

pub empty_list_is_an_empty_value : headers_placed tags (to tags 0 (strings []) ∷ []) ≡ Some ((codes "x-tags", []) ∷ [])
unfolding second_codec_on_literals
empty_list_is_an_empty_value = refl

pub first_write_counts : headers_placed get_object (bucket ∷ key ∷ to get_object 1 (scalar (whole integer (pos 1))) ∷ to get_object 1 (scalar (whole integer (pos 2))) ∷ []) ≡ Some ((codes "x-id", codes "1") ∷ [])
unfolding second_codec_on_literals
first_write_counts = refl

-- names of entries have no case
pub later_entry_takes_the_place : headers_placed metadata (to metadata 0 (string_map ((codes "A", codes "1") ∷ (codes "B", codes "2") ∷ (codes "a", codes "3") ∷ [])) ∷ []) ≡ Some ((codes "x-meta-a", codes "3") ∷ (codes "x-meta-b", codes "2") ∷ [])
unfolding second_codec_on_literals
later_entry_takes_the_place = refl

pub bytes_are_base64 : headers_placed (one_header kind.Blob) (to (one_header kind.Blob) 0 (scalar (blob (codes "hi"))) ∷ []) ≡ Some ((codes "x-t", codes "aGk=") ∷ [])
unfolding second_codec_on_literals
bytes_are_base64 = refl

pub time_by_default : scalar_wire None false Header (timestamp (pos 1515523620)) ≡ Some (codes "Tue, 09 Jan 2018 18:47:00 GMT")
unfolding second_codec_on_literals
time_by_default = refl

pub time_as_date_time : scalar_wire (Some DateTime) false Header (timestamp (pos 1515523620)) ≡ Some (codes "2018-01-09T18:47:00Z")
unfolding second_codec_on_literals
time_as_date_time = refl

pub time_as_epoch_seconds : scalar_wire (Some EpochSeconds) false Header (timestamp (pos 1515523620)) ≡ Some (codes "1515523620")
unfolding second_codec_on_literals
time_as_epoch_seconds = refl

pub last_second : scalar_wire None false Header (timestamp (pos 253402300799)) ≡ Some (codes "Fri, 31 Dec 9999 23:59:59 GMT")
unfolding second_codec_on_literals
last_second = refl

pub second_behind_the_last : scalar_wire None false Header (timestamp (pos 253402300800)) ≡ None
unfolding second_codec_on_literals
second_behind_the_last = refl

pub first_second : scalar_wire None false Header (timestamp (neg_ℤ (pos 62135596800))) ≡ Some (codes "Mon, 01 Jan 0001 00:00:00 GMT")
unfolding second_codec_on_literals
first_second = refl

pub epoch_seconds_have_every_year : scalar_wire (Some EpochSeconds) false Header (timestamp (pos 253402300800)) ≡ Some (codes "253402300800")
unfolding second_codec_on_literals
epoch_seconds_have_every_year = refl

pub media_type_is_base64 : scalar_wire None true Header (text (codes "{}")) ≡ Some (codes "e30=")
unfolding second_codec_on_literals
media_type_is_base64 = refl
