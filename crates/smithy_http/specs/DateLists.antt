-- What is read from a header value that is a list of dates (RFC 7230, section 7; RFC 7231, section 7.1.1.1).
use Rattle.std.specs.Prelude.{ℕ, ℤ, Bool, true, false, List, [], ◌∷◌, Result, Ok, if◌then◌else◌}
use Rattle.std.specs.List.{onto_first}
use Rattle.std.specs.Option.{ok_or}
use Rattle.std.specs.Str.{trim}
use Rattle.smithy_types.specs.Results.{then_try, then_give}
use Rattle.smithy_types.specs.declared.date_time.Format.{Format}
use Rattle.smithy_types.specs.declared.date_time.Format.TheVariants.{HttpDate}
use Rattle.smithy_types.specs.TimestampReading.{timestamp_of}
use Rattle.smithy_http.specs.declared.error.ListFault.TheVariants as fault
use Rattle.smithy_http.specs.declared.error.HttpError.{HttpError}
use Rattle.smithy_http.specs.declared.error.HttpError.TheVariants as error
use Rattle.smithy_http.specs.HeaderValues.{value_text, gathered}
use Rattle.smithy_http.specs.ListTexts.{is_comma}

-- The pieces between commas. Where each piece has a comma of its own, every second comma cuts, and `stays` says that the next one does not.
abbrev pub cut_at_commas : (own_comma stays : Bool) → List ℕ → List (List ℕ)
cut_at_commas own_comma stays [] = [] ∷ []
cut_at_commas own_comma stays (b ∷ bytes) =
    if is_comma b then (if stays then onto_first b (cut_at_commas own_comma false bytes) else [] ∷ cut_at_commas own_comma own_comma bytes)
    else onto_first b (cut_at_commas own_comma stays bytes)

-- the pieces of a whole text
abbrev pub pieces_of : Bool → List ℕ → List (List ℕ)
pieces_of own_comma text = cut_at_commas own_comma own_comma text

-- an HTTP date has a comma behind the day's name (RFC 7231, section 7.1.1.1)
abbrev pub has_comma : Format → Bool
has_comma HttpDate = true
has_comma _ = false

-- the pieces of a value; an empty one has none
abbrev pub date_pieces : Format → List ℕ → List (List ℕ)
date_pieces format [] = []
date_pieces format (b ∷ bytes) = pieces_of (has_comma format) (b ∷ bytes)

-- the time that a piece tells without its outer white space
abbrev pub date_in : Format → List ℕ → Result ℤ HttpError
date_in format piece = ok_or (timestamp_of format (trim piece)) (error.List fault.Item)

-- the times of pieces, or the refusal at the first that is no date
abbrev pub dates_in : Format → List (List ℕ) → Result (List ℤ) HttpError
dates_in format [] = Ok []
dates_in format (piece ∷ pieces) = then_try (date_in format piece) (λ date. then_give (dates_in format pieces) (λ dates. date ∷ dates))

-- the times of a list
abbrev pub list_dates : Format → List ℕ → Result (List ℤ) HttpError
list_dates format text = dates_in format (date_pieces format text)

-- the times of a value
abbrev pub value_dates : Format → List ℕ → Result (List ℤ) HttpError
value_dates format value = then_try (value_text value) (λ text. list_dates format text)

-- the times of all values
unfoldable pub dates_of : Format → List (List ℕ) → Result (List ℤ) HttpError
dates_of format values = gathered (value_dates format) values
