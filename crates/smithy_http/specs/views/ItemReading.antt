-- What the steps of reading a header list cut off and add.
use Rattle.std.specs.Prelude.{◌≡◌, ◌<◌, ◌+◌, ℕ, ℤ, Bool, List, [], ◌∷◌, ◌++◌, length, take, drop, slice_index, encode_utf8, false, Option, None, option_map, Result, Ok, MatchOption}
use Rattle.std.specs.Borrow.{Bor}
use Rattle.std.specs.Option.{option_map_or}
use Rattle.smithy_types.specs.Texts.{ascii}
use Rattle.smithy_types.specs.declared.date_time.Format.{Format}
use Rattle.smithy_http.specs.declared.error.HttpError.{HttpError}
use Rattle.smithy_http.specs.declared.error.ListFault.{ListFault}
use Rattle.smithy_http.specs.DateLists.{pieces_of, has_comma, dates_in}
use Rattle.smithy_http.specs.ListTexts.{behind_blanks, quoted_text}

-- a text behind another one, and what stands behind it
abbrev pub with_text : List ℕ → List ℕ × List ℕ → List ℕ × List ℕ
with_text text read = (text ++ read.0, read.1)

-- the text of the item that was read was added, and this is what stands behind it
pub record IsItemRead (read : Result (List ℕ × List ℕ) ListFault) (old new : List (List ℕ)) (rest : List ℕ) : Type 0 where
  pub text : List ℕ
  pub is_read : read ≡ Ok (text, rest)
  pub added : new ≡ old ++ text ∷ []

-- the items that were read were added
pub record AreItemsRead {A E : Type 0} (read : Result (List A) E) (old new : List A) : Type 0 where
  pub items : List A
  pub are_read : read ≡ Ok items
  pub added : new ≡ old ++ items

-- the date that was read was added
pub record IsDateRead (read : Result ℤ HttpError) (old new : List ℤ) : Type 0 where
  pub date : ℤ
  pub is_read : read ≡ Ok date
  pub added : new ≡ old ++ date ∷ []

-- the comma at this place ends the first piece
abbrev pub EndsPiece : Bool → List ℕ → ℕ → Type 0
EndsPiece own bytes place =
    (place < length bytes) × (slice_index bytes place ≡ ascii ",") × (pieces_of own bytes ≡ take place bytes ∷ pieces_of own (drop (place + 1) bytes))

-- the comma that ends the first piece, or none where there is one piece
abbrev pub CutsPiece : Bool → List ℕ → Option ℕ → Type 0
CutsPiece own bytes cut = MatchOption cut (pieces_of own bytes ≡ bytes ∷ []) (EndsPiece own bytes)

-- the pieces of what stands behind the first one, if something does
abbrev pub pieces_behind : Bool → Option (Bor (List ℕ)) → List (List ℕ)
pieces_behind own rest = option_map_or (λ r. pieces_of own r.now) rest []

-- the times of the pieces of a text
abbrev pub pieces_dates : Format → List ℕ → Result (List ℤ) HttpError
pieces_dates format text = dates_in format (pieces_of (has_comma format) text)

-- what is left where one blank was taken from the front
abbrev pub IsBehindBlank : List ℕ → List ℕ → Type 0
IsBehindBlank text rest = (length rest < length text) × (behind_blanks rest ≡ behind_blanks text)

-- no quote closes what stands behind an opening one
abbrev pub IsUnended : List ℕ → Type 0
IsUnended inner = quoted_text false inner ≡ None

-- the text that was read so far and the text that is read on from here, and what stands behind it
abbrev pub read_on : List ℕ → Bool → List ℕ → Option (List ℕ × List ℕ)
read_on text paired bytes = option_map (with_text text) (quoted_text paired bytes)

-- a character of a quoted text was read: whatever follows, all is as it was before
abbrev pub IsCharRead : ℕ → (old : List ℕ) (paired : Bool) (new : List ℕ) (next : Bool) → Type 0
IsCharRead c old paired new next = (rest : List ℕ) → read_on new next rest ≡ read_on old paired (encode_utf8 c ++ rest)
