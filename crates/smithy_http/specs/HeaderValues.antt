-- What is read from the values of a header, in their order (RFC 7230, section 3.2.2); the first value that cannot be read decides.
use Rattle.std.specs.Prelude.{◌≡◌, ◌↔◌, ℕ, List, [], ◌∷◌, ◌++◌, ◌⊎◌, filter, Option, Some, None, Result, Ok, Err, if◌then◌else◌}
use Rattle.std.specs.Str.{IsUtf8, is_utf8, trim}
use Rattle.smithy_types.specs.Results.{then_try, then_give}
use Rattle.smithy_http.specs.declared.error.ListFault.TheVariants as fault
use Rattle.smithy_http.specs.declared.error.ListFault.{ListFault}
use Rattle.smithy_http.specs.declared.error.HttpError.{HttpError}
use Rattle.smithy_http.specs.declared.error.HttpError.TheVariants as error
use Rattle.smithy_http.specs.ListTexts.{list_texts}
use Rattle.smithy_http.specs.Spelling.{Spells}

-- a value as a text
abbrev pub value_text : List ℕ → Result (List ℕ) HttpError
value_text value = if is_utf8 value then Ok value else Err error.NotUtf8

-- what is wrong with a list, as a refusal
abbrev pub or_list_fault : {A : Type 0} → Result A ListFault → Result A HttpError
or_list_fault (Ok x) = Ok x
or_list_fault (Err e) = Err (error.List e)

-- the texts of a value
abbrev pub value_texts : List ℕ → Result (List (List ℕ)) HttpError
value_texts value = then_try (value_text value) (λ text. or_list_fault (list_texts text))

-- what is read from each value, in order
abbrev pub gathered : {A : Type 0} → (List ℕ → Result (List A) HttpError) → List (List ℕ) → Result (List A) HttpError
gathered read [] = Ok []
gathered read (value ∷ values) = then_try (read value) (λ items. then_give (gathered read values) (λ others. items ++ others))

-- the texts of all values
unfoldable pub tokens_of : List (List ℕ) → Result (List (List ℕ)) HttpError
tokens_of values = gathered value_texts values

-- each value is UTF-8 and spells a list, and these are the texts of all, in order
abbrev pub SpellInOrder : List (List ℕ) → List (List ℕ) → Type 0
SpellInOrder [] texts = texts ≡ []
SpellInOrder (value ∷ values) texts =
    (own : List (List ℕ)) × (others : List (List ℕ)) × IsUtf8 value × Spells own value × SpellInOrder values others × (texts ≡ own ++ others)

-- the texts of all values are what they spell
abbrev pub TokensAreSpelled : Type 0
TokensAreSpelled = (values texts : List (List ℕ)) → (SpellInOrder values texts ↔ (tokens_of values ≡ Ok texts))

-- the refusal of a second value
abbrev pub refusal_of_second : List ℕ → HttpError
refusal_of_second second = if is_utf8 second then error.List fault.TooMany else error.NotUtf8

-- the one value without its outer white space, or none where there is no value; a second value cannot be read
unfoldable pub one_text_of : List (List ℕ) → Result (Option (List ℕ)) HttpError
one_text_of [] = Ok None
one_text_of (value ∷ []) = then_give (value_text value) (λ text. Some (trim text))
one_text_of (value ∷ second ∷ _) =
    then_try (value_text value) (λ _. Err (refusal_of_second second))

-- a value where it is UTF-8
abbrev pub text_of : List ℕ → Option (List ℕ)
text_of value = if is_utf8 value then Some value else None

-- the first value, where it is UTF-8
abbrev pub first_text : List (List ℕ) → Option (List ℕ)
first_text [] = None
first_text (value ∷ _) = text_of value

-- the values that are UTF-8
abbrev pub texts_in : List (List ℕ) → List (List ℕ)
texts_in values = filter is_utf8 values

-- the refusal of what was to be read, or want of memory
abbrev pub IsRefusal : {A : Type 0} → HttpError → Result A HttpError → Type 0
IsRefusal e read = (e ≡ error.OutOfMemory) ⊎ (read ≡ Err e)

-- the same, where what was to be read has the fault of a list
abbrev pub IsListRefusal : {A : Type 0} → HttpError → Result A ListFault → Type 0
IsListRefusal e read = (e ≡ error.OutOfMemory) ⊎ ((f : ListFault) × (read ≡ Err f) × (e ≡ error.List f))

-- a byte that is no comma stands where one is due
abbrev pub IsTrailing : {A : Type 0} → Result A ListFault → HttpError → Type 0
IsTrailing read e = (e ≡ error.List fault.Trailing) × (read ≡ Err fault.Trailing)
