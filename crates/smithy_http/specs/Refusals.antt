-- The words of refusals.
use Rattle.std.specs.Prelude.{◌≡◌, ◌⊎◌, ℕ, List, codes, true, false}
use Rattle.smithy_types.specs.Grammars.{is_token, is_header_value}
use Rattle.smithy_http.specs.declared.error.ListFault.{ListFault}
use Rattle.smithy_http.specs.declared.error.ListFault.TheVariants as fault
use Rattle.smithy_http.specs.declared.error.HttpError.{HttpError}
use Rattle.smithy_http.specs.declared.error.HttpError.TheVariants as error

-- what is wrong with a header list
abbrev pub list_fault_text : ListFault → List ℕ
list_fault_text fault.Unended = codes "header list: unended quote"
list_fault_text fault.Trailing = codes "header list: expected a comma after a quoted item"
list_fault_text fault.TooMany = codes "header list: more than one item"
list_fault_text fault.Item = codes "header list: item not of the kind"

-- what `Display` writes
abbrev pub refusal_text : HttpError → List ℕ
refusal_text error.Name = codes "invalid header name"
refusal_text error.Value = codes "invalid header value"
refusal_text error.Target = codes "not a legal request target"
refusal_text (error.List f) = list_fault_text f
refusal_text error.NotUtf8 = codes "header value is not UTF-8"
refusal_text error.Address = codes "invalid endpoint address"
refusal_text error.OutOfMemory = codes "out of memory"

-- a name that a field may have, with a value that none has
abbrev pub HasUnfitValue : List ℕ → List ℕ → Type 0
HasUnfitValue name value = (is_token name ≡ true) × (is_header_value value ≡ false)

-- want of memory, or this refusal, and then with this reason
abbrev pub IsRefusedFor : HttpError → Type 0 → HttpError → Type 0
IsRefusedFor refusal Reason e = (e ≡ error.OutOfMemory) ⊎ (e ≡ refusal) × Reason

-- a pair is refused for its name, for its value or for want of memory
abbrev pub IsPairRefusal : HttpError → Type 0
IsPairRefusal e = (e ≡ error.Name) ⊎ (e ≡ error.Value) ⊎ (e ≡ error.OutOfMemory)
