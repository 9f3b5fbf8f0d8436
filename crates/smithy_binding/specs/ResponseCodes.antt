-- The response code of an output, which is the status of its response (Smithy, HTTP protocol bindings, httpResponseCode).
use Rattle.std.specs.Prelude.{ℕ, ℤ, pos, negsuc, nat_le, ◌&&◌, Bool, true, false, codes, List, find, is_some, Option, Some, None, option_map, option_and_then, if◌then◌else◌}
use Rattle.smithy_binding.specs.Words.{option_or, unless, Schema, Binding, to_label, binding_of, Value, Write, Resolved, all_resolved}
use Rattle.smithy_serde.specs.Values as value
use Rattle.smithy_binding.specs.Faults.{Fault, custom, bound_fault}

-- the status that a number is: one of three digits (RFC 7231, section 6)
abbrev pub as_status : ℤ → Option ℕ
as_status (pos n) = if nat_le 100 n && nat_le n 999 then Some n else None
as_status (negsuc n) = None

-- the status that a value is
abbrev pub status_value : Value → Option ℕ
status_value (value.scalar (value.whole value.integer z)) = as_status z
status_value _ = None

-- a response code that is no status
abbrev pub no_status : Fault
no_status = custom (codes "response code outside 100 to 999")

-- the fault of a response's label, which is its code
abbrev pub status_fault : Binding → Value → Option Fault
status_fault to_label v = unless (is_some (status_value v)) no_status
status_fault _ v = None

-- the fault of the first write of a bound member of an output other than a payload
abbrev pub output_bound_fault : Resolved → Option Fault
output_bound_fault r = option_or (bound_fault r) (status_fault (binding_of r.member) r.value)

-- the text of the member stands in the first line
abbrev pub is_label : Binding → Bool
is_label to_label = true
is_label _ = false

-- the first write of a label: of a response, of its code
abbrev pub code_write : Schema → List Write → Option Resolved
code_write schema ws = find (λ r. is_label (binding_of r.member)) (all_resolved schema ws)

-- the status that it is, where it is written; one that it is not is a fault
unfoldable pub written_code : Schema → List Write → Option ℕ
written_code schema ws = option_and_then status_value (option_map (λ r. r.value) (code_write schema ws))
