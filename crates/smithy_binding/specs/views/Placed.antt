-- What the first write of a member does to a message so far.
use Rattle.std.specs.Prelude.{ℕ, Bool, true, false, ◌&&◌, ◌++◌, Option, None, if◌then◌else◌}
use Rattle.smithy_binding.specs.Words.{Schema, Binding, to_header, to_prefix, to_query, to_query_map, to_label, binding_of, Value, list, Resolved, put_all}
use Rattle.smithy_serde.specs.Values as value
use Rattle.smithy_binding.specs.Bindings.{inserted_at, pairs_at, labelled_at, query_names}
use Rattle.smithy_binding.specs.Checked.{has_bound_kind, has_map_kind}
use Rattle.smithy_binding.specs.Faults.{Fault, bound_fault, is_placed_at}
use Rattle.smithy_binding.specs.views.Gather.{Gathered}
use Rattle.smithy_binding.specs.views.TargetParts.{queries}

-- a member is of a kind that its binding takes
abbrev pub has_placed_kind : Schema → Bool
has_placed_kind m = has_bound_kind m && has_map_kind m

-- a header, the query or a label by itself (httpHeader, httpQuery, httpLabel)
abbrev pub is_text_binding : Binding → Bool
is_text_binding (to_header name) = true
is_text_binding (to_query name) = true
is_text_binding to_label = true
is_text_binding _ = false

-- a member that stands there
abbrev pub is_text_member : Schema → Bool
is_text_member m = is_text_binding (binding_of m)

-- a header or the query, where a list may stand
abbrev pub is_list_binding : Binding → Bool
is_list_binding (to_header name) = true
is_list_binding (to_query name) = true
is_list_binding _ = false

-- the headers or the query, where a map may stand
abbrev pub takes_map : Binding → Bool
takes_map (to_prefix prefix) = true
takes_map to_query_map = true
takes_map _ = false

-- a write of the member at a position
abbrev pub write_of : ℕ → Schema → Value → Resolved
write_of position m v = record { position = position; member = m; value = v }

-- what it puts, but for its mark
abbrev pub placed_first : Schema → Schema → Value → Gathered → Gathered
placed_first schema m v s =
    record s {
      headers = put_all s.headers (inserted_at (binding_of m) m v);
      query = s.query ++ queries (pairs_at (binding_of m) (query_names schema) m v);
      labels = s.labels ++ labelled_at (binding_of m) m v;
    }

-- its fault, once it fits
abbrev pub first_fault : Schema → Value → Option Fault
first_fault m v = if is_placed_at (binding_of m) then bound_fault (write_of 0 m v) else None

-- the value is no list and no map
abbrev pub IsSingle : Value → Type 0
IsSingle (list ws) = ⊥
IsSingle (value.map ws) = ⊥
IsSingle _ = Unit {0}
