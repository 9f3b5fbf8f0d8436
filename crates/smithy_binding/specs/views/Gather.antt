-- The writes one by one: what they put into the message so far, or the first fault.
use Rattle.std.specs.Prelude.{ℕ, Bool, true, false, not, ◌&&◌, List, [], ◌∷◌, ◌++◌, length, replicate, slice_index_or, slice_set, Result, Ok, Err, Option, Some, None, if◌then◌else◌}
use Rattle.smithy_binding.specs.Words.{option_or, then_try, unless, Schema, binding_of, Write, Resolved, resolved, fits_member, put_all}
use Rattle.smithy_binding.specs.Bindings.{inserted, pairs_at, query_names, labelled_at}
use Rattle.smithy_binding.specs.Faults.{Fault, wrong_kind, is_placed_at, no_member}
use Rattle.smithy_binding.specs.views.Directed.{bound_fault_in}
use Rattle.smithy_binding.specs.declared.direction.Direction.{Direction}
use Rattle.smithy_binding.specs.views.TargetParts.{queries}

-- what the writes so far have put into the message
pub record Gathered : Type 0 where
  -- by position, the members that are written
  pub seen : List Bool
  pub headers : List (List ℕ × List ℕ)
  -- each pair behind a `&`
  pub query : List ℕ
  pub labels : List (List ℕ × List ℕ)

-- the pairs that a write gives to the query
abbrev pub pairs_of : Schema → Resolved → List (List ℕ × List ℕ)
pairs_of schema r = pairs_at (binding_of r.member) (query_names schema) r.member r.value

-- the texts that it gives to the labels
abbrev pub labelled : Resolved → List (List ℕ × List ℕ)
labelled r = labelled_at (binding_of r.member) r.member r.value

abbrev pub is_seen : Gathered → ℕ → Bool
is_seen s position = slice_index_or s.seen position false

-- a first write put into the message
abbrev pub placed : Schema → Gathered → Resolved → Gathered
placed schema s r =
    record {
      seen = slice_set s.seen r.position true;
      headers = put_all s.headers (inserted r);
      query = s.query ++ queries (pairs_of schema r);
      labels = s.labels ++ labelled r;
    }

-- a later write of a member changes nothing
abbrev pub added : Schema → Gathered → Resolved → Gathered
added schema s r = if is_seen s r.position then s else placed schema s r

abbrev pub ok_unless : {A B : Type 0} → Option B → A → Result A B
ok_unless (Some fault) x = Err fault
ok_unless None x = Ok x

-- of a write, behind an earlier one of its member or not
abbrev pub fault_at : Direction → Bool → Resolved → Option Fault
fault_at way again r =
    option_or (unless (fits_member r.member r.value) (wrong_kind r.member r.value))
    (if is_placed_at (binding_of r.member) && not again then bound_fault_in way r else None)

abbrev pub add_or_fault : Direction → Schema → Gathered → Resolved → Result Gathered Fault
add_or_fault way schema s r = ok_unless (fault_at way (is_seen s r.position) r) (added schema s r)

abbrev pub gather_resolved : Direction → Schema → Gathered → Write → Option Resolved → Result Gathered Fault
gather_resolved way schema s w None = Err (no_member w.label)
gather_resolved way schema s w (Some r) = add_or_fault way schema s r

unfoldable pub gather_one : Direction → Schema → Gathered → Write → Result Gathered Fault
gather_one way schema s w = gather_resolved way schema s w (resolved schema w)

unfoldable pub gather : Direction → Schema → Gathered → List Write → Result Gathered Fault
gather way schema s [] = Ok s
gather way schema s (w ∷ ws) = then_try (gather_one way schema s w) λ t. gather way schema t ws

abbrev pub nothing_yet : Schema → Gathered
nothing_yet schema = record { seen = replicate (length schema.node.members) false; headers = []; query = []; labels = [] }
