-- Pairs of an input, a pair at a time.
use Rattle.std.proofs.Common.{◌≡◌, refl, ℕ, ◌+◌, ◌<◌, ◌≤◌, List, length, get_or, drop, Some, None, option_map, option_and_then}
use Rattle.std.proofs.lemmas.List.{drop_more}
use Rattle.std.proofs.Math.ListN.{drop_of_length-le}
use Rattle.serde_json.specs.Data.{Data}
use Rattle.smithy_json.specs.views.JsonView.{view, items_view}
use Rattle.smithy_json.specs.declared.value.JsonValue.{JsonValue}
use Rattle.smithy_schema.specs.Nodes.{Schema}
use Rattle.smithy_model.specs.declared.floats.Floats.{Floats}
use Rattle.smithy_serde.specs.Values.{no_writes, write}
use Rattle.smithy_job.specs.Values.{member_at, member_label, value_in}
use Rattle.smithy_job.specs.Inputs.{pair_in, pairs_in}

module _ (floats : Floats) (s : Schema) (vs : List JsonValue) (i : ℕ) where
  pub next_pair : (v : JsonValue) (name : List ℕ) (d : Data) → i < length vs → v ≡ get_or vs i v → pair_in (view v) ≡ Some (name, d)
      → pairs_in floats s (items_view (drop i vs))
      ≡ option_and_then (λ x. option_map (write (member_label (member_at (Some s) name) name) x) (pairs_in floats s (items_view (drop (i + 1) vs)))) (value_in floats (member_at (Some s) name) d)
  next_pair v name d l is e = rw (drop_more vs i v l, ← is, e) refl

  pub wrong_pair : (v : JsonValue) → i < length vs → v ≡ get_or vs i v → pair_in (view v) ≡ None → pairs_in floats s (items_view (drop i vs)) ≡ None
  wrong_pair v l is e = rw (drop_more vs i v l, ← is, e) refl

  pub no_pair : length vs ≤ i → pairs_in floats s (items_view (drop i vs)) ≡ Some no_writes
  no_pair l = rw (drop_of_length-le vs l) refl
