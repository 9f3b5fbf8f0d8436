use Rattle.std.proofs.Common.{◌≡◌, nat_lt, drop}
use Rattle.std.specs.List.{list_all}
use Rattle.smithy_schema.specs.views.Places.{places_of}
use Rattle.smithy_schema.proofs.defining.are_below.Given as goal

abbrev pub invariant-loop-place : goal.invariant-loop-place
invariant-loop-place l =
    list_all (λ i. nat_lt i l.declared) (places_of l.places) ≡ list_all (λ i. nat_lt i l.declared) (drop l.place-index (places_of l.places))
