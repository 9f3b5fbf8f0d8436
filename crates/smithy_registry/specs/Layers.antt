-- Two registries, one behind the other.
use Rattle.std.specs.Prelude.{ℕ, List, Option}
use Rattle.std.specs.Option.{option_or}
use Rattle.smithy_registry.specs.declared.composed.ComposedRegistry.{ComposedRegistry}
use Rattle.smithy_registry.specs.Registries.{Registered}

-- the registry that is asked first
abbrev pub primary_of : {R : Type 0} {g : _} → ComposedRegistry R g → List (List ℕ × Registered R)
primary_of c = c.primary.now

-- the registry that is asked where the first has no entry
abbrev pub fallback_of : {R : Type 0} {g : _} → ComposedRegistry R g → List (List ℕ × Registered R)
fallback_of c = c.fallback.now

-- what a look-up finds in the first registry, else in the second
abbrev pub in_either : {R X : Type 0} {g : _} → (List (List ℕ × Registered R) → Option X) → ComposedRegistry R g → Option X
in_either look_up c = option_or (look_up (primary_of c)) (look_up (fallback_of c))
