use Rattle.std.proofs.Common.{◌≡◌}
use Rattle.smithy_registry.specs.Registries.{composed}
use Rattle.smithy_registry.specs.views.Kept.{entries_kept, AreNames}
use Rattle.smithy_registry.proofs.type_registry.TypeRegistry.compose.Given as goal

abbrev pub invariant-loop-name : goal.invariant-loop-name
invariant-loop-name g l =
    AreNames (entries_kept l.name-iterator) × (composed l.whole (entries_kept l.name-iterator) ≡ composed l.fn.self (entries_kept l.initial.name-iterator))
