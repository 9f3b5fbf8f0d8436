use Rattle.std.proofs.Common.{subst}
use Rattle.smithy_types.specs.Maps.{IsOrdered}
use Rattle.smithy_types.proofs.MapLemmas.{IsOrdered-pairs_of}
use Rattle.smithy_registry.proofs.type_registry.TypeRegistry.iter.Goals as goal

pub returns-clause-ordered : goal.returns-clause-ordered
returns-clause-ordered g c = subst (λ es. IsOrdered es) c.self.view_is (IsOrdered-pairs_of (λ x. x) c.self.inside.entries.entries c.iter.ensures.ordered)
