use Rattle.std.proofs.Common.{subst, List, ℕ}
use Rattle.smithy_types.specs.Maps.{IsOrdered}
use Rattle.smithy_types.proofs.MapLemmas.{IsOrdered-pairs_of}
use Rattle.smithy_schema.specs.Nodes.{TraitValue}
use Rattle.smithy_schema.specs.views.OwnedTraits.{value_of}
use Rattle.smithy_schema.proofs.trait_map.TraitMap.len.Goals as goal

pub returns-clause-ordered : goal.returns-clause-ordered
returns-clause-ordered c =
    let P : List (List ℕ × TraitValue) → Type 0 = IsOrdered in
    subst P c.self.view_is (IsOrdered-pairs_of value_of c.self.inside.entries.entries c.len.ensures.ordered)
