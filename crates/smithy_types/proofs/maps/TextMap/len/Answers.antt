use Rattle.std.proofs.Common.{subst, List, ℕ}
use Rattle.smithy_types.specs.Maps.{IsOrdered}
use Rattle.smithy_types.proofs.MapLemmas.{IsOrdered-pairs}
use Rattle.smithy_types.proofs.maps.TextMap.len.Goals as goal

pub returns-clause-ordered : goal.returns-clause-ordered
returns-clause-ordered c =
    let P : List (List ℕ × List ℕ) → Type 0 = IsOrdered in
    subst P c.self.view_is (IsOrdered-pairs c.self.inside.entries.entries c.len.ensures.ordered)
