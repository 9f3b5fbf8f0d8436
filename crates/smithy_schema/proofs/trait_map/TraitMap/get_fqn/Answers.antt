use Rattle.std.proofs.Common.{ap, ◌∙◌}
use Rattle.smithy_schema.specs.views.TraitMaps.{entry_named}
use Rattle.smithy_schema.proofs.TraitMapLemmas.{lent_named}
use Rattle.smithy_schema.proofs.trait_map.TraitMap.get_fqn.Goals as goal

pub returns : goal.returns
returns c = lent_named c.args.fqn.now c.self.inside.entries.entries c.get.result c.self.invariant c.get.ensures.value ∙ ap (entry_named c.args.fqn.now) c.self.view_is
