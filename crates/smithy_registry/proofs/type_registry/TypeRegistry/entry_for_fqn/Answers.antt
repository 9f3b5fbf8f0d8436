use Rattle.std.proofs.Common.{ap, ◌∙◌}
use Rattle.smithy_registry.specs.Registries.{by_name}
use Rattle.smithy_registry.proofs.KeptLemmas.{found_kept}
use Rattle.smithy_registry.proofs.type_registry.TypeRegistry.entry_for_fqn.Goals as goal

pub returns : goal.returns
returns g c = c.get.ensures.value ∙ found_kept c.args.fqn.now c.self.inside.entries.entries ∙ ap (by_name c.args.fqn.now) c.self.view_is
