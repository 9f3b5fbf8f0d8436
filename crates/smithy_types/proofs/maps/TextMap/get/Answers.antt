use Rattle.std.proofs.Common.{◌∙◌, ap}
use Rattle.std.specs.Map.{lookup}
use Rattle.smithy_types.specs.Texts.{same_text}
use Rattle.smithy_types.proofs.MapLemmas.{lookup-pairs}
use Rattle.smithy_types.proofs.maps.TextMap.get.Goals as goal

pub returns : goal.returns
returns c = c.get.ensures.value ∙ lookup-pairs c.args.key.now c.self.inside.entries.entries ∙ ap (lookup (same_text c.args.key.now)) c.self.view_is
