use Rattle.std.proofs.Common.{refl, ap}
use Rattle.smithy_serde.specs.Values.{text}
use Rattle.smithy_serde.proofs.InOrder.{adds_as}
use Rattle.codec_rows.proofs.groups.OneWordWriteElements.write_elements.Goals as goal

pub returns : goal.returns
returns g c = adds_as _ _ _ _ _ _ _ refl (ap text c.as_str.ensures) c.write_string.ensures
