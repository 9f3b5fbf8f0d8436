use Rattle.std.proofs.Common.{refl, lit<}
use Rattle.smithy_ids.specs.ShapeIds.{is_hash}
use Rattle.smithy_model.proofs.Lists.{list_any_none}
use Rattle.smithy_model.proofs.name.is_full_name.Goals as goal

pub returns-in-None : goal.returns-in-None
returns-in-None c = rw (list_any_none is_hash c.args.name.now (c.in-None.ensures.byte (lit< tt) (λ w o h. h))) refl
