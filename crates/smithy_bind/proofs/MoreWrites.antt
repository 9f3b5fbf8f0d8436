-- Writes, one more at the end.
use Rattle.std.proofs.Common.{◌≡◌, refl, ap, List, [], ◌∷◌, ◌++◌}
use Rattle.smithy_serde.specs.Values.{Write, write, writes_of}
use Rattle.smithy_serde.specs.Told.{appended, one_write}

-- one more at the end
pub writes_more : (ws : List Write) (w : Write) → writes_of (ws ++ w ∷ []) ≡ appended (writes_of ws) (one_write w.label w.value)
writes_more [] w = refl
writes_more (v ∷ ws) w = ap (write v.label v.value) (writes_more ws w)
