-- Writes as a list, and back.
use Rattle.std.proofs.Common.{◌≡◌, refl, ap}
use Rattle.smithy_serde.specs.Values.{Writes, no_writes, write, list_of, writes_of}

pub writes_listed : (ws : Writes) → writes_of (list_of ws) ≡ ws
writes_listed no_writes = refl
writes_listed (write l v ws) = ap (write l v) (writes_listed ws)
