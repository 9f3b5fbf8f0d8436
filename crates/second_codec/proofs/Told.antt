-- States of a serializer.
use Rattle.std.proofs.Common.{◌≡◌, refl, ap, codes, [], ◌∷◌, ◌++◌}
use Rattle.smithy_serde.specs.Values.{scalar, Label, Writes, no_writes, write, list_of, text}
use Rattle.smithy_serde.specs.declared.scalar.Group.{Group}
use Rattle.smithy_serde.specs.declared.scalar.Group.TheVariants as group
use Rattle.smithy_serde.specs.Told.{grouped, appended, State, empty_state, told, all_written, written, begun, ended}
use Rattle.second_codec.proofs.Making.{item_label, strings}

-- a group that is opened, written and ended is one write
pub ended-all_written : (l : Label) (g : Group) (ws : Writes) (s : State) → ended (all_written ws (begun l g s)) ≡ written l (grouped g ws) s
ended-all_written l g ws s = refl

pub two_texts : told (ended (written item_label (scalar (text (codes "b"))) (written item_label (scalar (text (codes "a"))) (begun item_label group.List empty_state)))) ≡ record { label = item_label; value = strings (codes "a" ∷ codes "b" ∷ []) } ∷ []
two_texts = refl

pub appended-no_writes : (ws : Writes) → appended ws no_writes ≡ ws
appended-no_writes no_writes = refl
appended-no_writes (write l v ws) = ap (write l v) (appended-no_writes ws)

pub list_of-appended : (vs ws : Writes) → list_of (appended vs ws) ≡ list_of vs ++ list_of ws
list_of-appended no_writes ws = refl
list_of-appended (write l v vs) ws = ap (λ ts. record { label = l; value = v } ∷ ts) (list_of-appended vs ws)
