-- What a structure has for the member of a name.
use Rattle.std.specs.Prelude.{ℕ, Bool, false, List, Option, Some, None, option_map, if◌then◌else◌}
use Rattle.std.specs.Borrow.{Bor}
use Rattle.std.specs.Option.{option_map_or}
use Rattle.std.specs.Str.{bytes_eq}
use Rattle.smithy_serde.specs.Values.{Label, Value, scalar, text, Writes, no_writes, write}

-- a text that is lent
abbrev pub lent : Option (Bor (List ℕ)) → Option (List ℕ)
lent found = option_map (λ text. text.now) found

-- a write to a member of this name
abbrev pub has_name : List ℕ → Label → Bool
has_name name l = option_map_or (λ found. bytes_eq found name) l.member_name false

-- the text that a value is
abbrev pub text_of : Value → Option (List ℕ)
text_of (scalar (text t)) = Some t
text_of _ = None

-- the text of the first write to such a member, where it is one
abbrev pub text_of_named : List ℕ → Writes → Option (List ℕ)
text_of_named name no_writes = None
text_of_named name (write l v ws) = if has_name name l then text_of v else text_of_named name ws
