-- Values without the members that are null: a member of a structure without a value is not there (Smithy, data model, structure).
use Rattle.smithy_serde.specs.Values.{Value, scalar, null, list, map, structure, Writes, no_writes, write}

-- A value without the null members of its structures, at every depth. The items of lists and the entries of maps stay.
abbrev mutual
  pub present : Value → Value
  present (scalar s) = scalar s
  present (list ws) = list (present_parts ws)
  present (map ws) = map (present_parts ws)
  present (structure ws) = structure (present_members ws)

  pub present_parts : Writes → Writes
  present_parts no_writes = no_writes
  present_parts (write l v ws) = write l (present v) (present_parts ws)

  pub present_members : Writes → Writes
  present_members no_writes = no_writes
  present_members (write l (scalar null) ws) = present_members ws
  present_members (write l v ws) = write l (present v) (present_members ws)
