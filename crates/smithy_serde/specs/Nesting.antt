-- How deep values are nested.
use Rattle.std.specs.Prelude.{ℕ, suc, max}
use Rattle.smithy_types.specs.Documents.{nesting}
use Rattle.smithy_serde.specs.Values.{Scalar, document, Value, scalar, list, map, structure, Writes, no_writes, write}

-- the nesting of a document, and 0 of other scalars
abbrev pub scalar_nesting : Scalar → ℕ
scalar_nesting (document d) = nesting d
scalar_nesting _ = 0

-- the nesting of lists, maps and structures, and of what their documents hold: one more than the greatest of the parts'
abbrev mutual
  pub value_nesting : Value → ℕ
  value_nesting (scalar s) = scalar_nesting s
  value_nesting (list ws) = suc (writes_nesting ws)
  value_nesting (map ws) = suc (writes_nesting ws)
  value_nesting (structure ws) = suc (writes_nesting ws)

  pub writes_nesting : Writes → ℕ
  writes_nesting no_writes = 0
  writes_nesting (write l v ws) = max (value_nesting v) (writes_nesting ws)
