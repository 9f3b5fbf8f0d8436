-- Places in a table as numbers.
use Rattle.std.specs.Prelude.{ℕ, List, map, Option, option_map}
use Rattle.smithy_schema.specs.declared.parts.SchemaIndex.{SchemaIndex}

abbrev pub place_of : Option SchemaIndex → Option ℕ
place_of index = option_map (λ i. i.0) index

abbrev pub places_of : List SchemaIndex → List ℕ
places_of indexes = map (λ i. i.0) indexes
