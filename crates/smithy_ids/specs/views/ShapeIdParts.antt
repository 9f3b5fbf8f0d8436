-- The parts that an identifier shows.
use Rattle.std.specs.Prelude.{option_map}
use Rattle.smithy_ids.specs.declared.shape_id.ShapeId.{ShapeId}
use Rattle.smithy_ids.specs.ShapeIds.{Parts}

abbrev pub parts_of : ShapeId → Parts
parts_of id = record {
  full_name = id.full_name.now;
  namespace = id.namespace.now;
  shape_name = id.shape_name.now;
  member_name = option_map (λ t. t.now) id.member_name;
}
