-- What the code's readings of a model stand for.
use Rattle.std.specs.Prelude.{◌≡◌, ℕ, List, map, Option, option_and_then}
use Rattle.std.specs.Borrow.{Bor}
use Rattle.serde_json.specs.Data.{Data, object}
use Rattle.smithy_json.specs.views.JsonView.{view, members_view}
use Rattle.smithy_json.specs.declared.value.JsonValue.{JsonValue}
use Rattle.smithy_schema.specs.Nodes as nodes
use Rattle.smithy_schema.specs.DescribedTraits.{traits_described}
use Rattle.smithy_schema.specs.declared.traits.Traits as described
use Rattle.smithy_model.specs.Traits.{with_trait}
use Rattle.smithy_model.specs.Further.{Further, further_traits}
use Rattle.smithy_model.specs.Shapes as shapes
use Rattle.smithy_model.specs.Operations as operations
use Rattle.smithy_model.specs.views.NameView.{texts}
use Rattle.smithy_model.specs.declared.model_shapes.ModelShapes.{ModelShapes}
use Rattle.smithy_model.specs.declared.shape.ShapeTraits.{ShapeTraits}
use Rattle.smithy_model.specs.declared.shape.Member.{Member}
use Rattle.smithy_model.specs.declared.shape.Shape.{Shape}
use Rattle.smithy_model.specs.Models as models
use Rattle.smithy_model.specs.declared.shape.Operation.{Operation}
use Rattle.smithy_model.specs.declared.shape.Asked.{Asked}
use Rattle.smithy_model.specs.declared.shape.Asked.TheVariants as asked

-- the object whose members are the shapes
abbrev pub shapes_view : ModelShapes → Data
shapes_view s = object (members_view s.members.now)

-- the further traits of an object, where there is one
abbrev pub further_given : Option (Bor JsonValue) → Option Further
further_given given = option_and_then (λ v. further_traits (view v.now)) given

abbrev pub traits_view : ShapeTraits → nodes.Traits
traits_view t = record (traits_described t.plain) { others = further_given t.given }

-- the trait of this name is added to those that are described
abbrev pub AddsTrait : List ℕ → JsonValue → described.Traits → described.Traits → Type 0
AddsTrait id value before after = traits_described after ≡ with_trait (traits_described before) id (view value)

abbrev pub member_view : Member → shapes.Member
member_view m = record { name = m.name.now; target = m.target.now; traits = traits_view m.traits }

abbrev pub shape_view : Shape → shapes.Shape
shape_view s = record { name = s.name.now; kind = s.kind; traits = traits_view s.traits; members = map member_view s.members.items }

abbrev pub operation_view : Operation → operations.Operation
operation_view o = record { http = o.http; input = o.input.now; output = o.output.now; errors = texts o.errors.items }

abbrev pub asked_view : Asked → models.Asked
asked_view asked.Input = models.input
asked_view asked.Output = models.output
asked_view (asked.Error name) = models.error name.now
