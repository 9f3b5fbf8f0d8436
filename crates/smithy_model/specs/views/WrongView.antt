-- The place that the code's one stands for.
use Rattle.std.specs.Prelude.{◌≡◌, ℕ, List, reverse, Option, option_map, Result, Ok, Err}
use Rattle.std.specs.Borrow.{Bor}
use Rattle.serde_json.specs.Data.{Data}
use Rattle.smithy_json.specs.views.JsonView.{view}
use Rattle.smithy_json.specs.declared.value.JsonValue.{JsonValue}
use Rattle.smithy_model.specs.Reached.{with_targets}
use Rattle.smithy_model.specs.Wrong as is
use Rattle.smithy_model.specs.WrongModels.{members_named, wrong_from, wrong_from_errors}
use Rattle.smithy_model.specs.views.ModelView.{asked_view, operation_view, shapes_view}
use Rattle.smithy_model.specs.views.NameView.{texts}
use Rattle.smithy_model.specs.declared.model_shapes.ModelShapes.{ModelShapes}
use Rattle.smithy_model.specs.declared.shape.Asked.{Asked}
use Rattle.smithy_model.specs.declared.shape.Operation.{Operation}
use Rattle.smithy_model.specs.declared.wrong.Wrong.{Wrong}

abbrev pub wrong_view : Wrong → is.Wrong
wrong_view w = record { path = reverse w.steps.items; asked = w.asked }

-- what is found is what is defined; want of memory is free
abbrev pub Finds : {E : Type 0} → Option is.Wrong → Result (Option Wrong) E → Type 0
Finds defined (Ok found) = option_map wrong_view found ≡ defined
Finds defined (Err e) = Unit {0}

-- a value that may be missing
abbrev pub next_view : Option (Bor JsonValue) → Option Data
next_view next = option_map (λ v. view v.now) next

-- these names, and those of the targets of the shape of this name that are not among them
abbrev pub and_shape : ModelShapes → List (Bor (List ℕ)) → List ℕ → List (List ℕ)
and_shape shapes names name = with_targets (texts names) (members_named (shapes_view shapes) name)

-- the shapes that are reached from what is asked of an operation, or from its errors and these
abbrev pub from_asked : Asked → ModelShapes → Operation → Option is.Wrong
from_asked asked shapes operation = wrong_from (asked_view asked) (shapes_view shapes) (operation_view operation)

abbrev pub from_errors : List (Bor (List ℕ)) → ModelShapes → Operation → Option is.Wrong
from_errors service shapes operation = wrong_from_errors (texts service) (shapes_view shapes) (operation_view operation)
