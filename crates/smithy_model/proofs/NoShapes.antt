-- Where the shapes of a model are no object, no operation is among them.
use Rattle.std.proofs.Common.{◌≡◌, refl, sym, ap, ◌∙◌, ℕ, List, codes, not, ◌&&◌, Bool, true, false, Option, Some, None, option_and_then}
use Rattle.std.specs.Option.{is_some}
use Rattle.serde_json.specs.Data as parsed
use Rattle.serde_json.specs.Data.{Data}
use Rattle.serde_json.specs.Find.{get, as_object}
use Rattle.smithy_schema.specs.Nodes.{Schema}
use Rattle.smithy_model.specs.Json.{provided}
use Rattle.smithy_model.specs.Among.{schema_among}
use Rattle.smithy_model.specs.Models.{Asked, of_operation, schema_in, schema_in_model}
use Rattle.smithy_model.specs.Names.{is_full_name}
use Rattle.smithy_model.specs.Operations.{Operation, operation_in, operation_at}
use Rattle.smithy_model.specs.Shapes.{is_of_prelude}
use Rattle.smithy_model.specs.WrongModels.{is_object, shapes_in}
use Rattle.smithy_model.specs.declared.floats.Floats.TheVariants.{Kept}

no_member : (d : Data) (name : List ℕ) → as_object d ≡ None → get name d ≡ None
no_member parsed.null name e = refl
no_member (parsed.boolean b) name e = refl
no_member (parsed.number n) name e = refl
no_member (parsed.string s) name e = refl
no_member (parsed.array ds) name e = refl
no_member (parsed.object ms) name e = absurd (cc e)

provided_none : (b : Bool) → provided {A = Data} b None ≡ None
provided_none true = refl
provided_none false = refl

no_operation : (d : Data) (name : List ℕ) → as_object d ≡ None → operation_at d name ≡ None
unfolding operation_at
no_operation d name e =
    ap (λ o. option_and_then operation_in (provided (is_full_name name && not (is_of_prelude name)) o)) (no_member d name e)
    ∙ ap (option_and_then operation_in) (provided_none (is_full_name name && not (is_of_prelude name)))

pub nothing_asked : {A : Type 0} (part : Data → Operation → Option A) (model : Data) (name : List ℕ) (d : Data) → Some d ≡ get (codes "shapes") model → as_object d ≡ None → of_operation part model name ≡ None
nothing_asked part model name d is none =
    ap (option_and_then (λ shapes. option_and_then (part shapes) (operation_at shapes name))) (sym is) ∙ ap (option_and_then (part d)) (no_operation d name none)

-- The shapes of a model are those of its object of them.

none_of : {A : Type 0} (o : Option A) → is_some o ≡ false → o ≡ None
none_of None e = refl
none_of (Some x) e = absurd (cc e)

abbrev asked_of : Asked → List ℕ → Data → Option Schema
asked_of asked name shapes = option_and_then (schema_in Kept asked shapes) (operation_at shapes name)

of_object : (asked : Asked) (name : List ℕ) (o : Option Data) → option_and_then (asked_of asked name) (option_and_then (λ d. provided (is_object d) (Some d)) o) ≡ option_and_then (asked_of asked name) o
of_object asked name None = refl
of_object asked name (Some d) = go (is_object d) refl
  where
    go : (b : Bool) → is_object d ≡ b → option_and_then (asked_of asked name) (provided b (Some d)) ≡ asked_of asked name d
    go true e = refl
    go false e = sym (ap (option_and_then (schema_in Kept asked d)) (no_operation d name (none_of (as_object d) e)))

pub by_shapes : (asked : Asked) (model : Data) (name : List ℕ) → option_and_then (λ shapes. schema_among asked shapes name) (shapes_in model) ≡ schema_in_model asked model name
unfolding schema_among schema_in_model
by_shapes asked model name = of_object asked name (get (codes "shapes") model)
