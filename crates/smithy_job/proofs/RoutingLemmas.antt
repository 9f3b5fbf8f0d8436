-- Schemas with `@http`, at their indexes, and operations by their names.
use Rattle.std.proofs.Common.{◌≡◌, refl, sym, ap, ◌∙◌, ℕ, Bool, true, false, List, Option, Some, None, option_map, option_and_then, Result, Ok, Err, IsTrue}
use Rattle.serde_json.specs.Data.{Data}
use Rattle.serde_json.specs.Find.{as_str}
use Rattle.smithy_types.specs.Results.{each}
use Rattle.smithy_schema.specs.Nodes.{Node, Table, Schema, node_at, at_place}
use Rattle.smithy_model.specs.Models as models
use Rattle.smithy_model.specs.Among.{schema_among}
use Rattle.smithy_model.specs.Reads.{Reads}
use Rattle.smithy_model.specs.Json.{provided}
use Rattle.smithy_model.specs.WrongModels.{shapes_in}
use Rattle.smithy_model.specs.views.ModelView.{shapes_view}
use Rattle.smithy_model.specs.views.PlacedView.{IsPlacedAt, Places}
use Rattle.smithy_model.specs.declared.error.JobError.{JobError}
use Rattle.smithy_model.specs.declared.error.JobError.TheVariants.{NoJob, OutOfMemory}
use Rattle.smithy_model.specs.declared.table.ModelTable.{ModelTable}
use Rattle.smithy_model.proofs.NoShapes.{by_shapes}
use Rattle.smithy_job.specs.Routing.{Operation, has_http, with_http, operation_named, operation_in}
use Rattle.smithy_job.specs.views.RoutingView.{operation_among, operation_by, placed_seen, named_among}
use Rattle.smithy_job.specs.views.Tables.{schema_seen}
use Rattle.smithy_job.specs.declared.named_operations.NamedOperations.{NamedOperations}

-- a node with its table
abbrev with_table : Table → Node → Schema
with_table t n = record { table = t; node = n }

-- the schema that stands there
pub there : (t : Table) (i : ℕ) (s : Schema) → Some s ≡ at_place t i → s ≡ schema_seen t i
there t i s e = go (node_at t i) refl e
  where
    go : (o : Option Node) → node_at t i ≡ o → Some s ≡ option_map (with_table t) o → s ≡ schema_seen t i
    go None is h = absurd (cc h)
    go (Some n) is h = let same : s ≡ with_table t n = cc h in rw (same, is) refl

-- whether it has `@http`; where none stands, none has
pub http_there : (t : Table) (i : ℕ) (s : Schema) (b : Bool) → Some s ≡ at_place t i → b ≡ has_http s → b ≡ has_http (schema_seen t i)
http_there t i s b e f = f ∙ ap has_http (there t i s e)

pub none_there : (t : Table) (i : ℕ) → None ≡ at_place t i → false ≡ has_http (schema_seen t i)
none_there t i e = go (node_at t i) refl e
  where
    go : (o : Option Node) → node_at t i ≡ o → None ≡ option_map (with_table t) o → false ≡ has_http (schema_seen t i)
    go None is h = rw is refl
    go (Some n) is h = absurd (cc h)

-- where it has `@http`, it stands there
pub stands : (t : Table) (i : ℕ) → IsTrue (has_http (schema_seen t i)) → at_place t i ≡ Some (schema_seen t i)
stands t i h = go (node_at t i) refl
  where
    go : (o : Option Node) → node_at t i ≡ o → at_place t i ≡ Some (schema_seen t i)
    go None is = absurd (let e : has_http (schema_seen t i) ≡ false = rw is refl in let q : true ≡ false = sym h ∙ e in cc q)
    go (Some n) is = rw is refl

placed_there : (o : Option Schema) (p : ModelTable) → IsPlacedAt o p → o ≡ Some (placed_seen p)
placed_there None p h = absurd h
placed_there (Some s) p h = ap Some (there p.table p.index.0 s (sym h.node ∙ ap (λ t. at_place t p.index.0) (sym h.nodes)))

-- what is placed is read as the schema
pub placed_reads : (o : Option Schema) (r : Result ModelTable JobError) → Places o r → Reads placed_seen o r
placed_reads o (Ok p) h = placed_there o p h
placed_reads o (Err NoJob) h = h
placed_reads o (Err OutOfMemory) h = tt

-- Names in a model, and among its shapes.

and_then_twice : {A B C : Type 0} (f : A → Option B) (g : C → Option A) (o : Option C) → option_and_then (λ x. option_and_then f (g x)) o ≡ option_and_then f (option_and_then g o)
and_then_twice f g None = refl
and_then_twice f g (Some x) = refl

named_by_shapes : (model : Data) (name : List ℕ) → option_and_then (λ ss. operation_among ss name) (shapes_in model) ≡ operation_named model name
named_by_shapes model name =
    and_then_twice (with_http name) (λ ss. schema_among models.input ss name) (shapes_in model) ∙ ap (option_and_then (with_http name)) (by_shapes models.input model name)

same_by_shapes : (model d : Data) → named_among (shapes_in model) d ≡ operation_in model d
unfolding named_among
same_by_shapes model d = λ i. option_and_then (λ name. named_by_shapes model name i) (as_str d)

pub all_by_shapes : (model : Data) (shapes : Option Data) (ds : List Data) → shapes ≡ shapes_in model → each (named_among shapes) ds ≡ each (operation_in model) ds
all_by_shapes model shapes ds e = ap (λ s. each (named_among s) ds) e ∙ (λ i. each (λ d. same_by_shapes model d i) ds)

-- an operation has the name by which it is found

with_http_name : (name : List ℕ) (s : Schema) (o : Operation) → with_http name s ≡ Some o → name ≡ o.name
with_http_name name s o e = go (has_http s) e
  where
    go : (b : Bool) → provided b (Some (record { name = name; schema = s })) ≡ Some o → name ≡ o.name
    go false h = absurd (cc h)
    go true h = let same : record { name = name; schema = s } ≡ o = cc in ap (λ (x : Operation). x.name) same

among_name : (shapes : Option Data) (name : List ℕ) (o : Operation) → option_and_then (λ ss. operation_among ss name) shapes ≡ Some o → name ≡ o.name
among_name None name o e = absurd (cc e)
among_name (Some shapes) name o e = go (schema_among models.input shapes name) e
  where
    go : (s : Option Schema) → option_and_then (with_http name) s ≡ Some o → name ≡ o.name
    go None h = absurd (cc h)
    go (Some s) h = with_http_name name s o h

pub named_so : (named : NamedOperations) (d : Data) (o : Operation) → operation_by named d ≡ Some o → as_str d ≡ Some o.name
unfolding named_among
named_so named d o e = go (as_str d) e
  where
    go : (t : Option (List ℕ)) → option_and_then (λ name. option_and_then (λ ss. operation_among ss name) (option_map shapes_view named.shapes)) t ≡ Some o → t ≡ Some o.name
    go None h = absurd (cc h)
    go (Some name) h = ap Some (among_name (option_map shapes_view named.shapes) name o h)

-- equal texts name one operation
pub by_text : (named : NamedOperations) (d e : Data) → as_str d ≡ as_str e → operation_by named d ≡ operation_by named e
unfolding named_among
by_text named d e same = ap (option_and_then (λ name. option_and_then (λ ss. operation_among ss name) (option_map shapes_view named.shapes))) same
