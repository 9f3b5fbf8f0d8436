-- Registries of errors, and the entry of a code.
use Rattle.std.proofs.Common.{◌≡◌, refl, ap, sym, subst, ◌∙◌, ℕ, Bool, true, false, List, [], ◌∷◌, map, unwrap_or, Option, Some, None, option_map, nat_cmp, Ordering, Less, Equal, Greater}
use Rattle.std.specs.Cmp.Lexicographic.{slice_cmp}
use Rattle.std.specs.Option.{option_or}
use Rattle.std.specs.Ordering.{match_ordering}
use Rattle.smithy_types.specs.Maps.{with_value}
use Rattle.smithy_schema.specs.Nodes.{Table, Schema, at_place}
use Rattle.smithy_schema.specs.References.{schema_of, index_of}
use Rattle.smithy_schema.specs.declared.parts.SchemaIndex.{SchemaIndex}
use Rattle.smithy_schema.specs.declared.schema_ref.SchemaRef.{SchemaRef}
use Rattle.smithy_registry.specs.ErrorCodes.{sanitized}
use Rattle.smithy_registry.specs.Registries.{Registered, has_shape_name, by_code}
use Rattle.smithy_registry.specs.Shapes.{with_shape}
use Rattle.smithy_serde.specs.StoredValues.{HasNode}
use Rattle.smithy_model.specs.Nodes.{Errors}
use Rattle.smithy_model.specs.PlacedView.{StandAt}
use Rattle.smithy_bind.specs.views.CodedView.{each_value, Registers, AddsError, IsFound}
use Rattle.smithy_bind.specs.Responding.{with_errors, error_of}

-- all are registered but those at the places that are left
pub record Registering {R : Type 0} (table : Table) (all : List Schema) (left : List SchemaIndex) (entries : List (List ℕ × Registered R)) : Type 0 where
  pub schemas : List (List ℕ × Schema)
  pub still : List Schema
  pub places : StandAt table left still
  pub so_far : Registers table schemas entries
  pub same : with_errors still schemas ≡ with_errors all []

module _ {X Y : Type 0} (f : X → Y) where
  value-put : (name : List ℕ) (x : X) (es : List (List ℕ × X)) → each_value f (with_value name x es) ≡ with_value name (f x) (each_value f es)
  value-put name x [] = refl
  value-put name x (e ∷ es) = go (value-put name x es) (slice_cmp nat_cmp name e.0)
    where
      go : each_value f (with_value name x es) ≡ with_value name (f x) (each_value f es) → (o : Ordering)
          → each_value f (match_ordering o ((name, x) ∷ e ∷ es) ((e.0, x) ∷ es) (e ∷ with_value name x es))
          ≡ match_ordering o ((name, f x) ∷ (e.0, f e.1) ∷ each_value f es) ((e.0, f x) ∷ each_value f es) ((e.0, f e.1) ∷ with_value name (f x) (each_value f es))
      go ih Less = refl
      go ih Equal = refl
      go ih Greater = ap (λ r. (e.0, f e.1) ∷ r) ih

  value-coded : (code : List ℕ) (es : List (List ℕ × X)) → by_code code (each_value f es) ≡ option_map f (by_code code es)
  value-coded code [] = refl
  value-coded code (e ∷ es) = go (value-coded code es) (has_shape_name (sanitized code) e.0) refl
    where
      go : by_code code (each_value f es) ≡ option_map f (by_code code es) → (b : Bool) → has_shape_name (sanitized code) e.0 ≡ b
          → by_code code ((e.0, f e.1) ∷ each_value f es) ≡ option_map f (by_code code (e ∷ es))
      go ih true is = rw is refl
      go ih false is = rw is ih

either-mapped : {A B : Type 0} (f : A → B) (a b : Option A) → option_map f (option_or a b) ≡ option_or (option_map f a) (option_map f b)
either-mapped f (Some x) b = refl
either-mapped f None b = refl

module _ {R : Type 0} (table : Table) where
  -- the schema at the place of one more entry
  pub registers-put : (name : List ℕ) (s : Schema) (x : Registered R) (schemas : List (List ℕ × Schema)) (old : List (List ℕ × Registered R))
      → at_place table x.schema ≡ Some s → Registers table schemas old → Registers table (with_value name s schemas) (with_value name x old)
  registers-put name s x schemas old is registers =
      value-put (λ e. at_place table e.schema) name x old
      ∙ ap (λ v. with_value name v (each_value (λ e. at_place table e.schema) old)) is
      ∙ ap (with_value name (Some s)) registers
      ∙ sym (value-put Some name s schemas)

  -- the schema at the place of a code's entry
  pub registers-coded : (code : List ℕ) (schemas : List (List ℕ × Schema)) (entries : List (List ℕ × Registered R)) → Registers table schemas entries
      → option_map (λ e. at_place table e.schema) (by_code code entries) ≡ option_map Some (by_code code schemas)
  registers-coded code schemas entries registers =
      sym (value-coded (λ e. at_place table e.schema) code entries) ∙ ap (by_code code) registers ∙ value-coded Some code schemas

  -- the shape of a schema of the table
  pub error-added : (place : ℕ) (schema : SchemaRef) (reader error_reader : R) (old new : List (List ℕ × Registered R))
      → Some (schema_of schema) ≡ at_place table place → index_of schema ≡ Some place → new ≡ with_shape schema reader (Some error_reader) old → AddsError table place old new
  error-added place schema reader error_reader old new node index is s at schemas registers =
      let same : schema_of schema ≡ s = ap (λ o. unwrap_or o s) (node ∙ at) in
      let x : Registered R = record { schema = unwrap_or (index_of schema) 0; reader = reader; error_reader = Some error_reader } in
      let here : at_place table x.schema ≡ Some s = ap (λ o. at_place table (unwrap_or o 0)) index ∙ at in
      rw is (subst (λ name. Registers table (with_value s.node.full_name s schemas) (with_value name x old)) (sym (ap (λ t. t.node.full_name) same))
      (registers-put s.node.full_name s x schemas old here registers))

  -- the places are registered one by one
  pub registering-begins : (all : List Schema) (places : List SchemaIndex) → StandAt table places all → Registering {R = R} table all places []
  registering-begins all places stand = record { schemas = []; still = all; places = stand; so_far = refl; same = refl }

  pub registering-more : (all : List Schema) (place : SchemaIndex) (left : List SchemaIndex) (old new : List (List ℕ × Registered R))
      → AddsError table place.0 old new → Registering table all (place ∷ left) old → Registering table all left new
  registering-more all place left old new adds r = go r.still r.places r.same
    where
      go : (still : List Schema) → StandAt table (place ∷ left) still → with_errors still r.schemas ≡ with_errors all [] → Registering table all left new
      go [] stand same = absurd (let e : (at_place table place.0 ∷ map (λ p. at_place table p.0) left) ≡ [] = stand in cc)
      go (s ∷ ss) stand same =
          let e : (at_place table place.0 ∷ map (λ p. at_place table p.0) left) ≡ (Some s ∷ map Some ss) = stand in
          let at : at_place table place.0 ≡ Some s = cc in
          let rest : map (λ p. at_place table p.0) left ≡ map Some ss = cc in
          record { schemas = with_value s.node.full_name s r.schemas; still = ss; places = rest; so_far = adds s at r.schemas r.so_far; same = same }

  -- at the next place stands a schema
  pub next-stands : (all : List Schema) (place : SchemaIndex) (left : List SchemaIndex) (entries : List (List ℕ × Registered R)) → Registering table all (place ∷ left) entries → HasNode table place.0
  next-stands all place left entries r = go r.still r.places
    where
      go : (still : List Schema) → StandAt table (place ∷ left) still → HasNode table place.0
      go [] stand = absurd (let e : (at_place table place.0 ∷ map (λ p. at_place table p.0) left) ≡ [] = stand in cc)
      go (s ∷ ss) stand =
          let e : (at_place table place.0 ∷ map (λ p. at_place table p.0) left) ≡ (Some s ∷ map Some ss) = stand in
          let at : at_place table place.0 ≡ Some s = cc in
          rw at refl

  pub registering-ends : (all : List Schema) (entries : List (List ℕ × Registered R)) → Registering table all [] entries → Registers table (with_errors all []) entries
  registering-ends all entries r = go r.still r.places r.same
    where
      go : (still : List Schema) → StandAt table [] still → with_errors still r.schemas ≡ with_errors all [] → Registers table (with_errors all []) entries
      go [] stand same = rw (← same) r.so_far
      go (s ∷ ss) stand same = absurd (let e : [] ≡ (Some s ∷ map Some ss) = stand in cc)

  found-at : (o : Option (Registered R)) (found : Option Schema) (place : Option SchemaIndex)
      → option_map (λ e. at_place table e.schema) o ≡ option_map Some found → option_map (λ p. p.0) place ≡ option_map (λ e. e.schema) o → IsFound table found place
  found-at (Some e) (Some s) (Some p) at same = ap (λ o. at_place table (unwrap_or o p.0)) same ∙ ap (λ o. unwrap_or o None) at
  found-at (Some e) (Some s) None at same = absurd (let d : None ≡ Some e.schema = same in cc)
  found-at (Some e) None place at same = absurd (let d : Some (at_place table e.schema) ≡ None = at in cc)
  found-at None (Some s) place at same = absurd (let d : None ≡ Some (Some s) = at in cc)
  found-at None None (Some p) at same = absurd (let d : Some p.0 ≡ None = same in cc)
  found-at None None None at same = tt

  -- the entry that either registry has for the code
  pub coded-found : (code : List ℕ) (errors : Errors) (operation service : List (List ℕ × Registered R)) (entry : Option (Registered R)) (place : Option SchemaIndex)
      → Registers table (with_errors errors.operation []) operation → Registers table (with_errors errors.service []) service
      → entry ≡ option_or (by_code code operation) (by_code code service) → option_map (λ p. p.0) place ≡ option_map (λ e. e.schema) entry → IsFound table (error_of code errors) place
  unfolding error_of
  coded-found code errors operation service entry place first second is same =
      let f : Registered R → Option Schema = λ e. at_place table e.schema in
      let ours : Option Schema = by_code code (with_errors errors.operation []) in
      let theirs : Option Schema = by_code code (with_errors errors.service []) in
      found-at entry (option_or ours theirs) place
      (ap (option_map f) is ∙ either-mapped f (by_code code operation) (by_code code service)
      ∙ ap (λ o. option_or o (option_map f (by_code code service))) (registers-coded code (with_errors errors.operation []) operation first)
      ∙ ap (option_or (option_map Some ours)) (registers-coded code (with_errors errors.service []) service second)
      ∙ sym (either-mapped Some ours theirs))
      same
