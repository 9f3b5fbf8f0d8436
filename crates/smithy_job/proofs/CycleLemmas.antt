-- Values of JSON values, a step at a time.
use Rattle.std.proofs.Common.{◌≡◌, refl, ℕ, ◌+◌, ◌<◌, ◌≤◌, Bool, true, false, List, length, get_or, drop, Option, Some, None, option_map, option_and_then, Global, Vec, Bor, rules}
use Rattle.std.proofs.lemmas.List.{drop_more}
use Rattle.std.proofs.Math.ListN.{drop_of_length-le}
use Rattle.serde_json.specs.Data as json
use Rattle.serde_json.specs.Data.{Data}
use Rattle.serde_json.specs.View.{number_view}
use Rattle.serde_json.specs.declared.number.Number.{Number}
use Rattle.smithy_schema.specs.Nodes.{Schema, element_of, key_of, value_of}
use Rattle.smithy_serde.specs.Values.{Value, scalar, Writes, no_writes, write, boolean, null, document, list, structure}
use Rattle.smithy_serde.specs.Values as values
use Rattle.smithy_json.specs.FromData.{of_data}
use Rattle.smithy_model.specs.declared.floats.Floats.{Floats}
use Rattle.smithy_json.specs.views.JsonView.{Member, view, items_view, members_view}
use Rattle.smithy_json.specs.declared.value.JsonValue as borrowed
use Rattle.smithy_json.specs.declared.value.JsonValue.{JsonValue, the_lemmas}
use Rattle.smithy_job.specs.Scalars.{number_at, text_at}
use Rattle.smithy_job.specs.Values.{kind_of, is_document_kind, is_structure_kind, label_at, member_at, member_label, value_in, elements_in, entries_in, members_in}

-- the value at a node, by its form

two : {A B C : Type 0} (f : A → B) (g : B → C) (o : Option A) → option_map (λ x. g (f x)) o ≡ option_map g (option_map f o)
two f g None = refl
two f g (Some x) = refl

document_value : (floats : Floats) (here : Option Schema) (d : Data) → is_document_kind (kind_of here) ≡ true → value_in floats here d ≡ option_map (λ x. scalar (document x)) (of_data d)
unfolding value_in elements_in entries_in members_in
document_value floats here json.null e = rw e refl
document_value floats here (json.boolean b) e = rw e refl
document_value floats here (json.number n) e = rw e refl
document_value floats here (json.string s) e = rw e refl
document_value floats here (json.array ds) e = rw e refl
document_value floats here (json.object ms) e = rw e refl

pub at_document : (floats : Floats) (here : Option Schema) (d : Data) → is_document_kind (kind_of here) ≡ true → value_in floats here d ≡ option_map scalar (option_map document (of_data d))
at_document floats here d e = rw (document_value floats here d e) (two document scalar (of_data d))

view-Null : view borrowed.Null ≡ json.null
view-Null = search (rules, the_lemmas)

view-Bool : (b : Bool) → view (borrowed.Bool b) ≡ json.boolean b
view-Bool b = search (rules, the_lemmas)

view-Number : (n : Number) → view (borrowed.Number n) ≡ json.number (number_view n)
view-Number n = search (rules, the_lemmas)

view-String : (s : Bor (List ℕ)) → view (borrowed.String s) ≡ json.string s.now
view-String s = search (rules, the_lemmas)

view-Array : (v : Vec JsonValue Global) → view (borrowed.Array v) ≡ json.array (items_view v.items)
view-Array v = search (rules, the_lemmas)

view-Object : (v : Vec Member Global) → view (borrowed.Object v) ≡ json.object (members_view v.items)
view-Object v = search (rules, the_lemmas)

module _ (floats : Floats) (here : Option Schema) (value : JsonValue) (no_document : is_document_kind (kind_of here) ≡ false) where
  pub at_null : value ≡ borrowed.Null → value_in floats here (view value) ≡ Some (scalar null)
  unfolding value_in elements_in entries_in members_in
  at_null is = rw (is, view-Null, no_document) refl

  pub at_boolean : (b : Bool) → value ≡ borrowed.Bool b → value_in floats here (view value) ≡ Some (scalar (boolean b))
  unfolding value_in elements_in entries_in members_in
  at_boolean b is = rw (is, view-Bool b, no_document) refl

  pub at_number : (n : Number) → value ≡ borrowed.Number n → value_in floats here (view value) ≡ option_map scalar (number_at floats (kind_of here) (number_view n))
  unfolding value_in elements_in entries_in members_in
  at_number n is = rw (is, view-Number n, no_document) refl

  pub at_string : (s : Bor (List ℕ)) → value ≡ borrowed.String s → value_in floats here (view value) ≡ Some (scalar (text_at (kind_of here) (s.now)))
  unfolding value_in elements_in entries_in members_in
  at_string s is = rw (is, view-String s, no_document) refl

  pub at_array : (v : Vec JsonValue Global) → value ≡ borrowed.Array v → value_in floats here (view value) ≡ option_map list (elements_in floats (option_and_then element_of here) (items_view v.items))
  unfolding value_in elements_in entries_in members_in
  at_array v is = rw (is, view-Array v, no_document) refl

  pub at_structure : (m : Vec Member Global) → value ≡ borrowed.Object m → is_structure_kind (kind_of here) ≡ true → value_in floats here (view value) ≡ option_map structure (members_in floats here (members_view m.items))
  unfolding value_in elements_in entries_in members_in
  at_structure m is e = rw (is, view-Object m, no_document, e) refl

  pub at_map : (m : Vec Member Global) → value ≡ borrowed.Object m → is_structure_kind (kind_of here) ≡ false
      → value_in floats here (view value) ≡ option_map values.map (entries_in floats (option_and_then key_of here) (option_and_then value_of here) (members_view m.items))
  unfolding value_in elements_in entries_in members_in
  at_map m is e = rw (is, view-Object m, no_document, e) refl

-- what the rest gives, with the next one in front

pub next_element : (floats : Floats) (element : Option Schema) (vs : List JsonValue) (i : ℕ) (v : JsonValue) → i < length vs → v ≡ get_or vs i v
    → elements_in floats element (items_view (drop i vs)) ≡ option_and_then (λ x. option_map (write (label_at element) x) (elements_in floats element (items_view (drop (i + 1) vs)))) (value_in floats element (view v))
unfolding value_in elements_in entries_in members_in
next_element floats element vs i v l is = rw (drop_more vs i v l, ← is) refl

pub no_element : (floats : Floats) (element : Option Schema) (vs : List JsonValue) (i : ℕ) → length vs ≤ i → elements_in floats element (items_view (drop i vs)) ≡ Some no_writes
unfolding value_in elements_in entries_in members_in
no_element floats element vs i l = rw (drop_of_length-le vs l) refl

pub next_entry : (floats : Floats) (key value : Option Schema) (ms : List Member) (i : ℕ) (m : Member) → i < length ms → m ≡ get_or ms i m
    → entries_in floats key value (members_view (drop i ms))
    ≡ option_and_then (λ x. option_map (λ ws. write (label_at key) (scalar (text_at (kind_of key) m.0.now)) (write (label_at value) x ws)) (entries_in floats key value (members_view (drop (i + 1) ms)))) (value_in floats value (view m.1))
unfolding value_in elements_in entries_in members_in
next_entry floats key value ms i m l is = rw (drop_more ms i m l, ← is) refl

pub no_entry : (floats : Floats) (key value : Option Schema) (ms : List Member) (i : ℕ) → length ms ≤ i → entries_in floats key value (members_view (drop i ms)) ≡ Some no_writes
unfolding value_in elements_in entries_in members_in
no_entry floats key value ms i l = rw (drop_of_length-le ms l) refl

pub next_member : (floats : Floats) (here : Option Schema) (ms : List Member) (i : ℕ) (m : Member) → i < length ms → m ≡ get_or ms i m
    → members_in floats here (members_view (drop i ms))
    ≡ option_and_then (λ x. option_map (write (member_label (member_at here m.0.now) m.0.now) x) (members_in floats here (members_view (drop (i + 1) ms)))) (value_in floats (member_at here m.0.now) (view m.1))
unfolding value_in elements_in entries_in members_in
next_member floats here ms i m l is = rw (drop_more ms i m l, ← is) refl

pub no_member : (floats : Floats) (here : Option Schema) (ms : List Member) (i : ℕ) → length ms ≤ i → members_in floats here (members_view (drop i ms)) ≡ Some no_writes
unfolding value_in elements_in entries_in members_in
no_member floats here ms i l = rw (drop_of_length-le ms l) refl
