-- How the builders of a list, a map and a structure take one item.
use Rattle.std.proofs.Common.{◌≡◌, ℕ, List, [], Option, Some, None, Result, Ok, Err, inl, inr, refl, ap, subst, ◌∙◌}
use Rattle.std.specs.Prelude.{IfSome, option_map}
use Rattle.smithy_types.specs.Results.{then_give}
use Rattle.smithy_schema.specs.Nodes.{Table, Schema, at_place}
use Rattle.smithy_serde.specs.Values as value
use Rattle.smithy_serde.specs.Values.{Value, Writes, label_of}
use Rattle.smithy_serde.specs.Told.{appended, one_write}
use Rattle.smithy_serde.specs.StoredValues.{label_at, value_in, writes_in}
use Rattle.smithy_serde.specs.declared.value.ShapeValue.{ShapeValue}
use Rattle.smithy_serde.specs.declared.error.SerdeError.{SerdeError}
use Rattle.smithy_serde.specs.declared.error.SerdeError.TheVariants.{OutOfMemory}
use Rattle.smithy_serde.specs.declared.builders.ListBuilder.{ListBuilder}
use Rattle.smithy_serde.specs.declared.builders.MapBuilder.{MapBuilder}
use Rattle.smithy_serde.specs.declared.builders.StructBuilder.{StructBuilder}
use Rattle.smithy_serde.specs.views.ValueBuilding.{add_write, add_entry, list_nodes, map_nodes, struct_table, TakesElement, TakesEntry, TakesMember, ReadsValue}
use Rattle.smithy_serde.specs.Collecting.{Collects}
use Rattle.smithy_serde.specs.views.Handing.{Same, Takes, at_elements, at_entries, at_members}
use Rattle.smithy_serde.specs.Held.{Held}
use Rattle.smithy_serde.specs.Listings.{at_member, at_element, at_key}
use Rattle.smithy_serde.specs.ReadCalls.{AtHand, Gives}
use Rattle.smithy_serde.specs.ValueRead.{write_by, entry_by, IsPlaced, value_read}
use Rattle.smithy_serde.proofs.ReadValue.{at_place_table}

-- one item is taken
add_ok : (t : Table) (i : ℕ) (n : Schema) (r : Result Value SerdeError) (v : ShapeValue) (old new : Writes) → at_place t i ≡ Some n → Gives (value_in t) (Some r) (Ok v)
    → new ≡ appended old (one_write (label_at t i) (value_in t v)) → Collects add_write (then_give r (write_by n)) old new (Ok tt)
add_ok t i n (Ok x) v old new there g e =
    let label : label_at t i ≡ label_of n = rw there refl in
    inl (refl, e ∙ rw (label, g) refl)
add_ok t i n (Err x) v old new there g e = absurd g

add_err : {B V : Type 0} (add : V → B → V) (f : ShapeValue → Value) (w : Value → B) (r : Result Value SerdeError) (e : SerdeError) (old new : V) → Gives f (Some r) (Err e) → Collects add (then_give r w) old new (Err e)
add_err add f w (Ok x) e old new g = inr (ap Err g)
add_err add f w (Err x) e old new (inl g) = inl (ap Err g)
add_err add f w (Err x) e old new (inr g) = inr (ap Err g)

add_memory : {B V : Type 0} (add : V → B → V) (r : Result B SerdeError) (e : SerdeError) (old new : V) → e ≡ OutOfMemory → Collects add r old new (Err e)
add_memory add (Ok x) e old new m = inr (ap Err m)
add_memory add (Err x) e old new m = inr (ap Err m)

pub element_ok : (held : Option Held) (s t : ListBuilder) (v : ShapeValue) → ((n : Schema) → at_place s.table.now s.element.0 ≡ Some n → Gives (value_in s.table.now) (option_map (value_read n) held) (Ok v))
    → writes_in t.table.now t.writes ≡ appended (writes_in s.table.now s.writes) (one_write (label_at s.table.now s.element.0) (value_in s.table.now v)) → list_nodes t ≡ list_nodes s → IfSome held (λ h. TakesElement s h t (Ok tt))
element_ok None s t v g e same = tt
element_ok (Some h) s t v g e same = record { adds = λ n there. add_ok s.table.now s.element.0 n (value_read n h) v _ _ there (g n there) e; same = same }

pub element_err : (held : Option Held) (s t : ListBuilder) (e : SerdeError) → ((n : Schema) → at_place s.table.now s.element.0 ≡ Some n → Gives (value_in s.table.now) (option_map (value_read n) held) (Err e))
    → list_nodes t ≡ list_nodes s → IfSome held (λ h. TakesElement s h t (Err e))
element_err None s t e g same = tt
element_err (Some h) s t e g same = record { adds = λ n there. add_err add_write (value_in s.table.now) (write_by n) (value_read n h) e _ _ (g n there); same = same }

pub element_memory : (held : Option Held) (s t : ListBuilder) (e : SerdeError) → e ≡ OutOfMemory → list_nodes t ≡ list_nodes s → IfSome held (λ h. TakesElement s h t (Err e))
element_memory None s t e m same = tt
element_memory (Some h) s t e m same = record { adds = λ n there. add_memory add_write (then_give (value_read n h) (write_by n)) e _ _ m; same = same }

here_too : (t : Table) (i : ℕ) (m : Schema) → at_place m.table i ≡ Some m → IsPlaced t m → at_place t i ≡ Some m
here_too t i m there p = subst (λ u. at_place u i ≡ Some m) (at_place_table t p.0 m p.1) there

abbrev members_in : StructBuilder → Writes
members_in b = writes_in b.table.now b.writes

member_ok : (held : Option Held) (s t : StructBuilder) (m : Schema) (i : ℕ) (v : ShapeValue) → at_place m.table i ≡ Some m
    → ((n : Schema) → at_place s.table.now i ≡ Some n → Gives (value_in s.table.now) (option_map (value_read n) held) (Ok v))
    → members_in t ≡ appended (members_in s) (one_write (label_at s.table.now i) (value_in s.table.now v)) → t.table.now ≡ s.table.now → IfSome held (λ h. TakesMember s m h t (Ok tt))
member_ok None s t m i v there g e same = tt
member_ok (Some h) s t m i v there g e same = record {
  adds = λ p. let here = here_too s.table.now i m there p in add_ok s.table.now i m (value_read m h) v _ _ here (g m here) e;
  refused = tt;
  same = same;
}

member_err : (held : Option Held) (s : StructBuilder) (m : Schema) (i : ℕ) (e : SerdeError) → at_place m.table i ≡ Some m
    → ((n : Schema) → at_place s.table.now i ≡ Some n → Gives (value_in s.table.now) (option_map (value_read n) held) (Err e)) → IfSome held (λ h. TakesMember s m h s (Err e))
member_err None s m i e there g = tt
member_err (Some h) s m i e there g = record {
  adds = λ p. add_err add_write (value_in s.table.now) (write_by m) (value_read m h) e _ _ (g m (here_too s.table.now i m there p));
  refused = refl;
  same = refl;
}

member_memory : (held : Option Held) (s t : StructBuilder) (m : Schema) (e : SerdeError) → e ≡ OutOfMemory → members_in t ≡ members_in s → t.table.now ≡ s.table.now → IfSome held (λ h. TakesMember s m h t (Err e))
member_memory None s t m e mem kept same = tt
member_memory (Some h) s t m e mem kept same = record { adds = λ p. add_memory add_write (then_give (value_read m h) (write_by m)) e _ _ mem; refused = kept; same = same }

entry_added : (t : Table) (k n : Schema) (i j : ℕ) (key : List ℕ) (r : Result Value SerdeError) (v : ShapeValue) (old new : Writes) → at_place t i ≡ Some k → at_place t j ≡ Some n → Gives (value_in t) (Some r) (Ok v)
    → new ≡ appended (appended old (one_write (label_at t i) (value.scalar (value.text key)))) (one_write (label_at t j) (value_in t v))
    → Collects add_entry (then_give r (entry_by k n key)) old new (Ok tt)
entry_added t k n i j key (Ok x) v old new there there_2 g e =
    let label : label_at t i ≡ label_of k = rw there refl in
    let label_2 : label_at t j ≡ label_of n = rw there_2 refl in
    inl (refl, e ∙ rw (label, label_2, g) refl)
entry_added t k n i j key (Err x) v old new there there_2 g e = absurd g

pub entry_ok : (held : Option Held) (s t : MapBuilder) (key : List ℕ) (v : ShapeValue) → ((n : Schema) → at_place s.table.now s.value.0 ≡ Some n → Gives (value_in s.table.now) (option_map (value_read n) held) (Ok v))
    → writes_in t.table.now t.writes ≡ appended (appended (writes_in s.table.now s.writes) (one_write (label_at s.table.now s.key.0) (value.scalar (value.text key)))) (one_write (label_at s.table.now s.value.0) (value_in s.table.now v))
    → map_nodes t ≡ map_nodes s → IfSome held (λ h. TakesEntry s key h t (Ok tt))
entry_ok None s t key v g e same = tt
entry_ok (Some h) s t key v g e same = record {
  adds = λ k n there there_2. entry_added s.table.now k n s.key.0 s.value.0 key (value_read n h) v _ _ there there_2 (g n there_2) e;
  same = same;
}

pub entry_err : (held : Option Held) (s t : MapBuilder) (key : List ℕ) (e : SerdeError) → ((n : Schema) → at_place s.table.now s.value.0 ≡ Some n → Gives (value_in s.table.now) (option_map (value_read n) held) (Err e))
    → map_nodes t ≡ map_nodes s → IfSome held (λ h. TakesEntry s key h t (Err e))
entry_err None s t key e g same = tt
entry_err (Some h) s t key e g same = record {
  adds = λ k n there there_2. add_err add_entry (value_in s.table.now) (entry_by k n key) (value_read n h) e _ _ (g n there_2);
  same = same;
}

pub entry_memory : (held : Option Held) (s t : MapBuilder) (key : List ℕ) (e : SerdeError) → e ≡ OutOfMemory → map_nodes t ≡ map_nodes s → IfSome held (λ h. TakesEntry s key h t (Err e))
entry_memory None s t key e m same = tt
entry_memory (Some h) s t key e m same = record {
  adds = λ k n there there_2. add_memory add_entry (then_give (value_read n h) (entry_by k n key)) e _ _ m;
  same = same;
}

pub element_taken : (s t : ListBuilder) (v : ShapeValue) (old new : AtHand) → ReadsValue s.table.now s.element.0 old new (Ok v)
    → writes_in t.table.now t.writes ≡ appended (writes_in s.table.now s.writes) (one_write (label_at s.table.now s.element.0) (value_in s.table.now v)) → list_nodes t ≡ list_nodes s → Takes (at_elements TakesElement) (Same list_nodes) at_element s t old new (Ok tt)
element_taken s t v old new r e same = record { taken = element_ok old.held s t v r.gives e same; kept = same; leaves = r.leaves }

pub element_refused : (s t : ListBuilder) (e : SerdeError) (old new : AtHand) → ReadsValue s.table.now s.element.0 old new (Err e) → list_nodes t ≡ list_nodes s → Takes (at_elements TakesElement) (Same list_nodes) at_element s t old new (Err e)
element_refused s t e old new r same = record { taken = element_err old.held s t e r.gives same; kept = same; leaves = r.leaves }

pub element_full : (s t : ListBuilder) (e : SerdeError) (old new : AtHand) → new.opened ≡ old.opened → e ≡ OutOfMemory → list_nodes t ≡ list_nodes s → Takes (at_elements TakesElement) (Same list_nodes) at_element s t old new (Err e)
element_full s t e old new kept m same = record { taken = element_memory old.held s t e m same; kept = same; leaves = ([], kept) }

pub entry_taken : (s t : MapBuilder) (key : List ℕ) (v : ShapeValue) (old new : AtHand) → ReadsValue s.table.now s.value.0 old new (Ok v)
    → writes_in t.table.now t.writes ≡ appended (appended (writes_in s.table.now s.writes) (one_write (label_at s.table.now s.key.0) (value.scalar (value.text key)))) (one_write (label_at s.table.now s.value.0) (value_in s.table.now v)) → map_nodes t ≡ map_nodes s → Takes (at_entries TakesEntry) (Same map_nodes) (at_key key) s t old new (Ok tt)
entry_taken s t key v old new r e same = record { taken = entry_ok old.held s t key v r.gives e same; kept = same; leaves = r.leaves }

pub entry_refused : (s t : MapBuilder) (key : List ℕ) (e : SerdeError) (old new : AtHand) → ReadsValue s.table.now s.value.0 old new (Err e) → map_nodes t ≡ map_nodes s → Takes (at_entries TakesEntry) (Same map_nodes) (at_key key) s t old new (Err e)
entry_refused s t key e old new r same = record { taken = entry_err old.held s t key e r.gives same; kept = same; leaves = r.leaves }

pub entry_full : (s t : MapBuilder) (key : List ℕ) (e : SerdeError) (old new : AtHand) → new.opened ≡ old.opened → e ≡ OutOfMemory → map_nodes t ≡ map_nodes s → Takes (at_entries TakesEntry) (Same map_nodes) (at_key key) s t old new (Err e)
entry_full s t key e old new kept m same = record { taken = entry_memory old.held s t key e m same; kept = same; leaves = ([], kept) }

pub member_taken : (s t : StructBuilder) (m : Schema) (i : ℕ) (v : ShapeValue) (old new : AtHand) → at_place m.table i ≡ Some m → ReadsValue s.table.now i old new (Ok v)
    → members_in t ≡ appended (members_in s) (one_write (label_at s.table.now i) (value_in s.table.now v)) → t.table.now ≡ s.table.now → Takes (at_members TakesMember) (Same struct_table) (at_member m) s t old new (Ok tt)
member_taken s t m i v old new there r e same = record { taken = member_ok old.held s t m i v there r.gives e same; kept = same; leaves = r.leaves }

pub member_refused : (s : StructBuilder) (m : Schema) (i : ℕ) (e : SerdeError) (old new : AtHand) → at_place m.table i ≡ Some m → ReadsValue s.table.now i old new (Err e) → Takes (at_members TakesMember) (Same struct_table) (at_member m) s s old new (Err e)
member_refused s m i e old new there r = record { taken = member_err old.held s m i e there r.gives; kept = refl; leaves = r.leaves }

pub member_full : (s t : StructBuilder) (m : Schema) (e : SerdeError) (old new : AtHand) → new.opened ≡ old.opened → e ≡ OutOfMemory → members_in t ≡ members_in s → t.table.now ≡ s.table.now → Takes (at_members TakesMember) (Same struct_table) (at_member m) s t old new (Err e)
member_full s t m e old new left mem kept same = record { taken = member_memory old.held s t m e mem kept same; kept = same; leaves = ([], left) }

-- a member of another table
unknown_taken : (held : Option Held) (s : StructBuilder) (m : Schema) (e : SerdeError) → (IsPlaced s.table.now m → ⊥) → IfSome held (λ h. TakesMember s m h s (Err e))
unknown_taken None s m e another = tt
unknown_taken (Some h) s m e another = record { adds = λ p. absurd (another p); refused = refl; same = refl }

pub member_unknown : (s : StructBuilder) (m : Schema) (e : SerdeError) (old : AtHand) → (IsPlaced s.table.now m → ⊥) → Takes (at_members TakesMember) (Same struct_table) (at_member m) s s old old (Err e)
member_unknown s m e old another = record { taken = unknown_taken old.held s m e another; kept = refl; leaves = ([], refl) }
