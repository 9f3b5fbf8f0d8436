-- What is read by a node, by the plan of its kind.
use Rattle.std.proofs.Common.{◌≡◌, ℕ, Bool, true, false, List, [], ◌∷◌, Option, Some, None, Result, Ok, Err, inr, refl, ap, sym, subst, ◌∙◌}
use Rattle.std.specs.Prelude.{IfSome, IfOk, IsSome, option_map, option_and_then, unwrap_or, slice_get, flat_map, ◌++◌, not, ◌&&◌}
use Rattle.std.specs.Option.{option_map_or}
use Rattle.smithy_types.specs.Documents as doc
use Rattle.smithy_types.specs.Documents.{Document, list_of_members}
use Rattle.smithy_types.specs.Results.{then_try, then_give}
use Rattle.smithy_ids.specs.Kinds.{same_kind}
use Rattle.smithy_ids.specs.declared.shape_type.ShapeType.{ShapeType}
use Rattle.smithy_ids.specs.declared.shape_type.ShapeType.TheVariants as kind
use Rattle.smithy_schema.specs.Nodes.{Table, Schema, at_place, node_at, shape, cited, element_of, key_of, value_of, member_at, member_named, position_of_name}
use Rattle.smithy_schema.specs.declared.parts.SchemaIndex.{SchemaIndex}
use Rattle.smithy_serde.specs.Values as value
use Rattle.smithy_serde.specs.Values.{Scalar, Value, Write, Writes, no_writes, write, writes_of, list_of}
use Rattle.smithy_serde.specs.Told.{appended, one_write}
use Rattle.smithy_serde.specs.IndexOrder.{in_order, in_index_order}
use Rattle.smithy_serde.specs.StoredValues.{HasNode, value_in, writes_in, IsDefined, AreDefined}
use Rattle.smithy_serde.specs.StructValues.{members_of}
use Rattle.smithy_serde.specs.declared.value.ShapeValue.TheVariants as stored
use Rattle.smithy_serde.specs.declared.value.WriteList.{WriteList}
use Rattle.smithy_serde.specs.declared.value.ShapeValue.{ShapeValue}
use Rattle.smithy_serde.specs.declared.error.SerdeError.{SerdeError}
use Rattle.smithy_serde.specs.declared.error.SerdeError.TheVariants.{OutOfMemory}
use Rattle.smithy_serde.specs.declared.struct_value.StructValue.{StructValue}
use Rattle.smithy_serde.specs.declared.scalar.Group.TheVariants as group
use Rattle.smithy_serde.specs.declared.read_scalar.ScalarKind.{ScalarKind}
use Rattle.smithy_serde.specs.declared.read_scalar.ReadScalar.{ReadScalar}
use Rattle.smithy_serde.specs.declared.builders.ListBuilder.{ListBuilder}
use Rattle.smithy_serde.specs.declared.builders.MapBuilder.{MapBuilder}
use Rattle.smithy_serde.specs.declared.builders.StructBuilder.{StructBuilder}
use Rattle.smithy_serde.specs.declared.builders.ValueReader.{ValueReader}
use Rattle.smithy_serde.specs.declared.read_plan.Plan.TheVariants as plan
use Rattle.smithy_serde.specs.views.ValueBuilding.{add_write, add_entry, BuildsList, BuildsMap, BuildsStructure, TakesElement, TakesEntry, TakesMember, IsPlan, ReadsSo, ReadsValue, list_nodes, map_nodes}
use Rattle.smithy_serde.specs.Collecting.{Built, all_added}
use Rattle.smithy_serde.specs.views.Handing.{IsAbove, HandsOut, AllHanded, settled_in, at_elements, at_entries, at_members}
use Rattle.smithy_serde.specs.Held as held
use Rattle.smithy_serde.specs.Held.{Held, Answer, is_null_held}
use Rattle.smithy_serde.specs.HeldReads.{elements, entries, fields, known}
use Rattle.smithy_serde.specs.Listings.{Slot, at_member, at_element, at_key, Listing, contents}
use Rattle.smithy_serde.specs.MembersRead.{structure_in, ReadsStruct}
use Rattle.smithy_serde.specs.ReadCalls.{AtHand, Reads, Gives, read_at, scalar_of_read}
use Rattle.smithy_serde.specs.ReadsBy.{ReadsBy}
use Rattle.smithy_serde.specs.ValueRead.{all_read, write_by, entry_by, IsPlaced, joined, value_by_kind, value_read, list_by, map_by, value_of_list, value_of_map, value_of_structure}
use Rattle.smithy_serde.specs.ValueReading.{structure_of, gives_structure}
use Rattle.smithy_serde.proofs.ReadCollect.{handed_built, handed_built_of, given_ok, given_err}
use Rattle.smithy_serde.proofs.ReadLevels.{value_once, Each}
use Rattle.smithy_serde.proofs.StoredLemmas.{group_value, group_defined}
use Rattle.smithy_serde.proofs.WritesLemmas.{appended-no_writes, appended_assoc}

-- want of memory may come anywhere
pub gives_memory : {A V : Type 0} (f : A → V) (o : Option (Result V SerdeError)) (e : SerdeError) → e ≡ OutOfMemory → Gives f o (Err e)
gives_memory f None e m = tt
gives_memory f (Some (Ok v)) e m = m
gives_memory f (Some (Err x)) e m = inr m

-- the node at a place is one
pub at_the_place : (P : Schema → Type 0) (t : Table) (place : ℕ) (m : Schema) → Some m ≡ at_place t place → P m → (n : Schema) → at_place t place ≡ Some n → P n
at_the_place P t place m there p n is = let same : m ≡ n = (let both : Some m ≡ Some n = there ∙ is in cc) in subst P same p

pub at_place_table : (t : Table) (place : ℕ) (n : Schema) → at_place t place ≡ Some n → n.table ≡ t
at_place_table t place n is = placed (node_at t place) is
  where
    placed : (o : Option _) → option_map (λ m. record { table = t; node = m }) o ≡ Some n → n.table ≡ t
    placed None bad = cc
    placed (Some m) e = (let same : record { table = t; node = m } ≡ n = cc in sym (ap (λ (s : Schema). s.table) same))

-- what is known where a node is read
pub record AtNode (n : Schema) (held : Option Held) (k : ShapeType) (null reads : Bool) : Type 0 where
  pub same : k ≡ n.node.kind
  pub told : IfSome held (λ h. null ≡ is_null_held h)
  pub is : reads ≡ (null && not (same_kind k kind.Document))

pub at_node : {n : Schema} {held : Option Held} {k : ShapeType} {null reads : Bool} → k ≡ n.node.kind → IfSome held (λ h. null ≡ is_null_held h) → reads ≡ (null && not (same_kind k kind.Document)) → AtNode n held k null reads
at_node same told is = record { same = same; told = told; is = is }

planned : (n : Schema) (h : Held) (k : ShapeType) (null reads : Bool) → AtNode n (Some h) k null reads → reads ≡ false → value_read n h ≡ value_by_kind value_read k n h
planned n h k null reads a other =
    let test : (null && not (same_kind k kind.Document)) ≡ false = sym a.is ∙ other in
    let here : (is_null_held h && not (same_kind n.node.kind kind.Document)) ≡ false = rw (a.told, a.same) at test in
    value_once n h ∙ rw here (ap (λ q. value_by_kind value_read q n h) (sym a.same))

pub gives_null : {A : Type 0} (f : A → Value) (n : Schema) (held : Option Held) (k : ShapeType) (null reads : Bool) (v : A) → AtNode n held k null reads → reads ≡ true → f v ≡ value.scalar value.null
    → Gives f (option_map (value_read n) held) (Ok v)
gives_null f n None k null reads v a so e = tt
gives_null f n (Some h) k null reads v a so e =
    let test : (null && not (same_kind k kind.Document)) ≡ true = sym a.is ∙ so in
    let here : (is_null_held h && not (same_kind n.node.kind kind.Document)) ≡ true = rw (a.told, a.same) at test in
    let read : value_read n h ≡ Ok (value.scalar value.null) = value_once n h ∙ rw here refl in
    rw read e

-- a scalar, as a value
abbrev one_value : Result Scalar SerdeError → Result Value SerdeError
one_value r = then_give r value.scalar

scalar_is : (n : Schema) (held : Option Held) (k : ShapeType) (null reads : Bool) (s : ScalarKind) → AtNode n held k null reads → reads ≡ false → IsPlan k n (plan.Scalar s)
    → option_map (value_read n) held ≡ option_map one_value (read_at s n held)
scalar_is n None k null reads s a other p = refl
scalar_is n (Some h) k null reads s a other p = ap Some (planned n h k null reads a other ∙ p h)

value_given : {A B : Type 0} (f : A → Value) (g : B → Scalar) (o : Option (Result Scalar SerdeError)) (a : A) (b : B) → f a ≡ value.scalar (g b) → Gives g o (Ok b) → Gives f (option_map one_value o) (Ok a)
value_given f g None a b e h = tt
value_given f g (Some (Ok x)) a b e h = e ∙ ap value.scalar h
value_given f g (Some (Err x)) a b e h = h

refusal_given : {A B : Type 0} (f : A → Value) (g : B → Scalar) (o : Option (Result Scalar SerdeError)) (e : SerdeError) → Gives {A = B} g o (Err e) → Gives {A = A} f (option_map one_value o) (Err e)
refusal_given f g None e h = tt
refusal_given f g (Some (Ok x)) e h = h
refusal_given f g (Some (Err x)) e h = h

-- a container was read, and what was built of it
pub record IsRead {B : Type 0} (add : Writes → B → Writes) (total : List B → Value) (read : Result Value SerdeError) (new : Writes) (answer : Answer) : Type 0 where
  pub all : Result (List B) SerdeError
  pub is : read ≡ then_give all total
  pub built : Built add all no_writes new answer

is_read : {B : Type 0} (add : Writes → B → Writes) (total : List B → Value) (all : Result (List B) SerdeError) (old new : Writes) (answer : Answer) → old ≡ no_writes → Built add all old new answer
    → IsRead add total (then_give all total) new answer
is_read add total all old new answer none built = record { all = all; is = refl; built = subst (λ ws. Built add all ws new answer) none built }

pub read_ok : {A B : Type 0} (f : A → Value) (add : Writes → B → Writes) (total : List B → Value) (read : Held → Result Value SerdeError) (held : Option Held) (new : Writes) (v : A)
    → IfSome held (λ h. IsRead add total (read h) new (Ok tt)) → ((bs : List B) → new ≡ all_added add no_writes bs → f v ≡ total bs) → Gives f (option_map read held) (Ok v)
read_ok f add total read None new v r is = tt
read_ok f add total read (Some h) new v r is = rw r.is (given_ok f add total no_writes r.all new v r.built is)

pub read_err : {A B : Type 0} (f : A → Value) (add : Writes → B → Writes) (total : List B → Value) (read : Held → Result Value SerdeError) (held : Option Held) (new : Writes) (e : SerdeError)
    → IfSome held (λ h. IsRead add total (read h) new (Err e)) → Gives f (option_map read held) (Err e)
read_err f add total read None new e r = tt
read_err f add total read (Some h) new e r = rw r.is (given_err f add total no_writes r.all new e r.built)

-- what was handed out, where the value at hand is told
handed_of : {S : Type 0} (takes : S → Slot → Held → S → Answer → Type 0) (g : _) (n : Schema) (h : Held) (listing : Option Listing) (s t : S) (answer : Answer) → listing ≡ Some (contents g n h)
    → AllHanded takes g listing s t answer → HandsOut takes (settled_in g (contents g n h)) (contents g n h).ends (contents g n h).items s t answer
handed_of takes g n h listing s t answer told handed =
    subst (λ o. IfSome o (λ (xs : Listing). HandsOut takes (settled_in g xs) xs.ends xs.items s t answer)) told handed

abbrev pub list_total : List Write → Value
list_total ws = value.list (writes_of ws)

abbrev pub map_total : List (Write × Write) → Value
map_total es = value.map (writes_of (joined es))

abbrev pub structure_total : List Write → Value
structure_total ws = value.structure (writes_of (in_order ws))

list_read : (held : Option Held) (n m : Schema) (place : ℕ) (s t : ListBuilder) (old new : AtHand) (answer : Answer) → old.held ≡ held → at_place s.table.now place ≡ Some m
    → s.element.0 ≡ place → writes_in s.table.now s.writes ≡ no_writes → BuildsList n s t old new answer
    → IfSome held (λ h. IsRead add_write list_total (value_of_list value_read n m h) (writes_in t.table.now t.writes) answer)
list_read None n m place s t old new answer is there at none all = tt
list_read (Some h) n m place s t old new answer is there at none all =
    is_read add_write list_total (then_try (elements n h) (all_read (λ x. then_give (value_read m x) (write_by m)))) (writes_in s.table.now s.writes) (writes_in t.table.now t.writes) answer none
    (handed_built (at_elements TakesElement) (λ (b : ListBuilder). list_nodes b ≡ (s.table.now, place)) (λ (b : ListBuilder). writes_in b.table.now b.writes) add_write (λ x. (at_element, x)) (λ x. then_give (value_read m x) (write_by m))
    (λ b x c y same took. (took.same ∙ same, took.adds m (subst (λ (q : Table × ℕ). at_place q.0 q.1 ≡ Some m) (sym same) there)))
    group.List (elements n h) s t answer (ap (λ i. (s.table.now, i)) at) (handed_of (at_elements TakesElement) group.List n h (old.listing group.List n) s t answer (old.told group.List n h is) all.handed))

map_read : (held : Option Held) (n k m : Schema) (key place : ℕ) (s t : MapBuilder) (old new : AtHand) (answer : Answer) → old.held ≡ held → at_place s.table.now key ≡ Some k → at_place s.table.now place ≡ Some m
    → s.key.0 ≡ key → s.value.0 ≡ place → writes_in s.table.now s.writes ≡ no_writes → BuildsMap n s t old new answer
    → IfSome held (λ h. IsRead add_entry map_total (value_of_map value_read n k m h) (writes_in t.table.now t.writes) answer)
map_read None n k m key place s t old new answer is there there_2 at at_2 none all = tt
map_read (Some h) n k m key place s t old new answer is there there_2 at at_2 none all =
    is_read add_entry map_total (then_try (entries n h) (all_read (λ x. then_give (value_read m x.1) (entry_by k m x.0)))) (writes_in s.table.now s.writes) (writes_in t.table.now t.writes) answer none
    (handed_built (at_entries TakesEntry) (λ (b : MapBuilder). map_nodes b ≡ (s.table.now, key, place)) (λ (b : MapBuilder). writes_in b.table.now b.writes) add_entry (λ (x : List ℕ × Held). (at_key x.0, x.1)) (λ x. then_give (value_read m x.1) (entry_by k m x.0))
    (λ b x c y same took. (took.same ∙ same, took.adds k m (subst (λ (q : Table × ℕ × ℕ). at_place q.0 q.1 ≡ Some k) (sym same) there) (subst (λ (q : Table × ℕ × ℕ). at_place q.0 q.2 ≡ Some m) (sym same) there_2)))
    group.Map (entries n h) s t answer (ap (λ i. (s.table.now, i, s.value.0)) at ∙ ap (λ i. (s.table.now, key, i)) at_2) (handed_of (at_entries TakesEntry) group.Map n h (old.listing group.Map n) s t answer (old.told group.Map n h is) all.handed))

-- the shape of a node stands in its table
cited_table : (n : Schema) (place : Option ℕ) (m : Schema) → cited n place ≡ Some m → m.table ≡ n.table
cited_table n None m bad = cc
cited_table n (Some i) m is = at_place_table n.table i m is

shape_table : (n : Schema) → (shape n).table ≡ n.table
shape_table n = found (cited n n.node.target) refl
  where
    found : (o : Option Schema) → cited n n.node.target ≡ o → (unwrap_or o n).table ≡ n.table
    found None e = refl
    found (Some m) e = cited_table n n.node.target m e

-- each member that is handed out stands at a place of the table
placed_at : (n : Schema) (position : Option ℕ) (m : Schema) → cited n position ≡ Some m → IsPlaced n.table m
placed_at n None m bad = cc
placed_at n (Some i) m is = (i, is)

member_placed : (n : Schema) (o : Option ℕ) (m : Schema) → option_and_then (member_at n) o ≡ Some m → IsPlaced n.table m
member_placed n None m bad = cc
member_placed n (Some i) m is = placed_at n (slice_get n.node.members i) m is

one_placed : (n : Schema) (d : List ℕ × Document) (rest : List (Schema × Held)) → Each (λ (x : Schema × Held). IsPlaced n.table x.0) rest → (o : Option Schema) → member_named n d.0 ≡ o
    → Each (λ (x : Schema × Held). IsPlaced n.table x.0) (option_map_or (λ m. (m, held.document d.1) ∷ []) o [] ++ rest)
one_placed n d rest all None e = all
one_placed n d rest all (Some m) e = (member_placed n (position_of_name n d.0) m e, all)

all_placed : (n : Schema) (ds : List (List ℕ × Document)) → Each (λ (x : Schema × Held). IsPlaced n.table x.0) (flat_map (known n) ds)
all_placed n [] = tt
all_placed n (d ∷ ds) = one_placed n d (flat_map (known n) ds) (all_placed n ds) (member_named n d.0) refl

fields_placed : (n : Schema) (h : Held) → IfOk (fields n h) (Each (λ (x : Schema × Held). IsPlaced n.table x.0))
unfolding fields
fields_placed n (held.document (doc.object ms)) = all_placed n (list_of_members ms)
fields_placed n _ = tt

-- what is built of members that all stand in the table
members_built : (n : Schema) (h : Held) (s t : StructBuilder) (answer : Answer) → s.table.now ≡ n.table
    → HandsOut (at_members TakesMember) (settled_in group.Structure (contents group.Structure n h)) (contents group.Structure n h).ends (contents group.Structure n h).items s t answer
    → Built add_write (then_try (fields n h) (all_read (λ x. then_give (value_read x.0 x.1) (write_by x.0)))) (writes_in s.table.now s.writes) (writes_in t.table.now t.writes) answer
members_built n h s t answer table handed =
    handed_built_of (at_members TakesMember) (λ (b : StructBuilder). b.table.now ≡ n.table) (λ (x : Schema × Held). IsPlaced n.table x.0) (λ (b : StructBuilder). writes_in b.table.now b.writes) add_write
    (λ (x : Schema × Held). (at_member x.0, x.1)) (λ x. then_give (value_read x.0 x.1) (write_by x.0))
    (λ b x c y placed same took. (took.same ∙ same, took.adds (subst (λ u. IsPlaced u x.0) (sym same) placed)))
    group.Structure (fields n h) s t answer (fields_placed n h) table handed

structure_read : (held : Option Held) (n : Schema) (s t : StructBuilder) (old new : AtHand) (answer : Answer) → old.held ≡ held → s.table.now ≡ n.table → writes_in s.table.now s.writes ≡ no_writes
    → BuildsStructure n s t old new answer → IfSome held (λ h. IsRead add_write structure_total (value_of_structure value_read n h) (writes_in t.table.now t.writes) answer)
structure_read None n s t old new answer is table none all = tt
structure_read (Some h) n s t old new answer is table none all =
    is_read add_write structure_total (then_try (fields n h) (all_read (λ x. then_give (value_read x.0 x.1) (write_by x.0)))) (writes_in s.table.now s.writes) (writes_in t.table.now t.writes) answer none
    (members_built n h s t answer table (handed_of (at_members TakesMember) group.Structure n h (old.listing group.Structure n) s t answer (old.told group.Structure n h is) all.handed))

-- all writes that were added
added_writes : (v : Writes) (ws : List Write) → all_added add_write v ws ≡ appended v (writes_of ws)
added_writes v [] = sym (appended-no_writes v)
added_writes v (w ∷ ws) = added_writes (add_write v w) ws ∙ appended_assoc v (one_write w.label w.value) (writes_of ws)

added_entries : (v : Writes) (es : List (Write × Write)) → all_added add_entry v es ≡ appended v (writes_of (joined es))
added_entries v [] = sym (appended-no_writes v)
added_entries v (e ∷ es) =
    added_entries (add_entry v e) es ∙ appended_assoc (add_write v e.0) (one_write e.1.label e.1.value) (writes_of (joined es))
    ∙ appended_assoc v (one_write e.0.label e.0.value) (write e.1.label e.1.value (writes_of (joined es)))

list_of_writes : (ws : List Write) → list_of (writes_of ws) ≡ ws
list_of_writes [] = refl
list_of_writes (w ∷ ws) = ap (λ l. w ∷ l) (list_of_writes ws)

pub is_list : (new now : Writes) (v : Value) → v ≡ value.list now → now ≡ new → (bs : List Write) → new ≡ all_added add_write no_writes bs → v ≡ list_total bs
is_list new now v is same bs e = is ∙ ap value.list (same ∙ e ∙ added_writes no_writes bs)

pub is_map : (new now : Writes) (v : Value) → v ≡ value.map now → now ≡ new → (bs : List (Write × Write)) → new ≡ all_added add_entry no_writes bs → v ≡ map_total bs
is_map new now v is same bs e = is ∙ ap value.map (same ∙ e ∙ added_entries no_writes bs)

pub is_structure : (new now sorted : Writes) (v : Value) → v ≡ value.structure sorted → sorted ≡ in_index_order now → now ≡ new → (bs : List Write) → new ≡ all_added add_write no_writes bs → v ≡ structure_total bs
is_structure new now sorted v is order same bs e =
    is ∙ ap value.structure (order ∙ ap (λ ws. writes_of (in_order ws)) (ap list_of (same ∙ e ∙ added_writes no_writes bs) ∙ list_of_writes bs))

-- the exits of `read_value`
null_is : (t : Table) → value_in t stored.Null ≡ value.scalar value.null
unfolding value_in
null_is t = refl

null_defined : (t : Table) → IsDefined t stored.Null
unfolding IsDefined
null_defined t = tt

pub value_null : (t : Table) (place : ℕ) (n : Schema) (k : ShapeType) (null reads : Bool) (old : AtHand) → Some n ≡ at_place t place → AtNode n old.held k null reads → reads ≡ true → ReadsValue t place old old (Ok stored.Null)
value_null t place n k null reads old there a so = record {
  gives = at_the_place (λ m. Gives (value_in t) (option_map (value_read m) old.held) (Ok stored.Null)) t place n there (gives_null (value_in t) n old.held k null reads stored.Null a so (null_is t));
  defined = null_defined t;
  leaves = refl;
}

pub value_memory : (t : Table) (place : ℕ) (old new : AtHand) (e : SerdeError) → e ≡ OutOfMemory → IsAbove old new → ReadsValue t place old new (Err e)
value_memory t place old new e m above = record { gives = λ n is. gives_memory (value_in t) (option_map (value_read n) old.held) e m; defined = tt; leaves = above }

pub value_scalar : (t : Table) (place : ℕ) (n : Schema) (k : ShapeType) (null reads : Bool) (s : ScalarKind) (r : ReadScalar) (v : ShapeValue) (old new : AtHand) → Some n ≡ at_place t place → AtNode n old.held k null reads → reads ≡ false → IsPlan k n (plan.Scalar s)
    → Reads scalar_of_read s n old new (Ok r) → value_in t v ≡ value.scalar (scalar_of_read r) → IsDefined t v → ReadsValue t place old new (Ok v)
value_scalar t place n k null reads s r v old new there a other p reads_it is defined = record {
  gives = at_the_place (λ m. Gives (value_in t) (option_map (value_read m) old.held) (Ok v)) t place n there
      (subst (λ o. Gives (value_in t) o (Ok v)) (sym (scalar_is n old.held k null reads s a other p)) (value_given (value_in t) scalar_of_read (read_at s n old.held) v r is reads_it.gives));
  defined = defined;
  leaves = reads_it.opened;
}

pub value_scalar_err : (t : Table) (place : ℕ) (n : Schema) (k : ShapeType) (null reads : Bool) (s : ScalarKind) (e : SerdeError) (old new : AtHand) → Some n ≡ at_place t place → AtNode n old.held k null reads → reads ≡ false → IsPlan k n (plan.Scalar s)
    → Reads {A = ReadScalar} scalar_of_read s n old new (Err e) → ReadsValue t place old new (Err e)
value_scalar_err t place n k null reads s e old new there a other p reads_it = record {
  gives = at_the_place (λ m. Gives (value_in t) (option_map (value_read m) old.held) (Err e)) t place n there
      (subst (λ o. Gives (value_in t) o (Err e)) (sym (scalar_is n old.held k null reads s a other p)) (refusal_given (value_in t) scalar_of_read (read_at s n old.held) e reads_it.gives));
  defined = tt;
  leaves = ([], reads_it.opened);
}

-- what is read by a plan is read by the node
planned_gives : (f : ShapeValue → Value) (n : Schema) (held : Option Held) (k : ShapeType) (null reads : Bool) (read : Held → Result Value SerdeError) (result : Result ShapeValue SerdeError) → AtNode n held k null reads → reads ≡ false
    → ((h : Held) → value_by_kind value_read k n h ≡ read h) → Gives f (option_map read held) result → Gives f (option_map (value_read n) held) result
planned_gives f n None k null reads read result a other is g = g
planned_gives f n (Some h) k null reads read result a other is g = subst (λ r. Gives f (Some r) result) (sym (planned n h k null reads a other ∙ is h)) g

pub value_planned : (t : Table) (place : ℕ) (n : Schema) (k : ShapeType) (null reads : Bool) (read : Held → Result Value SerdeError) (old new : AtHand) (result : Result ShapeValue SerdeError) → Some n ≡ at_place t place → AtNode n old.held k null reads → reads ≡ false
    → ((h : Held) → value_by_kind value_read k n h ≡ read h) → ReadsSo t read old new result → ReadsValue t place old new result
value_planned t place n k null reads read old new result there a other is so = record {
  gives = at_the_place (λ m. Gives (value_in t) (option_map (value_read m) old.held) result) t place n there (planned_gives (value_in t) n old.held k null reads read result a other is so.gives);
  defined = so.defined;
  leaves = so.leaves;
}

pub list_value : (n m : Schema) (b c : ListBuilder) (old new : AtHand) → BuildsList n b c old new (Ok tt) → at_place b.table.now b.element.0 ≡ Some m → writes_in b.table.now b.writes ≡ no_writes → AreDefined b.table.now c.writes
    → ReadsSo b.table.now (value_of_list value_read n m) old new (Ok (stored.List c.writes))
list_value n m b c old new all there none defined = record {
  gives = read_ok (value_in b.table.now) add_write list_total (value_of_list value_read n m) old.held (writes_in c.table.now c.writes) (stored.List c.writes)
      (list_read old.held n m b.element.0 b c old new (Ok tt) refl there refl none all)
      (is_list _ (writes_in b.table.now c.writes) _ (group_value b.table.now group.List c.writes) (ap (λ u. writes_in u c.writes) (sym (ap (λ p. p.0) all.kept))));
  defined = group_defined b.table.now group.List c.writes defined;
  leaves = all.leaves.opened;
}

pub list_value_err : (n m : Schema) (b c : ListBuilder) (e : SerdeError) (old new : AtHand) → BuildsList n b c old new (Err e) → at_place b.table.now b.element.0 ≡ Some m → writes_in b.table.now b.writes ≡ no_writes
    → ReadsSo b.table.now (value_of_list value_read n m) old new (Err e)
list_value_err n m b c e old new all there none = record {
  gives = read_err (value_in b.table.now) add_write list_total (value_of_list value_read n m) old.held (writes_in c.table.now c.writes) e (list_read old.held n m b.element.0 b c old new (Err e) refl there refl none all);
  defined = tt;
  leaves = all.leaves;
}

pub map_value : (n k m : Schema) (b c : MapBuilder) (old new : AtHand) → BuildsMap n b c old new (Ok tt) → at_place b.table.now b.key.0 ≡ Some k → at_place b.table.now b.value.0 ≡ Some m → writes_in b.table.now b.writes ≡ no_writes → AreDefined b.table.now c.writes
    → ReadsSo b.table.now (value_of_map value_read n k m) old new (Ok (stored.Map c.writes))
map_value n k m b c old new all there there_2 none defined = record {
  gives = read_ok (value_in b.table.now) add_entry map_total (value_of_map value_read n k m) old.held (writes_in c.table.now c.writes) (stored.Map c.writes)
      (map_read old.held n k m b.key.0 b.value.0 b c old new (Ok tt) refl there there_2 refl refl none all)
      (is_map _ (writes_in b.table.now c.writes) _ (group_value b.table.now group.Map c.writes) (ap (λ u. writes_in u c.writes) (sym (ap (λ p. p.0) all.kept))));
  defined = group_defined b.table.now group.Map c.writes defined;
  leaves = all.leaves.opened;
}

pub map_value_err : (n k m : Schema) (b c : MapBuilder) (e : SerdeError) (old new : AtHand) → BuildsMap n b c old new (Err e) → at_place b.table.now b.key.0 ≡ Some k → at_place b.table.now b.value.0 ≡ Some m → writes_in b.table.now b.writes ≡ no_writes
    → ReadsSo b.table.now (value_of_map value_read n k m) old new (Err e)
map_value_err n k m b c e old new all there there_2 none = record {
  gives = read_err (value_in b.table.now) add_entry map_total (value_of_map value_read n k m) old.held (writes_in c.table.now c.writes) e (map_read old.held n k m b.key.0 b.value.0 b c old new (Err e) refl there there_2 refl refl none all);
  defined = tt;
  leaves = all.leaves;
}

pub structure_ok : (n : Schema) (b c : StructBuilder) (sorted : WriteList) (old new : AtHand) → BuildsStructure n b c old new (Ok tt) → b.table.now ≡ n.table → writes_in b.table.now b.writes ≡ no_writes
    → writes_in b.table.now sorted ≡ in_index_order (writes_in b.table.now c.writes) → Gives (structure_in b.table.now) (option_map (value_of_structure value_read n) old.held) (Ok sorted)
structure_ok n b c sorted old new all table none order =
    read_ok (structure_in b.table.now) add_write structure_total (value_of_structure value_read n) old.held (writes_in c.table.now c.writes) sorted
    (structure_read old.held n b c old new (Ok tt) refl table none all)
    (is_structure (writes_in c.table.now c.writes) (writes_in b.table.now c.writes) (writes_in b.table.now sorted) (structure_in b.table.now sorted) refl order (ap (λ u. writes_in u c.writes) (sym all.kept)))

pub structure_err : (n : Schema) (b c : StructBuilder) (e : SerdeError) (old new : AtHand) → BuildsStructure n b c old new (Err e) → b.table.now ≡ n.table → writes_in b.table.now b.writes ≡ no_writes
    → Gives (structure_in b.table.now) (option_map (value_of_structure value_read n) old.held) (Err e)
structure_err n b c e old new all table none =
    read_err (structure_in b.table.now) add_write structure_total (value_of_structure value_read n) old.held (writes_in c.table.now c.writes) e (structure_read old.held n b c old new (Err e) refl table none all)

-- the writes of a structure, as its value
pub seen_as : {A B V : Type 0} (f : A → V) (g : B → V) (o : Option (Result V SerdeError)) (a : A) (b : B) → f a ≡ g b → Gives g o (Ok b) → Gives f o (Ok a)
seen_as f g None a b e h = tt
seen_as f g (Some (Ok v)) a b e h = e ∙ h
seen_as f g (Some (Err x)) a b e h = h

pub refused_as : {A B V : Type 0} (f : A → V) (g : B → V) (o : Option (Result V SerdeError)) (e : SerdeError) → Gives {A = B} g o (Err e) → Gives {A = A} f o (Err e)
refused_as f g None e h = tt
refused_as f g (Some (Ok v)) e h = h
refused_as f g (Some (Err x)) e h = h

pub structure_value : (t : Table) (n : Schema) (ws : WriteList) (old new : AtHand) → ReadsStruct t n old new (Ok ws) → ReadsSo t (value_of_structure value_read n) old new (Ok (stored.Struct ws))
structure_value t n ws old new r = record {
  gives = seen_as (value_in t) (structure_in t) (option_map (value_of_structure value_read n) old.held) (stored.Struct ws) ws (group_value t group.Structure ws) r.gives;
  defined = group_defined t group.Structure ws r.defined;
  leaves = r.leaves;
}

pub structure_value_err : (t : Table) (n : Schema) (e : SerdeError) (old new : AtHand) → ReadsStruct t n old new (Err e) → ReadsSo t (value_of_structure value_read n) old new (Err e)
structure_value_err t n e old new r = record {
  gives = refused_as (value_in t) (structure_in t) (option_map (value_of_structure value_read n) old.held) e r.gives;
  defined = tt;
  leaves = r.leaves;
}

-- the plans that cite nodes
pub list_planned : (n m : Schema) (i : SchemaIndex) → Some m ≡ element_of n → at_place m.table i.0 ≡ Some m → IsPlan kind.List n (plan.List i)
list_planned n m i e there = (m, subst (λ u. at_place u i.0 ≡ Some m) (cited_table n n.node.element m (sym e)) there, λ h. ap (λ o. list_by value_read n o h) (sym e))

pub map_planned : (n key m : Schema) (i j : SchemaIndex) → Some key ≡ key_of n → Some m ≡ value_of n → at_place key.table i.0 ≡ Some key → at_place m.table j.0 ≡ Some m → IsPlan kind.Map n (plan.Map i j)
map_planned n key m i j e e_2 there there_2 = (
  key,
  m,
  subst (λ u. at_place u i.0 ≡ Some key) (cited_table n n.node.key key (sym e)) there,
  subst (λ u. at_place u j.0 ≡ Some m) (cited_table n n.node.value m (sym e_2)) there_2,
  λ h. ap (λ o. map_by value_read n o (value_of n) h) (sym e) ∙ ap (λ o. map_by value_read n (Some key) o h) (sym e_2),
)

pub placed_here : (t : Table) (place : ℕ) (n m : Schema) (i : ℕ) → Some n ≡ at_place t place → at_place n.table i ≡ Some m → at_place t i ≡ Some m
placed_here t place n m i there is = subst (λ u. at_place u i ≡ Some m) (at_place_table t place n (sym there)) is

pub has_node_at : (t : Table) (place : ℕ) (n m : Schema) (i : ℕ) → Some n ≡ at_place t place → at_place n.table i ≡ Some m → HasNode t i
has_node_at t place n m i there is = subst (λ (o : Option Schema). IsSome o) (sym (placed_here t place n m i there is)) refl

-- a structure read at the top, where the null is refused
by_node : (held : Option Held) (r : ValueReader) (n : Schema) (answer : Result StructValue SerdeError) → Some n ≡ at_place r.table.now r.schema.0
    → Gives structure_of (option_map (value_of_structure value_read (shape n)) held) answer → IfSome held (λ h. gives_structure r h answer)
by_node None r n answer there g = tt
by_node (Some h) r n answer there g = at_the_place (λ m. Gives structure_of (Some (value_of_structure value_read (shape m) h)) answer) r.table.now r.schema.0 n there g

pub reader_err : (r : ValueReader) (n : Schema) (e : SerdeError) (old new : AtHand) → Some n ≡ at_place r.table.now r.schema.0 → ReadsStruct r.table.now (shape n) old new (Err e) → ReadsBy (gives_structure r) old new (Err e)
reader_err r n e old new there whole = record {
  gives = by_node old.held r n (Err e) there (refused_as structure_of (structure_in r.table.now) (option_map (value_of_structure value_read (shape n)) old.held) e whole.gives);
  leaves = whole.leaves;
}

pub reader_ok : (r : ValueReader) (n : Schema) (ws : WriteList) (v : StructValue) (old new : AtHand) → Some n ≡ at_place r.table.now r.schema.0 → ReadsStruct r.table.now (shape n) old new (Ok ws)
    → members_of v ≡ writes_in r.table.now ws → ReadsBy (gives_structure r) old new (Ok v)
reader_ok r n ws v old new there whole is = record {
  gives = by_node old.held r n (Ok v) there (seen_as structure_of (structure_in r.table.now) (option_map (value_of_structure value_read (shape n)) old.held) v ws (ap value.structure is) whole.gives);
  leaves = whole.leaves;
}

-- the shape of a node at a place of the table stands in it
pub shape_here : (t : Table) (place : ℕ) (n : Schema) → Some n ≡ at_place t place → (shape n).table ≡ t
shape_here t place n there = shape_table n ∙ at_place_table t place n (sym there)
