-- What a tree's nodes are seen as, one more at the end, in texts that grow.
use Rattle.std.proofs.Common.{append-nil}
use Rattle.smithy_document.proofs.Common.{◌≡◌, refl, sym, ap, ap₂, ◌∙◌, ℕ, zero, suc, ◌+◌, ◌<◌, ◌≤◌, arith, rules, List, [], ◌∷◌, ◌++◌, map, drop, length, get_or, append_assoc, Bool, IsTrue, Option, Some, None, option_map, Bor, Vec, Global, and_parts, drop_more, drop_of_length-le, depth, items_depth, members_depth, Document, items_snoc, number_of_data, of_data, items_of_data, pairs_of_data, Member, node_view, nodes_view, fields_view, Grows, StaysIn, IsFound, Node, Null, Text as TheText, Array, Object, the_lemmas}
use Rattle.serde_json.specs.Data as parsed
use Rattle.serde_json.specs.View.{number_view as json_number_view}
use Rattle.serde_json.specs.declared.number.Number as numbers
use Rattle.smithy_types.specs.Documents as doc
use Rattle.smithy_types.specs.DocumentView.{number_view}
use Rattle.smithy_types.specs.declared.number.Number.{Number}
use Rattle.smithy_json.specs.JsonView.{view, items_view, members_view}
use Rattle.smithy_json.specs.Ordered.{is_ordered, are_items_ordered}
use Rattle.smithy_json.specs.declared.value.JsonValue as json
use Rattle.smithy_json.specs.declared.value.JsonValue.{JsonValue}
use Rattle.smithy_json.proofs.DocumentLemmas.{and_items, items_start, items_more, items_end}
use Rattle.smithy_json.proofs.OrderedData.{AreMembersOrdered, member_placed}
use Rattle.smithy_json.proofs.ReadingLemmas.{view-Array as value_array, view-Object as value_object}
use Rattle.smithy_document.specs.declared.json_tree.Node.{Bool as TheBool, Number as TheNumber}
use Rattle.smithy_document.proofs.NodeLemmas.{view-Text as node_text, view-Array as node_array, view-Object as node_object}
use Rattle.smithy_document.proofs.OrderedMembers.{members_in_turn}
use Rattle.smithy_document.proofs.TreeDocuments.{grows_on, stays, text_pushed, one_stays, field_view, field_stays, fields_from}
use Rattle.smithy_document.proofs.ValueLemmas.{Pair, members_from}

abbrev Texts : Type 0
Texts = List (List ℕ)

-- ---- nodes

abbrev IsNodeOf : JsonValue → Node → Texts → Type 0
IsNodeOf value n texts = IsFound (of_data (view value)) (λ ts. node_view ts n) texts

pub node_null : (ts : Texts) → node_view ts Null ≡ doc.null
node_null ts = search (rules, the_lemmas)

pub node_bool : (ts : Texts) (b : Bool) → node_view ts (TheBool b) ≡ doc.boolean b
node_bool ts b = search (rules, the_lemmas)

pub node_number : (ts : Texts) (n : Number) → node_view ts (TheNumber n) ≡ doc.number (number_view n)
node_number ts n = search (rules, the_lemmas)

value_null : view json.Null ≡ parsed.null
value_null = search (rules, json.the_lemmas)

value_bool : (b : Bool) → view (json.Bool b) ≡ parsed.boolean b
value_bool b = search (rules, json.the_lemmas)

value_number : (n : numbers.Number) → view (json.Number n) ≡ parsed.number (json_number_view n)
value_number n = search (rules, json.the_lemmas)

value_text : (text : Bor (List ℕ)) → view (json.String text) ≡ parsed.string text.now
value_text text = search (rules, json.the_lemmas)

-- the document of a value that is this one
same_value : (value shown : JsonValue) (d : parsed.Data) → value ≡ shown → view shown ≡ d → of_data (view value) ≡ of_data d
same_value value shown d is seen = ap (λ v. of_data (view v)) is ∙ ap of_data seen

pub null_found : (value : JsonValue) (texts : Texts) → value ≡ json.Null → IsNodeOf value Null texts
null_found value texts is = (doc.null, same_value value _ _ is value_null, λ more. node_null (texts ++ more))

pub bool_found : (value : JsonValue) (b : Bool) (texts : Texts) → value ≡ json.Bool b → IsNodeOf value (TheBool b) texts
bool_found value b texts is = (doc.boolean b, same_value value _ _ is (value_bool b), λ more. node_bool (texts ++ more) b)

pub number_found : (value : JsonValue) (n : numbers.Number) (m : Number) (texts : Texts) → value ≡ json.Number n → option_map number_view (Some m) ≡ number_of_data (json_number_view n) → IsNodeOf value (TheNumber m) texts
number_found value n m texts is found =
    (doc.number (number_view m), same_value value _ _ is (value_number n) ∙ ap (option_map doc.number) (sym found), λ more. node_number (texts ++ more) m)

pub text_found : (value : JsonValue) (text : Bor (List ℕ)) (position : ℕ) (old new : Texts) → value ≡ json.String text → new ≡ old ++ text.now ∷ [] → position ≡ length old → IsNodeOf value (TheText position) new
text_found value text position old new is pushed at =
    (doc.string text.now, same_value value _ _ is (value_text text), λ more. node_text (new ++ more) position ∙ ap doc.string (rw (pushed, at) (text_pushed old more text.now)))

pub array_found : (value : JsonValue) (items : Vec JsonValue Global) (v : Vec Node Global) (texts : Texts) → value ≡ json.Array items
    → IsFound (items_of_data (items_view items.items)) (λ ts. nodes_view ts v.items) texts → IsNodeOf value (Array v) texts
array_found value items v texts is found =
    (doc.array found.0, same_value value _ _ is (value_array items) ∙ ap (option_map doc.array) found.1, λ more. node_array (texts ++ more) v ∙ ap doc.array (found.2 more))

object_pairs : (o : Option (List Pair)) → option_map (λ ps. doc.object (doc.members_of ps)) o ≡ option_map doc.object (option_map doc.members_of o)
object_pairs None = refl
object_pairs (Some ps) = refl

object_read : (value : JsonValue) (members : Vec Member Global) → value ≡ json.Object members → of_data (view value) ≡ option_map doc.object (option_map doc.members_of (pairs_of_data (members_view members.items)))
object_read value members is = same_value value _ _ is (value_object members) ∙ object_pairs (pairs_of_data (members_view members.items))

pub object_found : (value : JsonValue) (members : Vec Member Global) (v : Vec (ℕ × Node) Global) (texts : Texts) → value ≡ json.Object members
    → IsFound (option_map doc.members_of (pairs_of_data (members_view members.items))) (λ ts. fields_view ts v.items) texts → IsNodeOf value (Object v) texts
object_found value members v texts is found =
    (doc.object found.0, object_read value members is ∙ ap (option_map doc.object) found.1, λ more. node_object (texts ++ more) v ∙ ap doc.object (found.2 more))

-- ---- the items of an array

pub item_ordered : (vs : List JsonValue) (i : ℕ) (v : JsonValue) → i < length vs → v ≡ get_or vs i v → IsTrue (are_items_ordered (items_view vs)) → IsTrue (is_ordered (view v))
item_ordered [] i v within is h = absurd (omega (arith, within))
item_ordered (w ∷ vs) zero v within is h = ap (λ u. is_ordered (view u)) is ∙ (and_parts (is_ordered (view w)) (are_items_ordered (items_view vs)) h).0
item_ordered (w ∷ vs) (suc i) v within is h = item_ordered vs i v (omega (arith, within)) is (and_parts (is_ordered (view w)) (are_items_ordered (items_view vs)) h).1

pub item_depth : (vs : List JsonValue) (i : ℕ) (v : JsonValue) → i < length vs → v ≡ get_or vs i v → depth (view v) ≤ items_depth (items_view vs)
item_depth [] i v within is = absurd (omega (arith, within))
item_depth (w ∷ vs) zero v within is = let same : depth (view v) ≡ depth (view w) = ap (λ u. depth (view u)) is in omega (arith, same)
item_depth (w ∷ vs) (suc i) v within is = let inside : depth (view v) ≤ items_depth (items_view vs) = item_depth vs i v (omega (arith, within)) is in omega (arith, inside)

-- the items before a position are found, and what is left gives the rest
pub record ItemsFound (vs : List JsonValue) (i : ℕ) (ns : List Node) (texts : Texts) : Type 0 where
  pub items : doc.Items
  pub seen : StaysIn (λ ts. nodes_view ts ns) texts items
  pub rest : option_map (and_items items) (items_of_data (items_view (drop i vs))) ≡ items_of_data (items_view vs)

nodes_snoc : (ts : Texts) (ns : List Node) (n : Node) → nodes_view ts (ns ++ n ∷ []) ≡ items_snoc (nodes_view ts ns) (node_view ts n)
nodes_snoc ts [] n = refl
nodes_snoc ts (m ∷ ns) n = ap (doc.item (node_view ts m)) (nodes_snoc ts ns n)

pub no_items : (vs : List JsonValue) (ns : List Node) (texts : Texts) → ns ≡ [] → ItemsFound vs 0 ns texts
no_items vs ns texts none = record { items = doc.no_items; seen = λ more. ap (nodes_view (texts ++ more)) none; rest = items_start vs }

pub one_item : (vs : List JsonValue) (i : ℕ) (v : JsonValue) (ns all : List Node) (n : Node) (old new : Texts) → i < length vs → v ≡ get_or vs i v → all ≡ ns ++ n ∷ [] → Grows old new
    → ItemsFound vs i ns old → IsNodeOf v n new → ItemsFound vs (i + 1) all new
one_item vs i v ns all n old new within is pushed grows before found = record {
  items = items_snoc before.items found.0;
  seen = λ more. ap (nodes_view (new ++ more)) pushed ∙ nodes_snoc (new ++ more) ns n ∙ ap₂ items_snoc (stays (λ ts. nodes_view ts ns) old new before.items before.seen grows more) (found.2 more);
  rest = items_more before.items found.0 vs i v _ within is found.1 before.rest;
}

pub all_items : (vs : List JsonValue) (i : ℕ) (ns : List Node) (texts : Texts) → length vs ≤ i → ItemsFound vs i ns texts → IsFound (items_of_data (items_view vs)) (λ ts. nodes_view ts ns) texts
all_items vs i ns texts past found = (found.items, items_end found.items vs i _ past found.rest, found.seen)

-- ---- the fields of an object

pub member_ordered : (ms : List Member) (i : ℕ) (m : Member) → i < length ms → m ≡ get_or ms i m → AreMembersOrdered (members_view ms) → IsTrue (is_ordered (view m.1))
member_ordered [] i m within is h = absurd (omega (arith, within))
member_ordered (n ∷ ms) zero m within is h = ap (λ (o : Member). is_ordered (view o.1)) is ∙ (member_placed n.0.now (view n.1) (members_view ms) h).1
member_ordered (n ∷ ms) (suc i) m within is h = member_ordered ms i m (omega (arith, within)) is (member_placed n.0.now (view n.1) (members_view ms) h).2

pub member_depth : (ms : List Member) (i : ℕ) (m : Member) → i < length ms → m ≡ get_or ms i m → depth (view m.1) ≤ members_depth (members_view ms)
member_depth [] i m within is = absurd (omega (arith, within))
member_depth (n ∷ ms) zero m within is = let same : depth (view m.1) ≡ depth (view n.1) = ap (λ (o : Member). depth (view o.1)) is in omega (arith, same)
member_depth (n ∷ ms) (suc i) m within is = let inside : depth (view m.1) ≤ members_depth (members_view ms) = member_depth ms i m (omega (arith, within)) is in omega (arith, inside)

-- pairs, and then others
abbrev and_pairs : List Pair → Option (List Pair) → Option (List Pair)
and_pairs ps o = option_map (λ more. ps ++ more) o

and_one : (ps : List Pair) (k : List ℕ) (d : Document) (o : Option (List Pair)) → and_pairs (ps ++ (k, d) ∷ []) o ≡ and_pairs ps (option_map (λ more. (k, d) ∷ more) o)
and_one ps k d None = refl
and_one ps k d (Some more) = ap (λ (qs : List Pair). Some qs) (append_assoc ps ((k, d) ∷ []) more)

-- the members before a position are found, and what is left gives the rest
pub record FieldsFound (ms : List Member) (i : ℕ) (fs : List (ℕ × Node)) (texts : Texts) : Type 0 where
  pub pairs : List Pair
  pub seen : StaysIn (λ ts. map (field_view ts) fs) texts pairs
  pub rest : and_pairs pairs (pairs_of_data (members_view (drop i ms))) ≡ pairs_of_data (members_view ms)

pub one_field : (ms : List Member) (i : ℕ) (m : Member) (fs all : List (ℕ × Node)) (position : ℕ) (n : Node) (old mid new : Texts) → i < length ms → m ≡ get_or ms i m → all ≡ fs ++ (position, n) ∷ []
    → mid ≡ old ++ m.0.now ∷ [] → position ≡ length old → Grows mid new → FieldsFound ms i fs old → IsNodeOf m.1 n new → FieldsFound ms (i + 1) all new
one_field ms i m fs all position n old mid new within is pushed named at grows before found = record {
  pairs = before.pairs ++ (m.0.now, found.0) ∷ [];
  seen = λ more. ap (map (field_view (new ++ more))) pushed
      ∙ one_stays field_view old new fs (position, n) before.pairs (m.0.now, found.0) before.seen (grows_on old mid new (m.0.now ∷ [], named) grows) (field_stays old mid new m.0.now position n found.0 named at grows found.2) more;
  rest = and_one before.pairs m.0.now found.0 (pairs_of_data (members_view (drop (i + 1) ms))) ∙ (rw (drop_more ms i m within, ← is, found.1) at before.rest);
}

pub all_fields : (ms : List Member) (i : ℕ) (fs : List (ℕ × Node)) (texts : Texts) → length ms ≤ i → AreMembersOrdered (members_view ms) → FieldsFound ms i fs texts
    → IsFound (option_map doc.members_of (pairs_of_data (members_view ms))) (λ ts. fields_view ts fs) texts
all_fields ms i fs texts past ordered found =
    let pairs : pairs_of_data (members_view ms) ≡ Some found.pairs = sym (ap (λ (qs : List Pair). Some qs) (sym (append-nil found.pairs)) ∙ (rw (drop_of_length-le ms past) at found.rest)) in (
      members_from found.pairs,
      ap (option_map doc.members_of) pairs ∙ ap (λ (o : doc.Members). Some o) (members_in_turn (members_view ms) found.pairs ordered pairs),
      λ more. fields_from (texts ++ more) fs ∙ ap members_from (found.seen more),
    )
