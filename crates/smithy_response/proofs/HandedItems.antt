-- What a response hands out are members of its schema, and want of memory is passed on.
use Rattle.smithy_response.proofs.Common.{◌≡◌, ℕ, Bool, true, false, List, [], ◌∷◌, ◌++◌, filter, map, flat_map, filter_map, Option, Some, None, Err, refl, option_and_then, slice_get, cons_option, Document, list_of_members, Response, NonUtf8HeaderHandling, Schema, Table, name_of, at_place, members_of, member_at, member_named, position_of_name, is_response_bound, OutOfMemory, Held, Answer, fields, known, Slot, at_member, at_element, at_key, contents, ArePlaced, PassesMemory, Source, in_header, in_prefix, in_status, in_payload, in_body, source_of, Route, passed_over, handed_out, handed_body, refused, route, settled, settled_at, Ended, with_route, routed, reads_body, body_part, is_unbound, handed}
use Rattle.smithy_types.specs.Documents as doc
use Rattle.smithy_serde.specs.declared.scalar.Group.TheVariants as group
use Rattle.smithy_serde.specs.Held as held
use Rattle.smithy_serde.specs.ValueRead.{IsPlaced}

passes_at : (source : Source) (policy : NonUtf8HeaderHandling) (response : Response) (member : List ℕ) → settled_at source policy response member OutOfMemory ≡ Err OutOfMemory
passes_at (in_header name) policy response member = refl
passes_at (in_prefix prefix) policy response member = refl
passes_at in_status policy response member = refl
passes_at in_payload policy response member = refl
passes_at in_body policy response member = refl

pub passes_settled : (policy : NonUtf8HeaderHandling) (response : Response) → PassesMemory (settled policy response)
passes_settled policy response (at_member m) = passes_at (source_of m) policy response (name_of m)
passes_settled policy response at_element = refl
passes_settled policy response (at_key key) = refl

-- the fields of a body
placed_cited : (n : Schema) (position : Option ℕ) (m : Schema) → option_and_then (at_place n.table) position ≡ Some m → IsPlaced n.table m
placed_cited n None m bad = cc
placed_cited n (Some i) m is = (i, is)

placed_named : (n : Schema) (o : Option ℕ) (m : Schema) → option_and_then (member_at n) o ≡ Some m → IsPlaced n.table m
placed_named n None m bad = cc
placed_named n (Some i) m is = placed_cited n (slice_get n.node.members i) m is

abbrev pub named : Schema × Held → Slot × Held
named x = (at_member x.0, x.1)

abbrev pub kept : Slot × Held → Bool
kept i = is_unbound i.0

kept_placed : (table : Table) (m : Schema) (h : Held) (items : List (Slot × Held)) → IsPlaced table m → ArePlaced table (filter kept items) → ArePlaced table (filter kept ((at_member m, h) ∷ items))
kept_placed table m h items p rest = go (is_response_bound m) refl
  where
    go : (b : Bool) → is_response_bound m ≡ b → ArePlaced table (filter kept ((at_member m, h) ∷ items))
    go true e = rw e rest
    go false e = rw e (p, rest)

one_field : (n : Schema) (d : List ℕ × Document) (rest : List (Schema × Held)) (o : Option Schema) → member_named n d.0 ≡ o → ArePlaced n.table (filter kept (map {B = Slot × Held} named rest))
    → ArePlaced n.table (filter kept (map {B = Slot × Held} named (known n d ++ rest)))
one_field n d rest None e all = rw e all
one_field n d rest (Some m) e all = rw e (kept_placed n.table m (held.document d.1) (map {B = Slot × Held} named rest) (placed_named n (position_of_name n d.0) m e) all)

all_fields : (n : Schema) (ds : List (List ℕ × Document)) → ArePlaced n.table (filter kept (map {B = Slot × Held} named (flat_map (known n) ds)))
all_fields n [] = tt
all_fields n (d ∷ ds) = one_field n d (flat_map (known n) ds) (member_named n d.0) refl (all_fields n ds)

-- what is known of no items and of an object's fields is known of what opening a structure hands out
pub fields_by : (P : List (Slot × Held) → Type 0) (n : Schema) → P [] → ((ds : List (List ℕ × Document)) → P (map {B = Slot × Held} named (flat_map (known n) ds))) → (h : Held) → P (contents group.Structure n h).items
unfolding fields
fields_by P n none some (held.header name values) = none
fields_by P n none some (held.element text) = none
fields_by P n none some (held.date seconds) = none
fields_by P n none some (held.prefixed entries) = none
fields_by P n none some (held.status code) = none
fields_by P n none some (held.raw bytes) = none
fields_by P n none some (held.document doc.null) = none
fields_by P n none some (held.document (doc.boolean b)) = none
fields_by P n none some (held.document (doc.number z)) = none
fields_by P n none some (held.document (doc.string s)) = none
fields_by P n none some (held.document (doc.array ds)) = none
fields_by P n none some (held.document (doc.object ms)) = some (list_of_members ms)
fields_by P n none some (held.input text is_read) = none
fields_by P n none some (held.item text) = none
fields_by P n none some (held.refused e) = none

pub fields_placed : (n : Schema) (h : Held) → ArePlaced n.table (filter kept (contents group.Structure n h).items)
fields_placed n h = fields_by (λ items. ArePlaced n.table (filter kept items)) n tt (all_fields n) h

body_placed : (n : Schema) (response : Response) (is_error : Bool) (body : Option Held) → ArePlaced n.table (body_part n response is_error body).items
body_placed n response is_error None = tt
body_placed n response is_error (Some body) = go (reads_body n response is_error) refl
  where
    go : (b : Bool) → reads_body n response is_error ≡ b → ArePlaced n.table (body_part n response is_error (Some body)).items
    go true e = rw e (fields_placed n body)
    go false e = rw e tt

-- the bound members before them
data AreMembers (table : Table) : List Schema → Type 0 where
  no_more : AreMembers table []
  and_one : {m : Schema} {ms : List Schema} → IsPlaced table m → AreMembers table ms → AreMembers table (m ∷ ms)

one_member : (table : Table) (p : ℕ) (rest : List Schema) (o : Option Schema) → at_place table p ≡ o → AreMembers table rest → AreMembers table (cons_option o rest)
one_member table p rest None e all = all
one_member table p rest (Some m) e all = and_one (p, e) all

members_placed : (table : Table) (places : List ℕ) → AreMembers table (filter_map (at_place table) places)
members_placed table [] = no_more
members_placed table (p ∷ ps) = one_member table p (filter_map (at_place table) ps) (at_place table p) refl (members_placed table ps)

one_placed : (table : Table) (r : Route) (m : Schema) (body : Option Held) (rest after : Ended) → IsPlaced table m → ArePlaced table rest.items → ArePlaced table after.items → ArePlaced table (with_route r m body rest after).items
one_placed table passed_over m body rest after p a b = a
one_placed table (handed_out h) m body rest after p a b = (p, a)
one_placed table handed_body m None rest after p a b = a
one_placed table handed_body m (Some h) rest after p a b = (p, b)
one_placed table (refused e) m body rest after p a b = tt

routed_placed : (table : Table) (response : Response) (rest : Option Held → Ended) → ((body : Option Held) → ArePlaced table (rest body).items) → (ms : List Schema) → AreMembers table ms → (body : Option Held)
    → ArePlaced table (routed response rest body ms).items
routed_placed table response rest all [] no_more body = all body
routed_placed table response rest all (m ∷ ms) (and_one p more) body =
    one_placed table (route m response) m body (routed response rest body ms) (routed response rest None ms) p (routed_placed table response rest all ms more body) (routed_placed table response rest all ms more None)

pub handed_placed : (schema : Schema) (response : Response) (body : Held) (is_error : Bool) (policy : NonUtf8HeaderHandling) → ArePlaced schema.table (handed schema response body is_error policy).items
unfolding handed
handed_placed schema response body is_error policy =
    routed_placed schema.table response (body_part schema response is_error) (body_placed schema response is_error) (members_of schema) (members_placed schema.table schema.node.members) (Some body)

pub handed_passes : (schema : Schema) (response : Response) (body : Held) (is_error : Bool) (policy : NonUtf8HeaderHandling) → PassesMemory (handed schema response body is_error policy).settled
unfolding handed
handed_passes schema response body is_error policy = passes_settled policy response
