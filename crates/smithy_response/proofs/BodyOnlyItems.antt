-- Where no member is bound, the body's reader hands out what the response does.
use Rattle.std.specs.Prelude.{not, is_some}
use Rattle.smithy_response.proofs.Common.{◌≡◌, inl, inr, ℕ, suc, zero, Bool, true, false, List, [], ◌∷◌, ◌++◌, filter, map, flat_map, filter_map, Option, Some, None, Result, Ok, Err, refl, sym, ap, subst, ◌∙◌, ◌||◌, ◌&&◌, option_and_then, slice_get, MatchResult, list_any, cons_option, Document, Response, NonUtf8HeaderHandling, Schema, Table, name_of, at_place, members_of, member_at, member_named, position_of_name, is_response_bound, SerdeError, Value, Write, structure, writes_of, HandsOut, AllHanded, settled_by, Held, Answer, known, Slot, at_member, at_element, at_key, Listing, as_it_is, contents, with_answer, with_value, values_in, values_of_listing, structure_listed, ArePlaced, PassesMemory, plain_contents, in_body, source_at, source_of, route_at, settled, settled_at, Ended, with_route, routed, has_unbound, has_payload, reads_body, only_unbound, body_part, handed_items, handed}
use Rattle.smithy_types.specs.Results.{then_give}
use Rattle.smithy_serde.specs.declared.scalar.Group.TheVariants as group
use Rattle.smithy_serde.specs.IndexOrder.{in_order}
use Rattle.smithy_serde.specs.ValueRead.{value_read}
use Rattle.smithy_response.specs.ResponseReaders.{is_body_only}
use Rattle.smithy_response.proofs.HandedItems.{kept, named, fields_by, fields_placed}
use Rattle.std.proofs.lemmas.Bool.{or_parts}

abbrev Unbound : Schema → Type 0
Unbound m = is_response_bound m ≡ false

and_true : (a b : Bool) → (a && not b) ≡ true → (a ≡ true) × (b ≡ false)
and_true true true e = cc
and_true true false e = (refl, refl)
and_true false b e = cc

unbound_source : (header prefix : Option (List ℕ)) (code payload : Bool) → (is_some header || is_some prefix || code || payload) ≡ false → (source_at header prefix code payload ≡ in_body) × (payload ≡ false)
unbound_source (Some name) prefix code payload e = cc
unbound_source None (Some name) code payload e = cc
unbound_source None None true payload e = cc
unbound_source None None false true e = cc
unbound_source None None false false e = (refl, refl)

pub stands_in_body : (m : Schema) → Unbound m → (source_of m ≡ in_body) × (m.node.traits.http_payload ≡ false)
stands_in_body m u = unbound_source m.node.traits.http_header m.node.traits.http_prefix_headers m.node.traits.http_response_code m.node.traits.http_payload u

-- each field is a member, and none is bound
first_unbound : (o : Option Schema) (rest : List Schema) (m : Schema) → list_any is_response_bound (cons_option o rest) ≡ false → o ≡ Some m → Unbound m
first_unbound None rest m none is = cc
first_unbound (Some x) rest m none is = (let same : x ≡ m = cc in subst Unbound same (or_parts (is_response_bound x) (list_any is_response_bound rest) none).0)

rest_unbound : (o : Option Schema) (rest : List Schema) → list_any is_response_bound (cons_option o rest) ≡ false → list_any is_response_bound rest ≡ false
rest_unbound None rest none = none
rest_unbound (Some x) rest none = (or_parts (is_response_bound x) (list_any is_response_bound rest) none).1

member_unbound : (table : Table) (places : List ℕ) → list_any is_response_bound (filter_map (at_place table) places) ≡ false → (i : ℕ) (m : Schema) → option_and_then (at_place table) (slice_get places i) ≡ Some m → Unbound m
member_unbound table [] none zero m is = cc
member_unbound table [] none (suc i) m is = cc
member_unbound table (p ∷ ps) none zero m is = first_unbound (at_place table p) (filter_map (at_place table) ps) m none is
member_unbound table (p ∷ ps) none (suc i) m is = member_unbound table ps (rest_unbound (at_place table p) (filter_map (at_place table) ps) none) i m is

named_unbound : (n : Schema) → list_any is_response_bound (members_of n) ≡ false → (name : List ℕ) (m : Schema) → member_named n name ≡ Some m → Unbound m
named_unbound n none name m is = at_position (position_of_name n name) is
  where
    at_position : (o : Option ℕ) → option_and_then (member_at n) o ≡ Some m → Unbound m
    at_position None bad = cc
    at_position (Some i) e = member_unbound n.table n.node.members none i m e

abbrev AllUnbound : List (Slot × Held) → Type 0
AllUnbound [] = Unit {0}
AllUnbound ((at_member m, h) ∷ items) = Unbound m × AllUnbound items
AllUnbound (i ∷ items) = ⊥

one_field : (n : Schema) (d : List ℕ × Document) (rest : List (Schema × Held)) (o : Option Schema) → member_named n d.0 ≡ o → ((m : Schema) → o ≡ Some m → Unbound m) → AllUnbound (map {B = Slot × Held} named rest)
    → AllUnbound (map {B = Slot × Held} named (known n d ++ rest))
one_field n d rest None e unbound all = rw e all
one_field n d rest (Some m) e unbound all = rw e (unbound m refl, all)

all_fields : (n : Schema) → list_any is_response_bound (members_of n) ≡ false → (ds : List (List ℕ × Document)) → AllUnbound (map {B = Slot × Held} named (flat_map (known n) ds))
all_fields n none [] = tt
all_fields n none (d ∷ ds) = one_field n d (flat_map (known n) ds) (member_named n d.0) refl (λ m is. named_unbound n none d.0 m is) (all_fields n none ds)

fields_unbound : (n : Schema) (h : Held) → list_any is_response_bound (members_of n) ≡ false → AllUnbound (contents group.Structure n h).items
fields_unbound n h none = fields_by AllUnbound n tt (all_fields n none) h

all_kept : (items : List (Slot × Held)) → AllUnbound items → filter kept items ≡ items
all_kept [] u = refl
all_kept ((at_member m, h) ∷ items) u = rw u.0 (ap (λ is. (at_member m, h) ∷ is) (all_kept items u.1))
all_kept ((at_element, h) ∷ items) u = absurd u
all_kept ((at_key key, h) ∷ items) u = absurd u

-- so the response hands out the body's fields
routed_none : (response : Response) (rest : Option Held → Ended) (body : Option Held) (ms : List Schema) → list_any is_response_bound ms ≡ false → routed response rest body ms ≡ rest body
routed_none response rest body [] none = refl
routed_none response rest body (m ∷ ms) none =
    let both = or_parts (is_response_bound m) (list_any is_response_bound ms) none in
    ap (λ s. with_route (route_at s m response) m body (routed response rest body ms) (routed response rest None ms)) (stands_in_body m both.0).0
    ∙ routed_none response rest body ms both.1

no_payload : (ms : List Schema) → list_any is_response_bound ms ≡ false → list_any (λ m. m.node.traits.http_payload) ms ≡ false
no_payload [] none = refl
no_payload (m ∷ ms) none =
    let both = or_parts (is_response_bound m) (list_any is_response_bound ms) none in
    rw (stands_in_body m both.0).1 (no_payload ms both.1)

reads_it : (n : Schema) (response : Response) → has_unbound n ≡ true → list_any is_response_bound (members_of n) ≡ false → reads_body n response false ≡ true
reads_it n response some none = let without : has_payload n ≡ false = no_payload (members_of n) none in rw (without, some) refl

body_listed : (n : Schema) (response : Response) (h : Held) → is_body_only n ≡ true
    → handed_items n response h false ≡ record { items = (contents group.Structure n h).items; ends = (contents group.Structure n h).ends }
body_listed n response h only =
    let parts = and_true (has_unbound n) (list_any is_response_bound (members_of n)) only in
    let reads = reads_it n response parts.0 parts.1 in
    let part : body_part n response false (Some h) ≡ only_unbound (contents group.Structure n h) = rw reads refl in
    routed_none response (body_part n response false) (Some h) (members_of n) parts.1 ∙ part
    ∙ ap (λ is. record { items = is; ends = (contents group.Structure n h).ends }) (all_kept (contents group.Structure n h).items (fields_unbound n h parts.1))

-- with the same values
settles : (policy : NonUtf8HeaderHandling) (response : Response) (m : Schema) → Unbound m → (e : SerdeError) → settled policy response (at_member m) e ≡ Err e
settles policy response m u e = ap (λ s. settled_at s policy response (name_of m) e) (stands_in_body m u).0

value_alike : (settle : SerdeError → Answer) → ((e : SerdeError) → settle e ≡ Err e) → (r : Result Value SerdeError) (m : Schema) (rest : Result (List Write) SerdeError) → with_value r (λ e. Err e) m rest ≡ with_value r settle m rest
value_alike settle is (Ok v) m rest = refl
value_alike settle is (Err e) m rest = ap (λ a. with_answer a rest) (sym (is e))

values_alike : (policy : NonUtf8HeaderHandling) (response : Response) (ends : Option SerdeError) (items : List (Slot × Held)) → AllUnbound items
    → values_in as_it_is ends items ≡ values_in (settled policy response) ends items
values_alike policy response ends [] u = refl
values_alike policy response ends ((at_member m, h) ∷ items) u =
    value_alike (settled policy response (at_member m)) (settles policy response m u.0) (value_read m h) m (values_in as_it_is ends items)
    ∙ ap (with_value (value_read m h) (settled policy response (at_member m)) m) (values_alike policy response ends items u.1)
values_alike policy response ends ((at_element, h) ∷ items) u = absurd u
values_alike policy response ends ((at_key key, h) ∷ items) u = absurd u

-- and a consumer is handed the same
behind : {S : Type 0} (takes : S → Slot → Held → S → Answer → Type 0) (settle : Slot → SerdeError → Answer) (m : Schema) → ((e : SerdeError) → settle (at_member m) e ≡ Err e)
    → (ends : Option SerdeError) (items : List (Slot × Held)) (mid new : S) (given answer : Answer) → (HandsOut takes as_it_is ends items mid new answer → HandsOut takes settle ends items mid new answer)
    → MatchResult (settled_by (as_it_is (at_member m)) given) (λ _. HandsOut takes as_it_is ends items mid new answer) (λ e. (new ≡ mid) × (answer ≡ Err e))
    → MatchResult (settled_by (settle (at_member m)) given) (λ _. HandsOut takes settle ends items mid new answer) (λ e. (new ≡ mid) × (answer ≡ Err e))
behind takes settle m is ends items mid new (Ok t) answer next k = next k
behind takes settle m is ends items mid new (Err e) answer next k = rw (is e) k

hands_alike : {S : Type 0} (takes : S → Slot → Held → S → Answer → Type 0) (settle : Slot → SerdeError → Answer) → ((m : Schema) → Unbound m → (e : SerdeError) → settle (at_member m) e ≡ Err e)
    → (ends : Option SerdeError) (items : List (Slot × Held)) → AllUnbound items → (old new : S) (answer : Answer) → HandsOut takes as_it_is ends items old new answer → HandsOut takes settle ends items old new answer
hands_alike takes settle is ends [] u old new answer h = h
hands_alike takes settle is ends ((at_member m, x) ∷ items) u old new answer h = elim h [
  | inl stop ↦ inl stop
  | inr k ↦ inr (
    k.0,
    k.1,
    k.2,
    elim k.3 [
      | inl stop ↦ inl stop
      | inr more ↦ inr (behind takes settle m (is m u.0) ends items k.0 new k.1 answer (hands_alike takes settle is ends items u.1 k.0 new answer) more)
    ],
  )
]
hands_alike takes settle is ends ((at_element, x) ∷ items) u old new answer h = absurd u
hands_alike takes settle is ends ((at_key key, x) ∷ items) u old new answer h = absurd u

settled_plainly : (n : Schema) (h : Held) → as_it_is ≡ (contents group.Structure n h).settled
settled_plainly n h = ap (λ (xs : Listing). xs.settled) (plain_contents group.Structure n h)

pub body_passes : (n : Schema) (h : Held) → PassesMemory (contents group.Structure n h).settled
body_passes n h = subst PassesMemory (settled_plainly n h) (λ slot. refl)

pub body_placed_only : (n : Schema) (h : Held) → is_body_only n ≡ true → ArePlaced n.table (contents group.Structure n h).items
body_placed_only n h only =
    let parts = and_true (has_unbound n) (list_any is_response_bound (members_of n)) only in
    subst (ArePlaced n.table) (all_kept (contents group.Structure n h).items (fields_unbound n h parts.1)) (fields_placed n h)

pub read_alike : (n : Schema) (response : Response) (h : Held) (policy : NonUtf8HeaderHandling) → is_body_only n ≡ true
    → structure_listed (contents group.Structure n h) ≡ structure_listed (handed n response h false policy)
unfolding values_of_listing handed
read_alike n response h policy only =
    let listed = contents group.Structure n h in
    let parts = and_true (has_unbound n) (list_any is_response_bound (members_of n)) only in
    ap (λ vs. then_give vs (λ ws. structure (writes_of (in_order ws))))
    (ap (λ s. values_in s listed.ends listed.items) (sym (settled_plainly n h))
    ∙ values_alike policy response listed.ends listed.items (fields_unbound n h parts.1)
    ∙ ap (λ (given : Ended). values_in (settled policy response) given.ends given.items) (sym (body_listed n response h only)))

pub handed_alike : {S : Type 0} (takes : S → Slot → Held → S → Answer → Type 0) (n : Schema) (response : Response) (h : Held) (policy : NonUtf8HeaderHandling) → is_body_only n ≡ true → (old new : S) (answer : Answer)
    → AllHanded takes group.Structure (Some (contents group.Structure n h)) old new answer → AllHanded takes group.Structure (Some (handed n response h false policy)) old new answer
unfolding handed
handed_alike takes n response h policy only old new answer all =
    let listed = contents group.Structure n h in
    let parts = and_true (has_unbound n) (list_any is_response_bound (members_of n)) only in
    subst (λ (given : Ended). HandsOut takes (settled policy response) given.ends given.items old new answer) (sym (body_listed n response h only))
    (hands_alike takes (settled policy response) (settles policy response) listed.ends listed.items (fields_unbound n h parts.1) old new answer
    (subst (λ s. HandsOut takes s listed.ends listed.items old new answer) (sym (settled_plainly n h)) all))
