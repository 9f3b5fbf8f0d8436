-- The fields of a response's body are read as the normal form of the members that stand there.
use Rattle.smithy_served.proofs.Common.{IsCheckedOutput, as_output, reads_normal_structure, list_of-writes_of, has_unbound, is_unbound, only_unbound, source_of, is_response_bound, position_of_name, known, fields, in_order, position_of, put_by, Slot, at_member, contents, listing_of, all_read, value_of_structure, write_by, value_read, unbound, SerdeError, bound_view, first_value, member_view, AreReadAs, IsTypedOutput, AllByRecursion, Bool, Document, Err, Held, IsLawfulText, List, None, Ok, Option, Protocol, Resolved, Result, Schema, Some, Value, Write, [], all_resolved, ap, arith, body, body_parts, bytes_by, cond, enumerate_from, false, field_of, filter, filter_map, flat_map, form_in, if◌then◌else◌, is_bound, is_well_made, label_of, last_of, list_of, list_of_members, map, member_at, members_of, nat_lt, not, option_and_then, option_map, option_map_or, refl, settled, subst, sym, text_of_document, then_give, then_try, true, writes_of, ℕ, ◌++◌, ◌+◌, ◌∙◌, ◌∷◌, ◌≡◌, resolved_at, all_made, all_placed, by_positions, member_in_place, HasOwnText, body_bytes, document_value_is, own_bytes, own_text, members_by_position, IfSome}
use Rattle.std.proofs.lemmas.Simd.{map-map}
use Rattle.smithy_types.specs.Documents as doc
use Rattle.smithy_serde.specs.Held as held
use Rattle.smithy_serde.specs.Values as value
use Rattle.smithy_serde.specs.declared.scalar.Group.TheVariants as group
use Rattle.smithy_binding.specs.declared.body_form.BodyForm.TheVariants as form
use Rattle.smithy_unambiguity.proofs.BodyObject.{IsBodied, are_bodied, body_node, body_node_stands, bodied_writes, body_fields, body_follows, free_view, fields_placed, unless_bound}
use Rattle.smithy_unambiguity.proofs.UnboundTold.{unbound_form}
use Rattle.smithy_served.proofs.MemberHanded.{read_as}
use Rattle.smithy_served.proofs.Alike.{filter-map, out_write, all_resolved-out}
use Rattle.smithy_served.proofs.Messages.{names_out, bound_out, has_unbound_out, sound_output}
use Rattle.smithy_served.proofs.Merge.{made_from, free_part}
use Rattle.smithy_served.proofs.Join.{IsHanded}

-- the writes to unbound members are those of the schema as a response has it
unbound_out : (schema : Schema) (ws : List Write) → writes_of (unbound (as_output schema) ws) ≡ bodied_writes is_response_bound (all_resolved schema ws)
unbound_out schema ws =
    ap (λ rs. writes_of (map own_write (filter (λ (r : Resolved). not (is_bound r.member)) rs))) (all_resolved-out schema ws)
    ∙ ap (λ rs. writes_of (map own_write rs)) (filter-map (λ r. not (is_bound r.member)) out_write (all_resolved schema ws))
    ∙ ap writes_of (map-map own_write out_write (filter (λ (r : Resolved). not (is_bound (as_output r.member))) (all_resolved schema ws)))
    ∙ (λ i. writes_of (map own_write (filter (λ (r : Resolved). not (bound_out r.member i)) (all_resolved schema ws))))
  where
    own_write : Resolved → Write
    own_write r = record { label = label_of r.member; value = r.value }

-- What is read of the fields.

gives_ok : {A B E : Type 0} (r : Result A E) (f : A → B) (y : B) → then_give r f ≡ Ok y → (x : A) × (r ≡ Ok x) × (f x ≡ y)
gives_ok (Ok x) f y e = (x, refl, cc e)
gives_ok (Err err) f y e = absurd (cc e)

tries_ok : {A B E : Type 0} (r : Result A E) (f : A → Result B E) (y : B) → then_try r f ≡ Ok y → (x : A) × (r ≡ Ok x) × (f x ≡ Ok y)
tries_ok (Ok x) f y e = (x, refl, e)
tries_ok (Err err) f y e = absurd (cc e)

abbrev field_write : Schema × Held → Result Write SerdeError
field_write x = then_give (value_read x.0 x.1) (write_by x.0)

pub record AreFieldsRead (schema : Schema) (d : Document) (ordered : List Write) : Type 0 where
  pub items : List (Schema × Held)
  pub opened : fields schema (held.document d) ≡ Ok items
  pub writes : List Write
  pub read : all_read field_write items ≡ Ok writes
  pub in_index : in_order writes ≡ ordered

fields_read : (schema : Schema) (d : Document) (ordered : List Write) → value_of_structure value_read (body_node schema) (held.document d) ≡ Ok (value.structure (writes_of ordered)) → AreFieldsRead schema d ordered
unfolding fields
fields_read schema d ordered e =
    let a = gives_ok (then_try (fields (body_node schema) (held.document d)) (all_read field_write)) (λ ws. value.structure (writes_of (in_order ws))) (value.structure (writes_of ordered)) e in
    let b = tries_ok (fields (body_node schema) (held.document d)) (all_read field_write) a.0 a.1 in
    record { items = b.0; opened = same d ∙ b.1; writes = a.0; read = b.2; in_index = sym (list_of-writes_of (in_order a.0)) ∙ ap inside a.2 ∙ list_of-writes_of ordered }
  where
    inside : Value → List Write
    inside (value.structure ws) = list_of ws
    inside _ = []

    same : (d : Document) → fields schema (held.document d) ≡ fields (body_node schema) (held.document d)
    same (doc.object ms) = refl
    same _ = refl

-- Each is a member that stands in the body.

-- the member at the index of a write is unbound
abbrev IsFree : Schema → Write → Type 0
IsFree schema w = (p : ℕ) (m : Schema) → w.label.member_index ≡ Some p → member_at schema p ≡ Some m → is_response_bound m ≡ false

abbrev IsIn : Schema → Schema → Type 0
IsIn schema m = (p : ℕ) × (member_at schema p ≡ Some m)

from_put : (P : Write → Type 0) (w : Write) (ws : List Write) → AllByRecursion P (put_by position_of w ws) → P w × AllByRecursion P ws
from_put P w [] all = (all.0, tt)
from_put P w (x ∷ ws) all = go (nat_lt (position_of x) (position_of w)) all (from_put P w ws)
  where
    go : (t : Bool) → AllByRecursion P (cond t (x ∷ put_by position_of w ws) (w ∷ x ∷ ws)) → (AllByRecursion P (put_by position_of w ws) → P w × AllByRecursion P ws) → P w × AllByRecursion P (x ∷ ws)
    go true h rest = ((rest h.1).0, (h.0, (rest h.1).1))
    go false h rest = (h.0, h.1)

from_order : (P : Write → Type 0) (ws : List Write) → AllByRecursion P (in_order ws) → AllByRecursion P ws
from_order P [] all = tt
from_order P (w ∷ ws) all = let x = from_put P w (in_order ws) all in (x.0, from_order P ws x.1)

found_in : (schema : Schema) (o : Option ℕ) → IfSome (option_and_then (member_at schema) o) (IsIn schema)
found_in schema None = tt
found_in schema (Some p) = go (member_at schema p) refl
  where
    go : (o : Option Schema) → member_at schema p ≡ o → IfSome o (IsIn schema)
    go None at = tt
    go (Some m) at = (p, at)

members_in : (schema : Schema) (fs : List (List ℕ × Document)) → AllByRecursion (λ x. IsIn schema x.0) (flat_map (known schema) fs)
members_in schema [] = tt
members_in schema (f ∷ fs) = go (option_and_then (member_at schema) (position_of_name schema f.0)) (found_in schema (position_of_name schema f.0))
    (members_in schema fs)
  where
    go : (o : Option Schema) → IfSome o (IsIn schema) → AllByRecursion (λ x. IsIn schema x.0) (flat_map (known schema) fs) → AllByRecursion (λ x. IsIn schema x.0) (option_map_or (λ m. (m, held.document f.1) ∷ []) o [] ++ flat_map (known schema) fs)
    go None is rest = rest
    go (Some m) is rest = (is, rest)

opened_in : (schema : Schema) (d : Document) (xs : List (Schema × Held)) → fields schema (held.document d) ≡ Ok xs → AllByRecursion (λ x. IsIn schema x.0) xs
unfolding fields
opened_in schema (doc.object ms) xs e = let same : flat_map (known schema) (list_of_members ms) ≡ xs = cc e in subst (AllByRecursion (λ x. IsIn schema x.0)) same (members_in schema (list_of_members ms))
opened_in schema _ xs e = absurd (cc e)

abbrev item_of : Schema × Held → Slot × Held
item_of x = (at_member x.0, x.1)

-- so none is left out as a copy of a bound one
items_read : (schema : Schema) → is_well_made schema ≡ true → (xs : List (Schema × Held)) (us : List Write) → all_read field_write xs ≡ Ok us → AllByRecursion (λ x. IsIn schema x.0) xs → AllByRecursion (IsFree schema) us
    → AreReadAs (filter (λ i. is_unbound i.0) (map item_of xs)) us
items_read schema well_made [] us e inside free = let none : [] ≡ us = cc e in subst (AreReadAs []) none tt
items_read schema well_made (x ∷ xs) us e inside free =
    let a = tries_ok (field_write x) (λ w. then_give (all_read field_write xs) (λ ys. w ∷ ys)) us e in
    let b = gives_ok (value_read x.0 x.1) (write_by x.0) a.0 a.1 in
    let c = gives_ok (all_read field_write xs) (λ ys. a.0 ∷ ys) us a.2 in
    let is : write_by x.0 b.0 ∷ c.0 ≡ us = ap (λ w. w ∷ c.0) b.2 ∙ c.2 in
    let all : AllByRecursion (IsFree schema) (write_by x.0 b.0 ∷ c.0) = subst (AllByRecursion (IsFree schema)) (sym is) free in
    let unbound : is_response_bound x.0 ≡ false = all.0 inside.0.0 x.0 (member_in_place schema inside.0.0 x.0 well_made inside.0.1).index inside.0.1 in
    let rest : List (Slot × Held) = filter (λ i. is_unbound i.0) (map item_of xs) in
    subst (λ t. AreReadAs (cond (not t) (item_of x ∷ rest) rest) us) (sym unbound)
    (subst (AreReadAs (item_of x ∷ rest)) is (refl, read_as x.0 x.1 b.0 b.1, items_read schema well_made xs c.0 c.1 inside.1 all.1))

module _ (protocol : Protocol) (schema : Schema) (ws : List Write) (checked : IsCheckedOutput schema) (well_made : is_well_made schema ≡ true) (typed : IsTypedOutput protocol schema ws) (some : has_unbound schema ≡ true) where
  abbrev out : Schema
  out = as_output schema

  abbrev rs : List Resolved
  rs = all_resolved schema ws

  abbrev node : Schema
  node = body_node schema

  abbrev body_value : Value
  body_value = value.structure (bodied_writes is_response_bound rs)

  bodied_all : AllByRecursion (IsBodied is_response_bound schema) rs
  bodied_all = are_bodied is_response_bound schema rs (resolved_at schema ws) typed.unbound_shaped

  form_is : form_in (as_output schema) ≡ form.Unbound
  form_is = unbound_form out (sound_output schema checked) (has_unbound_out schema ∙ some)

  pub own : HasOwnText node body_value
  own =
      own_text out ws node body_value typed.shallow (body_node_stands schema well_made) (document_value_is out ws form.Unbound form_is ∙ ap (λ us. Some (value.structure us)) (unbound_out schema ws))
      (body_follows is_response_bound schema (names_out schema checked) well_made rs bodied_all)

  bytes_are : (body protocol.text_of out ws).bytes ≡ protocol.text_of own.doc
  bytes_are =
      body_bytes protocol.text_of out ws ∙ ap (λ f. bytes_by f protocol.text_of (body_parts out ws)) form_is
      ∙ ap (λ us. text_of_document protocol.text_of (Some (value.structure us))) (unbound_out schema ws) ∙ own_bytes protocol.text_of node body_value own

  -- what the members that stand in the body have
  free_members : filter_map (field_of (body_fields is_response_bound schema rs)) (members_of schema) ≡ made_from (free_part (member_view schema ws)) 0 (members_of schema)
  free_members =
      by_positions (field_of (body_fields is_response_bound schema rs)) (λ p. option_map (write_by p.1) (free_view is_response_bound p.0 p.1 rs)) 0 (members_of schema)
      (fields_placed is_response_bound schema (names_out schema checked) well_made rs bodied_all)
      ∙ (λ i. made_from (λ j m. unless_bound (is_response_bound m) (bound_view (source_of m) m (first_value schema ws j)) (option_map (λ (r : Resolved). settled (Some m) r.value) (last_of j rs)) i) 0 (members_of schema))

  pub read : AreFieldsRead schema own.doc (made_from (free_part (member_view schema ws)) 0 (members_of schema))
  read =
      subst (AreFieldsRead schema own.doc) free_members
      (fields_read schema own.doc (filter_map (field_of (body_fields is_response_bound schema rs)) (members_of schema)) (reads_normal_structure node (bodied_writes is_response_bound rs) own.doc (body_node_stands schema well_made) own.shaped own.has))

  free : AllByRecursion (IsFree schema) (made_from (free_part (member_view schema ws)) 0 (members_of schema))
  free =
      all_made (IsFree schema) (λ (p : ℕ × Schema). write_by p.1) (λ (p : ℕ × Schema). free_part (member_view schema ws) p.0 p.1) (enumerate_from 0 (members_of schema))
      (all_placed (λ p. (v : Value) → free_part (member_view schema ws) p.0 p.1 ≡ Some v → IsFree schema (write_by p.1 v)) 0 (members_of schema)
      (λ j m at_j v e p n index at.
      let none_more : 0 + j ≡ j = omega arith in
      let at_m : member_at schema (0 + j) ≡ Some m = ap (member_at schema) none_more ∙ sym (members_by_position schema checked.cited j) ∙ at_j in
      let both : Some (0 + j) ≡ Some p = sym (member_in_place schema (0 + j) m well_made at_m).index ∙ index in
      let place : 0 + j ≡ p = cc both in
      let nodes : Some m ≡ Some n = sym at_m ∙ ap (member_at schema) place ∙ at in
      let same : m ≡ n = cc nodes in
      sym (ap is_response_bound same) ∙ unbound_by (is_response_bound m) (member_view schema ws (0 + j) m) e))
    where
      unbound_by : (b : Bool) (o : Option Value) {v : Value} → (if b then None else o) ≡ Some v → b ≡ false
      unbound_by false o h = refl
      unbound_by true o h = absurd (cc h)

  -- they are handed out
  pub fields_handed : (holds : List ℕ → Option Held) (h : Held) → IsLawfulText protocol.text_of holds → holds (body protocol.text_of (as_output schema) ws).bytes ≡ Some h → IsHanded (only_unbound (contents group.Structure schema h)) read.writes
  fields_handed holds h lawful holding =
      let both : Some (held.document own.doc) ≡ Some h = sym (lawful.reads_back own.doc own.sound own.shallow) ∙ ap holds (sym bytes_are) ∙ holding in
      let same : held.document own.doc ≡ h = cc both in
      subst (λ h. IsHanded (only_unbound (contents group.Structure schema h)) read.writes) same
      (subst (λ r. IsHanded (only_unbound (listing_of item_of r)) read.writes) (sym read.opened)
      (record {
        without_refusal = refl;
        members = items_read schema well_made read.items read.writes read.read (opened_in schema own.doc read.items read.opened)
            (from_order (IsFree schema) read.writes (subst (AllByRecursion (IsFree schema)) (sym read.in_index) free));
      }))
