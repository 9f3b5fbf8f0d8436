-- The transport wins.
use Rattle.smithy_response.proofs.Common.{◌≡◌, ℕ, Bool, true, false, not, List, [], ◌∷◌, map, filter, flat_map, Option, Some, None, refl, sym, ap, subst, ◌∙◌, ◌||◌, ◌&&◌, if◌then◌else◌, list_any, option_map_or, Document, Members, list_of_members, Response, Schema, member_named, members_of, is_response_bound, Held, fields, known, Slot, at_member, contents, Ended, nothing, before_rest, with_route, routed, is_unbound, only_unbound, reads_body, body_part, handed, Route, passed_over, handed_out, handed_body, refused, route, source_at, route_at, header_route, is_plain_text, are_empty, values_named, settled}
use Rattle.smithy_types.specs.Documents as doc
use Rattle.smithy_serde.specs.declared.scalar.Group.TheVariants as group
use Rattle.smithy_serde.specs.Held as held
use Rattle.smithy_response.specs.TransportWins.{is_bound_field, without_bound_fields, without_bound, TransportWins}
use Rattle.std.proofs.lemmas.Bool.{or_parts}

-- what the body lists of its fields, but for bound members
abbrev unbound_of : Schema → List (List ℕ × Document) → List (Slot × Held)
unbound_of schema fs = filter (λ i. is_unbound i.0) (map {B = Slot × Held} (λ m. (at_member m.0, m.1)) (flat_map (known schema) fs))

kept_field : (schema : Schema) (name : List ℕ) (d : Document) (ms : Members) (found : Option Schema) (bound : Bool) → member_named schema name ≡ found → is_bound_field schema name ≡ bound
    → unbound_of schema (list_of_members (without_bound_fields schema ms)) ≡ unbound_of schema (list_of_members ms)
    → unbound_of schema (list_of_members (without_bound_fields schema (doc.member name d ms))) ≡ unbound_of schema (list_of_members (doc.member name d ms))
kept_field schema name d ms None true e bound rest = (let bad : false ≡ true = sym (ap (λ m. option_map_or is_response_bound m false) e) ∙ bound in cc)
kept_field schema name d ms None false e bound rest = rw (bound, e) rest
kept_field schema name d ms (Some m) true e bound rest =
    (let is : is_response_bound m ≡ true = sym (ap (λ m. option_map_or is_response_bound m false) e) ∙ bound in rw (bound, e, is) rest)
kept_field schema name d ms (Some m) false e bound rest =
    (let is : is_response_bound m ≡ false = sym (ap (λ m. option_map_or is_response_bound m false) e) ∙ bound in
    rw (bound, e, is) (ap (λ is. (at_member m, held.document d) ∷ is) rest))

kept : (schema : Schema) (ms : Members) → unbound_of schema (list_of_members (without_bound_fields schema ms)) ≡ unbound_of schema (list_of_members ms)
kept schema doc.no_members = refl
kept schema (doc.member name d ms) = kept_field schema name d ms (member_named schema name) (is_bound_field schema name) refl refl (kept schema ms)

-- the route hands out what the response has beside its body
abbrev BesideBody : Route → Type 0
BesideBody handed_body = ⊥
BesideBody r = Unit {0}

beside_if : (b : Bool) (r s : Route) → BesideBody r → BesideBody s → BesideBody (if b then r else s)
beside_if true r s p q = p
beside_if false r s p q = q

beside_header : (m : Schema) (name : List ℕ) (values : List (List ℕ)) → BesideBody (header_route m name values)
beside_header m name [] = tt
beside_header m name (v ∷ vs) = beside_if (not (is_plain_text m) && are_empty (v ∷ vs)) passed_over (handed_out (held.header name (v ∷ vs))) tt tt

beside_at : (header prefix : Option (List ℕ)) (code : Bool) (m : Schema) (response : Response) → BesideBody (route_at (source_at header prefix code false) m response)
beside_at (Some name) prefix code m response = beside_header m name (values_named name response.headers)
beside_at None (Some prefix) code m response = tt
beside_at None None true m response = tt
beside_at None None false m response = tt

beside : (m : Schema) (response : Response) → m.node.traits.http_payload ≡ false → BesideBody (route m response)
beside m response e =
    subst (λ payload. BesideBody (route_at (source_at m.node.traits.http_header m.node.traits.http_prefix_headers m.node.traits.http_response_code payload) m response)) (sym e)
    (beside_at m.node.traits.http_header m.node.traits.http_prefix_headers m.node.traits.http_response_code m response)

route_alike : (r : Route) (m : Schema) (b c : Held) (x y z : Ended) → BesideBody r → x ≡ y → with_route r m (Some b) x z ≡ with_route r m (Some c) y z
route_alike passed_over m b c x y z p e = e
route_alike (handed_out h) m b c x y z p e = ap (before_rest (at_member m) h) e
route_alike handed_body m b c x y z p e = absurd p
route_alike (refused r) m b c x y z p e = refl

routed_alike : (response : Response) (rest : Option Held → Ended) (b c : Held) (ms : List Schema) → list_any (λ m. m.node.traits.http_payload) ms ≡ false
    → rest (Some b) ≡ rest (Some c) → routed response rest (Some b) ms ≡ routed response rest (Some c) ms
routed_alike response rest b c [] none same = same
routed_alike response rest b c (m ∷ ms) none same =
    let both = or_parts m.node.traits.http_payload (list_any (λ m. m.node.traits.http_payload) ms) none in
    route_alike (route m response) m b c _ _ _ (beside m response both.0) (routed_alike response rest b c ms both.1 same)

fields_alike : (schema : Schema) (d : Document)
    → only_unbound (contents group.Structure schema (held.document (without_bound schema d))) ≡ only_unbound (contents group.Structure schema (held.document d))
unfolding fields
fields_alike schema (doc.object ms) = ap (λ is. record { items = is; ends = None }) (kept schema ms)
fields_alike schema doc.null = refl
fields_alike schema (doc.boolean b) = refl
fields_alike schema (doc.number n) = refl
fields_alike schema (doc.string s) = refl
fields_alike schema (doc.array ds) = refl

part_alike : (reads : Bool) (schema : Schema) (d : Document)
    → (if reads then only_unbound (contents group.Structure schema (held.document (without_bound schema d))) else nothing)
    ≡ (if reads then only_unbound (contents group.Structure schema (held.document d)) else nothing)
part_alike true schema d = fields_alike schema d
part_alike false schema d = refl

pub transport_is_heard : TransportWins
unfolding handed
transport_is_heard schema response d is_error policy none =
    ap (λ (given : Ended). record { items = given.items; ends = given.ends; settled = settled policy response })
    (routed_alike response (body_part schema response is_error) (held.document (without_bound schema d)) (held.document d) (members_of schema) none
    (part_alike (reads_body schema response is_error) schema d))
