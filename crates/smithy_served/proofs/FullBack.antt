-- The response of a typed output hands out the normal form.
use Rattle.smithy_served.proofs.Common.{IsCheckedOutput-from_test, IsCheckedOutput, has_response_body_member, response_payload_kind, as_output, Response, NonUtf8HeaderHandling, indexed, Ended, body_part, has_payload, has_unbound, nothing, only_unbound, routed, handed, Source, in_body, in_header, in_payload, in_prefix, in_status, route, route_at, source_of, is_response_bound, in_order, contents, response_at, bound_view, first_value, member_view, answer_view, AreReadBackBeside, HandsOut, IsAnswered, OutputsAreReadBack, with_body, Bool, Held, IsLawfulText, List, None, Option, Protocol, Schema, Some, Value, Write, [], all_resolved, and_parts, ap, arith, body, cond, false, false_from_ne_true, find, has_at_most_one, if◌then◌else◌, is_codec_kind, is_raw_kind, is_some, is_sound_payload, last_of, leb-true, list_any, member_at, members_of, not, option_and_then, option_map, refl, settled, slice_get, subst, sym, true, ℕ, ◌&&◌, ◌++◌, ◌+◌, ◌||◌, ◌∙◌, ◌∷◌, ◌≡◌, ◌≤◌, all_placed, any_get, members_by_position, source_unbound}
use Rattle.smithy_serde.specs.Held as held
use Rattle.smithy_serde.specs.declared.scalar.Group.TheVariants as group
use Rattle.smithy_response.proofs.TransportLaw.{transport_is_heard}
use Rattle.smithy_served.proofs.MemberHanded.{HandsSame}
use Rattle.smithy_served.proofs.Messages.{stands_in}
use Rattle.smithy_served.proofs.Conforming.{IsMember, output_of, response_is}
use Rattle.smithy_served.proofs.Headers.{header_handed}
use Rattle.smithy_served.proofs.Status.{status_handed}
use Rattle.smithy_served.proofs.PrefixBack.{prefix_handed}
use Rattle.smithy_served.proofs.Payload.{payload_handed}
use Rattle.smithy_served.proofs.Merge.{made_from, bound_part, free_part, merged, none_free}
use Rattle.smithy_served.proofs.Join.{IsHanded, payloads, joined}
use Rattle.smithy_served.proofs.FieldsBack.{read, fields_handed}

-- A payload stands beside no unbound member.

no_payload : (schema : Schema) → IsCheckedOutput schema → has_unbound schema ≡ true → has_payload schema ≡ false
no_payload schema checked some =
    sym (found (members_of schema)) ∙ by (find (λ m. m.node.traits.http_payload) (members_of schema))
    (ap (is_sound_payload (response_payload_kind schema)) (sym some) ∙ (and_parts (has_at_most_one (λ t. t.http_payload) schema) (is_sound_payload (response_payload_kind schema) (has_response_body_member schema)) checked.payload).1)
  where
    by : (o : Option Schema) → is_sound_payload (option_map (λ m. m.node.kind) o) true ≡ true → is_some o ≡ false
    by None e = refl
    by (Some m) e = let q = (and_parts (is_raw_kind m.node.kind || is_codec_kind m.node.kind) false e).1 in absurd (cc q)

    found : (ms : List Schema) → is_some (find (λ m. m.node.traits.http_payload) ms) ≡ list_any (λ m. m.node.traits.http_payload) ms
    found [] = refl
    found (m ∷ ms) = go m.node.traits.http_payload ∙ ap (λ b. m.node.traits.http_payload || b) (found ms)
      where
        go : (b : Bool) → is_some (cond b (Some m) (find (λ m. m.node.traits.http_payload) ms)) ≡ (b || is_some (find (λ m. m.node.traits.http_payload) ms))
        go true = refl
        go false = refl

-- another body changes no route but a payload's
route_kept : (m : Schema) (response : Response) (bytes : List ℕ) → m.node.traits.http_payload ≡ false → route m (with_body bytes response) ≡ route m response
route_kept m response bytes none = go (source_of m) refl
  where
    go : (s : Source) → source_of m ≡ s → route_at s m (with_body bytes response) ≡ route_at s m response
    go in_payload e = let q : true ≡ false = sym (stands_in m in_payload e).says ∙ none in absurd (cc q)
    go _ e = refl

module _ (protocol : Protocol) (holds : List ℕ → Option Held) (lawful : IsLawfulText protocol.text_of holds) (schema : Schema) (ws : List Write) (code : ℕ) (response : Response) (h : Held) (is : IsAnswered protocol holds schema ws code response h) where
  checked : IsCheckedOutput schema
  checked = IsCheckedOutput-from_test schema is.checked

  same : response ≡ response_at code (output_of protocol schema ws)
  same = response_is protocol schema ws code response is.typed.conforming is.answered

  holding : holds (body protocol.text_of (as_output schema) ws).bytes ≡ Some h
  holding = ap (λ (r : Response). option_and_then holds r.body) (sym same) ∙ is.body_held

  abbrev view : ℕ → Schema → Option Value
  view = member_view schema ws

  -- each bound member, by where it stands
  bound_back : (i : ℕ) (m : Schema) → member_at schema i ≡ Some m → is_response_bound m ≡ true → HandsSame h (route m response) m (bound_view (source_of m) m (first_value schema ws i))
  bound_back i m at bound = go (source_of m) refl
    where
      member : IsMember protocol schema ws i m
      member = record { checked = checked; typed = is.typed; at = at }

      go : (s : Source) → source_of m ≡ s → HandsSame h (route_at s m response) m (bound_view s m (first_value schema ws i))
      go (in_header name) e = header_handed protocol schema ws i m member name e h response.headers (ap (λ (r : Response). r.headers) same)
      go (in_prefix prefix) e = prefix_handed protocol schema ws i m member prefix e h response.headers (ap (λ (r : Response). r.headers) same)
      go in_status e = status_handed protocol schema ws i m member e h code response.status (ap (λ (r : Response). r.status) same)
      go in_payload e = payload_handed protocol schema ws i m member e is.well_made holds lawful h holding response.body (ap (λ (r : Response). r.body) same)
      go in_body e = let q : false ≡ true = sym (stands_in m in_body e).says ∙ bound in absurd (cc q)

  -- what is left of the body: the writes of the unbound members, in some order
  record IsLeft (e : Ended) : Type 0 where
    writes : List Write
    handed : IsHanded e writes
    in_index : in_order writes ≡ made_from (free_part view) 0 (members_of schema)
    alone : has_payload schema ≡ true → writes ≡ []

  abbrev fields_part : Bool → Ended
  fields_part b = if b then only_unbound (contents group.Structure schema h) else nothing

  left_of : (other : Response) → IsLeft (body_part schema other false (Some h))
  left_of other = subst (λ b. IsLeft (fields_part b)) (sym (is_read (has_payload schema) (has_unbound schema) (no_payload schema checked))) (go (has_unbound schema) refl)
    where
      is_read : (a b : Bool) → (b ≡ true → a ≡ false) → (not a && b && true) ≡ b
      is_read true true none = let q : true ≡ false = none refl in absurd (cc q)
      is_read true false none = refl
      is_read false true none = refl
      is_read false false none = refl

      go : (b : Bool) → has_unbound schema ≡ b → IsLeft (fields_part b)
      go true e =
          let x = read protocol schema ws checked is.well_made is.typed e in
          record {
            writes = x.writes;
            handed = fields_handed protocol schema ws checked is.well_made is.typed e holds h lawful holding;
            in_index = x.in_index;
            alone = λ some. (let q : true ≡ false = sym some ∙ no_payload schema checked e in absurd (cc q));
          }
      go false e = record { writes = []; handed = record { without_refusal = refl; members = tt }; in_index = none_free view 0 (members_of schema) e; alone = λ some. refl }

  -- So the response, or one with another body that has the same for its members, hands out the normal form.
  pub all_back : (other : Response) (policy : NonUtf8HeaderHandling) → ((j : ℕ) (m : Schema) → slice_get (members_of schema) j ≡ Some m → route m other ≡ route m response) → HandsOut (handed schema other h false policy) (answer_view schema ws)
  unfolding handed answer_view
  all_back other policy same_route =
      record {
        without_refusal = all.without_refusal;
        writes = made_from (bound_part view) 0 (members_of schema) ++ left.writes;
        members = all.members;
        each_once = merged view (members_of schema) left.writes (indexed schema checked.cited is.well_made) left.in_index;
      }
    where
      left : IsLeft (body_part schema other false (Some h))
      left = left_of other

      part : (i : ℕ) (m : Schema) → member_at schema i ≡ Some m → route m other ≡ route m response → HandsSame h (route m other) m (bound_part view i m)
      part i m at kept = go (is_response_bound m) refl
        where
          go : (b : Bool) → is_response_bound m ≡ b → HandsSame h (route m other) m (if b then view i m else None)
          go true e =
              subst (λ r. HandsSame h r m (view i m)) (sym kept)
              (subst (λ b. HandsSame h (route m response) m (cond b (bound_view (source_of m) m (first_value schema ws i)) (option_map (λ r. settled (Some m) r.value) (last_of i (all_resolved schema ws))))) (sym e) (bound_back i m at e))
          go false e = let t = m.node.traits in subst (λ s. HandsSame h (route_at s m other) m None) (sym (source_unbound t.http_header t.http_prefix_headers t.http_response_code t.http_payload e)) refl

      one : payloads (members_of schema) ≤ 1
      one = leb-true _ 1 (and_parts (has_at_most_one (λ t. t.http_payload) schema) (is_sound_payload (response_payload_kind schema) (has_response_body_member schema)) checked.payload).0

      all : IsHanded (routed other (body_part schema other false) (Some h) (members_of schema)) (made_from (bound_part view) 0 (members_of schema) ++ left.writes)
      all =
          joined other h (body_part schema other false) left.writes (bound_part view) true 0 (members_of schema)
          (all_placed (λ p. HandsSame h (route p.1 other) p.1 (bound_part view p.0 p.1)) 0 (members_of schema)
          (λ j m at. let none_more : 0 + j ≡ j = omega arith in part (0 + j) m (ap (member_at schema) none_more ∙ sym (members_by_position schema checked.cited j) ∙ at) (same_route j m at)))
          one left.handed (λ some. subst (IsHanded nothing) (sym (left.alone some)) (record { without_refusal = refl; members = tt }))

module _ (protocol : Protocol) (holds : List ℕ → Option Held) (lawful : IsLawfulText protocol.text_of holds) where
  pub outputs_are_read_back : OutputsAreReadBack protocol holds
  outputs_are_read_back schema ws code response h policy is = all_back protocol holds lawful schema ws code response h is response policy (λ j m at. refl)

  pub outputs_are_read_back_beside : AreReadBackBeside protocol holds
  outputs_are_read_back_beside schema ws code response policy d other bytes is some alike =
      subst (λ listing. HandsOut listing (answer_view schema ws)) (sym same_listing)
      (all_back protocol holds lawful schema ws code response (held.document d) is (with_body bytes response) policy (λ j m at. route_kept m response bytes (unpaid j m at)))
    where
      none : has_payload schema ≡ false
      none = no_payload schema (IsCheckedOutput-from_test schema is.checked) some

      unpaid : (j : ℕ) (m : Schema) → slice_get (members_of schema) j ≡ Some m → m.node.traits.http_payload ≡ false
      unpaid j m at = false_from_ne_true m.node.traits.http_payload (λ e. let q : false ≡ true = sym none ∙ any_get (λ m. m.node.traits.http_payload) (members_of schema) j m at e in cc q)

      same_listing : handed schema (with_body bytes response) (held.document other) false policy ≡ handed schema (with_body bytes response) (held.document d) false policy
      same_listing =
          sym (transport_is_heard schema (with_body bytes response) other false policy none)
          ∙ ap (λ x. handed schema (with_body bytes response) (held.document x) false policy) alike
          ∙ transport_is_heard schema (with_body bytes response) d false policy none
