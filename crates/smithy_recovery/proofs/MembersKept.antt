-- What a cut request has of each member, in the words of the way back.
use Rattle.std.proofs.Common.{◌≡◌, refl, sym, ◌∙◌, ap, subst, ℕ, Bool, true, false, ◌||◌, not, List, [], ◌∷◌, ◌++◌, Option, Some, None, Result, Ok, Err, option_map, option_and_then, is_some}
use Rattle.std.specs.List.{cons_option}
use Rattle.std.proofs.lemmas.Bool.{and_parts, and_from}
use Rattle.std.proofs.lemmas.List.{append-nil}
use Rattle.smithy_ids.specs.declared.shape_type.ShapeType.TheVariants as kind
use Rattle.smithy_ids.specs.Kinds.{same_kind}
use Rattle.smithy_types.specs.Results.{each}
use Rattle.smithy_http.specs.Facts.{query_pieces}
use Rattle.smithy_schema.specs.Nodes.{Schema, Table, at_place, key_of, value_of, Binding, to_header, to_prefix, to_query, to_query_map, to_label, to_payload, to_body, binding_of}
use Rattle.smithy_schema.specs.declared.parts.SchemaIndex.{SchemaIndex}
use Rattle.smithy_serde.specs.Held.{Held}
use Rattle.smithy_serde.specs.StoredValues.{value_in, writes_in, label_at, with_write, HasNode, IsDefined, AreDefined}
use Rattle.smithy_serde.specs.Told.{appended, one_write}
use Rattle.smithy_serde.specs.Values.{Value, Writes, no_writes, write, Write, list_of}
use Rattle.smithy_serde.specs.ValueRead.{write_by, IsPlaced}
use Rattle.smithy_serde.specs.declared.value.ShapeValue.{ShapeValue}
use Rattle.smithy_serde.specs.declared.value.WriteList.{WriteList}
use Rattle.smithy_strings.specs.Escapes.{escape}
use Rattle.smithy_binding.specs.Bindings.{query_names}
use Rattle.smithy_binding.specs.Checked.{is_plain_string, is_plain_list, is_text_map, is_query_map, has_prefix_kind, has_map_kind}
use Rattle.smithy_unambiguity.proofs.Traits.{trait_of}
use Rattle.smithy_recovery.specs.BodyParts.{payload_part, is_asked_at, is_asked, is_told}
use Rattle.smithy_recovery.specs.HeaderParts.{named_header}
use Rattle.smithy_recovery.specs.views.Keeping.{KeepsPart}
use Rattle.smithy_recovery.specs.views.KeptBodies.{KeepsPartTold, KeepsPayload}
use Rattle.smithy_recovery.specs.views.KeptEntries.{has_entry_nodes}
use Rattle.smithy_recovery.specs.views.KeptLabels.{KeepsLabel}
use Rattle.smithy_recovery.specs.views.KeptMembers.{query_read, KeepsQueryMap, KeepsMemberAt, KeepsMember, AddsPart, StaysDefinedBy, AddsTold, write_read, is_told_at, part_of, AddsMember}
use Rattle.smithy_recovery.specs.MapParts.{prefix_part, query_map_part}
use Rattle.smithy_recovery.specs.QueryParts.{piece_text, pieces_named, query_texts, query_part}
use Rattle.smithy_recovery.specs.Recovered.{template}
use Rattle.smithy_recovery.specs.declared.error.RecoverError.{RecoverError}
use Rattle.smithy_recovery.specs.declared.error.RecoverError.TheVariants.{NotPlaced, OutOfMemory}
use Rattle.smithy_recovery.specs.declared.member_values.CutRequest.{CutRequest}
use Rattle.smithy_recovery.proofs.BodyTold.{part_told}
use Rattle.smithy_recovery.proofs.Collected.{placed_label, placed_node}
use Rattle.smithy_serde.proofs.ReadValue.{at_place_table}

abbrev Part : Type 0
Part = Result (Option ShapeValue) RecoverError

-- A map of texts has nodes for its entries.

plain_node : (o : Option Schema) → is_plain_string o ≡ true → is_some o ≡ true
plain_node None e = absurd (cc e)
plain_node (Some m) e = refl

list_node : (o : Option Schema) → is_plain_list o ≡ true → is_some o ≡ true
list_node None e = absurd (cc e)
list_node (Some m) e = refl

text_map_nodes : (m : Schema) → is_text_map m ≡ true → has_entry_nodes m ≡ true
text_map_nodes m e =
    let a = and_parts _ (is_plain_string (value_of m)) e in
    let b = and_parts (same_kind m.node.kind kind.Map) (is_plain_string (key_of m)) a.0 in
    and_from _ _ (plain_node (key_of m) b.1) (plain_node (value_of m) a.1)

pub query_map_nodes : (m : Schema) → is_query_map m ≡ true → has_entry_nodes m ≡ true
query_map_nodes m e =
    let a = and_parts _ (is_plain_string (value_of m) || is_plain_list (value_of m)) e in
    let b = and_parts (same_kind m.node.kind kind.Map) (is_plain_string (key_of m)) a.0 in
    and_from _ _ (plain_node (key_of m) b.1) (go (is_plain_string (value_of m)) refl a.1)
  where
    go : (t : Bool) → is_plain_string (value_of m) ≡ t → (t || is_plain_list (value_of m)) ≡ true → is_some (value_of m) ≡ true
    go true is h = plain_node (value_of m) is
    go false is h = list_node (value_of m) h

-- so does the map behind a prefix, and that of a query
pub prefix_nodes : (m : Schema) (prefix : List ℕ) → has_map_kind m ≡ true → binding_of m ≡ to_prefix prefix → has_entry_nodes m ≡ true
prefix_nodes m prefix sound is =
    let test = (and_parts (has_prefix_kind m) (not m.node.traits.http_query_params || is_query_map m) sound).0 in
    text_map_nodes m (ap (λ (o : Option (List ℕ)). not (is_some o) || is_text_map m) (sym (trait_of m (to_prefix prefix) is)) ∙ test)

pub query_nodes : (m : Schema) → has_map_kind m ≡ true → binding_of m ≡ to_query_map → has_entry_nodes m ≡ true
query_nodes m sound is =
    let test = (and_parts (has_prefix_kind m) (not m.node.traits.http_query_params || is_query_map m) sound).1 in
    query_map_nodes m (ap (λ b. not b || is_query_map m) (sym (trait_of m to_query_map is)) ∙ test)

-- The parts by the bindings.

pub by_binding : (holds : List ℕ → Option Held) (cut : CutRequest) (m : Schema) (b : Binding) (result : Part) → binding_of m ≡ b → KeepsMemberAt holds cut b m result → KeepsMember holds cut m result
by_binding holds cut m b result is kept = subst (λ b. KeepsMemberAt holds cut b m result) (sym is) kept

pub header_kept : (holds : List ℕ → Option Held) (cut : CutRequest) (m : Schema) (name : List ℕ) (headers : List (List ℕ × List ℕ)) (result : Part) → binding_of m ≡ to_header name → headers ≡ cut.request.now.headers
    → KeepsPart m.table (named_header name headers m) result → KeepsMember holds cut m result
unfolding KeepsMemberAt
header_kept holds cut m name headers result is same kept =
    by_binding holds cut m (to_header name) result is (λ r texts _ cuts. part_told _ m.table (named_header name cut.request.now.headers m) result (subst (λ hs. KeepsPart m.table (named_header name hs m) result) same kept))

pub prefix_kept : (holds : List ℕ → Option Held) (cut : CutRequest) (m : Schema) (prefix : List ℕ) (headers : List (List ℕ × List ℕ)) (result : Part) → binding_of m ≡ to_prefix prefix → headers ≡ cut.request.now.headers
    → KeepsPart m.table (prefix_part m prefix headers) result → KeepsMember holds cut m result
unfolding KeepsMemberAt
prefix_kept holds cut m prefix headers result is same kept =
    by_binding holds cut m (to_prefix prefix) result is (λ r texts _ cuts. part_told _ m.table (prefix_part m prefix cut.request.now.headers) result (subst (λ hs. KeepsPart m.table (prefix_part m prefix hs) result) same kept))

pub query_kept : (holds : List ℕ → Option Held) (cut : CutRequest) (m : Schema) (name : List ℕ) (result : Part) → binding_of m ≡ to_query name → KeepsPart m.table (query_read cut name m) result
    → KeepsMember holds cut m result
unfolding KeepsMemberAt
query_kept holds cut m name result is kept =
    by_binding holds cut m (to_query name) result is
    (λ r texts _ cuts.
    let same : query_read cut name m ≡ option_and_then (query_part m) (query_texts (template r) (pieces_named (escape name) (query_pieces cut.request.now.target)) name) =
    λ i. option_and_then (query_part m) (each piece_text (cuts.left (escape name) i)) in
    part_told _ m.table (option_and_then (query_part m) (query_texts (template r) (pieces_named (escape name) (query_pieces cut.request.now.target)) name)) result (subst (λ part. KeepsPart m.table part result) same kept))

pub query_map_kept : (holds : List ℕ → Option Held) (cut : CutRequest) (m : Schema) (result : Part) → binding_of m ≡ to_query_map → KeepsQueryMap cut m result → KeepsMember holds cut m result
unfolding KeepsMemberAt
query_map_kept holds cut m result is kept =
    by_binding holds cut m to_query_map result is
    (λ r texts _ cuts.
    part_told _ m.table _ result
    (subst (λ (s : Schema). KeepsPart m.table (query_map_part (template r) (query_names s) m (query_pieces cut.request.now.target)) result) (sym cuts.schema) (kept (template r) cuts.left)))

pub label_kept : (holds : List ℕ → Option Held) (cut : CutRequest) (m : Schema) (result : Part) → binding_of m ≡ to_label → KeepsLabel m cut.labels.now result → KeepsMember holds cut m result
unfolding KeepsMemberAt
label_kept holds cut m result is kept = by_binding holds cut m to_label result is (λ r texts _ cuts. part_told _ m.table _ result (kept m.table texts cuts.labels))

pub payload_kept_there : (holds : List ℕ → Option Held) (cut : CutRequest) (m : Schema) (t : Table) (body : List ℕ) (result : Part) → binding_of m ≡ to_payload → m.table ≡ t → body ≡ cut.request.now.body
    → KeepsPayload t holds m body result → KeepsMember holds cut m result
unfolding KeepsMemberAt
payload_kept_there holds cut m t body result is table same kept =
    let here : KeepsPayload m.table holds m cut.request.now.body result = subst (λ t. KeepsPayload t holds m cut.request.now.body result) (sym table) (subst (λ b. KeepsPayload t holds m b result) same kept) in
    by_binding holds cut m to_payload result is
    (λ r texts by cuts.
    subst (λ hs. KeepsPartTold (is_told (is_asked_at to_payload m.node.kind cut.request.now.body) (holds cut.request.now.body)) m.table (payload_part hs m cut.request.now.body) result) (sym by) here)

pub unbound_kept : (holds : List ℕ → Option Held) (cut : CutRequest) (m : Schema) → binding_of m ≡ to_body → KeepsMember holds cut m (Ok None)
unfolding KeepsMemberAt
unbound_kept holds cut m is = by_binding holds cut m to_body (Ok None) is (λ r texts _ cuts. record { part = λ _. refl; defined = tt })

-- A member's part goes behind what was written.

list_of-appended : (ws us : Writes) → list_of (appended ws us) ≡ list_of ws ++ list_of us
list_of-appended no_writes us = refl
list_of-appended (write l v ws) us = ap (λ (rest : List Write). record { label = l; value = v } ∷ rest) (list_of-appended ws us)

pub placed_there : (t : Table) (place : ℕ) (m : Schema) → at_place t place ≡ Some m → IsPlaced m.table m
placed_there t place m e = (place, subst (λ u. at_place u place ≡ Some m) (sym (at_place_table t place m e)) e)

-- the writes of a part behind others
abbrev behind : Schema → List Write → Option (Option Value) → Option (List Write)
behind m ws part = option_map (λ us. ws ++ us) (option_map (λ o. cons_option (option_map (write_by m) o) []) part)

at_member : {A : Type 0} (holds : List ℕ → Option Held) (cut : CutRequest) (place : ℕ) (m : Schema) (before after : WriteList) (part : Part) (result : Result A RecoverError) → at_place cut.table.now place ≡ Some m
    → ((told : Bool) (read : Option (Option Value)) → KeepsPartTold told cut.table.now read part → AddsTold told cut.table.now before after (option_map (λ o. cons_option (option_map (write_by m) o) []) read) result)
    → KeepsMember holds cut m part → AddsMember holds cut place before after result
unfolding AddsMember KeepsMemberAt
at_member {A} holds cut place m before after part result at adds kept = λ r texts by cuts.
    let q = cut.request.now in
    let t = cut.table.now in
    let told = is_told (is_asked q.body m) (holds q.body) in
    let here = subst (λ u. KeepsPartTold told u (part_of r q texts m) part) (at_place_table t place m at) (kept r texts by cuts) in
    subst (λ o. AddsTold {A = A} (is_told_at holds q.body o) t before after (write_read (part_of r q texts) o) result) (sym at) (adds told (part_of r q texts m) here)

value_added : {A : Type 0} (holds : List ℕ → Option Held) (cut : CutRequest) (place : SchemaIndex) (m : Schema) (before after : WriteList) (v : ShapeValue) (x : A) → at_place cut.table.now place.0 ≡ Some m
    → writes_in cut.table.now after ≡ with_write cut.table.now before place v
    → (AreDefined cut.table.now before → HasNode cut.table.now place.0 → IsDefined cut.table.now v → AreDefined cut.table.now after)
    → KeepsMember holds cut m (Ok (Some v)) → AddsMember holds cut place.0 before after (Ok x)
value_added holds cut place m before after v x at writes defined kept =
    at_member holds cut place.0 m before after (Ok (Some v)) (Ok x) at
    (λ told read h.
    record {
      writes = λ e.
          let p = h.part e in
          ap (behind m (list_of (writes_in cut.table.now before))) p.0
          ∙ ap (λ (us : List Write). Some us)
          (sym (ap list_of writes ∙ list_of-appended (writes_in cut.table.now before) (one_write (label_at cut.table.now place.0) (value_in cut.table.now v))
          ∙ ap (λ l. list_of (writes_in cut.table.now before) ++ record { label = l; value = value_in cut.table.now v } ∷ []) (placed_label cut.table.now place.0 m at)));
      defined = λ d. defined d (placed_node cut.table.now place.0 m at) h.defined;
    })
    kept

nothing_added : {A : Type 0} (holds : List ℕ → Option Held) (cut : CutRequest) (place : ℕ) (m : Schema) (before after : WriteList) (x : A) → at_place cut.table.now place ≡ Some m → writes_in cut.table.now after ≡ writes_in cut.table.now before
    → (AreDefined cut.table.now before → AreDefined cut.table.now after) → KeepsMember holds cut m (Ok None) → AddsMember holds cut place before after (Ok x)
nothing_added holds cut place m before after x at writes defined kept =
    at_member holds cut place m before after (Ok None) (Ok x) at
    (λ told read h.
    record {
      writes = λ e.
          ap (behind m (list_of (writes_in cut.table.now before))) (h.part e)
          ∙ ap (λ (us : List Write). Some us) (append-nil (list_of (writes_in cut.table.now before)) ∙ ap list_of (sym writes));
      defined = λ d. defined d;
    })
    kept

pub part_added : {A : Type 0} (holds : List ℕ → Option Held) (cut : CutRequest) (place : SchemaIndex) (m : Schema) (before after : WriteList) (part : Option ShapeValue) (x : A) → at_place cut.table.now place.0 ≡ Some m
    → AddsPart place part before after → StaysDefinedBy place part before after → KeepsMember holds cut m (Ok part) → AddsMember holds cut place.0 before after (Ok x)
part_added holds cut place m before after None x at adds stays kept = nothing_added holds cut place.0 m before after x at (adds cut.table.now) (stays cut.table.now) kept
part_added holds cut place m before after (Some v) x at adds stays kept = value_added holds cut place m before after v x at (adds cut.table.now) (stays cut.table.now) kept

pub no_member_added : {A : Type 0} (holds : List ℕ → Option Held) (cut : CutRequest) (place : ℕ) (ws : WriteList) (x : A) → at_place cut.table.now place ≡ None → AddsMember holds cut place ws ws (Ok x)
unfolding AddsMember
no_member_added {A} holds cut place ws x none = λ r texts by cuts.
    let q = cut.request.now in
    let t = cut.table.now in
    let here : AddsTold {A = A} true t ws ws (Some []) (Ok x) =
    record { writes = λ e. ap (λ (us : List Write). Some us) (append-nil (list_of (writes_in t ws))); defined = λ d. d } in
    subst (λ o. AddsTold {A = A} (is_told_at holds q.body o) t ws ws (write_read (part_of r q texts) o) (Ok x)) (sym none) here

error_adds : {A : Type 0} (told : Bool) (t : Table) (m : Schema) (before after : WriteList) (e : RecoverError) (read : Option (Option Value)) → KeepsPartTold told t read (Err e)
    → AddsTold {A = A} told t before after (option_map (λ o. cons_option (option_map (write_by m) o) []) read) (Err e)
error_adds told t m before after NotPlaced read h = record { writes = λ is. ap (behind m (list_of (writes_in t before))) (h.part is); defined = λ d. tt }
error_adds told t m before after OutOfMemory read h = record { writes = λ is. tt; defined = λ d. tt }

pub part_stops : {A : Type 0} (holds : List ℕ → Option Held) (cut : CutRequest) (place : ℕ) (m : Schema) (before after : WriteList) (e : RecoverError) (result : Result A RecoverError) → at_place cut.table.now place ≡ Some m → result ≡ Err e
    → KeepsMember holds cut m (Err e) → AddsMember holds cut place before after result
part_stops holds cut place m before after e result at is kept =
    rw is (at_member holds cut place m before after (Err e) (Err e) at (λ told read h. error_adds told cut.table.now m before after e read h) kept)

-- want of memory is free
pub memory_adds : {A : Type 0} (holds : List ℕ → Option Held) (cut : CutRequest) (place : ℕ) (before after : WriteList) (result : Result A RecoverError) → result ≡ Err OutOfMemory → AddsMember holds cut place before after result
unfolding AddsMember
memory_adds {A} holds cut place before after result is = rw is (λ r texts by cuts. record { writes = λ e. tt; defined = λ d. tt })
