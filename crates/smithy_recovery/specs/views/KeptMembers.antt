-- What is kept of the members of a request, by whichever reading it was cut.
use Rattle.std.specs.Prelude.{◌≡◌, ℕ, Bool, true, List, [], ◌++◌, map, Option, Some, None, Result, filter_map, option_map, option_and_then, IsTrue, IfOk}
use Rattle.std.specs.List.{cons_option, enumerate_from, list_any}
use Rattle.std.specs.Option.{option_map_or}
use Rattle.smithy_types.specs.Documents.{Document}
use Rattle.smithy_http.specs.Facts.{query_pieces}
use Rattle.smithy_http.specs.Requests.{Request}
use Rattle.smithy_schema.specs.Nodes.{Schema, Table, at_place, members_of, Binding, binding_of}
use Rattle.smithy_schema.specs.References.{schema_of}
use Rattle.smithy_schema.specs.declared.parts.SchemaIndex.{SchemaIndex}
use Rattle.smithy_schema.specs.declared.schema_ref.SchemaRef.{SchemaRef}
use Rattle.smithy_schema.specs.Templates.{Template}
use Rattle.smithy_serde.specs.Held.{Held}
use Rattle.smithy_serde.specs.StoredValues.{writes_in, with_write, AreDefined, StaysDefined, StaysDefinedWith}
use Rattle.smithy_serde.specs.Values.{Value, Write, list_of}
use Rattle.smithy_serde.specs.ValueRead.{write_by}
use Rattle.smithy_serde.specs.declared.value.ShapeValue.{ShapeValue}
use Rattle.smithy_serde.specs.declared.value.WriteList.{WriteList}
use Rattle.smithy_strings.specs.Escapes.{escape}
use Rattle.smithy_binding.specs.Bindings.{query_names}
use Rattle.smithy_binding.specs.Checked.{has_map_kind}
use Rattle.smithy_binding.specs.Protocols.{Parts}
use Rattle.smithy_recovery.specs.BodyParts.{body_part, is_asked_at, is_asked, reads_body, is_told}
use Rattle.smithy_recovery.specs.Finding.{Finds}
use Rattle.smithy_recovery.specs.views.Keeping.{KeepsPart, KeepsWrites}
use Rattle.smithy_recovery.specs.views.Kept.{label_seen, HasTexts}
use Rattle.smithy_recovery.specs.views.KeptBodies.{KeepsPartTold, KeepsWritesTold}
use Rattle.smithy_recovery.specs.MapParts.{query_map_part}
use Rattle.smithy_recovery.specs.MemberParts.{part_writes, with_body}
use Rattle.smithy_recovery.specs.views.Pieces.{HasLeft, texts_left}
use Rattle.smithy_recovery.specs.QueryParts.{own_query, query_part}
use Rattle.smithy_recovery.specs.Recovered.{Reading, reading_by, template, part_at, read_writes, is_body_told}
use Rattle.smithy_recovery.specs.declared.error.RecoverError.{RecoverError}
use Rattle.smithy_recovery.specs.declared.member_values.CutRequest.{CutRequest}
use Rattle.smithy_recovery.specs.declared.path_texts.LabelText.{LabelText}

-- what is read of a query member under its name, behind the template's own pieces
abbrev pub query_read : CutRequest → (name : List ℕ) → Schema → Option (Option Value)
query_read cut name m = option_and_then (query_part m) (texts_left cut.own.now cut.pieces.now (escape name))

-- the map of the query beside the query members of the structure, behind the pieces of whichever template they are left by
abbrev pub KeepsQueryMap : CutRequest → Schema → Result (Option ShapeValue) RecoverError → Type 0
KeepsQueryMap cut m result =
    let target = cut.request.now.target in
    (t : Template) → HasLeft (own_query t) (query_pieces target) cut.own.now cut.pieces.now
    → KeepsPart m.table (query_map_part t (query_names (schema_of cut.schema)) m (query_pieces target)) result

-- a request as it is cut by a reading: the texts of its labels, and what is left of its query, for the members of its structure
pub record IsCutBy (r : Reading) (texts : List (List ℕ × List ℕ)) (cut : CutRequest) : Type 0 where
  pub labels : HasTexts texts cut.labels.now
  pub left : HasLeft (own_query (template r)) (query_pieces cut.request.now.target) cut.own.now cut.pieces.now
  pub schema : r.schema ≡ schema_of cut.schema

-- what a request has of a member that stands there
unfoldable pub KeepsMemberAt : (List ℕ → Option Held) → CutRequest → Binding → Schema → Result (Option ShapeValue) RecoverError → Type 0
KeepsMemberAt holds cut b m result =
    let q = cut.request.now in
    (r : Reading) (texts : List (List ℕ × List ℕ)) → r.holds ≡ holds → IsCutBy r texts cut
    → KeepsPartTold (is_told (is_asked_at b m.node.kind q.body) (holds q.body)) m.table (part_at r q texts b m) result

abbrev pub KeepsMember : (List ℕ → Option Held) → CutRequest → Schema → Result (Option ShapeValue) RecoverError → Type 0
KeepsMember holds cut m result = KeepsMemberAt holds cut (binding_of m) m result

-- a part goes behind what was written, with the node at a place
abbrev pub AddsPart : SchemaIndex → Option ShapeValue → (before after : WriteList) → Type 0
AddsPart place None before after = (t : Table) → writes_in t after ≡ writes_in t before
AddsPart place (Some v) before after = (t : Table) → writes_in t after ≡ with_write t before place v

-- each node is a defined one after it where it was before, and in the part
abbrev pub StaysDefinedBy : SchemaIndex → Option ShapeValue → (before after : WriteList) → Type 0
StaysDefinedBy place None before after = StaysDefined before after
StaysDefinedBy place (Some v) before after = StaysDefinedWith place v before after

-- what is read goes behind what was written, where it is told
pub record AddsTold {A : Type 0} (told : Bool) (t : Table) (before after : WriteList) (read : Option (List Write)) (result : Result A RecoverError) : Type 0 where
  pub writes : IsTrue told → Finds (λ _. list_of (writes_in t after)) result (option_map (λ ws. list_of (writes_in t before) ++ ws) read)
  pub defined : AreDefined t before → IfOk result (λ _. AreDefined t after)

-- the write of the member at a place, if there is one and it has something
abbrev pub write_read : (Schema → Option (Option Value)) → Option Schema → Option (List Write)
write_read part None = Some []
write_read part (Some m) = option_map (λ o. cons_option (option_map (write_by m) o) []) (part m)

-- what the codec's reader has is told, where it is asked of the member at a place
abbrev pub is_told_at : (List ℕ → Option Held) → List ℕ → Option Schema → Bool
is_told_at holds body member = option_map_or (λ m. is_told (is_asked body m) (holds body)) member true

-- the map that stands at a place, in the headers or the query, is one of texts
abbrev pub is_sound_at : Table → (place : ℕ) → Bool
is_sound_at t place = option_map_or has_map_kind (at_place t place) true

-- what a request has of a member
abbrev pub part_of : Reading → Request → List (List ℕ × List ℕ) → Schema → Option (Option Value)
part_of r q texts m = part_at r q texts (binding_of m) m

unfoldable pub AddsMember : {A : Type 0} → (List ℕ → Option Held) → CutRequest → (place : ℕ) → (before after : WriteList) → Result A RecoverError → Type 0
AddsMember holds cut place before after result =
    let q = cut.request.now in
    let t = cut.table.now in
    (r : Reading) (texts : List (List ℕ × List ℕ)) → r.holds ≡ holds → IsCutBy r texts cut
    → AddsTold (is_told_at holds q.body (at_place t place)) t before after (write_read (part_of r q texts) (at_place t place)) result

-- the writes of members in order
abbrev pub parts_read : Reading → Request → List (List ℕ × List ℕ) → List Schema → Option (List Write)
parts_read r q texts ms = part_writes (λ p. part_of r q texts p.1) (enumerate_from 0 ms)

-- the members at places
abbrev pub members_at : Table → (places : List ℕ) → List Schema
members_at t places = filter_map (at_place t) places

unfoldable pub AddsMembers : {A : Type 0} → (List ℕ → Option Held) → CutRequest → (places : List ℕ) → (before after : WriteList) → Result A RecoverError → Type 0
AddsMembers holds cut places before after result =
    let q = cut.request.now in
    let t = cut.table.now in
    let ms = members_at t places in
    (r : Reading) (texts : List (List ℕ × List ℕ)) → r.holds ≡ holds → IsCutBy r texts cut
    → AddsTold (is_told (list_any (is_asked q.body) ms) (holds q.body)) t before after (parts_read r q texts ms) result

-- those writes and the ones of the body, in index order
unfoldable pub KeepsCut : (List ℕ → Option Held) → CutRequest → Schema → Result WriteList RecoverError → Type 0
KeepsCut holds cut schema result =
    let q = cut.request.now in
    (r : Reading) (texts : List (List ℕ × List ℕ)) → r.holds ≡ holds → IsCutBy r texts cut
    → KeepsWritesTold (is_told (reads_body schema q.body) (holds q.body)) cut.table.now
    (with_body (parts_read r q texts (members_of schema)) (body_part holds schema q.body)) result

-- the same by whichever reading has these texts of the labels, and a template with this last literal
unfoldable pub KeepsLabelled : (List ℕ → Option Held) → Request → SchemaRef → (last : List ℕ) → (texts : List (List ℕ × List ℕ)) → Result WriteList RecoverError → Type 0
KeepsLabelled holds q schema last texts result =
    let s = schema_of schema in
    (r : Reading) → r.holds ≡ holds → r.schema ≡ s → query_pieces last ≡ own_query (template r)
    → KeepsWritesTold (is_told (reads_body s q.body) (holds q.body)) s.table (with_body (parts_read r q texts (members_of s)) (body_part holds s q.body)) result

abbrev pub KeepsTexts : (List ℕ → Option Held) → Request → SchemaRef → (last : List ℕ) → List LabelText → Result WriteList RecoverError → Type 0
KeepsTexts holds q schema last texts result = KeepsLabelled holds q schema last (map label_seen texts) result

-- What code reads of a request is what is read of it, where the codec's reader tells what it has.
abbrev pub ReadsTold : Reading → Request → Result WriteList RecoverError → Type 0
ReadsTold r q result = IsTrue (is_body_told r q) → KeepsWrites r.schema.table (read_writes r q) result

-- the same by the parts of a protocol
abbrev pub ReadsRequest : {C : Type 0} → (C → Document → List ℕ) → (C → List ℕ → Option Held) → Parts C → SchemaRef → (endpoint : List ℕ) → Request → Result WriteList RecoverError → Type 0
ReadsRequest text holds parts schema endpoint q result = ReadsTold (reading_by text holds parts (schema_of schema) endpoint) q result
