-- The document of a value that follows its node, read by the node, gives the value's normal form.
use Rattle.smithy_document.proofs.Common.{◌≡◌, refl, sym, ap, ap₂, subst, ◌∙◌, ℕ, true, ◌&&◌, List, [], ◌∷◌, ◌++◌, map, find, Option, Some, None, option_and_then, is_some, Result, Ok, flat_map, AllByRecursion, option_map_or, result_err, and_parts, are_distinct, then_try, then_give, Document, Members, items_of, members_of, list_of_items, Schema, element_of, key_of, value_of, shape, Scalar, Value, Write, Writes, scalar, list, structure, no_writes, write, list_of, writes_of, label_of, keys_of, is_in_range, kind_takes, fits, document_of, elements_of, entries_of, fields_of, scalar_document, Held, elements, entries, fields, known, settled, settled_elements, settled_fields, settled_entries, own_label, in_key_order, entry_writes, is_shaped, are_shaped, are_fields_shaped, are_entries_shaped, fits_at, has_distinct_fields, named_member, is_named, is_kind, no_label, all_read, write_by, entry_by, value_read, value_of_structure, list_by, map_by, SerdeError, Stands, Follows, HasDocument, HasCanonicalDocument, NormalFormHasDocument, ReadsNormalForm, ReadsNormalStructure, TellsNormalForm, TellsApartNormalForms}
use Rattle.smithy_types.specs.Documents as doc
use Rattle.smithy_ids.specs.declared.shape_type.ShapeType.{ShapeType}
use Rattle.smithy_ids.specs.declared.shape_type.ShapeType.TheVariants as kind
use Rattle.smithy_schema.specs.Nodes.{members_of as nodes_of}
use Rattle.smithy_serde.specs.Values as value
use Rattle.smithy_serde.specs.Held as held
use Rattle.smithy_serde.specs.IndexOrder.{in_order}
use Rattle.smithy_serde.specs.ValueRead.{joined}
use Rattle.smithy_document.proofs.FieldOrder.{Named, field_write, fields_in_order, last_in_order}
use Rattle.smithy_document.proofs.OrderedPairs.{Pairs, all_put, Beside, Aligned, all_aligned, all_ascend}
use Rattle.smithy_document.proofs.NamedPairs.{try_gave, give_gave, entries_ordered, members_ordered, EntriesHave, BehindHave, entries_paired, FieldsHave, fields_paired}
use Rattle.smithy_document.proofs.StandingNodes.{Standing, stands_cited, stands_shape, members_in_turn, found_stands, named_found}
use Rattle.smithy_document.proofs.NormalDocuments.{normal_document}
use Rattle.smithy_document.proofs.ShapedCanonical.{canonical_document}
use Rattle.smithy_document.proofs.ShapedDocuments.{has_document}
use Rattle.smithy_document.proofs.ShapedScalars.{taken, read_by_kind, scalar_read}

-- ---- what is read of a document

-- the node reads the document as the value
abbrev Given : Option Schema → Value → Document → Type 0
Given None s d = ⊥
Given (Some n) s d = value_read n (held.document d) ≡ Ok s

abbrev Back : Option Schema → Value → Type 0
Back here v = Standing here → (d : Document) → is_shaped here v ≡ true → document_of v ≡ Ok d → Given here (settled here v) d

scalar_back : (here : Option Schema) (x : Scalar) → Back here (scalar x)
scalar_back None x stands d shaped e = absurd stands
scalar_back (Some n) x stands d shaped e =
    let same : scalar_document x ≡ d = cc e in
    ap (λ y. value_read n (held.document y)) (sym same) ∙ scalar_read n x shaped

-- ---- lists

abbrev EachBack : Option Schema → Writes → Type 0
EachBack element no_writes = Unit {0}
EachBack element (write l v ws) = Back element v × EachBack element ws

elements_back : (e : Schema) (ws : Writes) (ds : List Document) → Stands e → EachBack (Some e) ws → are_shaped (Some e) ws ≡ true → elements_of ws ≡ Ok ds
    → all_read (λ x. then_give (value_read e x) (write_by e)) (map (λ d. held.document d) (list_of_items (items_of ds))) ≡ Ok (list_of (settled_elements (Some e) ws))
elements_back e no_writes ds stands each shaped p = let same : [] ≡ ds = cc p in ap (λ xs. all_read (λ x. then_give (value_read e x) (write_by e)) (map (λ d. held.document d) (list_of_items (items_of xs)))) (sym same)
elements_back e (write l v ws) ds stands each shaped p =
    let g = try_gave (document_of v) (λ d. then_give (elements_of ws) λ es. d ∷ es) ds p in
    let h = give_gave (elements_of ws) (λ es. g.x ∷ es) ds g.rest in
    let r : Ok (g.x ∷ h.x) ≡ Ok ds = h.rest in
    let same : g.x ∷ h.x ≡ ds = cc r in
    let s = and_parts (is_shaped (Some e) v) (are_shaped (Some e) ws) shaped in
    ap (λ xs. all_read (λ x. then_give (value_read e x) (write_by e)) (map (λ d. held.document d) (list_of_items (items_of xs)))) (sym same)
    ∙ ap₂ (λ r q. then_try (then_give r (write_by e)) (λ y. then_give q (λ ys. y ∷ ys))) (each.0 stands g.x s.0 g.first) (elements_back e ws h.x stands each.1 s.1 h.first)

writes_back : (ws : Writes) → writes_of (list_of ws) ≡ ws
writes_back no_writes = refl
writes_back (write l v ws) = ap (write l v) (writes_back ws)

list_back : (here : Option Schema) (ws : Writes) → EachBack (option_and_then element_of here) ws → Back here (list ws)
unfolding elements
list_back None ws each stands d shaped p = absurd stands
list_back (Some n) ws each stands d shaped p =
    let a = and_parts (fits_at (Some n) (list ws) && is_some (element_of n)) (are_shaped (element_of n) ws) shaped in
    let b = and_parts (fits_at (Some n) (list ws)) (is_some (element_of n)) a.0 in
    go (element_of n) refl each b.0 b.1 a.1 (stands_cited n n.node.element stands.table)
  where
    go : (o : Option Schema) → element_of n ≡ o → EachBack o ws → fits_at (Some n) (list ws) ≡ true → is_some o ≡ true → are_shaped o ws ≡ true → (is_some o ≡ true → Standing o) → value_read n (held.document d) ≡ Ok (list (settled_elements o ws))
    go None is each fit there shaped_ws standing = absurd (cc there)
    go (Some e) is each fit there shaped_ws standing =
        let g = give_gave (elements_of ws) (λ ds. doc.array (items_of ds)) d p in
        let r : Ok (doc.array (items_of g.x)) ≡ Ok d = g.rest in
        let same : doc.array (items_of g.x) ≡ d = cc r in
        ap (λ y. value_read n (held.document y)) (sym same)
        ∙ read_by_kind n kind.List (held.document (doc.array (items_of g.x))) (taken n (list ws) kind.List fit refl refl) refl
        ∙ ap (λ o. list_by value_read n o (held.document (doc.array (items_of g.x)))) is
        ∙ ap (λ r. then_give r (λ ws. list (writes_of ws))) (elements_back e ws g.x (standing refl) each shaped_ws g.first)
        ∙ ap (λ ws. Ok (list ws)) (writes_back (settled_elements (Some e) ws))

-- ---- maps

entries_given : (k e : Schema) (es : List Named) (ps : Pairs Document) → Aligned (λ name. Given (Some e)) es ps
    → all_read (λ (x : List ℕ × Held). then_give (value_read e x.1) (entry_by k e x.0)) (map {B = List ℕ × Held} (λ m. (m.0, held.document m.1)) ps) ≡ Ok (map (λ x. entry_by k e x.0 x.1) es)
entries_given k e [] [] aligned = refl
entries_given k e [] (p ∷ ps) aligned = absurd aligned
entries_given k e (x ∷ es) [] aligned = absurd aligned
entries_given k e (x ∷ es) (p ∷ ps) aligned =
    ap₂ (λ r q. then_try (then_give r (entry_by k e p.0)) (λ y. then_give q (λ ys. y ∷ ys))) aligned.1 (entries_given k e es ps aligned.2)
    ∙ ap (λ n. Ok (entry_by k e n x.1 ∷ map (λ x. entry_by k e x.0 x.1) es)) (sym aligned.0)

entries_written : (k e : Schema) (es : List Named) → writes_of (joined (map (λ x. entry_by k e x.0 x.1) es)) ≡ entry_writes (label_of k) (label_of e) es
entries_written k e [] = refl
entries_written k e (x ∷ es) = ap (λ ws. write (label_of k) (scalar (value.text x.0)) (write (label_of e) x.1 ws)) (entries_written k e es)

map_back : (here : Option Schema) (ws : Writes) → EntriesHave (Back (option_and_then value_of here)) ws → Back here (value.map ws)
unfolding entries
map_back None ws back stands d shaped p = absurd stands
map_back (Some n) ws back stands d shaped p =
    let here = fits_at (Some n) (value.map ws) in
    let a = and_parts (here && is_kind kind.String (key_of n) && is_some (value_of n) && are_distinct (keys_of ws)) (are_entries_shaped (value_of n) ws) shaped in
    let b = and_parts (here && is_kind kind.String (key_of n) && is_some (value_of n)) (are_distinct (keys_of ws)) a.0 in
    let c = and_parts (here && is_kind kind.String (key_of n)) (is_some (value_of n)) b.0 in
    let f = and_parts here (is_kind kind.String (key_of n)) c.0 in
    go (key_of n) (value_of n) refl refl back f.0 f.1 c.1 a.1 (stands_cited n n.node.value stands.table)
  where
    go : (k o : Option Schema) → key_of n ≡ k → value_of n ≡ o → EntriesHave (Back o) ws → fits_at (Some n) (value.map ws) ≡ true → is_kind kind.String k ≡ true → is_some o ≡ true → are_entries_shaped o ws ≡ true → (is_some o ≡ true → Standing o)
        → value_read n (held.document d) ≡ Ok (value.map (entry_writes (own_label k no_label) (own_label o no_label) (in_key_order (settled_entries o ws))))
    go None o key is back fit text there shaped_ws standing = absurd (cc text)
    go (Some k) None key is back fit text there shaped_ws standing = absurd (cc there)
    go (Some k) (Some e) key is back fit text there shaped_ws standing =
        let g = give_gave (entries_of ws) (λ ps. doc.object (members_of ps)) d p in
        let r : Ok (doc.object (members_of g.x)) ≡ Ok d = g.rest in
        let same : doc.object (members_of g.x) ≡ d = cc r in
        let paired = entries_paired (λ name. Given (Some e)) (Back (Some e)) (Some e) (λ name v x has sh h. has (standing refl) x sh h) ws g.x back shaped_ws g.first in
        let aligned = all_aligned (λ name. Given (Some e)) (settled_entries (Some e) ws) g.x [] [] paired tt in
        let es = all_put (settled_entries (Some e) ws) [] in
        ap (λ y. value_read n (held.document y)) (sym same)
        ∙ read_by_kind n kind.Map (held.document (doc.object (members_of g.x))) (taken n (value.map ws) kind.Map fit refl refl) refl
        ∙ ap₂ (λ x y. map_by value_read n x y (held.document (doc.object (members_of g.x)))) key is
        ∙ ap (λ (ps : Pairs Document). then_give (all_read (λ (x : List ℕ × Held). then_give (value_read e x.1) (entry_by k e x.0)) (map {B = List ℕ × Held} (λ m. (m.0, held.document m.1)) ps)) (λ es. value.map (writes_of (joined es)))) (members_ordered g.x)
        ∙ ap (λ r. then_give r (λ es. value.map (writes_of (joined es)))) (entries_given k e es (all_put g.x []) aligned)
        ∙ ap (λ ws. Ok (value.map ws)) (entries_written k e es)
        ∙ ap (λ es. Ok (value.map (entry_writes (label_of k) (label_of e) es))) (sym (entries_ordered (settled_entries (Some e) ws)))

-- ---- structures

-- the member of a name reads the document as the value
abbrev GivenByName : List Schema → Beside Value Document
GivenByName ms name s d = Given (find (is_named (Some name)) ms) s d

fields_given : (s : Schema) (es : List Named) (ps : Pairs Document) → Aligned (GivenByName (nodes_of s)) es ps
    → all_read (λ (x : Schema × Held). then_give (value_read x.0 x.1) (write_by x.0)) (flat_map (known s) ps) ≡ Ok (map (field_write (nodes_of s)) es)
fields_given s [] [] aligned = refl
fields_given s [] (p ∷ ps) aligned = absurd aligned
fields_given s (e ∷ es) [] aligned = absurd aligned
fields_given s (e ∷ es) (p ∷ ps) aligned =
    ap (λ o. all_read read (option_map_or (λ m. (m, held.document p.1) ∷ []) o [] ++ flat_map (known s) ps)) (named_found s p.0 ∙ ap (λ n. find (is_named (Some n)) (nodes_of s)) (sym aligned.0))
    ∙ go (find (is_named (Some e.0)) (nodes_of s)) aligned.1 (fields_given s es ps aligned.2)
  where
    read : Schema × Held → Result Write SerdeError
    read x = then_give (value_read x.0 x.1) (write_by x.0)

    go : (o : Option Schema) → Given o e.1 p.1 → all_read read (flat_map (known s) ps) ≡ Ok (map (field_write (nodes_of s)) es)
        → all_read read (option_map_or (λ m. (m, held.document p.1) ∷ []) o [] ++ flat_map (known s) ps) ≡ Ok (record { label = option_map_or label_of o no_label; value = e.1 } ∷ map (field_write (nodes_of s)) es)
    go None given rest = absurd given
    go (Some m) given rest = ap₂ (λ r q. then_try (then_give r (write_by m)) (λ y. then_give q (λ ys. y ∷ ys))) given rest

-- each of the names is a member's
all_named : (nodes : List Schema) (es : List Named) (ps : Pairs Document) → Aligned (GivenByName nodes) es ps → AllByRecursion (λ e. is_some (find (is_named (Some e.0)) nodes) ≡ true) es
all_named nodes [] ps aligned = tt
all_named nodes (e ∷ es) [] aligned = absurd aligned
all_named nodes (e ∷ es) (p ∷ ps) aligned = (go (find (is_named (Some e.0)) nodes) aligned.1, all_named nodes es ps aligned.2)
  where
    go : (o : Option Schema) → Given o e.1 p.1 → is_some o ≡ true
    go None given = absurd given
    go (Some m) given = refl

-- a structure is read by a structure's or a union's members
read_by_members : (n : Schema) (ms : Members) → kind_takes n.node.kind kind.Structure ≡ true → value_read n (held.document (doc.object ms)) ≡ value_of_structure value_read (shape n) (held.document (doc.object ms))
read_by_members n ms takes = go n.node.kind refl takes
  where
    go : (k : ShapeType) → n.node.kind ≡ k → kind_takes k kind.Structure ≡ true → value_read n (held.document (doc.object ms)) ≡ value_of_structure value_read (shape n) (held.document (doc.object ms))
    go kind.Structure is e = read_by_kind n kind.Structure (held.document (doc.object ms)) is refl
    go kind.Union is e = read_by_kind n kind.Union (held.document (doc.object ms)) is refl
    go _ is e = absurd (cc e)

structure_back : (here : Option Schema) (ws : Writes) → FieldsHave Back here ws → Back here (structure ws)
unfolding fields
structure_back None ws back stands d shaped p = absurd stands
structure_back (Some n) ws back stands d shaped p =
    let a = and_parts (fits_at (Some n) (structure ws) && has_distinct_fields (Some n)) (are_fields_shaped (Some n) ws) shaped in
    let b = and_parts (fits_at (Some n) (structure ws)) (has_distinct_fields (Some n)) a.0 in
    let g = give_gave (fields_of ws) (λ ps. doc.object (members_of ps)) d p in
    let r : Ok (doc.object (members_of g.x)) ≡ Ok d = g.rest in
    let same : doc.object (members_of g.x) ≡ d = cc r in
    let nodes = nodes_of (shape n) in
    let paired = fields_paired (GivenByName nodes) Back (Some n) (λ name v x has there sh h. has (found_stands (shape n).table (Some name) (shape n).node.members (stands_shape n stands).table there) x sh h) ws g.x back a.1 g.first in
    let es = all_put (settled_fields (Some n) ws) [] in
    let aligned = all_aligned (GivenByName nodes) (settled_fields (Some n) ws) g.x [] [] paired tt in
    let order = fields_in_order nodes es (members_in_turn (shape n) (stands_shape n stands)) b.1 (all_ascend (settled_fields (Some n) ws) [] tt) (all_named nodes es (all_put g.x []) aligned) in
    ap (λ y. value_read n (held.document y)) (sym same)
    ∙ read_by_members n (members_of g.x) (and_parts (is_in_range (structure ws)) (fits n.node.kind (structure ws)) b.0).1
    ∙ ap (λ (ps : Pairs Document). then_give (all_read (λ (x : Schema × Held). then_give (value_read x.0 x.1) (write_by x.0)) (flat_map (known (shape n)) ps)) (λ ws. structure (writes_of (in_order ws)))) (members_ordered g.x)
    ∙ ap (λ r. then_give r (λ ws. structure (writes_of (in_order ws)))) (fields_given (shape n) es (all_put g.x []) aligned)
    ∙ ap (λ ws. Ok (structure (writes_of ws))) (order ∙ last_in_order (settled_fields (Some n) ws) nodes)

-- ---- all of them

mutual
  reads : (here : Option Schema) (v : Value) → Back here v
  reads here (scalar x) = scalar_back here x
  reads here (list ws) = list_back here ws (each_reads (option_and_then element_of here) ws)
  reads here (value.map ws) = map_back here ws (entries_read (option_and_then value_of here) ws)
  reads here (structure ws) = structure_back here ws (fields_read here ws)

  each_reads : (element : Option Schema) (ws : Writes) → EachBack element ws
  each_reads element no_writes = tt
  each_reads element (write l v ws) = (reads element v, each_reads element ws)

  entries_read : (values : Option Schema) (ws : Writes) → EntriesHave (Back values) ws
  entries_read values no_writes = tt
  entries_read values (write k key ws) = behind_reads values ws

  behind_reads : (values : Option Schema) (ws : Writes) → BehindHave (Back values) ws
  behind_reads values no_writes = tt
  behind_reads values (write l v ws) = (reads values v, entries_read values ws)

  fields_read : (here : Option Schema) (ws : Writes) → FieldsHave Back here ws
  fields_read here no_writes = tt
  fields_read here (write l v ws) = (reads (named_member here l.member_name) v, fields_read here ws)

pub reads_normal_form : ReadsNormalForm
reads_normal_form n v d stands follows told = reads (Some n) v stands d follows told

pub reads_normal_structure : ReadsNormalStructure
reads_normal_structure n ws d stands follows told =
    let g = give_gave (fields_of ws) (λ ps. doc.object (members_of ps)) d told in
    let r : Ok (doc.object (members_of g.x)) ≡ Ok d = g.rest in
    let same : doc.object (members_of g.x) ≡ d = cc r in
    let fit = and_parts (fits_at (Some n) (structure ws)) (has_distinct_fields (Some n)) (and_parts (fits_at (Some n) (structure ws) && has_distinct_fields (Some n)) (are_fields_shaped (Some n) ws) follows).0 in
    let members = read_by_members n (members_of g.x) (and_parts (is_in_range (structure ws)) (fits n.node.kind (structure ws)) fit.0).1 in
    subst (λ y. value_of_structure value_read (shape n) (held.document y) ≡ value_read n (held.document y)) same (sym members) ∙ reads_normal_form n (structure ws) d stands follows told

pub has_no_fault : HasDocument
has_no_fault n v follows = ap result_err (has_document n v follows).1

pub has_canonical : HasCanonicalDocument
has_canonical n v d follows told = canonical_document n v d follows told

pub normal_form_document : NormalFormHasDocument
normal_form_document n v follows =
    let d = has_document n v follows in
    normal_document n v d.0 follows d.1 ∙ sym d.1

one_form : (n : Schema) (v w : Value) → Stands n → Follows n v → Follows n w → document_of v ≡ document_of w → settled (Some n) v ≡ settled (Some n) w
one_form n v w stands first second same =
    let d = has_document n v first in
    let both : Ok (settled (Some n) v) ≡ Ok (settled (Some n) w) =
    sym (reads_normal_form n v d.0 stands first d.1) ∙ reads_normal_form n w d.0 stands second (sym same ∙ d.1) in
    cc both

pub tells_normal_form : TellsNormalForm
tells_normal_form n v w stands first second =
    (one_form n v w stands first second, λ same. sym (normal_form_document n v first) ∙ ap document_of same ∙ normal_form_document n w second)

pub tells_apart_normal_forms : TellsApartNormalForms
tells_apart_normal_forms n v w stands first second same =
    one_form n v w stands first second (sym (normal_form_document n v first) ∙ same ∙ normal_form_document n w second)
