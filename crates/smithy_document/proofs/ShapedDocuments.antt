-- A value that follows its node has a document.
use Rattle.smithy_document.proofs.Common.{◌≡◌, refl, sym, ap, ◌∙◌, ℕ, true, false, ◌&&◌, List, [], ◌∷◌, find, Option, Some, None, option_and_then, is_some, ok_or, Result, Ok, and_parts, are_distinct, then_try, then_give, Document, items_of, members_of, Schema, element_of, key_of, value_of, Label, Value, Writes, scalar, list, structure, no_writes, write, keys_of, is_in_range, fits, fits_in_range, DocumentFault, no_member_name, document_of, elements_of, entries_of, entries_behind, fields_of, field_name, key_text, scalar_document, known, is_shaped, are_shaped, are_fields_shaped, are_entries_shaped, are_values_shaped, fits_at, fields_at, has_distinct_fields, named_member, is_named, is_kind}
use Rattle.smithy_types.specs.Documents as doc
use Rattle.smithy_ids.specs.declared.shape_type.ShapeType.TheVariants as kind
use Rattle.smithy_serde.specs.Values as value
use Rattle.smithy_document.proofs.NamedPairs.{text_form}

-- what a result gives
abbrev pub Gives : {A : Type 0} → Result A DocumentFault → Type 0
Gives {A = A} r = (x : A) × (r ≡ Ok x)

pub gives_map : {A B : Type 0} (r : Result A DocumentFault) (f : A → B) → Gives r → Gives (then_give r f)
gives_map {A = A} {B = B} r f x = (f x.0, ap (λ (q : Result A DocumentFault). then_give q f) x.1)

pub gives_try : {A B : Type 0} (r : Result A DocumentFault) (f : A → Result B DocumentFault) (x : Gives r) → Gives (f x.0) → Gives (then_try r f)
gives_try {A = A} {B = B} r f x y = (y.0, ap (λ (q : Result A DocumentFault). then_try q f) x.1 ∙ y.1)

pub none_named : (ms : List Schema) → find (is_named None) ms ≡ None
none_named [] = refl
none_named (m ∷ ms) = none_named ms

pub named_field : (here : Option Schema) (l : Label) → is_some (named_member here l.member_name) ≡ true → Gives (field_name l)
named_field here l known = go l.member_name known
  where
    go : (o : Option (List ℕ)) → is_some (named_member here o) ≡ true → Gives (ok_or o (no_member_name l.full_name))
    go None h = let q : false ≡ true = sym (ap is_some (none_named (fields_at here))) ∙ h in absurd (cc q)
    go (Some n) h = (n, refl)

mutual
  shaped_document : (here : Option Schema) (v : Value) → is_shaped here v ≡ true → Gives (document_of v)
  shaped_document here (scalar x) e = (scalar_document x, refl)
  shaped_document here (list ws) e =
      let element : Option Schema = option_and_then element_of here in
      gives_map (elements_of ws) (λ ds. doc.array (items_of ds)) (elements_documented element ws (and_parts (fits_at here (list ws) && is_some element) (are_shaped element ws) e).1)
  shaped_document here (value.map ws) e =
      let values : Option Schema = option_and_then value_of here in
      gives_map (entries_of ws) (λ ps. doc.object (members_of ps)) (entries_documented values ws
      (and_parts (fits_at here (value.map ws) && is_kind kind.String (option_and_then key_of here) && is_some values && are_distinct (keys_of ws)) (are_entries_shaped values ws) e).1)
  shaped_document here (structure ws) e =
      gives_map (fields_of ws) (λ ps. doc.object (members_of ps)) (fields_documented here ws (and_parts (fits_at here (structure ws) && has_distinct_fields here) (are_fields_shaped here ws) e).1)

  elements_documented : (element : Option Schema) (ws : Writes) → are_shaped element ws ≡ true → Gives (elements_of ws)
  elements_documented element no_writes e = ([], refl)
  elements_documented element (write l v ws) e =
      let parts = and_parts (is_shaped element v) (are_shaped element ws) e in
      let d = shaped_document element v parts.0 in
      gives_try (document_of v) (λ d. then_give (elements_of ws) λ ds. d ∷ ds) d (gives_map (elements_of ws) (λ ds. d.0 ∷ ds) (elements_documented element ws parts.1))

  fields_documented : (here : Option Schema) (ws : Writes) → are_fields_shaped here ws ≡ true → Gives (fields_of ws)
  fields_documented here no_writes e = ([], refl)
  fields_documented here (write l v ws) e =
      let a = and_parts (is_some (named_member here l.member_name) && is_shaped (named_member here l.member_name) v) (are_fields_shaped here ws) e in
      let b = and_parts (is_some (named_member here l.member_name)) (is_shaped (named_member here l.member_name) v) a.0 in
      let d = shaped_document (named_member here l.member_name) v b.1 in
      let n = named_field here l b.0 in
      gives_try (document_of v) (λ d. then_try (field_name l) λ name. then_give (fields_of ws) λ ps. (name, d) ∷ ps) d
      (gives_try (field_name l) (λ name. then_give (fields_of ws) λ ps. (name, d.0) ∷ ps) n (gives_map (fields_of ws) (λ ps. (n.0, d.0) ∷ ps) (fields_documented here ws a.1)))

  entries_documented : (values : Option Schema) (ws : Writes) → are_entries_shaped values ws ≡ true → Gives (entries_of ws)
  entries_documented values no_writes e = ([], refl)
  entries_documented values (write k key ws) e =
      let parts = and_parts (fits_in_range kind.String key) (are_values_shaped values ws) e in
      let x = text_form key (and_parts (is_in_range key) (fits kind.String key) parts.0).1 in
      gives_try (document_of key) (λ d. then_try (key_text d) λ n. entries_behind n ws) (doc.string x.0, ap document_of x.1)
      (gives_try (key_text (doc.string x.0)) (λ n. entries_behind n ws) (x.0, refl) (behind_documented values x.0 ws parts.1))

  behind_documented : (values : Option Schema) (key : List ℕ) (ws : Writes) → are_values_shaped values ws ≡ true → Gives (entries_behind key ws)
  behind_documented values key no_writes e = absurd (cc e)
  behind_documented values key (write l v ws) e =
      let parts = and_parts (is_shaped values v) (are_entries_shaped values ws) e in
      let d = shaped_document values v parts.0 in
      gives_try (document_of v) (λ d. then_give (entries_of ws) λ ps. (key, d) ∷ ps) d (gives_map (entries_of ws) (λ ps. (key, d.0) ∷ ps) (entries_documented values ws parts.1))

pub has_document : (n : Schema) (v : Value) → is_shaped (Some n) v ≡ true → (d : Document) × (document_of v ≡ Ok d)
has_document n v e = shaped_document (Some n) v e
