-- A document, level by level.
use Rattle.std.proofs.Common.{◌≡◌, List, [], ◌∷◌, ◌++◌, map, String, Vec, BTreeMap, Global, Ordering, Less, Equal, Greater, string_bytes, string_cmp, refl, ap, rules}
use Rattle.std.specs.Ordering.{match_ordering}
use Rattle.std.specs.BTreeMap.{insert_entry}
use Rattle.smithy_types.specs.Documents as doc
use Rattle.smithy_types.specs.Documents.{put, items_of}
use Rattle.smithy_types.specs.Documents.{items_snoc}
use Rattle.smithy_types.specs.views.DocumentView.{view, items_view, members_view, members_of}
use Rattle.smithy_types.specs.declared.document.Document.{Document, the_lemmas}
use Rattle.smithy_types.specs.declared.document.Document.TheViews.{roll-Documents, roll-Members}
use Rattle.smithy_types.specs.declared.document.Documents.{Documents, out-Documents}
use Rattle.smithy_types.specs.declared.document.Members.{Members, out-Members}

pub items_rolled : (v : Vec Document Global) → items_view (roll-Documents record { items = v }) ≡ items_of (map view v.items)
items_rolled v = search (rules, the_lemmas)

pub items_out : (ds : Documents) → items_view ds ≡ items_of (map view (out-Documents ds).items.items)
items_out ds = search (rules, the_lemmas)

abbrev pub Entry : Type 0
Entry = String Global × Document

abbrev pub entries_view : List Entry → doc.Members
entries_view es = members_of (map (λ m. (m.0, view m.1)) es)

pub members_rolled : (m : BTreeMap (String Global) Document) → members_view (roll-Members record { entries = m }) ≡ entries_view m.entries
members_rolled m = search (rules, the_lemmas)

pub members_out : (ms : Members) → members_view ms ≡ entries_view (out-Members ms).entries.entries
members_out ms = search (rules, the_lemmas)

pub items_of-snoc : (ds : List doc.Document) (d : doc.Document) → items_of (ds ++ d ∷ []) ≡ items_snoc (items_of ds) d
items_of-snoc [] d = refl
items_of-snoc (e ∷ ds) d = ap (doc.item e) (items_of-snoc ds d)

pub items_pushed : (ds : List Document) (d : Document) → items_of (map view (ds ++ d ∷ [])) ≡ items_snoc (items_of (map view ds)) (view d)
items_pushed [] d = refl
items_pushed (e ∷ ds) d = ap (doc.item (view e)) (items_pushed ds d)

-- an entry that is put before others, in the place of the first, or behind it
module _ (e new : Entry) (es later : List Entry) (rest : doc.Members) where
  put_here : (o : Ordering) → entries_view later ≡ rest
      → entries_view (match_ordering o (new ∷ e ∷ es) ((e.0, new.1) ∷ es) (e ∷ later))
      ≡ match_ordering o (entries_view (new ∷ e ∷ es)) (entries_view ((e.0, new.1) ∷ es)) (doc.member (string_bytes e.0) (view e.1) rest)
  put_here Less same = refl
  put_here Equal same = refl
  put_here Greater same = ap (doc.member (string_bytes e.0) (view e.1)) same

-- what a map has after an insertion
pub entries_inserted : (k : String Global) (v : Document) (es : List Entry) → entries_view (insert_entry string_cmp es k v) ≡ put (string_bytes k) (view v) (entries_view es)
entries_inserted k v [] = refl
entries_inserted k v (e ∷ es) = put_here e (k, v) es (insert_entry string_cmp es k v) _ (string_cmp k e.0) (entries_inserted k v es)
