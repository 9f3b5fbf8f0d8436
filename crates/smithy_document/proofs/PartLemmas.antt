-- What holds of each part of a document holds of the one at a position.
use Rattle.smithy_document.proofs.Common.{ℕ, suc, zero, ◌<◌, List, [], ◌∷◌, slice_get, ◌&&◌, IsTrue, Option, Some, None, option_map, option_and_then, arith, IfSome, AllByRecursion, lookup, and_parts, Document, nesting, items_nesting, members_nesting, list_of_items, list_of_members, is_canonical, are_canonical_items, are_canonical_members, same_text, is_before, is_in_order, are_items_in_order, are_members_in_order, Part, nameless, parts_of, Names, part_in}
use Rattle.std.proofs.lemmas.List.Elements.{All-from_recursion}
use Rattle.std.proofs.lemmas.Map.Entries.{All-lookup}
use Rattle.smithy_types.specs.Documents as doc

-- it holds of the document of each part
abbrev pub AllParts : (Document → Type 0) → List Part → Type 0
AllParts Holds ps = AllByRecursion (λ (p : Part). Holds p.1) ps

pub at_position : (Holds : Document → Type 0) (ps : List Part) (i : ℕ) → AllParts Holds ps → IfSome (option_map (λ (p : Part). p.1) (slice_get ps i)) Holds
at_position Holds [] i all = tt
at_position Holds (p ∷ ps) zero all = all.0
at_position Holds (p ∷ ps) (suc i) all = at_position Holds ps i all.1

item_at : (Holds : Document → Type 0) (ds : doc.Items) (i : ℕ) → AllParts Holds (nameless ds) → IfSome (slice_get (list_of_items ds) i) Holds
item_at Holds doc.no_items i all = tt
item_at Holds (doc.item d ds) zero all = all.0
item_at Holds (doc.item d ds) (suc i) all = item_at Holds ds i all.1

under_name : (Holds : Document → Type 0) (ps : List Part) (o : Option (List ℕ)) → AllParts Holds ps → IfSome (option_and_then (λ name. lookup (same_text name) ps) o) Holds
under_name Holds ps None all = tt
under_name Holds ps (Some name) all = All-lookup Holds (same_text name) ps (All-from_recursion (λ (p : Part). Holds p.1) ps all)

pub at_name : (Holds : Document → Type 0) (d : Document) (names : Names) (i : ℕ) → AllParts Holds (parts_of d) → IfSome (part_in d names i) Holds
at_name Holds (doc.array ds) None i all = item_at Holds ds i all
at_name Holds (doc.object ms) (Some names) i all = under_name Holds (list_of_members ms) (slice_get names.items i) all
at_name Holds _ None i all = tt
at_name Holds _ (Some names) i all = tt

-- ---- they are nested less

items_nested : (n : ℕ) (ds : doc.Items) → items_nesting ds < n → AllParts (λ d. nesting d < n) (nameless ds)
items_nested n doc.no_items h = tt
items_nested n (doc.item d ds) h = (omega arith, items_nested n ds (omega arith))

members_nested : (n : ℕ) (ms : doc.Members) → members_nesting ms < n → AllParts (λ d. nesting d < n) (list_of_members ms)
members_nested n doc.no_members h = tt
members_nested n (doc.member k d ms) h = (omega arith, members_nested n ms (omega arith))

pub parts_nested : (d : Document) → AllParts (λ x. nesting x < nesting d) (parts_of d)
parts_nested (doc.array ds) = items_nested (nesting (doc.array ds)) ds (omega arith)
parts_nested (doc.object ms) = members_nested (nesting (doc.object ms)) ms (omega arith)
parts_nested _ = tt

-- ---- they are canonical and in order, as the whole is

abbrev pub IsCanonical : Document → Type 0
IsCanonical d = IsTrue (is_canonical d)

abbrev pub IsInOrder : Document → Type 0
IsInOrder d = IsTrue (is_in_order d)

items_canonical : (ds : doc.Items) → IsTrue (are_canonical_items ds) → AllParts IsCanonical (nameless ds)
items_canonical doc.no_items h = tt
items_canonical (doc.item d ds) h = let each = and_parts (is_canonical d) (are_canonical_items ds) h in (each.0, items_canonical ds each.1)

members_canonical : (ms : doc.Members) → IsTrue (are_canonical_members ms) → AllParts IsCanonical (list_of_members ms)
members_canonical doc.no_members h = tt
members_canonical (doc.member k d ms) h = let each = and_parts (is_canonical d) (are_canonical_members ms) h in (each.0, members_canonical ms each.1)

pub parts_canonical : (d : Document) → IsCanonical d → AllParts IsCanonical (parts_of d)
parts_canonical (doc.array ds) h = items_canonical ds h
parts_canonical (doc.object ms) h = members_canonical ms h
parts_canonical _ h = tt

items_in_order : (ds : doc.Items) → IsTrue (are_items_in_order ds) → AllParts IsInOrder (nameless ds)
items_in_order doc.no_items h = tt
items_in_order (doc.item d ds) h = let each = and_parts (is_in_order d) (are_items_in_order ds) h in (each.0, items_in_order ds each.1)

-- what a member's position in the order says
abbrev IsPlaced : List ℕ → Document → doc.Members → Type 0
IsPlaced k d ms = IsTrue (is_before k ms) × IsInOrder d × IsTrue (are_members_in_order ms)

pub member_ordered : (k : List ℕ) (d : Document) (ms : doc.Members) → IsTrue (are_members_in_order (doc.member k d ms)) → IsPlaced k d ms
member_ordered k d ms h =
    let all = and_parts (is_before k ms && is_in_order d) (are_members_in_order ms) h in
    let first = and_parts (is_before k ms) (is_in_order d) all.0 in
    (first.0, first.1, all.1)

members_in_order : (ms : doc.Members) → IsTrue (are_members_in_order ms) → AllParts IsInOrder (list_of_members ms)
members_in_order doc.no_members h = tt
members_in_order (doc.member k d ms) h = let p = member_ordered k d ms h in (p.1, members_in_order ms p.2)

pub parts_in_order : (d : Document) → IsInOrder d → AllParts IsInOrder (parts_of d)
parts_in_order (doc.array ds) h = items_in_order ds h
parts_in_order (doc.object ms) h = members_in_order ms h
parts_in_order _ h = tt
