-- The document of JSON's data is canonical, and has the names of each object in byte order.
use Rattle.std.proofs.Common.{Ordering, Less, Equal, Greater, nat_cmp}
use Rattle.smithy_document.proofs.Common.{◌≡◌, ℕ, List, [], ◌∷◌, pos, negsuc, IsTrue, Option, Some, None, option_map, option_and_then, refl, ap, ◌∙◌, subst, IfSome, match_ordering, ordering_reverse, slice_cmp, AllByRecursion, and_parts, and_from, nat_list_cmp_total, Num, Data, Document, Items, Members, put, put_all, is_canonical, are_canonical_items, are_canonical_members, is_before, number_of_data, of_data, items_of_data, pairs_of_data, is_in_order, are_items_in_order, are_members_in_order, is_read}
use Rattle.serde_json.specs.Data as parsed
use Rattle.smithy_types.specs.Documents as doc
use Rattle.smithy_json.specs.FromText.{json_of, document_of_text}
use Rattle.smithy_json.proofs.OptionLemmas.{mapped, joined}
use Rattle.smithy_document.proofs.PartLemmas.{IsCanonical, IsInOrder, member_ordered}

-- canonical and in order
abbrev IsRead : Document → Type 0
IsRead d = IsCanonical d × IsInOrder d

abbrev AreItemsRead : Items → Type 0
AreItemsRead ds = IsTrue (are_canonical_items ds) × IsTrue (are_items_in_order ds)

abbrev AreMembersRead : Members → Type 0
AreMembersRead ms = IsTrue (are_canonical_members ms) × IsTrue (are_members_in_order ms)

abbrev ArePairsRead : List (List ℕ × Document) → Type 0
ArePairsRead ps = AllByRecursion (λ p. IsRead p.1) ps

-- ---- putting

before_at : (o : Ordering) (l k m : List ℕ) (d e : Document) (ms more : Members) → slice_cmp nat_cmp l k ≡ Less → IsTrue (is_before l (doc.member m e ms))
    → IsTrue (is_before l (match_ordering o (doc.member k d (doc.member m e ms)) (doc.member m d ms) (doc.member m e more)))
before_at Less l k m d e ms more less h = rw less refl
before_at Equal l k m d e ms more less h = h
before_at Greater l k m d e ms more less h = h

before_put : (l k : List ℕ) (d : Document) (ms : Members) → slice_cmp nat_cmp l k ≡ Less → IsTrue (is_before l ms) → IsTrue (is_before l (put k d ms))
before_put l k d doc.no_members less h = rw less refl
before_put l k d (doc.member m e ms) less h = before_at (slice_cmp nat_cmp k m) l k m d e ms (put k d ms) less h

member_read : (k : List ℕ) (d : Document) (ms : Members) → IsTrue (is_before k ms) → IsRead d → AreMembersRead ms → AreMembersRead (doc.member k d ms)
member_read k d ms b h j = (and_from _ _ h.0 j.0, and_from _ _ (and_from _ _ b h.1) j.1)

put_at : (o : Ordering) (k l : List ℕ) (d e : Document) (ms : Members) → slice_cmp nat_cmp k l ≡ o → IsRead d → IsTrue (is_before l ms) → IsRead e → AreMembersRead ms → AreMembersRead (put k d ms)
    → AreMembersRead (match_ordering o (doc.member k d (doc.member l e ms)) (doc.member l d ms) (doc.member l e (put k d ms)))
put_at Less k l d e ms is h b i j more = member_read k d (doc.member l e ms) (rw is refl) h (member_read l e ms b i j)
put_at Equal k l d e ms is h b i j more = member_read l d ms b h j
put_at Greater k l d e ms is h b i j more =
    let less : slice_cmp nat_cmp l k ≡ Less = nat_list_cmp_total.antisymm l k ∙ ap ordering_reverse is in
    member_read l e (put k d ms) (before_put l k d ms less b) i more

put_read : (k : List ℕ) (d : Document) (ms : Members) → IsRead d → AreMembersRead ms → AreMembersRead (put k d ms)
put_read k d doc.no_members h j = member_read k d doc.no_members refl h (refl, refl)
put_read k d (doc.member l e ms) h j =
    let canonical = and_parts (is_canonical e) (are_canonical_members ms) j.0 in
    let ordered = member_ordered l e ms j.1 in
    put_at (slice_cmp nat_cmp k l) k l d e ms refl h ordered.0 (canonical.0, ordered.1) (canonical.1, ordered.2) (put_read k d ms h (canonical.1, ordered.2))

all_put_read : (ps : List (List ℕ × Document)) (ms : Members) → ArePairsRead ps → AreMembersRead ms → AreMembersRead (put_all ps ms)
all_put_read [] ms h j = j
all_put_read (p ∷ ps) ms h j = all_put_read ps (put p.0 p.1 ms) h.1 (put_read p.0 p.1 ms h.0 j)

-- ---- data

number_read : (n : Num) → IfSome (option_map doc.number (number_of_data n)) IsRead
number_read (parsed.unsigned n) = (refl, refl)
number_read (parsed.negative (pos n)) = (refl, refl)
number_read (parsed.negative (negsuc n)) = (refl, refl)
number_read (parsed.float x) = tt

mutual
  data_read : (d : Data) → IfSome (of_data d) IsRead
  data_read parsed.null = (refl, refl)
  data_read (parsed.boolean b) = (refl, refl)
  data_read (parsed.number n) = number_read n
  data_read (parsed.string s) = (refl, refl)
  data_read (parsed.array ds) = mapped AreItemsRead IsRead doc.array (λ xs h. h) (items_of_data ds) (items_read ds)
  data_read (parsed.object ms) = mapped ArePairsRead IsRead (λ ps. doc.object (doc.members_of ps)) (λ ps h. all_put_read ps doc.no_members h (refl, refl)) (pairs_of_data ms) (pairs_read ms)

  items_read : (ds : parsed.Items) → IfSome (items_of_data ds) AreItemsRead
  items_read parsed.no_items = (refl, refl)
  items_read (parsed.item d ds) =
      joined IsRead AreItemsRead AreItemsRead doc.item (λ x xs h j. (and_from _ _ h.0 j.0, and_from _ _ h.1 j.1)) (of_data d) (items_of_data ds) (data_read d) (items_read ds)

  pairs_read : (ms : parsed.Members) → IfSome (pairs_of_data ms) ArePairsRead
  pairs_read parsed.no_members = tt
  pairs_read (parsed.member k d ms) = joined IsRead ArePairsRead ArePairsRead (λ x ps. (k, x) ∷ ps) (λ x ps h j. (h, j)) (of_data d) (pairs_of_data ms) (data_read d) (pairs_read ms)

found_read : (o : Option Data) → IfSome (option_and_then of_data o) IsRead
found_read None = tt
found_read (Some d) = data_read d

-- what a text is read as is canonical and in order
pub text_is_read : (bytes : List ℕ) (d : Document) → document_of_text bytes ≡ Some d → IsTrue (is_read d)
text_is_read bytes d is =
    let both = subst (λ o. IfSome o IsRead) is (found_read (json_of bytes)) in
    and_from (is_canonical d) (is_in_order d) both.0 both.1
