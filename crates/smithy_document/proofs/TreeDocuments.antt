-- Trees of JSON made into documents, and trees whose texts grow.
use Rattle.smithy_document.proofs.Common.{◌≡◌, ℕ, zero, suc, ◌+◌, ◌<◌, ◌≤◌, List, [], ◌∷◌, ◌++◌, length, get_or, take, drop, map, IsTrue, refl, sym, ap, ap₂, ◌∙◌, append_assoc, arith, and_parts, drop_more, take_more, map-append, append-nil, drop_of_length-le, Document, Members, nesting, items_nesting, members_nesting, items_of, items_snoc, put, put_all, list_of_members, Node, is_in_order, are_items_in_order, are_members_in_order, text_at, node_view, fields_view, Grows, StaysIn}
use Rattle.smithy_types.specs.Documents as doc
use Rattle.smithy_types.proofs.Views.{items_of-snoc}
use Rattle.smithy_document.proofs.FromData.{Ascend, all_put}
use Rattle.smithy_document.proofs.PartLemmas.{member_ordered}
use Rattle.smithy_document.proofs.SoundDocuments.{before_sound}
use Rattle.smithy_document.proofs.ValueLemmas.{Pair, members_from}

-- ---- documents of nodes

-- an item at a position
pub nested_item : {X : Type 0} (f : X → Document) (xs : List X) (i : ℕ) (x : X) → i < length xs → x ≡ get_or xs i x → nesting (f x) ≤ items_nesting (items_of (map f xs))
nested_item f [] i x within is = absurd (omega (arith, within))
nested_item f (y ∷ xs) zero x within is = let same : nesting (f x) ≡ nesting (f y) = ap (λ y. nesting (f y)) is in omega (arith, same)
nested_item f (y ∷ xs) (suc i) x within is = let inside : nesting (f x) ≤ items_nesting (items_of (map f xs)) = nested_item f xs i x (omega (arith, within)) is in omega (arith, inside)

pub ordered_item : {X : Type 0} (f : X → Document) (xs : List X) (i : ℕ) (x : X) → i < length xs → x ≡ get_or xs i x → IsTrue (are_items_in_order (items_of (map f xs))) → IsTrue (is_in_order (f x))
ordered_item f [] i x within is h = absurd (omega (arith, within))
ordered_item f (y ∷ xs) zero x within is h = ap (λ y. is_in_order (f y)) is ∙ (and_parts (is_in_order (f y)) (are_items_in_order (items_of (map f xs))) h).0
ordered_item f (y ∷ xs) (suc i) x within is h = ordered_item f xs i x (omega (arith, within)) is (and_parts (is_in_order (f y)) (are_items_in_order (items_of (map f xs))) h).1

pub seen_more : {X Y : Type 0} (f : X → Y) (xs : List X) (i : ℕ) (x : X) → i < length xs → x ≡ get_or xs i x → map f (take i xs) ++ f x ∷ [] ≡ map f (take (i + 1) xs)
seen_more f xs i x within is = sym (map-append f (take i xs) (x ∷ [])) ∙ ap (map f) (ap (λ y. take i xs ++ y ∷ []) is ∙ sym (take_more xs i x within))

pub one_more : {X : Type 0} (f : X → Document) (xs : List X) (i : ℕ) (x : X) → i < length xs → x ≡ get_or xs i x → items_snoc (items_of (map f (take i xs))) (f x) ≡ items_of (map f (take (i + 1) xs))
one_more f xs i x within is = sym (items_of-snoc (map f (take i xs)) (f x)) ∙ ap items_of (seen_more f xs i x within is)

-- a field at a position
abbrev Field : Type 0
Field = ℕ × Node

pub nested_field : (texts : List (List ℕ)) (fs : List Field) (i : ℕ) (f : Field) → i < length fs → f ≡ get_or fs i f → nesting (node_view texts f.1) ≤ members_nesting (fields_view texts fs)
nested_field texts [] i f within is = absurd (omega (arith, within))
nested_field texts (g ∷ fs) zero f within is = let same : nesting (node_view texts f.1) ≡ nesting (node_view texts g.1) = ap (λ g. nesting (node_view texts g.1)) is in omega (arith, same)
nested_field texts (g ∷ fs) (suc i) f within is = let inside : nesting (node_view texts f.1) ≤ members_nesting (fields_view texts fs) = nested_field texts fs i f (omega (arith, within)) is in omega (arith, inside)

pub ordered_field : (texts : List (List ℕ)) (fs : List Field) (i : ℕ) (f : Field) → i < length fs → f ≡ get_or fs i f → IsTrue (are_members_in_order (fields_view texts fs)) → IsTrue (is_in_order (node_view texts f.1))
ordered_field texts [] i f within is h = absurd (omega (arith, within))
ordered_field texts (g ∷ fs) zero f within is h = ap (λ g. is_in_order (node_view texts g.1)) is ∙ (member_ordered _ (node_view texts g.1) (fields_view texts fs) h).1
ordered_field texts (g ∷ fs) (suc i) f within is h = ordered_field texts fs i f (omega (arith, within)) is (member_ordered _ (node_view texts g.1) (fields_view texts fs) h).2

ascend : (ms : Members) → IsTrue (are_members_in_order ms) → Ascend ms
ascend doc.no_members h = tt
ascend (doc.member k d ms) h = let p = member_ordered k d ms h in (before_sound k ms p.0, ascend ms p.2)

-- what fields put into an object
abbrev pub put_fields : List (List ℕ) → List Field → Members → Members
put_fields texts fs done = put_all (list_of_members (fields_view texts fs)) done

pub put_no_field : (texts : List (List ℕ)) (fs : List Field) → IsTrue (are_members_in_order (fields_view texts fs)) → put_fields texts fs doc.no_members ≡ fields_view texts fs
put_no_field texts fs h = all_put (fields_view texts fs) (ascend (fields_view texts fs) h)

pub put_field : (texts : List (List ℕ)) (done all : Members) (fs : List Field) (i : ℕ) (f : Field) → i < length fs → f ≡ get_or fs i f
    → put_fields texts (drop i fs) done ≡ all → put_fields texts (drop (i + 1) fs) (put (text_at texts f.0) (node_view texts f.1) done) ≡ all
put_field texts done all fs i f within is h = rw (drop_more fs i f within, ← is) at h

pub put_all_fields : (texts : List (List ℕ)) (done all : Members) (fs : List Field) (i : ℕ) → length fs ≤ i → put_fields texts (drop i fs) done ≡ all → done ≡ all
put_all_fields texts done all fs i past h = rw (drop_of_length-le fs past) at h

-- ---- texts that grow

abbrev pub Texts : Type 0
Texts = List (List ℕ)

pub grows_not : (old new : Texts) → new ≡ old → Grows old new
grows_not old new is = ([], is ∙ sym (append-nil old))

pub grows_on : (old mid new : Texts) → Grows old mid → Grows mid new → Grows old new
grows_on old mid new g h = (g.0 ++ h.0, h.1 ∙ ap (λ ts. ts ++ h.0) g.1 ∙ append_assoc old g.0 h.0)

pub stays : {X : Type 0} (f : Texts → X) (old new : Texts) (x : X) → StaysIn f old x → Grows old new → StaysIn f new x
stays f old new x h g = λ more. ap (λ ts. f (ts ++ more)) g.1 ∙ ap f (append_assoc old g.0 more) ∙ h (g.0 ++ more)

pub text_pushed : (old more : Texts) (t : List ℕ) → text_at ((old ++ t ∷ []) ++ more) (length old) ≡ t
text_pushed [] more t = refl
text_pushed (x ∷ old) more t = text_pushed old more t

-- what one more sees, once the texts have grown
pub one_stays : {X Y : Type 0} (see : Texts → X → Y) (old new : Texts) (xs : List X) (x : X) (ys : List Y) (y : Y)
    → StaysIn (λ ts. map (see ts) xs) old ys → Grows old new → StaysIn (λ ts. see ts x) new y → StaysIn (λ ts. map (see ts) (xs ++ x ∷ [])) new (ys ++ y ∷ [])
one_stays see old new xs x ys y h g one = λ more. map-append (see (new ++ more)) xs (x ∷ []) ∙ ap₂ (λ zs z. zs ++ z ∷ []) (stays (λ ts. map (see ts) xs) old new ys h g more) (one more)

-- a field, seen
abbrev pub field_view : Texts → Field → Pair
field_view texts f = (text_at texts f.0, node_view texts f.1)

pub field_stays : (old mid new : Texts) (k : List ℕ) (position : ℕ) (n : Node) (d : Document) → mid ≡ old ++ k ∷ [] → position ≡ length old → Grows mid new → StaysIn (λ ts. node_view ts n) new d
    → StaysIn (λ ts. field_view ts (position, n)) new (k, d)
field_stays old mid new k position n d is at g h =
    let pushed : StaysIn (λ ts. text_at ts position) mid k = λ more. rw (is, at) (text_pushed old more k) in
    λ more. ap₂ (λ l e. (l, e)) (stays (λ ts. text_at ts position) mid new k pushed g more) (h more)

pub fields_from : (texts : Texts) (fs : List Field) → fields_view texts fs ≡ members_from (map (field_view texts) fs)
fields_from texts [] = refl
fields_from texts (f ∷ fs) = ap (doc.member (text_at texts f.0) (node_view texts f.1)) (fields_from texts fs)
