-- Documents made into trees: what is found so far, and what is left of a list.
use Rattle.std.specs.List.Sorted.{IsStrictlySortedBy}
use Rattle.smithy_document.proofs.Common.{◌≡◌, refl, sym, ap, ◌∙◌, subst, ℕ, ◌+◌, ◌<◌, ◌≤◌, arith, rules, List, [], ◌∷◌, ◌++◌, length, get_or, drop, map, append_assoc, append-nil, drop_more, Bool, true, false, ◌&&◌, IsTrue, and_from, Vec, Global, Document, Members, items_of, members_nesting, list_of_members, view, items_view, members_view, Node, Null, Text, Array, Object, is_in_order, are_items_in_order, are_members_in_order, is_before, match_ordering, node_view, nodes_view, fields_view, Grows, StaysIn, IsOrdered}
use Rattle.smithy_types.specs.Documents as doc
use Rattle.smithy_types.specs.DocumentView.{number_view}
use Rattle.smithy_types.specs.declared.document.Document as code
use Rattle.smithy_types.specs.declared.document.Documents as lists
use Rattle.smithy_types.specs.declared.document.Members as maps
use Rattle.smithy_types.specs.declared.number.Number.{Number}
use Rattle.smithy_document.specs.declared.json_tree.Node.{Bool as TheBool, Number as TheNumber}
use Rattle.smithy_document.proofs.NodeLemmas.{view-Text as node_text, view-Array as node_array, view-Object as node_object}
use Rattle.smithy_document.proofs.JsonTreeLemmas.{node_null, node_bool, node_number}
use Rattle.smithy_document.proofs.PrintLemmas.{view-Array, view-Object}
use Rattle.smithy_document.proofs.TreeDocuments.{Texts, one_stays, text_pushed}
use Rattle.smithy_document.proofs.ValueLemmas.{Pair, members_from, members_from_list}

-- ---- what is seen of the parts that are found

-- the parts found are seen as the first of these, and the others are left
pub record Found {X Y : Type 0} (see : Texts → X → Y) (left all : List Y) (xs : List X) (texts : Texts) : Type 0 where
  pub done : List Y
  pub seen : StaysIn (λ ts. map (see ts) xs) texts done
  pub whole : done ++ left ≡ all

pub none_found : {X Y : Type 0} (see : Texts → X → Y) (all : List Y) (xs : List X) (texts : Texts) → xs ≡ [] → Found see all all xs texts
none_found see all xs texts none = record { done = []; seen = λ more. ap (map (see (texts ++ more))) none; whole = refl }

pub one_found : {X Y : Type 0} (see : Texts → X → Y) (left less all : List Y) (xs more_xs : List X) (x : X) (y : Y) (old new : Texts) → more_xs ≡ xs ++ x ∷ [] → left ≡ y ∷ less → Grows old new
    → StaysIn (λ ts. see ts x) new y → Found see left all xs old → Found see less all more_xs new
one_found see left less all xs more_xs x y old new pushed first grows one before = record {
  done = before.done ++ y ∷ [];
  seen = λ more. ap (map (see (new ++ more))) pushed ∙ one_stays see old new xs x before.done y before.seen grows one more;
  whole = append_assoc before.done (y ∷ []) less ∙ ap (λ ys. before.done ++ ys) (sym first) ∙ before.whole;
}

pub all_found : {X Y : Type 0} (see : Texts → X → Y) (left all : List Y) (xs : List X) (texts : Texts) → left ≡ [] → Found see left all xs texts → StaysIn (λ ts. map (see ts) xs) texts all
all_found see left all xs texts none found = λ more. found.seen more ∙ sym (append-nil found.done) ∙ ap (λ ys. found.done ++ ys) (sym none) ∙ found.whole

-- ---- the items of an array

-- the items from a position on
abbrev pub items_from : List code.Document → ℕ → List Document
items_from xs i = map view (drop i xs)

pub item_first : (xs : List code.Document) (i : ℕ) (x : code.Document) → i < length xs → x ≡ get_or xs i x → items_from xs i ≡ view x ∷ items_from xs (i + 1)
item_first xs i x within is = ap (map view) (drop_more xs i x within ∙ ap (λ y. y ∷ drop (i + 1) xs) (sym is))

abbrev pub ItemsOrdered : List Document → Type 0
ItemsOrdered ds = IsTrue (are_items_in_order (items_of ds))

-- where these are in order, so are all
pub item_in_order : (left less all : List Document) (d : Document) → left ≡ d ∷ less → IsTrue (is_in_order d) → (ItemsOrdered left → ItemsOrdered all) → ItemsOrdered less → ItemsOrdered all
item_in_order left less all d first one before rest = before (subst ItemsOrdered (sym first) (and_from (is_in_order d) (are_items_in_order (items_of less)) one rest))

-- ---- the members of an object

abbrev pub PairsOrdered : List Pair → Type 0
PairsOrdered ps = IsTrue (are_members_in_order (members_from ps))

stands_before : (k : List ℕ) (d : Document) (less : List Pair) → IsOrdered ((k, d) ∷ less) → IsTrue (is_before k (members_from less))
unfolding IsStrictlySortedBy
stands_before k d [] h = refl
stands_before k d (p ∷ less) h = ap (λ o. match_ordering o true false false) h.0.0

pub ordered_behind : (p : Pair) (less : List Pair) → IsOrdered (p ∷ less) → IsOrdered less
unfolding IsStrictlySortedBy
ordered_behind p less h = h.1

-- the members that are left, whose names ascend: where these are in order, so are all
pub record MembersLeft (left : List Pair) (all : Members) : Type 0 where
  pub below : members_nesting (members_from left) ≤ members_nesting all
  pub ordered : IsOrdered left
  pub in_order : PairsOrdered left → IsTrue (are_members_in_order all)

pub all_left : (left : List Pair) (all : Members) → left ≡ list_of_members all → IsOrdered (list_of_members all) → MembersLeft left all
all_left left all is ordered =
    let whole = ap members_from is ∙ members_from_list all in
    let depths = ap members_nesting whole in
    record { below = omega (arith, depths); ordered = subst (λ ps. IsOrdered ps) (sym is) ordered; in_order = subst (λ ms. IsTrue (are_members_in_order ms)) whole }

pub one_left : (left less : List Pair) (all : Members) (k : List ℕ) (d : Document) → left ≡ (k, d) ∷ less → IsTrue (is_in_order d) → MembersLeft left all → MembersLeft less all
one_left left less all k d first one l =
    let depths = ap (λ ps. members_nesting (members_from ps)) first in
    let ordered = subst (λ ps. IsOrdered ps) first l.ordered in
    let here = and_from (is_before k (members_from less)) (is_in_order d) (stands_before k d less ordered) one in
    record {
      below = omega (arith, depths, l.below);
      ordered = ordered_behind (k, d) less ordered;
      in_order = λ rest. l.in_order (subst PairsOrdered (sym first) (and_from (is_before k (members_from less) && is_in_order d) (are_members_in_order (members_from less)) here rest));
    }

pub none_left : (left : List Pair) (all : Members) → left ≡ [] → MembersLeft left all → IsTrue (are_members_in_order all)
none_left left all none l = l.in_order (subst PairsOrdered (sym none) refl)

-- ---- a level

view_null : view code.Null ≡ doc.null
view_null = search (rules, code.the_lemmas)

view_bool : (b : Bool) → view (code.Bool b) ≡ doc.boolean b
view_bool b = search (rules, code.the_lemmas)

view_number : (n : Number) → view (code.Number n) ≡ doc.number (number_view n)
view_number n = search (rules, code.the_lemmas)

view_string : (text : List ℕ) → view (code.String text) ≡ doc.string text
view_string text = search (rules, code.the_lemmas)

-- the node is this document, and the document is in order
pub record IsLevel (d : code.Document) (n : Node) (texts : Texts) : Type 0 where
  pub is : StaysIn (λ ts. node_view ts n) texts (view d)
  pub in_order : IsTrue (is_in_order (view d))

level : (d : code.Document) (n : Node) (texts : Texts) (seen : Document) → view d ≡ seen → StaysIn (λ ts. node_view ts n) texts seen → IsTrue (is_in_order seen) → IsLevel d n texts
level d n texts seen is node ordered = record { is = λ more. node more ∙ sym is; in_order = subst (λ x. IsTrue (is_in_order x)) (sym is) ordered }

pub null_level : (d : code.Document) (texts : Texts) → d ≡ code.Null → IsLevel d Null texts
null_level d texts is = level d Null texts doc.null (ap view is ∙ view_null) (λ more. node_null (texts ++ more)) refl

pub bool_level : (d : code.Document) (b : Bool) (texts : Texts) → d ≡ code.Bool b → IsLevel d (TheBool b) texts
bool_level d b texts is = level d (TheBool b) texts (doc.boolean b) (ap view is ∙ view_bool b) (λ more. node_bool (texts ++ more) b) refl

pub number_level : (d : code.Document) (n : Number) (texts : Texts) → d ≡ code.Number n → IsLevel d (TheNumber n) texts
number_level d n texts is = level d (TheNumber n) texts (doc.number (number_view n)) (ap view is ∙ view_number n) (λ more. node_number (texts ++ more) n) refl

pub text_level : (d : code.Document) (text : List ℕ) (position : ℕ) (old new : Texts) → d ≡ code.String text → new ≡ old ++ text ∷ [] → position ≡ length old → IsLevel d (Text position) new
text_level d text position old new is pushed at =
    level d (Text position) new (doc.string text) (ap view is ∙ view_string text) (λ more. node_text (new ++ more) position ∙ ap doc.string (rw (pushed, at) (text_pushed old more text))) refl

pub array_level : (d : code.Document) (ds : lists.Documents) (v : Vec Node Global) (texts : Texts) → d ≡ code.Array ds → StaysIn (λ ts. nodes_view ts v.items) texts (items_view ds) → IsTrue (are_items_in_order (items_view ds))
    → IsLevel d (Array v) texts
array_level d ds v texts is found ordered =
    level d (Array v) texts (doc.array (items_view ds)) (ap view is ∙ view-Array ds) (λ more. node_array (texts ++ more) v ∙ ap doc.array (found more)) ordered

pub object_level : (d : code.Document) (ms : maps.Members) (v : Vec (ℕ × Node) Global) (texts : Texts) → d ≡ code.Object ms → StaysIn (λ ts. fields_view ts v.items) texts (members_view ms)
    → IsTrue (are_members_in_order (members_view ms)) → IsLevel d (Object v) texts
object_level d ms v texts is found ordered =
    level d (Object v) texts (doc.object (members_view ms)) (ap view is ∙ view-Object ms) (λ more. node_object (texts ++ more) v ∙ ap doc.object (found more)) ordered
