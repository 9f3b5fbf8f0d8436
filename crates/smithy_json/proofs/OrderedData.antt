-- What a text is read as has the names of each object in byte order.
use Rattle.std.proofs.Common.{◌≡◌, ℕ, List, IsTrue, ◌&&◌, Option, Some, None, option_map, option_and_then, Result, Ok, Err, Ordering, Less, Equal, Greater, nat_cmp, refl, subst}
use Rattle.std.specs.Prelude.{IfSome, IfOk}
use Rattle.std.specs.Ordering.{match_ordering}
use Rattle.std.specs.Cmp.Lexicographic.{slice_cmp}
use Rattle.std.proofs.lemmas.Bool.{and_parts, and_from}
use Rattle.json.specs.Json as json
use Rattle.json.specs.Json.{Json}
use Rattle.json.specs.Lex.{tokens}
use Rattle.serde_json.specs.Data as parsed
use Rattle.serde_json.specs.Data.{Num, Data, Items, Members, put}
use Rattle.serde_json.specs.Read.{number_of, of_json, of_items, of_members, max_depth, read}
use Rattle.smithy_json.specs.views.JsonView.{view}
use Rattle.smithy_json.specs.Ordered.{is_before, is_ordered, are_items_ordered, are_members_ordered}
use Rattle.smithy_json.specs.Reads.{Reads}
use Rattle.smithy_json.specs.declared.error.JsonError.{JsonError}
use Rattle.smithy_json.specs.declared.value.JsonValue.{JsonValue}
use Rattle.smithy_json.proofs.OptionLemmas.{mapped, after, joined}
use Rattle.smithy_json.proofs.OrderedPairs.{above}

abbrev pub IsOrdered : Data → Type 0
IsOrdered d = IsTrue (is_ordered d)

abbrev AreItemsOrdered : Items → Type 0
AreItemsOrdered ds = IsTrue (are_items_ordered ds)

abbrev pub AreMembersOrdered : Members → Type 0
AreMembersOrdered ms = IsTrue (are_members_ordered ms)

-- what is said of the members of an object, in three parts
abbrev IsPlaced : List ℕ → Data → Members → Type 0
IsPlaced k d ms = IsTrue (is_before k ms) × IsOrdered d × AreMembersOrdered ms

pub member_placed : (k : List ℕ) (d : Data) (ms : Members) → AreMembersOrdered (parsed.member k d ms) → IsPlaced k d ms
member_placed k d ms h =
    let all = and_parts (is_before k ms && is_ordered d) (are_members_ordered ms) h in
    let first = and_parts (is_before k ms) (is_ordered d) all.0 in (first.0, first.1, all.1)

placed : (k : List ℕ) (d : Data) (ms : Members) → IsTrue (is_before k ms) → IsOrdered d → AreMembersOrdered ms → AreMembersOrdered (parsed.member k d ms)
placed k d ms before h more = and_from _ _ (and_from _ _ before h) more

-- ---- putting

before_put : (l k : List ℕ) (d : Data) (ms : Members) → slice_cmp nat_cmp l k ≡ Less → IsTrue (is_before l ms) → IsTrue (is_before l (put k d ms))
before_put l k d parsed.no_members less h = rw less refl
before_put l k d (parsed.member m e ms) less h = go (slice_cmp nat_cmp k m)
  where
    go : (o : Ordering) → IsTrue (is_before l (match_ordering o (parsed.member k d (parsed.member m e ms)) (parsed.member m d ms) (parsed.member m e (put k d ms))))
    go Less = rw less refl
    go Equal = h
    go Greater = h

put_ordered : (k : List ℕ) (d : Data) (ms : Members) → IsOrdered d → AreMembersOrdered ms → AreMembersOrdered (put k d ms)
put_ordered k d parsed.no_members h up = placed k d parsed.no_members refl h refl
put_ordered k d (parsed.member l e ms) h up = go (slice_cmp nat_cmp k l) refl (put_ordered k d ms h (member_placed l e ms up).2)
  where
    go : (o : Ordering) → slice_cmp nat_cmp k l ≡ o → AreMembersOrdered (put k d ms)
        → AreMembersOrdered (match_ordering o (parsed.member k d (parsed.member l e ms)) (parsed.member l d ms) (parsed.member l e (put k d ms)))
    go Less is rest = placed k d (parsed.member l e ms) (rw is refl) h up
    go Equal is rest = let p = member_placed l e ms up in placed l d ms p.0 h p.2
    go Greater is rest = let p = member_placed l e ms up in placed l e (put k d ms) (before_put l k d ms (above k l is) p.0) p.1 rest

-- ---- what the grammar's values are

number_ordered : (o : Option Num) → IfSome (option_map parsed.number o) IsOrdered
number_ordered None = tt
number_ordered (Some n) = refl

mutual
  value_ordered : (j : Json) → IfSome (of_json j) IsOrdered
  value_ordered json.null = refl
  value_ordered (json.boolean b) = refl
  value_ordered (json.number s) = number_ordered (number_of s)
  value_ordered (json.string s) = refl
  value_ordered (json.array js) = mapped AreItemsOrdered IsOrdered parsed.array (λ ds h. h) (of_items js) (items_ordered js)
  value_ordered (json.object ms) = mapped AreMembersOrdered IsOrdered parsed.object (λ ds h. h) (of_members ms parsed.no_members) (members_ordered ms parsed.no_members refl)

  items_ordered : (js : json.Items) → IfSome (of_items js) AreItemsOrdered
  items_ordered json.no_items = refl
  items_ordered (json.item j js) =
      joined IsOrdered AreItemsOrdered AreItemsOrdered parsed.item (λ d ds h more. and_from _ _ h more) (of_json j) (of_items js) (value_ordered j) (items_ordered js)

  members_ordered : (ms : json.Members) (found : Members) → AreMembersOrdered found → IfSome (of_members ms found) AreMembersOrdered
  members_ordered json.no_members found up = up
  members_ordered (json.member k j ms) found up =
      after IsOrdered AreMembersOrdered (λ d. of_members ms (put k d found)) (λ d h. members_ordered ms (put k d found) (put_ordered k d found h up)) (of_json j) (value_ordered j)

found_ordered : (o : Option Json) → IfSome (option_and_then of_json o) IsOrdered
found_ordered None = tt
found_ordered (Some j) = value_ordered j

-- the value of a text has the names of its objects in order
pub reading_ordered : (text : List ℕ) (r : Result JsonValue JsonError) → Reads view (read text) r → IfOk r (λ v. IsOrdered (view v))
reading_ordered text (Ok v) is = subst (λ o. IfSome o IsOrdered) is (found_ordered (option_and_then (λ p. json.if_last p.0 p.1) (json.value max_depth (tokens text))))
reading_ordered text (Err e) is = tt
