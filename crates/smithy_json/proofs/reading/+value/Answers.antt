use Rattle.std.proofs.Common.{◌≡◌, subst, ◌∷◌, [], Some, None, sym, ap, ◌∙◌, arith, length, Vec, Global}
use Rattle.json.specs.Json.{parse_map, after_end_array, read_key, value}
use Rattle.json.specs.Reads.{token_of}
use Rattle.json.proofs.Grammar.{value_is, read_key-shorter}
use Rattle.serde_json.specs.Data.{Data, array, object, no_members}
use Rattle.serde_json.specs.Read.{of_json, converted}
use Rattle.smithy_types.specs.Maps.{IsOrdered}
use Rattle.smithy_json.specs.views.JsonView.{Member, view, items_view, members_view, entries}
use Rattle.smithy_json.specs.PutMembers.{put_all}
use Rattle.smithy_json.specs.Tokens.{value_at, items_at, members_at}
use Rattle.smithy_json.specs.declared.value.JsonValue.{JsonValue}
use Rattle.smithy_json.proofs.OrderedPairs.{ordered_up}
use Rattle.smithy_json.proofs.TokenSteps.{items_over, no_items_left, item_lost, item_read, members_over, no_name, member_lost, member_read}
use Rattle.smithy_json.proofs.ReadingLemmas.{view-Array, view-Object, refused, passed_on, null_first, truth_first, text_first, number_first, no_number, array_first, object_first, array_too_deep, object_too_deep, nothing_first, joined, joined_none, from_start, one_further, one_seen}
use Rattle.smithy_json.proofs.reading.+value.Goals as goal

-- ---- items

pub items_from-more-init : goal.items_from-more-init
items_from-more-init t c =
    let all = items_at c.args.depth c.args.reader.now in
    (omega arith, from_start all ∙ ap (λ vs. parse_map (joined (items_view vs)) all) (sym c.new-found.ensures.items))

pub items_from-returns-in_err-first-clause-items : goal.items_from-returns-in_err-first-clause-items
items_from-returns-in_err-first-clause-items t c =
    let l = c.more in
    let going : (after_end_array l.reader ≡ None) × (c.take_end_array.new.self ≡ l.reader) = c.more-test.ensures in
    let none : items_at c.args.depth l.reader ≡ None = ap (items_at c.args.depth) (sym going.1 ∙ c.in_err-first.ensures.1) ∙ no_items_left c.args.depth in
    refused _ _ _ _ _ c.from_residual.ensures.1 (l.invariant.1 ∙ ap (parse_map (joined (items_view l.found.items))) none)

pub items_from-returns-in_err-item-clause-items : goal.items_from-returns-in_err-item-clause-items
items_from-returns-in_err-item-clause-items t c =
    let l = c.more in
    let going : (after_end_array l.reader ≡ None) × (c.take_end_array.new.self ≡ l.reader) = c.more-test.ensures in
    let first = sym going.1 ∙ c.in_ok-first.ensures in
    passed_on view _ _ _ c.value_from.new.reader _ _ _ c.from_residual-in_err-item.ensures.1 c.in_err-item.ensures.value (λ none. l.invariant.1 ∙ ap (parse_map (joined (items_view l.found.items))) (item_lost c.args.depth l.reader _ _ first going.0 none))

pub items_from-more-preserved : goal.items_from-more-preserved
items_from-more-preserved t c =
    let l = c.more in
    let going : (after_end_array l.reader ≡ None) × (c.take_end_array.new.self ≡ l.reader) = c.more-test.ensures in
    let first : l.reader ≡ token_of c.in_ok-first.first ∷ c.next_token.new.reader = sym going.1 ∙ c.in_ok-first.ensures in
    let left = c.value_from.new.reader in
    let v = c.in_ok-item.item in (
      omega (arith, l.invariant.0, ap length first, c.in_ok-item.ensures.left),
      l.invariant.1 ∙ ap (parse_map (joined (items_view l.found.items))) (item_read c.args.depth l.reader _ _ first going.0 (view v) left c.in_ok-item.ensures.value)
          ∙ one_further (items_view l.found.items) (view v) (items_at c.args.depth left)
          ∙ ap (λ ds. parse_map (joined ds) (items_at c.args.depth left)) (sym (ap items_view c.in_ok-push.ensures.items ∙ one_seen l.found.items v)),
    )

pub items_from-returns-clause-items : goal.items_from-returns-clause-items
items_from-returns-clause-items t c =
    let l = c.more in
    let rest = c.take_end_array.new.self in
    l.invariant.1 ∙ ap (parse_map (joined (items_view l.found.items))) (items_over c.args.depth l.reader rest c.more-test.ensures)
    ∙ ap (λ ds. Some (ds, rest)) (joined_none (items_view l.found.items))

-- ---- members

pub members_from-more-init : goal.members_from-more-init
members_from-more-init t c = (
  omega arith,
  ap (λ vs. members_at c.args.depth (put_all (entries vs) no_members) c.args.reader.now) (sym c.new-found.ensures.items),
  λ _. subst (λ vs. IsOrdered (entries vs)) (sym c.new-found.ensures.items) (ordered_up {X = Data} [] tt),
)

pub members_from-returns-in_err-name-clause-members : goal.members_from-returns-in_err-name-clause-members
members_from-returns-in_err-name-clause-members t c =
    let l = c.more in
    refused _ _ _ _ _ c.from_residual.ensures.1 (l.invariant.1 ∙ no_name c.args.depth (put_all (entries l.found.items) no_members) l.reader c.in_err-name.ensures.value)

pub members_from-returns-in_err-first-clause-members : goal.members_from-returns-in_err-first-clause-members
members_from-returns-in_err-first-clause-members t c =
    let l = c.more in
    let named : read_key l.reader ≡ Some (Some c.in-Some.name.now, c.next_key.new.self) = grind arith in
    let none : value_at c.args.depth c.next_key.new.self ≡ None = ap (value_at c.args.depth) c.in_err-first.ensures.1 ∙ nothing_first c.args.depth in
    refused _ _ _ _ _ c.from_residual-in_err-first.ensures.1 (l.invariant.1 ∙ member_lost c.args.depth (put_all (entries l.found.items) no_members) c.in-Some.name.now l.reader c.next_key.new.self named none)

pub members_from-returns-in_err-value-clause-members : goal.members_from-returns-in_err-value-clause-members
members_from-returns-in_err-value-clause-members t c =
    let l = c.more in
    let named : read_key l.reader ≡ Some (Some c.in-Some.name.now, c.next_key.new.self) = grind arith in
    passed_on view _ _ _ c.value_from.new.reader _ _ _ c.from_residual-in_err-value.ensures.1 c.in_err-value.ensures.value
    (λ none. l.invariant.1 ∙ member_lost c.args.depth (put_all (entries l.found.items) no_members) c.in-Some.name.now l.reader c.next_key.new.self named (ap (value_at c.args.depth) c.in_ok-first.ensures ∙ none))

pub members_from-more-preserved : goal.members_from-more-preserved
members_from-more-preserved t c =
    let l = c.more in
    let rest = c.next_key.new.self in
    let named : read_key l.reader ≡ Some (Some c.in-Some.name.now, rest) = grind arith in
    let left = c.value_from.new.reader in
    let found = ap (value_at c.args.depth) c.in_ok-first.ensures ∙ c.in_ok-value.ensures.value in (
      omega (arith, l.invariant.0, read_key-shorter l.reader (Some c.in-Some.name.now) rest named, ap length c.in_ok-first.ensures, c.in_ok-value.ensures.left),
      l.invariant.1 ∙ member_read c.args.depth (put_all (entries l.found.items) no_members) c.in-Some.name.now l.reader rest named (view c.in_ok-value.value) left found
          ∙ ap (λ ms. members_at c.args.depth ms left) (sym c.in_ok-are_ordered.ensures.put),
      c.in_ok-are_ordered.ensures.ordered,
    )

pub members_from-returns-clause-members : goal.members_from-returns-clause-members
members_from-returns-clause-members t c =
    let l = c.more in
    let rest = c.next_key.new.self in
    l.invariant.1 ∙ members_over c.args.depth (put_all (entries l.found.items) no_members) l.reader rest (grind arith)
    ∙ ap (λ ms. Some (ms, rest)) (sym c.in_ok-in_order.ensures)

-- ---- values

pub value_from-returns-in-Null-clause-value : goal.value_from-returns-in-Null-clause-value
value_from-returns-in-Null-clause-value t c = ap (λ first. value_at c.args.depth (token_of first ∷ c.args.reader.now)) c.in-Null.is ∙ null_first c.args.depth c.args.reader.now

pub value_from-returns-in-Bool-clause-value : goal.value_from-returns-in-Bool-clause-value
value_from-returns-in-Bool-clause-value t c = ap (λ first. value_at c.args.depth (token_of first ∷ c.args.reader.now)) c.in-Bool.is ∙ truth_first c.args.depth c.args.reader.now _

pub value_from-returns-in-String-clause-value : goal.value_from-returns-in-String-clause-value
value_from-returns-in-String-clause-value t c = ap (λ first. value_at c.args.depth (token_of first ∷ c.args.reader.now)) c.in-String.is ∙ text_first c.args.depth c.args.reader.now _

pub value_from-returns-in-Some-clause-value : goal.value_from-returns-in-Some-clause-value
value_from-returns-in-Some-clause-value t c = ap (λ first. value_at c.args.depth (token_of first ∷ c.args.reader.now)) c.in-Number.is ∙ number_first c.args.depth c.args.reader.now _ _ c.in-Some.ensures

pub value_from-returns-in-None-clause-value : goal.value_from-returns-in-None-clause-value
value_from-returns-in-None-clause-value t c = ap (λ first. value_at c.args.depth (token_of first ∷ c.args.reader.now)) c.in-Number.is ∙ no_number c.args.depth c.args.reader.now _ c.in-None.ensures

pub value_from-returns-in_err-below-in-BeginArray-clause-value : goal.value_from-returns-in_err-below-in-BeginArray-clause-value
value_from-returns-in_err-below-in-BeginArray-clause-value t c =
    refused _ _ _ _ _ c.from_residual.ensures.1 (ap (λ first. value_at c.args.depth (token_of first ∷ c.args.reader.now)) c.in-BeginArray.is ∙ array_too_deep c.args.depth c.args.reader.now c.in_err-below-in-BeginArray.ensures.1)

pub value_from-returns-in_err-items_from-in-BeginArray-clause-value : goal.value_from-returns-in_err-items_from-in-BeginArray-clause-value
value_from-returns-in_err-items_from-in-BeginArray-clause-value t c =
    passed_on (λ (v : Vec JsonValue Global). items_view v.items) _ _ _ c.items_from.new.reader _ _ _ c.from_residual-in_err-items_from-in-BeginArray.ensures.1 c.in_err-items_from-in-BeginArray.ensures.items
    (λ none. ap (λ first. value_at c.args.depth (token_of first ∷ c.args.reader.now)) c.in-BeginArray.is ∙ array_first c.args.depth c.args.reader.now _ c.in_ok-below-in-BeginArray.ensures ∙ ap (parse_map array) none)

pub value_from-returns-in_ok-items_from-in-BeginArray-clause-value : goal.value_from-returns-in_ok-items_from-in-BeginArray-clause-value
value_from-returns-in_ok-items_from-in-BeginArray-clause-value t c =
    let found = c.in_ok-items_from-in-BeginArray in
    ap (λ first. value_at c.args.depth (token_of first ∷ c.args.reader.now)) c.in-BeginArray.is ∙ array_first c.args.depth c.args.reader.now _ c.in_ok-below-in-BeginArray.ensures ∙ ap (parse_map array) found.ensures.items
    ∙ ap (λ d. Some (d, c.items_from.new.reader)) (sym (view-Array found.field-0))

pub value_from-returns-in_err-below-in-BeginObject-clause-value : goal.value_from-returns-in_err-below-in-BeginObject-clause-value
value_from-returns-in_err-below-in-BeginObject-clause-value t c =
    refused _ _ _ _ _ c.from_residual-in_err-below-in-BeginObject.ensures.1 (ap (λ first. value_at c.args.depth (token_of first ∷ c.args.reader.now)) c.in-BeginObject.is ∙ object_too_deep c.args.depth c.args.reader.now c.in_err-below-in-BeginObject.ensures.1)

pub value_from-returns-in_err-members_from-in-BeginObject-clause-value : goal.value_from-returns-in_err-members_from-in-BeginObject-clause-value
value_from-returns-in_err-members_from-in-BeginObject-clause-value t c =
    passed_on (λ (v : Vec Member Global). members_view v.items) _ _ _ c.members_from.new.reader _ _ _ c.from_residual-in_err-members_from-in-BeginObject.ensures.1 c.in_err-members_from-in-BeginObject.ensures.members
    (λ none. ap (λ first. value_at c.args.depth (token_of first ∷ c.args.reader.now)) c.in-BeginObject.is ∙ object_first c.args.depth c.args.reader.now _ c.in_ok-below-in-BeginObject.ensures ∙ ap (parse_map object) none)

pub value_from-returns-in_ok-members_from-in-BeginObject-clause-value : goal.value_from-returns-in_ok-members_from-in-BeginObject-clause-value
value_from-returns-in_ok-members_from-in-BeginObject-clause-value t c =
    let found = c.in_ok-members_from-in-BeginObject in
    ap (λ first. value_at c.args.depth (token_of first ∷ c.args.reader.now)) c.in-BeginObject.is ∙ object_first c.args.depth c.args.reader.now _ c.in_ok-below-in-BeginObject.ensures ∙ ap (parse_map object) found.ensures.members
    ∙ ap (λ d. Some (d, c.members_from.new.reader)) (sym (view-Object found.field-0))

pub value_from-returns-in-Key-clause-value : goal.value_from-returns-in-Key-clause-value
value_from-returns-in-Key-clause-value t c =
    let ts = token_of c.args.first ∷ c.args.reader.now in
    let none : value c.args.depth ts ≡ None = rw (value_is c.args.depth ts) (grind arith) in
    ap (converted of_json) none
