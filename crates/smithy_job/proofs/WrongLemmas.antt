-- The first wrong place of an array or an object, an item at a time.
use Rattle.std.proofs.Common.{◌≡◌, ℕ, ◌+◌, ◌<◌, ◌≤◌, List, length, drop, get_or, Option, Some, None, sym, ap, ◌∙◌}
use Rattle.std.proofs.Math.ListN.{drop_of_length-le}
use Rattle.std.proofs.lemmas.List.{drop_more}
use Rattle.smithy_json.specs.views.JsonView.{Member, view, items_view, members_view}
use Rattle.smithy_json.specs.declared.value.JsonValue.{JsonValue}
use Rattle.smithy_model.specs.Wrong.{Wrong, ◌or◌, in_key, in_item}
use Rattle.smithy_job.specs.WrongInputs.{wrong_value, wrong_items, wrong_members}

items_at : (xs : List JsonValue) (i : ℕ) (x : JsonValue) → i < length xs → x ≡ get_or xs i x → wrong_items i (items_view (drop i xs)) ≡ in_item i (wrong_value (view x)) or wrong_items (i + 1) (items_view (drop (i + 1) xs))
items_at xs i x l is =
    ap (λ vs. wrong_items i (items_view vs)) (drop_more xs i x l)
    ∙ ap (λ (v : JsonValue). in_item i (wrong_value (view v)) or wrong_items (i + 1) (items_view (drop (i + 1) xs))) (sym is)

pub item_found : (xs : List JsonValue) (i : ℕ) (x : JsonValue) (whole : Option Wrong) (w : Wrong) → i < length xs → x ≡ get_or xs i x
    → Some w ≡ in_item i (wrong_value (view x)) → wrong_items i (items_view (drop i xs)) ≡ whole → Some w ≡ whole
item_found xs i x whole w l is at so_far = ap (λ o. o or wrong_items (i + 1) (items_view (drop (i + 1) xs))) at ∙ sym (items_at xs i x l is) ∙ so_far

pub item_fits : (xs : List JsonValue) (i : ℕ) (x : JsonValue) (whole : Option Wrong) → i < length xs → x ≡ get_or xs i x
    → None ≡ in_item i (wrong_value (view x)) → wrong_items i (items_view (drop i xs)) ≡ whole → wrong_items (i + 1) (items_view (drop (i + 1) xs)) ≡ whole
item_fits xs i x whole l is at so_far = ap (λ o. o or wrong_items (i + 1) (items_view (drop (i + 1) xs))) at ∙ sym (items_at xs i x l is) ∙ so_far

pub items_end : (xs : List JsonValue) (i : ℕ) (whole : Option Wrong) → length xs ≤ i → wrong_items i (items_view (drop i xs)) ≡ whole → None ≡ whole
items_end xs i whole l so_far = sym (ap (λ vs. wrong_items i (items_view vs)) (drop_of_length-le xs l)) ∙ so_far

members_at : (xs : List Member) (i : ℕ) (x : Member) → i < length xs → x ≡ get_or xs i x
    → wrong_members (members_view (drop i xs)) ≡ in_key x.0.now (wrong_value (view x.1)) or wrong_members (members_view (drop (i + 1) xs))
members_at xs i x l is =
    ap (λ vs. wrong_members (members_view vs)) (drop_more xs i x l)
    ∙ ap (λ (m : Member). in_key m.0.now (wrong_value (view m.1)) or wrong_members (members_view (drop (i + 1) xs))) (sym is)

pub member_found : (xs : List Member) (i : ℕ) (x : Member) (whole : Option Wrong) (w : Wrong) → i < length xs → x ≡ get_or xs i x
    → Some w ≡ in_key x.0.now (wrong_value (view x.1)) → wrong_members (members_view (drop i xs)) ≡ whole → Some w ≡ whole
member_found xs i x whole w l is at so_far = ap (λ o. o or wrong_members (members_view (drop (i + 1) xs))) at ∙ sym (members_at xs i x l is) ∙ so_far

pub member_fits : (xs : List Member) (i : ℕ) (x : Member) (whole : Option Wrong) → i < length xs → x ≡ get_or xs i x
    → None ≡ in_key x.0.now (wrong_value (view x.1)) → wrong_members (members_view (drop i xs)) ≡ whole → wrong_members (members_view (drop (i + 1) xs)) ≡ whole
member_fits xs i x whole l is at so_far = ap (λ o. o or wrong_members (members_view (drop (i + 1) xs))) at ∙ sym (members_at xs i x l is) ∙ so_far

pub members_end : (xs : List Member) (i : ℕ) (whole : Option Wrong) → length xs ≤ i → wrong_members (members_view (drop i xs)) ≡ whole → None ≡ whole
members_end xs i whole l so_far = sym (ap (λ vs. wrong_members (members_view vs)) (drop_of_length-le xs l)) ∙ so_far
