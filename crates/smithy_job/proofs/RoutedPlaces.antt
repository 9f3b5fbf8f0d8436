-- The first wrong place of operations, an item at a time.
use Rattle.std.proofs.Common.{◌≡◌, ℕ, ◌+◌, ◌<◌, List, ◌∷◌, length, map, drop, get_or, Option, Some, None, sym, ap, ◌∙◌}
use Rattle.std.proofs.lemmas.List.{drop_more}
use Rattle.serde_json.specs.Data.{Data}
use Rattle.smithy_json.specs.views.JsonView.{view}
use Rattle.smithy_json.specs.declared.value.JsonValue.{JsonValue}
use Rattle.smithy_model.specs.Wrong.{Wrong, ◌or◌}
use Rattle.smithy_job.specs.WrongJobs.{wrong_routed, first_routed}

rest_at : (xs : List JsonValue) (i : ℕ) (x : JsonValue) → i < length xs → x ≡ get_or xs i x → map view (drop i xs) ≡ view x ∷ map view (drop (i + 1) xs)
rest_at xs i x l is = ap (map view) (drop_more xs i x l) ∙ ap (λ z. view z ∷ map view (drop (i + 1) xs)) (sym is)

pub routed_found : (shapes : Data) (xs : List JsonValue) (i : ℕ) (x : JsonValue) (whole : Option Wrong) (w : Wrong) → i < length xs → x ≡ get_or xs i x
    → Some w ≡ wrong_routed shapes i (view x) → first_routed shapes i (map view (drop i xs)) ≡ whole → Some w ≡ whole
routed_found shapes xs i x whole w l is at so_far =
    ap (λ o. o or first_routed shapes (i + 1) (map view (drop (i + 1) xs))) at ∙ sym (ap (first_routed shapes i) (rest_at xs i x l is)) ∙ so_far

pub routed_fits : (shapes : Data) (xs : List JsonValue) (i : ℕ) (x : JsonValue) (whole : Option Wrong) → i < length xs → x ≡ get_or xs i x
    → None ≡ wrong_routed shapes i (view x) → first_routed shapes i (map view (drop i xs)) ≡ whole → first_routed shapes (i + 1) (map view (drop (i + 1) xs)) ≡ whole
routed_fits shapes xs i x whole l is at so_far =
    ap (λ o. o or first_routed shapes (i + 1) (map view (drop (i + 1) xs))) at ∙ sym (ap (first_routed shapes i) (rest_at xs i x l is)) ∙ so_far
