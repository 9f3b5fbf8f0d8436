-- The lists that an array and an object stand for.
use Rattle.std.proofs.Common.{◌≡◌, ℕ, List, [], ◌∷◌, map, Option, Some, None, option_map, Bor, refl, sym, ap, ◌∙◌}
use Rattle.serde_json.specs.Data.{Data}
use Rattle.serde_json.specs.Find.{as_array, as_object}
use Rattle.smithy_json.specs.views.JsonView.{Member, view, items_view, members_view, entry_of, entries}
use Rattle.smithy_json.specs.declared.value.JsonValue.{JsonValue}
use Rattle.smithy_model.specs.Json as json
use Rattle.smithy_model.specs.Json.{listed, items_in, members_in}

listed-items_view : (vs : List JsonValue) → listed (items_view vs) ≡ map view vs
listed-items_view [] = refl
listed-items_view (v ∷ vs) = ap (λ ds. view v ∷ ds) (listed-items_view vs)

entries-members_view : (ms : List Member) → json.entries (members_view ms) ≡ entries ms
entries-members_view [] = refl
entries-members_view (m ∷ ms) = ap (λ rest. entry_of m ∷ rest) (entries-members_view ms)

pub items_in_view : (d : Data) (o : Option (Bor (List JsonValue))) → option_map (λ vs. items_view vs.now) o ≡ as_array d → option_map (λ vs. map view vs.now) o ≡ items_in d
items_in_view d None e = ap (option_map listed) e
items_in_view d (Some vs) e = ap (λ (ds : List Data). Some ds) (sym (listed-items_view vs.now)) ∙ ap (option_map listed) e

pub members_in_view : (d : Data) (o : Option (Bor (List Member))) → option_map (λ ms. members_view ms.now) o ≡ as_object d → option_map (λ ms. entries ms.now) o ≡ members_in d
members_in_view d None e = ap (option_map json.entries) e
members_in_view d (Some ms) e = ap (λ (es : List (List ℕ × Data)). Some es) (sym (entries-members_view ms.now)) ∙ ap (option_map json.entries) e
