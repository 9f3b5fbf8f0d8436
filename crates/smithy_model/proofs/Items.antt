-- What a slice lends at a position.
use Rattle.std.proofs.Common.{◌≡◌, ℕ, List, length, map, Option, Some, None, option_map, Bor, refl, sym, ap, ◌∙◌}
use Rattle.std.specs.List.{slice_get}
use Rattle.std.specs.Slice.{IsItemAt}
use Rattle.std.proofs.lemmas.List.{length-map}
use Rattle.std.proofs.lemmas.Option.{slice_get_past, slice_get_read, slice_get-map}
use Rattle.smithy_model.specs.views.ModelView.{shape_view}
use Rattle.smithy_model.specs.views.NameView.{texts}
use Rattle.smithy_model.specs.declared.shape.Shape.{Shape}

pub item_at : {X : Type 0} (xs : List X) (i : ℕ) (r : Option (Bor X)) → IsItemAt xs i r → option_map (λ x. x.now) r ≡ slice_get xs i
item_at xs i None h = sym (slice_get_past xs i h.3)
item_at xs i (Some x) h = sym (slice_get_read xs (length xs) i x.now refl h.3.0 h.1)

text_at : (o : Option (Bor (Bor (List ℕ)))) → option_map (λ t. t.now) (option_map (λ x. x.now) o) ≡ option_map (λ x. x.now.now) o
text_at None = refl
text_at (Some x) = refl

-- the name behind those whose shapes are found
pub next_name : (names xs : List (Bor (List ℕ))) (found ys : List Shape) (r : Option (Bor (Bor (List ℕ)))) → xs ≡ names → ys ≡ found → IsItemAt xs (length ys) r
    → slice_get (texts names) (length (map shape_view found)) ≡ option_map (λ x. x.now.now) r
next_name names xs found ys r e f h =
    ap (slice_get (texts names)) (length-map found shape_view ∙ sym (ap length f))
    ∙ ap (λ ns. slice_get (texts ns) (length ys)) (sym e)
    ∙ slice_get-map (λ t. t.now) xs (length ys)
    ∙ ap (option_map (λ t. t.now)) (sym (item_at xs (length ys) r h))
    ∙ text_at r

-- the name at a position
pub name_at : (names xs : List (Bor (List ℕ))) (i : ℕ) (r : Option (Bor (Bor (List ℕ)))) → xs ≡ names → IsItemAt xs i r → slice_get (texts names) i ≡ option_map (λ x. x.now.now) r
name_at names xs i r e h =
    ap (λ ns. slice_get (texts ns) i) (sym e) ∙ slice_get-map (λ t. t.now) xs i ∙ ap (option_map (λ t. t.now)) (sym (item_at xs i r h)) ∙ text_at r
