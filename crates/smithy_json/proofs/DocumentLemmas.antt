-- Documents, an item or a member at a time.
use Rattle.std.proofs.Common.{◌≡◌, refl, sym, ap, ◌∙◌, ℕ, ◌+◌, ◌<◌, ◌≤◌, List, length, get_or, drop, Option, Some, None, option_map}
use Rattle.std.proofs.lemmas.List.{drop_more}
use Rattle.std.proofs.Math.ListN.{drop_of_length-le}
use Rattle.smithy_json.specs.views.JsonView.{view, items_view}
use Rattle.smithy_json.specs.declared.value.JsonValue.{JsonValue}
use Rattle.smithy_types.specs.Documents as doc
use Rattle.smithy_types.specs.Documents.{Document, Items, Members, items_snoc, put_all}
use Rattle.smithy_json.specs.FromData.{of_data, items_of_data}

-- items, and then others
abbrev pub and_items : Items → Items → Items
and_items doc.no_items ds = ds
and_items (doc.item d more) ds = doc.item d (and_items more ds)

and_items-none : (ds : Items) → and_items ds doc.no_items ≡ ds
and_items-none doc.no_items = refl
and_items-none (doc.item d ds) = ap (doc.item d) (and_items-none ds)

and_items-snoc : (ds : Items) (d : Document) (es : Items) → and_items (items_snoc ds d) es ≡ and_items ds (doc.item d es)
and_items-snoc doc.no_items d es = refl
and_items-snoc (doc.item x ds) d es = ap (doc.item x) (and_items-snoc ds d es)

and_all : (done : Items) (d : Document) (o : Option Items) → option_map (and_items done) (option_map (doc.item d) o) ≡ option_map (and_items (items_snoc done d)) o
and_all done d None = refl
and_all done d (Some es) = ap (λ (x : Items). Some x) (sym (and_items-snoc done d es))

from_none : (o : Option Items) → option_map (and_items doc.no_items) o ≡ o
from_none None = refl
from_none (Some ds) = refl

pub items_start : (vs : List JsonValue) → option_map (and_items doc.no_items) (items_of_data (items_view vs)) ≡ items_of_data (items_view vs)
items_start vs = from_none (items_of_data (items_view vs))

pub items_more : (done : Items) (d : Document) (vs : List JsonValue) (i : ℕ) (v : JsonValue) (all : Option Items) → i < length vs → v ≡ get_or vs i v → of_data (view v) ≡ Some d
    → option_map (and_items done) (items_of_data (items_view (drop i vs))) ≡ all → option_map (and_items (items_snoc done d)) (items_of_data (items_view (drop (i + 1) vs))) ≡ all
items_more done d vs i v all l is e h = sym (and_all done d _) ∙ (rw (drop_more vs i v l, ← is, e) at h)

pub items_end : (done : Items) (vs : List JsonValue) (i : ℕ) (all : Option Items) → length vs ≤ i → option_map (and_items done) (items_of_data (items_view (drop i vs))) ≡ all → all ≡ Some done
items_end done vs i all l h = sym (ap (λ (x : Items). Some x) (sym (and_items-none done)) ∙ (rw (drop_of_length-le vs l) at h))

-- what members put into an object
abbrev pub put_rest : Members → Option (List (List ℕ × Document)) → Option Members
put_rest done o = option_map (λ ps. put_all ps done) o
