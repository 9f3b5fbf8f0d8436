-- Further traits of an object.
use Rattle.std.proofs.Common.{◌≡◌, ◌==◌, ◌&&◌, ◌∙◌, ap, sym, Bool, true, false, ℕ, List, [], ◌∷◌, length, Option, Some, None, refl}
use Rattle.std.specs.List.{list_all}
use Rattle.std.specs.Option.{option_map_or}
use Rattle.serde_json.specs.Data.{Data}
use Rattle.smithy_model.specs.Json.{members_in, provided}
use Rattle.smithy_model.specs.Further.{Further, with_further, further_in, unless_none, further_traits}
use Rattle.smithy_schema.specs.Nodes.{Traits, no_traits}
use Rattle.smithy_model.specs.GivenTraits.{fit_traits}
use Rattle.smithy_model.specs.Traits.{is_fit_trait, is_named_trait, with_traits}
use Rattle.std.proofs.lemmas.Bool.{and_parts}

pub of_object : (d : Data) (es : List (List ℕ × Data)) → Some es ≡ members_in d → unless_none (further_in [] es) ≡ further_traits d
of_object d es e = ap (λ o. option_map_or (λ entries. unless_none (further_in [] entries)) o None) e

pub none_of : (f : Further) → true ≡ (length f == 0) → None ≡ unless_none f
none_of f e = rw (← e) refl

pub some_of : (f : Further) → false ≡ (length f == 0) → Some f ≡ unless_none f
some_of f e = rw (← e) refl

without_named : (f : Further) (e : List ℕ × Data) (es : List (List ℕ × Data)) (b : Bool) → is_named_trait e.0 ≡ b → (b && list_all (λ e. is_named_trait e.0) es) ≡ true → further_in f es ≡ f → further_in (with_further f e) es ≡ f
without_named f e es true is all rest = rw is rest
without_named f e es false is all rest = absurd (cc all)

all_named : (f : Further) (es : List (List ℕ × Data)) → list_all (λ e. is_named_trait e.0) es ≡ true → further_in f es ≡ f
all_named f [] all = refl
all_named f (e ∷ es) all = without_named f e es _ refl all (all_named f es (and_parts (is_named_trait e.0) (list_all (λ e. is_named_trait e.0) es) all).1)

-- where each trait of an object has a field of its own, there is none without
pub none_without_field : (d : Data) (es : List (List ℕ × Data)) → Some es ≡ members_in d → list_all (λ e. is_named_trait e.0) es ≡ true → None ≡ further_traits d
none_without_field d es is all = ap unless_none (sym (all_named [] es all)) ∙ of_object d es is

-- one more trait, told before the others
pub named_more : (t old rest all : Bool) → (old && (t && rest)) ≡ all → ((t && old) && rest) ≡ all
named_more true old rest all h = h
named_more false true rest all h = h
named_more false false rest all h = h

-- the traits of an object by its entries
pub fit_known : (d : Data) (es : List (List ℕ × Data)) (p : Traits) (o : Option Further) → Some es ≡ members_in d → Some p ≡ provided (list_all is_fit_trait es) (Some (with_traits no_traits es)) → o ≡ further_traits d
    → Some (record p { others = o }) ≡ fit_traits d
fit_known d es p o is fit others =
    go (list_all is_fit_trait es) fit
    ∙ ap (λ m. provided (option_map_or (list_all is_fit_trait) m false) (Some (record (option_map_or (with_traits no_traits) m no_traits) { others = further_traits d }))) is
  where
    go : (b : Bool) → Some p ≡ provided b (Some (with_traits no_traits es)) → Some (record p { others = o }) ≡ provided b (Some (record (with_traits no_traits es) { others = further_traits d }))
    go true h = let same : p ≡ with_traits no_traits es = cc h in λ i. Some (record (same i) { others = others i })
    go false h = absurd (cc h)
