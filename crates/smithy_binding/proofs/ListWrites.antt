-- The first write of a list in the query.
use Rattle.smithy_binding.proofs.Common.{◌≡◌, refl, ap, sym, ◌∙◌, ℕ, List, [], ◌++◌, Option, Some, None, option_map, unwrap_or, is_some, if◌then◌else◌, option_or, append-nil, each, unless, Schema, Binding, to_query, binding_of, list, Writes, list_of, put_all, place_at, texts, pairs_with, inserted_at, pairs_at, query_names, labelled_at, Fault, item_fault, no_year, pairs_fault, is_placed_at, Gathered, placed_first, first_fault, element_text, queries}
use Rattle.smithy_strings.specs.declared.wire.Place.TheVariants.{Query}

module _ (m : Schema) (ws : Writes) (name : List ℕ) (bound : to_query name ≡ binding_of m) where
  query_texts : texts m (list ws) ≡ each (element_text Query) (list_of ws)
  query_texts = ap (λ (b : Binding). each (element_text (place_at b)) (list_of ws)) (sym bound)

  abbrev fault_of : Binding → Option Fault → Option (List (List ℕ)) → Option Fault
  fault_of b item ts =
      if is_placed_at b then option_or (option_or item (unless (is_some ts) no_year)) (pairs_fault m (inserted_at b m (list ws))) else None

  by_texts : item_fault m (list ws) ≡ None → (o : Option (List (List ℕ))) → each (element_text Query) (list_of ws) ≡ o → first_fault m (list ws) ≡ fault_of (to_query name) None o
  by_texts item o e = λ j. fault_of (sym bound j) (item j) ((query_texts ∙ e) j)

  -- elements of the kind, each with a text, have no fault
  pub list-legal : item_fault m (list ws) ≡ None → (old query : List ℕ) → option_map (λ ts. old ++ queries (pairs_with name ts)) (each (element_text Query) (list_of ws)) ≡ Some query → first_fault m (list ws) ≡ None
  list-legal item old query h = go (each (element_text Query) (list_of ws)) refl h
    where
      go : (o : Option (List (List ℕ))) → each (element_text Query) (list_of ws) ≡ o → option_map (λ ts. old ++ queries (pairs_with name ts)) o ≡ Some query → first_fault m (list ws) ≡ None
      go None e h = absurd (cc h)
      go (Some ts) e h = by_texts item (Some ts) e

  -- without a text of each it is a year
  pub list-year : item_fault m (list ws) ≡ None → each (element_text Query) (list_of ws) ≡ None → first_fault m (list ws) ≡ Some no_year
  list-year item e = by_texts item None e

  -- it puts nothing but pairs
  pub placed-list : (schema : Schema) (s : Gathered) (query : List ℕ) → option_map (λ ts. s.query ++ queries (pairs_with name ts)) (each (element_text Query) (list_of ws)) ≡ Some query
      → record s { query = query } ≡ placed_first schema m (list ws) s
  placed-list schema s query h = ap (λ (q : List ℕ). record s { query = q }) (go (texts m (list ws)) (ap (option_map (λ ts. s.query ++ queries (pairs_with name ts))) query_texts ∙ h)) ∙ shape (binding_of m) bound
    where
      go : (o : Option (List (List ℕ))) → option_map (λ ts. s.query ++ queries (pairs_with name ts)) o ≡ Some query → query ≡ s.query ++ queries (pairs_with name (unwrap_or o []))
      go None h = absurd (cc h)
      go (Some ts) h = let same : s.query ++ queries (pairs_with name ts) ≡ query = cc h in sym same

      shape : (b : Binding) → to_query name ≡ b
          → ◌≡◌ {A = Gathered} (record s { query = s.query ++ queries (pairs_with name (unwrap_or (texts m (list ws)) [])) })
          (record s { headers = put_all s.headers (inserted_at b m (list ws)); query = s.query ++ queries (pairs_at b (query_names schema) m (list ws)); labels = s.labels ++ labelled_at b m (list ws) })
      shape b e = rw (← e, append-nil s.labels) refl
