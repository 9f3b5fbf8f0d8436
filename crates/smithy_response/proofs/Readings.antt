-- How an element at hand is read.
use Rattle.smithy_response.proofs.Common.{◌≡◌, ℕ, ℤ, ◌-◌, List, [], ◌∷◌, Option, Some, None, option_map, Result, Err, refl, sym, ap, subst, ◌∙◌, slice_get, Response, Schema, SerdeError, scalar_of_element, scalar_of_date, Prefixed, read_scalar, prefix_refusal, type_of, read_at, scalar_of_read, Reads, IsRefusal, OpenList, items_of, element_at, prefix_at_hand}
use Rattle.smithy_serde.specs.declared.read_scalar.ScalarKind.{ScalarKind}
use Rattle.smithy_serde.specs.declared.read_scalar.ReadScalar.{ReadScalar}
use Rattle.smithy_serde.specs.Held as held
use Rattle.smithy_response.specs.declared.parts.ListItems.TheVariants as items
use Rattle.smithy_response.specs.GivenScalars.{GivesScalar}
use Rattle.std.proofs.lemmas.Option.{slice_get-map}

module _ (k : ScalarKind) (node : Schema) (l : OpenList) (place : ℕ) (result : Result ReadScalar SerdeError) (at : place ≡ l.place - 1) where
  text_at : (words : List (List ℕ)) (found : Option (List ℕ)) → l.items ≡ items.Texts words → found ≡ slice_get words place
      → element_at l ≡ option_map (λ t. held.element t) found
  text_at words found is get =
      ap (λ its. slice_get (items_of its) (l.place - 1)) is ∙ ap (λ p. slice_get (items_of (items.Texts words)) p) (sym at)
      ∙ slice_get-map (λ t. held.element t) words place ∙ ap (option_map (λ t. held.element t)) (sym get)

  date_at : (seconds : List ℤ) (found : Option ℤ) → l.items ≡ items.Dates seconds → found ≡ slice_get seconds place
      → element_at l ≡ option_map (λ s. held.date s) found
  date_at seconds found is get =
      ap (λ its. slice_get (items_of its) (l.place - 1)) is ∙ ap (λ p. slice_get (items_of (items.Dates seconds)) p) (sym at)
      ∙ slice_get-map (λ s. held.date s) seconds place ∙ ap (option_map (λ s. held.date s)) (sym get)

  pub reads_text : (words : List (List ℕ)) (w : List ℕ) → l.items ≡ items.Texts words → Some w ≡ slice_get words place
      → GivesScalar k (Some (scalar_of_element (type_of k) w)) result → GivesScalar k (read_at k node (element_at l)) result
  unfolding read_scalar
  reads_text words w is get given = subst (λ o. GivesScalar k (read_at k node o) result) (sym (text_at words (Some w) is get)) given

  pub reads_date : (seconds : List ℤ) (s : ℤ) → l.items ≡ items.Dates seconds → Some s ≡ slice_get seconds place
      → GivesScalar k (Some (scalar_of_date (type_of k) s)) result → GivesScalar k (read_at k node (element_at l)) result
  unfolding read_scalar
  reads_date seconds s is get given = subst (λ o. GivesScalar k (read_at k node o) result) (sym (date_at seconds (Some s) is get)) given

module _ (k : ScalarKind) (node : Schema) (l : OpenList) (place : ℕ) (e : SerdeError) (at : place ≡ l.place - 1) where
  nothing_read : element_at l ≡ None → GivesScalar k (read_at k node (element_at l)) (Err e)
  nothing_read is = subst (λ o. GivesScalar k (read_at k node o) (Err e)) (sym is) (record { of_kind = tt; gives = tt })

  pub no_text : (words : List (List ℕ)) → l.items ≡ items.Texts words → None ≡ slice_get words place → GivesScalar k (read_at k node (element_at l)) (Err e)
  no_text words is get = nothing_read (text_at k node l place (Err e) at words None is get)

  pub no_date : (seconds : List ℤ) → l.items ≡ items.Dates seconds → None ≡ slice_get seconds place → GivesScalar k (read_at k node (element_at l)) (Err e)
  no_date seconds is get = nothing_read (date_at k node l place (Err e) at seconds None is get)

-- the headers behind a prefix are no scalar
pub prefix_not_read : (k : ScalarKind) (node : Schema) (response : Response) (ps : List Prefixed) (e : SerdeError) → IsRefusal (prefix_refusal (type_of k)) e
    → Reads scalar_of_read k node (prefix_at_hand response ps None) (prefix_at_hand response ps None) (Err e)
unfolding read_scalar
prefix_not_read k node response ps e refused = record { opened = refl; levels = refl; of_kind = tt; gives = refused }
