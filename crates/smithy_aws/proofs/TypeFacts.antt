-- The content type that is added to a request, among what is seen of it.
use Rattle.std.proofs.Common.{◌≡◌, refl, sym, ap, ap₂, ◌∙◌, ℕ, Bool, true, false, not, ◌&&◌, ◌||◌, ◌==◌, codes, decimal, List, [], ◌∷◌, ◌++◌, length, map, cond, append-nil, if◌then◌else◌}
use Rattle.std.specs.Prelude.{is_none, is_some}
use Rattle.std.specs.Cmp.Lexicographic.{same_text as same_from_test}
use Rattle.std.proofs.lemmas.List.{append_cancel_right}
use Rattle.smithy_types.specs.Texts.{same_text}
use Rattle.smithy_http.specs.Facts.{Facts, facts, values_at}
use Rattle.smithy_http.specs.Requests.{Request}
use Rattle.smithy_schema.specs.Nodes.{Schema}
use Rattle.smithy_serde.specs.declared.header_omit_settings.OmitFlags.{OmitFlags}
use Rattle.smithy_binding.specs.Placing.{with_default, with_defaults}
use Rattle.smithy_binding.specs.Words.{found}
use Rattle.smithy_unambiguity.proofs.ByName.{front, found-front}
use Rattle.smithy_unambiguity.proofs.Queries.{values_at-append}
use Rattle.smithy_aws.specs.Added.{raw_type, with_type}

abbrev Pairs : Type 0
Pairs = List (List ℕ × List ℕ)

abbrev type_name : List ℕ
type_name = codes "content-type"

abbrev length_name : List ℕ
length_name = codes "content-length"

-- ---- one default

-- what a default adds at a name
abbrev part : Bool → Bool → List ℕ → List (List ℕ)
part is_added is_there value = if is_added then (if is_there then value ∷ [] else []) else []

part_elsewhere : (is_added : Bool) (value : List ℕ) → part is_added false value ≡ []
part_elsewhere true value = refl
part_elsewhere false value = refl

-- a default is added where it is wanted and none of these stands
abbrev is_added : Bool → List (List ℕ) → Bool
is_added wanted values = wanted && is_none (front values)

default_at : (wanted : Bool) (name value : List ℕ) (pairs : Pairs) (at : List ℕ)
    → values_at at (with_default wanted name value pairs) ≡ values_at at pairs ++ part (is_added wanted (values_at name pairs)) (same_text name at) value
default_at wanted name value pairs at =
    ap (λ o. values_at at (if wanted && is_none o then pairs ++ (name, value) ∷ [] else pairs)) (found-front name pairs) ∙ go (is_added wanted (values_at name pairs))
  where
    one : (t : Bool) → map (λ (q : List ℕ × List ℕ). q.1) (cond t ((name, value) ∷ []) []) ≡ (if t then value ∷ [] else [])
    one true = refl
    one false = refl

    go : (b : Bool) → values_at at (if b then pairs ++ (name, value) ∷ [] else pairs) ≡ values_at at pairs ++ part b (same_text name at) value
    go true = values_at-append at pairs ((name, value) ∷ []) ∙ ap (λ vs. values_at at pairs ++ vs) (one (same_text name at))
    go false = sym (append-nil (values_at at pairs))

-- at another name nothing is
default_elsewhere : (wanted : Bool) (name value : List ℕ) (pairs : Pairs) (at : List ℕ) → same_text name at ≡ false → values_at at (with_default wanted name value pairs) ≡ values_at at pairs
default_elsewhere wanted name value pairs at other =
    default_at wanted name value pairs at ∙ ap (λ t. values_at at pairs ++ part (is_added wanted (values_at name pairs)) t value) other
    ∙ ap (λ vs. values_at at pairs ++ vs) (part_elsewhere (is_added wanted (values_at name pairs)) value) ∙ append-nil (values_at at pairs)

-- ---- the type behind the length

-- which of two defaults of different names comes first is not seen
in_any_order : (at : List ℕ) (s t : Bool) (typed measured : List ℕ) (xs : List (List ℕ))
    → (xs ++ part s (same_text type_name at) typed) ++ part t (same_text length_name at) measured ≡ (xs ++ part t (same_text length_name at) measured) ++ part s (same_text type_name at) typed
in_any_order at s t typed measured xs = go (same_text type_name at) refl
  where
    go : (b : Bool) → same_text type_name at ≡ b
        → (xs ++ part s b typed) ++ part t (same_text length_name at) measured ≡ (xs ++ part t (same_text length_name at) measured) ++ part s b typed
    go false is =
        let none = part_elsewhere s typed in
        ap (λ vs. (xs ++ vs) ++ part t (same_text length_name at) measured) none ∙ ap (λ vs. vs ++ part t (same_text length_name at) measured) (append-nil xs)
        ∙ sym (append-nil (xs ++ part t (same_text length_name at) measured)) ∙ ap (λ vs. (xs ++ part t (same_text length_name at) measured) ++ vs) (sym none)
    go true is =
        let same : type_name ≡ at = same_from_test type_name at (sym is) in
        let other : same_text length_name at ≡ false = ap (same_text length_name) (sym same) in
        let none : part t (same_text length_name at) measured ≡ [] = ap (λ b. part t b measured) other ∙ part_elsewhere t measured in
        ap (λ vs. (xs ++ part s true typed) ++ vs) none ∙ append-nil (xs ++ part s true typed)
        ∙ ap (λ vs. vs ++ part s true typed) (sym (append-nil xs)) ∙ ap (λ vs. (xs ++ vs) ++ part s true typed) (sym none)

module _ (m : Schema) (omit : OmitFlags) where
  abbrev wants_type : ℕ → Bool
  wants_type size = not (size == 0) && not omit.content_type

  -- the headers of a raw payload of so many bytes, with the default length alone
  abbrev pub measured : ℕ → Pairs → Pairs
  measured size pairs = with_default ((not (size == 0) || false) && not omit.content_length) length_name (decimal size) pairs

  -- the values at a name, with the content type
  abbrev typed_at : ℕ → (List ℕ → List (List ℕ)) → List ℕ → List (List ℕ)
  typed_at size headers at = headers at ++ part (is_added (wants_type size) (headers type_name)) (same_text type_name at) (raw_type m)

  wanted_once : (b c : Bool) → ((b || b) && c) ≡ ((b || false) && c)
  wanted_once true c = refl
  wanted_once false c = refl

  type_at : (size : ℕ) (pairs : Pairs) (at : List ℕ)
      → values_at at (with_defaults (raw_type m) (not (size == 0)) size omit pairs) ≡ typed_at size (λ name. values_at name (measured size pairs)) at
  type_at size pairs at =
      ap (λ b. values_at at (with_default b length_name (decimal size) typed)) (wanted_once (not (size == 0)) (not omit.content_length))
      ∙ default_at long length_name (decimal size) typed at
      ∙ ap (λ vs. values_at at typed ++ part (is_added long vs) (same_text length_name at) (decimal size)) (default_elsewhere (wants_type size) type_name (raw_type m) pairs length_name refl)
      ∙ ap (λ vs. vs ++ part (is_added long (values_at length_name pairs)) (same_text length_name at) (decimal size)) (default_at (wants_type size) type_name (raw_type m) pairs at)
      ∙ in_any_order at (is_added (wants_type size) (values_at type_name pairs)) (is_added long (values_at length_name pairs)) (raw_type m) (decimal size) (values_at at pairs)
      ∙ ap₂ (λ vs ts. vs ++ part (is_added (wants_type size) ts) (same_text type_name at) (raw_type m)) (sym (default_at long length_name (decimal size) pairs at))
      (sym (default_elsewhere long length_name (decimal size) pairs type_name refl))
    where
      long : Bool
      long = (not (size == 0) || false) && not omit.content_length

      typed : Pairs
      typed = with_default (wants_type size) type_name (raw_type m) pairs

  -- what is seen of a request that had the length alone, and has the type
  abbrev typed_facts : Facts → Facts
  typed_facts f = record { method = f.method; path = f.path; headers = λ name. typed_at (length f.body) f.headers name; query = f.query; body = f.body }

  facts_typed : (pairs : Pairs) (a : Request) → a.headers ≡ measured (length a.body) pairs → facts (with_type m omit pairs a) ≡ typed_facts (facts a)
  facts_typed pairs a is =
      λ k. record {
        method = (facts a).method;
        path = (facts a).path;
        headers = λ name. (type_at (length a.body) pairs name ∙ ap (λ hs. typed_at (length a.body) (λ n. values_at n hs) name) (sym is)) k;
        query = (facts a).query;
        body = a.body;
      }

  module _ (ps qs : Pairs) (a b : Request) (of_a : a.headers ≡ measured (length a.body) ps) (of_b : b.headers ≡ measured (length b.body) qs) where
    -- requests that are seen the same have the same type added
    pub type_kept : facts a ≡ facts b → facts (with_type m omit ps a) ≡ facts (with_type m omit qs b)
    type_kept same = facts_typed ps a of_a ∙ ap typed_facts same ∙ sym (facts_typed qs b of_b)

    module _ (alike : (length a.body == 0) ≡ false → (length b.body == 0) ≡ false → is_some (found type_name ps) ≡ is_some (found type_name qs)) where
      at_type : (size : ℕ) (pairs : Pairs) → values_at type_name (measured size pairs) ≡ values_at type_name pairs
      at_type size pairs = default_elsewhere ((not (size == 0) || false) && not omit.content_length) length_name (decimal size) pairs type_name refl

      -- whether some stand under the name of the type
      stands : (pairs : Pairs) (r : Request) → r.headers ≡ measured (length r.body) pairs → is_none (front (values_at type_name r.headers)) ≡ not (is_some (found type_name pairs))
      stands pairs r is =
          ap (λ hs. is_none (front (values_at type_name hs))) is ∙ ap (λ vs. is_none (front vs)) (at_type (length r.body) pairs) ∙ ap is_none (sym (found-front type_name pairs))

      added_alike : length a.body ≡ length b.body → is_added (wants_type (length a.body)) (values_at type_name a.headers) ≡ is_added (wants_type (length b.body)) (values_at type_name b.headers)
      added_alike sizes = go (length a.body == 0) refl (ap (λ n. n == 0) sizes)
        where
          adds : Bool → Pairs → Bool
          adds is_empty pairs = (not is_empty && not omit.content_type) && is_none (front (values_at type_name pairs))

          go : (x : Bool) → (length a.body == 0) ≡ x → (length a.body == 0) ≡ (length b.body == 0) → adds (length a.body == 0) a.headers ≡ adds (length b.body == 0) b.headers
          go true is same = ap (λ z. adds z a.headers) is ∙ sym (ap (λ z. adds z b.headers) (sym same ∙ is))
          go false is same =
              ap₂ (λ z n. (not z && not omit.content_type) && n) same (stands ps a of_a ∙ ap not (alike is (sym same ∙ is)) ∙ sym (stands qs b of_b))

      -- what is seen of the two with the type tells what is seen without it
      pub type_told : facts (with_type m omit ps a) ≡ facts (with_type m omit qs b) → facts a ≡ facts b
      type_told same =
          let seen : typed_facts (facts a) ≡ typed_facts (facts b) = sym (facts_typed ps a of_a) ∙ same ∙ facts_typed qs b of_b in
          let bodies : a.body ≡ b.body = ap (λ f. f.body) seen in
          let adds = added_alike (ap length bodies) in
          λ k. record {
            method = (seen k).method;
            path = (seen k).path;
            headers = λ name.
                append_cancel_right (values_at name a.headers) (values_at name b.headers) (part (is_added (wants_type (length b.body)) (values_at type_name b.headers)) (same_text type_name name) (raw_type m))
                (ap (λ x. values_at name a.headers ++ part x (same_text type_name name) (raw_type m)) (sym adds) ∙ ap (λ f. f.headers name) seen) k;
            query = (seen k).query;
            body = (seen k).body;
          }
