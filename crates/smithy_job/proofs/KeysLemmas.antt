-- Keys of a job of a response, and values that are alike.
use Rattle.std.proofs.Common.{◌≡◌, refl, sym, ap, ◌∙◌, codes, ℕ, ◌+◌, ◌<◌, ◌≤◌, length, take, get_or, List, [], ◌∷◌, ◌++◌, map, Option, Some, None, subst, nat_cmp, Ordering, Less, Equal, Greater}
use Rattle.std.proofs.lemmas.List.{map-append, take_more, take_all}
use Rattle.std.specs.Cmp.Lexicographic.{slice_cmp}
use Rattle.std.specs.Option.{option_or}
use Rattle.std.specs.Ordering.{match_ordering}
use Rattle.serde_json.specs.Data.{Data, object}
use Rattle.serde_json.specs.Find.{get_member}
use Rattle.smithy_json.specs.views.JsonView.{view}
use Rattle.smithy_json.specs.declared.value.JsonValue.{JsonValue}
use Rattle.smithy_job.specs.Jobs.{expected}
use Rattle.smithy_job.specs.Keys.{Keys, alone, keys_among, keys_of, members_with, pairs_of, with_key}
use Rattle.smithy_job.specs.views.KeysView.{AskAlike}

-- ---- the job of one response among many

-- what stands under a key among these
abbrev value_at : List ℕ → List (List ℕ × Option Data) → Option Data
value_at key [] = None
value_at key (p ∷ ps) = match_ordering (slice_cmp nat_cmp key p.0) (value_at key ps) (option_or p.1 (value_at key ps)) (value_at key ps)

value_there : (key : List ℕ) (ps : List (List ℕ × Option Data)) → get_member key (members_with ps) ≡ value_at key ps
value_there key [] = refl
value_there key (p ∷ ps) = go p.1 (slice_cmp nat_cmp key p.0) refl (value_there key ps)
  where
    go : (o : Option Data) (c : Ordering) → slice_cmp nat_cmp key p.0 ≡ c → get_member key (members_with ps) ≡ value_at key ps
        → get_member key (with_key (p.0, o) (members_with ps)) ≡ match_ordering c (value_at key ps) (option_or o (value_at key ps)) (value_at key ps)
    go None Less is h = h
    go None Equal is h = h
    go None Greater is h = h
    go (Some d) Less is h = rw is h
    go (Some d) Equal is h = rw is refl
    go (Some d) Greater is h = rw is h

or_none : (o : Option Data) → option_or o None ≡ o
or_none None = refl
or_none (Some d) = refl

module _ (k : Keys) where
  there : (key : List ℕ) (o : Option Data) → value_at key (pairs_of k) ≡ option_or o None → get_member key (members_with (pairs_of k)) ≡ o
  there key o is = value_there key (pairs_of k) ∙ is ∙ or_none o

  keys_there : keys_of (object (members_with (pairs_of k))) ≡ k
  keys_there = λ i. record {
    model = there (codes "model") k.model refl i;
    operation = there (codes "operation") k.operation refl i;
    response = there (codes "response") k.response refl i;
    error = there (codes "error") k.error refl i;
    code = there (codes "code") k.code refl i;
    service_errors = there (codes "serviceErrors") k.service_errors refl i;
    policy = there (codes "policy") k.policy refl i;
  }

-- the keys of that job are those of its item
pub keys-alone : (job item : Data) → keys_of (alone job item) ≡ keys_among job item
unfolding alone
keys-alone job item = keys_there (keys_among job item)

-- ---- keys that ask for the same

pub alike-expected : (one other : Keys) → one.model ≡ other.model → AskAlike one other → expected one ≡ expected other
alike-expected one other model same =
    ap expected (λ i. record { model = model i; operation = same.operation i; response = one.response; error = same.error i; code = same.code i; service_errors = same.service_errors i; policy = one.policy })

-- ---- values that are alike

module _ (ones others : List JsonValue) (i : ℕ) where
  pub same-next : (x y : JsonValue) → i < length ones → x ≡ get_or ones i x → i < length others → y ≡ get_or others i y → view x ≡ view y
      → map view (take i ones) ≡ map view (take i others) → map view (take (i + 1) ones) ≡ map view (take (i + 1) others)
  same-next x y within is other_within other_is same h =
      ap (map view) (take_more ones i x within ∙ ap (λ v. take i ones ++ v ∷ []) (sym is)) ∙ map-append view (take i ones) (x ∷ [])
      ∙ (λ j. h j ++ same j ∷ [])
      ∙ sym (ap (map view) (take_more others i y other_within ∙ ap (λ v. take i others ++ v ∷ []) (sym other_is)) ∙ map-append view (take i others) (y ∷ []))

  pub same-all : length ones ≡ length others → length ones ≤ i → map view (take i ones) ≡ map view (take i others) → map view ones ≡ map view others
  same-all lengths past h = sym (ap (map view) (take_all i ones past)) ∙ h ∙ ap (map view) (take_all i others (subst (λ n. n ≤ i) lengths past))
