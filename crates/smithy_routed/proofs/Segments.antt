-- Paths as their segments.
use Rattle.std.proofs.Common.{◌≡◌, ◌≢◌, refl, sym, ◌∙◌, ap, ℕ, arith, Bool, true, false, cond, ◌==◌, List, [], ◌∷◌, ◌++◌, eq-eqb, ne_eqb}
use Rattle.std.specs.List.{AllByRecursion, slice_split, onto_first}
use Rattle.std.proofs.lemmas.Bool.{eqb-true}
use Rattle.smithy_router.specs.Routes.{HasNo}
use Rattle.smithy_router.specs.Segments.{fits_greedy}
use Rattle.smithy_unambiguity.proofs.Cuts.{HasNo-append}
use Rattle.smithy_router.proofs.Targets.{split_some}

-- the segments, each behind a `/`
abbrev pub path_of : List (List ℕ) → List ℕ
path_of [] = []
path_of (s ∷ ss) = 47 ∷ (s ++ path_of ss)

-- those of a text that is cut at each `/`
abbrev pub cut_path : List ℕ → List (List ℕ)
cut_path text = slice_split (λ b. b == 47) text

-- a path is that of its segments
onto_path : (b : ℕ) (parts : List (List ℕ)) (text : List ℕ) → parts ≢ [] → path_of parts ≡ 47 ∷ text → path_of (onto_first b parts) ≡ 47 ∷ b ∷ text
onto_path b [] text some e = absurd (some refl)
onto_path b (part ∷ parts) text some e = let same : part ++ path_of parts ≡ text = cc e in ap (λ (t : List ℕ). 47 ∷ b ∷ t) same

pub cut_joined : (text : List ℕ) → path_of (cut_path text) ≡ 47 ∷ text
cut_joined [] = refl
cut_joined (b ∷ text) = go (b == 47) refl (cut_joined text)
  where
    go : (t : Bool) → (b == 47) ≡ t → path_of (cut_path text) ≡ 47 ∷ text → path_of (cond t ([] ∷ cut_path text) (onto_first b (cut_path text))) ≡ 47 ∷ b ∷ text
    go true e rest = ap (λ (t : List ℕ). 47 ∷ t) rest ∙ ap (λ (c : ℕ). 47 ∷ c ∷ text) (sym (eqb-true b 47 e))
    go false e rest = onto_path b (cut_path text) text (split_some 47 text) rest

-- segments without a `/` are those of their path
pub joined_cut : (s : List ℕ) (ss : List (List ℕ)) → AllByRecursion (HasNo 47) (s ∷ ss) → cut_path (s ++ path_of ss) ≡ s ∷ ss
joined_cut [] [] none = refl
joined_cut [] (next ∷ ss) none = ap (λ (parts : List (List ℕ)). [] ∷ parts) (joined_cut next ss none.1)
joined_cut (b ∷ s) ss none =
    ap (λ t. cond t ([] ∷ cut_path (s ++ path_of ss)) (onto_first b (cut_path (s ++ path_of ss)))) (ne_eqb b 47 none.0.0)
    ∙ ap (onto_first b) (joined_cut s ss (none.0.1, none.1))

pub no_question : (ss : List (List ℕ)) → AllByRecursion (HasNo 63) ss → HasNo 63 (path_of ss)
no_question [] none = tt
no_question (s ∷ ss) none = ((λ h. absurd (omega arith)), HasNo-append 63 s (path_of ss) none.0 (no_question ss none.1))

-- The segments of a text have no `/`, and no byte that the text has not.
other_byte : (b c : ℕ) → (b == c) ≡ false → b ≢ c
other_byte b c e h = let q : true ≡ false = sym (eq-eqb b c h) ∙ e in cc q

onto_all : (c b : ℕ) (parts : List (List ℕ)) → b ≢ c → AllByRecursion (HasNo c) parts → AllByRecursion (HasNo c) (onto_first b parts)
onto_all c b [] ne all = ((ne, tt), tt)
onto_all c b (p ∷ ps) ne all = ((ne, all.0), all.1)

pub cut_clean : (text : List ℕ) → AllByRecursion (HasNo 47) (cut_path text)
cut_clean [] = (tt, tt)
cut_clean (b ∷ text) = go (b == 47) refl (cut_clean text)
  where
    go : (t : Bool) → (b == 47) ≡ t → AllByRecursion (HasNo 47) (cut_path text) → AllByRecursion (HasNo 47) (cond t ([] ∷ cut_path text) (onto_first b (cut_path text)))
    go true e rest = (tt, rest)
    go false e rest = onto_all 47 b _ (other_byte b 47 e) rest

pub cut_without : (c : ℕ) (text : List ℕ) → HasNo c text → AllByRecursion (HasNo c) (cut_path text)
cut_without c [] none = (tt, tt)
cut_without c (b ∷ text) none = go (b == 47) (cut_without c text none.1)
  where
    go : (t : Bool) → AllByRecursion (HasNo c) (cut_path text) → AllByRecursion (HasNo c) (cond t ([] ∷ cut_path text) (onto_first b (cut_path text)))
    go true rest = (tt, rest)
    go false rest = onto_all c b _ none.0 rest

-- those of a text that is not empty fit a greedy end
more_fit : (parts : List (List ℕ)) → parts ≢ [] → fits_greedy ([] ∷ parts) ≡ true
more_fit [] some = absurd (some refl)
more_fit (part ∷ parts) some = refl

onto_fit : (b : ℕ) (parts : List (List ℕ)) → fits_greedy (onto_first b parts) ≡ true
onto_fit b [] = refl
onto_fit b (part ∷ []) = refl
onto_fit b (part ∷ next ∷ parts) = refl

pub greedy_fits : (b : ℕ) (text : List ℕ) → fits_greedy (cut_path (b ∷ text)) ≡ true
greedy_fits b text = go (b == 47)
  where
    go : (t : Bool) → fits_greedy (cond t ([] ∷ cut_path text) (onto_first b (cut_path text))) ≡ true
    go true = more_fit (cut_path text) (split_some 47 text)
    go false = onto_fit b (cut_path text)
