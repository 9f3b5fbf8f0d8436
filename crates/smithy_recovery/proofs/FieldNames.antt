-- The names of members and the keys of maps, one after another, and a member by its name.
use Rattle.std.proofs.Common.{◌≡◌, ℕ, zero, suc, ◌+◌, ◌<◌, ◌≤◌, length, drop, arith, List, [], ◌∷◌, ◌++◌, append_assoc, map, filter_map, Option, Some, None, option_map, unwrap_or, refl, sym, ap, ap₂, ◌∙◌}
use Rattle.std.specs.Prelude.{MatchOption}
use Rattle.std.specs.Borrow.{Bor}
use Rattle.std.specs.List.{cons_option}
use Rattle.std.proofs.lemmas.List.{append-nil, map-append}
use Rattle.smithy_schema.specs.Nodes.{Table, Node, Schema, node_at, at_place, cited, shape, members_of, member_named}
use Rattle.smithy_schema.specs.Places.{places_of}
use Rattle.smithy_schema.specs.declared.parts.SchemaIndex.{SchemaIndex}
use Rattle.smithy_serde.specs.declared.value.OneWrite.{OneWrite}
use Rattle.smithy_serde.specs.Shaped.{named_member}
use Rattle.smithy_serde.specs.StoredValues.{no_label, label_at, value_in, listed}
use Rattle.smithy_serde.specs.Values.{label_of, text_of_key, keys_of}
use Rattle.smithy_schema.proofs.PlaceLemmas.{place_at, places_step}
use Rattle.smithy_document.proofs.StandingNodes.{named_found}
use Rattle.smithy_document.proofs.ShapedDocuments.{none_named}

-- what a node cites stands in its table
pub cited_table : (s : Schema) (place : Option ℕ) (m : Schema) → Some m ≡ cited s place → m.table ≡ s.table
cited_table s None m e = absurd (cc e)
cited_table s (Some p) m e = go (node_at s.table p) e
  where
    go : (o : Option Node) → Some m ≡ option_map (λ n. record { table = s.table; node = n }) o → m.table ≡ s.table
    go None f = absurd (cc f)
    go (Some n) f = let same : m ≡ record { table = s.table; node = n } = cc f in ap (λ x. x.table) same

-- a member by its name

pub no_member : (here : Schema) (name : Option (List ℕ)) → None ≡ name → None ≡ named_member (Some here) name
no_member here name e = sym (none_named (members_of (shape here))) ∙ ap (named_member (Some here)) e

pub member_found : (here : Schema) (name : Option (List ℕ)) (n : List ℕ) → Some n ≡ name → member_named (shape here) n ≡ named_member (Some here) name
member_found here name n e = named_found (shape here) n ∙ ap (named_member (Some here)) e

pub shape_table : (s : Schema) → (shape s).table ≡ s.table
shape_table s = go (cited s s.node.target) refl
  where
    go : (o : Option Schema) → cited s s.node.target ≡ o → (unwrap_or o s).table ≡ s.table
    go None is = refl
    go (Some m) is = cited_table s s.node.target m (sym is)

-- the names of the members at places

abbrev pub names_from : Table → List ℕ → List (List ℕ)
names_from t places = filter_map (λ (m : Schema). m.node.member_name) (filter_map (at_place t) places)

pub names_next : (t : Table) (place : ℕ) (places : List ℕ) → names_from t (place ∷ places) ≡ cons_option (label_at t place).member_name (names_from t places)
names_next t place places = go (at_place t place)
  where
    go : (o : Option Schema) → filter_map (λ (m : Schema). m.node.member_name) (cons_option o (filter_map (at_place t) places))
        ≡ cons_option (unwrap_or (option_map label_of o) no_label).member_name (names_from t places)
    go None = refl
    go (Some m) = refl

abbrev pub shown : List (Bor (List ℕ)) → List (List ℕ)
shown names = map (λ n. n.now) names

-- one more name, and what is left behind it
pub one_more_name : (kept new : List (Bor (List ℕ))) (name : Bor (List ℕ)) (left rest all : List (List ℕ)) → new ≡ kept ++ name ∷ [] → left ≡ name.now ∷ rest → shown kept ++ left ≡ all → shown new ++ rest ≡ all
one_more_name kept new name left rest all pushed first so_far =
    ap (λ names. shown names ++ rest) pushed ∙ ap (λ names. names ++ rest) (map-append (λ (n : Bor (List ℕ)). n.now) kept (name ∷ [])) ∙ append_assoc (shown kept) (name.now ∷ []) rest
    ∙ ap (λ names. shown kept ++ names) (sym first) ∙ so_far

-- what is read of a list of writes, if there is something
abbrev pub Takes : {X : Type 0} → (X → OneWrite) → List OneWrite → Option X → List OneWrite → Type 0
Takes seen left taken rest = MatchOption taken ((left ≡ []) × (rest ≡ [])) (λ x. left ≡ seen x ∷ rest)

pub key_next : {X : Type 0} (t : Table) (seen : X → OneWrite) (left mid rest : List OneWrite) (key : OneWrite) (taken : Option X) → left ≡ key ∷ mid → Takes seen mid taken rest
    → keys_of (listed t left) ≡ text_of_key (value_in t key.value) ∷ keys_of (listed t rest)
key_next t seen left mid rest key None first takes =
    ap (λ ws. keys_of (listed t ws)) (first ∙ ap (λ ws. key ∷ ws) takes.0) ∙ ap (λ ws. text_of_key (value_in t key.value) ∷ keys_of (listed t ws)) (sym takes.1)
key_next t seen left mid rest key (Some x) first takes = ap (λ ws. keys_of (listed t ws)) (first ∙ ap (λ ws. key ∷ ws) takes)

pub keys_end : (t : Table) (left : List OneWrite) (kept : List (Bor (List ℕ))) (all : List (List ℕ)) → left ≡ [] → shown kept ++ keys_of (listed t left) ≡ all → shown kept ≡ all
keys_end t left kept all none so_far = sym (append-nil (shown kept)) ∙ sym (ap (λ ws. shown kept ++ keys_of (listed t ws)) none) ∙ so_far

-- the names of the members at places, a place further

names_step : (t : Table) (places : List SchemaIndex) (i : ℕ) → i < length places
    → names_from t (drop i (places_of places)) ≡ cons_option (label_at t (place_at places i)).member_name (names_from t (drop (i + 1) (places_of places)))
names_step t places i within = ap (names_from t) (places_step places i within) ∙ names_next t (place_at places i) (drop (i + 1) (places_of places))

module _ (t : Table) (places : List SchemaIndex) (i : ℕ) (within : i < length places) (all : List (List ℕ)) (kept : List (Bor (List ℕ))) (so_far : shown kept ++ names_from t (drop i (places_of places)) ≡ all) where
  pub name_more : (new : List (Bor (List ℕ))) (name : Bor (List ℕ)) → new ≡ kept ++ name ∷ [] → Some name.now ≡ (label_at t (place_at places i)).member_name → shown new ++ names_from t (drop (i + 1) (places_of places)) ≡ all
  name_more new name pushed is =
      one_more_name kept new name _ (names_from t (drop (i + 1) (places_of places))) all pushed (names_step t places i within ∙ ap (λ o. cons_option o (names_from t (drop (i + 1) (places_of places)))) (sym is)) so_far

  pub no_name_more : None ≡ (label_at t (place_at places i)).member_name → shown kept ++ names_from t (drop (i + 1) (places_of places)) ≡ all
  no_name_more is =
      ap (λ names. shown kept ++ names) (sym (names_step t places i within ∙ ap (λ o. cons_option o (names_from t (drop (i + 1) (places_of places)))) (sym is))) ∙ so_far

places_past : (places : List SchemaIndex) (i : ℕ) → length places ≤ i → drop i (places_of places) ≡ []
places_past [] zero past = refl
places_past [] (suc i) past = refl
places_past (p ∷ places) zero past = absurd (omega (arith, past))
places_past (p ∷ places) (suc i) past = places_past places i (omega (arith, past))

pub names_end : (t : Table) (places : List SchemaIndex) (i : ℕ) (all : List (List ℕ)) (kept : List (Bor (List ℕ))) → length places ≤ i → shown kept ++ names_from t (drop i (places_of places)) ≡ all → shown kept ≡ all
names_end t places i all kept past so_far = sym (append-nil (shown kept)) ∙ sym (ap (λ ps. shown kept ++ names_from t ps) (places_past places i past)) ∙ so_far

-- the members of a node's shape are at the places that the shape cites
pub own_names : (here s : Schema) (t : Table) (places : List ℕ) → s ≡ shape here → here.table ≡ t → places ≡ s.node.members → names_from t places ≡ filter_map (λ (m : Schema). m.node.member_name) (members_of (shape here))
own_names here s t places same own are = ap₂ names_from (sym (shape_table here ∙ own)) (are ∙ ap (λ (x : Schema). x.node.members) same)
