-- The target of the normal form is as long and as legal as the input's.
use Rattle.std.proofs.Common.{append_assoc}
use Rattle.smithy_unambiguity.proofs.Common.{◌≡◌, refl, sym, ◌∙◌, ap, ℕ, nat_le, suc, ◌+◌, arith, Bool, true, false, cond, ◌==◌, List, [], ◌∷◌, ◌++◌, map, filter, length, codes, None, AllByRecursion, list_all, join_with_byte, after_first, option_or, and_parts, and_from, agree_below, agree_below_at, length-append, list_all-append, percent_encode_byte, has_byte, same_text, is_query_byte, is_stem, is_target, is_short_target, before_query, unless, values_at, escape, escape_byte, AreBytes, pairs, legal_fault, too_long, not_legal, view, pair_text, with_query, Protocol, same_text_self, IsCheckedInput, is_well_made, Schema, Write, OmitFlags, IsTyped}
use Rattle.smithy_unambiguity.proofs.HeadersTold.{typed_writes}
use Rattle.smithy_unambiguity.proofs.Queries.{after, after_first-after, after-append, after-cut}
use Rattle.smithy_unambiguity.proofs.TemplateQuery.{query_leaves_path}
use Rattle.smithy_unambiguity.proofs.TextsBytes.{IsBytePair, pairs_are_bytes}
use Rattle.smithy_unambiguity.proofs.Totals.{total, total_of_values}
use Rattle.smithy_unambiguity.proofs.ViewParts.{pairs_of_view}
use Rattle.smithy_unambiguity.proofs.ViewTyped.{view_writes_conform, view_in_range}
use Rattle.smithy_unambiguity.proofs.Viewed.{has_viewed}

-- Escapes are legal in a query.

legal_escapes : agree_below (λ b. list_all is_query_byte (escape_byte b)) (λ b. true) 256 ≡ true
unfolding percent_encode_byte
legal_escapes = refl

legal_escape : (text : List ℕ) → AreBytes text → list_all is_query_byte (escape text) ≡ true
unfolding escape
legal_escape [] bytes = refl
legal_escape (b ∷ text) bytes =
    list_all-append is_query_byte (escape_byte b) (escape text)
    ∙ and_from (list_all is_query_byte (escape_byte b)) (list_all is_query_byte (escape text)) (agree_below_at (λ b. list_all is_query_byte (escape_byte b)) (λ b. true) 256 b legal_escapes bytes.0) (legal_escape text bytes.1)

legal_pair : (p : List ℕ × List ℕ) → IsBytePair p → list_all is_query_byte (pair_text p) ≡ true
legal_pair p bytes =
    list_all-append is_query_byte (escape p.0 ++ codes "=") (escape p.1)
    ∙ and_from (list_all is_query_byte (escape p.0 ++ codes "=")) (list_all is_query_byte (escape p.1))
    (list_all-append is_query_byte (escape p.0) (codes "=") ∙ and_from (list_all is_query_byte (escape p.0)) true (legal_escape p.0 bytes.0) refl) (legal_escape p.1 bytes.1)

legal_pairs : (p : List ℕ × List ℕ) (ps : List (List ℕ × List ℕ)) → AllByRecursion IsBytePair (p ∷ ps) → list_all is_query_byte (join_with_byte 38 (map pair_text (p ∷ ps))) ≡ true
legal_pairs p [] all = legal_pair p all.0
legal_pairs p (q ∷ ps) all =
    list_all-append is_query_byte (pair_text p) (38 ∷ join_with_byte 38 (map pair_text (q ∷ ps)))
    ∙ and_from (list_all is_query_byte (pair_text p)) (list_all is_query_byte (join_with_byte 38 (map pair_text (q ∷ ps)))) (legal_pair p all.0) (legal_pairs q ps all.1)

-- The bytes behind the `?`.

-- with pairs behind it, a path keeps a legal query
legal_behind : (path : List ℕ) (p q : List ℕ × List ℕ) (ps qs : List (List ℕ × List ℕ)) → AllByRecursion IsBytePair (q ∷ qs) → list_all is_query_byte (after_first (λ b. b == 63) (with_query path (p ∷ ps))) ≡ true
    → list_all is_query_byte (after_first (λ b. b == 63) (with_query path (q ∷ qs))) ≡ true
legal_behind path p q ps qs all e =
    ap (list_all is_query_byte) (after_first-after (with_query path (q ∷ qs))) ∙ go (has_byte 63 path) refl (ap (list_all is_query_byte) (sym (after_first-after (with_query path (p ∷ ps)))) ∙ e)
  where
    go : (t : Bool) → has_byte 63 path ≡ t → list_all is_query_byte (after (path ++ cond (has_byte 63 path) (codes "&") (codes "?") ++ join_with_byte 38 (map pair_text (p ∷ ps)))) ≡ true
        → list_all is_query_byte (after (path ++ cond (has_byte 63 path) (codes "&") (codes "?") ++ join_with_byte 38 (map pair_text (q ∷ qs)))) ≡ true
    go true has h =
        let old : list_all is_query_byte (after path ++ 38 ∷ join_with_byte 38 (map pair_text (p ∷ ps))) ≡ true =
        ap (list_all is_query_byte) (sym (after-append path (38 ∷ join_with_byte 38 (map pair_text (p ∷ ps))) has) ∙ ap after (sym (append_assoc path (38 ∷ []) (join_with_byte 38 (map pair_text (p ∷ ps))))))
        ∙ ap (λ t. list_all is_query_byte (after (path ++ cond t (codes "&") (codes "?") ++ join_with_byte 38 (map pair_text (p ∷ ps))))) (sym has) ∙ h in
        let front = and_parts (list_all is_query_byte (after path)) (list_all is_query_byte (38 ∷ join_with_byte 38 (map pair_text (p ∷ ps)))) (sym (list_all-append is_query_byte (after path) (38 ∷ join_with_byte 38 (map pair_text (p ∷ ps)))) ∙ old) in
        ap (λ t. list_all is_query_byte (after (path ++ cond t (codes "&") (codes "?") ++ join_with_byte 38 (map pair_text (q ∷ qs))))) has
        ∙ ap (list_all is_query_byte) (ap after (append_assoc path (38 ∷ []) (join_with_byte 38 (map pair_text (q ∷ qs)))) ∙ after-append path (38 ∷ join_with_byte 38 (map pair_text (q ∷ qs))) has)
        ∙ list_all-append is_query_byte (after path) (38 ∷ join_with_byte 38 (map pair_text (q ∷ qs)))
        ∙ and_from (list_all is_query_byte (after path)) (list_all is_query_byte (join_with_byte 38 (map pair_text (q ∷ qs)))) front.0 (legal_pairs q qs all)
    go false none h =
        ap (λ t. list_all is_query_byte (after (path ++ cond t (codes "&") (codes "?") ++ join_with_byte 38 (map pair_text (q ∷ qs))))) none
        ∙ ap (list_all is_query_byte) (ap after (append_assoc path (63 ∷ []) (join_with_byte 38 (map pair_text (q ∷ qs)))) ∙ after-cut path (join_with_byte 38 (map pair_text (q ∷ qs))) none)
        ∙ legal_pairs q qs all

-- The length.

abbrev pair_length : List ℕ × List ℕ → ℕ
pair_length p = suc (length (pair_text p))

joined_length : (p : List ℕ × List ℕ) (ps : List (List ℕ × List ℕ)) → suc (length (join_with_byte 38 (map pair_text (p ∷ ps)))) ≡ total pair_length (p ∷ ps)
joined_length p [] = omega arith
joined_length p (q ∷ ps) =
    let a : length (pair_text p ++ 38 ∷ join_with_byte 38 (map pair_text (q ∷ ps))) ≡ length (pair_text p) + suc (length (join_with_byte 38 (map pair_text (q ∷ ps)))) = length-append (pair_text p) (38 ∷ join_with_byte 38 (map pair_text (q ∷ ps))) in
    let b = joined_length q ps in
    omega (arith, a, b)

query_length : (path : List ℕ) (p : List ℕ × List ℕ) (ps : List (List ℕ × List ℕ)) → length (with_query path (p ∷ ps)) ≡ length path + total pair_length (p ∷ ps)
query_length path p ps = go (has_byte 63 path)
  where
    go : (t : Bool) → length (path ++ cond t (codes "&") (codes "?") ++ join_with_byte 38 (map pair_text (p ∷ ps))) ≡ length path + total pair_length (p ∷ ps)
    go true =
        let a = length-append (path ++ 38 ∷ []) (join_with_byte 38 (map pair_text (p ∷ ps))) in let b = length-append path (38 ∷ []) in let c = joined_length p ps in omega (arith, a, b, c)
    go false =
        let a = length-append (path ++ 63 ∷ []) (join_with_byte 38 (map pair_text (p ∷ ps))) in let b = length-append path (63 ∷ []) in let c = joined_length p ps in omega (arith, a, b, c)

-- The target.

some_pair : (q : List ℕ × List ℕ) (qs : List (List ℕ × List ℕ)) → ((name : List ℕ) → values_at name (q ∷ qs) ≡ values_at name []) → ⊥
some_pair q qs same =
    let full : q.1 ∷ values_at q.0 qs ≡ [] = ap (λ t. map (λ (p : List ℕ × List ℕ). p.1) (cond t (q ∷ filter (λ (p : List ℕ × List ℕ). same_text p.0 q.0) qs) (filter (λ (p : List ℕ × List ℕ). same_text p.0 q.0) qs))) (sym (same_text_self q.0)) ∙ same q.0 in
    cc full

no_legal_fault : (target : List ℕ) → legal_fault target ≡ None → (is_short_target target ≡ true) × (is_target target ≡ true)
no_legal_fault target e = go (is_short_target target) (is_target target) refl refl e
  where
    go : (s t : Bool) → is_short_target target ≡ s → is_target target ≡ t
        → option_or (unless s too_long) (unless t not_legal) ≡ None → (is_short_target target ≡ true) × (is_target target ≡ true)
    go true true a b h = (a, b)
    go true false a b h = absurd (cc h)
    go false t a b h = absurd (cc h)

legal_again : (path : List ℕ) (ps qs : List (List ℕ × List ℕ)) → AllByRecursion IsBytePair qs → ((name : List ℕ) → values_at name qs ≡ values_at name ps) → legal_fault (with_query path ps) ≡ None → legal_fault (with_query path qs) ≡ None
legal_again path [] [] all same e = e
legal_again path [] (q ∷ qs) all same e = absurd (some_pair q qs same)
legal_again path (p ∷ ps) [] all same e = absurd (some_pair p ps (λ name. sym (same name)))
legal_again path (p ∷ ps) (q ∷ qs) all same e =
    let old = no_legal_fault (with_query path (p ∷ ps)) e in
    let lengths : length (with_query path (q ∷ qs)) ≡ length (with_query path (p ∷ ps)) =
    query_length path q qs ∙ ap (λ n. length path + n) (total_of_values pair_length (q ∷ qs) (p ∷ ps) same) ∙ sym (query_length path p ps) in
    let short : is_short_target (with_query path (q ∷ qs)) ≡ true = ap (λ n. nat_le n 65534) lengths ∙ old.0 in
    let parts = and_parts (is_stem (before_query (with_query path (p ∷ ps)))) (list_all is_query_byte (after_first (λ b. b == 63) (with_query path (p ∷ ps)))) old.1 in
    let stem : is_stem (before_query (with_query path (q ∷ qs))) ≡ true = ap is_stem (query_leaves_path path (q ∷ qs) ∙ sym (query_leaves_path path (p ∷ ps))) ∙ parts.0 in
    let legal : is_target (with_query path (q ∷ qs)) ≡ true =
    and_from (is_stem (before_query (with_query path (q ∷ qs)))) (list_all is_query_byte (after_first (λ b. b == 63) (with_query path (q ∷ qs)))) stem (legal_behind path p q ps qs all parts.1) in
    ap (λ t. option_or (unless t too_long) (unless (is_target (with_query path (q ∷ qs))) not_legal)) short
    ∙ ap (λ t. unless t not_legal) legal

pub target_of_view : (protocol : Protocol) (schema : Schema) (endpoint : List ℕ) (omit : OmitFlags) (ws : List Write) → IsCheckedInput schema → is_well_made schema ≡ true → IsTyped protocol schema endpoint omit ws
    → (path : List ℕ) → legal_fault (with_query path (pairs schema ws)) ≡ None → legal_fault (with_query path (pairs schema (view schema ws))) ≡ None
target_of_view protocol schema endpoint omit ws checked well_made typed path legal =
    let viewed = has_viewed protocol schema endpoint omit ws checked well_made typed in
    legal_again path (pairs schema ws) (pairs schema (view schema ws)) (pairs_are_bytes schema (view schema ws) well_made (view_writes_conform schema ws checked well_made viewed) (view_in_range schema ws checked viewed))
    (pairs_of_view schema ws checked well_made (typed_writes protocol schema endpoint omit ws typed)) legal
