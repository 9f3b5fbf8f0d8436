-- The request of the normal form has the facts of the input's request.
use Rattle.smithy_unambiguity.proofs.Common.{◌≡◌, refl, sym, ◌∙◌, ap, ℕ, ◌⊎◌, inl, inr, Bool, true, false, cond, List, [], ◌∷◌, ◌++◌, map, filter, length, codes, decimal, Ok, Some, option_map, AllByRecursion, map-append, same_text, before_query, pieces, facts, values_at, named_piece, query_pieces, escape, AreBytes, headers, pairs, labels, body, IsCheckedInput, view, request_at, template_of, with_query, pair_text, all_headers, with_default, adds_content_type, adds_content_length, IsTyped, Write, IsCheckedInput-from_test, Protocol, OmitFlags, SeesSame, Schema}
use Rattle.std.specs.Cmp.Lexicographic.{same_text as same_from_test}
use Rattle.smithy_unambiguity.proofs.Setting.{IsSetting}
use Rattle.smithy_unambiguity.proofs.HeadersTold.{typed_writes}
use Rattle.smithy_unambiguity.proofs.Labels.{fill_same}
use Rattle.smithy_unambiguity.proofs.Placed.{HasTypedWrites}
use Rattle.smithy_unambiguity.proofs.Queries.{pieces_of_query, pieces_of_pairs, name_of_pair, values_at-append}
use Rattle.smithy_unambiguity.proofs.Requests.{IsPlacedRequest, placed_request}
use Rattle.smithy_unambiguity.proofs.TemplateQuery.{query_leaves_path}
use Rattle.smithy_unambiguity.proofs.ViewBody.{body_of_view}
use Rattle.smithy_unambiguity.proofs.ViewDocument.{view_typed}
use Rattle.smithy_unambiguity.proofs.ViewHeaders.{headers_of_view, values_at-with_default_same}
use Rattle.smithy_unambiguity.proofs.ViewParts.{pairs_of_view, labels_of_view}
use Rattle.smithy_unambiguity.proofs.Lists.{all_apply}
use Rattle.smithy_unambiguity.proofs.TextsBytes.{IsBytePair, pairs_are_bytes}

-- Pairs with the same texts at each name have the same pieces at each name.

-- the pieces of pairs
abbrev pieces_for : List (List ℕ × List ℕ) → List (List ℕ × List ℕ)
pieces_for ps = map named_piece (map pair_text ps)

-- a piece's name is the escape of some name, or no piece has it
escaped_or : (name : List ℕ) (ps : List (List ℕ × List ℕ)) → AllByRecursion (λ p. AreBytes p.0) ps → ((own : List ℕ) × AreBytes own × (escape own ≡ name)) ⊎ (values_at name (pieces_for ps) ≡ [])
escaped_or name [] all = inr refl
escaped_or name (p ∷ ps) all = go (same_text (escape p.0) name) refl (escaped_or name ps all.1)
  where
    go : (t : Bool) → same_text (escape p.0) name ≡ t → ((own : List ℕ) × AreBytes own × (escape own ≡ name)) ⊎ (values_at name (pieces_for ps) ≡ []) → ((own : List ℕ) × AreBytes own × (escape own ≡ name)) ⊎ (values_at name (pieces_for (p ∷ ps)) ≡ [])
    go true e rest = inl (p.0, all.0, same_from_test (escape p.0) name (sym e))
    go false e (inl x) = inl x
    go false e (inr none) =
        inr (ap (λ q. values_at name (q ∷ pieces_for ps)) (name_of_pair p) ∙ ap (λ t. map (λ (q : List ℕ × List ℕ). q.1) (cond t ((escape p.0, pair_text p) ∷ filter (λ (q : List ℕ × List ℕ). same_text q.0 name) (pieces_for ps)) (filter (λ (q : List ℕ × List ℕ). same_text q.0 name) (pieces_for ps)))) e ∙ none)

pieces_same : (ps qs : List (List ℕ × List ℕ)) → AllByRecursion (λ p. AreBytes p.0) ps → AllByRecursion (λ p. AreBytes p.0) qs → ((name : List ℕ) → values_at name ps ≡ values_at name qs)
    → (name : List ℕ) → values_at name (pieces_for ps) ≡ values_at name (pieces_for qs)
pieces_same ps qs all_p all_q same name = go (escaped_or name ps all_p) (escaped_or name qs all_q)
  where
    by : (own : List ℕ) → AreBytes own → escape own ≡ name → values_at name (pieces_for ps) ≡ values_at name (pieces_for qs)
    by own bytes e =
        ap (λ n. values_at n (pieces_for ps)) (sym e) ∙ pieces_of_pairs own ps bytes all_p ∙ ap (map (λ t. pair_text (own, t))) (same own)
        ∙ sym (pieces_of_pairs own qs bytes all_q) ∙ ap (λ n. values_at n (pieces_for qs)) e

    go : ((own : List ℕ) × AreBytes own × (escape own ≡ name)) ⊎ (values_at name (pieces_for ps) ≡ []) → ((own : List ℕ) × AreBytes own × (escape own ≡ name)) ⊎ (values_at name (pieces_for qs) ≡ [])
        → values_at name (pieces_for ps) ≡ values_at name (pieces_for qs)
    go (inl x) other = by x.0 x.1 x.2
    go (inr none) (inl x) = by x.0 x.1 x.2
    go (inr none) (inr empty) = none ∙ sym empty

-- the query at a name, from the path's pieces and the pairs'
query_at_name : (path name : List ℕ) (ps : List (List ℕ × List ℕ)) → values_at name (map named_piece (query_pieces (with_query path ps))) ≡ values_at name (map named_piece (query_pieces path)) ++ values_at name (pieces_for ps)
query_at_name path name ps =
    ap (λ xs. values_at name (map named_piece xs)) (pieces_of_query path ps) ∙ ap (values_at name) (map-append named_piece (query_pieces path) (map pair_text ps))
    ∙ values_at-append name (map named_piece (query_pieces path)) (pieces_for ps)

pub seen_of_view : (protocol : Protocol) (schema : Schema) (endpoint : List ℕ) (omit : OmitFlags) (ws : List Write) → IsSetting protocol schema
    → IsTyped protocol schema endpoint omit ws → SeesSame protocol schema endpoint omit (view schema ws) ws
seen_of_view protocol schema endpoint omit ws setting typed =
    ap (option_map facts) (y.is ∙ ap (λ p. Some (request_at protocol schema (view schema ws) omit (with_query p (pairs schema (view schema ws))))) one_path)
    ∙ ap Some same ∙ sym (ap (option_map facts) x.is)
  where
    checked : IsCheckedInput schema
    checked = IsCheckedInput-from_test schema setting.checked

    viewed : IsTyped protocol schema endpoint omit (view schema ws)
    viewed = view_typed protocol schema endpoint omit ws setting typed

    x : IsPlacedRequest protocol schema ws endpoint omit
    x = placed_request protocol schema ws endpoint omit typed.conforming

    y : IsPlacedRequest protocol schema (view schema ws) endpoint omit
    y = placed_request protocol schema (view schema ws) endpoint omit viewed.conforming

    one_path : y.path ≡ x.path
    one_path =
        let fills : Ok y.path ≡ Ok x.path = sym y.fills ∙ fill_same (labels schema (view schema ws)) (labels schema ws) (pieces (template_of schema endpoint)) (labels_of_view schema ws checked setting.well_made) ∙ x.fills in
        cc fills

    writes : HasTypedWrites schema ws
    writes = typed_writes protocol schema endpoint omit ws typed

    pairs_same : (name : List ℕ) → values_at name (pairs schema (view schema ws)) ≡ values_at name (pairs schema ws)
    pairs_same name = pairs_of_view schema ws checked setting.well_made writes name

    names : (us : List Write) → IsTyped protocol schema endpoint omit us → AllByRecursion (λ p. AreBytes p.0) (pairs schema us)
    names us is =
        let typed = typed_writes protocol schema endpoint omit us is in
        all_apply IsBytePair (λ p. AreBytes p.0) (pairs schema us) (λ p bytes. bytes.0) (pairs_are_bytes schema us setting.well_made typed.conforming typed.in_range)

    bodies : body protocol.text_of schema (view schema ws) ≡ body protocol.text_of schema ws
    bodies = body_of_view protocol schema endpoint omit ws checked setting.well_made typed

    header : (name : List ℕ) → values_at name (all_headers protocol (body protocol.text_of schema (view schema ws)) omit (headers schema (view schema ws))) ≡ values_at name (all_headers protocol (body protocol.text_of schema ws) omit (headers schema ws))
    header name =
        ap (λ b. values_at name (all_headers protocol b omit (headers schema (view schema ws)))) bodies
        ∙ values_at-with_default_same (adds_content_length (body protocol.text_of schema ws) omit) (codes "content-length") (decimal (length (body protocol.text_of schema ws).bytes))
        (with_default (adds_content_type (body protocol.text_of schema ws) omit) (codes "content-type") protocol.content_type (headers schema (view schema ws)))
        (with_default (adds_content_type (body protocol.text_of schema ws) omit) (codes "content-type") protocol.content_type (headers schema ws))
        (values_at-with_default_same (adds_content_type (body protocol.text_of schema ws) omit) (codes "content-type") protocol.content_type (headers schema (view schema ws)) (headers schema ws)
        (headers_of_view schema ws checked setting.well_made writes)) name

    query : (name : List ℕ) → values_at name (map named_piece (query_pieces (with_query x.path (pairs schema (view schema ws))))) ≡ values_at name (map named_piece (query_pieces (with_query x.path (pairs schema ws))))
    query name =
        query_at_name x.path name (pairs schema (view schema ws))
        ∙ ap (λ vs. values_at name (map named_piece (query_pieces x.path)) ++ vs) (pieces_same (pairs schema (view schema ws)) (pairs schema ws) (names (view schema ws) viewed) (names ws typed) pairs_same name)
        ∙ sym (query_at_name x.path name (pairs schema ws))

    path : before_query (with_query x.path (pairs schema (view schema ws))) ≡ before_query (with_query x.path (pairs schema ws))
    path = query_leaves_path x.path (pairs schema (view schema ws)) ∙ sym (query_leaves_path x.path (pairs schema ws))

    same : facts (request_at protocol schema (view schema ws) omit (with_query x.path (pairs schema (view schema ws)))) ≡ facts (request_at protocol schema ws omit (with_query x.path (pairs schema ws)))
    same = λ i. record { method = (request_at protocol schema ws omit []).method; path = path i; headers = λ name. header name i; query = λ name. query name i; body = ap (λ b. b.bytes) bodies i }
