-- A request that was placed is matched by the route of its schema's template.
use Rattle.std.proofs.Common.{◌≡◌, ◌≢◌, refl, sym, ◌∙◌, ap, subst, ℕ, Bool, true, false, not, cond, ◌==◌, ◌&&◌, ◌||◌, List, [], ◌∷◌, ◌++◌, map, Option, Some, None, option_map, option_and_then, Result, Ok, Err, codes, if◌then◌else◌, nat_eq, eq-eqb}
use Rattle.std.specs.List.{AllByRecursion, before_first, after_first, starts_with}
use Rattle.std.specs.Option.{option_map_or}
use Rattle.std.specs.Result.{result_ok, result_err}
use Rattle.std.proofs.lemmas.Bool.{eqb-true, and_parts, and_from, not-true}
use Rattle.std.proofs.lemmas.List.{append-nil}
use Rattle.smithy_types.specs.Texts.{has_byte, same_text}
use Rattle.smithy_types.specs.Results.{each, then_give}
use Rattle.smithy_http.specs.Facts.{is_question_mark, query_pieces}
use Rattle.smithy_http.specs.Requests.{Request}
use Rattle.smithy_schema.specs.Nodes.{Http, Schema}
use Rattle.smithy_schema.specs.Templates.{pieces}
use Rattle.smithy_serde.specs.Values.{Write}
use Rattle.smithy_binding.specs.Answer.{answer, place, request_at}
use Rattle.smithy_binding.specs.Bindings.{labels, pairs}
use Rattle.smithy_binding.specs.Faults.{Fault, legal_target, fault}
use Rattle.smithy_binding.specs.Filling.{fill}
use Rattle.smithy_binding.specs.Placing.{Protocol, OmitFlags, endpoint_or_slash, method_of, pair_text, template_of, with_query}
use Rattle.smithy_router.specs.Routes.{Route, IsRoute, HasNo, fits_target, matches}
use Rattle.smithy_router.specs.Segments.{segments_of, fits_path}
use Rattle.smithy_router.specs.QueryPieces.{fits_query}
use Rattle.smithy_router.specs.Templates.{Part, part_of, is_sound, sound_parts, are_sound, query_of, routable_parts, segments_in, has_greedy, route_with, route_of}
use Rattle.smithy_router.proofs.CleanPaths.{some_path}
use Rattle.smithy_router.proofs.Cuts.{path_starts}
use Rattle.smithy_router.proofs.Parsed.{route_of_parts}
use Rattle.smithy_router.proofs.Pieces.{fits_before}
use Rattle.smithy_router.proofs.Tests.{same_text_self}
use Rattle.smithy_unambiguity.proofs.Cuts.{before, before-cut, before_none, before_first-before}
use Rattle.smithy_unambiguity.proofs.Paths.{HasNo-from_has_byte}
use Rattle.smithy_unambiguity.proofs.Queries.{after, after_first-after, pieces_of_query}
use Rattle.smithy_unambiguity.proofs.Requests.{placed_request}
use Rattle.smithy_unambiguity.proofs.TemplateQuery.{pieces_behind, query_leaves_path}
use Rattle.smithy_routed.specs.Laws.{PlacedIsMatched}
use Rattle.smithy_routed.proofs.Segments.{path_of, cut_path, cut_joined, cut_without, joined_cut, no_question}
use Rattle.smithy_routed.proofs.Parts.{template_by, pieces_by_parts}
use Rattle.smithy_routed.proofs.Filled.{IsFilledBy, filled_by_parts}

-- A text up to its first `?`, and from there.

from_question : (text : List ℕ) → text ≡ before_first is_question_mark text ++ query_of text
from_question text = shown (has_byte 63 text) refl ∙ ap (λ (t : List ℕ). t ++ query_of text) (sym (before_first-before 63 text))
  where
    whole : (xs : List ℕ) → has_byte 63 xs ≡ true → xs ≡ before 63 xs ++ 63 ∷ after xs
    whole [] has = absurd (cc has)
    whole (x ∷ xs) has = go (x == 63) refl has (whole xs)
      where
        go : (t : Bool) → (x == 63) ≡ t → (t || has_byte 63 xs) ≡ true → (has_byte 63 xs ≡ true → xs ≡ before 63 xs ++ 63 ∷ after xs) → x ∷ xs ≡ cond t [] (x ∷ before 63 xs) ++ 63 ∷ cond t xs (after xs)
        go true e h rest = ap (λ (c : ℕ). c ∷ xs) (eqb-true x 63 e)
        go false e h rest = ap (λ (t : List ℕ). x ∷ t) (rest h)

    shown : (t : Bool) → has_byte 63 text ≡ t → text ≡ before 63 text ++ query_of text
    shown true e = whole text e ∙ ap (λ (r : List ℕ). before 63 text ++ 63 ∷ r) (sym (after_first-after text)) ∙ ap (λ t. before 63 text ++ (if t then codes "?" ++ after_first is_question_mark text else [])) (sym e)
    shown false e =
        sym (before_none 63 text (HasNo-from_has_byte 63 text e)) ∙ sym (append-nil (before 63 text))
        ∙ ap (λ t. before 63 text ++ (if t then codes "?" ++ after_first is_question_mark text else [])) (sym e)

-- a path without a `?` is what stands before the query
path_before : (path text : List ℕ) → HasNo 63 path → before_first is_question_mark (path ++ query_of text) ≡ path
path_before path text none = before_first-before 63 (path ++ query_of text) ∙ go (has_byte 63 text)
  where
    go : (t : Bool) → before 63 (path ++ (if t then codes "?" ++ after_first is_question_mark text else [])) ≡ path
    go true = before-cut 63 path (after_first is_question_mark text) none
    go false = ap (before 63) (append-nil path) ∙ before_none 63 path none

-- The parts of a routable template.
pub record IsRoutable (template : List ℕ) (ps : List Part) : Type 0 where
  pub rest : List ℕ
  pub path : before_first is_question_mark template ≡ 47 ∷ rest
  pub parts : each part_of (cut_path rest) ≡ Some ps
  pub sound : are_sound ps ≡ true
  pub no_hole : HasNo 123 (query_of template)

begins : (text : List ℕ) → starts_with nat_eq text (codes "/") ≡ true → (rest : List ℕ) × (text ≡ 47 ∷ rest)
begins [] e = absurd (cc e)
begins (b ∷ text) e = go (47 == b) refl e
  where
    go : (t : Bool) → (47 == b) ≡ t → (t && true) ≡ true → (rest : List ℕ) × (b ∷ text ≡ 47 ∷ rest)
    go true is h = (text, ap (λ (c : ℕ). c ∷ text) (sym (eqb-true 47 b is)))
    go false is h = absurd (cc h)

path_begins : (template : List ℕ) → starts_with nat_eq template (codes "/") ≡ true → (rest : List ℕ) × (before_first is_question_mark template ≡ 47 ∷ rest)
path_begins template e = let b = begins template e in (before 63 b.0, before_first-before 63 template ∙ ap (before 63) b.1)

sound_is : (query : List ℕ) (o : Option (List Part)) (ps : List Part) → option_and_then (sound_parts query) o ≡ Some ps → (o ≡ Some ps) × (is_sound ps query ≡ true)
sound_is query None ps e = absurd (cc e)
sound_is query (Some qs) ps e = go (is_sound qs query) refl e
  where
    go : (t : Bool) → is_sound qs query ≡ t → (if t then Some qs else None) ≡ Some ps → (Some qs ≡ Some ps) × (is_sound ps query ≡ true)
    go true is h = let same : qs ≡ ps = cc h in (h, subst (λ (xs : List Part). is_sound xs query ≡ true) same is)
    go false is h = absurd (cc h)

routable : (template : List ℕ) (ps : List Part) → routable_parts template ≡ Some ps → IsRoutable template ps
unfolding routable_parts
routable template ps e = go (starts_with nat_eq template (codes "/")) refl e
  where
    query : List ℕ
    query = query_of template

    go : (t : Bool) → starts_with nat_eq template (codes "/") ≡ t → (if t then option_and_then (sound_parts (query_of template)) (each part_of (segments_of (before_first is_question_mark template))) else None) ≡ Some ps → IsRoutable template ps
    go true starts h =
        let path = path_begins template starts in
        let is = sound_is (query_of template) (each part_of (segments_of (before_first is_question_mark template))) ps h in
        let tests = and_parts (not (has_byte 123 (query_of template)) && are_sound ps) _ is.1 in
        let firsts = and_parts (not (has_byte 123 (query_of template))) (are_sound ps) tests.0 in
        record {
          rest = path.0;
          path = path.1;
          parts = sym (ap (λ (p : List ℕ). each part_of (segments_of p)) path.1) ∙ is.0;
          sound = firsts.1;
          no_hole = HasNo-from_has_byte 123 (query_of template) (not-true (has_byte 123 (query_of template)) firsts.0);
        }
    go false starts h = absurd (cc h)

-- The template is its segments and its query.
template_is : (template : List ℕ) (ps : List Part) (r : IsRoutable template ps) → template ≡ path_of (cut_path r.rest) ++ query_of template
template_is template ps r = from_question template ∙ ap (λ (p : List ℕ). p ++ query_of template) (r.path ∙ sym (cut_joined r.rest))

-- What the placing gives.
pub record IsPlaced (schema : Schema) (ws : List Write) (endpoint : List ℕ) (q : Request) : Type 0 where
  pub path : List ℕ
  pub fills : fill (pieces (template_of schema endpoint)) (labels schema ws) ≡ Ok path
  pub target : q.target ≡ with_query path (pairs schema ws)
  pub method : q.method ≡ method_of schema

no_fault : (protocol : Protocol) (schema : Schema) (ws : List Write) (endpoint : List ℕ) (omit : OmitFlags) (q : Request) → place protocol schema ws endpoint omit ≡ Some q → fault schema ws endpoint ≡ None
unfolding answer
no_fault protocol schema ws endpoint omit q e = go (legal_target schema ws endpoint) e
  where
    go : (r : Result (List ℕ) Fault) → result_ok (then_give r (request_at protocol schema ws omit)) ≡ Some q → result_err r ≡ None
    go (Ok target) h = refl
    go (Err f) h = absurd (cc h)

placed : (protocol : Protocol) (schema : Schema) (ws : List Write) (endpoint : List ℕ) (omit : OmitFlags) (q : Request) → place protocol schema ws endpoint omit ≡ Some q → IsPlaced schema ws endpoint q
placed protocol schema ws endpoint omit q e =
    let p = placed_request protocol schema ws endpoint omit (no_fault protocol schema ws endpoint omit q e) in
    let both : Some (request_at protocol schema ws omit (with_query p.path (pairs schema ws))) ≡ Some q = sym p.is ∙ e in
    let same : request_at protocol schema ws omit (with_query p.path (pairs schema ws)) ≡ q = cc both in
    record { path = p.path; fills = p.fills; target = ap (λ (r : Request). r.target) (sym same); method = ap (λ (r : Request). r.method) (sym same) }

-- The route matches the target.

starts : (s : List ℕ) (ss : List (List ℕ)) (rest : List ℕ) → starts_with nat_eq (path_of (s ∷ ss) ++ rest) (codes "/") ≡ true
starts s ss rest = refl

-- the pieces of a filled path are the template's
same_pieces : (template : List ℕ) (ps : List Part) (r : IsRoutable template ps) (segments : List (List ℕ)) → AllByRecursion (HasNo 63) segments → query_pieces (path_of segments ++ query_of template) ≡ query_pieces template
same_pieces template ps r segments none =
    pieces_behind (path_of segments) (query_of template) (no_question segments none)
    ∙ sym (pieces_behind (path_of (cut_path r.rest)) (query_of template) (no_question (cut_path r.rest) (cut_without 63 r.rest (rest_clean template ps r))))
    ∙ ap query_pieces (sym (template_is template ps r))
  where
    rest_clean : (template : List ℕ) (ps : List Part) (r : IsRoutable template ps) → HasNo 63 r.rest
    rest_clean template ps r = let all : HasNo 63 (47 ∷ r.rest) = subst (HasNo 63) r.path (subst (HasNo 63) (sym (before_first-before 63 template)) (before_clean template)) in all.1
      where
        before_clean : (text : List ℕ) → HasNo 63 (before 63 text)
        before_clean [] = tt
        before_clean (b ∷ text) = go (b == 63) refl (before_clean text)
          where
            go : (t : Bool) → (b == 63) ≡ t → HasNo 63 (before 63 text) → HasNo 63 (cond t [] (b ∷ before 63 text))
            go true e rest = tt
            go false e rest = ((λ h. let q : true ≡ false = sym (eq-eqb b 63 h) ∙ e in cc q), rest)

module _ (method template : List ℕ) (ps : List Part) (r : IsRoutable template ps) (path : List ℕ) (extra : List (List ℕ × List ℕ)) (f : IsFilledBy ps (query_of template) path) (is_route : IsRoute (route_with method (query_pieces template) ps)) where
  abbrev target : List ℕ
  target = with_query path extra

  path_is : before_first is_question_mark target ≡ path_of f.segments
  path_is = query_leaves_path path extra ∙ ap (before_first is_question_mark) f.is ∙ path_before (path_of f.segments) template (no_question f.segments f.no_question)

  by_segments : (segments : List (List ℕ)) → f.segments ≡ segments → segments ≢ [] → fits_target (route_with method (query_pieces template) ps) target ≡ true
  by_segments [] e some = absurd (some refl)
  by_segments (s ∷ ss) e some =
      let shown : before_first is_question_mark target ≡ path_of (s ∷ ss) = path_is ∙ ap path_of e in
      let cut : segments_of (before_first is_question_mark target) ≡ s ∷ ss = ap segments_of shown ∙ joined_cut s ss (subst (AllByRecursion (HasNo 47)) e f.no_slash) in
      let fits : fits_path (has_greedy ps) (segments_in ps) (segments_of (before_first is_question_mark target)) ≡ true = ap (fits_path (has_greedy ps) (segments_in ps)) (cut ∙ sym e) ∙ f.fits in
      let pieces_are : query_pieces target ≡ query_pieces template ++ map pair_text extra = pieces_of_query path extra ∙ ap (λ (xs : List (List ℕ)). xs ++ map pair_text extra) (ap query_pieces f.is ∙ same_pieces template ps r f.segments f.no_question) in
      let query : fits_query (query_pieces template) (query_pieces target) ≡ true = ap (fits_query (query_pieces template)) pieces_are ∙ fits_before (query_pieces template) (map pair_text extra) in
      and_from _ _ (and_from _ _ (slash_first shown) fits) query
    where
      slash_first : before_first is_question_mark target ≡ path_of (s ∷ ss) → starts_with nat_eq target (codes "/") ≡ true
      slash_first shown = sym (path_starts target) ∙ ap (λ (t : List ℕ). starts_with nat_eq t (codes "/")) shown

  target_matched : fits_target (route_with method (query_pieces template) ps) target ≡ true
  target_matched = by_segments f.segments refl (some_path (has_greedy ps) (segments_in ps) f.segments is_route.path f.fits)

-- the route that the parts of a template make
pub record IsRouteOf (method template : List ℕ) (route : Route) : Type 0 where
  pub parts : List Part
  pub are : routable_parts template ≡ Some parts
  pub is : route_with method (query_pieces template) parts ≡ route

route_parts : (method template : List ℕ) (route : Route) → route_of method template ≡ Some route → IsRouteOf method template route
unfolding route_of
route_parts method template route e = go (routable_parts template) refl e
  where
    go : (o : Option (List Part)) → routable_parts template ≡ o → option_map (route_with method (query_pieces template)) o ≡ Some route → IsRouteOf method template route
    go None is h = absurd (cc h)
    go (Some ps) is h = record { parts = ps; are = is; is = cc h }

pub placed_is_matched : PlacedIsMatched
placed_is_matched protocol schema ws endpoint omit q route has e =
    let http = has.http in
    let p = placed protocol schema ws endpoint omit q e in
    let method : method_of schema ≡ http.method = ap (λ (o : Option Http). option_map_or (λ h. h.method) o (codes "GET")) has.stands in
    let template : template_of schema endpoint ≡ http.uri = ap (λ (o : Option Http). option_map_or (λ h. h.uri) o (endpoint_or_slash endpoint)) has.stands in
    let o = route_parts http.method http.uri route has.gives in
    let r = routable http.uri o.parts o.are in
    let cut : pieces http.uri ≡ template_by o.parts (query_of http.uri) = ap pieces (template_is http.uri o.parts r) ∙ pieces_by_parts (cut_path r.rest) o.parts (query_of http.uri) r.parts r.no_hole in
    let fills : fill (template_by o.parts (query_of http.uri)) (labels schema ws) ≡ Ok p.path = ap (λ t. fill t (labels schema ws)) (sym cut) ∙ ap (λ (t : List ℕ). fill (pieces t) (labels schema ws)) (sym template) ∙ p.fills in
    let is_route = route_of_parts http.method http.uri o.parts o.are in
    let f = filled_by_parts (labels schema ws) o.parts (query_of http.uri) p.path r.sound is_route.literals fills in
    let fits = target_matched http.method http.uri o.parts r p.path (pairs schema ws) f is_route in
    let same : same_text http.method q.method ≡ true = ap (same_text http.method) (p.method ∙ method) ∙ same_text_self http.method in
    subst (λ (x : Route). matches x q.method q.target ≡ true) o.is
    (and_from _ _ same (ap (fits_target (route_with http.method (query_pieces http.uri) o.parts)) p.target ∙ fits))
