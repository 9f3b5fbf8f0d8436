-- A filled template has a path that its parts match.
use Rattle.std.proofs.Common.{◌≡◌, ◌≢◌, refl, sym, ◌∙◌, ap, subst, ℕ, arith, Bool, true, false, not, cond, ◌==◌, ◌||◌, List, [], ◌∷◌, ◌++◌, Option, Some, None, Result, Ok, Err, if◌then◌else◌}
use Rattle.std.specs.List.{AllByRecursion}
use Rattle.std.proofs.lemmas.Bool.{and_parts, and_from}
use Rattle.std.proofs.lemmas.List.{append_assoc, append-nil}
use Rattle.percent_encoding.specs.Percent.{percent_encode_byte}
use Rattle.smithy_types.specs.Texts.{found}
use Rattle.smithy_types.specs.Results.{then_try, then_give}
use Rattle.smithy_schema.specs.Templates.{Hole, Piece}
use Rattle.smithy_strings.specs.Escapes.{is_unreserved, escape_byte, escape}
use Rattle.smithy_binding.specs.Filling.{keep_slashes, hole_text, filled_hole, fill_rest, fill}
use Rattle.smithy_router.specs.Routes.{HasNo, IsSegment}
use Rattle.smithy_router.specs.Segments.{Hole as AnyText, fits_segment, fits_path}
use Rattle.smithy_router.specs.Templates.{Part, Fixed, Bound, is_last, are_sound, segments_in, has_greedy}
use Rattle.smithy_router.proofs.Tests.{same_text_self}
use Rattle.smithy_unambiguity.proofs.Labels.{filled_path}
use Rattle.smithy_unambiguity.proofs.Reserved.{slash, question, HasNo-escape, HasNo-hole_text}
use Rattle.smithy_routed.proofs.Segments.{path_of, cut_path, cut_joined, cut_clean, cut_without, greedy_fits}
use Rattle.smithy_routed.proofs.Parts.{template_by}

abbrev Labels : Type 0
Labels = List (List ℕ × List ℕ)

-- The text of a hole is not empty.

some_byte : (b : ℕ) → escape_byte b ≢ []
unfolding percent_encode_byte
some_byte b = go (is_unreserved b)
  where
    go : (t : Bool) → (if t then b ∷ [] else percent_encode_byte b) ≢ []
    go true e = cc e
    go false e = cc e

some_kept : (b : ℕ) → (if b == 47 then b ∷ [] else escape_byte b) ≢ []
some_kept b = go (b == 47)
  where
    go : (t : Bool) → (if t then b ∷ [] else escape_byte b) ≢ []
    go true e = cc e
    go false e = some_byte b e

-- a text that begins with another that is not empty
pub record HasFirst (text : List ℕ) : Type 0 where
  pub byte : ℕ
  pub rest : List ℕ
  pub is : text ≡ byte ∷ rest

has_first : (front rest : List ℕ) → front ≢ [] → HasFirst (front ++ rest)
has_first [] rest some = absurd (some refl)
has_first (b ∷ front) rest some = record { byte = b; rest = front ++ rest; is = refl }

some_escape : (b : ℕ) (text : List ℕ) → HasFirst (escape (b ∷ text))
unfolding escape
some_escape b text = has_first (escape_byte b) (escape text) (some_byte b)

some_slashes : (b : ℕ) (text : List ℕ) → HasFirst (keep_slashes (b ∷ text))
some_slashes b text = has_first (if b == 47 then b ∷ [] else escape_byte b) (keep_slashes text) (some_kept b)

-- The first hole of a filled template.
pub record IsFilled (labels : Labels) (hole : Hole) (literal : List ℕ) (ps : List Piece) (path : List ℕ) : Type 0 where
  pub byte : ℕ
  pub text : List ℕ
  pub rest : List ℕ
  pub behind : fill_rest (λ name. found name labels) ps ≡ Ok rest
  pub is : path ≡ hole_text hole (byte ∷ text) ++ (literal ++ rest)

filled : (labels : Labels) (hole : Hole) (literal : List ℕ) (ps : List Piece) (path : List ℕ) → fill_rest (λ name. found name labels) (record { hole = hole; literal = literal } ∷ ps) ≡ Ok path → IsFilled labels hole literal ps path
filled labels hole literal ps path e = go (found hole.name labels) (fill_rest (λ name. found name labels) ps) refl e
  where
    go : (o : Option (List ℕ)) (r : Result (List ℕ) (List ℕ)) → fill_rest (λ name. found name labels) ps ≡ r
        → (then_try (filled_hole hole o) λ text. then_give r λ rest. text ++ literal ++ rest) ≡ Ok path → IsFilled labels hole literal ps path
    go None r er h = absurd (cc h)
    go (Some []) r er h = absurd (cc h)
    go (Some (b ∷ t)) (Err x) er h = absurd (cc h)
    go (Some (b ∷ t)) (Ok rest) er h =
        let same : hole_text hole (b ∷ t) ++ literal ++ rest ≡ path = cc h in
        record { byte = b; text = t; rest = rest; behind = er; is = sym same ∙ append_assoc (hole_text hole (b ∷ t)) literal rest }

-- The path is that of segments which fit the parts, with the query behind it.
pub record IsFilledBy (ps : List Part) (query : List ℕ) (path : List ℕ) : Type 0 where
  pub segments : List (List ℕ)
  pub is : path ≡ path_of segments ++ query
  pub no_slash : AllByRecursion (HasNo 47) segments
  pub no_question : AllByRecursion (HasNo 63) segments
  pub fits : fits_path (has_greedy ps) (segments_in ps) segments ≡ true

-- one segment more
more_path : (text later rest query : List ℕ) (segments : List (List ℕ)) → later ++ rest ≡ path_of segments ++ query → (text ++ later) ++ rest ≡ (text ++ path_of segments) ++ query
more_path text later rest query segments e = append_assoc text later rest ∙ ap (λ (t : List ℕ). text ++ t) e ∙ sym (append_assoc text (path_of segments) query)

with_literal : (text : List ℕ) (ps : List Part) (query later rest path : List ℕ) → HasNo 47 text → HasNo 63 text → path ≡ (47 ∷ (text ++ later)) ++ rest → IsFilledBy ps query (later ++ rest) → IsFilledBy (Fixed text ∷ ps) query path
with_literal text ps query later rest path no_slash no_question e f =
    record {
      segments = text ∷ f.segments;
      is = e ∙ ap (λ (t : List ℕ). 47 ∷ t) (more_path text later rest query f.segments f.is);
      no_slash = (no_slash, f.no_slash);
      no_question = (no_question, f.no_question);
      fits = and_from _ _ (same_text_self text) f.fits;
    }

-- a hole that is not greedy
fits_hole : (segment : List ℕ) → HasFirst segment → fits_segment AnyText segment ≡ true
fits_hole segment h = ap (fits_segment AnyText) h.is

with_hole : (hole : Hole) (ps : List Part) (query later rest path : List ℕ) (b : ℕ) (text : List ℕ) → hole.greedy ≡ false → path ≡ (47 ∷ []) ++ (hole_text hole (b ∷ text) ++ (later ++ rest)) → IsFilledBy ps query (later ++ rest)
    → IsFilledBy (Bound hole ∷ ps) query path
with_hole hole ps query later rest path b text plain e f =
    let part = escape (b ∷ text) in
    let shown : hole_text hole (b ∷ text) ≡ part = ap (λ g. cond g (keep_slashes (b ∷ text)) (escape (b ∷ text))) plain in
    record {
      segments = part ∷ f.segments;
      is = e ∙ ap (λ (t : List ℕ). 47 ∷ (t ++ (later ++ rest))) shown ∙ ap (λ (t : List ℕ). 47 ∷ (part ++ t)) f.is ∙ ap (λ (t : List ℕ). 47 ∷ t) (sym (append_assoc part (path_of f.segments) query));
      no_slash = (HasNo-escape 47 slash (b ∷ text), f.no_slash);
      no_question = (HasNo-escape 63 question (b ∷ text), f.no_question);
      fits =
          ap (λ g. fits_path (g || has_greedy ps) (if g then segments_in ps else (AnyText ∷ segments_in ps)) (part ∷ f.segments)) plain
          ∙ and_from _ _ (fits_hole part (some_escape b text)) f.fits;
    }

-- a greedy hole, which is the last part
with_greedy : (hole : Hole) (query rest path : List ℕ) (b : ℕ) (text : List ℕ) → hole.greedy ≡ true → rest ≡ [] → path ≡ (47 ∷ []) ++ (hole_text hole (b ∷ text) ++ (query ++ rest)) → IsFilledBy (Bound hole ∷ []) query path
with_greedy hole query rest path b text greedy none e =
    let part = keep_slashes (b ∷ text) in
    let shown : hole_text hole (b ∷ text) ≡ part = ap (λ g. cond g (keep_slashes (b ∷ text)) (escape (b ∷ text))) greedy in
    let clean : HasNo 63 part = subst (HasNo 63) shown (HasNo-hole_text 63 question (λ h. absurd (omega arith)) hole (b ∷ text)) in
    let first = some_slashes b text in
    record {
      segments = cut_path part;
      is = e ∙ ap (λ (t : List ℕ). 47 ∷ (t ++ (query ++ rest))) shown ∙ ap (λ (t : List ℕ). 47 ∷ (part ++ (query ++ t))) none ∙ ap (λ (t : List ℕ). 47 ∷ (part ++ t)) (append-nil query)
          ∙ ap (λ (t : List ℕ). t ++ query) (sym (cut_joined part));
      no_slash = cut_clean part;
      no_question = cut_without 63 part clean;
      fits =
          ap (λ g. fits_path (g || false) (if g then [] else (AnyText ∷ [])) (cut_path part)) greedy
          ∙ ap (λ (t : List ℕ). fits_path true [] (cut_path t)) first.is ∙ greedy_fits first.byte first.rest;
    }

-- nothing stands behind a greedy hole
last_greedy : (greedy last : Bool) → greedy ≡ true → (not greedy || last) ≡ true → last ≡ true
last_greedy greedy last e h = sym (ap (λ g. not g || last) e) ∙ h

pub filled_by_parts : (labels : Labels) (ps : List Part) (query path : List ℕ) → are_sound ps ≡ true → AllByRecursion IsSegment (segments_in ps) → fill (template_by ps query) labels ≡ Ok path → IsFilledBy ps query path
filled_by_parts labels [] query path sound clean e =
    let same : query ++ [] ≡ path = cc e in
    record { segments = []; is = sym same ∙ append-nil query; no_slash = tt; no_question = tt; fits = refl }
filled_by_parts labels (Fixed text ∷ ps) query path sound clean e =
    let later = template_by ps query in
    let f = filled_path (template_by (Fixed text ∷ ps) query) labels path e in
    let again : fill later labels ≡ Ok (later.first ++ f.rest) = ap (λ (r : Result (List ℕ) (List ℕ)). then_give r λ rest. later.first ++ rest) f.fills in
    with_literal text ps query later.first f.rest path clean.0.0 clean.0.1 f.is (filled_by_parts labels ps query (later.first ++ f.rest) sound clean.1 again)
filled_by_parts labels (Bound hole ∷ ps) query path sound clean e =
    let later = template_by ps query in
    let f = filled_path (template_by (Bound hole ∷ ps) query) labels path e in
    let g = filled labels hole later.first later.rest f.rest f.fills in
    let again : fill later labels ≡ Ok (later.first ++ g.rest) = ap (λ (r : Result (List ℕ) (List ℕ)). then_give r λ rest. later.first ++ rest) g.behind in
    let parts = and_parts _ (are_sound ps) sound in
    let last = (and_parts _ (not hole.greedy || is_last ps) parts.0).1 in
    go hole.greedy refl ps g.rest g.behind g.byte g.text (f.is ∙ ap (λ (t : List ℕ). (47 ∷ []) ++ t) g.is) last clean (λ plain. filled_by_parts labels ps query (later.first ++ g.rest) parts.1 plain again)
  where
    go : (t : Bool) → hole.greedy ≡ t → (qs : List Part) (rest : List ℕ) → fill_rest (λ name. found name labels) (template_by qs query).rest ≡ Ok rest
        → (b : ℕ) (text : List ℕ) → path ≡ (47 ∷ []) ++ (hole_text hole (b ∷ text) ++ ((template_by qs query).first ++ rest)) → (not hole.greedy || is_last qs) ≡ true
        → AllByRecursion IsSegment (if hole.greedy then segments_in qs else (AnyText ∷ segments_in qs))
        → (AllByRecursion IsSegment (segments_in qs) → IsFilledBy qs query ((template_by qs query).first ++ rest)) → IsFilledBy (Bound hole ∷ qs) query path
    go true greedy [] rest fills b text is last clean more = let none : [] ≡ rest = cc fills in with_greedy hole query rest path b text greedy (sym none) is
    go true greedy (q ∷ qs) rest fills b text is last clean more = let h : false ≡ true = last_greedy hole.greedy false greedy last in absurd (cc h)
    go false plain qs rest fills b text is last clean more =
        let all = subst (λ (g : Bool). AllByRecursion IsSegment (if g then segments_in qs else (AnyText ∷ segments_in qs))) plain clean in
        with_hole hole qs query (template_by qs query).first rest path b text plain is (more all.1)
