-- The path is read as the labels that it was filled with.
use Rattle.std.proofs.Common.{◌≡◌, refl, sym, ◌∙◌, ap, subst, cond, ℕ, arith, Bool, true, false, not, ◌==◌, ◌&&◌, ◌||◌, List, [], ◌∷◌, ◌++◌, length, drop, map, Some, Ok, option_map, option_and_then, is_some, codes, nat_eq, ne_eqb, find}
use Rattle.std.proofs.Math.Seq.{drop-append_seam}
use Rattle.std.specs.List.{AllByRecursion, starts_with}
use Rattle.std.specs.Str.{is_utf8}
use Rattle.std.specs.Cmp.Lexicographic.{same_text as same_from_test}
use Rattle.std.proofs.lemmas.Bool.{eqb-true, and_parts, not-true}
use Rattle.std.proofs.lemmas.List.{append-nil}
use Rattle.smithy_strings.proofs.UnescapeLaws.{same_self}
use Rattle.percent_encoding.specs.Percent.{percent_decode}
use Rattle.smithy_types.specs.Texts.{found, has_byte, same_text}
use Rattle.smithy_types.specs.Grammars.{before_query}
use Rattle.smithy_schema.specs.Templates.{Hole, Piece, Template}
use Rattle.std.specs.Bool.{then_some}
use Rattle.smithy_strings.specs.Escapes.{escape, decoded}
use Rattle.smithy_strings.proofs.EscapeLaws.{decode-escape}
use Rattle.smithy_binding.specs.Filling.{hole_text, fill, fill_rest, keep_slashes}
use Rattle.smithy_binding.specs.Clear.{ends_segment, begins_segment, are_whole_segments, is_greedy_last}
use Rattle.smithy_strings.proofs.Bytes.{AreBytes-from_utf8}
use Rattle.smithy_unambiguity.proofs.Cuts.{before, before-cut, before_none, before_first-before}
use Rattle.smithy_unambiguity.proofs.Holes.{decode-keep_slashes}
use Rattle.smithy_unambiguity.proofs.Labels.{filled_path}
use Rattle.smithy_unambiguity.proofs.Paths.{filled, before-behind, between, plain_hole, spelled, HasNo-from_has_byte}
use Rattle.smithy_unambiguity.proofs.Reserved.{slash, question, HasNo-escape, HasNo-hole_text}
use Rattle.smithy_recovery.proofs.Cutting.{behind_front-append, before_end-append}
use Rattle.smithy_recovery.specs.PathParts.{behind_front, before_end, segment, hole_part, with_part, hole_texts, path_texts, path_texts_by}

abbrev Labels : Type 0
Labels = List (List ℕ × List ℕ)

-- each text is UTF-8
abbrev pub HaveUtf8 : Labels → Type 0
HaveUtf8 ps = AllByRecursion (λ p. is_utf8 p.1 ≡ true) ps

-- The text of a hole.

hole_decoded : (hole : Hole) (text : List ℕ) → is_utf8 text ≡ true → decoded (hole_text hole text) ≡ Some text
hole_decoded hole text utf8 = ap (λ t. then_some (is_utf8 t) t) (go hole.greedy) ∙ ap (λ b. then_some b text) utf8
  where
    go : (greedy : Bool) → percent_decode (cond greedy (keep_slashes text) (escape text)) ≡ text
    go true = decode-keep_slashes text (AreBytes-from_utf8 text utf8)
    go false = decode-escape text (AreBytes-from_utf8 text utf8)

found_utf8 : (name : List ℕ) (labels : Labels) (text : List ℕ) → HaveUtf8 labels → found name labels ≡ Some text → is_utf8 text ≡ true
found_utf8 name [] text all e = absurd (cc e)
found_utf8 name (l ∷ ls) text all e = go (same_text l.0 name) (found_utf8 name ls text all.1) e
  where
    go : (t : Bool) → (found name ls ≡ Some text → is_utf8 text ≡ true) → option_map (λ p. p.1) (cond t (Some l) (find (λ p. same_text p.0 name) ls)) ≡ Some text → is_utf8 text ≡ true
    go true rest h = let same : l.1 ≡ text = cc h in ap is_utf8 (sym same) ∙ all.0
    go false rest h = rest h

-- a text found behind one more
found_more : (name other text : List ℕ) (texts labels : Labels) → found name labels ≡ Some text → found other texts ≡ found other labels → found other ((name, text) ∷ texts) ≡ found other labels
found_more name other text texts labels here there = go (same_text name other) refl
  where
    go : (t : Bool) → same_text name other ≡ t → option_map (λ (p : List ℕ × List ℕ). p.1) (cond t (Some (name, text)) (find (λ p. same_text p.0 other) texts)) ≡ found other labels
    go true e = sym here ∙ ap (λ n. found n labels) (same_from_test name other (sym e))
    go false e = there

found_here : (name text : List ℕ) (texts labels : Labels) → found name labels ≡ Some text → found name ((name, text) ∷ texts) ≡ found name labels
found_here name text texts labels here = ap (λ t. option_map (λ (p : List ℕ × List ℕ). p.1) (cond t (Some (name, text)) (find (λ p. same_text p.0 name) texts))) (same_self name) ∙ sym here

all_more : (name text : List ℕ) (texts labels : Labels) → found name labels ≡ Some text → (ps : List Piece) → AllByRecursion (λ p. found p.hole.name texts ≡ found p.hole.name labels) ps
    → AllByRecursion (λ p. found p.hole.name ((name, text) ∷ texts) ≡ found p.hole.name labels) ps
all_more name text texts labels here [] all = tt
all_more name text texts labels here (p ∷ ps) all = (found_more name p.hole.name text texts labels here all.0, all_more name text texts labels here ps all.1)

-- what is read has the text of each hole
pub record AreHoleTexts (labels : Labels) (ps : List Piece) (path : List ℕ) : Type 0 where
  pub texts : Labels
  pub read : hole_texts ps path ≡ Some texts
  pub same : AllByRecursion (λ p. found p.hole.name texts ≡ found p.hole.name labels) ps
  pub there : AllByRecursion (λ p. is_some (found p.hole.name labels) ≡ true) ps

-- the segment of a hole before what begins a segment or nothing
segment_before : (text end : List ℕ) → begins_segment end ≡ true → segment (escape text ++ before 63 end) ≡ escape text
segment_before text [] begins = ap segment (append-nil (escape text)) ∙ before_first-before 47 (escape text) ∙ before_none 47 (escape text) (HasNo-escape 47 slash text)
segment_before text (b ∷ end) begins = go (47 == b) (63 == b) refl refl (ap (λ t. t || starts_with nat_eq (b ∷ end) (codes "/") || starts_with nat_eq (b ∷ end) (codes "?")) (sym (ne_eqb (length (b ∷ end)) 0 (λ h. omega arith))) ∙ begins)
  where
    go : (s q : Bool) → (47 == b) ≡ s → (63 == b) ≡ q → (false || (s && true) || (q && true)) ≡ true → segment (escape text ++ before 63 (b ∷ end)) ≡ escape text
    go true q es eq h =
        let is : 47 ≡ b = eqb-true 47 b es in
        let plain : before 63 (b ∷ end) ≡ 47 ∷ before 63 end = ap (λ c. before 63 (c ∷ end)) (sym is) in
        ap (λ r. segment (escape text ++ r)) plain ∙ before_first-before 47 (escape text ++ 47 ∷ before 63 end) ∙ before-cut 47 (escape text) (before 63 end) (HasNo-escape 47 slash text)
    go false true es eq h =
        let is : 63 ≡ b = eqb-true 63 b eq in
        let none : before 63 (b ∷ end) ≡ [] = ap (λ c. before 63 (c ∷ end)) (sym is) in
        ap (λ r. segment (escape text ++ r)) none ∙ ap segment (append-nil (escape text)) ∙ before_first-before 47 (escape text) ∙ before_none 47 (escape text) (HasNo-escape 47 slash text)
    go false false es eq h = absurd (cc h)

-- the last hole
last_part : (p : Piece) (text : List ℕ) → begins_segment p.literal ≡ true → hole_part p (hole_text p.hole text ++ before 63 p.literal) ≡ Some (hole_text p.hole text)
last_part p text begins = go p.hole.greedy
  where
    go : (greedy : Bool) → cond greedy (before_end (before_query p.literal) (cond greedy (keep_slashes text) (escape text) ++ before 63 p.literal)) (Some (segment (cond greedy (keep_slashes text) (escape text) ++ before 63 p.literal)))
        ≡ Some (cond greedy (keep_slashes text) (escape text))
    go true = ap (λ end. before_end (before_query p.literal) (keep_slashes text ++ end)) (sym (before_first-before 63 p.literal)) ∙ before_end-append (keep_slashes text) (before_query p.literal)
    go false = ap Some (segment_before text p.literal begins)

pub holes_back : (labels : Labels) (start : List ℕ) (ps : List Piece) (path : List ℕ) → HaveUtf8 labels → are_whole_segments start ps ≡ true → is_greedy_last (map (λ p. p.hole) ps) ≡ true
    → fill_rest (λ name. found name labels) ps ≡ Ok path → AreHoleTexts labels ps (before 63 path)
holes_back labels start [] path utf8 segments greedy fills = record { texts = []; read = refl; same = tt; there = tt }
holes_back labels start (p ∷ []) path utf8 segments greedy fills =
    let f = filled labels p [] path fills in
    let nothing : [] ≡ f.rest = cc f.behind in
    let shown : before 63 path ≡ hole_text p.hole f.text ++ before 63 p.literal =
    ap (before 63) f.is ∙ before-behind (hole_text p.hole f.text) (p.literal ++ f.rest) (HasNo-hole_text 63 question (λ h. absurd (omega arith)) p.hole f.text)
    ∙ ap (λ r. hole_text p.hole f.text ++ before 63 (p.literal ++ r)) (sym nothing) ∙ ap (λ l. hole_text p.hole f.text ++ before 63 l) (append-nil p.literal) in
    let first = and_parts (ends_segment start && begins_segment p.literal) true segments in
    let begins = (and_parts (ends_segment start) (begins_segment p.literal) first.0).1 in
    let text = hole_decoded p.hole f.text (found_utf8 p.hole.name labels f.text utf8 f.label) in
    record {
      texts = (p.hole.name, f.text) ∷ [];
      read =
          ap (λ r. option_and_then (with_part p.hole.name (Some [])) (hole_part p r)) shown
          ∙ ap (option_and_then (with_part p.hole.name (Some []))) (last_part p f.text begins)
          ∙ ap (option_and_then (λ t. option_map (λ texts. (p.hole.name, t) ∷ texts) (Some []))) text;
      same = (found_here p.hole.name f.text [] labels f.label, tt);
      there = (ap is_some f.label, tt);
    }
holes_back labels start (p ∷ q ∷ ps) path utf8 segments greedy fills =
    let f = filled labels p (q ∷ ps) path fills in
    let first = and_parts (ends_segment start && begins_segment p.literal) (are_whole_segments p.literal (q ∷ ps)) segments in
    let second = and_parts (ends_segment p.literal && begins_segment q.literal) (are_whole_segments q.literal ps) first.1 in
    let b = between p.literal (and_parts (ends_segment start) (begins_segment p.literal) first.0).1 (and_parts (ends_segment p.literal) (begins_segment q.literal) second.0).0 in
    let lazy = and_parts (not p.hole.greedy || (length (map (λ x. x.hole) (q ∷ ps)) == 0)) (is_greedy_last (map (λ x. x.hole) (q ∷ ps))) greedy in
    let plain = plain_hole p.hole lazy.0 (ne_eqb (length (map (λ x. x.hole) (q ∷ ps))) 0 (λ h. omega arith)) in
    let rest = holes_back labels p.literal (q ∷ ps) f.rest utf8 first.1 lazy.1 f.behind in
    let shown : before 63 path ≡ escape f.text ++ 47 ∷ (b.later ++ before 63 f.rest) = ap (before 63) f.is ∙ spelled p.hole f.text p.literal f.rest b plain in
    let tail : 47 ∷ (b.later ++ before 63 f.rest) ≡ p.literal ++ before 63 f.rest = ap (λ l. l ++ before 63 f.rest) (sym b.is) in
    let cut : segment (before 63 path) ≡ escape f.text = ap segment shown ∙ before_first-before 47 (escape f.text ++ 47 ∷ (b.later ++ before 63 f.rest)) ∙ before-cut 47 (escape f.text) (b.later ++ before 63 f.rest) (HasNo-escape 47 slash f.text) in
    let part : hole_part p (before 63 path) ≡ Some (escape f.text) = ap (λ g. cond g (before_end (before_query p.literal) (before 63 path)) (Some (segment (before 63 path)))) plain ∙ ap Some cut in
    let behind : behind_front p.literal (drop (length (escape f.text)) (before 63 path)) ≡ Some (before 63 f.rest) =
    ap (λ r. behind_front p.literal (drop (length (escape f.text)) r)) shown
    ∙ ap (behind_front p.literal) (drop-append_seam (escape f.text) (47 ∷ (b.later ++ before 63 f.rest)) ∙ tail)
    ∙ behind_front-append p.literal (before 63 f.rest) in
    let text : decoded (escape f.text) ≡ Some f.text = ap (λ g. decoded (cond g (keep_slashes f.text) (escape f.text))) (sym plain) ∙ hole_decoded p.hole f.text (found_utf8 p.hole.name labels f.text utf8 f.label) in
    record {
      texts = (p.hole.name, f.text) ∷ rest.texts;
      read =
          ap (option_and_then (λ part. with_part p.hole.name (option_and_then (hole_texts (q ∷ ps)) (behind_front p.literal (drop (length part) (before 63 path)))) part)) part
          ∙ ap (λ o. with_part p.hole.name (option_and_then (hole_texts (q ∷ ps)) o) (escape f.text)) behind
          ∙ ap (λ o. with_part p.hole.name o (escape f.text)) rest.read
          ∙ ap (option_and_then (λ t. option_map (λ texts. (p.hole.name, t) ∷ texts) (Some rest.texts))) text;
      same = (found_here p.hole.name f.text rest.texts labels f.label, all_more p.hole.name f.text rest.texts labels f.label (q ∷ ps) rest.same);
      there = (ap is_some f.label, rest.there);
    }

-- The texts of the labels are found in the path of a filled template.
pub record ArePathTexts (labels : Labels) (t : Template) (path : List ℕ) : Type 0 where
  pub texts : Labels
  pub read : path_texts t path ≡ Some texts
  pub same : AllByRecursion (λ p. found p.hole.name texts ≡ found p.hole.name labels) t.rest
  pub there : AllByRecursion (λ p. is_some (found p.hole.name labels) ≡ true) t.rest

empty_back : (labels : Labels) (t : Template) (path : List ℕ) → t.rest ≡ [] → fill t labels ≡ Ok path → ArePathTexts labels t (before_query path)
empty_back labels t path none fills = record {
  texts = [];
  read = ap (λ qs. path_texts_by qs t.first (before_query path)) none;
  same = subst (AllByRecursion (λ p. found p.hole.name [] ≡ found p.hole.name labels)) (sym none) tt;
  there = subst (AllByRecursion (λ p. is_some (found p.hole.name labels) ≡ true)) (sym none) tt;
}

pub path_back : (labels : Labels) (t : Template) (path : List ℕ) → HaveUtf8 labels → are_whole_segments t.first t.rest ≡ true → is_greedy_last (map (λ p. p.hole) t.rest) ≡ true
    → fill t labels ≡ Ok path → ArePathTexts labels t (before_query path)
path_back labels t path utf8 segments greedy fills = go t.rest refl
  where
    go : (ps : List Piece) → t.rest ≡ ps → ArePathTexts labels t (before_query path)
    go [] none = empty_back labels t path none fills
    go (p ∷ ps) some =
        let f = filled_path t labels path fills in
        let segments_p = ap (are_whole_segments t.first) (sym some) ∙ segments in
        let x = and_parts (ends_segment t.first && begins_segment p.literal) (are_whole_segments p.literal ps) segments_p in
        let y = and_parts (ends_segment t.first) (begins_segment p.literal) x.0 in
        let none = not-true (has_byte 63 t.first) (and_parts _ (not (has_byte 63 t.first)) y.0).1 in
        let h = holes_back labels t.first t.rest f.rest utf8 segments greedy f.fills in
        let shown : before_query path ≡ t.first ++ before 63 f.rest = before_first-before 63 path ∙ ap (before 63) f.is ∙ before-behind t.first f.rest (HasNo-from_has_byte 63 t.first none) in
        record {
          texts = h.texts;
          read =
              ap (path_texts t) shown ∙ ap (λ qs. path_texts_by qs t.first (t.first ++ before 63 f.rest)) some
              ∙ ap (option_and_then (hole_texts (p ∷ ps))) (behind_front-append t.first (before 63 f.rest)) ∙ ap (λ qs. hole_texts qs (before 63 f.rest)) (sym some) ∙ h.read;
          same = h.same;
          there = h.there;
        }
