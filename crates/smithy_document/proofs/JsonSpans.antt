-- The fields of an object that was written, each from where it begins.
use Rattle.smithy_document.proofs.Common.{◌≡◌, ℕ, suc, ◌+◌, Bool, true, false, List, [], ◌∷◌, ◌++◌, length, map, take, drop, slice_range, refl, sym, ap, ap₂, ◌∙◌, subst, arith, append-nil, length-append, length-map, comma_if}
use Rattle.std.proofs.Common.{append_assoc}
use Rattle.std.proofs.lemmas.List.{drop-map, take-map}
use Rattle.smithy_document.specs.declared.json_fields.Field.{Field}
use Rattle.smithy_document.specs.declared.json_writing.JsonWriting.{JsonWriting}
use Rattle.smithy_document.specs.JsonText.{json_text}
use Rattle.smithy_document.specs.views.JsonShown.{Pair, name_shown, fields_shown, field_starts}
use Rattle.smithy_document.specs.views.JsonFields.{names_of, starts_of, end_before, spans_of, AreSpans}
use Rattle.smithy_document.specs.views.JsonStanding.{Part, part_of, first_name, HasFields, IsJoined}
use Rattle.smithy_document.proofs.TextCuts.{piece_kept, piece_added}

pub drop_front : {X : Type 0} (xs ys : List X) → drop (length xs) (xs ++ ys) ≡ ys
drop_front [] ys = refl
drop_front (x ∷ xs) ys = drop_front xs ys

pub take_front : {X : Type 0} (xs ys : List X) → take (length xs) (xs ++ ys) ≡ xs
take_front [] ys = refl
take_front (x ∷ xs) ys = ap (λ t. x ∷ t) (take_front xs ys)

-- what stands between two texts
between : (a b c : List ℕ) → slice_range ((a ++ b) ++ c) (length a) (length (a ++ b)) ≡ b
between a b c =
    let size : length (a ++ b) ≡ length a + length b = length-append a b in
    piece_kept (a ++ b) c (length a, length (a ++ b)) (omega (arith, size)) (omega arith) ∙ piece_added a b

-- the first of the fields behind a text ends with it
ends : (behind : List ℕ) (ps : List Pair) (fs : List Field) → names_of fs ≡ map first_name ps → starts_of fs ≡ field_starts (length behind) true ps
    → end_before (length (behind ++ fields_shown true ps)) fs ≡ length behind
ends behind [] [] names starts = ap length (append-nil behind)
ends behind [] (f ∷ fs) names starts = absurd (cc names)
ends behind (p ∷ ps) [] names starts = absurd (cc names)
ends behind (p ∷ ps) (f ∷ fs) names starts = let first : f.start ≡ length behind + 1 = cc starts in omega (arith, first)

-- behind a text the fields stand where they were noted
pub spans_stand : (before : List ℕ) (later : Bool) (ps : List Pair) (fs : List Field) → names_of fs ≡ map first_name ps → starts_of fs ≡ field_starts (length before) later ps
    → AreSpans (before ++ fields_shown later ps) (spans_of (length (before ++ fields_shown later ps)) fs) ps
spans_stand before later [] [] names starts = tt
spans_stand before later [] (f ∷ fs) names starts = absurd (cc names)
spans_stand before later (p ∷ ps) [] names starts = absurd (cc names)
spans_stand before later (p ∷ ps) (f ∷ fs) names starts =
    let comma = comma_if later in
    let body = name_shown p.0 ++ json_text p.1 in
    let rest = fields_shown true ps in
    let start = before ++ comma in
    let behind = start ++ body in
    let split : before ++ fields_shown later (p ∷ ps) ≡ behind ++ rest =
    ap (λ t. before ++ (comma ++ t)) (sym (append_assoc (name_shown p.0) (json_text p.1) rest)) ∙ sym (append_assoc before comma (body ++ rest)) ∙ sym (append_assoc start body rest) in
    let one : length start ≡ length before + length comma = length-append before comma in
    let two : length behind ≡ length start + length body = length-append start body in
    let three : length (comma ++ body) ≡ length comma + length body = length-append comma body in
    let first : f.start ≡ length before + length comma = cc starts in
    let others : starts_of fs ≡ field_starts (length before + length (comma ++ body)) true ps = cc starts in
    let at : length before + length (comma ++ body) ≡ length behind = omega (arith, one, two, three) in
    let names_left : names_of fs ≡ map first_name ps = cc names in
    let starts_left : starts_of fs ≡ field_starts (length behind) true ps = others ∙ ap (λ n. field_starts n true ps) at in
    let end : end_before (length (behind ++ rest)) fs ≡ length behind = ends behind ps fs names_left starts_left in
    let begin : f.start ≡ length start = omega (arith, first, one) in
    let size : length (behind ++ rest) ≡ length behind + length rest = length-append behind rest in
    let name : f.name ≡ p.0 = cc names in
    subst (λ w. AreSpans w (spans_of (length w) (f ∷ fs)) (p ∷ ps)) (sym split) (
      name,
      record {
        ascends = omega (arith, begin, end, two);
        within = omega (arith, end, size);
        shows = ap₂ (λ i j. slice_range (behind ++ rest) i j) begin end ∙ between start body rest;
      },
      spans_stand behind true ps fs names_left starts_left,
    )

-- ---- of the whole

starts_length : (ps : List Pair) (at : ℕ) (later : Bool) → length (field_starts at later ps) ≡ length ps
starts_length [] at later = refl
starts_length (p ∷ ps) at later = ap suc (starts_length ps _ true)

module _ (w : JsonWriting) (ps : List Pair) (outer inner : Part) (j : IsJoined w.level outer inner (part_of w)) (h : HasFields w.level ps inner) where
  -- as many names as places stand around
  pub as_many_outside : length outer.names ≡ length outer.starts
  as_many_outside =
      let fs = w.fields.list.items in
      let a : length (names_of fs) ≡ length fs = length-map fs (λ f. f.name) in
      let b : length (starts_of fs) ≡ length fs = length-map fs (λ f. f.start) in
      let c : length (names_of fs) ≡ length outer.names + length inner.names = ap length j.names ∙ length-append outer.names inner.names in
      let d : length (starts_of fs) ≡ length outer.starts + length inner.starts = ap length j.starts ∙ length-append outer.starts inner.starts in
      let e : length inner.names ≡ length ps = ap length h.names ∙ length-map ps first_name in
      let f : length inner.starts ≡ length ps = ap length h.starts ∙ starts_length ps (w.level.start + 1) false in
      omega (arith, a, b, c, d, e, f)

  first_is : w.level.first ≡ length outer.names
  first_is = j.first ∙ sym as_many_outside

  -- where the fields stand
  pub spans_here : AreSpans w.text.items (spans_of (length w.text.items) (drop w.level.first w.fields.list.items)) ps
  spans_here =
      let fs = drop w.level.first w.fields.list.items in
      let before = outer.text ++ 123 ∷ [] in
      let size : length before ≡ length outer.text + 1 = length-append outer.text (123 ∷ []) in
      let start : w.level.start ≡ length outer.text = j.start in
      let at : w.level.start + 1 ≡ length before = omega (arith, size, start) in
      let names : names_of fs ≡ map first_name ps =
      sym (drop-map (λ (f : Field). f.name) w.level.first w.fields.list.items) ∙ ap (drop w.level.first) j.names ∙ ap (λ n. drop n (outer.names ++ inner.names)) first_is ∙ drop_front outer.names inner.names ∙ h.names in
      let starts : starts_of fs ≡ field_starts (length before) false ps =
      sym (drop-map (λ (f : Field). f.start) w.level.first w.fields.list.items) ∙ ap (drop w.level.first) j.starts ∙ ap (λ n. drop n (outer.starts ++ inner.starts)) j.first ∙ drop_front outer.starts inner.starts
      ∙ h.starts ∙ ap (λ n. field_starts n false ps) at in
      let text : w.text.items ≡ before ++ fields_shown false ps = j.text ∙ ap (λ t. outer.text ++ t) h.text ∙ sym (append_assoc outer.text (123 ∷ []) (fields_shown false ps)) in
      subst (λ t. AreSpans t (spans_of (length t) fs) ps) (sym text) (spans_stand before false ps fs names starts)

  -- what is left where they are dropped
  pub names_outside : names_of (take w.level.first w.fields.list.items) ≡ outer.names
  names_outside =
      sym (take-map (λ (f : Field). f.name) w.level.first w.fields.list.items) ∙ ap (take w.level.first) j.names ∙ ap (λ n. take n (outer.names ++ inner.names)) first_is ∙ take_front outer.names inner.names

  pub starts_outside : starts_of (take w.level.first w.fields.list.items) ≡ outer.starts
  starts_outside =
      sym (take-map (λ (f : Field). f.start) w.level.first w.fields.list.items) ∙ ap (take w.level.first) j.starts ∙ ap (λ n. take n (outer.starts ++ inner.starts)) j.first ∙ take_front outer.starts inner.starts
