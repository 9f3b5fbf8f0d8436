-- Spans of fields, put in order and copied.
use Rattle.smithy_document.proofs.Common.{◌≡◌, ℕ, ◌+◌, ◌-◌, ◌<◌, ◌≤◌, Bool, true, false, List, [], ◌∷◌, ◌++◌, length, drop, get_or, slice_range, refl, sym, ap, ap₂, ◌∙◌, subst, append-nil, drop_more, drop_of_length-le, nat_cmp, slice_cmp, match_ordering, Ordering, Less, Equal, Greater, with_value, comma_if, Result, Ok, Err, list_of_members, members_of}
use Rattle.std.proofs.Common.{Vec, Global}
use Rattle.std.proofs.Common.{append_assoc}
use Rattle.std.specs.BTreeMap.{insert_entry}
use Rattle.smithy_types.specs.Maps.{all_put}
use Rattle.smithy_document.specs.Words.{Bor}
use Rattle.smithy_document.specs.declared.json_fields.Field.{Field}
use Rattle.smithy_document.specs.JsonText.{json_text}
use Rattle.smithy_document.specs.views.JsonShown.{Pair, name_shown, fields_shown}
use Rattle.smithy_document.specs.views.JsonFields.{Span, end_before, spans_of, spans_in, AreSpans, IsCopied, IsInOrder}
use Rattle.smithy_document.proofs.JsonStandingLemmas.{spans_in_order}

abbrev Entry : Type 0
Entry = Bor (List ℕ) × Span

abbrev order : Bor (List ℕ) → Bor (List ℕ) → Ordering
order a b = slice_cmp nat_cmp a.now b.now

-- an insertion into the map
span_put : (es : List Entry) (k : Bor (List ℕ)) (s : Span) → spans_in (insert_entry order es k s) ≡ with_value k.now s (spans_in es)
span_put [] k s = refl
span_put (e ∷ es) k s = go (slice_cmp nat_cmp k.now e.0.now) (span_put es k s)
  where
    go : (o : Ordering) → spans_in (insert_entry order es k s) ≡ with_value k.now s (spans_in es)
        → spans_in (match_ordering o ((k, s) ∷ e ∷ es) ((e.0, s) ∷ es) (e ∷ insert_entry order es k s))
        ≡ match_ordering o ((k.now, s) ∷ spans_in (e ∷ es)) ((e.0.now, s) ∷ spans_in es) ((e.0.now, e.1) ∷ with_value k.now s (spans_in es))
    go Less rest = refl
    go Equal rest = refl
    go Greater rest = ap (λ xs. (e.0.now, e.1) ∷ xs) rest

-- where a field ends
pub end_before_next : (whole : ℕ) (fs : List Field) (i : ℕ) (f : Field) → i < length fs → f ≡ get_or fs i f → f.start - 1 ≡ end_before whole (drop i fs)
end_before_next whole fs i f within is = ap (end_before whole) (sym (drop_more fs i f within ∙ ap (λ g. g ∷ drop (i + 1) fs) (sym is)))

pub end_of_all : (whole : ℕ) (fs : List Field) (i : ℕ) → length fs ≤ i → whole ≡ end_before whole (drop i fs)
end_of_all whole fs i past = ap (end_before whole) (sym (drop_of_length-le fs past))

-- the turn of the loop that puts them
pub spans_turn : (whole : ℕ) (fs : List Field) (i : ℕ) (f : Field) (es new : List Entry) (k : Bor (List ℕ)) (end : ℕ) {all : List (List ℕ × Span)} → i < length fs → f ≡ get_or fs i f → k.now ≡ f.name
    → end ≡ end_before whole (drop (i + 1) fs) → new ≡ insert_entry order es k (f.start, end) → all_put (spans_of whole (drop i fs)) (spans_in es) ≡ all → all_put (spans_of whole (drop (i + 1) fs)) (spans_in new) ≡ all
spans_turn whole fs i f es new k end within is named ends put h =
    let rest = drop (i + 1) fs in
    let first : drop i fs ≡ f ∷ rest = drop_more fs i f within ∙ ap (λ g. g ∷ rest) (sym is) in
    let one : spans_in new ≡ with_value f.name (f.start, end_before whole rest) (spans_in es) = ap spans_in put ∙ span_put es k (f.start, end) ∙ ap₂ (λ n e. with_value n (f.start, e) (spans_in es)) named ends in
    ap (all_put (spans_of whole rest)) one ∙ ap (λ gs. all_put (spans_of whole gs) (spans_in es)) (sym first) ∙ h

pub spans_all : (whole : ℕ) (fs : List Field) (i : ℕ) (es : List Entry) {all : List (List ℕ × Span)} → length fs ≤ i → all_put (spans_of whole (drop i fs)) (spans_in es) ≡ all → spans_in es ≡ all
spans_all whole fs i es past h = ap (λ gs. all_put (spans_of whole gs) (spans_in es)) (sym (drop_of_length-le fs past)) ∙ h

-- ---- what is copied

-- what is left of the fields gives the rest of the text
abbrev pub Leaves : List ℕ → List Entry → List ℕ → Bool → List Pair → Type 0
Leaves text left copy later ps = (qs : List Pair) × AreSpans text (spans_in left) qs × (copy ++ fields_shown later qs ≡ 123 ∷ fields_shown false ps)

pub copy_turn : (text : List ℕ) (e : Entry) (left : List Entry) (copy with_comma with_field : List ℕ) (later : Bool) (ps : List Pair) → with_comma ≡ copy ++ comma_if later
    → (e.1.0 ≤ e.1.1 → e.1.1 ≤ length text → with_field ≡ with_comma ++ slice_range text e.1.0 e.1.1) → Leaves text (e ∷ left) copy later ps → Leaves text left with_field true ps
copy_turn text e left copy with_comma with_field later ps comma field h = go h.0 h.1 h.2
  where
    go : (qs : List Pair) → AreSpans text (spans_in (e ∷ left)) qs → copy ++ fields_shown later qs ≡ 123 ∷ fields_shown false ps → Leaves text left with_field true ps
    go [] are h = absurd are
    go (q ∷ qs) are h =
        let text_is : with_field ≡ (copy ++ comma_if later) ++ (name_shown q.0 ++ json_text q.1) = field are.1.ascends are.1.within ∙ ap₂ (λ a b. a ++ b) comma are.1.shows in
        let rest = fields_shown true qs in (
          qs,
          are.2,
          ap (λ t. t ++ rest) text_is ∙ append_assoc (copy ++ comma_if later) (name_shown q.0 ++ json_text q.1) rest
              ∙ append_assoc copy (comma_if later) ((name_shown q.0 ++ json_text q.1) ++ rest)
              ∙ ap (λ t. copy ++ (comma_if later ++ t)) (append_assoc (name_shown q.0) (json_text q.1) rest) ∙ h,
        )

pub all_copied : (text copy : List ℕ) (later : Bool) (ps : List Pair) → Leaves text [] copy later ps → copy ≡ 123 ∷ fields_shown false ps
all_copied text copy later ps h = go h.0 h.1 h.2
  where
    go : (qs : List Pair) → AreSpans text [] qs → copy ++ fields_shown later qs ≡ 123 ∷ fields_shown false ps → copy ≡ 123 ∷ fields_shown false ps
    go [] are h = sym (append-nil copy) ∙ h
    go (q ∷ qs) are h = absurd are

-- ---- in order

pub in_order_copied : (E : Type 0) (text : List ℕ) (fs : List Field) (ss : List (List ℕ × Span)) (result : Result (Vec ℕ Global) E) → ss ≡ all_put (spans_of (length text) fs) [] → IsCopied text ss result → IsInOrder text fs result
in_order_copied E text fs ss (Ok copy) is h = λ ps are.
    h (list_of_members (members_of ps)) (subst (λ ss. AreSpans text ss (list_of_members (members_of ps))) (sym is) (spans_in_order text (spans_of (length text) fs) ps are))
in_order_copied E text fs ss (Err e) is h = tt
