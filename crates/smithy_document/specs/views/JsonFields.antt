-- The fields of open objects as they are kept, and where each stands in a text.
use Rattle.std.specs.Prelude.{⊤, ◌≡◌, ◌≤◌, ℕ, ◌-◌, length, List, [], ◌∷◌, ◌++◌, map, slice_range, false, Result, Ok, Err, OnOk, Vec}
use Rattle.std.specs.Global.{Global}
use Rattle.std.specs.Cmp.Lexicographic.{slice_cmp}
use Rattle.std.specs.Ordering.{nat_cmp}
use Rattle.std.specs.declared.cmp.Ordering.TheVariants.{Less}
use Rattle.std.specs.BTreeMap.{BTreeMap}
use Rattle.smithy_types.specs.Documents.{members_of}
use Rattle.smithy_types.specs.Maps.{all_put}
use Rattle.smithy_document.specs.Words.{Bor, list_of_members}
use Rattle.smithy_document.specs.declared.json_fields.Field.{Field}
use Rattle.smithy_document.specs.JsonText.{json_text}
use Rattle.smithy_document.specs.views.JsonTree.{text_at}
use Rattle.smithy_document.specs.views.JsonShown.{Pair, name_shown, fields_shown}

-- a name, and where the text of its field begins
abbrev pub field_at : List ℕ → ℕ → Field
field_at name start = record { name = name; start = start }

abbrev pub names_of : List Field → List (List ℕ)
names_of fs = map (λ f. f.name) fs

abbrev pub starts_of : List Field → List ℕ
starts_of fs = map (λ f. f.start) fs

-- from one place of a text to another stands the field
abbrev pub Span : Type 0
Span = ℕ × ℕ

-- where a field ends: before the comma of the next, and the last one with the text
abbrev pub end_before : ℕ → List Field → ℕ
end_before whole [] = whole
end_before whole (f ∷ fs) = f.start - 1

-- each name with the span of its field, in a text of this length
abbrev pub spans_of : ℕ → List Field → List (List ℕ × Span)
spans_of whole [] = []
spans_of whole (f ∷ fs) = (f.name, (f.start, end_before whole fs)) ∷ spans_of whole fs

-- the spans of a map, in byte order of the names
abbrev pub spans_in : List (Bor (List ℕ) × Span) → List (List ℕ × Span)
spans_in es = map (λ e. (e.0.now, e.1)) es

-- a map has those of these fields, in a text of this length; of a name that stands twice the last
abbrev pub HasSpans : ℕ → List Field → BTreeMap (Bor (List ℕ)) Span → Type 0
HasSpans whole fs m = spans_in m.entries ≡ all_put (spans_of whole fs) []

-- what stands in a text at a span was copied behind another text
abbrev pub IsSpanCopied : {U E : Type 0} → List ℕ → Span → List ℕ → List ℕ → Result U E → Type 0
IsSpanCopied text span old new result = span.0 ≤ span.1 → span.1 ≤ length text → OnOk result (new ≡ old ++ slice_range text span.0 span.1)

-- a field's name, colon and value stand there
pub record IsSpan (text : List ℕ) (s : Span) (p : Pair) : Type 0 where
  pub ascends : s.0 ≤ s.1
  pub within : s.1 ≤ length text
  pub shows : slice_range text s.0 s.1 ≡ name_shown p.0 ++ json_text p.1

-- each name with its span stands beside the name with its document
abbrev pub AreSpans : List ℕ → List (List ℕ × Span) → List Pair → Type 0
AreSpans text [] [] = ⊤
AreSpans text [] (p ∷ ps) = ⊥
AreSpans text (s ∷ ss) [] = ⊥
AreSpans text (s ∷ ss) (p ∷ ps) = (s.0 ≡ p.0) × IsSpan text s.1 p × AreSpans text ss ps

-- the last name
abbrev pub last_name : List Field → List ℕ
last_name fs = text_at (names_of fs) (length fs - 1)

-- it stands before this one, in byte order
abbrev pub IsLastBelow : List ℕ → List Field → Type 0
IsLastBelow name fs = slice_cmp nat_cmp (last_name fs) name ≡ Less

-- of the fields that stand there in turn, an object's text without its end
abbrev pub IsCopied : {E : Type 0} → List ℕ → List (List ℕ × Span) → Result (Vec ℕ Global) E → Type 0
IsCopied text ss (Err e) = ⊤
IsCopied text ss (Ok copy) = (ps : List Pair) → AreSpans text ss ps → copy.items ≡ 123 ∷ fields_shown false ps

-- the same of fields that get in order first
abbrev pub IsInOrder : {E : Type 0} → List ℕ → List Field → Result (Vec ℕ Global) E → Type 0
IsInOrder text fs (Err e) = ⊤
IsInOrder text fs (Ok copy) = (ps : List Pair) → AreSpans text (spans_of (length text) fs) ps → copy.items ≡ 123 ∷ fields_shown false (list_of_members (members_of ps))
