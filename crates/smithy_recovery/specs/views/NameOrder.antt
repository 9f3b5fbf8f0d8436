-- Pairs in byte order of their names.
use Rattle.std.specs.Prelude.{◌≡◌, ℕ, Bool, true, false, ◌&&◌, List, [], ◌∷◌, map, Option, Some, option_map, Vec}
use Rattle.std.specs.Borrow.{Bor}
use Rattle.std.specs.List.{cons_option}
use Rattle.std.specs.Cmp.Lexicographic.{slice_cmp}
use Rattle.std.specs.Global.{Global}
use Rattle.std.specs.Ordering.{nat_cmp, is_lt}
use Rattle.smithy_types.specs.Texts.{same_text}
use Rattle.smithy_http.specs.Facts.{values_at}
use Rattle.smithy_recovery.specs.SameFacts.{has_same_values}
use Rattle.smithy_recovery.specs.declared.named_texts.NamedText.{NamedText}
use Rattle.smithy_recovery.specs.declared.same_facts.Left.{Left}
use Rattle.smithy_recovery.specs.declared.same_facts.Named.{Named}

-- a name with its value
abbrev pub named_seen : Named → List ℕ × List ℕ
named_seen n = (n.name.now, n.value.now)

abbrev pub pairs_seen : Vec Named Global → List (List ℕ × List ℕ)
pairs_seen pairs = map named_seen pairs.items

-- a header
abbrev pub header_seen : Bor (List ℕ) × Bor (List ℕ) → List ℕ × List ℕ
header_seen h = (h.0.now, h.1.now)

-- what is left of headers
abbrev pub left_seen : Left → List (List ℕ × List ℕ)
left_seen l = cons_option (option_map header_seen l.first) l.behind

-- under each name the same values are left
abbrev pub same_left : Left → Left → Bool
same_left l o = has_same_values (left_seen l) (left_seen o)

-- both first headers are there, and they are the same
abbrev pub has_same_first : (first other : Option (Bor (List ℕ) × Bor (List ℕ))) → Bool
has_same_first (Some h) (Some o) = same_text h.0.now o.0.now && same_text h.1.now o.1.now
has_same_first _ _ = false

-- a text by its name
abbrev pub text_seen : NamedText → List ℕ × List ℕ
text_seen t = (t.name.now, t.text.now)

abbrev pub texts_seen : Vec NamedText Global → List (List ℕ × List ℕ)
texts_seen texts = map text_seen texts.items

-- the name stands before no name of the pairs
abbrev pub IsLow : List ℕ → List (List ℕ × List ℕ) → Type 0
IsLow name [] = Unit {0}
IsLow name (p ∷ ps) = (is_lt (slice_cmp nat_cmp p.0 name) ≡ false) × IsLow name ps

-- the names do not fall
abbrev pub Rises : List (List ℕ × List ℕ) → Type 0
Rises [] = Unit {0}
Rises (p ∷ ps) = IsLow p.0 ps × Rises ps

-- the pairs in order of their names, those of one name in their order
pub record IsInOrder (pairs ordered : List (List ℕ × List ℕ)) : Type 0 where
  pub rises : Rises ordered
  pub same : (name : List ℕ) → values_at name ordered ≡ values_at name pairs

-- the same pairs in order
abbrev pub same_pairs : List (List ℕ × List ℕ) → List (List ℕ × List ℕ) → Bool
same_pairs [] [] = true
same_pairs [] (q ∷ qs) = false
same_pairs (p ∷ ps) [] = false
same_pairs (p ∷ ps) (q ∷ qs) = same_text p.0 q.0 && (same_text p.1 q.1 && same_pairs ps qs)

-- the first name is lower than the second, if there are two
abbrev pub first_below : List (List ℕ) → Bool
first_below [] = true
first_below (name ∷ []) = true
first_below (name ∷ next ∷ names) = is_lt (slice_cmp nat_cmp name next)

-- each name is lower than the next
abbrev pub rise : List (List ℕ) → Bool
rise [] = true
rise (name ∷ names) = first_below (name ∷ names) && rise names
