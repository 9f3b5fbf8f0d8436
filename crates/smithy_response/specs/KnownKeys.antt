-- Which texts an index knows.
use Rattle.std.specs.Prelude.{◌≡◌, ℕ, Bool, List, is_some}
use Rattle.std.specs.Borrow.{Bor}
use Rattle.std.specs.BTreeMap.{BTreeMap, get_by}
use Rattle.std.specs.Cmp.Lexicographic.{slice_cmp}
use Rattle.std.specs.Ordering.{nat_cmp}
use Rattle.smithy_types.specs.Texts.{is_one_of}

-- the text is in the index
abbrev pub is_known : BTreeMap (Bor (List ℕ)) ℕ → List ℕ → Bool
is_known known text = is_some (get_by (λ k. slice_cmp nat_cmp text k.now) known)

-- the index knows these texts, and no other
abbrev pub AreKnown : BTreeMap (Bor (List ℕ)) ℕ → List (List ℕ) → Type 0
AreKnown known texts = (text : List ℕ) → is_known known text ≡ is_one_of text texts
