use Rattle.std.proofs.Common.{◌≡◌, ◌≤◌, ℕ, List, true, length, drop, map}
use Rattle.std.specs.BTreeMap.{get_by}
use Rattle.std.specs.Cmp.Lexicographic.{slice_cmp}
use Rattle.std.specs.Option.{is_some}
use Rattle.std.specs.Ordering.{nat_cmp}
use Rattle.smithy_types.specs.Texts.{are_distinct, is_one_of}
use Rattle.smithy_strings.proofs.distinct.are_distinct.Given as goal

-- the texts behind are in the map, and no two of them are the same
abbrev pub invariant-loop-i : goal.invariant-loop-i
invariant-loop-i l = record {
  within : l.i ≤ length l.texts;
  later : (text : List ℕ) → is_some (get_by (λ k. slice_cmp nat_cmp text k.now) l.later) ≡ is_one_of text (map (λ t. t.now) (drop l.i l.texts));
  distinct : are_distinct (map (λ t. t.now) (drop l.i l.texts)) ≡ true;
}

abbrev pub decreases-loop-i : goal.decreases-loop-i
decreases-loop-i l = l.i
