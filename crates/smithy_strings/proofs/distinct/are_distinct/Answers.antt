use Rattle.std.proofs.Common.{◌≡◌, ◌+◌, ◌-◌, ap, sym, ◌∙◌, ℕ, true, false, List, [], ◌∷◌, drop, get_or, map, Option, Some, arith}
use Rattle.std.proofs.lemmas.List.{drop_more}
use Rattle.std.proofs.lemmas.Map.Text.{btree_map_updates_str}
use Rattle.std.specs.Borrow.{Bor}
use Rattle.std.specs.BTreeMap.{BTreeMap, get_by}
use Rattle.std.specs.Cmp.Lexicographic.{slice_cmp}
use Rattle.std.specs.Option.{is_some}
use Rattle.std.specs.Ordering.{nat_cmp}
use Rattle.smithy_types.specs.Texts.{is_one_of}
use Rattle.smithy_strings.proofs.DistinctTexts.{later-more, distinct-more, distinct-again, is_some-copied}
use Rattle.smithy_strings.proofs.distinct.are_distinct.Goals as goal

no_text : Bor (List ℕ)
no_text = record { ref_ptr = (0, 0); now = [] }

abbrev shown : List (Bor (List ℕ)) → List (List ℕ)
shown texts = map (λ t. t.now) texts

abbrev place_in : BTreeMap (Bor (List ℕ)) ℕ → List ℕ → Option ℕ
place_in m text = get_by (λ k. slice_cmp nat_cmp text k.now) m

pub returns-then-is_some : goal.returns-then-is_some
unfolding no_text
returns-then-is_some c =
    let j = c.loop-i.i - 1 in
    let n = get_or c.args.texts.now j no_text in
    let next : j + 1 ≡ c.loop-i.i = omega (arith, c.loop-i-test.true) in
    let here : drop j c.args.texts.now ≡ n ∷ drop (j + 1) c.args.texts.now = drop_more c.args.texts.now j no_text (omega (arith, c.loop-i-test.true, c.loop-i.invariant.within)) in
    let texts : shown (drop j c.args.texts.now) ≡ n.now ∷ shown (drop c.loop-i.i c.args.texts.now) = ap shown (rw next at here) in
    let again : is_one_of n.now (shown (drop c.loop-i.i c.args.texts.now)) ≡ true =
    sym (c.loop-i.invariant.later n.now) ∙ sym (ap is_some c.get.ensures.value) ∙ is_some-copied c.get.result ∙ sym c.is_some.ensures ∙ c.if-is_some.true in
    distinct-again (λ (x : Bor (List ℕ)). x.now) c.args.texts.now j n.now (shown (drop c.loop-i.i c.args.texts.now)) texts again

pub loop-i-preserved : goal.loop-i-preserved
unfolding no_text
loop-i-preserved c =
    let j = c.loop-i.i - 1 in
    let n = get_or c.args.texts.now j no_text in
    let next : j + 1 ≡ c.loop-i.i = omega (arith, c.loop-i-test.true) in
    let here : drop j c.args.texts.now ≡ n ∷ drop (j + 1) c.args.texts.now = drop_more c.args.texts.now j no_text (omega (arith, c.loop-i-test.true, c.loop-i.invariant.within)) in
    let rest = shown (drop c.loop-i.i c.args.texts.now) in
    let texts : shown (drop j c.args.texts.now) ≡ n.now ∷ rest = ap shown (rw next at here) in
    let new : is_one_of n.now rest ≡ false =
    sym (c.loop-i.invariant.later n.now) ∙ sym (ap is_some c.get.ensures.value) ∙ is_some-copied c.get.result ∙ sym c.is_some.ensures ∙ c.if-is_some.false in
    record {
      within = omega (arith, c.loop-i.invariant.within);
      later = λ q. rw texts
          (later-more rest n.now j (place_in c.loop-i.later) (place_in c.insert.new.self) c.loop-i.invariant.later (btree_map_updates_str n.now c.loop-i.later c.insert.new.self (Some j) c.in_ok-insert.ensures.updates) q);
      distinct = rw texts (distinct-more rest n.now new c.loop-i.invariant.distinct);
    }
