use Rattle.smithy_binding.proofs.Common.{◌≡◌, ◌+◌, ◌-◌, ap, sym, ◌∙◌, ℕ, true, false, List, [], ◌∷◌, drop, get_or, map, Option, Some, is_some, arith, BTreeMap, get_by, Bor, slice_cmp, nat_cmp, drop_more, btree_map_updates_str, is_one_of}
use Rattle.smithy_binding.proofs.DistinctNames.{later-more, distinct-more, distinct-again, is_some-copied}
use Rattle.smithy_recovery.proofs.distinct.are_apart.Goals as goal

no_name : Bor (List ℕ)
no_name = record { ref_ptr = (0, 0); now = [] }

abbrev shown : List (Bor (List ℕ)) → List (List ℕ)
shown names = map (λ n. n.now) names

abbrev place_in : BTreeMap (Bor (List ℕ)) ℕ → List ℕ → Option ℕ
place_in m name = get_by (λ k. slice_cmp nat_cmp name k.now) m

pub returns-then-is_some : goal.returns-then-is_some
unfolding no_name
returns-then-is_some c =
    let j = c.loop-i.i - 1 in
    let n = get_or c.args.names.now j no_name in
    let next : j + 1 ≡ c.loop-i.i = omega (arith, c.loop-i-test.true) in
    let here : drop j c.args.names.now ≡ n ∷ drop (j + 1) c.args.names.now = drop_more c.args.names.now j no_name (omega (arith, c.loop-i-test.true, c.loop-i.invariant.within)) in
    let texts : shown (drop j c.args.names.now) ≡ n.now ∷ shown (drop c.loop-i.i c.args.names.now) = ap shown (rw next at here) in
    let again : is_one_of n.now (shown (drop c.loop-i.i c.args.names.now)) ≡ true =
    sym (c.loop-i.invariant.later n.now) ∙ sym (ap is_some c.get.ensures.value) ∙ is_some-copied c.get.result ∙ sym c.is_some.ensures ∙ c.if-is_some.true in
    distinct-again (λ (x : Bor (List ℕ)). x.now) c.args.names.now j n.now (shown (drop c.loop-i.i c.args.names.now)) texts again

pub loop-i-preserved : goal.loop-i-preserved
unfolding no_name
loop-i-preserved c =
    let j = c.loop-i.i - 1 in
    let n = get_or c.args.names.now j no_name in
    let next : j + 1 ≡ c.loop-i.i = omega (arith, c.loop-i-test.true) in
    let here : drop j c.args.names.now ≡ n ∷ drop (j + 1) c.args.names.now = drop_more c.args.names.now j no_name (omega (arith, c.loop-i-test.true, c.loop-i.invariant.within)) in
    let rest = shown (drop c.loop-i.i c.args.names.now) in
    let texts : shown (drop j c.args.names.now) ≡ n.now ∷ rest = ap shown (rw next at here) in
    let new : is_one_of n.now rest ≡ false =
    sym (c.loop-i.invariant.later n.now) ∙ sym (ap is_some c.get.ensures.value) ∙ is_some-copied c.get.result ∙ sym c.is_some.ensures ∙ c.if-is_some.false in
    record {
      within = omega (arith, c.loop-i.invariant.within);
      later = λ q. rw texts
          (later-more rest n.now j (place_in c.loop-i.later) (place_in c.insert.new.self) c.loop-i.invariant.later (btree_map_updates_str n.now c.loop-i.later c.insert.new.self (Some j) c.in_ok-insert.ensures.updates) q);
      distinct = rw texts (distinct-more rest n.now new c.loop-i.invariant.distinct);
    }
