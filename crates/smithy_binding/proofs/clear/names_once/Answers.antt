use Rattle.smithy_binding.proofs.Common.{◌≡◌, ap, ◌∙◌, ℕ, ◌+◌, Bool, false, List, [], ◌∷◌, ◌++◌, map, take, cond, Option, Some, is_none, get_or, BTreeMap, get_by, Bor, slice_cmp, nat_cmp, bytes_eq, take_more, map-append, btree_map_updates_str, CutHole, hole_shown}
use Rattle.smithy_binding.proofs.ClearLemmas.{marks-more, is_none-copied}
use Rattle.smithy_binding.proofs.clear.names_once.Goals as goal

no_hole : CutHole
no_hole = record { literal = record { ref_ptr = (0, 0); now = [] }; name = record { ref_ptr = (0, 0); now = [] }; is_greedy = false }

abbrev mark_in : BTreeMap (Bor (List ℕ)) Bool → List ℕ → Option Bool
mark_in m name = get_by (λ k. slice_cmp nat_cmp name k.now) m

pub loop-hole-preserved : goal.loop-hole-preserved
unfolding no_hole
loop-hole-preserved c name =
    let i = c.loop-hole.hole-index in
    let h = get_or c.args.holes.now i no_hole in
    let taken : take (i + 1) c.args.holes.now ≡ take i c.args.holes.now ++ h ∷ [] = take_more c.args.holes.now i no_hole c.loop-hole-test.true in
    let first : c.is_none-is_first.result ≡ is_none (mark_in c.loop-hole.once h.name.now) = is_none-copied c.get.result c.is_none-is_first.result c.is_none-is_first.ensures ∙ ap is_none c.get.ensures.value in
    let next : (q : List ℕ) → mark_in c.insert.new.self q ≡ cond (bytes_eq h.name.now q) (Some (is_none (mark_in c.loop-hole.once h.name.now))) (mark_in c.loop-hole.once q) =
    λ q. btree_map_updates_str h.name.now c.loop-hole.once c.insert.new.self (Some c.is_none-is_first.result) c.in_ok-insert.ensures.updates q
    ∙ ap (λ b. cond (bytes_eq h.name.now q) (Some b) (mark_in c.loop-hole.once q)) first in
    rw (taken, map-append hole_shown (take i c.args.holes.now) (h ∷ []))
    (marks-more (map hole_shown (take i c.args.holes.now)) (hole_shown h) (mark_in c.loop-hole.once) (mark_in c.insert.new.self) c.loop-hole.invariant next name)
