use Rattle.smithy_binding.proofs.Common.{ap, ◌∙◌, ◌||◌, ℕ, List, Option, Some, BTreeMap, get_by, Bor, slice_cmp, nat_cmp, btree_map_updates_str, is_one_of, directed_of, has_key}
use Rattle.smithy_binding.proofs.MapEntries.{names-put, names-skip}
use Rattle.smithy_binding.proofs.maps.query_names.Goals.{in-Some+in_ok-insert, in_default}
use Rattle.smithy_binding.proofs.maps.query_names.Goals as goal

abbrev position_in : BTreeMap (Bor (List ℕ)) ℕ → List ℕ → Option ℕ
position_in m name = get_by (λ k. slice_cmp nat_cmp name k.now) m

pub loop-position-preserved : goal.loop-position-preserved
unfolding has_key
loop-position-preserved c name =
    let schema = directed_of c.args.schema in
    let i = c.loop-position.position in
    elim c.match-query_name_at.branch [
      | in-Some+in_ok-insert w ↦ rw w.names-is
          (names-put schema i w.in-Some.name.now i (position_in c.loop-position.names) (position_in w.insert.new.self) w.in-Some.ensures
          (btree_map_updates_str w.in-Some.name.now c.loop-position.names w.insert.new.self (Some i) w.in_ok-insert.ensures.updates) name
          ∙ c.loop-position.invariant name)
      | in_default w ↦ rw w.names-is (ap (λ (ns : List (List ℕ)). has_key c.loop-position.names name || is_one_of name ns) (names-skip schema i w.in_default.ensures) ∙ c.loop-position.invariant name)
    ]
