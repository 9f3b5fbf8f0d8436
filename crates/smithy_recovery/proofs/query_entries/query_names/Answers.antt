use Rattle.std.proofs.Common.{ap, ◌∙◌, ◌||◌, cond, ℕ, List, Option, Some, bytes_eq, string_bytes}
use Rattle.std.specs.BTreeMap.{get_by_text}
use Rattle.std.proofs.lemmas.Map.Text.{btree_map_updates_text}
use Rattle.smithy_types.specs.Texts.{is_one_of}
use Rattle.smithy_schema.specs.References.{schema_of}
use Rattle.smithy_binding.proofs.MapEntries.{names-put, names-skip}
use Rattle.smithy_recovery.specs.views.KeptQueries.{QueryNames, is_named}
use Rattle.smithy_recovery.proofs.query_entries.query_names.Goals.{in-Some+in_ok-key+in_ok-insert, in_default}
use Rattle.smithy_recovery.proofs.query_entries.query_names.Goals as goal

abbrev position_in : QueryNames → List ℕ → Option ℕ
position_in names name = get_by_text names name

pub loop-position-preserved : goal.loop-position-preserved
unfolding is_named
loop-position-preserved c name =
    let schema = schema_of c.args.schema in
    let i = c.loop-position.position in
    let before = position_in c.loop-position.names in
    elim c.match-query_name_at.branch [
      | in-Some+in_ok-key+in_ok-insert w ↦ rw w.names-is
          (names-put schema i w.in-Some.name.now i before (position_in w.insert.new.self) w.in-Some.ensures
          (λ q. btree_map_updates_text (string_bytes w.in_ok-key.key) c.loop-position.names w.insert.new.self (Some i) w.in_ok-insert.ensures.updates q
          ∙ ap (λ n. cond (bytes_eq n q) (Some i) (before q)) w.in_ok-key.ensures.ok) name
          ∙ c.loop-position.invariant name)
      | in_default w ↦ rw w.names-is (ap (λ (ns : List (List ℕ)). is_named c.loop-position.names name || is_one_of name ns) (names-skip schema i w.in_default.ensures) ∙ c.loop-position.invariant name)
    ]
