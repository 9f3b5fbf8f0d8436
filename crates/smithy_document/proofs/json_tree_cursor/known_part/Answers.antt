use Rattle.smithy_document.proofs.Common.{◌<◌, ◌≤◌, List, ℕ, length, subst, arith, schema_of, node_view, parts_of}
use Rattle.smithy_document.proofs.TreeLemmas.{passed_over, found_known, none_known}
use Rattle.smithy_document.proofs.json_tree_cursor.known_part.Goals as goal

pub returns-in-Some : goal.returns-in-Some
returns-in-Some c =
    let texts : List (List ℕ) = c.args.tree.now.texts in
    let d = node_view texts c.args.container.now in
    let within : c.parts.position < length (parts_of d) = subst (λ n. c.parts.position < n) (c.part_count-count.ensures texts) c.parts-test.true in
    found_known (schema_of c.args.schema) (schema_of c.in-Some.member) d c.args.from c.parts.position c.part_name-name.result.now within c.parts.invariant.0 c.part_name-name.ensures c.in-Some.ensures c.parts.invariant.1

pub parts-preserved : goal.parts-preserved
parts-preserved c =
    let texts : List (List ℕ) = c.args.tree.now.texts in
    let d = node_view texts c.args.container.now in
    let within : c.parts.position < length (parts_of d) = subst (λ n. c.parts.position < n) (c.part_count-count.ensures texts) c.parts-test.true in
    let later : c.args.from ≤ c.parts.position = c.parts.invariant.0 in
    (omega arith, passed_over (schema_of c.args.schema) d c.args.from c.parts.position c.part_name-name.result.now within c.part_name-name.ensures c.in_default.ensures c.parts.invariant.1)

pub returns : goal.returns
returns c =
    let texts : List (List ℕ) = c.args.tree.now.texts in
    let d = node_view texts c.args.container.now in
    none_known (schema_of c.args.schema) d c.args.from c.parts.position (subst (λ n. n ≤ c.parts.position) (c.part_count-count.ensures texts) c.parts-test.false) c.parts.invariant.1
