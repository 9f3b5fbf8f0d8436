use Rattle.smithy_document.proofs.Common.{ap, ◌∙◌, [], Option, option_map_or, seen_at, text_at, node_view, Part}
use Rattle.smithy_document.proofs.NodeLemmas.{name_seen, no_name, object_parts}
use Rattle.smithy_document.proofs.json_tree.JsonTree.part_name.Goals as goal

pub returns-in-Array : goal.returns-in-Array
returns-in-Array c = no_name _ _ _ _ c.in-Array.is

pub returns-in-Some : goal.returns-in-Some
returns-in-Some c =
    let texts = c.args.self.now.texts in
    let found = rw (c.in-Some.is, c.deref.ensures.value) at (seen_at {Y = Part} (λ f. (text_at texts f.0, node_view texts f.1)) c.deref.result.now c.args.position c.get.result c.get.ensures.lookup) in
    c.get-in-Some.ensures ∙ ap (λ (o : Option Part). option_map_or (λ p. p.0) o []) found ∙ name_seen _ _ _ c.args.position (object_parts texts _ _ c.in-Object.is)

pub returns-in-None : goal.returns-in-None
returns-in-None c =
    let texts = c.args.self.now.texts in
    let found = rw (c.in-None.is, c.deref.ensures.value) at (seen_at {Y = Part} (λ f. (text_at texts f.0, node_view texts f.1)) c.deref.result.now c.args.position c.get.result c.get.ensures.lookup) in
    ap (λ (o : Option Part). option_map_or (λ p. p.0) o []) found ∙ name_seen _ _ _ c.args.position (object_parts texts _ _ c.in-Object.is)
