use Rattle.std.proofs.Common.{append-nil}
use Rattle.smithy_document.proofs.Common.{◌≡◌, [], Some, option_and_then, sym, ap, ◌∙◌, of_data, node_view}
use Rattle.smithy_document.proofs.json_tree_reading.tree_of_text.Goals as goal

pub returns : goal.returns
returns c =
    let found = c.in_ok-root.ensures.is in
    let seen : node_view c.node_of.new.texts c.in_ok-root.root ≡ found.0 = ap (λ ts. node_view ts c.in_ok-root.root) (sym (append-nil c.node_of.new.texts)) ∙ found.2 [] in
    ap (option_and_then of_data) c.in_ok-value.ensures.value ∙ found.1 ∙ ap Some (sym seen)
