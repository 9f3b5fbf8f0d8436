use Rattle.smithy_binding.proofs.Common.{◌≡◌, ap, sym, ◌∙◌, Option, unwrap_or, option_map, Schema, directed_of, schema_of, no_label, label_at, label_of}
use Rattle.smithy_binding.specs.views.Resolving.{is_code_label}
use Rattle.smithy_binding.proofs.output.is_code.Goals as goal

pub returns : goal.returns
returns c =
    let label : label_at c.args.table.now c.args.node.0 ≡ label_of (schema_of c.in-Some.written) = ap (λ (o : Option Schema). unwrap_or (option_map label_of o) no_label) (sym c.in-Some.ensures.node) in
    c.is_for_code.ensures ∙ sym (ap (is_code_label (directed_of c.args.schema)) label)
