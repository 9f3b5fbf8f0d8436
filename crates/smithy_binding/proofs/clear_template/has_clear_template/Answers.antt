use Rattle.smithy_binding.proofs.Common.{rules, ◌≡◌, ap, sym, ◌∙◌, true, false, is_some, ◌||◌, schema_of, has_named_members, is_clear, template_of, shown, is_clear_among}
use Rattle.smithy_binding.proofs.CheckingLemmas.{named-checked, is_clear-among}
use Rattle.smithy_binding.proofs.clear_template.has_clear_template.Goals as goal

pub unreachable-requires : goal.unreachable-requires
unreachable-requires c =
    let none : has_named_members (schema_of c.args.schema) ≡ false = rw c.in_default.is at c.in_ok-members.ensures in
    let q : true ≡ false = sym (named-checked (schema_of c.args.schema) c.requires) ∙ none in
    cc q

pub returns : goal.returns
returns c =
    let schema = schema_of c.args.schema in
    let known = rw c.in-Some.is at c.in_ok-members.ensures in
    let listed = ap shown c.as_slice.ensures.value ∙ known.1 in
    let template = template_of schema c.args.endpoint.now in
    let clear : c.in_ok-is_clear_among.field-0 ≡ is_clear template schema =
    c.in_ok-is_clear_among.ensures ∙ (λ i. is_clear_among (c.uri_template-template.ensures i) (listed i)) ∙ sym (is_clear-among schema template) in
    let plain : is_some schema.node.traits.http ≡ false = search rules in
    clear ∙ ap (λ b. b || is_clear template schema) (sym plain)
