use Rattle.std.proofs.Common.{ap, sym, subst, ◌∙◌}
use Rattle.std.specs.Prelude.{IsTrue}
use Rattle.std.proofs.lemmas.Bool.{and_parts}
use Rattle.smithy_schema.specs.References.{schema_of}
use Rattle.smithy_wire.specs.Forms.{body_form}
use Rattle.smithy_wire.specs.WireNames.{stands}
use Rattle.smithy_wire.specs.declared.side.Side.TheVariants as side
use Rattle.smithy_aws.proofs.ShapeLemmas.{same_node}
use Rattle.smithy_aws.proofs.response_shape.RestJson1Shape.wire.Goals as goal

pub of_body-requires-clause-stand : goal.of_body-requires-clause-stand
of_body-requires-clause-stand c = λ is.
    let s = c.args.self.now in
    subst (λ n. IsTrue (stands side.Response n)) (sym (same_node s.table.now s.shape.0 (schema_of c.in-Some.schema) s.has_node c.in-Some.ensures.node)) (and_parts _ _ s.taken).1

pub returns-clause-form : goal.returns-clause-form
returns-clause-form c =
    let s = c.args.self.now in
    c.of_body.ensures.form ∙ ap (body_form side.Response) (same_node s.table.now s.shape.0 (schema_of c.in-Some.schema) s.has_node c.in-Some.ensures.node)
