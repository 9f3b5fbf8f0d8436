use Rattle.smithy_document.proofs.Common.{IsTrue, Some, Err, refl, sym, subst, schema_of, ReadScalar, Gives, Reads, scalar_of_read, read_at, is_read, tree_view}
use Rattle.smithy_serde.specs.Held as held
use Rattle.smithy_document.specs.views.JsonTree.{is_body_read}
use Rattle.smithy_document.proofs.HandLemmas.{read_gives, refused_read}
use Rattle.smithy_document.proofs.JsonHandLemmas.{over, over_none}
use Rattle.smithy_document.proofs.TreeLemmas.{path_read}
use Rattle.smithy_document.proofs.json_deserializer.JsonDeserializerShapeDeserializer.read.Goals as goal

pub read_node-requires : goal.read_node-requires
read_node-requires c =
    let whole : IsTrue (is_read (tree_view c.in-Ok.tree)) = subst (λ b. IsTrue (is_body_read b)) c.in-Ok.is c.args.self.now.read in
    subst (λ d. IsTrue (is_read d)) (sym c.node.ensures) (path_read (tree_view c.in-Ok.tree) c.args.self.now.cursor.spots.items whole)

pub returns-in-Ok-clause-reads : goal.returns-in-Ok-clause-reads
returns-in-Ok-clause-reads c =
    over (λ old new. Reads scalar_of_read c.args.kind (schema_of c.args._schema) old new c.read_node.result) c.args.self.now.tree c.in-Ok.tree c.args.self.now.cursor c.args.self.now.cursor c.in-Ok.is record {
      opened = refl;
      levels = refl;
      of_kind = c.read_node.ensures.of_kind;
      gives = subst (λ d. Gives scalar_of_read (read_at c.args.kind (schema_of c.args._schema) (Some (held.document d))) c.read_node.result) c.node.ensures
          (read_gives c.args.kind (schema_of c.args._schema) _ c.read_node.result c.read_node.ensures.gives);
    }

pub returns-in-Err-clause-reads : goal.returns-in-Err-clause-reads
returns-in-Err-clause-reads c =
    over_none (λ old new. Reads {A = ReadScalar} scalar_of_read c.args.kind (schema_of c.args._schema) old new (Err c.refused.result)) c.args.self.now.tree c.in-Err.text c.args.self.now.cursor c.args.self.now.cursor c.in-Err.is
    (refused_read c.args.kind (schema_of c.args._schema) c.in-Err.text c.refused.result c.refused.ensures)
