use Rattle.smithy_document.proofs.Common.{IsTrue, refl, sym, subst, is_none, option_copied, view, schema_of, is_canonical, Gives, scalar_of_read, read_at, then_some, spot_list, coercions, ReadsBy}
use Rattle.smithy_serde.specs.Held as held
use Rattle.smithy_document.proofs.HandLemmas.{read_by}
use Rattle.smithy_document.proofs.PathLemmas.{path_canonical}
use Rattle.smithy_document.proofs.deserializer.DocumentShapeDeserializerShapeDeserializer.read.Goals as goal

pub read_as-requires : goal.read_as-requires
read_as-requires g c = subst (λ d. IsTrue (is_canonical d)) (sym c.document.ensures) (path_canonical (view c.args.self.now.root.now) (spot_list c.args.self.now.cursor) c.args.self.now.canonical)

pub returns-clause-reads : goal.returns-clause-reads
returns-clause-reads g c =
    let settings = c.args.self.now.settings in
    record {
      opened = refl;
      levels = refl;
      of_kind = c.read_as.ensures.of_kind;
      gives = subst (λ d. Gives scalar_of_read (read_at c.args.kind (schema_of c.args._schema) (then_some (is_none settings) (held.document d))) c.read_as.result) c.document.ensures
          (read_by (λ s. s.now) (coercions g.S.DocumentSettings) settings c.args.kind (schema_of c.args._schema) _ c.read_as.result c.read_as.ensures.gives);
    }

pub returns-clause-by_settings : goal.returns-clause-by_settings
returns-clause-by_settings g c = subst (λ d. ReadsBy (coercions g.S.DocumentSettings) (option_copied c.args.self.now.settings) c.args.kind d c.read_as.result) c.document.ensures c.read_as.ensures.gives
