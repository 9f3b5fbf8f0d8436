use Rattle.std.proofs.Common.{sym, ap, ◌∙◌, Err}
use Rattle.smithy_types.specs.Documents.{is_canonical}
use Rattle.uses.proofs.RoundTripLemmas.{read_back, canonical_back}
use Rattle.uses.proofs.documents.structure_in.Goals as goal

pub returns-then-not-is_canonical : goal.returns-then-not-is_canonical
returns-then-not-is_canonical c = λ ws is.
    canonical_back c.args.reader ws c.args.document.now.document (Err c.invalid_input.result) c.documents_tell_normal_forms.ensures.canonical is
    (sym (c.is_canonical.ensures ∙ ap is_canonical c.document.ensures) ∙ c.if-not-is_canonical.true)

pub as_shape-requires : goal.as_shape-requires
as_shape-requires c = sym (c.is_canonical.ensures ∙ ap is_canonical c.document.ensures) ∙ c.if-not-is_canonical.false

pub returns : goal.returns
returns c = λ ws is. read_back c.args.reader ws c.args.document.now.document c.as_shape.result c.documents_are_read_back.ensures.structure is c.as_shape.ensures
