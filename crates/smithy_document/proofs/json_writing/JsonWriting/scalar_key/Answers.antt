use Rattle.std.proofs.Common.{sym, ap, ◌∙◌}
use Rattle.smithy_types.specs.Documents as doc
use Rattle.smithy_serde.specs.DocumentOf.{scalar_document as document_of}
use Rattle.smithy_serde.specs.Writing.{scalar_of}
use Rattle.smithy_document.proofs.json_writing.JsonWriting.scalar_key.Goals as goal

pub returns-in_ok-key-in-BigInteger-clause-keyed : goal.returns-in_ok-key-in-BigInteger-clause-keyed
returns-in_ok-key-in-BigInteger-clause-keyed c =
    (c.as_str.result.now, ap (λ x. document_of (scalar_of x)) c.in-BigInteger.is ∙ ap doc.string (sym c.as_str.ensures.text), c.in_ok-key-in-BigInteger.ensures.keyed)

pub returns-in_ok-key-in-BigDecimal-clause-keyed : goal.returns-in_ok-key-in-BigDecimal-clause-keyed
returns-in_ok-key-in-BigDecimal-clause-keyed c =
    (c.as_str-in-BigDecimal.result.now, ap (λ x. document_of (scalar_of x)) c.in-BigDecimal.is ∙ ap doc.string (sym c.as_str-in-BigDecimal.ensures.text), c.in_ok-key-in-BigDecimal.ensures.keyed)

pub returns-in_ok-key-in-String-clause-keyed : goal.returns-in_ok-key-in-String-clause-keyed
returns-in_ok-key-in-String-clause-keyed c = (c.in-String.value.now, ap (λ x. document_of (scalar_of x)) c.in-String.is, c.in_ok-key-in-String.ensures.keyed)
