use Rattle.std.proofs.Common.{List, subst, sym, ap, ◌∙◌}
use Rattle.smithy_serde.specs.declared.value.OneWrite.{OneWrite}
use Rattle.smithy_serde.specs.StoredValues.{listed, AreListedDefined}
use Rattle.smithy_serde.proofs.StoredLemmas.{writes_listed, AreDefined-listed}
use Rattle.smithy_serde.proofs.value.WriteList.iter.Goals as goal

pub returns-clause-writes : goal.returns-clause-writes
returns-clause-writes c = λ t. writes_listed t c.args.self.now ∙ ap (listed t) (sym c.as_slice.ensures.value)

pub returns-clause-defined : goal.returns-clause-defined
returns-clause-defined c = λ t h. subst (λ (ws : List OneWrite). AreListedDefined t ws) (sym c.as_slice.ensures.value) (AreDefined-listed t c.args.self.now h)
