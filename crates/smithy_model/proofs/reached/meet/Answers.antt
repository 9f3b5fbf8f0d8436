use Rattle.std.proofs.Common.{◌≡◌, ◌∙◌, subst, OnOk}
use Rattle.smithy_model.specs.views.NameView.{texts}
use Rattle.smithy_model.proofs.ReachedLemmas.{met_already, absent, met_now}
use Rattle.smithy_model.proofs.reached.meet.Goals as goal

pub add-requires-clause-absent : goal.add-requires-clause-absent
add-requires-clause-absent c = absent (texts c.args.names.now.items) c.args.name.now (c.in-None.ensures.value ∙ c.requires c.args.name.now)

pub returns-in-Some-clause-names : goal.returns-in-Some-clause-names
returns-in-Some-clause-names c = met_already (texts c.args.names.now.items) c.args.name.now _ (c.in-Some.ensures.value ∙ c.requires c.args.name.now)

pub returns-in-None-clause-names : goal.returns-in-None-clause-names
returns-in-None-clause-names c =
    let apart = absent (texts c.args.names.now.items) c.args.name.now (c.in-None.ensures.value ∙ c.requires c.args.name.now) in
    subst (λ ns. OnOk c.add.result (texts c.add.new.names.items ≡ ns)) (met_now (texts c.args.names.now.items) c.args.name.now apart) c.add.ensures.names
