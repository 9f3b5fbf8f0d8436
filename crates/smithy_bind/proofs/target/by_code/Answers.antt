use Rattle.smithy_model.specs.Nodes.{Errors}
use Rattle.smithy_job.specs.ReceivedView.{IsCoded}
use Rattle.smithy_bind.specs.Responding.{error_of}
use Rattle.smithy_bind.proofs.ReadLemmas.{found_stands}
use Rattle.smithy_bind.proofs.ReplyLemmas.{found_by, none_by}
use Rattle.smithy_bind.proofs.target.by_code.Goals as goal

pub by_schema-requires : goal.by_schema-requires
by_schema-requires c =
    let errors : Errors = record { operation = c.requires.operation.0; service = c.requires.service.0 } in
    let coded : IsCoded c.args.table.now c.args.error.now errors = record { operation = c.requires.operation.1; service = c.requires.service.1 } in
    found_stands c.args.table.now (error_of c.args.error.now.code.now errors) c.in-Some.place (rw (← c.in-Some.is) (c.in_ok-place.ensures errors coded))

pub returns-in-Some : goal.returns-in-Some
returns-in-Some c = λ errors coded.
    found_by c.args.table.now c.args.error.now.code.now (error_of c.args.error.now.code.now errors) c.in-Some.place c.by_schema.result (rw (← c.in-Some.is) (c.in_ok-place.ensures errors coded)) c.by_schema.ensures

pub returns-in-None : goal.returns-in-None
returns-in-None c = λ errors coded. none_by c.args.table.now c.args.error.now (error_of c.args.error.now.code.now errors) (rw (← c.in-None.is) (c.in_ok-place.ensures errors coded))
