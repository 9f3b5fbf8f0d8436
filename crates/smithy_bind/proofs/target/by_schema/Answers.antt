use Rattle.std.proofs.Common.{◌≡◌, true, false, rules}
use Rattle.smithy_schema.specs.References.{schema_of}
use Rattle.smithy_binding.specs.CheckedOutput.{checked_output}
use Rattle.smithy_bind.proofs.ReplyLemmas.{checked_by, unchecked_by}
use Rattle.smithy_bind.proofs.target.by_schema.Goals as goal

pub returns-then-not-branch : goal.returns-then-not-branch
returns-then-not-branch c =
    let unchecked : checked_output (schema_of c.in-Some.schema) ≡ false = search rules in
    unchecked_by c.args.table.now c.args.place c.args.is_error c.args.is_coded (schema_of c.in-Some.schema) c.in-Some.ensures.node unchecked

pub returns : goal.returns
returns c =
    let checked : checked_output (schema_of c.in-Some.schema) ≡ true = search rules in
    checked_by c.args.table.now c.args.place c.args.is_error c.args.is_coded (schema_of c.in-Some.schema) c.in-Some.ensures.node checked
