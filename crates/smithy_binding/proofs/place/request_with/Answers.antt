use Rattle.smithy_binding.proofs.Common.{rules, ◌≡◌, Some, string_bytes, legal_fault, TellsFault}
use Rattle.smithy_binding.proofs.Ends.{request-fault}
use Rattle.smithy_binding.proofs.Refusals.{TellsFault-then}
use Rattle.smithy_binding.proofs.place.request_with.Goals as goal

pub returns-in-Err-Target : goal.returns-in-Err-Target
returns-in-Err-Target c =
    let told : TellsFault c.not_legal.result (λ f. legal_fault (string_bytes c.args.target) ≡ Some f) = search rules in
    TellsFault-then c.not_legal.result _ _ (λ f e. request-fault c.args.method.now (string_bytes c.args.target) c.args.headers c.args.body f e) told
