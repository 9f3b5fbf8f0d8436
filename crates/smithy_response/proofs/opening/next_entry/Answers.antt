use Rattle.smithy_response.proofs.Common.{Some, sym, ap, subst, ◌∙◌, err_from_is_err_and, prefix_at_hand}
use Rattle.smithy_response.specs.Openings.{IsAtEntries}
use Rattle.smithy_response.proofs.Containers.{halted, entry_advanced, map_closed}
use Rattle.smithy_response.proofs.opening.next_entry.Goals as goal

pub unreachable-requires : goal.unreachable-requires
unreachable-requires c = subst IsAtEntries c.in_default.is c.requires

pub returns-in_err-key : goal.returns-in_err-key
returns-in_err-key c =
    let p = err_from_is_err_and c.from_residual.result c.from_residual.ensures.1 in
    rw (p.1, p.2, c.in_err-key.ensures.err.1)
    (λ response ps. halted (prefix_at_hand response ps c.args.entries.now) (prefix_at_hand response ps (Some c.advance.new.self)) (ap (prefix_at_hand response ps) (ap (λ m. Some m) c.in_err-key.ensures.err.0 ∙ sym c.in-Some.is)))

pub returns-in-Some-2 : goal.returns-in-Some-2
returns-in-Some-2 c = λ response ps.
    let found = c.in_ok-key.ensures.key ∙ c.in-Some-2.is in
    let place = rw c.in-Some-2.is at c.in_ok-key.ensures.place in
    let entry = rw c.in-Some-2.is at c.in_ok-key.ensures.entry in
    rw c.in-Some.is (entry_advanced response ps c.in-Some.map (subst IsAtEntries c.in-Some.is c.requires) c.advance.new.self c.in-Some-2.key
    c.in_ok-key.ensures.keys.0 c.in_ok-key.ensures.keys.1 found place entry.0 entry.1)

pub returns : goal.returns
returns c = λ response ps.
    rw c.in-Some.is (map_closed response ps c.in-Some.map (subst IsAtEntries c.in-Some.is c.requires) (c.in_ok-key.ensures.key ∙ c.in_default-2.is))
