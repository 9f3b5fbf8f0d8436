use Rattle.smithy_response.proofs.Common.{◌≡◌, ◌∷◌, sym, ◌∙◌, rules, schema_of, values_named}
use Rattle.smithy_response.proofs.Takings.{header_taken}
use Rattle.smithy_response.proofs.taking.header_taken.Goals as goal

pub returns : goal.returns
returns c =
    let values : values_named c.args.name.now c.args.response.now.headers ≡ c.in-Some.first.now ∷ c.next.new.self = search rules in
    header_taken c.args.response.now (schema_of c.args.member) c.args.name.now c.in_ok-own.own c.in-Some.first.now c.next.new.self c.in_ok-name.name
    c.in_ok-name.ensures (c.in_ok-own.ensures ∙ c.name_in.ensures) values (sym c.has_nothing.ensures ∙ c.if-has_nothing.false)
