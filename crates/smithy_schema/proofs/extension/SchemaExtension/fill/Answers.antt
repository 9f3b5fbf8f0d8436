use Rattle.std.proofs.Common.{rules, ◌≡◌, true, false, None}
use Rattle.std.specs.Option.{is_some}
use Rattle.smithy_schema.specs.Nodes.{at_place}
use Rattle.smithy_schema.proofs.ColumnLemmas.{filled_already, empty_still}
use Rattle.smithy_schema.proofs.extension.SchemaExtension.fill.Goals as goal

pub returns-then-is_some-clause-filled : goal.returns-then-is_some-clause-filled
returns-then-is_some-clause-filled g c =
    let full : is_some c.peek.result ≡ true = search rules in
    filled_already g.F.Provider.gives c.args.self.now c.args.index.0 (λ t. t.now) c.peek.result c.peek.ensures.cell c.peek.ensures.given full

pub returns-in-None-clause-filled : goal.returns-in-None-clause-filled
returns-in-None-clause-filled g c =
    let bare : is_some c.peek.result ≡ false = search rules in
    let none : at_place c.args.self.now.table c.args.index.0 ≡ None = search rules in
    empty_still c.args.self.now c.args.index.0 (λ t. t.now) c.peek.result c.peek.ensures.cell bare none
