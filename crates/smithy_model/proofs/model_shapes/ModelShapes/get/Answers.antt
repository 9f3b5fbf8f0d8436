use Rattle.std.proofs.Common.{rules, Ok, Err, nat_cmp}
use Rattle.std.specs.Cmp.Lexicographic.{slice_cmp}
use Rattle.std.proofs.lemmas.Fn.{always_returns_same}
use Rattle.smithy_model.proofs.NameOrder.{searched}
use Rattle.smithy_model.proofs.model_shapes.ModelShapes.get.Goals as goal

pub returns-in-Ok : goal.returns-in-Ok
returns-in-Ok c =
    let name = c.args.name.now in
    let by_name = c.in-Ok.ensures.position (λ m. slice_cmp nat_cmp m.0.now name) (always_returns_same _ _ _ (λ a r f called. (search rules, search rules))) in
    searched c.args.self.now.members.now name (Ok c.in-Ok.position) (c.args.self.now.ordered c.if-not-self.false) c.in-Ok.ensures.bound by_name c.index-self-position.result

pub returns-in-Err : goal.returns-in-Err
returns-in-Err c =
    let name = c.args.name.now in
    let by_name = c.in-Err.ensures.position (λ m. slice_cmp nat_cmp m.0.now name) (always_returns_same _ _ _ (λ a r f called. (search rules, search rules))) in
    searched c.args.self.now.members.now name (Err c.in-Err.field-0) (c.args.self.now.ordered c.if-not-self.false) c.in-Err.ensures.bound by_name
