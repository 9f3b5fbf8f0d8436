use Rattle.std.proofs.Common.{◌≡◌, ◌∙◌, sym, ap, subst, length, ◌++◌, ◌∷◌, []}
use Rattle.std.proofs.lemmas.List.{map-append, length-map}
use Rattle.smithy_model.specs.views.NameView.{texts, ArePositions}
use Rattle.smithy_model.proofs.ReachedLemmas.{positions_more}
use Rattle.smithy_model.proofs.reached.add.Goals as goal

pub returns-clause-names : goal.returns-clause-names
returns-clause-names c = ap texts c.in_ok-push.ensures.items ∙ map-append (λ t. t.now) c.args.names.now.items _

pub returns-clause-positions : goal.returns-clause-positions
returns-clause-positions c =
    let same : texts c.push.new.self.items ≡ texts c.args.names.now.items ++ c.args.name.now ∷ [] = ap texts c.in_ok-push.ensures.items ∙ map-append (λ t. t.now) c.args.names.now.items _ in
    let position = ap length c.as_slice-position.ensures.value ∙ sym (length-map c.args.names.now.items (λ t. t.now)) in
    subst (ArePositions c.insert.new.self) (sym same) (positions_more (texts c.args.names.now.items) c.args.name.now _ c.args.positions.now c.insert.new.self position c.requires.absent c.in_ok-insert.ensures.updates c.requires.positions)
