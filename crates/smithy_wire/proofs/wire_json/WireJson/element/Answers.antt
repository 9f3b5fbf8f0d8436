use Rattle.smithy_wire.specs.views.FormView.{form_view}
use Rattle.smithy_wire.proofs.KnownLemmas.{element_known_as}
use Rattle.smithy_wire.proofs.StandLemmas.{element_stands_as}
use Rattle.smithy_wire.proofs.wire_json.WireJson.element.Goals as goal

pub invariant_of-result : goal.invariant_of-result
invariant_of-result c = record {
  stand = element_stands_as c.args.self.style.json_names (form_view c.args.self.form) (form_view c.element.result) c.element.ensures c.args.self.stand;
  known = element_known_as c.args.self.names (form_view c.args.self.form) (form_view c.element.result) c.element.ensures c.args.self.known;
}
