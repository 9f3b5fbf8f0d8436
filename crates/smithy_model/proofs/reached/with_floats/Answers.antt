use Rattle.std.proofs.Common.{◌∙◌, sym, ap, subst, map}
use Rattle.std.specs.List.{list_all}
use Rattle.smithy_ids.specs.ShapeIds.{has_hash}
use Rattle.smithy_model.specs.Reached.{names_of}
use Rattle.smithy_model.specs.views.ModelView.{shape_view}
use Rattle.smithy_model.specs.views.NameView.{ArePositions}
use Rattle.smithy_model.proofs.FloatLemmas.{decimal_names, decimal_named}
use Rattle.smithy_model.proofs.reached.with_floats.Goals as goal

pub returns-in-Decimals-clause-whole : goal.returns-in-Decimals-clause-whole
returns-in-Decimals-clause-whole c =
    let all = map shape_view c.args.reached.shapes.items in
    record {
      located = subst (ArePositions c.args.reached.positions) (sym (ap names_of c.as_decimals.ensures ∙ decimal_names all)) c.requires.located;
      named = ap (list_all (λ s. has_hash s.name)) c.as_decimals.ensures ∙ decimal_named all ∙ c.requires.named;
    }
