use Rattle.std.proofs.Common.{option_map, sym, ap, ◌∙◌}
use Rattle.std.specs.List.{slice_get}
use Rattle.std.proofs.lemmas.Iterator.Consumers.{nth_from_yields_List}
use Rattle.smithy_types.specs.declared.document.Members.{out-Members}
use Rattle.smithy_types.proofs.Lookups.{yields_shown, value_at_place, list_of_members_view}
use Rattle.smithy_types.proofs.document.Members.value_at.Goals as goal

pub returns : goal.returns
returns c =
    value_at_place (out-Members c.args.self.now).entries.entries c.args.place c.nth.result
    (nth_from_yields_List c.nth.result _ c.args.place c.nth.ensures.ran (yields_shown c.values.result) ∙ ap (λ vs. slice_get vs c.args.place) c.values.ensures.rest)
    ∙ ap (λ ms. option_map (λ m. m.1) (slice_get ms c.args.place)) (sym (list_of_members_view c.args.self.now))
