use Rattle.std.proofs.Common.{Some, string_bytes, option_map, sym, ap, ◌∙◌}
use Rattle.std.specs.List.{slice_get}
use Rattle.std.proofs.lemmas.Iterator.Consumers.{nth_from_yields_List}
use Rattle.smithy_types.specs.declared.document.Members.{out-Members}
use Rattle.smithy_types.proofs.Lookups.{yields_shown, key_at_place, list_of_members_view}
use Rattle.smithy_types.proofs.document.Members.key_at.Goals as goal

pub returns-in-Some : goal.returns-in-Some
returns-in-Some c =
    ap Some c.as_str.ensures.value
    ∙ ap (option_map (λ k. string_bytes k.now)) (sym c.in-Some.is)
    ∙ key_at_place (out-Members c.args.self.now).entries.entries c.args.place c.nth.result
    (nth_from_yields_List c.nth.result _ c.args.place c.nth.ensures.ran (yields_shown c.keys.result) ∙ ap (λ ks. slice_get ks c.args.place) c.keys.ensures.rest)
    ∙ ap (λ ms. option_map (λ m. m.0) (slice_get ms c.args.place)) (sym (list_of_members_view c.args.self.now))

pub returns-in-None : goal.returns-in-None
returns-in-None c =
    ap (option_map (λ k. string_bytes k.now)) (sym c.in-None.is)
    ∙ key_at_place (out-Members c.args.self.now).entries.entries c.args.place c.nth.result
    (nth_from_yields_List c.nth.result _ c.args.place c.nth.ensures.ran (yields_shown c.keys.result) ∙ ap (λ ks. slice_get ks c.args.place) c.keys.ensures.rest)
    ∙ ap (λ ms. option_map (λ m. m.0) (slice_get ms c.args.place)) (sym (list_of_members_view c.args.self.now))
