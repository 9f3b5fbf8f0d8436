use Rattle.std.proofs.Common.{is_some, sym, ap}
use Rattle.std.specs.Option.{option_map_or}
use Rattle.smithy_json.specs.views.JsonView.{view}
use Rattle.smithy_schema.specs.DescribedTraits.{traits_described}
use Rattle.smithy_model.specs.Traits.{fields, with_trait, is_named_trait}
use Rattle.smithy_model.proofs.NameLemmas.{none_named}
use Rattle.smithy_model.proofs.traits.add_trait.Goals as goal

pub returns-in_default-clause-added : goal.returns-in_default-clause-added
unfolding with_trait
returns-in_default-clause-added c =
    let before = traits_described c.args.traits.now in
    sym (ap (λ o. option_map_or (λ field. field.1 (view c.args.value.now) before) o before) (none_named fields c.args.id.now (c.in_default.not-text, (c.in_default.not-text-2, (c.in_default.not-text-3, (c.in_default.not-text-4, (c.in_default.not-text-5, (c.in_default.not-text-6, (c.in_default.not-text-7, (c.in_default.not-text-8, (c.in_default.not-text-9, (c.in_default.not-text-10, (c.in_default.not-text-11, (c.in_default.not-text-12, (c.in_default.not-text-13, (c.in_default.not-text-14, (c.in_default.not-text-15, (c.in_default.not-text-16, (c.in_default.not-text-17, (c.in_default.not-text-18, (c.in_default.not-text-19, tt)))))))))))))))))))))

pub returns-in_default-clause-named : goal.returns-in_default-clause-named
unfolding is_named_trait
returns-in_default-clause-named c = sym (ap is_some (none_named fields c.args.id.now (c.in_default.not-text, (c.in_default.not-text-2, (c.in_default.not-text-3, (c.in_default.not-text-4, (c.in_default.not-text-5, (c.in_default.not-text-6, (c.in_default.not-text-7, (c.in_default.not-text-8, (c.in_default.not-text-9, (c.in_default.not-text-10, (c.in_default.not-text-11, (c.in_default.not-text-12, (c.in_default.not-text-13, (c.in_default.not-text-14, (c.in_default.not-text-15, (c.in_default.not-text-16, (c.in_default.not-text-17, (c.in_default.not-text-18, (c.in_default.not-text-19, tt)))))))))))))))))))))
