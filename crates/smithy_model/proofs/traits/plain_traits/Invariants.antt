use Rattle.std.proofs.Common.{◌≡◌, ◌&&◌, drop}
use Rattle.std.specs.List.{list_all}
use Rattle.smithy_json.specs.views.JsonView.{entries}
use Rattle.smithy_schema.specs.Nodes.{no_traits}
use Rattle.smithy_schema.specs.DescribedTraits.{traits_described}
use Rattle.smithy_model.specs.Traits.{is_fit_trait, is_named_trait, with_traits}
use Rattle.smithy_model.proofs.traits.plain_traits.Given as goal

abbrev pub invariant-loop-member : goal.invariant-loop-member
invariant-loop-member l = record {
  fit : list_all is_fit_trait (entries (drop l.member-index l.members)) ≡ list_all is_fit_trait (entries l.members);
  traits : with_traits (traits_described l.traits) (entries (drop l.member-index l.members)) ≡ with_traits no_traits (entries l.members);
  named : (l.are_named && list_all (λ e. is_named_trait e.0) (entries (drop l.member-index l.members))) ≡ list_all (λ e. is_named_trait e.0) (entries l.members);
}
