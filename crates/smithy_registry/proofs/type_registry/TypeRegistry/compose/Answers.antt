use Rattle.std.proofs.Common.{◌∙◌, sym, ap, subst, refl}
use Rattle.smithy_types.specs.Maps.{IsOrdered}
use Rattle.smithy_types.proofs.MapLemmas.{IsOrdered-pairs_of}
use Rattle.smithy_registry.specs.Registries.{by_name, composed}
use Rattle.smithy_registry.specs.views.Kept.{entries_kept, AreNames}
use Rattle.smithy_registry.proofs.UnionLemmas.{union}
use Rattle.smithy_registry.proofs.type_registry.TypeRegistry.compose.Goals as goal

pub loop-name-init : goal.loop-name-init
loop-name-init g c = (subst (λ es. AreNames (entries_kept es)) (sym c.into_iter-name-iterator.ensures.into_iter_gives.0) c.other.invariant.shapes, refl)

pub put-requires : goal.put-requires
put-requires g c = (subst (λ es. AreNames (entries_kept es)) c.in-Some.ensures.steps c.loop-name.invariant.0).0

pub loop-name-preserved : goal.loop-name-preserved
loop-name-preserved g c =
    let names = subst (λ es. AreNames (entries_kept es)) c.in-Some.ensures.steps c.loop-name.invariant.0 in
    let put = ap (λ w. composed w (entries_kept c.next.new.self)) c.in_ok-put.ensures.ok in
    (names.1, put ∙ ap (λ es. composed c.loop-name.whole (entries_kept es)) (sym c.in-Some.ensures.steps) ∙ c.loop-name.invariant.1)

pub returns-clause-value : goal.returns-clause-value
returns-clause-value g c =
    ap (λ es. composed c.loop-name.whole (entries_kept es)) (sym c.in-None.ensures.steps.0)
    ∙ c.loop-name.invariant.1
    ∙ ap (composed c.args.self) (ap entries_kept c.into_iter-name-iterator.ensures.into_iter_gives.0 ∙ c.other.view_is)

pub returns-clause-union : goal.returns-clause-union
returns-clause-union g c =
    let ordered = subst (λ es. IsOrdered es) c.other.view_is (IsOrdered-pairs_of (λ x. x) c.other.inside.entries.entries c.into_iter-name-iterator.ensures.into_iter_gives.5) in
    λ name. ap (by_name name) (returns-clause-value g c) ∙ union name c.args.self c.args.other ordered
