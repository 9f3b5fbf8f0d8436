use Rattle.std.proofs.Common.{rules, tests, ◌∙◌}
use Rattle.std.proofs.lemmas.Iterator.{YieldsList-from_slice}
use Rattle.std.proofs.lemmas.Iterator.Search.{any_from_yields_List}
use Rattle.smithy_schema.specs.Places.{places_of}
use Rattle.smithy_schema.specs.References.{schema_of}
use Rattle.smithy_recovery.specs.views.KeptBodies.{is_unbound_at}
use Rattle.smithy_recovery.proofs.BodyTold.{any_shown, any_unbound}
use Rattle.smithy_recovery.proofs.body_writes.has_unbound_member.Goals as goal

pub returns : goal.returns
returns c =
    let t = c.args.table.now in
    let places = c.members.result.now in
    any_unbound (schema_of c.args.schema) t (places_of places) _ c.requires c.members.ensures.places
    (any_from_yields_List (λ x. is_unbound_at t x.0) _ _ _ c.any.ensures.ran (YieldsList-from_slice places cc) (λ x b q k. search (rules, tests)) ∙ any_shown (is_unbound_at t) places)
