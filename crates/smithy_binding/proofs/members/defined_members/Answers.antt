use Rattle.smithy_binding.proofs.Common.{◌≡◌, ◌<◌, ◌+◌, List, ap, sym, ◌∙◌, ◌++◌, [], ◌∷◌, append_assoc, length, get_or, arith, map-append, length-map, Schema, schema_of, shown}
use Rattle.std.proofs.lemmas.Option.{slice_get-get_or}
use Rattle.smithy_binding.proofs.MemberSteps.{members_from, member-here, member-hole}
use Rattle.smithy_binding.proofs.members.defined_members.Goals as goal

pub returns-in_default : goal.returns-in_default
returns-in_default c =
    let schema = schema_of c.args.schema in
    let i = c.loop-position.position in
    let same : length c.members-position-end.result.now ≡ length schema.node.members = sym (length-map c.members-position-end.result.now _) ∙ ap length c.members-position-end.ensures.places in
    let within : i < length schema.node.members = omega (arith, same, c.loop-position-test.true) in
    sym c.loop-position.invariant.defined ∙ member-hole schema i (get_or schema.node.members i 0) (slice_get-get_or schema.node.members i 0 within) (sym c.in_default.ensures.node)

pub loop-position-preserved : goal.loop-position-preserved
loop-position-preserved c =
    let schema = schema_of c.args.schema in
    let i = c.loop-position.position in
    let m = schema_of c.in-Some.member in
    let here = member-here schema i m (sym c.in-Some.ensures.node) in
    record {
      members = rw (c.in_ok-push.ensures.items, map-append schema_of c.loop-position.members.items (c.in-Some.member ∷ []))
          (append_assoc (shown c.loop-position.members.items) (m ∷ []) (members_from schema (i + 1)) ∙ ap (λ (ms : List Schema). shown c.loop-position.members.items ++ ms) (sym here.0) ∙ c.loop-position.invariant.members);
      defined = sym here.1 ∙ c.loop-position.invariant.defined;
    }
