use Rattle.smithy_binding.proofs.Common.{◌≡◌, ap, sym, ◌∙◌, Option, Some, option_map, unwrap_or, on_ok_weaker, Schema, directed_of, schema_of, no_label, label_at, value_in, Write, label_of, gathered_of, kept_in, has_placed_kind, finds}
use Rattle.smithy_binding.proofs.KeptSteps.{kept-one}
use Rattle.smithy_binding.proofs.NameSteps.{names-one}
use Rattle.smithy_binding.proofs.Refusals.{IfErr-then}
use Rattle.smithy_binding.proofs.WriteSteps.{member-passes, found-member, gather_one-at}
use Rattle.smithy_binding.proofs.placement.add_write.Goals as goal

pub add_resolved-requires-clause-kind : goal.add_resolved-requires-clause-kind
add_resolved-requires-clause-kind g c =
    let schema = directed_of c.args.schema in
    let m = directed_of c.in-Some-resolve.member in
    member-passes has_placed_kind schema c.in-Some-resolve.position m c.requires.kinds (found-member schema (label_of (schema_of c.in-Some.written)) c.in-Some-resolve.position m (sym c.in-Some-resolve.ensures.found))

pub returns-clause-added : goal.returns-clause-added
returns-clause-added g c =
    let schema = directed_of c.args.schema in
    let t = c.args.table.now in
    let i = c.in-Some-resolve.position in
    let m = directed_of c.in-Some-resolve.member in
    let label : label_at t c.args.node.0 ≡ label_of (schema_of c.in-Some.written) = ap (λ (o : Option Schema). unwrap_or (option_map label_of o) no_label) (sym c.in-Some.ensures.node) in
    let found : finds schema (label_at t c.args.node.0) ≡ Some (i, m) = ap (finds schema) label ∙ sym c.in-Some-resolve.ensures.found in
    let w : Write = record { label = label_at t c.args.node.0; value = value_in t c.args.value.now } in
    let same = gather_one-at c.args.schema.way schema (gathered_of c.args.parts.now) w i m found in
    record {
      ok = on_ok_weaker c.add_resolved.result (λ e. same ∙ e) c.add_resolved.ensures.added.ok;
      err = IfErr-then c.add_resolved.result _ _ (λ f e. same ∙ e) c.add_resolved.ensures.added.err;
      body = on_ok_weaker c.add_resolved.result (λ told. told ∙ sym (kept-one schema (kept_in t c.args.parts.now.body) w i m found)) c.add_resolved.ensures.added.body;
    }

pub returns-in_default-resolve-clause-kept : goal.returns-in_default-resolve-clause-kept
returns-in_default-resolve-clause-kept g c = g.met.N.HeaderNames.keeps_same c.args.names.now

pub returns-clause-named : goal.returns-clause-named
returns-clause-named g c =
    let schema = directed_of c.args.schema in
    let t = c.args.table.now in
    let i = c.in-Some-resolve.position in
    let m = directed_of c.in-Some-resolve.member in
    let label : label_at t c.args.node.0 ≡ label_of (schema_of c.in-Some.written) = ap (λ (o : Option Schema). unwrap_or (option_map label_of o) no_label) (sym c.in-Some.ensures.node) in
    let found : finds schema (label_at t c.args.node.0) ≡ Some (i, m) = ap (finds schema) label ∙ sym c.in-Some-resolve.ensures.found in
    let w : Write = record { label = label_at t c.args.node.0; value = value_in t c.args.value.now } in
    on_ok_weaker c.add_resolved.result (names-one _ schema w i m found) c.add_resolved.ensures.named
