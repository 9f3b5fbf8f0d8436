use Rattle.smithy_binding.proofs.Common.{rules, ◌≡◌, ap, sym, ◌∙◌, Some, None, string_bytes, on_ok_weaker, to_query, binding_of, directed_of, writes_in, list, item_fault, gathered_of}
use Rattle.smithy_schema.specs.ShownBindings.{binding_shown}
use Rattle.smithy_binding.proofs.NameSteps.{own-elsewhere}
use Rattle.smithy_binding.proofs.ListWrites.{list-legal, list-year, placed-list}
use Rattle.smithy_binding.proofs.Refusals.{IfErr-then}
use Rattle.smithy_binding.proofs.placement.add_list.Goals as goal

pub returns-in-Query-clause-put : goal.returns-in-Query-clause-put
returns-in-Query-clause-put g c =
    let m = directed_of c.args.member in
    let ws = writes_in c.args.table.now c.args.elements.now in
    let s = gathered_of c.args.parts.now in
    let name = c.in-Query.name.now in
    let bound : to_query name ≡ binding_of m = ap binding_shown (sym c.in-Query.is) ∙ c.requires.bound in
    let item : item_fault m (list ws) ≡ None = c.in_ok-test_list.ensures.ok in
    record {
      ok = on_ok_weaker c.push_elements.result (λ e. list-legal m ws name bound item s.query (string_bytes c.push_elements.new.query) e) c.push_elements.ensures.ok;
      put = on_ok_weaker c.push_elements.result (λ e. placed-list m ws name bound (directed_of c.args.schema) s (string_bytes c.push_elements.new.query) e) c.push_elements.ensures.ok;
      body = search rules;
      err = IfErr-then c.push_elements.result _ _ (λ f e. list-year m ws name bound item e.1 ∙ ap Some (sym e.0)) c.push_elements.ensures.err;
    }

pub returns-in-Query-clause-kept : goal.returns-in-Query-clause-kept
returns-in-Query-clause-kept g c = g.met.N.HeaderNames.keeps_same c.args.names.now

pub returns-in-Query-clause-named : goal.returns-in-Query-clause-named
returns-in-Query-clause-named g c =
    let bound : to_query c.in-Query.name.now ≡ binding_of (directed_of c.args.member) = ap binding_shown (sym c.in-Query.is) ∙ c.requires.bound in
    on_ok_weaker c.push_elements.result (λ _. own-elsewhere _ c.args.member (to_query c.in-Query.name.now) bound (λ n e. cc e)) c.push_elements.ensures.ok

pub returns-in_err-test_list-clause-kept : goal.returns-in_err-test_list-clause-kept
returns-in_err-test_list-clause-kept g c = g.met.N.HeaderNames.keeps_same c.args.names.now
