use Rattle.smithy_binding.proofs.Common.{rules, ◌≡◌, ap, sym, ◌∙◌, subst, Bool, List, true, false, slice_set, Some, Ok, Err, IfErr, on_ok_weaker, Binding, directed_of, value_in, is_placed_at, status_fault_in, first_fault, TellsFault, Gathered, is_seen, placed_first, write_of, gathered_of, kept_at, kept_in, IsKeptDefined}
use Rattle.smithy_binding.proofs.Refusals.{TellsFault-then, IfErr-then}
use Rattle.smithy_binding.proofs.KeptSteps.{add-unplaced}
use Rattle.smithy_binding.specs.views.Marks.{marks_of}
use Rattle.smithy_binding.specs.views.NamesAtHand.{SeenHaveNames}
use Rattle.smithy_binding.proofs.NameSteps.{named-at, own-unplaced, seen-marked}
use Rattle.smithy_binding.proofs.WriteSteps.{add-wrong, add-again, add-first, add-fault, add-code}
use Rattle.smithy_binding.proofs.placement.add_resolved.Goals as goal

pub returns-then-not-fits_member-clause-added : goal.returns-then-not-fits_member-clause-added
returns-then-not-fits_member-clause-added g c =
    let t = c.args.table.now in
    let m = directed_of c.args.member in
    let v = value_in t c.args.value.now in
    record {
      ok = search rules;
      err = TellsFault-then c.wrong_kind.result _ _
          (λ f e. add-wrong c.args.schema.way (directed_of c.args.schema) (gathered_of c.args.parts.now) (write_of c.args.position m v) (sym (c.fits_member.ensures t) ∙ c.if-not-fits_member.true) ∙ ap Err (sym e))
          (c.wrong_kind.ensures t);
      body = search rules;
    }

pub returns-clause-added : goal.returns-clause-added
returns-clause-added g c =
    let m = directed_of c.args.member in
    let schema = directed_of c.args.schema in
    let way = c.args.schema.way in
    let s = gathered_of c.args.parts.now in
    let seen : is_seen s c.args.position ≡ false = sym c.is_marked.ensures ∙ c.if-is_marked.false in
    let t = c.args.table.now in
    let v = value_in t c.args.value.now in
    let r = write_of c.args.position m v in
    let fits = sym (c.fits_member.ensures t) ∙ c.if-not-fits_member.false in
    let bound = ap is_placed_at (sym c.binding_of-binding.ensures) ∙ sym c.is_placed.ensures ∙ c.if-not-is_placed.false in
    let marked : marks_of c.mark.new.self ≡ slice_set s.seen c.args.position true = c.mark.ensures in
    let first = c.in_ok-add_first.ensures.put in
    let code = c.test_code.ensures t in
    let same = ap (λ (b : Binding). status_fault_in way b v) (sym c.binding_of-binding.ensures) in
    record {
      ok = on_ok_weaker c.test_code.result
          (λ none. add-first way schema s r bound fits seen first.ok (same ∙ none)
          ∙ ap (λ (xs : List Bool). Ok (record (placed_first schema m v s) { seen = xs })) (sym marked) ∙ ap (λ (g : Gathered). Ok g) (sym first.put)) code.ok;
      err = IfErr-then c.test_code.result _ _ (λ f e. add-code way schema s r f bound fits seen first.ok (same ∙ e)) code.err;
      body = on_ok_weaker c.test_code.result
          (λ _. ap (kept_in t) first.body ∙ c.in_ok-keep.ensures.kept t ∙ ap (λ (b : Binding). kept_at b m v (kept_in t c.args.parts.now.body)) c.binding_of-binding.ensures) code.ok;
    }

pub returns-in_err-add_first-clause-added : goal.returns-in_err-add_first-clause-added
returns-in_err-add_first-clause-added g c =
    let m = directed_of c.args.member in
    let s = gathered_of c.args.parts.now in
    let seen : is_seen s c.args.position ≡ false = sym c.is_marked.ensures ∙ c.if-is_marked.false in
    let t = c.args.table.now in
    let v = value_in t c.args.value.now in
    let fits = sym (c.fits_member.ensures t) ∙ c.if-not-fits_member.false in
    let bound = ap is_placed_at (sym c.binding_of-binding.ensures) ∙ sym c.is_placed.ensures ∙ c.if-not-is_placed.false in
    let told : IfErr c.from_residual-in_err-add_first.result (λ e. TellsFault e (λ f. first_fault m v ≡ Some f)) = search rules in
    record {
      ok = search rules;
      err = IfErr-then c.from_residual-in_err-add_first.result _ _ (λ f e. add-fault c.args.schema.way (directed_of c.args.schema) s (write_of c.args.position m v) f bound fits seen e) told;
      body = search rules;
    }

pub returns-then-is_marked-clause-added : goal.returns-then-is_marked-clause-added
returns-then-is_marked-clause-added g c =
    let s = gathered_of c.args.parts.now in
    let seen : is_seen s c.args.position ≡ true = sym c.is_marked.ensures ∙ c.if-is_marked.true in
    let t = c.args.table.now in
    record {
      ok = add-again c.args.schema.way (directed_of c.args.schema) s (write_of c.args.position (directed_of c.args.member) (value_in t c.args.value.now)) (sym (c.fits_member.ensures t) ∙ c.if-not-fits_member.false) seen;
      err = search rules;
      body = search rules;
    }

pub returns-then-not-is_placed-clause-added : goal.returns-then-not-is_placed-clause-added
returns-then-not-is_placed-clause-added g c =
    let m = directed_of c.args.member in
    let s = gathered_of c.args.parts.now in
    let seen : is_seen s c.args.position ≡ false = sym c.is_marked.ensures ∙ c.if-is_marked.false in
    let t = c.args.table.now in
    let marked : marks_of c.mark.new.self ≡ slice_set s.seen c.args.position true = c.mark.ensures in
    record {
      ok = add-unplaced c.args.schema.way (directed_of c.args.schema) s (write_of c.args.position m (value_in t c.args.value.now)) (sym (c.fits_member.ensures t) ∙ c.if-not-fits_member.false) seen
          (ap is_placed_at (sym c.binding_of-binding.ensures) ∙ sym c.is_placed.ensures ∙ c.if-not-is_placed.true)
          ∙ ap (λ (xs : List Bool). Ok (record s { seen = xs })) (sym marked);
      err = search rules;
      body = search rules;
    }

pub returns-clause-defined : goal.returns-clause-defined
returns-clause-defined g c =
    let t = c.args.table.now in
    on_ok_weaker c.test_code.result (λ _ all one. subst (IsKeptDefined t) (sym c.in_ok-add_first.ensures.put.body) (c.in_ok-keep.ensures.defined t all one)) (c.test_code.ensures t).ok

pub returns-then-not-fits_member-clause-kept : goal.returns-then-not-fits_member-clause-kept
returns-then-not-fits_member-clause-kept g c = g.met.N.HeaderNames.keeps_same c.args.names.now

pub returns-in_err-keep-clause-kept : goal.returns-in_err-keep-clause-kept
returns-in_err-keep-clause-kept g c = g.met.N.HeaderNames.keeps_same c.args.names.now

pub returns-then-is_marked-clause-kept : goal.returns-then-is_marked-clause-kept
returns-then-is_marked-clause-kept g c = g.met.N.HeaderNames.keeps_same c.args.names.now

pub returns-then-is_marked-clause-named : goal.returns-then-is_marked-clause-named
returns-then-is_marked-clause-named g c =
    let seen : is_seen (gathered_of c.args.parts.now) c.args.position ≡ true = sym c.is_marked.ensures ∙ c.if-is_marked.true in
    c.requires.seen c.args.position seen

pub returns-then-not-is_placed-clause-kept : goal.returns-then-not-is_placed-clause-kept
returns-then-not-is_placed-clause-kept g c = g.met.N.HeaderNames.keeps_same c.args.names.now

pub returns-then-not-is_placed-clause-named : goal.returns-then-not-is_placed-clause-named
returns-then-not-is_placed-clause-named g c =
    let bound = ap is_placed_at (sym c.binding_of-binding.ensures) ∙ sym c.is_placed.ensures ∙ c.if-not-is_placed.true in
    named-at _ c.args.schema c.args.member c.args.position c.requires.member (own-unplaced _ c.args.member bound)

pub returns-then-not-is_placed-clause-seen : goal.returns-then-not-is_placed-clause-seen
returns-then-not-is_placed-clause-seen g c =
    let holds = g.N.HeaderNames.has c.args.names.now in
    let schema = directed_of c.args.schema in
    let bound = ap is_placed_at (sym c.binding_of-binding.ensures) ∙ sym c.is_placed.ensures ∙ c.if-not-is_placed.true in
    subst (SeenHaveNames holds schema) (sym c.mark.ensures)
    (seen-marked holds holds schema (gathered_of c.args.parts.now).seen c.args.position (λ place has. has) c.requires.seen
    (named-at holds c.args.schema c.args.member c.args.position c.requires.member (own-unplaced holds c.args.member bound)))

pub returns-clause-named : goal.returns-clause-named
returns-clause-named g c =
    on_ok_weaker c.test_code.result
    (λ _. named-at _ c.args.schema c.args.member c.args.position c.requires.member c.in_ok-add_first.ensures.named) (c.test_code.ensures c.args.table.now).ok

pub returns-clause-seen : goal.returns-clause-seen
returns-clause-seen g c =
    let old = g.N.HeaderNames.has c.args.names.now in
    let new = g.N.HeaderNames.has c.add_first.new.names in
    let schema = directed_of c.args.schema in
    let first = c.in_ok-add_first.ensures in
    let same : marks_of c.add_first.new.parts.seen ≡ slice_set (gathered_of c.args.parts.now).seen c.args.position true = ap (λ (s : Gathered). s.seen) first.put.put ∙ c.mark.ensures in
    on_ok_weaker c.test_code.result
    (λ _. subst (SeenHaveNames new schema) (sym same)
    (seen-marked old new schema (gathered_of c.args.parts.now).seen c.args.position (λ place has. g.met.N.HeaderNames.has_on _ _ place first.kept has) c.requires.seen
    (named-at new c.args.schema c.args.member c.args.position c.requires.member first.named))) (c.test_code.ensures c.args.table.now).ok
