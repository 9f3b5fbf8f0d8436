use Rattle.smithy_binding.proofs.Common.{rules, arith, ◌≡◌, ◌<◌, ◌++◌, sym, ap, ◌∙◌, Ok, Err, Some, IfErr, length, string_bytes, then_give, filled_by, hole_shown, Fault, filled_fault, text_in, text_under, missing_hole, TellsFault}
use Rattle.smithy_binding.proofs.Fills.{fill-more, fill-stop, long-before}
use Rattle.smithy_binding.proofs.Refusals.{IfErr-then, TellsFault-then}
use Rattle.smithy_binding.specs.views.LeftTemplates.{template_left}
use Rattle.smithy_binding.proofs.target.fill_by.Goals as goal

pub returns-in_err-push_label-clause-err : goal.returns-in_err-push_label-clause-err
returns-in_err-push_label-clause-err c =
    let texts = text_under c.args.texts.now in
    let hole = c.in-Some.hole in
    let told : IfErr c.from_residual-in_err-push_label.result (λ e. TellsFault e (λ f. (f ≡ missing_hole hole.name.now) × (text_in texts (hole_shown hole) ≡ Err hole.name.now))) = search rules in
    let stop = fill-stop texts (string_bytes c.loop-hole.out) hole.literal.now hole.name.now (hole_shown hole) (template_left c.in-Some.behind) (template_left c.loop-hole.rest) c.in-Some.ensures.0 in
    IfErr-then c.from_residual-in_err-push_label.result _ _ (λ f e. ap filled_fault (sym c.loop-hole.invariant.filled ∙ stop e.1) ∙ ap (λ (f : Fault). Some f) (sym e.0)) told

pub returns-then-len-gt-MAX_TARGET_LEN-clause-err : goal.returns-then-len-gt-MAX_TARGET_LEN-clause-err
returns-then-len-gt-MAX_TARGET_LEN-clause-err c =
    let texts = text_under c.args.texts.now in
    let hole = c.in-Some.hole in
    let behind = template_left c.in-Some.behind in
    let out = string_bytes c.push_label.new.out in
    let given : then_give (text_in texts (hole_shown hole)) (λ t. (string_bytes c.loop-hole.out ++ hole.literal.now) ++ t) ≡ Ok out = search rules in
    let more = fill-more texts (string_bytes c.loop-hole.out) out hole.literal.now (hole_shown hole) behind (template_left c.loop-hole.rest) c.in-Some.ensures.0 given in
    let long : 65534 < length out = omega (arith, c.if-len-gt-MAX_TARGET_LEN.true, c.len.ensures, c.push_label.new.out.bytes.ok.0) in
    TellsFault-then c.too_long_before.result _ _ (λ f e. long-before (filled_by texts behind) _ out long (sym more ∙ c.loop-hole.invariant.filled) f e) c.too_long_before.ensures
