use Rattle.smithy_binding.proofs.Common.{Bor, ◌≡◌, ℕ, Bool, List, ap, sym, ◌∙◌, ◌==◌, length, None, Template, holes_named, filled_by_a, template_shown, texts_shown, have_holes, path_rule_for, hole_rule_for}
use Rattle.smithy_binding.specs.views.ClearParts.{have_one_hole}
use Rattle.smithy_binding.proofs.BrokenLaws.{cut-behind}
use Rattle.smithy_binding.proofs.ClearLemmas.{list_all-map}
use Rattle.smithy_binding.proofs.template_rules.cut_rule.Goals as goal

-- each label has one hole, by its name
have_holes-shown : (labels : List (Bor (List ℕ))) (t : Template) (have_one : Bool) → have_one ≡ have_one_hole labels t → have_one ≡ have_holes (texts_shown labels) t
have_holes-shown labels t have_one e = e ∙ sym (list_all-map (λ name. length (holes_named name t) == 1) (λ (name : Bor (List ℕ)). name.now) labels)

pub returns-in-Some-hole_rule : goal.returns-in-Some-hole_rule
returns-in-Some-hole_rule c =
    let t = template_shown c.args.template.now in
    let path : None ≡ path_rule_for t (filled_by_a t) = c.in_default.ensures ∙ ap (path_rule_for t) (c.as_str.ensures.value ∙ c.in_ok-filled.ensures) in
    let one = have_holes-shown c.args.labels.now t c.in_ok-have_one.have_one c.in_ok-have_one.ensures in
    cut-behind t (texts_shown c.args.labels.now) c.args.count _ path (c.in-Some-hole_rule.ensures ∙ ap (λ (b : Bool). hole_rule_for t b c.args.count) one)

pub returns : goal.returns
returns c =
    let t = template_shown c.args.template.now in
    let path : None ≡ path_rule_for t (filled_by_a t) = c.in_default.ensures ∙ ap (path_rule_for t) (c.as_str.ensures.value ∙ c.in_ok-filled.ensures) in
    let one = have_holes-shown c.args.labels.now t c.in_ok-have_one.have_one c.in_ok-have_one.ensures in
    cut-behind t (texts_shown c.args.labels.now) c.args.count _ path (c.in-None.ensures ∙ ap (λ (b : Bool). hole_rule_for t b c.args.count) one)
