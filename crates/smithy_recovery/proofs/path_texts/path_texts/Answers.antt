use Rattle.std.proofs.Common.{rules, ◌+◌, sym, ap, ◌∙◌, [], ℕ, List, drop, map, get_or, false}
use Rattle.std.proofs.lemmas.List.{map-append, drop_more, take_rest}
use Rattle.smithy_binding.specs.views.CutTemplate.{behind_holes, literal_alone}
use Rattle.smithy_schema.specs.declared.first_hole.CutHole.{CutHole}
use Rattle.smithy_recovery.specs.views.Kept.{label_seen, text_behind}
use Rattle.smithy_recovery.specs.PathParts.{path_texts}
use Rattle.smithy_recovery.proofs.Cutting.{behind_done, path_more, path_stop}
use Rattle.smithy_recovery.proofs.Refused.{refused}
use Rattle.smithy_recovery.proofs.path_texts.path_texts.Goals as goal

abbrev no_hole : CutHole
no_hole = record { literal = record { ref_ptr = (0, 0); now = [] }; name = record { ref_ptr = (0, 0); now = [] }; is_greedy = false }

pub returns-in_err-text : goal.returns-in_err-text
returns-in_err-text c =
    let holes = c.args.holes.now in
    let i = c.loop-i.i in
    let last = c.args.last.now in
    let h = get_or holes i no_hole in
    let done = map label_seen c.loop-i.texts.items in
    let literal = c.first_literal-literal.ensures ∙ ap (λ hs. (behind_holes hs (literal_alone last)).first) (take_rest holes (i + 1)) in
    refused {A = List ℕ × List ℕ} (λ x. x) (λ v. map label_seen v.items) (text_behind h.literal.now h.is_greedy c.first_literal-literal.result.now c.loop-i.path.now) (path_texts (behind_holes holes (literal_alone last)) c.args.path.now) c.in_err-text.field-0.0 c.from_residual.result (search rules)
    (λ none. sym c.loop-i.invariant.read
    ∙ ap (behind_done done)
    (path_stop (drop i holes) (drop (i + 1) holes) h last c.loop-i.path.now (drop_more holes i no_hole c.loop-i-test.true)
    (ap (λ l. text_behind h.literal.now h.is_greedy l c.loop-i.path.now) (sym literal) ∙ none)))
    c.in_err-text.ensures

pub loop-i-preserved : goal.loop-i-preserved
loop-i-preserved c =
    let holes = c.args.holes.now in
    let i = c.loop-i.i in
    let last = c.args.last.now in
    let h = get_or holes i no_hole in
    let done = map label_seen c.loop-i.texts.items in
    let literal = c.first_literal-literal.ensures ∙ ap (λ hs. (behind_holes hs (literal_alone last)).first) (take_rest holes (i + 1)) in
    let pushed = ap (map label_seen) c.in_ok-push.ensures.items ∙ map-append label_seen c.loop-i.texts.items _ in
    record {
      text = search rules;
      read = ap (λ t. behind_done t (path_texts (behind_holes (drop (i + 1) holes) (literal_alone last)) c.in_ok-text.rest.now)) pushed
          ∙ sym (path_more done (drop i holes) (drop (i + 1) holes) h last c.loop-i.path.now (c.in_ok-text.text, c.in_ok-text.rest.now) (drop_more holes i no_hole c.loop-i-test.true)
          (ap (λ l. text_behind h.literal.now h.is_greedy l c.loop-i.path.now) (sym literal) ∙ c.in_ok-text.ensures))
          ∙ c.loop-i.invariant.read;
    }
