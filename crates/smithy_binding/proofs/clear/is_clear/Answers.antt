use Rattle.smithy_binding.proofs.Common.{Bor, ◌≡◌, ℕ, List, ap, sym, ◌∙◌, false, true, ◌&&◌, ◌==◌, length, list_all, is_legal_target, Template, pieces, has_unclosed_brace, holes_of, texts_shown, filled_by_a, are_whole_segments, has_whole_authority, holes_named, is_greedy_last}
use Rattle.smithy_binding.proofs.ClearLemmas.{path_false, path_true, list_all-map}
use Rattle.smithy_binding.proofs.clear.is_clear.Goals as goal

pub returns-then-not-is_clear_path : goal.returns-then-not-is_clear_path
returns-then-not-is_clear_path c =
    let t = pieces c.args.uri.text.now in
    let path : (is_legal_target (filled_by_a t) && are_whole_segments t.first t.rest && has_whole_authority t) ≡ false =
    sym (rw (c.as_str.ensures.value, c.in_ok-filled.ensures, c.in_ok-template.ensures) at c.is_clear_path.ensures) ∙ c.if-not-is_clear_path.true in
    path_false (has_unclosed_brace c.args.uri.text.now) (is_legal_target (filled_by_a t)) (are_whole_segments t.first t.rest) (has_whole_authority t)
    (list_all (λ name. length (holes_named name t) == 1) (texts_shown c.args.labels.now)) (length (holes_of t) == c.args.count) (is_greedy_last (holes_of t)) path

pub returns : goal.returns
returns c =
    let t = pieces c.args.uri.text.now in
    let path : (is_legal_target (filled_by_a t) && are_whole_segments t.first t.rest && has_whole_authority t) ≡ true =
    sym (rw (c.as_str.ensures.value, c.in_ok-filled.ensures, c.in_ok-template.ensures) at c.is_clear_path.ensures) ∙ c.if-not-is_clear_path.false in
    let unclosed : has_unclosed_brace c.args.uri.text.now ≡ false = sym c.has_unclosed_brace.ensures ∙ c.if-has_unclosed_brace.false in
    let one : c.in_ok-have_one.have_one ≡ list_all (λ name. length (holes_named name t) == 1) (texts_shown c.args.labels.now) =
    c.in_ok-have_one.ensures ∙ ap (λ (s : Template). list_all (λ (name : Bor (List ℕ)). length (holes_named name.now s) == 1) c.args.labels.now) c.in_ok-template.ensures
    ∙ sym (list_all-map (λ name. length (holes_named name t) == 1) (λ (name : Bor (List ℕ)). name.now) c.args.labels.now) in
    let rest : c.are_clear_holes.result ≡ (c.in_ok-have_one.have_one && (length (holes_of t) == c.args.count) && is_greedy_last (holes_of t)) = rw c.in_ok-template.ensures at c.are_clear_holes.ensures in
    rest ∙ ap (λ b. b && (length (holes_of t) == c.args.count) && is_greedy_last (holes_of t)) one
    ∙ path_true (has_unclosed_brace c.args.uri.text.now) (is_legal_target (filled_by_a t)) (are_whole_segments t.first t.rest) (has_whole_authority t)
    (list_all (λ name. length (holes_named name t) == 1) (texts_shown c.args.labels.now)) (length (holes_of t) == c.args.count) (is_greedy_last (holes_of t)) unclosed path
