use Rattle.smithy_binding.proofs.Common.{Bor, ◌≡◌, ℕ, ap, sym, ◌∙◌, true, List, map, None, string_bytes, IfOk-weaker, are_distinct, by_members, header_rule, shown, texts_shown, lower_names, lower_headers, broken_shown, broken_prefix_of}
use Rattle.smithy_binding.proofs.BrokenLaws.{header-behind}
use Rattle.smithy_binding.proofs.name_rules.broken_header.Goals as goal

pub returns : goal.returns
returns c =
    let ms = shown c.args.members.now in
    let headers = texts_shown c.in_ok-lower.lower.items in
    let none : None ≡ by_members header_rule ms = rw c.in_default.is at c.in_ok-broken.ensures in
    let same : headers ≡ lower_headers ms =
    c.in_ok-lower.ensures ∙ ap (map string_bytes) c.as_slice-2.ensures.value ∙ c.in_ok-lower_headers.ensures
    ∙ ap (λ (ns : List (Bor (List ℕ))). lower_names (texts_shown ns)) c.as_slice.ensures.value ∙ ap lower_names c.in_ok-headers.ensures in
    let distinct : are_distinct headers ≡ true =
    sym (c.in_ok-are_distinct.ensures ∙ ap (λ (ns : List (Bor (List ℕ))). are_distinct (texts_shown ns)) c.as_slice-3.ensures.value) ∙ c.if-not-branch.false in
    IfOk-weaker c.broken_prefix.result _ _
    (λ b e. header-behind ms headers (broken_shown b) none same distinct (e ∙ ap (λ (ns : List (Bor (List ℕ))). broken_prefix_of (texts_shown ns) ms) c.as_slice-4.ensures.value)) c.broken_prefix.ensures
