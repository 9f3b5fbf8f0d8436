use Rattle.std.proofs.Common.{◌≡◌, refl, ap, ◌∙◌, ◌==◌, true, false, None, length, lit<}
use Rattle.std.proofs.lemmas.Str.Pattern.{strip_prefix_char}
use Rattle.smithy_http.proofs.ItemLemmas.{not_comma}
use Rattle.smithy_http.proofs.list_items.behind_comma.Goals as goal

pub returns-in-None : goal.returns-in-None
returns-in-None c = (
  refl,
  not_comma c.args.text.now
      (λ empty. let q : false ≡ true = c.if-is_empty.ensures ∙ ap (λ xs. length xs == 0) empty in absurd (cc q))
      (strip_prefix_char 44 c.args.text.now None c.in-None.ensures.cases (lit< tt)),
)
