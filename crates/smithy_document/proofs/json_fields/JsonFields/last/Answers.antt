use Rattle.smithy_document.proofs.Common.{◌≡◌, ◌-◌, ℕ, List, [], length, Option, ap, ◌∙◌, unwrap_or, seen_at, text_at}
use Rattle.smithy_document.specs.declared.json_fields.Field.{Field}
use Rattle.smithy_document.specs.views.JsonFields.{names_of}
use Rattle.smithy_document.proofs.json_fields.JsonFields.last.Goals as goal

pub returns-in-Some : goal.returns-in-Some
returns-in-Some c =
    let fs = c.args.self.now.list.items in
    let size : c.len.result ≡ length fs = c.len.ensures ∙ c.args.self.now.list.ok.0 in
    let at : c.saturating_sub.result ≡ length fs - 1 = c.saturating_sub.ensures ∙ ap (λ n. n - 1) size in
    let found = rw (c.in-Some.is, c.deref.ensures.value) at (seen_at (λ (f : Field). f.name) c.deref.result.now _ c.get.result c.get.ensures.lookup) in
    c.as_str.ensures ∙ ap (λ (o : Option (List ℕ)). unwrap_or o []) found ∙ ap (λ i. text_at (names_of fs) i) at

pub returns-in-None : goal.returns-in-None
returns-in-None c =
    let fs = c.args.self.now.list.items in
    let size : c.len.result ≡ length fs = c.len.ensures ∙ c.args.self.now.list.ok.0 in
    let at : c.saturating_sub.result ≡ length fs - 1 = c.saturating_sub.ensures ∙ ap (λ n. n - 1) size in
    let found = rw (c.in-None.is, c.deref.ensures.value) at (seen_at (λ (f : Field). f.name) c.deref.result.now _ c.get.result c.get.ensures.lookup) in
    ap (λ (o : Option (List ℕ)). unwrap_or o []) found ∙ ap (λ i. text_at (names_of fs) i) at
