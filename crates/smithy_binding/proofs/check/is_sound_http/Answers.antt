use Rattle.smithy_binding.proofs.Common.{◌≡◌, ap, sym, ◌∙◌, [], true, false, nat_eq, codes, starts_with, is_token, schema_of, is_clear, is_clear_among}
use Rattle.smithy_binding.proofs.CheckingLemmas.{is_clear-among, own-template, sound-http}
use Rattle.smithy_binding.proofs.JointTests.{second_fails, third_decides}
use Rattle.smithy_binding.proofs.check.is_sound_http.Goals as goal

pub returns-then-not-is_clear : goal.returns-then-not-is_clear
returns-then-not-is_clear c =
    let schema = schema_of c.args.schema in
    let h = c.in-Some.http in
    let token : is_token h.method ≡ true = sym (rw c.method.ensures at c.is_token.ensures) ∙ c.if-not-is_token.false in
    let clear : is_clear h.uri schema ≡ false =
    is_clear-among schema h.uri ∙ ap (is_clear_among h.uri) (sym c.requires) ∙ sym (rw (c.uri_template.ensures ∙ own-template schema h [] c.in-Some.ensures) at c.in_ok-is_clear.ensures) ∙ c.if-not-is_clear.true in
    second_fails (is_token h.method) (is_clear h.uri schema) (starts_with nat_eq h.uri (codes "/")) token clear ∙ sym (sound-http schema h c.in-Some.ensures)

pub returns : goal.returns
returns c =
    let schema = schema_of c.args.schema in
    let h = c.in-Some.http in
    let token : is_token h.method ≡ true = sym (rw c.method.ensures at c.is_token.ensures) ∙ c.if-not-is_token.false in
    let clear : is_clear h.uri schema ≡ true =
    is_clear-among schema h.uri ∙ ap (is_clear_among h.uri) (sym c.requires) ∙ sym (rw (c.uri_template.ensures ∙ own-template schema h [] c.in-Some.ensures) at c.in_ok-is_clear.ensures) ∙ c.if-not-is_clear.false in
    let slash : c.starts_with.result ≡ starts_with nat_eq h.uri (codes "/") = rw (c.as_bytes.ensures.value, c.uri.ensures) at c.starts_with.ensures.value in
    slash ∙ third_decides (is_token h.method) (is_clear h.uri schema) (starts_with nat_eq h.uri (codes "/")) token clear ∙ sym (sound-http schema h c.in-Some.ensures)
