use Rattle.smithy_binding.proofs.Common.{rules, ◌≡◌, ap, sym, ◌∙◌, subst, List, ℕ, [], ◌∷◌, ◌++◌, string_bytes, str_to_ascii_lowercase, schema_of}
use Rattle.smithy_http.proofs.ValueLemmas.{lower_twice}
use Rattle.smithy_binding.specs.views.PutHeaders.{PutsPairs}
use Rattle.smithy_binding.proofs.maps.put_entry.Goals as goal

pub put_header-requires : goal.put_header-requires
put_header-requires c =
    let lower = c.from_string-name.ensures ∙ c.make_ascii_lowercase.ensures.bytes in ap str_to_ascii_lowercase lower ∙ lower_twice _ ∙ sym lower

pub returns : goal.returns
returns c =
    let lower = c.from_string-name.ensures ∙ c.make_ascii_lowercase.ensures.bytes in
    let built : string_bytes c.push_str-2.new.self ≡ c.args.prefix.now ++ c.args.key.now = search rules in
    let same : str_to_ascii_lowercase c.from_string-name.result ≡ str_to_ascii_lowercase (c.args.prefix.now ++ c.args.key.now) = ap str_to_ascii_lowercase lower ∙ lower_twice _ ∙ ap str_to_ascii_lowercase built in
    subst (λ (n : List ℕ). PutsPairs (schema_of c.args.member) ((n, c.args.value.now) ∷ []) c.args.headers.now c.put_header.new.headers c.put_header.result) same c.put_header.ensures
