use Rattle.smithy_binding.proofs.Common.{◌≡◌, ap, sym, ◌∙◌, subst, List, ℕ, [], ◌∷◌, str_to_ascii_lowercase, schema_of}
use Rattle.std.specs.Cow.{cow_str_bytes}
use Rattle.smithy_http.proofs.ValueLemmas.{lower_twice}
use Rattle.smithy_binding.specs.views.PutHeaders.{PutsPairs}
use Rattle.smithy_binding.proofs.header_names.put_named.Goals as goal

pub put_header-requires : goal.put_header-requires
put_header-requires g c =
    let lower = c.in_ok-lower.ensures.lower in ap str_to_ascii_lowercase lower ∙ lower_twice c.args.name.now ∙ sym lower

pub returns-clause-put : goal.returns-clause-put
returns-clause-put g c =
    let lower = c.in_ok-lower.ensures.lower in
    let same : str_to_ascii_lowercase c.in_ok-lower.lower ≡ str_to_ascii_lowercase c.args.name.now = ap str_to_ascii_lowercase lower ∙ lower_twice c.args.name.now in
    subst (λ (n : List ℕ). PutsPairs (schema_of c.args.member) ((n, cow_str_bytes c.args.text) ∷ []) c.args.headers.now c.put_header.new.headers c.put_header.result) same c.put_header.ensures
