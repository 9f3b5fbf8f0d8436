use Rattle.std.proofs.Common.{sym, ap, ◌∙◌, Some, None, lit<}
use Rattle.std.proofs.lemmas.Str.Pattern.{strip_suffix_char}
use Rattle.smithy_http.specs.Endpoints.{without_last_slash}
use Rattle.smithy_http.proofs.EndpointLemmas.{without_last_slash-ends, without_last_slash-keeps}
use Rattle.smithy_http.proofs.endpoint.before_last_slash.Goals as goal

pub returns-in-Some : goal.returns-in-Some
returns-in-Some c =
    let front = c.in-Some.front in
    sym (ap without_last_slash (strip_suffix_char 47 c.args.path.now (Some front) c.in-Some.ensures.cases (lit< tt)) ∙ without_last_slash-ends front.now)

pub returns-in-None : goal.returns-in-None
returns-in-None c = sym (without_last_slash-keeps c.args.path.now (strip_suffix_char 47 c.args.path.now None c.in-None.ensures.cases (lit< tt)))
