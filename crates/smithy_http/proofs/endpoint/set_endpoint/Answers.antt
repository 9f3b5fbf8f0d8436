use Rattle.std.proofs.Common.{rules, subst}
use Rattle.http_uri.specs.Uri.{Spells}
use Rattle.smithy_http.proofs.EndpointLemmas.{no_address-part, joined-read}
use Rattle.smithy_http.proofs.endpoint.set_endpoint.Goals as goal

pub returns-in_default : goal.returns-in_default
returns-in_default c =
    no_address-part c.args.endpoint.now.url c.in_ok-uri.uri (subst (λ t. Spells t c.in_ok-uri.uri) c.url.ensures c.in_ok-uri.ensures) c.in_default.ensures

pub returns-then-not-legal_target : goal.returns-then-not-legal_target
returns-then-not-legal_target c =
    let a = c.in-Some.address in (
      c.in_ok-joined.joined,
      joined-read _ _ _ _ _ _ c.in_ok-uri.uri (record { scheme = a.scheme.now; authority = a.authority.now; path = a.path.now }) c.in_ok-uri.ensures c.url.ensures c.in-Some.ensures c.in_ok-joined.ensures c.prefix_text.ensures,
      search rules,
    )

pub returns : goal.returns
returns c =
    let a = c.in-Some.address in (
      joined-read _ _ _ _ _ _ c.in_ok-uri.uri (record { scheme = a.scheme.now; authority = a.authority.now; path = a.path.now }) c.in_ok-uri.ensures c.url.ensures c.in-Some.ensures c.in_ok-joined.ensures c.prefix_text.ensures,
      search rules,
    )
