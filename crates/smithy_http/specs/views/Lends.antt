-- What a request is once its headers were lent.
use Rattle.std.specs.Prelude.{ℕ, List}
use Rattle.std.specs.Borrow.{Lends, MutBor, Fml}
use Rattle.smithy_http.specs.Requests.{Request}
use Rattle.smithy_http.specs.contracts.request.Request.{the_row}
use Rattle.smithy_http.specs.contracts.headers.Headers.{the_row as headers_row}

-- the request ends with the last headers behind the reference
abbrev pub LendsHeaders : MutBor Request → MutBor (List (List ℕ × List ℕ)) → Fml
LendsHeaders request headers = Lends the_row headers_row request headers (λ last. record request.now { headers = last })
