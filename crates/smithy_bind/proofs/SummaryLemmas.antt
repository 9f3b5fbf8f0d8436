-- The four lines that tell a request.
use Rattle.std.proofs.Common.{◌≡◌, ◌∙◌, ap, ℕ, List, length}
use Rattle.std.specs.List.{sum}
use Rattle.smithy_http.specs.Requests.{Request}
use Rattle.smithy_bind.specs.Generating.{lines, summary}

pub lines_are : (r : Request) (line target body : List ℕ) (headers bytes : ℕ) → target ≡ r.target → headers ≡ length r.headers → body ≡ r.body → bytes ≡ sum r.body → line ≡ lines target headers (length body) bytes → line ≡ summary r
unfolding summary
lines_are r line target body headers bytes t h b s is =
    is
    ∙ ap (λ x. lines x headers (length body) bytes) t
    ∙ ap (λ n. lines r.target n (length body) bytes) h
    ∙ ap (λ x. lines r.target (length r.headers) (length x) bytes) b
    ∙ ap (λ n. lines r.target (length r.headers) (length r.body) n) s
