use Rattle.std.proofs.Common.{◌∷◌, [], codes, ◌++◌}
use Rattle.json.specs.Token as token
use Rattle.smithy_document.proofs.PrintLemmas.{printed, IsPrinted}
use Rattle.smithy_bind.proofs.LineWrites.{behind, wrote}
use Rattle.smithy_bind.specs.Lines.{bytes_value}
use Rattle.smithy_bind.specs.views.LineView.{data_tokens, headers_tokens, status_tokens}
use Rattle.smithy_bind.proofs.line.write_request.Goals as goal

pub returns : goal.returns
returns c =
    let r = c.end_object.result in
    let new = c.end_object.new.self in
    let q = c.args.request.now in
    let method = token.key (codes "method") ∷ token.string q.method ∷ [] in
    let target = token.key (codes "target") ∷ token.string q.target ∷ [] in
    let body = data_tokens (bytes_value q.body) in
    let from_body = token.key (codes "body") ∷ (body ++ token.end_object ∷ []) in
    let from_headers = token.key (codes "headers") ∷ token.begin_array ∷ (headers_tokens q.headers ++ from_body) in
    let method_written : IsPrinted method c.write_status.new.writer c.write_text.new.writer = rw c.method.ensures.value at c.in_ok-write_text.ensures in
    let target_written : IsPrinted target c.write_text.new.writer c.write_text-2.new.writer = rw c.uri.ensures.value at c.in_ok-write_text-2.ensures in
    let headers_written : IsPrinted (headers_tokens q.headers) c.begin_array.new.self c.write_headers.new.writer = rw c.headers.ensures at c.in_ok-write_headers.ensures in
    let body_written : IsPrinted body c.key-2.new.self c.write_bytes.new.writer = rw (c.as_slice.ensures, c.body.ensures) at c.in_ok-write_bytes.ensures in
    behind (status_tokens 0) (method ++ (target ++ from_headers)) r c.args.writer.now c.write_status.new.writer new c.in_ok-write_status.ensures
    (behind method (target ++ from_headers) r c.write_status.new.writer c.write_text.new.writer new method_written
    (behind target from_headers r c.write_text.new.writer c.write_text-2.new.writer new target_written
    (behind (token.key (codes "headers") ∷ []) (token.begin_array ∷ (headers_tokens q.headers ++ from_body)) r c.write_text-2.new.writer c.key.new.self new (wrote c.in_ok-key.ensures)
    (behind (token.begin_array ∷ []) (headers_tokens q.headers ++ from_body) r c.key.new.self c.begin_array.new.self new (wrote c.in_ok-begin_array.ensures)
    (behind (headers_tokens q.headers) from_body r c.begin_array.new.self c.write_headers.new.writer new headers_written
    (behind (token.key (codes "body") ∷ []) (body ++ token.end_object ∷ []) r c.write_headers.new.writer c.key-2.new.self new (wrote c.in_ok-key-2.ensures)
    (behind body (token.end_object ∷ []) r c.key-2.new.self c.write_bytes.new.writer new body_written (printed r c.write_bytes.new.writer new token.end_object c.end_object.ensures))))))))
