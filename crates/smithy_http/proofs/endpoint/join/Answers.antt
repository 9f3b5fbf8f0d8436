use Rattle.std.proofs.Common.{append_assoc}
use Rattle.smithy_http.proofs.endpoint.join.Goals as goal

pub returns : goal.returns
returns c =
    rw (c.from_string.ensures, c.in_ok-push_query.ensures, c.in_ok-push_str-6.ensures.bytes, c.in_ok-push_str-5.ensures.bytes, c.in_ok-push_str-4.ensures.bytes, c.in_ok-push_str-3.ensures.bytes, c.in_ok-push_str-2.ensures.bytes, c.in_ok-push_str.ensures.bytes, c.in_ok-joined.ensures.ok, c.before_last_slash.ensures, c.behind_first_slash.ensures)
    (simp append_assoc)
