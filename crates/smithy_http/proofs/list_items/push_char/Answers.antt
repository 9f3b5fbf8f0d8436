use Rattle.std.proofs.Common.{◌≡◌, ◌≢◌, false, ap, ◌∙◌, option_map, string_bytes}
use Rattle.smithy_http.specs.views.ItemReading.{with_text}
use Rattle.smithy_http.specs.ListTexts.{quoted_text}
use Rattle.smithy_http.proofs.ItemLemmas.{push-char}
use Rattle.smithy_http.proofs.list_items.push_char.Goals as goal
use Rattle.smithy_http.proofs.list_items.push_char.Goals.{else-not-paired-via-then-not-paired+else-c-eq92, else-not-paired-via-else-not-paired}

pub returns : goal.returns
returns c =
    let no_pair : c.args.paired ≡ false → c.args.c ≢ 92 = elim c.else-not-paired.branch [
      | else-not-paired-via-then-not-paired+else-c-eq92 w ↦ λ e. w.if-c-eq92.false
      | else-not-paired-via-else-not-paired w ↦ λ e h. let q = w.if-not-paired.false in cc
    ] in
    λ rest.
    ap (λ bytes. option_map (with_text bytes) (quoted_text false rest)) c.in_ok-push.ensures.bytes
    ∙ push-char c.args.paired c.args.c (string_bytes c.args.text.now) rest c.requires no_pair
