use Rattle.std.proofs.Common.{◌≡◌, false, length, option_map, string_bytes}
use Rattle.std.specs.Str.Iter.{chars_rest}
use Rattle.smithy_http.specs.views.ItemReading.{with_text}
use Rattle.smithy_http.specs.ListTexts.{quoted_text}
use Rattle.smithy_http.proofs.list_items.read_quoted.Given as goal

abbrev pub invariant-loop-c : goal.invariant-loop-c
invariant-loop-c l =
    option_map (with_text (string_bytes l.text)) (quoted_text l.paired (chars_rest l.chars)) ≡ quoted_text false l.fn.inner

abbrev pub decreases-loop-c : goal.decreases-loop-c
decreases-loop-c l = length (chars_rest l.chars)
