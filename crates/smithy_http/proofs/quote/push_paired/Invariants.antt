use Rattle.std.proofs.Common.{◌≡◌, ◌++◌, List, ℕ, flat_map, string_bytes}
use Rattle.std.specs.Str.Iter.{chars_rest}
use Rattle.smithy_http.specs.Quoting.{paired}
use Rattle.smithy_http.proofs.quote.push_paired.Given as goal

abbrev pub invariant-loop-c : goal.invariant-loop-c
invariant-loop-c l = record {
  added : (part : List ℕ) × (string_bytes l.list ≡ string_bytes l.fn.list ++ part);
  rest : string_bytes l.list ++ flat_map paired (chars_rest l.c-iterator) ≡ string_bytes l.fn.list ++ flat_map paired l.fn.text;
}
