use Rattle.std.proofs.Common.{Some, None}
use Rattle.std.proofs.lemmas.Bool.Decides.{Decides-eqb}
use Rattle.std.proofs.lemmas.Slice.Eq.{strip_suffix_is}
use Rattle.second_codec.proofs.SpacedTexts.{taken_off, left_on}
use Rattle.second_codec.proofs.spaced_json.without_line_feed.Goals as goal

pub returns-in-Some : goal.returns-in-Some
returns-in-Some c = taken_off _ _ _ c.as_slice.ensures (strip_suffix_is Decides-eqb _ _ (Some c.in-Some.bytes) c.in-Some.ensures.cases)

pub returns-in-None : goal.returns-in-None
returns-in-None c = left_on _ _ c.as_slice.ensures (strip_suffix_is Decides-eqb _ _ None c.in-None.ensures.cases)
