use Rattle.std.specs.Prelude.{⊤}
use Rattle.serde_json.proofs.OnLiterals.{serde_json_on_literals}
use Rattle.smithy_types.proofs.OnLiterals.{types_on_literals}
use Rattle.smithy_wire.specs.ExactNumbers.{parts_of}
use Rattle.smithy_wire.specs.WireText.{json_in, json_of, wire_held, wire_text}

-- what a proof unfolds to compute this crate's definitions on a literal
unfoldable pub wire_on_literals : ⊤
unfolding serde_json_on_literals types_on_literals parts_of json_in json_of wire_held wire_text
wire_on_literals = tt
