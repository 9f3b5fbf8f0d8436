use Rattle.std.proofs.lemmas.Bool.{and_parts}
use Rattle.smithy_aws.proofs.rest_json1_input.RestJson1Input.placed.Goals as goal

pub placed_by-requires-clause-checked : goal.placed_by-requires-clause-checked
placed_by-requires-clause-checked c = (and_parts _ _ (and_parts _ _ c.args.self.now.taken).0).0
