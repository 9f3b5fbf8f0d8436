-- The commands by a protocol of AWS over jobs that name none.
use Rattle.std.specs.Prelude.{◌≡◌, ℕ, codes, List, None, option_and_then}
use Rattle.serde_json.specs.Find.{get}
use Rattle.smithy_json.specs.FromText.{json_of}
use Rattle.smithy_binding.specs.Placing.{Protocol}
use Rattle.smithy_bind.specs.Outcome.{answer_over}
use Rattle.smithy_bind.specs.declared.command.Command.TheVariants.{AwsRequest, AwsResponse, Request, Response}

-- they are no JSON, or their value has no such key
abbrev pub NamesNoProtocol : List ℕ → Type 0
NamesNoProtocol bytes = option_and_then (get (codes "protocol")) (json_of bytes) ≡ None

-- the commands answer what those do that know of no protocol
pub record IsPlain (bodies : Protocol) (bytes : List ℕ) : Type 0 where
  pub request : answer_over bodies AwsRequest bytes ≡ answer_over bodies Request bytes
  pub response : answer_over bodies AwsResponse bytes ≡ answer_over bodies Response bytes

abbrev pub AwsIsPlain : Type 0
AwsIsPlain = (bodies : Protocol) (bytes : List ℕ) → NamesNoProtocol bytes → IsPlain bodies bytes
