-- What the commands by a protocol of AWS answer to jobs that name none.
use Rattle.std.proofs.Common.{◌≡◌, refl, codes, ℕ, List, Option, Some, None, option_and_then}
use Rattle.std.specs.Option.{option_map_or}
use Rattle.serde_json.specs.Data.{Data}
use Rattle.serde_json.specs.Find.{get}
use Rattle.smithy_json.specs.FromText.{json_of}
use Rattle.smithy_binding.specs.Placing.{Protocol}
use Rattle.smithy_bind.specs.AwsResponding.{aws_responded}
use Rattle.smithy_bind.specs.Outcome.{answer_to, aws_requested}
use Rattle.smithy_bind.specs.Plain.{IsPlain, NamesNoProtocol}
use Rattle.smithy_bind.specs.Told.{no_job}
use Rattle.smithy_bind.specs.declared.command.Command.TheVariants.{AwsRequest, AwsResponse, Request, Response}

request_plain : (bodies : Protocol) (o : Option Data) → option_and_then (get (codes "protocol")) o ≡ None
    → option_map_or (answer_to bodies AwsRequest) o no_job ≡ option_map_or (answer_to bodies Request) o no_job
unfolding aws_requested
request_plain bodies (Some d) none = rw none refl
request_plain bodies None none = refl

response_plain : (bodies : Protocol) (o : Option Data) → option_and_then (get (codes "protocol")) o ≡ None
    → option_map_or (answer_to bodies AwsResponse) o no_job ≡ option_map_or (answer_to bodies Response) o no_job
unfolding aws_responded
response_plain bodies (Some d) none = rw none refl
response_plain bodies None none = refl

pub is_plain : (bodies : Protocol) (bytes : List ℕ) → NamesNoProtocol bytes → IsPlain bodies bytes
is_plain bodies bytes none = record { request = request_plain bodies (json_of bytes) none; response = response_plain bodies (json_of bytes) none }
