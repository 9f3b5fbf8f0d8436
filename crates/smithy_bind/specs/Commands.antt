-- The commands of the program.
use Rattle.std.specs.Prelude.{ℕ, nat_le, codes, List, [], ◌∷◌, length, Bool, true, false, ◌&&◌, Option, Some, None, option_map, if◌then◌else◌}
use Rattle.std.specs.Option.{option_map_or}
use Rattle.std.specs.Str.Parse.{digits_value}
use Rattle.smithy_types.specs.BigNumbers.{are_digits}
use Rattle.smithy_model.specs.Names.{is}
use Rattle.smithy_job.specs.declared.job_kind.JobKind.{JobKind}
use Rattle.smithy_job.specs.declared.job_kind.JobKind.TheVariants as kind
use Rattle.smithy_bind.specs.declared.command.Command.{Command}
use Rattle.smithy_bind.specs.declared.command.Command.TheVariants.{Request, Requests, Response, Responses, Rpc, Recover, Route, Gateway, Answer, AwsRequest, AwsResponse, Explain, Generate, Help, Version}

-- the commands that are one word
abbrev pub named : List (List ℕ × Command)
named =
    (codes "request", Request)
    ∷ (codes "requests", Requests)
    ∷ (codes "response", Response)
    ∷ (codes "responses", Responses)
    ∷ (codes "rpc", Rpc)
    ∷ (codes "recover", Recover)
    ∷ (codes "route", Route)
    ∷ (codes "gateway", Gateway)
    ∷ (codes "answer", Answer)
    ∷ (codes "--help", Help)
    ∷ (codes "--version", Version)
    ∷ []

-- the commands of a job, each as `explain` names it
abbrev pub jobs : List (List ℕ × JobKind)
jobs =
    (codes "request", kind.Request)
    ∷ (codes "requests", kind.Requests)
    ∷ (codes "rpc", kind.Rpc)
    ∷ (codes "response", kind.Response)
    ∷ (codes "responses", kind.Responses)
    ∷ (codes "recover", kind.Recover)
    ∷ (codes "route", kind.Route)
    ∷ (codes "gateway", kind.Gateway)
    ∷ (codes "answer", kind.Answer)
    ∷ []

-- the commands of a job by a protocol of AWS
abbrev pub aws_jobs : List (List ℕ × Command)
aws_jobs = (codes "request", AwsRequest) ∷ (codes "response", AwsResponse) ∷ []

-- the first of these that the word names
abbrev pub named_in : {A : Type 0} → List (List ℕ × A) → List ℕ → Option A
named_in [] word = None
named_in (c ∷ cs) word = if is word c.0 then Some c.1 else named_in cs word

abbrev pub command_named : List ℕ → Option Command
command_named word = named_in named word

abbrev pub job_named : List ℕ → Option JobKind
job_named word = named_in jobs word

abbrev pub aws_named : List ℕ → Option Command
aws_named word = named_in aws_jobs word

-- one to six digits that write at most 100,000
unfoldable pub count_of : List ℕ → Option ℕ
count_of word =
    if are_digits word && nat_le (length word) 6 && nat_le (digits_value 10 word) 100000 then Some (digits_value 10 word) else None

-- the command of a word with a count, or with the command of a job, or of one by a protocol of AWS, behind it
abbrev pub command_with : List ℕ → List ℕ → Option Command
command_with word further =
    if is word (codes "generate") then option_map Generate (count_of further)
    else if is word (codes "explain") then option_map Explain (job_named further)
    else if is word (codes "aws") then aws_named further
    else None

-- the command that the words are, of one word or of two
abbrev pub command_of : List (List ℕ) → Option Command
command_of (word ∷ []) = command_named word
command_of (word ∷ further ∷ []) = command_with word further
command_of _ = None

-- the command of a job
abbrev pub command_for : JobKind → Command
command_for kind.Request = Request
command_for kind.Requests = Requests
command_for kind.Rpc = Rpc
command_for kind.Response = Response
command_for kind.Responses = Responses
command_for kind.Recover = Recover
command_for kind.Route = Route
command_for kind.Gateway = Gateway
command_for kind.Answer = Answer

-- the command reads its input
abbrev pub reads_input : Command → Bool
reads_input (Generate n) = false
reads_input Help = false
reads_input Version = false
reads_input _ = true

-- what is asked for is a command that reads its input
abbrev pub is_reading : Option Command → Bool
is_reading c = option_map_or reads_input c false
