-- What came of one input, and the tokens of its line, as the code writes them.
use Rattle.std.specs.Prelude.{◌≡◌, ℕ, codes, decimal, List, [], ◌∷◌, ◌++◌, Option, Some, None, Result, OnOk}
use Rattle.json.specs.Token as token
use Rattle.json.specs.Token.{Token}
use Rattle.json.specs.Tree.{json_tokens, items_tokens}
use Rattle.json.specs.Written.{Written}
use Rattle.serde_json.specs.Data.{Data}
use Rattle.serde_json.specs.Written.{outline, items_outline}
use Rattle.smithy_http.specs.Requests.{Request}
use Rattle.smithy_serde.specs.declared.error.SerdeError.{SerdeError}
use Rattle.smithy_serde.specs.declared.error.SerdeError.TheVariants as refusal
use Rattle.smithy_document.specs.views.Printing.{Prints}
use Rattle.smithy_binding.specs.Faults.{Fault}
use Rattle.smithy_binding.specs.Refusing.{Answers}
use Rattle.smithy_bind.specs.Lines.{answer_line, answer_value, fault_value, header_values}
use Rattle.smithy_bind.specs.Shown.{refusal_words}

abbrev pub data_tokens : Data → List Token
data_tokens d = json_tokens (outline d)

-- those of headers, with the closing bracket
abbrev pub headers_tokens : List (List ℕ × List ℕ) → List Token
headers_tokens hs = items_tokens (items_outline (header_values hs))

-- those of the begin of an object with a status
abbrev pub status_tokens : ℕ → List Token
status_tokens n = token.begin_object ∷ token.key (codes "status") ∷ token.number (decimal n) ∷ []

-- what the code made of an input is this answer
abbrev pub IsMade : Option (Result Request SerdeError) → Option (Result Request Fault) → Type 0
IsMade (Some made) (Some answer) = Answers made answer
IsMade None None = Unit {0}
IsMade _ _ = ⊥

-- a refusal is written in its words; want of memory is passed on
pub record WritesRefusal {E : Type 0} (e : SerdeError) (old new : Written) (result : Result (Unit {0}) E) : Type 0 where
  pub words : Prints (data_tokens (fault_value (refusal_words e))) old new result
  pub memory : e ≡ refusal.OutOfMemory → OnOk result ⊥

-- it is written of what the code made of an input
abbrev pub WritesAnswer : {E : Type 0} → Option (Result Request SerdeError) → Written → Written → Result (Unit {0}) E → Type 0
WritesAnswer made old new result = (answer : Option (Result Request Fault)) → IsMade made answer → Prints (data_tokens (answer_value answer)) old new result

-- they are the lines, and behind them that of what the code made of an input
abbrev pub EndsWithLine : Option (Result Request SerdeError) → List ℕ → List ℕ → Type 0
EndsWithLine made lines more = (answer : Option (Result Request Fault)) → IsMade made answer → more ≡ lines ++ answer_line answer
