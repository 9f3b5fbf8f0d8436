-- The tokens of a line, one after another.
use Rattle.std.proofs.Common.{◌≡◌, refl, ap, ◌∙◌, append_assoc, codes, ℕ, List, [], ◌∷◌, ◌++◌, Option, Some, None, Result, Ok, Err}
use Rattle.json.specs.Print.{print}
use Rattle.json.specs.Token.{Token}
use Rattle.json.specs.Written.{Written, Writes}
use Rattle.serde_json.specs.Written.{compact_text}
use Rattle.serde_json.proofs.Texts.{print-outline}
use Rattle.smithy_http.specs.Requests.{Request}
use Rattle.smithy_document.specs.views.Printing.{Prints}
use Rattle.smithy_document.proofs.PrintLemmas.{IsPrinted}
use Rattle.smithy_serde.specs.declared.error.SerdeError.{SerdeError}
use Rattle.smithy_serde.specs.declared.error.SerdeError.TheVariants.{TypeMismatch, MissingMember, UnknownMember, InvalidInput, UnsupportedOperation, WriteFailed, NumericCoercionOverflow, NumericCoercionLossy, BlobDecodeFailed, TimestampParseFailed, Custom, OutOfMemory}
use Rattle.smithy_binding.specs.Faults.{Fault}
use Rattle.smithy_binding.specs.Refusing.{Answers}
use Rattle.smithy_bind.specs.Lines.{answer_line, answer_value}
use Rattle.smithy_bind.specs.Shown.{refusal_words}
use Rattle.smithy_bind.specs.views.LineView.{data_tokens, IsMade, EndsWithLine, WritesAnswer, WritesRefusal}

-- a token was written
pub wrote : {E : Type 0} {u : Unit {0}} {old new : Written} {t : Token} → Writes {E = E} (Ok u) old new t → IsPrinted (t ∷ []) old new
wrote w = (w.room.0, w.ok)

-- tokens behind those that were written
pub behind : {E : Type 0} (first rest : List Token) (r : Result (Unit {0}) E) (old mid new : Written) → IsPrinted first old mid → Prints rest mid new r → Prints (first ++ rest) old new r
behind first rest (Ok u) old mid new h p = (p.0 ∙ h.0, p.1 ∙ ap (λ ts. ts ++ rest) h.1 ∙ append_assoc old.tokens first rest)
behind first rest (Err e) old mid new h p = tt

-- what is written of a refusal is what is written of the fault that it tells
pub fault_written : {E : Type 0} (e : SerdeError) (answer : Result Request Fault) (old new : Written) (r : Result (Unit {0}) E) → Answers (Err e) answer → WritesRefusal e old new r
    → Prints (data_tokens (answer_value (Some answer))) old new r
unfolding refusal_words
fault_written (UnknownMember text) answer old new r is told = rw is told.words
fault_written (InvalidInput text) answer old new r is told = rw is told.words
fault_written (UnsupportedOperation text) answer old new r is told = rw is told.words
fault_written (Custom text) answer old new r is told = rw is told.words
fault_written OutOfMemory answer old new (Ok u) is told = absurd (told.memory refl)
fault_written OutOfMemory answer old new (Err e) is told = tt
fault_written (TypeMismatch message) answer old new r is told = absurd is
fault_written (MissingMember name) answer old new r is told = absurd is
fault_written (WriteFailed message) answer old new r is told = absurd is
fault_written (NumericCoercionOverflow target value) answer old new r is told = absurd is
fault_written (NumericCoercionLossy target value) answer old new r is told = absurd is
fault_written (BlobDecodeFailed message) answer old new r is told = absurd is
fault_written (TimestampParseFailed message) answer old new r is told = absurd is

-- what came of an input, by its form

pub answer-request : {E : Type 0} (old new : Written) (request : Request) (r : Result (Unit {0}) E) → Prints (data_tokens (answer_value (Some (Ok request)))) old new r → WritesAnswer (Some (Ok request)) old new r
answer-request old new request r p = go
  where
    go : (answer : Option (Result Request Fault)) → IsMade (Some (Ok request)) answer → Prints (data_tokens (answer_value answer)) old new r
    go None is = absurd is
    go (Some answer) is = rw is p

pub answer-refused : {E : Type 0} (old new : Written) (e : SerdeError) (r : Result (Unit {0}) E) → WritesRefusal e old new r → WritesAnswer (Some (Err e)) old new r
answer-refused old new e r told = go
  where
    go : (answer : Option (Result Request Fault)) → IsMade (Some (Err e)) answer → Prints (data_tokens (answer_value answer)) old new r
    go None is = absurd is
    go (Some answer) is = fault_written e answer old new r is told

pub answer-none : {E : Type 0} (old new : Written) (r : Result (Unit {0}) E) → Prints (data_tokens (answer_value None)) old new r → WritesAnswer None old new r
answer-none old new r p = go
  where
    go : (answer : Option (Result Request Fault)) → IsMade None answer → Prints (data_tokens (answer_value answer)) old new r
    go None is = p
    go (Some answer) is = absurd is

-- what was written behind lines, as their last one
pub line_written : (made : Option (Result Request SerdeError)) (old new : Written) (lines text : List ℕ) → old.before ≡ lines → old.tokens ≡ []
    → ((answer : Option (Result Request Fault)) → IsMade made answer → IsPrinted (data_tokens (answer_value answer)) old new) → text ≡ (new.before ++ print new.tokens) ++ codes "\n"
    → EndsWithLine made lines text
unfolding answer_line
line_written made old new lines text before tokens written is = λ answer made_so.
    let printed = written answer made_so in
    is ∙ ap (λ line. line ++ codes "\n")
    ((λ i. (printed.0 ∙ before) i ++ print ((printed.1 ∙ ap (λ ts. ts ++ data_tokens (answer_value answer)) tokens) i)) ∙ ap (λ line. lines ++ line) (print-outline (answer_value answer)))
    ∙ append_assoc lines (compact_text (answer_value answer)) (codes "\n")

-- a line behind others
pub line_added : (made : Option (Result Request SerdeError)) (lines line text : List ℕ) → text ≡ lines ++ line → EndsWithLine made [] line → EndsWithLine made lines text
line_added made lines line text is ends = λ answer made_so. is ∙ ap (λ l. lines ++ l) (ends answer made_so)
