-- What a run reads and writes.
use Rattle.std.specs.Prelude.{◌≡◌, ℕ, ◌<◌, ◌⊎◌, ◌↔◌, List, [], length, Bool, true, false, if◌then◌else◌, Option, Some, None, IfSome, is_some}
use Rattle.smithy_io.specs.Causes.{Rose, Stopped}
use Rattle.smithy_io.specs.Memory.{SureSinkState}
use Rattle.smithy_io.specs.Streams.{max_job_len, Gained, GainedPart, IsFull, Keeps, IsTooLong, HasReadPart}
use Rattle.smithy_io.specs.declared.sink.Sink as sinks
use Rattle.smithy_io.specs.declared.source.Source as sources
use Rattle.smithy_bind.specs.Commands.{is_reading}
use Rattle.smithy_bind.specs.Ends.{Asked, asks_by, due, due_at, text_of, IsSettled, IsSilent}
use Rattle.smithy_bind.specs.Outcome.{outcome}
use Rattle.smithy_bind.specs.declared.ended.Ended.{Ended}
use Rattle.smithy_bind.specs.declared.ended.Status.{Status}
use Rattle.smithy_bind.specs.declared.ended.Status.TheVariants.{Done, Usage, Job, Fault, Read, Write, Memory, TooLong}

-- nothing is left
abbrev pub IsAtEnd : Option (List ℕ) → Option (List ℕ) → Type 0
IsAtEnd None after = Unit {0}
IsAtEnd (Some all) after = after ≡ Some []

-- what the source has left after a run that reads, where it had these bytes
abbrev pub HasRead : Status → Option (List ℕ) → Option (List ℕ) → Type 0
HasRead Done before after = IsAtEnd before after
HasRead Job before after = IsAtEnd before after
HasRead Fault before after = IsAtEnd before after
HasRead Write before after = IsAtEnd before after
HasRead TooLong before after = IsTooLong max_job_len before after
HasRead Read before after = HasReadPart max_job_len before after
HasRead Memory before after = HasReadPart max_job_len before after
HasRead Usage before after = Unit {0}

-- The faults of the source after a run: at `Read` there was one, by its last read, so nothing was read on after it; at each
-- other end there was none.
abbrev pub StopsReading : Status → ℕ → ℕ → Bool → Type 0
StopsReading Read before after has_failed = Stopped before after has_failed
StopsReading _ before after has_failed = after ≡ before

-- what the sink gained, of this text
abbrev pub HasWritten : Status → Option (List ℕ) → List ℕ → Option (List ℕ) → Type 0
HasWritten Done before text after = Gained before text after
HasWritten Fault before text after = Gained before text after
HasWritten Write before text after = GainedPart before text after
HasWritten _ before text after = Keeps before after

-- the bytes of a run's input, where they are told: those that its source has left, and none where it reads no input
abbrev pub input_of : Asked → Option (List ℕ) → Option (List ℕ)
input_of asked left = if is_reading asked.command then left else Some []

-- the sink failed, behind a first part of the text
pub record Fails {K : Type 0} (sink : sinks.Ghosts K) (ended : Ended) (old new : K) (result : Status) : Type 0 where
  pub end : result ≡ Write
  pub part : GainedPart (sink.written old) ended.text.items (sink.written new)
  pub write : Rose (sink.faults old) (sink.faults new)
  pub sure : IsFull (sink.room new) (sink.written new)

-- the whole text was written, and the end stays, or the sink failed
pub record Writes {K : Type 0} (sink : sinks.Ghosts K) (ended : Ended) (old new : K) (result : Status) : Type 0 where
  pub outcome : ((result ≡ ended.status) × Gained (sink.written old) ended.text.items (sink.written new)) ⊎ Fails sink ended old new result
  pub room : sink.room new ≡ sink.room old

-- How a run goes that is asked this, over a source and a sink before and after it.
pub record Ran {S K : Type 0} (source : sources.Ghosts S) (sink : sinks.Ghosts K) (asked : Asked) (before after : S) (old new : K) (result : Status) : Type 0 where
  -- each end but those of a fault outside and of want of memory comes exactly where it is due
  pub due : IfSome (input_of asked (source.left before)) (λ bytes. IsSettled result → result ≡ due_at asked bytes)
  pub usage : result ≡ Usage ↔ is_some asked.command ≡ false
  pub untouched : result ≡ Usage → (after ≡ before) × (new ≡ old)
  pub unread : is_reading asked.command ≡ false → after ≡ before
  pub has_read : is_reading asked.command ≡ true → HasRead result (source.left before) (source.left after)
  pub has_written : IfSome (input_of asked (source.left before))
      (λ bytes. HasWritten result (sink.written old) (text_of (asked.answer bytes)) (sink.written new))
  -- whatever the source tells, these ends leave the sink as it was
  pub silent : IsSilent result → Keeps (sink.written old) (sink.written new)
  pub read : StopsReading result (source.faults before) (source.faults after) (source.has_failed after)
  pub write : result ≡ Write → Rose (sink.faults old) (sink.faults new)
  pub room : sink.room new ≡ sink.room old
  pub sure : result ≡ Write → IsFull (sink.room new) (sink.written new)

-- How a run goes over bytes that can't fail, into a fresh sink that takes as many bytes as it has room for.
pub record RanInMemory (words : List (List ℕ)) (bytes : List ℕ) (old new : SureSinkState) (result : Status) : Type 0 where
  pub due : IfSome (input_of (asks_by words) (Some bytes))
      (λ input. length (text_of (outcome words input)) < old.room → (result ≡ due words input) ⊎ (result ≡ Memory))
  pub has_written : IfSome (input_of (asks_by words) (Some bytes))
      (λ input. HasWritten result (Some old.written) (text_of (outcome words input)) (Some new.written))
