-- Sources and sinks in memory: what they hold, and what each call does.
use Rattle.std.specs.Prelude.{ℕ, ◌+◌, ◌-◌, min, nat_le, nat_lt, Bool, not, ◌&&◌, ◌||◌, ◌==◌, List, [], ◌++◌, length, drop, ℤ, pos, Some}
use Rattle.std.specs.List.{list_any}
use Rattle.std.specs.Ordering.{int_eq}
use Rattle.smithy_io.specs.Causes.{next_count}
use Rattle.smithy_io.specs.Streams.{Gave}

-- the number of the next call, counted from 1; it stays at the greatest number of 64 bits with a sign
abbrev pub next_call : ℕ → ℕ
next_call calls = min (calls + 1) 9223372036854775807

-- the call of this number is listed
abbrev pub is_listed : List ℤ → ℕ → Bool
is_listed failing call = list_any (λ n. int_eq n (pos call)) failing

-- a source in memory
pub record SourceState : Type 0 where
  pub left : List ℕ
  -- how many bytes a call gives at most
  pub piece : ℕ
  -- the numbers of the calls that fail
  pub failing : List ℤ
  -- the number of the last call
  pub calls : ℕ
  pub faults : ℕ

-- the next call fails
abbrev pub fails_to_give : SourceState → Bool
fails_to_give s = is_listed s.failing (next_call s.calls)

-- there was a call, and the last one failed
abbrev pub has_failed_to_give : SourceState → Bool
has_failed_to_give s = nat_lt 0 s.calls && is_listed s.failing s.calls

-- how many bytes the next call gives for a buffer of this size
abbrev pub given_count : SourceState → ℕ → ℕ
given_count s size = min (min size s.piece) (length s.left)

-- after a call that gave so many bytes
abbrev pub gave : SourceState → ℕ → SourceState
gave s n = record s { left = drop n s.left; calls = next_call s.calls }

-- after a call that failed
abbrev pub failed_to_give : SourceState → SourceState
failed_to_give s = record s { calls = next_call s.calls; faults = next_count s.faults }

-- a sink in memory
pub record SinkState : Type 0 where
  pub written : List ℕ
  -- how many bytes it takes in all
  pub room : ℕ
  -- how many bytes a call takes at most
  pub piece : ℕ
  -- the numbers of the calls that fail
  pub failing : List ℤ
  -- the number of the last call
  pub calls : ℕ
  pub faults : ℕ

-- a sink that was never called
abbrev pub empty_sink : ℕ → ℕ → List ℤ → SinkState
empty_sink room piece failing = record { written = []; room = room; piece = piece; failing = failing; calls = 0; faults = 0 }

-- a piece that isn't empty comes when the room is full
abbrev pub is_over_full : ℕ → ℕ → ℕ → Bool
is_over_full room used size = nat_le room used && not (size == 0)

-- the next call fails for a piece of this size
abbrev pub fails_to_take : SinkState → ℕ → Bool
fails_to_take s size = is_listed s.failing (next_call s.calls) || is_over_full s.room (length s.written) size

-- how many bytes the next call takes of a piece of this size
abbrev pub taken_count : SinkState → ℕ → ℕ
taken_count s size = min (min size s.piece) (s.room - length s.written)

-- after a call that took these bytes
abbrev pub took : SinkState → List ℕ → SinkState
took s bytes = record s { written = s.written ++ bytes; calls = next_call s.calls }

-- after a call that failed
abbrev pub failed_to_take : SinkState → SinkState
failed_to_take s = record s { calls = next_call s.calls; faults = next_count s.faults }

-- a sink in memory that fails only where it is full
pub record SureSinkState : Type 0 where
  pub written : List ℕ
  -- how many bytes it takes in all
  pub room : ℕ
  pub faults : ℕ

-- a piece of this size that isn't empty comes when the room is full
abbrev pub is_overflowing : SureSinkState → ℕ → Bool
is_overflowing s size = is_over_full s.room (length s.written) size

-- after a call that took these bytes
abbrev pub with_more : SureSinkState → List ℕ → SureSinkState
with_more s bytes = record s { written = s.written ++ bytes }

-- from a place on, so many of the bytes were given
abbrev pub GaveFrom : List ℕ → ℕ → List ℕ → ℕ → Type 0
GaveFrom bytes done given n = Gave (Some (drop done bytes)) given (Some (drop (done + n) bytes))
