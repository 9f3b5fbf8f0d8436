-- Counts of faults, and whether the last read was one.
use Rattle.std.specs.Prelude.{◌≡◌, ℕ, ◌+◌, ◌≤◌, min, Bool, true, false, Result, Ok, Err}
use Rattle.smithy_io.specs.declared.streams.ReadError.{ReadError}
use Rattle.smithy_io.specs.declared.streams.ReadError.TheVariants.{Failed, TooLong, OutOfMemory}

-- the last value of a count of faults, the greatest number of 64 bits
abbrev pub last_count : ℕ
last_count = 18446744073709551615

-- a count after one more fault
abbrev pub next_count : ℕ → ℕ
next_count count = min (count + 1) last_count

-- the count rose, or stands at its last value, which is taken as risen
abbrev pub Rose : ℕ → ℕ → Type 0
Rose before after = next_count before ≤ after

-- one read failed, and it was the last: nothing was read on after it
abbrev pub Stopped : ℕ → ℕ → Bool → Type 0
Stopped before after has_failed = (after ≡ next_count before) × (has_failed ≡ true)

-- no read failed, and there was one
abbrev pub WentWell : ℕ → ℕ → Bool → Type 0
WentWell before after has_failed = (after ≡ before) × (has_failed ≡ false)

-- reading ended so: it stopped at the first fault, or nothing failed
abbrev pub Stops : {A : Type 0} → Result A ReadError → ℕ → ℕ → Bool → Type 0
Stops (Err Failed) before after has_failed = Stopped before after has_failed
Stops (Err TooLong) before after has_failed = after ≡ before
Stops (Err OutOfMemory) before after has_failed = after ≡ before
Stops (Ok x) before after has_failed = after ≡ before
