-- What a source gave and what a sink gained, where they tell it.
use Rattle.std.specs.Prelude.{◌≡◌, ℕ, ◌+◌, ◌<◌, ◌≤◌, ◌↔◌, List, [], ◌++◌, length, take, Option, Some, None}

-- what is told stays as it is
abbrev pub Keeps : Option (List ℕ) → Option (List ℕ) → Type 0
Keeps None after = Unit {0}
Keeps (Some bytes) after = after ≡ Some bytes

-- these were the first of the bytes to come, and the rest is still to come
abbrev pub Gave : Option (List ℕ) → List ℕ → Option (List ℕ) → Type 0
Gave None given after = Unit {0}
Gave (Some all) given after = (rest : List ℕ) × (after ≡ Some rest) × (all ≡ given ++ rest)

-- none came exactly where none were left
abbrev pub EndsAt : ℕ → Option (List ℕ) → Type 0
EndsAt n None = Unit {0}
EndsAt n (Some all) = n ≡ 0 ↔ all ≡ []

-- the bytes are all that the source had, and it has none left
abbrev pub IsWhole : Option (List ℕ) → List ℕ → Option (List ℕ) → Type 0
IsWhole None bytes after = Unit {0}
IsWhole (Some all) bytes after = (bytes ≡ all) × (after ≡ Some [])

-- the most bytes that an input may have: 16 MiB
abbrev pub max_job_len : ℕ
max_job_len = 16777216

-- exactly one byte more than the most was read
abbrev pub IsTooLong : ℕ → Option (List ℕ) → Option (List ℕ) → Type 0
IsTooLong most before after = (given : List ℕ) × (length given ≡ most + 1) × Gave before given after

-- the source had more than the most bytes of an input
abbrev pub HasTooMuch : Option (List ℕ) → Option (List ℕ) → Type 0
HasTooMuch before after = IsTooLong max_job_len before after

-- a part was read, and at most one byte more than the most
abbrev pub HasReadPart : ℕ → Option (List ℕ) → Option (List ℕ) → Type 0
HasReadPart most before after = (given : List ℕ) × (length given ≤ most + 1) × Gave before given after

-- these were added
abbrev pub Gained : Option (List ℕ) → List ℕ → Option (List ℕ) → Type 0
Gained None gain after = Unit {0}
Gained (Some before) gain after = after ≡ Some (before ++ gain)

-- the first n of these were added, and n is less than all of them
abbrev pub GainedPart : Option (List ℕ) → List ℕ → Option (List ℕ) → Type 0
GainedPart before whole after = (n : ℕ) × (n < length whole) × Gained before (take n whole) after

-- as many bytes as there is room for are there, where they are told
abbrev pub IsFull : ℕ → Option (List ℕ) → Type 0
IsFull room None = Unit {0}
IsFull room (Some bytes) = room ≤ length bytes
