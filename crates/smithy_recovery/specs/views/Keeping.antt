-- What is kept of what is read, as stored values over a table.
use Rattle.std.specs.Prelude.{◌≡◌, ℕ, List, [], ◌∷◌, Option, Some, None, Result, Ok, Err, IfOk, option_map}
use Rattle.smithy_http.specs.Facts.{values_of_name}
use Rattle.smithy_schema.specs.Nodes.{Schema, Table}
use Rattle.smithy_serde.specs.Held.{Held}
use Rattle.smithy_serde.specs.StoredValues.{value_in, writes_in, IsDefined, AreDefined}
use Rattle.smithy_serde.specs.Values.{Value, Write, list_of}
use Rattle.smithy_serde.specs.declared.value.ShapeValue.{ShapeValue}
use Rattle.smithy_serde.specs.declared.value.WriteList.{WriteList}
use Rattle.smithy_recovery.specs.declared.error.RecoverError.{RecoverError}
use Rattle.smithy_recovery.specs.declared.error.RecoverError.TheVariants.{NotPlaced, OutOfMemory}

-- the value that was read, with nodes of the table alone
pub record IsValueRead (t : Table) (read : Option Value) (v : ShapeValue) : Type 0 where
  pub value : read ≡ Some (value_in t v)
  pub defined : IsDefined t v

-- an outcome of code is the value that was read; none where it is refused, and want of memory is free
abbrev pub Keeps : Table → Option Value → Result ShapeValue RecoverError → Type 0
Keeps t read (Ok v) = IsValueRead t read v
Keeps t read (Err NotPlaced) = read ≡ None
Keeps t read (Err OutOfMemory) = Unit {0}

-- what a node's reading gives is kept over its table
abbrev pub KeepsOf : Schema → (Schema → Option Value) → Result ShapeValue RecoverError → Type 0
KeepsOf m read result = Keeps m.table (read m) result

-- what is read of a text is kept where it is the one value of a header
abbrev pub KeepsText : Schema → (Schema → List ℕ → Option Value) → (name : List ℕ) → List (List ℕ × List ℕ) → (text : List ℕ) → Result ShapeValue RecoverError → Type 0
KeepsText m read name headers text result = values_of_name name headers ≡ text ∷ [] → Keeps m.table (read m text) result

-- what is read of the one value of a header is kept
abbrev pub KeepsOnly : Schema → (Schema → List ℕ → Option Value) → (name : List ℕ) → List (List ℕ × List ℕ) → Result ShapeValue RecoverError → Type 0
KeepsOnly m read name headers result = (text : List ℕ) → KeepsText m read name headers text result

-- what is kept is a value with nodes of the table alone
abbrev pub KeepsDefined : Table → Result ShapeValue RecoverError → Type 0
KeepsDefined t result = IfOk result (λ v. IsDefined t v)

-- what is read of what a reader has at hand is kept where that is told
pub record KeepsHeld (t : Table) (told : Option Held) (read : Held → Option Value) (result : Result ShapeValue RecoverError) : Type 0 where
  pub value : (h : Held) → told ≡ Some h → Keeps t (read h) result
  pub defined : KeepsDefined t result

-- the part that was read of a member: a value, or nothing
abbrev pub IsPartRead : Table → Option (Option Value) → Option ShapeValue → Type 0
IsPartRead t part (Some v) = (part ≡ Some (Some (value_in t v))) × IsDefined t v
IsPartRead t part None = part ≡ Some None

abbrev pub KeepsPart : Table → Option (Option Value) → Result (Option ShapeValue) RecoverError → Type 0
KeepsPart t part (Ok o) = IsPartRead t part o
KeepsPart t part (Err NotPlaced) = part ≡ None
KeepsPart t part (Err OutOfMemory) = Unit {0}

-- what is kept of a value is kept as what stands there of a member
abbrev pub KeepsWritten : (value : Result ShapeValue RecoverError) → Result (Option ShapeValue) RecoverError → Type 0
KeepsWritten value result = (t : Table) (read : Option Value) → Keeps t read value → KeepsPart t (option_map (λ v. Some v) read) result

abbrev pub KeepsPartOf : Schema → (Schema → Option (Option Value)) → Result (Option ShapeValue) RecoverError → Type 0
KeepsPartOf m part result = KeepsPart m.table (part m) result

-- the writes that were read
pub record AreWritesRead (t : Table) (read : Option (List Write)) (ws : WriteList) : Type 0 where
  pub writes : read ≡ Some (list_of (writes_in t ws))
  pub defined : AreDefined t ws

abbrev pub KeepsWrites : Table → Option (List Write) → Result WriteList RecoverError → Type 0
KeepsWrites t read (Ok ws) = AreWritesRead t read ws
KeepsWrites t read (Err NotPlaced) = read ≡ None
KeepsWrites t read (Err OutOfMemory) = Unit {0}

pub record KeepsMembers (t : Table) (told : Option Held) (read : Held → Option (List Write)) (result : Result WriteList RecoverError) : Type 0 where
  pub writes : (h : Held) → told ≡ Some h → KeepsWrites t (read h) result
  pub defined : IfOk result (λ ws. AreDefined t ws)
