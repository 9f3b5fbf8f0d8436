-- The entries of a query map, step by step.
use Rattle.std.proofs.Common.{◌≡◌, sym, ◌∙◌, ap, ℕ, false, ◌==◌, List, [], ◌∷◌, length, map, Option, None, Result, Err, option_and_then}
use Rattle.std.specs.Borrow.{Bor}
use Rattle.smithy_http.specs.Facts.{named_piece}
use Rattle.smithy_schema.specs.Nodes.{Schema, Table}
use Rattle.smithy_serde.specs.Values.{Value}
use Rattle.smithy_serde.specs.declared.value.ShapeValue.{ShapeValue}
use Rattle.smithy_recovery.specs.Finding.{Finds}
use Rattle.smithy_recovery.specs.views.Keeping.{Keeps, KeepsPart}
use Rattle.smithy_recovery.specs.views.KeptQueries.{Entries, QueryNames, KeptValues, unnamed_key, value_put, under_put, pieces_put, KeepsEntries}
use Rattle.smithy_recovery.specs.views.Pieces.{NamedPieces, named_left}
use Rattle.smithy_recovery.specs.declared.error.RecoverError.{RecoverError}
use Rattle.smithy_recovery.specs.declared.error.RecoverError.TheVariants.{NotPlaced, OutOfMemory}

abbrev pub shown : List (Bor (List ℕ)) → List (List ℕ)
shown ps = map (λ p. p.now) ps

module _ (names : QueryNames) (here : Option Schema) (name : List ℕ) (es : Entries) where
  -- some pieces, by the key
  pub under_some : (ps : List (Bor (List ℕ))) → (length ps == 0) ≡ false → (o : Option (Option (List ℕ))) → unnamed_key names name ≡ o → under_put names here name (shown ps) es ≡ option_and_then (value_put here (shown ps) es) o
  under_some [] some o is = absurd (cc some)
  under_some (p ∷ ps) some o is = ap (option_and_then (value_put here (shown (p ∷ ps)) es)) is

-- a refusal of a value
value_passed : {A : Type 0} (t : Table) (show : A → Entries) (read : Option Value) (put : Option Entries) (e : RecoverError) → (read ≡ None → put ≡ None) → Keeps t read (Err e) → Finds show (Err e) put
value_passed t show read put NotPlaced h told = h told
value_passed t show read put OutOfMemory h told = tt

pub put_refused : {A : Type 0} (t : Table) (show : A → Entries) (read : Option Value) (put : Option Entries) (e : RecoverError) (r : Result A RecoverError) → r ≡ Err e → (read ≡ None → put ≡ None)
    → Keeps t read (Err e) → Finds show r put
put_refused t show read put e r is h told = rw is (value_passed t show read put e h told)

-- One piece further, by what is put under its name.
pub piece_put : (own pieces : NamedPieces) (names : QueryNames) (here : Option Schema) (piece name : List ℕ) (left rest ps : List (List ℕ)) (es : Entries) (o : Option Entries)
    → left ≡ piece ∷ rest → name ≡ (named_piece piece).0 → ps ≡ named_left own pieces name → under_put names here name ps es ≡ o
    → pieces_put own pieces names here left es ≡ option_and_then (pieces_put own pieces names here rest) o
piece_put own pieces names here piece name left rest ps es o steps is_name is_left is =
    ap (λ xs. pieces_put own pieces names here xs es) steps
    ∙ ap (option_and_then (pieces_put own pieces names here rest))
    (ap (λ n. under_put names here n (named_left own pieces n) es) (sym is_name) ∙ ap (λ xs. under_put names here name xs es) (sym is_left) ∙ is)

-- a refusal of a step
step_passed : {A B : Type 0} (t : Table) (show : A → B) (read : Option B) (whole : Option Entries) (e : RecoverError) → (read ≡ None → whole ≡ None) → Finds show (Err e) read → KeepsEntries t whole (Err e)
step_passed t show read whole NotPlaced h told = h told
step_passed t show read whole OutOfMemory h told = tt

pub entries_refused : {A B : Type 0} (t : Table) (show : A → B) (read : Option B) (whole : Option Entries) (e : RecoverError) (r : Result KeptValues RecoverError) → r ≡ Err e → (read ≡ None → whole ≡ None)
    → Finds show (Err e) read → KeepsEntries t whole r
entries_refused t show read whole e r is h told = rw is (step_passed t show read whole e h told)

-- and of the entries
part_passed : (t u : Table) (read : Option Entries) (part : Option (Option Value)) (e : RecoverError) → (read ≡ None → part ≡ None) → KeepsEntries t read (Err e) → KeepsPart u part (Err e)
part_passed t u read part NotPlaced h told = h told
part_passed t u read part OutOfMemory h told = tt

pub map_refused : (t u : Table) (read : Option Entries) (part : Option (Option Value)) (e : RecoverError) (r : Result (Option ShapeValue) RecoverError) → r ≡ Err e → (read ≡ None → part ≡ None)
    → KeepsEntries t read (Err e) → KeepsPart u part r
map_refused t u read part e r is h told = rw is (part_passed t u read part e h told)
