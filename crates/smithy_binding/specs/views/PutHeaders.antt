-- What the headers of a member put into the headers of a message.
use Rattle.std.specs.Prelude.{◌≡◌, ℕ, List, [], ◌∷◌, ◌++◌, map, None, OnOk, IfErr}
use Rattle.smithy_binding.specs.Words.{str_to_ascii_lowercase, Schema, Table, to_header, schema_of, SchemaRef, Answer, WriteList, writes_in, text_of_key, put_all}
use Rattle.smithy_binding.specs.Bindings.{inserted_at, entries_of}
use Rattle.smithy_binding.specs.Faults.{pairs_fault}
use Rattle.smithy_binding.specs.Refusing.{IsTold}
use Rattle.smithy_binding.specs.views.Directed.{directed_of}
use Rattle.smithy_binding.specs.views.StoredTexts.{list_in}
use Rattle.smithy_binding.specs.declared.direction.DirectedSchema.{DirectedSchema}

-- a header of a list, put in place of an earlier one
abbrev pub PutsList : List ℕ → DirectedSchema → Table → WriteList → List (List ℕ × List ℕ) → List (List ℕ × List ℕ) → Type 0
PutsList name m t ws old new = new ≡ put_all old (inserted_at (to_header name) (directed_of m) (list_in t ws))

-- What headers of a member put into the headers: none is wrong, and each is put in place of an earlier one with its name; or
-- the first wrong one is told.
pub record PutsPairs (m : Schema) (pairs old new : List (List ℕ × List ℕ)) (result : Answer) : Type 0 where
  pub ok : OnOk result (pairs_fault m pairs ≡ None)
  pub put : OnOk result (new ≡ put_all old pairs)
  pub err : IfErr result (IsTold (pairs_fault m pairs))

-- one header
abbrev pub PutsHeader : SchemaRef → List ℕ → List ℕ → List (List ℕ × List ℕ) → List (List ℕ × List ℕ) → Answer → Type 0
PutsHeader m name value old new result = PutsPairs (schema_of m) ((str_to_ascii_lowercase name, value) ∷ []) old new result

-- the headers of stored entries behind a prefix
abbrev pub prefixed : List ℕ → Table → WriteList → List (List ℕ × List ℕ)
prefixed prefix t ws = map (λ e. (str_to_ascii_lowercase (prefix ++ e.0), text_of_key e.1)) (entries_of (writes_in t ws))

-- they are put
abbrev pub PutsPrefixed : DirectedSchema → List ℕ → Table → WriteList → List (List ℕ × List ℕ) → List (List ℕ × List ℕ) → Answer → Type 0
PutsPrefixed m prefix t ws old new result = PutsPairs (directed_of m) (prefixed prefix t ws) old new result
