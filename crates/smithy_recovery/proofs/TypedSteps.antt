-- The tests of writes, a write at a time.
use Rattle.std.proofs.Common.{◌≡◌, refl, sym, ◌∙◌, ap, ℕ, ◌+◌, ◌*◌, ◌/◌, ◌<◌, ◌≤◌, Bool, true, false, not, ◌&&◌, ◌||◌, ◌==◌, eq-eqb, List, [], ◌∷◌, ◌++◌, length, Option, Some, None, option_map, IfSome, Result, Ok, Err}
use Rattle.std.specs.Cmp.Lexicographic.{same_text as same_from_test}
use Rattle.std.specs.List.{list_all, list_any}
use Rattle.std.specs.Str.{str_to_ascii_lowercase}
use Rattle.std.specs.Char.{to_ascii_lowercase}
use Rattle.std.proofs.lemmas.List.{length-map, length-append}
use Rattle.smithy_types.specs.Texts.{is_one_of, same_text}
use Rattle.smithy_ids.specs.declared.traits.TimestampFormat.{TimestampFormat}
use Rattle.smithy_schema.specs.Nodes.{Node, Schema, Table, node_at, cited}
use Rattle.smithy_schema.specs.References.{schema_of}
use Rattle.smithy_schema.specs.declared.schema_ref.SchemaRef.{SchemaRef}
use Rattle.smithy_serde.specs.StoredValues.{label_at, listed, value_in, write_in}
use Rattle.smithy_serde.specs.Values.{Writes, list_of}
use Rattle.smithy_serde.specs.declared.value.OneWrite.{OneWrite}
use Rattle.smithy_serde.specs.declared.value.ShapeValue.{ShapeValue}
use Rattle.smithy_binding.proofs.MapEntries.{headers_from, headers-at, headers-end}
use Rattle.smithy_binding.specs.Checked.{same_format}
use Rattle.smithy_binding.specs.Typed.{default_names}
use Rattle.smithy_binding.specs.views.Entries.{text_at}
use Rattle.smithy_recovery.specs.views.Testing.{Tests, may_be_default}
use Rattle.smithy_recovery.specs.TypedWrites.{have_format, is_typed_text, has_no_default, is_typed_entries, is_default_behind, is_typed_write, has_typed_writes}
use Rattle.std.proofs.lemmas.Bool.{or_parts}

-- a member stands in the table of its schema
pub cited_table : (s : Schema) (place : Option ℕ) (o : Option SchemaRef) → option_map schema_of o ≡ cited s place → IfSome o (λ m. (schema_of m).table ≡ s.table)
cited_table s place None e = tt
cited_table s None (Some m) e = absurd (cc e)
cited_table s (Some p) (Some m) e = go (node_at s.table p) e
  where
    go : (n : Option Node) → Some (schema_of m) ≡ option_map (λ n. record { table = s.table; node = n }) n → (schema_of m).table ≡ s.table
    go None h = absurd (cc h)
    go (Some n) h = let same : schema_of m ≡ record { table = s.table; node = n } = cc h in ap (λ x. x.table) same

-- the time formats of elements
module _ (t : Table) (format : Option TimestampFormat) (rest : List OneWrite) (x : OneWrite) (more : List OneWrite) (steps : rest ≡ x ∷ more) where
  pub format-more : same_format (label_at t x.node.0).time_format format ≡ true → have_format format (listed t rest) ≡ have_format format (listed t more)
  format-more same = rw (steps, same) refl

  pub format-stop : same_format (label_at t x.node.0).time_format format ≡ false → have_format format (listed t rest) ≡ false
  format-stop other = rw (steps, other) refl

pub format-end : (t : Table) (format : Option TimestampFormat) (rest : List OneWrite) → rest ≡ [] → have_format format (listed t rest) ≡ true
format-end t format rest none = rw none refl

-- writes
module _ (t : Table) (schema : Schema) (rest : List OneWrite) (x : OneWrite) (more : List OneWrite) (steps : rest ≡ x ∷ more) where
  pub writes-more : is_typed_write schema (write_in t x.node x.value) ≡ true → has_typed_writes schema (list_of (listed t rest)) ≡ has_typed_writes schema (list_of (listed t more))
  writes-more passes = ap (λ ws. has_typed_writes schema (list_of (listed t ws))) steps ∙ ap (λ b. b && has_typed_writes schema (list_of (listed t more))) passes

  pub writes-stop : is_typed_write schema (write_in t x.node x.value) ≡ false → has_typed_writes schema (list_of (listed t rest)) ≡ false
  writes-stop fails = ap (λ ws. has_typed_writes schema (list_of (listed t ws))) steps ∙ ap (λ b. b && has_typed_writes schema (list_of (listed t more))) fails

pub writes-end : (t : Table) (schema : Schema) (rest : List OneWrite) → rest ≡ [] → has_typed_writes schema (list_of (listed t rest)) ≡ true
writes-end t schema rest none = ap (λ ws. has_typed_writes schema (list_of (listed t ws))) none

-- the names of entries, from an entry on
abbrev pub own_names_from : List ℕ → Writes → ℕ → Bool
own_names_from prefix ws i = list_all (λ p. not (is_one_of p.0 default_names)) (headers_from prefix ws i)

pub names-next : (prefix : List ℕ) (ws : Writes) (i : ℕ) (key : List ℕ) (b : Bool) {n : ℕ} → n ≡ length (list_of ws) → i < n / 2 → key ≡ text_at ws (2 * i) → is_one_of (str_to_ascii_lowercase (prefix ++ key)) default_names ≡ b
    → own_names_from prefix ws i ≡ (not b && own_names_from prefix ws (i + 1))
names-next prefix ws i key b all low k is =
    ap (list_all (λ (p : List ℕ × List ℕ). not (is_one_of p.0 default_names))) (headers-at prefix ws i key (text_at ws (2 * i + 1)) all low k refl)
    ∙ ap (λ t. not t && own_names_from prefix ws (i + 1)) is

pub names-end : (prefix : List ℕ) (ws : Writes) (i : ℕ) {n : ℕ} → n ≡ length (list_of ws) → n / 2 ≤ i → own_names_from prefix ws i ≡ true
names-end prefix ws i all high = ap (list_all (λ (p : List ℕ × List ℕ). not (is_one_of p.0 default_names))) (headers-end prefix ws i all high)

-- what is asked behind a prefix, after the test of the text
pub entries-tested : {E : Type 0} (prefix : List ℕ) (m : SchemaRef) (t : Table) (v : ShapeValue) (r : Result Bool E) → is_typed_text (schema_of m) (value_in t v) ≡ true → Tests (has_no_default prefix) m t v r → Tests (is_typed_entries prefix) m t v r
entries-tested prefix m t v (Ok b) text names = names ∙ ap (λ x. x && has_no_default prefix (schema_of m) (value_in t v)) (sym text)
entries-tested prefix m t v (Err e) text names = tt

-- ---- a name of another length is no default's

other_length : (text name : List ℕ) → (length text == length name) ≡ false → same_text text name ≡ false
other_length text name e = go (same_text text name) refl
  where
    go : (t : Bool) → same_text text name ≡ t → same_text text name ≡ false
    go false f = f
    go true f =
        let same : text ≡ name = same_from_test text name (sym f) in
        let bad : true ≡ false = sym (eq-eqb (length text) (length name) (ap length same)) ∙ e in
        absurd (cc bad)

none_so_long : (text : List ℕ) (names : List (List ℕ)) → list_any (λ name. length text == length name) names ≡ false → is_one_of text names ≡ false
none_so_long text [] e = refl
none_so_long text (name ∷ names) e =
    let parts = or_parts (length text == length name) (list_any (λ other. length text == length other) names) e in
    ap (λ b. b || is_one_of text names) (other_length text name parts.0) ∙ none_so_long text names parts.1

pub no_default_so_long : (prefix key : List ℕ) → may_be_default (length prefix + length key) ≡ false → false ≡ is_default_behind prefix key
no_default_so_long prefix key e =
    let lower : length (str_to_ascii_lowercase (prefix ++ key)) ≡ length prefix + length key = length-map (prefix ++ key) to_ascii_lowercase ∙ length-append prefix key in
    sym (none_so_long (str_to_ascii_lowercase (prefix ++ key)) default_names (ap may_be_default lower ∙ e))
