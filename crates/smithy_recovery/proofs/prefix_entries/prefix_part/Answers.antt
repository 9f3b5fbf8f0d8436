use Rattle.std.proofs.Common.{rules, ◌≡◌, ◌==◌, sym, ap, ◌∙◌, [], ℕ, List, Some, length}
use Rattle.std.specs.Str.{str_to_ascii_lowercase}
use Rattle.smithy_schema.specs.References.{schema_of}
use Rattle.smithy_recovery.specs.views.KeptEntries.{map_seen, headers_put}
use Rattle.smithy_recovery.specs.MapParts.{prefix_part}
use Rattle.smithy_recovery.proofs.EntriesPut.{texts_part, prefix_put, texts_none, texts_some}
use Rattle.smithy_recovery.proofs.Refused.{part_refused}
use Rattle.smithy_recovery.proofs.prefix_entries.prefix_part.Goals as goal

pub returns-in_err-entries : goal.returns-in_err-entries
returns-in_err-entries c =
    let m = schema_of c.args.member in
    let same : headers_put (str_to_ascii_lowercase c.args.prefix.now) c.args.headers.now [] ≡ headers_put c.as_str.result.now c.iter_bytes.result []
    = sym (ap (λ (p : List ℕ). headers_put p c.iter_bytes.result []) (c.as_str.ensures.value ∙ c.in_ok-lower.ensures.ok) ∙ ap (λ (hs : List (List ℕ × List ℕ)). headers_put (str_to_ascii_lowercase c.args.prefix.now) hs []) c.iter_bytes.ensures) in
    part_refused m.table (headers_put c.as_str.result.now c.iter_bytes.result []) (prefix_part m c.args.prefix.now c.args.headers.now) c.in_err-entries.field-0.0 c.from_residual-in_err-entries.result (search rules)
    (λ none. sym (prefix_put m c.args.prefix.now c.args.headers.now) ∙ ap (texts_part m) (same ∙ none))
    c.in_err-entries.ensures

pub returns-then-is_empty : goal.returns-then-is_empty
returns-then-is_empty c =
    let m = schema_of c.args.member in
    let same : headers_put (str_to_ascii_lowercase c.args.prefix.now) c.args.headers.now [] ≡ headers_put c.as_str.result.now c.iter_bytes.result []
    = sym (ap (λ (p : List ℕ). headers_put p c.iter_bytes.result []) (c.as_str.ensures.value ∙ c.in_ok-lower.ensures.ok) ∙ ap (λ (hs : List (List ℕ × List ℕ)). headers_put (str_to_ascii_lowercase c.args.prefix.now) hs []) c.iter_bytes.ensures) in
    sym (prefix_put m c.args.prefix.now c.args.headers.now)
    ∙ texts_none m (headers_put (str_to_ascii_lowercase c.args.prefix.now) c.args.headers.now []) c.in_ok-entries.entries.items (same ∙ c.in_ok-entries.ensures) (ap (λ es. length es == 0) (sym c.as_slice.ensures.value) ∙ sym c.is_empty.ensures ∙ c.if-is_empty.true)

pub returns : goal.returns
returns c =
    let m = schema_of c.args.member in
    let same : headers_put (str_to_ascii_lowercase c.args.prefix.now) c.args.headers.now [] ≡ headers_put c.as_str.result.now c.iter_bytes.result []
    = sym (ap (λ (p : List ℕ). headers_put p c.iter_bytes.result []) (c.as_str.ensures.value ∙ c.in_ok-lower.ensures.ok) ∙ ap (λ (hs : List (List ℕ × List ℕ)). headers_put (str_to_ascii_lowercase c.args.prefix.now) hs []) c.iter_bytes.ensures) in (
      sym (prefix_put m c.args.prefix.now c.args.headers.now)
          ∙ texts_some m (headers_put (str_to_ascii_lowercase c.args.prefix.now) c.args.headers.now []) c.in_ok-entries.entries.items c.in_ok-ordered.ordered.items (same ∙ c.in_ok-entries.ensures) (ap (λ es. length es == 0) (sym c.as_slice.ensures.value) ∙ sym c.is_empty.ensures ∙ c.if-is_empty.false) c.in_ok-ordered.ensures
          ∙ ap (λ es. Some (map_seen es m)) (sym c.as_slice-2.ensures.value)
          ∙ ap (λ o. Some o) c.in_ok-map.ensures.value,
      c.in_ok-map.ensures.defined,
    )
