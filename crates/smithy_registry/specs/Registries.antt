-- A registry: a finite map from full names of shapes to what is registered under them, in byte order of the names.
use Rattle.std.specs.Prelude.{◌≡◌, ℕ, Bool, List, [], ◌∷◌, Option, option_map, refl}
use Rattle.std.specs.Coded.{Coded, code_by, coded×, coded_ℕ, coded_option}
use Rattle.std.specs.List.{find, before_first, after_first}
use Rattle.std.specs.Map.{lookup}
use Rattle.std.specs.Option.{option_or}
use Rattle.smithy_types.specs.Maps.{with_value}
use Rattle.smithy_types.specs.Texts.{same_text}
use Rattle.smithy_ids.specs.ShapeIds.{is_hash, is_dollar}
use Rattle.smithy_registry.specs.ErrorCodes.{sanitized}

-- what is registered under a name: the place of the shape's node, what reads the shape, and what reads it as an error
pub record Registered (R : Type 0) : Type 0 where
  pub schema : ℕ
  pub reader : R
  pub error_reader : Option R

abbrev pub registered_code : {R : Type 0} → Coded R → Coded (Registered R)
registered_code {R} code =
    code_by (ℕ × (R × Option R)) (coded× coded_ℕ (coded× code (coded_option code))) (λ r. (r.schema, (r.reader, r.error_reader))) (λ p. record { schema = p.0; reader = p.1.0; error_reader = p.1.1 }) (λ _. refl)

-- the name of the shape in a full name: behind its first `#`, before the first `$` there
abbrev pub shape_name_in : List ℕ → List ℕ
shape_name_in name = before_first is_dollar (after_first is_hash name)

-- whether a full name has this shape name
abbrev pub has_shape_name : List ℕ → List ℕ → Bool
has_shape_name shape_name name = same_text shape_name (shape_name_in name)

module _ {X : Type 0} where
  -- what is registered under a full name
  abbrev pub by_name : List ℕ → List (List ℕ × X) → Option X
  by_name name entries = lookup (same_text name) entries

  -- the first entry, and so the one with the least full name, that has this shape name
  abbrev pub first_named : List ℕ → List (List ℕ × X) → Option (List ℕ × X)
  first_named shape_name entries = find (λ e. has_shape_name shape_name e.0) entries

  -- what is registered under the least full name whose shape name is that of the error code
  abbrev pub by_code : List ℕ → List (List ℕ × X) → Option X
  by_code code entries = option_map (λ e. e.1) (first_named (sanitized code) entries)

  -- each name has what the second registry has under it, else what the first one has
  abbrev pub IsUnion : List (List ℕ × X) → List (List ℕ × X) → List (List ℕ × X) → Type 0
  IsUnion first second whole = (name : List ℕ) → by_name name whole ≡ option_or (by_name name second) (by_name name first)

  -- the entries of both registries; under a name of both stands what the second has
  abbrev pub composed : List (List ℕ × X) → List (List ℕ × X) → List (List ℕ × X)
  composed entries [] = entries
  composed entries (e ∷ es) = composed (with_value e.0 e.1 entries) es
