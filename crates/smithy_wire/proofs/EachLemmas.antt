-- What is said of the structures of values holds at each place that a form leads to.
use Rattle.smithy_wire.proofs.Common.{◌≡◌, refl, sym, ap, ◌∙◌, ℕ, ◌⊎◌, inl, inr, List, [], ◌∷◌, find, Option, Some, None}
use Rattle.std.specs.List.{cons_option, filter_map, slice_get}
use Rattle.std.specs.Option.{option_map_or, option_or, unwrap_or}
use Rattle.smithy_ids.specs.declared.shape_type.ShapeType.{ShapeType}
use Rattle.smithy_ids.specs.declared.shape_type.ShapeType.TheVariants as kind
use Rattle.smithy_ids.specs.declared.traits.TimestampFormat.TheVariants as time
use Rattle.smithy_schema.specs.Nodes.{Schema, at_place, cited, element_of, value_of, shape, member_at, members_of, time_format}
use Rattle.smithy_serde.proofs.ReadValue.{at_place_table}
use Rattle.smithy_wire.specs.declared.side.Side.{Side}
use Rattle.smithy_wire.specs.WireNames.{field_named}
use Rattle.smithy_wire.specs.Forms.{Form, free, fields, items, entries, date_time, http_date, big_integer, big_decimal, whole, document, other, body_form, form_of, form_by, form_or_free, is_coded_payload, time_form, element_form, part_form}
use Rattle.smithy_wire.specs.Standing.{May, Each}
use Rattle.smithy_wire.proofs.NameLaws.{Among, found_among, named_field}

-- ---- the nodes that a node cites

-- a member, the element or the value
abbrev pub IsPartOf : Schema → Schema → Type 0
IsPartOf m s = Among m (members_of s) ⊎ ((element_of s ≡ Some m) ⊎ (value_of s ≡ Some m))

module _ (P : Schema → Type 0) where
  of_cited : (s : Schema) (o : Option ℕ) (m : Schema) → ((place : ℕ) (n : Schema) → at_place s.table place ≡ Some n → P n) → cited s o ≡ Some m → P m
  of_cited s None m each at = absurd (cc at)
  of_cited s (Some place) m each at = each place m at

  of_member : (s : Schema) (ps : List ℕ) (m : Schema) → ((place : ℕ) (n : Schema) → at_place s.table place ≡ Some n → P n) → Among m (filter_map (at_place s.table) ps) → P m
  of_member s [] m each here = absurd here
  of_member s (p ∷ ps) m each here = go (at_place s.table p) refl here (of_member s ps m each)
    where
      go : (o : Option Schema) → at_place s.table p ≡ o → Among m (cons_option o (filter_map (at_place s.table) ps)) → (Among m (filter_map (at_place s.table) ps) → P m) → P m
      go None at later rest = rest later
      go (Some c) at (inl same) rest = each p m (at ∙ ap (λ x. Some x) (sym same))
      go (Some c) at (inr later) rest = rest later

  -- what holds of each node of a table holds of what its nodes cite
  pub of_part : (s m : Schema) → ((place : ℕ) (n : Schema) → at_place s.table place ≡ Some n → P n) → IsPartOf m s → P m
  of_part s m each (inl here) = of_member s s.node.members m each here
  of_part s m each (inr (inl at)) = of_cited s s.node.element m each at
  of_part s m each (inr (inr at)) = of_cited s s.node.value m each at

  pub of_shape : (m : Schema) → ((place : ℕ) (n : Schema) → at_place m.table place ≡ Some n → P n) → P m → P (shape m)
  of_shape m each here = go (cited m m.node.target) refl
    where
      go : (o : Option Schema) → cited m m.node.target ≡ o → P (unwrap_or o m)
      go None at = here
      go (Some n) at = of_cited m m.node.target n each at

-- they stand in its table
pub part_table : (s m : Schema) → IsPartOf m s → m.table ≡ s.table
part_table s m part = of_part (λ n. n.table ≡ s.table) s m (at_place_table s.table) part

pub shape_table : (m : Schema) → (shape m).table ≡ m.table
shape_table m = of_shape (λ n. n.table ≡ m.table) m (at_place_table m.table) refl

pub cited_table : (s : Schema) (o : Option ℕ) (m : Schema) → Some m ≡ cited s o → m.table ≡ s.table
cited_table s o m at = of_cited (λ n. n.table ≡ s.table) s o m (at_place_table s.table) (sym at)

pub member_table : (s : Schema) (i : ℕ) (m : Schema) → Some m ≡ member_at s i → m.table ≡ s.table
member_table s i m at = cited_table s (slice_get s.node.members i) m at

-- ---- forms

-- it holds of the shapes of what a structure, a list or a map cites, where it holds of that
abbrev pub IsClosed : (Option Side → Schema → Type 0) → Type 0
IsClosed P = (side : Option Side) (s m : Schema) → IsPartOf m s → P side s → P None (shape m)

module _ (P : Option Side → Schema → Type 0) (closed : IsClosed P) where
  may_part : (side : Option Side) (s : Schema) (o : Option Schema) → ((m : Schema) → o ≡ Some m → IsPartOf m s) → P side s → May (λ n. P None (shape n)) o
  may_part side s None is h = tt
  may_part side s (Some m) is h = closed side s m (is m refl) h

  each_time : (f : Option _) → Each P (time_form f)
  each_time None = tt
  each_time (Some time.DateTime) = tt
  each_time (Some time.HttpDate) = tt
  each_time (Some time.EpochSeconds) = tt

  pub each_by : (k : ShapeType) (side : Option Side) (n : Schema) → P side (shape n) → Each P (form_by k side n)
  each_by kind.Structure side n h = h
  each_by kind.Union side n h = h
  each_by kind.List side n h = may_part side (shape n) (element_of (shape n)) (λ m at. inr (inl at)) h
  each_by kind.Map side n h = may_part side (shape n) (value_of (shape n)) (λ m at. inr (inr at)) h
  each_by kind.Timestamp side n h = each_time (option_or (time_format n) (time_format (shape n)))
  each_by kind.BigInteger side n h = tt
  each_by kind.BigDecimal side n h = tt
  each_by kind.Byte side n h = tt
  each_by kind.Short side n h = tt
  each_by kind.Integer side n h = tt
  each_by kind.Long side n h = tt
  each_by kind.Document side n h = tt
  each_by kind.Boolean side n h = tt
  each_by kind.Float side n h = tt
  each_by kind.Double side n h = tt
  each_by kind.String side n h = tt
  each_by kind.Blob side n h = tt
  each_by kind.Member side n h = tt

  each_or_free : (o : Option Schema) → May (λ n. P None (shape n)) o → Each P (form_or_free o)
  each_or_free None h = tt
  each_or_free (Some n) h = each_by (shape n).node.kind None n h

  pub each_element : (f : Form) → Each P f → Each P (element_form f)
  each_element free h = tt
  each_element (fields side s) h = tt
  each_element (items element) h = each_or_free element h
  each_element (entries value) h = tt
  each_element date_time h = tt
  each_element http_date h = tt
  each_element big_integer h = tt
  each_element big_decimal h = tt
  each_element (whole k) h = tt
  each_element document h = tt
  each_element (other k) h = tt

  pub each_part : (f : Form) (name : List ℕ) → Each P f → Each P (part_form f name)
  each_part free name h = tt
  each_part (fields side s) name h =
      each_or_free (field_named side s name) (may_part side s (field_named side s name) (λ m at. inl (named_field side s name m at).1.1) h)
  each_part (items element) name h = tt
  each_part (entries value) name h = each_or_free value h
  each_part date_time name h = tt
  each_part http_date name h = tt
  each_part big_integer name h = tt
  each_part big_decimal name h = tt
  each_part (whole k) name h = tt
  each_part document name h = tt
  each_part (other k) name h = tt

  pub each_body : (side : Side) (s : Schema) → P (Some side) (shape s) → Each P (body_form side s)
  each_body side s h = go (find is_coded_payload (members_of (shape s))) refl
    where
      go : (o : Option Schema) → find is_coded_payload (members_of (shape s)) ≡ o → Each P (option_map_or form_of o (form_by (shape s).node.kind (Some side) s))
      go None is = each_by (shape s).node.kind (Some side) s h
      go (Some m) is =
          let found = found_among is_coded_payload (members_of (shape s)) m is in
          each_by (shape m).node.kind None m (closed (Some side) (shape s) m (inl found.1) h)
