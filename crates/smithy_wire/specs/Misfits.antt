-- Where a value of a body doesn't follow its node (Smithy, data model: the values of simple and aggregate types).
use Rattle.std.specs.Prelude.{ℕ, ℤ, suc, ◌==◌, ◌||◌, Bool, true, false, not, List, [], codes, ◌++◌, decimal, length, Option, None, option_map, is_some, unwrap_or, if◌then◌else◌}
use Rattle.smithy_ids.specs.Kinds.{same_kind}
use Rattle.smithy_ids.specs.declared.shape_type.ShapeType.TheVariants as kind
use Rattle.smithy_types.specs.Results.{unless}
use Rattle.smithy_types.specs.Timestamps.{timestamp_text}
use Rattle.smithy_types.specs.declared.date_time.Format.{Format}
use Rattle.smithy_types.specs.declared.date_time.Format.TheVariants.{DateTime, HttpDate}
use Rattle.smithy_serde.specs.Fits.{fits, written_word}
use Rattle.smithy_serde.specs.Values as value
use Rattle.smithy_serde.specs.Values.{Label, Scalar, Value, scalar, list, structure, Writes, no_writes, write, list_of, text_of_key}
use Rattle.smithy_serde.specs.declared.error.SerdeError.TheVariants.{UnknownMember, UnsupportedOperation, Custom}
use Rattle.smithy_schema.specs.Nodes.{Binding, binding_of, to_body, to_payload}
use Rattle.smithy_wire.specs.Words.{Schema, SerdeError, InvalidInput, option_map_or, option_or, member_named, shape}
use Rattle.smithy_wire.specs.ExactNumbers.{is_number, is_integer}
use Rattle.smithy_wire.specs.Forms.{Form, fields, date_time, http_date, big_integer, big_decimal, element_form, part_form, form_kind, form_word, whole_form}
use Rattle.smithy_wire.specs.Unwire.{item_step, part_step}
use Rattle.smithy_wire.specs.WireNames.{field_named}
use Rattle.smithy_wire.specs.WireText.{without_point}
use Rattle.smithy_wire.specs.declared.misfit.Cause.{Cause}
use Rattle.smithy_wire.specs.declared.misfit.Cause.TheVariants.{Unknown, WrongKind, Members, Year, NoNumber}
use Rattle.smithy_wire.specs.declared.misfit.Misfit.{Misfit}

-- it doesn't follow its node here
abbrev pub here : Cause → Misfit
here cause = record { cause = cause; path = [] }

-- one step further out
abbrev pub outside : List ℕ → Misfit → Misfit
outside step m = record { cause = m.cause; path = step ++ m.path }

abbrev pub behind : List ℕ → Option Misfit → Option Misfit
behind step found = option_map (outside step) found

-- ---- one value

-- the form takes the value: it is of its kind, and where no node asks each is
abbrev pub takes : Form → Value → Bool
takes f v = option_map_or (λ k. fits k v) (form_kind f) true

abbrev pub wrong_kind : Form → Value → Option Misfit
wrong_kind f v = unless (takes f v) (here (WrongKind (written_word v) (form_word f)))

-- a time that is written as a text is of a year that has one
abbrev pub wrong_year : Format → ℤ → Option Misfit
wrong_year format seconds = unless (is_some (timestamp_text format seconds)) (here Year)

-- the text of a big number is one of JSON
abbrev pub wrong_number : Bool → List ℕ → Option Misfit
wrong_number is_one text = unless is_one (here (NoNumber text))

abbrev pub wrong_time : Form → ℤ → Option Misfit
wrong_time date_time z = wrong_year DateTime z
wrong_time http_date z = wrong_year HttpDate z
wrong_time _ z = None

abbrev pub wrong_integer : Form → List ℕ → Option Misfit
wrong_integer big_integer text = wrong_number (is_integer text) text
wrong_integer _ text = None

abbrev pub wrong_decimal : Form → List ℕ → Option Misfit
wrong_decimal big_decimal text = wrong_number (is_number text) text
wrong_decimal _ text = None

-- a scalar of its form's kind that has no text there
abbrev pub wrong_scalar : Form → Scalar → Option Misfit
wrong_scalar f (value.timestamp z) = wrong_time f z
wrong_scalar f (value.big_integer text) = wrong_integer f text
wrong_scalar f (value.big_decimal text) = wrong_decimal f text
wrong_scalar f _ = None

-- a union has exactly one member
abbrev pub is_union : Form → Bool
is_union (fields side s) = same_kind s.node.kind kind.Union
is_union _ = false

abbrev pub wrong_count : Form → Writes → Option Misfit
wrong_count f ws = unless (not (is_union f) || (length (list_of ws) == 1)) (here (Members (length (list_of ws))))

-- the name of a member that a write is told by
abbrev pub told_name : Label → List ℕ
told_name l = unwrap_or l.member_name []

-- a structure has a field of this name
abbrev pub wrong_name : Form → List ℕ → Option Misfit
wrong_name (fields side s) name = unless (is_some (field_named side s name)) (here Unknown)
wrong_name _ name = None

-- what is found of a member that is told by a name, from its structure
abbrev pub in_field : Form → List ℕ → Option Misfit → Option Misfit
in_field f name found = behind (part_step f name) (option_or (wrong_name f name) found)

-- ---- at every depth

-- The first place of a value, in the order of its writes, that doesn't follow its node. A null follows any.
abbrev mutual
  pub misfit : Form → Value → Option Misfit
  misfit f (scalar value.null) = None
  misfit f (scalar s) = option_or (wrong_kind f (scalar s)) (wrong_scalar f s)
  misfit f (list ws) = option_or (wrong_kind f (list ws)) (item_misfit (element_form f) 0 ws)
  misfit f (value.map ws) = option_or (wrong_kind f (value.map ws)) (entry_misfit f ws)
  misfit f (structure ws) = option_or (wrong_kind f (structure ws)) (option_or (wrong_count f ws) (field_misfit f ws))

  -- of the items of a list from a position on
  pub item_misfit : Form → ℕ → Writes → Option Misfit
  item_misfit f i no_writes = None
  item_misfit f i (write l v ws) = option_or (behind (item_step i) (misfit f v)) (item_misfit f (suc i) ws)

  -- of the entries of a map, each told from its key
  pub entry_misfit : Form → Writes → Option Misfit
  entry_misfit f no_writes = None
  entry_misfit f (write k key ws) = value_misfit f (text_of_key key) ws

  pub value_misfit : Form → List ℕ → Writes → Option Misfit
  value_misfit f key no_writes = None
  value_misfit f key (write l v ws) = option_or (behind (part_step f key) (misfit (part_form f key) v)) (entry_misfit f ws)

  -- of the members of a structure
  pub field_misfit : Form → Writes → Option Misfit
  field_misfit f no_writes = None
  field_misfit f (write l v ws) = option_or (in_field f (told_name l) (misfit (part_form f (told_name l)) v)) (field_misfit f ws)

-- ---- inputs

-- a member stands in the target or the headers of a request
abbrev pub is_elsewhere_at : Binding → Bool
is_elsewhere_at to_payload = false
is_elsewhere_at to_body = false
is_elsewhere_at _ = true

-- so does the member of an input that has this name
abbrev pub is_outside : Schema → List ℕ → Bool
is_outside schema name = option_map_or (λ m. is_elsewhere_at (binding_of m)) (member_named (shape schema) name) false

-- of a write of an input: nothing where it stands outside the body
abbrev pub outer_misfit : Schema → Label → Value → Option Misfit
outer_misfit schema l v =
    if is_outside schema (told_name l) then None
    else in_field (whole_form schema) (told_name l) (misfit (part_form (whole_form schema) (told_name l)) v)

-- the first place in the body of an input, in the order of the writes
abbrev pub body_misfit : Schema → Writes → Option Misfit
body_misfit schema no_writes = None
body_misfit schema (write l v ws) = option_or (outer_misfit schema l v) (body_misfit schema ws)

-- the same in all of it
abbrev pub whole_misfit : Schema → Writes → Option Misfit
whole_misfit schema ws = field_misfit (whole_form schema) ws

-- ---- what is told

abbrev pub cause_told : Cause → List ℕ → SerdeError
cause_told Unknown path = UnknownMember path
cause_told (WrongKind written asked) path = UnsupportedOperation (codes "cannot write " ++ (written ++ (codes " to " ++ (path ++ (codes " of type " ++ asked)))))
cause_told (Members count) path = InvalidInput (codes "union " ++ (path ++ (codes " has " ++ (decimal count ++ codes " members"))))
cause_told Year path = Custom (codes "failed to format timestamp at " ++ (path ++ codes ": year outside 1 to 9999"))
cause_told (NoNumber text) path = InvalidInput (text ++ (codes " at " ++ (path ++ codes " is no number of JSON")))

-- the refusal of an input
abbrev pub misfit_told : Misfit → SerdeError
misfit_told m = cause_told m.cause (without_point m.path)

-- that of the first place in the body of an input that doesn't follow its node, none where all follows
unfoldable pub body_misfit_told : Schema → Writes → Option SerdeError
body_misfit_told schema ws = option_map misfit_told (body_misfit schema ws)

-- the same in all of it
unfoldable pub whole_misfit_told : Schema → Writes → Option SerdeError
whole_misfit_told schema ws = option_map misfit_told (whole_misfit schema ws)
