-- The first place of a model whose form is not as asked, as far as an operation reaches (Smithy, JSON AST).
use Rattle.std.specs.Prelude.{ℕ, zero, suc, ◌+◌, List, [], ◌∷◌, ◌++◌, codes, length, slice_get, Bool, true, ◌||◌, is_some, Option, Some, None, option_map, option_and_then, if◌then◌else◌}
use Rattle.std.specs.Option.{option_map_or}
use Rattle.serde_json.specs.Data.{Data}
use Rattle.serde_json.specs.Find.{get, as_object}
use Rattle.smithy_ids.specs.declared.shape_type.ShapeType.{ShapeType}
use Rattle.smithy_ids.specs.declared.shape_type.ShapeType.TheVariants as kind
use Rattle.smithy_model.specs.Json.{items_in, members_in, text_at, provided}
use Rattle.smithy_model.specs.Traits.{is_text_trait, has_form, code_at}
use Rattle.smithy_model.specs.Names.{is, is_full_name}
use Rattle.smithy_model.specs.Prelude.{prelude_kind, prelude_kinds}
use Rattle.smithy_model.specs.Shapes.{Member, found_at, shape_at, has_no_mixins, kind_named, kind_in}
use Rattle.smithy_model.specs.Operations.{Operation, is_operation, operation_at}
use Rattle.smithy_model.specs.Reached.{with_names, with_targets}
use Rattle.smithy_model.specs.Models.{Asked, input, output, error, name_asked}
use Rattle.smithy_model.specs.Wrong.{Wrong, ◌or◌, asked_here, asked_at, in_key, unless_here, unless_at, first_in, first_item}

abbrev pub is_object : Data → Bool
is_object d = is_some (as_object d)

-- what is asked of the value of a trait that has to have a form
unfoldable pub form_asked : List ℕ → List ℕ
form_asked id =
    if is_text_trait id then codes "a text is asked"
    else (if is id (codes "smithy.api#xmlNamespace") then codes "an object with a text `uri` is asked, and `prefix` is a text"
    else codes "`date-time`, `http-date` or `epoch-seconds` is asked")

-- a trait by its name and value
unfoldable pub wrong_trait : List ℕ × Data → Option Wrong
wrong_trait entry =
    unless_here (is_full_name entry.0) (codes "the full name of a trait is asked, as smithy.api#httpLabel")
    or unless_here (has_form entry.0 entry.1) (form_asked entry.0)

abbrev pub wrong_entry : List ℕ × Data → Option Wrong
wrong_entry entry = in_key entry.0 (wrong_trait entry)

-- an object of traits
unfoldable pub wrong_traits : Data → Option Wrong
wrong_traits d = option_map_or (first_in wrong_entry) (members_in d) (Some (asked_here (codes "an object from full names to values is asked")))

-- the traits of a shape or a member, which may be absent
unfoldable pub wrong_traits_of : Data → Option Wrong
wrong_traits_of d = in_key (codes "traits") (option_and_then wrong_traits (get (codes "traits") d))

-- the prelude or the model has a shape of this name
abbrev pub is_there : Data → List ℕ → Bool
is_there shapes name = is_some (prelude_kind name) || is_some (found_at shapes name)

-- the name of a shape that has to be there
unfoldable pub wrong_name : Data → List ℕ → Option Wrong
wrong_name shapes name =
    unless_here (is_full_name name) (codes "the full name of a shape is asked, as smithy.api#String")
    or unless_here (is_there shapes name) (name ++ codes " is not in the model")

-- what has a `target`
unfoldable pub wrong_target : Data → Option Wrong
wrong_target d =
    unless_here (is_object d) (codes "an object with `target` is asked")
    or unless_at (is_some (text_at (codes "target") d)) (codes "target") (codes "the full name of a shape is asked, as smithy.api#String")

-- the same where the target has to be there
unfoldable pub wrong_citing : Data → Data → Option Wrong
wrong_citing shapes d =
    wrong_target d
    or in_key (codes "target") (option_and_then (wrong_name shapes) (text_at (codes "target") d))

unfoldable pub wrong_member : Data → Data → Option Wrong
wrong_member shapes d = wrong_citing shapes d or wrong_traits_of d

-- the members of a structure or a union
abbrev pub member_entries : Data → Option (List (List ℕ × Data))
member_entries shape = option_and_then members_in (get (codes "members") shape)

abbrev pub wrong_named : Data → List ℕ × Data → Option Wrong
wrong_named shapes entry = in_key entry.0 (wrong_member shapes entry.1)

unfoldable pub wrong_members : Data → Data → Option Wrong
wrong_members shapes shape =
    in_key (codes "members")
    (option_map_or (first_in (wrong_named shapes)) (member_entries shape)
    (Some (asked_here (codes "an object from names to members is asked"))))

-- the member under a key of the shape's own
unfoldable pub wrong_part : Data → List ℕ → Data → Option Wrong
wrong_part shapes key shape =
    in_key key (option_map_or (wrong_member shapes) (get key shape) (Some (asked_here (codes "an object with `target` is asked"))))

-- the members of a shape of this kind
unfoldable pub wrong_by_kind : Data → Data → ShapeType → Option Wrong
wrong_by_kind shapes shape kind.Structure = wrong_members shapes shape
wrong_by_kind shapes shape kind.Union = wrong_members shapes shape
wrong_by_kind shapes shape kind.List = wrong_part shapes (codes "member") shape
wrong_by_kind shapes shape kind.Map = wrong_part shapes (codes "key") shape or wrong_part shapes (codes "value") shape
wrong_by_kind shapes shape _ = None

unfoldable pub wrong_mixins : Data → Option Wrong
wrong_mixins d =
    unless_here (is_object d) (codes "an object with `type` is asked")
    or unless_at (has_no_mixins d) (codes "mixins") (codes "an empty array is asked: mixins are not read")

-- a type of values
abbrev pub wrong_type_named : Option (List ℕ) → Option Wrong
wrong_type_named None = Some (asked_here (codes "the name of a type is asked, as structure"))
wrong_type_named (Some name) = unless_here (is_some (kind_named name)) (name ++ codes " is no type of values")

unfoldable pub wrong_type : Data → Option Wrong
wrong_type d = in_key (codes "type") (wrong_type_named (text_at (codes "type") d))

abbrev pub wrong_parts : Data → Data → Option Wrong
wrong_parts shapes d = option_and_then (wrong_by_kind shapes d) (kind_in d)

unfoldable pub wrong_shape : Data → Data → Option Wrong
wrong_shape shapes d =
    wrong_mixins d
    or wrong_type d
    or wrong_parts shapes d
    or wrong_traits_of d

-- the shape of this name, where the model has it
unfoldable pub wrong_at : Data → List ℕ → Option Wrong
wrong_at shapes name = in_key name (option_and_then (wrong_shape shapes) (found_at shapes name))

-- the members of the shape of this name, none where it has not the form of one
abbrev pub members_named : Data → List ℕ → List Member
members_named shapes name = option_map_or (λ s. s.members) (shape_at shapes name) []

abbrev pub names_next : (List ℕ → List (List ℕ)) → List (List ℕ) → Option (List ℕ) → List (List ℕ)
names_next more names None = names
names_next more names (Some name) = more name

-- these names and those that are met from there, in the order in which they are met; the shapes of the first are looked at
abbrev pub names_from : ℕ → Data → ℕ → List (List ℕ) → List (List ℕ)
names_from zero shapes done names = names
names_from (suc steps) shapes done names =
    names_next (λ name. names_from steps shapes (done + 1) (with_targets names (members_named shapes name))) names (slice_get names done)

-- the names that are reached from these, as far as their shapes have their form. Each step looks at a further shape of the model or the prelude.
unfoldable pub names_reached : Data → List (List ℕ) → List (List ℕ)
names_reached shapes names =
    option_map_or (λ entries. names_from (suc (length entries + length prelude_kinds)) shapes 0 (with_names [] names)) (members_in shapes) []

-- the shapes that are reached, in the order in which they are met
unfoldable pub wrong_reached : Data → List (List ℕ) → Option Wrong
wrong_reached shapes names = first_in (wrong_at shapes) (names_reached shapes names)

-- `@http` (Smithy, http trait)
unfoldable pub wrong_http : Data → Option Wrong
wrong_http d =
    unless_here (is_object d) (codes "an object with `method` and `uri` is asked")
    or unless_at (is_some (text_at (codes "method") d)) (codes "method") (codes "a text is asked")
    or unless_at (is_some (text_at (codes "uri") d)) (codes "uri") (codes "a text is asked")
    or unless_at (is_some (code_at (get (codes "code") d))) (codes "code") (codes "a whole number from 0 to 65535 is asked")

abbrev pub wrong_http_of : Data → Option Wrong
wrong_http_of d = in_key (codes "smithy.api#http") (option_and_then wrong_http (get (codes "smithy.api#http") d))

unfoldable pub wrong_operation_traits : Data → Option Wrong
wrong_operation_traits d = wrong_traits d or wrong_http_of d

abbrev pub wrong_traits_at : Data → Option Wrong
wrong_traits_at d = in_key (codes "traits") (option_and_then wrong_operation_traits (get (codes "traits") d))

-- the input or the output, which may be absent
unfoldable pub wrong_target_at : List ℕ → Data → Option Wrong
wrong_target_at key d = in_key key (option_and_then wrong_target (get key d))

unfoldable pub wrong_citing_at : Data → List ℕ → Data → Option Wrong
wrong_citing_at shapes key d = in_key key (option_and_then (wrong_citing shapes) (get key d))

-- the targets of an array
unfoldable pub wrong_targets : Data → Option Wrong
wrong_targets d = option_map_or (first_item wrong_target 0) (items_in d) (Some (asked_here (codes "an array of objects with `target` is asked")))

abbrev pub wrong_errors : Data → Option Wrong
wrong_errors d = in_key (codes "errors") (option_and_then wrong_targets (get (codes "errors") d))

abbrev pub wrong_citings : Data → Data → Option Wrong
wrong_citings shapes d = option_and_then (first_item (wrong_citing shapes) 0) (items_in d)

abbrev pub wrong_errors_at : Data → Data → Option Wrong
wrong_errors_at shapes d = in_key (codes "errors") (option_and_then (wrong_citings shapes) (get (codes "errors") d))

-- an operation, whose targets need not be there; beside it its traits
unfoldable pub wrong_bare_operation : Data → Option Wrong
wrong_bare_operation d =
    wrong_mixins d
    or unless_at (is_operation d) (codes "type") (codes "`operation` is asked")
    or wrong_target_at (codes "input") d
    or wrong_target_at (codes "output") d
    or wrong_errors d

unfoldable pub wrong_operation : Data → Option Wrong
wrong_operation d = wrong_bare_operation d or wrong_traits_at d

-- what is asked for has to be there; an error is named by who asks for it
unfoldable pub wrong_asked : Data → Asked → Data → Option Wrong
wrong_asked shapes input d = wrong_citing_at shapes (codes "input") d
wrong_asked shapes output d = wrong_citing_at shapes (codes "output") d
wrong_asked shapes (error name) d = None

-- the operation of this name, and what is asked for, by the operation's place
abbrev pub wrong_found : Data → List ℕ → Option Wrong
wrong_found shapes name = in_key name (option_and_then wrong_operation (found_at shapes name))

abbrev pub wrong_cited : Asked → Data → List ℕ → Option Wrong
wrong_cited asked shapes name = in_key name (option_and_then (wrong_asked shapes asked) (found_at shapes name))

-- the shapes that are reached from what is asked for
abbrev pub wrong_from : Asked → Data → Operation → Option Wrong
wrong_from asked shapes o = option_and_then (λ name. wrong_reached shapes (name ∷ [])) (name_asked asked o)

abbrev pub wrong_by : Asked → Data → List ℕ → Option Wrong
wrong_by asked shapes name = option_and_then (wrong_from asked shapes) (operation_at shapes name)

-- The first place, among these shapes, that keeps what is asked of the operation of this name from being read.
unfoldable pub wrong_in_shapes : Asked → Data → List ℕ → Option Wrong
wrong_in_shapes asked shapes name = wrong_found shapes name or wrong_cited asked shapes name or wrong_by asked shapes name

-- the errors of the operation of this name, and the shapes that are reached from them and from these of its service
abbrev pub wrong_errors_found : Data → List ℕ → Option Wrong
wrong_errors_found shapes name = in_key name (option_and_then (wrong_errors_at shapes) (found_at shapes name))

abbrev pub wrong_from_errors : List (List ℕ) → Data → Operation → Option Wrong
wrong_from_errors service shapes o = wrong_reached shapes (o.errors ++ service)

abbrev pub wrong_by_errors : List (List ℕ) → Data → List ℕ → Option Wrong
wrong_by_errors service shapes name = option_and_then (wrong_from_errors service shapes) (operation_at shapes name)

-- The same of all errors of the operation and of these of its service.
unfoldable pub wrong_in_errors : List (List ℕ) → Data → List ℕ → Option Wrong
wrong_in_errors service shapes name = wrong_found shapes name or wrong_errors_found shapes name or wrong_by_errors service shapes name

-- the operation of this name, where it has the form of one, has what is asked for
unfoldable pub may_have : Asked → Data → List ℕ → Bool
may_have asked shapes name = option_map_or (λ o. is_some (name_asked asked o)) (operation_at shapes name) true

-- the same of `@http`
unfoldable pub may_have_http : Data → List ℕ → Bool
may_have_http shapes name = option_map_or (λ o. is_some o.http) (operation_at shapes name) true

-- the shapes of a model
abbrev pub shapes_in : Data → Option Data
shapes_in model = option_and_then (λ d. provided (is_object d) (Some d)) (get (codes "shapes") model)

-- a model, whatever its shapes
unfoldable pub wrong_model : Data → Option Wrong
wrong_model d =
    unless_here (is_object d) (codes "an object with `shapes` is asked")
    or unless_at (is_some (shapes_in d)) (codes "shapes") (codes "an object from full names to shapes is asked")
