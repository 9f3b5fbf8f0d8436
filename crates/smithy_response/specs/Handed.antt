-- The members that a response hands out (Smithy, HTTP protocol bindings).
use Rattle.std.specs.Prelude.{Bool, true, not, ◌&&◌, List, [], ◌∷◌, filter, Option, Some, None, if◌then◌else◌}
use Rattle.smithy_response.specs.Words.{list_any, option_map_or, NonUtf8HeaderHandling, Response, Schema, members_of, is_response_bound, SerdeError, Held, is_empty_text, Slot, at_member, Listing, contents}
use Rattle.smithy_serde.specs.declared.scalar.Group.TheVariants as group
use Rattle.smithy_response.specs.Routes.{Route, passed_over, handed_out, handed_body, refused, route}
use Rattle.smithy_response.specs.Settling.{settled}

-- items, and the refusal that ends them, if any
pub record Ended : Type 0 where
  pub items : List (Slot × Held)
  pub ends : Option SerdeError

abbrev pub nothing : Ended
nothing = record { items = []; ends = None }

-- an item before others
abbrev pub before_rest : Slot → Held → Ended → Ended
before_rest slot h rest = record { items = (slot, h) ∷ rest.items; ends = rest.ends }

-- The route of a member, before what follows: `after` where the body was handed out here, else `rest`. A body that was handed out is none, and no member has it once more.
abbrev pub with_route : Route → Schema → Option Held → (rest after : Ended) → Ended
with_route passed_over m body rest after = rest
with_route (handed_out h) m body rest after = before_rest (at_member m) h rest
with_route handed_body m (Some h) rest after = before_rest (at_member m) h after
with_route handed_body m None rest after = rest
with_route (refused e) m body rest after = record { items = []; ends = Some e }

-- the members in order, each by its route, and then what is left of the body
abbrev pub routed : Response → (Option Held → Ended) → Option Held → List Schema → Ended
routed response rest body [] = rest body
routed response rest body (m ∷ ms) = with_route (route m response) m body (routed response rest body ms) (routed response rest None ms)

-- the item is a member of the body
abbrev pub is_unbound : Slot → Bool
is_unbound (at_member m) = not (is_response_bound m)
is_unbound _ = true

-- what a body lists, without its copies of bound members
abbrev pub only_unbound : Listing → Ended
only_unbound listing = record { items = filter (λ i. is_unbound i.0) listing.items; ends = listing.ends }

abbrev pub has_payload : Schema → Bool
has_payload schema = list_any (λ m. m.node.traits.http_payload) (members_of schema)

abbrev pub has_unbound : Schema → Bool
has_unbound schema = list_any (λ m. not (is_response_bound m)) (members_of schema)

-- the body is empty or not buffered
abbrev pub has_no_bytes : Response → Bool
has_no_bytes response = option_map_or is_empty_text response.body true

-- The body is read for members that stand in it, where no payload takes it; of a modelled error only where it has bytes.
abbrev pub reads_body : Schema → Response → Bool → Bool
reads_body schema response is_error = not (has_payload schema) && has_unbound schema && not (is_error && has_no_bytes response)

abbrev pub body_part : Schema → Response → Bool → Option Held → Ended
body_part schema response is_error None = nothing
body_part schema response is_error (Some body) =
    if reads_body schema response is_error then only_unbound (contents group.Structure schema body) else nothing

-- The bound members in index order, each where the response has it, and then the body's fields of the members that are not bound, in byte order of their names.
abbrev pub handed_items : Schema → Response → Held → Bool → Ended
handed_items schema response body is_error = routed response (body_part schema response is_error) (Some body) (members_of schema)

-- with what becomes of refusals
unfoldable pub handed : Schema → Response → Held → Bool → NonUtf8HeaderHandling → Listing
handed schema response body is_error policy =
    let given = handed_items schema response body is_error in
    record { items = given.items; ends = given.ends; settled = settled policy response }
