-- The request of the same input in the other protocol.
use Rattle.std.specs.Prelude.{ℕ, codes, Bool, false, ◌&&◌, List, [], Option, None, option_and_then, if◌then◌else◌}
use Rattle.smithy_gateway.specs.Words.{option_map_or, result_ok, same_text, Request, Schema, max_nesting, structure, Write, Writes, writes_of, then_some, place, OmitFlags, Protocol, rpc_answer, held_writes, Reading, recovered, is_shallow_at}
use Rattle.smithy_gateway.specs.Calls.{Calling}

-- the request that posts an input whole, if it has no fault
abbrev pub rpc_place : Calling → List Write → List ℕ → OmitFlags → Option Request
rpc_place calling ws endpoint omit = result_ok (rpc_answer calling.protocol (writes_of ws) endpoint omit)

-- To RPC: the input that is recovered, posted.
unfoldable pub rpc_of : Reading → OmitFlags → Calling → List ℕ → OmitFlags → Request → Option Request
rpc_of r omit calling rpc_endpoint rpc_omit q = option_and_then (λ ws. rpc_place calling ws rpc_endpoint rpc_omit) (recovered r omit q)

-- the writes that are read of the body of a post by the schema's members
abbrev pub read_call : Calling → Schema → Request → Option (List Write)
read_call calling schema q =
    if same_text q.method (codes "POST") then option_and_then (held_writes schema) (calling.holds q.body) else None

-- the normal form of a typed input that has the request of these writes
abbrev pub normal_form : Reading → OmitFlags → List Write → Option (List Write)
normal_form r omit ws = option_and_then (recovered r omit) (place r.protocol r.schema ws r.endpoint omit)

-- the flags that leave no header out
abbrev pub keep_all : OmitFlags
keep_all = record { content_type = false; content_length = false }

-- posted whole, the writes have this body, and are nested at most 100 deep
abbrev pub posts_writes : Protocol → Writes → Request → Bool
posts_writes protocol ws q =
    is_shallow_at max_nesting (structure ws)
    && option_map_or (λ p. same_text p.body q.body) (result_ok (rpc_answer protocol ws [] keep_all)) false

-- the normal form of what was read, where the request posts just that
abbrev pub posted_form : Reading → OmitFlags → Protocol → Request → List Write → Option (List Write)
posted_form r omit protocol q ws =
    option_and_then (λ us. then_some (posts_writes protocol (writes_of us) q) us) (normal_form r omit ws)

-- The input that a request posts.
unfoldable pub called : Reading → OmitFlags → Calling → Request → Option (List Write)
called r omit calling q = option_and_then (posted_form r omit calling.protocol q) (read_call calling r.schema q)

-- To REST: that input, placed.
unfoldable pub rest_of : Reading → OmitFlags → Calling → Request → Option Request
rest_of r omit calling q = option_and_then (λ ws. place r.protocol r.schema ws r.endpoint omit) (called r omit calling q)
