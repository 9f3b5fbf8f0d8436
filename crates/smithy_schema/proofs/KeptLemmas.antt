-- The faults of a table and what it keeps, over the nodes that it keeps.
use Rattle.std.proofs.Common.{◌≡◌, refl, sym, ap, subst, ◌∙◌, ℕ, ◌+◌, ◌<◌, ◌≤◌, ◌==◌, Bool, true, false, List, [], ◌∷◌, ◌++◌, length, set, option_map, Option, Some, None}
use Rattle.std.proofs.lemmas.Bool.{eqb-true, eqb-false}
use Rattle.std.specs.List.{position, slice_get}
use Rattle.std.proofs.lemmas.List.{map-set}
use Rattle.std.proofs.Math.Seq.{set-append_seam}
use Rattle.smithy_schema.specs.declared.stored.StoredDetails.{StoredDetails}
use Rattle.smithy_schema.specs.declared.stored.StoredDetails.TheVariants.{Outline, Full}
use Rattle.smithy_schema.specs.declared.stored.FullDetails.{FullDetails}
use Rattle.smithy_schema.specs.declared.stored.StoredNode.{StoredNode}
use Rattle.smithy_schema.specs.declared.member_names.MemberNames.{MemberNames}
use Rattle.smithy_schema.specs.declared.member_names.MemberNames.TheVariants.{Ascending, Mapped}
use Rattle.smithy_ids.specs.declared.traits.TimestampFormat.{TimestampFormat}
use Rattle.smithy_schema.specs.declared.error.SchemaError.{SchemaError}
use Rattle.smithy_schema.specs.declared.error.SchemaError.TheVariants as refusal
use Rattle.smithy_schema.specs.Nodes.{Node, Table, node_at, position_of_name}
use Rattle.smithy_schema.specs.views.Places.{places_of}
use Rattle.smithy_schema.specs.Outlines.{outline_of}
use Rattle.smithy_schema.specs.views.Details.{Details}
use Rattle.smithy_schema.specs.views.MemberNames.{ascend, is_named_at, FindsNames}
use Rattle.smithy_schema.specs.views.Stored.{node_stored, details_full, details_stored, table_stored}
use Rattle.smithy_schema.specs.Defining.{citing_fault, define_fault, declared_more}
use Rattle.smithy_schema.specs.Routing.{bound_among, routing, word_of}
use Rattle.smithy_schema.specs.WellMade.{is_whole}
use Rattle.smithy_schema.specs.views.Kept.{IsKept, HasMembers, kept_at}
use Rattle.smithy_schema.proofs.AscendLemmas.{names_in-same}
use Rattle.smithy_schema.proofs.NamedLemmas.{HasPositions-same}
use Rattle.smithy_schema.proofs.RoutingLemmas.{bound_among-same}
use Rattle.smithy_schema.proofs.TableLemmas.{length-table_stored, node_at-table_stored, table_stored-push}
use Rattle.smithy_schema.proofs.SoundLemmas.{no_fault, no_fault-in_place, kept_members, node_at-declared_more, node_at-set_same, node_at-set_other, define_fault-past, define_fault-defined, define_fault-hole, define_fault-fresh, IsSound-declared_more, IsSound-set, outline-no_fault}

pub past : (nodes seen : List (Option StoredNode)) (index : ℕ) (node : Node) → seen ≡ nodes → length seen ≤ index → Some refusal.Unknown ≡ define_fault (table_stored nodes) index node
past nodes seen index node same above =
    let long : length (table_stored nodes) ≤ index = rw (length-table_stored nodes, ← same) above in
    sym (define_fault-past (table_stored nodes) index node long)

pub defined : (nodes seen : List (Option StoredNode)) (index : ℕ) (node other : Node) → seen ≡ nodes → index < length seen → Some other ≡ node_at (table_stored seen) index → Some refusal.Defined ≡ define_fault (table_stored nodes) index node
defined nodes seen index node other same below at =
    let within : index < length (table_stored nodes) = rw (length-table_stored nodes, ← same) below in
    sym (define_fault-defined (table_stored nodes) index node other within (rw (← same) (sym at)))

pub hole : (nodes seen : List (Option StoredNode)) (index : ℕ) (node : Node) (f : Option SchemaError) → seen ≡ nodes → index < length seen → None ≡ node_at (table_stored seen) index → f ≡ citing_fault (table_stored seen) (length seen) node → f ≡ define_fault (table_stored nodes) index node
hole nodes seen index node f same below at is =
    let within : index < length (table_stored nodes) = rw (length-table_stored nodes, ← same) below in
    rw (define_fault-hole (table_stored nodes) index node within (rw (← same) (sym at)), length-table_stored nodes, ← same) is

pub fresh : (nodes seen : List (Option StoredNode)) (node : Node) (f : Option SchemaError) → seen ≡ nodes → f ≡ citing_fault (table_stored seen) (length seen + 1) node → f ≡ define_fault (declared_more (table_stored nodes)) (length (table_stored nodes)) node
fresh nodes seen node f same is = rw (define_fault-fresh (table_stored nodes) node, length-table_stored nodes, ← same) is

-- a place without fault is one of the table's
pub within : (nodes : List (Option StoredNode)) (index : ℕ) (node : Node) → define_fault (table_stored nodes) index node ≡ None → index < length nodes
within nodes index node none = let h = (no_fault (table_stored nodes) index node none).within in rw length-table_stored at h

pub table_stored-set : (nodes : List (Option StoredNode)) (index : ℕ) (n : StoredNode) → table_stored (set nodes index (Some n)) ≡ set (table_stored nodes) index (Some (node_stored n))
table_stored-set nodes index n = map-set (option_map node_stored) nodes index (Some n)

-- what is kept at a place, and what stands there
pub node_at-kept : (nodes : List (Option StoredNode)) (place : ℕ) (n : StoredNode) → kept_at nodes place ≡ Some n → node_at (table_stored nodes) place ≡ Some (node_stored n)
node_at-kept nodes place n at = node_at-table_stored nodes place ∙ ap (λ (o : Option StoredNode). option_map node_stored o) at

-- what is kept of the members of a node
pub members_at : (nodes seen : List (Option StoredNode)) (place : ℕ) (n : StoredNode) → IsKept nodes → seen ≡ nodes → Some n ≡ kept_at seen place → HasMembers (table_stored nodes) n.details
members_at nodes seen place n kept same at = kept.members place n (rw (← same) (sym at))

-- the members are found by their names where the table keeps what stands at their places
FindsNames-same : (old new : Table) (places : List ℕ) (names : MemberNames) → ((position member : ℕ) → slice_get places position ≡ Some member → node_at new member ≡ node_at old member) → FindsNames old places names → FindsNames new places names
FindsNames-same old new places Ascending same up = ap (ascend None) (sym (names_in-same old new places same)) ∙ up
FindsNames-same old new places (Mapped m) same has = record {
  positions = HasPositions-same old new places m.value.positions same has.positions;
  followers = has.followers;
}

-- so is what is kept of them
HasMembers-same : (old new : Table) (d : StoredDetails) → ((position member : ℕ) → slice_get (details_stored d).members position ≡ Some member → node_at new member ≡ node_at old member) → HasMembers old d → HasMembers new d
HasMembers-same old new (Outline format) same has = has
HasMembers-same old new (Full d) same has = record {
  names = FindsNames-same old new (places_of d.value.members.items) d.value.names same has.names;
  routing = has.routing ∙ ap word_of (bound_among-same old new (places_of d.value.members.items) same);
}

pub IsKept-declared : (nodes : List (Option StoredNode)) → IsKept nodes → IsKept (nodes ++ None ∷ [])
IsKept-declared nodes kept =
    let more : table_stored (nodes ++ None ∷ []) ≡ declared_more (table_stored nodes) = table_stored-push nodes None in
    record {
      sound = rw more (IsSound-declared_more (table_stored nodes) kept.sound);
      members = λ place n at. rw more
          (HasMembers-same (table_stored nodes) (declared_more (table_stored nodes)) n.details (λ position member _. node_at-declared_more (table_stored nodes) member)
          (kept.members place n (sym (node_at-declared_more nodes place) ∙ at)));
    }

-- a hole that is filled by a node without fault
filled : (nodes : List (Option StoredNode)) (index : ℕ) (n : StoredNode) → IsKept nodes → define_fault (table_stored nodes) index (node_stored n) ≡ None → is_whole (node_stored n) ≡ true → HasMembers (table_stored nodes) n.details → IsKept (set nodes index (Some n))
filled nodes index n kept none whole has = record {
  sound = rw table_is (IsSound-set table index (node_stored n) kept.sound none whole);
  members = λ place other at. rw table_is (members place other at (place == index) refl);
}
  where
    table : Table
    table = table_stored nodes

    new : Table
    new = set table index (Some (node_stored n))

    table_is : table_stored (set nodes index (Some n)) ≡ new
    table_is = table_stored-set nodes index n

    hole : node_at table index ≡ None
    hole = (no_fault table index (node_stored n) none).hole

    members : (place : ℕ) (other : StoredNode) → kept_at (set nodes index (Some n)) place ≡ Some other → (b : Bool) → (place == index) ≡ b → HasMembers new other.details
    members place other at true e =
        let here : place ≡ index = eqb-true place index e in
        let is : n ≡ other = (let found : Some n ≡ Some other = sym (node_at-set_same nodes index (Some n) (within nodes index (node_stored n) none)) ∙ (rw here at at) in cc found) in
        subst (λ (o : StoredNode). HasMembers new o.details) is
        (HasMembers-same table new n.details
        (kept_members table index (node_stored n) (record { table = table; node = node_stored n }) refl hole (no_fault-in_place table index (node_stored n) kept.sound none)) has)
    members place other at false e =
        let old : kept_at nodes place ≡ Some other = sym (node_at-set_other nodes index place (Some n) (eqb-false place index e)) ∙ at in
        HasMembers-same table new other.details
        (kept_members table index (node_stored n) (record { table = table; node = node_stored other }) refl hole (λ position member found. kept.sound.members place (node_stored other) (node_at-kept nodes place other old) position member found))
        (kept.members place other old)

-- the same by the description that was copied
pub IsKept-filled : (nodes : List (Option StoredNode)) (index : ℕ) (n : StoredNode) (node : Node) → IsKept nodes → define_fault (table_stored nodes) index node ≡ None → node_stored n ≡ node → is_whole (node_stored n) ≡ true → HasMembers (table_stored nodes) n.details → IsKept (set nodes index (Some n))
IsKept-filled nodes index n node kept none same whole has = filled nodes index n kept (rw same none) whole has

-- the copy of a node without fault at a fresh place
pub IsKept-pushed : (nodes : List (Option StoredNode)) (n : StoredNode) (node : Node) → IsKept nodes → define_fault (declared_more (table_stored nodes)) (length (table_stored nodes)) node ≡ None → node_stored n ≡ node → is_whole (node_stored n) ≡ true → HasMembers (table_stored nodes) n.details → IsKept (nodes ++ Some n ∷ [])
IsKept-pushed nodes n node kept none same whole has =
    let more : table_stored (nodes ++ None ∷ []) ≡ declared_more (table_stored nodes) = table_stored-push nodes None in
    let still : HasMembers (table_stored (nodes ++ None ∷ [])) n.details =
    rw more (HasMembers-same (table_stored nodes) (declared_more (table_stored nodes)) n.details (λ position member _. node_at-declared_more (table_stored nodes) member) has) in
    let no : define_fault (table_stored (nodes ++ None ∷ [])) (length nodes) node ≡ None = rw (more, ← length-table_stored nodes) none in
    rw (← set-append_seam nodes None [] (Some n)) (IsKept-filled (nodes ++ None ∷ []) (length nodes) n node (IsKept-declared nodes kept) no same whole still)

-- an outline at a fresh place
pub IsKept-outlined : (nodes : List (Option StoredNode)) (n : StoredNode) (node : Node) (format : Option TimestampFormat) → IsKept nodes → node_stored n ≡ outline_of node → is_whole (node_stored n) ≡ true → n.details ≡ Outline format → IsKept (nodes ++ Some n ∷ [])
IsKept-outlined nodes n node format kept same whole is =
    IsKept-pushed nodes n (outline_of node) kept (outline-no_fault (table_stored nodes) node) same whole (rw is tt)

-- the position of a name among the members that are kept is that among the node's
pub position_kept : (table : Table) (n : StoredNode) (full : FullDetails) (node : Node) (name : List ℕ) (found : Option ℕ) → details_stored n.details ≡ details_full full → found ≡ position (is_named_at table name) (places_of full.members.items) → node_stored n ≡ node → found ≡ position_of_name (record { table = table; node = node }) name
position_kept table n full node name found is has same =
    has ∙ ap (λ (d : Details). position (is_named_at table name) d.members) (sym is) ∙ ap (λ (m : Node). position (is_named_at table name) m.members) same

-- so is the routing word
pub routing_kept : (table : Table) (n : StoredNode) (full : FullDetails) (node : Node) → details_stored n.details ≡ details_full full → full.routing ≡ word_of (bound_among table (places_of full.members.items)) → node_stored n ≡ node → full.routing ≡ routing (record { table = table; node = node })
unfolding routing
routing_kept table n full node is has same =
    has ∙ ap (λ (d : Details). word_of (bound_among table d.members)) (sym is) ∙ ap (λ (m : Node). word_of (bound_among table m.members)) same

-- an outline has no members
pub routing_outlined : (table : Table) (n : StoredNode) (format : Option TimestampFormat) (node : Node) → details_stored n.details ≡ details_stored (Outline format) → node_stored n ≡ node → 0 ≡ routing (record { table = table; node = node })
unfolding routing
routing_outlined table n format node is same =
    ap (λ (d : Details). word_of (bound_among table d.members)) (sym is) ∙ ap (λ (m : Node). word_of (bound_among table m.members)) same
