-- A table stays sound when a place is declared, and when one is defined by a node without fault.
use Rattle.std.proofs.Common.{◌≡◌, ◌≢◌, refl, sym, ap, ◌∙◌, ℕ, zero, suc, ◌+◌, ◌<◌, ◌≤◌, ◌==◌, nat_lt, Bool, true, false, ◌||◌, List, [], ◌∷◌, ◌++◌, length, set, arith, Option, Some, None, length-append}
use Rattle.std.specs.List.{slice_get}
use Rattle.std.specs.Option.{option_flatten, option_or, is_some, is_none}
use Rattle.std.proofs.lemmas.Bool.{eqb-true, eqb-false, ltb-true, lt-ltb, le-ltb}
use Rattle.smithy_ids.specs.declared.shape_type.ShapeType.{ShapeType}
use Rattle.smithy_types.specs.Results.{unless}
use Rattle.smithy_schema.specs.declared.error.SchemaError.{SchemaError}
use Rattle.smithy_schema.specs.declared.error.SchemaError.TheVariants as refusal
use Rattle.smithy_schema.specs.Nodes.{Node, Table, Schema, node_at, bare_node}
use Rattle.smithy_schema.specs.Outlines.{outline_of}
use Rattle.smithy_schema.specs.Defining.{index_at, position_fault, member_fault, members_fault, citing_fault, define_fault, declared_more, has_declared_places, is_member, HasMembersInPlace, IsSound}
use Rattle.smithy_schema.specs.WellMade.{is_whole}
use Rattle.smithy_schema.proofs.TableLemmas.{name_of_whole}

-- what stands at a place after one is declared
pub node_at-declared_more : {X : Type 0} (table : List (Option X)) (place : ℕ) → option_flatten (slice_get (table ++ None ∷ []) place) ≡ option_flatten (slice_get table place)
node_at-declared_more [] zero = refl
node_at-declared_more [] (suc place) = refl
node_at-declared_more (o ∷ table) zero = refl
node_at-declared_more (o ∷ table) (suc place) = node_at-declared_more table place

-- what stands at the place that is set, and at another one
pub node_at-set_same : {X : Type 0} (table : List (Option X)) (place : ℕ) (o : Option X) → place < length table → option_flatten (slice_get (set table place o) place) ≡ o
node_at-set_same [] place o h = absurd (omega arith)
node_at-set_same (p ∷ table) zero o h = refl
node_at-set_same (p ∷ table) (suc place) o h = node_at-set_same table place o (omega arith)

pub node_at-set_other : {X : Type 0} (table : List (Option X)) (place q : ℕ) (o : Option X) → q ≢ place → option_flatten (slice_get (set table place o) q) ≡ option_flatten (slice_get table q)
node_at-set_other [] place q o other = refl
node_at-set_other (p ∷ table) zero zero o other = absurd (other refl)
node_at-set_other (p ∷ table) zero (suc q) o other = refl
node_at-set_other (p ∷ table) (suc place) zero o other = refl
node_at-set_other (p ∷ table) (suc place) (suc q) o other = node_at-set_other table place q o (λ e. other (ap suc e))

-- the place of a node is one of the table's
pub node_at-within : (table : Table) (place : ℕ) (node : Node) → node_at table place ≡ Some node → place < length table
node_at-within [] place node e = absurd (cc e)
node_at-within (o ∷ table) zero node e = omega arith
node_at-within (o ∷ table) (suc place) node e = let h = node_at-within table place node e in omega arith

pub IsSound-empty : IsSound []
IsSound-empty = record {
  whole = λ place node e. absurd (cc e);
  members = λ place node e position member at. absurd (cc e);
}

pub IsSound-declared_more : (table : Table) → IsSound table → IsSound (declared_more table)
IsSound-declared_more table sound = record {
  whole = λ place node e. sound.whole place node (sym (node_at-declared_more table place) ∙ e);
  members = λ place node e position member at.
      ap (λ (o : Option Node). is_member o position) (node_at-declared_more table member) ∙ sound.members place node (sym (node_at-declared_more table place) ∙ e) position member at;
}

-- no fault of two is no fault of either
none_first : (o p : Option SchemaError) → option_or o p ≡ None → o ≡ None
none_first None p e = refl
none_first (Some f) p e = absurd (cc e)

none_second : (o p : Option SchemaError) → option_or o p ≡ None → p ≡ None
none_second None p e = e
none_second (Some f) p e = absurd (cc e)

unless-none : (b : Bool) (f : SchemaError) → unless b f ≡ None → b ≡ true
unless-none true f e = refl
unless-none false f e = absurd (cc e)

or_false : (b : Bool) → (b || false) ≡ true → b ≡ true
or_false true e = refl
or_false false e = e

-- a node without fault that has a name is a member
no_fault-is_member : (o : Option Node) (position : ℕ) → position_fault position (index_at o) ≡ None → ((node : Node) → o ≡ Some node → is_whole node ≡ true) → is_member o position ≡ true
no_fault-is_member None position e whole = absurd (cc e)
no_fault-is_member (Some node) position e whole = go node.member_index refl e
  where
    go : (index : Option ℕ) → node.member_index ≡ index → position_fault position index ≡ None → is_member (Some node) position ≡ true
    go None is fault = absurd (cc fault)
    go (Some i) is fault =
        let same : (i == position) ≡ true = unless-none (i == position) refusal.Order fault in
        let named : (is_some node.member_name || is_none node.member_index) ≡ true = name_of_whole node (whole node refl) in
        let name : is_some node.member_name ≡ true = or_false (is_some node.member_name) (rw is at named) in
        rw is (rw (same, name) refl)

-- members without fault are members, each at its position
no_fault-members : (table : Table) → ((place : ℕ) (node : Node) → node_at table place ≡ Some node → is_whole node ≡ true) → (places : List ℕ) (first : ℕ) → members_fault table first places ≡ None → (position member : ℕ) → slice_get places position ≡ Some member → is_member (node_at table member) (first + position) ≡ true
no_fault-members table whole [] first none position member at = absurd (cc at)
no_fault-members table whole (place ∷ places) first none zero member at =
    let same : place ≡ member = cc at in
    let here : is_member (node_at table place) first ≡ true = no_fault-is_member (node_at table place) first (none_first (member_fault table first place) (members_fault table (first + 1) places) none) (whole place) in
    let start : first + 0 ≡ first = omega arith in
    rw (← same, start) here
no_fault-members table whole (place ∷ places) first none (suc position) member at =
    let next : first + suc position ≡ first + 1 + position = omega arith in
    rw next (no_fault-members table whole places (first + 1) (none_second (member_fault table first place) (members_fault table (first + 1) places) none) position member at)

-- a member stays one when a hole is filled
kept_member : (table : Table) (index : ℕ) (node : Node) → node_at table index ≡ None → (place position : ℕ) → is_member (node_at table place) position ≡ true → is_member (node_at (set table index (Some node)) place) position ≡ true
kept_member table index node hole place position is =
    let other : place ≢ index = λ e. let bad : is_member None position ≡ true = rw (e, hole) at is in cc bad in
    rw (node_at-set_other table index place (Some node) other) is

-- what no fault says
pub record HasNoFault (table : Table) (index : ℕ) (node : Node) : Type 0 where
  pub within : index < length table
  pub hole : node_at table index ≡ None
  pub members : members_fault table 0 node.members ≡ None

none-from_is_none : (o : Option Node) → is_none o ≡ true → o ≡ None
none-from_is_none None e = refl
none-from_is_none (Some n) e = absurd (cc e)

pub no_fault : (table : Table) (index : ℕ) (node : Node) → define_fault table index node ≡ None → HasNoFault table index node
unfolding define_fault citing_fault
no_fault table index node none =
    let first = unless (nat_lt index (length table)) refusal.Unknown in
    let second = unless (is_none (node_at table index)) refusal.Defined in
    let third = citing_fault table (length table) node in
    let after_first : option_or second (option_or third None) ≡ None = none_second first (option_or second (option_or third None)) none in
    let after_second : option_or third None ≡ None = none_second second (option_or third None) after_first in
    record {
      within = ltb-true index (length table) (unless-none (nat_lt index (length table)) refusal.Unknown (none_first first (option_or second (option_or third None)) none));
      hole = none-from_is_none (node_at table index) (unless-none (is_none (node_at table index)) refusal.Defined (none_first second (option_or third None) after_first));
      members = none_second (unless (has_declared_places (length table) node) refusal.Unknown) (members_fault table 0 node.members) (none_first third None after_second);
    }

-- at each position of the members of a node without fault stands a member
pub no_fault-in_place : (table : Table) (index : ℕ) (node : Node) → IsSound table → define_fault table index node ≡ None → HasMembersInPlace (record { table = table; node = node })
no_fault-in_place table index node sound none position member at =
    let here = no_fault-members table sound.whole node.members 0 (no_fault table index node none).members position member at in
    let start : 0 + position ≡ position = omega arith in
    rw start at here

-- filling a hole keeps what stands at the places of members
pub kept_members : (table : Table) (index : ℕ) (node : Node) (schema : Schema) → schema.table ≡ table → node_at table index ≡ None → HasMembersInPlace schema → (position member : ℕ) → slice_get schema.node.members position ≡ Some member → node_at (set table index (Some node)) member ≡ node_at table member
kept_members table index node schema same hole in_place position member at =
    let is : is_member (node_at table member) position ≡ true = ap (λ (t : Table). is_member (node_at t member) position) (sym same) ∙ in_place position member at in
    let other : member ≢ index = λ e. let bad : is_member None position ≡ true = rw (e, hole) at is in cc bad in
    node_at-set_other table index member (Some node) other

pub IsSound-set : (table : Table) (index : ℕ) (node : Node) → IsSound table → define_fault table index node ≡ None → is_whole node ≡ true → IsSound (set table index (Some node))
IsSound-set table index node sound none whole = record {
  whole = λ place other e. (sound_at place other e (place == index) refl).0;
  members = λ place other e. (sound_at place other e (place == index) refl).1;
}
  where
    facts : HasNoFault table index node
    facts = no_fault table index node none

    filled : Table
    filled = set table index (Some node)

    AreMembers : Table → Node → Type 0
    AreMembers t n = HasMembersInPlace (record { table = t; node = n })

    new_members : AreMembers table node
    new_members = no_fault-in_place table index node sound none

    sound_at : (place : ℕ) (other : Node) → node_at (set table index (Some node)) place ≡ Some other → (b : Bool) → (place == index) ≡ b → (is_whole other ≡ true) × AreMembers (set table index (Some node)) other
    sound_at place other e true same =
        let here : place ≡ index = eqb-true place index same in
        let is : node ≡ other = (let at : Some node ≡ Some other = sym (node_at-set_same table index (Some node) facts.within) ∙ (rw here at e) in cc at) in
        rw (← is) (whole, λ position member at. kept_member table index node facts.hole member position (new_members position member at))
    sound_at place other e false differs =
        let elsewhere : place ≢ index = eqb-false place index differs in
        let old : node_at table place ≡ Some other = sym (node_at-set_other table index place (Some node) elsewhere) ∙ e in
        (sound.whole place other old, λ position member at. kept_member table index node facts.hole member position (sound.members place other old position member at))

-- the three ways of a place: not declared, defined, a hole
pub define_fault-past : (table : Table) (index : ℕ) (node : Node) → length table ≤ index → define_fault table index node ≡ Some refusal.Unknown
unfolding define_fault
define_fault-past table index node past = rw (le-ltb index (length table) past) refl

pub define_fault-defined : (table : Table) (index : ℕ) (node other : Node) → index < length table → node_at table index ≡ Some other → define_fault table index node ≡ Some refusal.Defined
unfolding define_fault
define_fault-defined table index node other within at = rw (lt-ltb index (length table) within, at) refl

option_or-none : (o : Option SchemaError) → option_or o None ≡ o
option_or-none None = refl
option_or-none (Some f) = refl

pub define_fault-hole : (table : Table) (index : ℕ) (node : Node) → index < length table → node_at table index ≡ None → define_fault table index node ≡ citing_fault table (length table) node
unfolding define_fault
define_fault-hole table index node within hole = rw (lt-ltb index (length table) within, hole) (option_or-none (citing_fault table (length table) node))

-- the fault of a node at a fresh place
pub define_fault-fresh : (table : Table) (node : Node) → define_fault (declared_more table) (length table) node ≡ citing_fault table (length table + 1) node
unfolding define_fault citing_fault
define_fault-fresh table node =
    let longer : length (declared_more table) ≡ length table + 1 = length-append table (None ∷ []) in
    let within : nat_lt (length table) (length table + 1) ≡ true = lt-ltb (length table) (length table + 1) (omega arith) in
    let hole : node_at (declared_more table) (length table) ≡ None = node_at-declared_more table (length table) ∙ past_end table in
    rw (longer, within, hole) (option_or-none (citing_fault (declared_more table) (length table + 1) node) ∙ ap (option_or (unless (has_declared_places (length table + 1) node) refusal.Unknown)) (same_members table 0 node.members))
  where
    past_end : (t : Table) → node_at t (length t) ≡ None
    past_end [] = refl
    past_end (o ∷ t) = past_end t

    same_members : (t : Table) (first : ℕ) (places : List ℕ) → members_fault (declared_more t) first places ≡ members_fault t first places
    same_members t first [] = refl
    same_members t first (place ∷ places) =
        rw (node_at-declared_more t place) (ap (option_or (member_fault t first place)) (same_members t (first + 1) places))

-- a node that cites nothing has no fault at a fresh place
pub bare-no_fault : (table : Table) (name : List ℕ) (shape_type : ShapeType) → define_fault (declared_more table) (length table) (bare_node name shape_type) ≡ None
unfolding citing_fault
bare-no_fault table name shape_type = define_fault-fresh table (bare_node name shape_type)

-- nor has an outline
pub outline-no_fault : (table : Table) (node : Node) → define_fault (declared_more table) (length table) (outline_of node) ≡ None
unfolding citing_fault
outline-no_fault table node = define_fault-fresh table (outline_of node)
