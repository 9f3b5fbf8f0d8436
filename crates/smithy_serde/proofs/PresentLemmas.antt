-- Writes without the null members, one after the other.
use Rattle.std.proofs.Common.{◌≡◌, ◌≢◌, List, [], ◌∷◌, length, arith, refl, sym, ap, ◌∙◌, subst}
use Rattle.smithy_schema.specs.Nodes.{Table}
use Rattle.smithy_serde.specs.Present.{present, present_members, present_parts}
use Rattle.smithy_serde.specs.StoredValues.{label_at, value_in, writes_in, listed, kept_writes, IsDefined, AreDefined, AreListedDefined, with_write, StaysDefinedWith}
use Rattle.smithy_serde.specs.Told.{appended, one_write}
use Rattle.smithy_serde.specs.Values.{Label, Value, list, map, structure, Writes, no_writes, write}
use Rattle.smithy_serde.specs.declared.value.OneWrite.{OneWrite}
use Rattle.smithy_serde.specs.declared.value.ShapeValue.{ShapeValue}
use Rattle.smithy_serde.specs.declared.value.ShapeValue.TheVariants as stored
use Rattle.smithy_serde.specs.declared.value.WriteList.{WriteList}
use Rattle.smithy_serde.proofs.StoredLemmas.{writes_listed, AreDefined-listed}
use Rattle.smithy_serde.proofs.WritesLemmas.{appended-no_writes, appended_assoc}

-- where all is defined, so is what is kept, and the rest
abbrev pub StaysDefinedBehind : WriteList → WriteList → List OneWrite → Type 0
StaysDefinedBehind all kept rest = (t : Table) → AreDefined t all → AreDefined t kept × AreListedDefined t rest

-- ---- groups

pub list_present : (t : Table) (v : ShapeValue) (ws kept : WriteList) → v ≡ stored.List ws → writes_in t kept ≡ present_parts (writes_in t ws)
    → value_in t (stored.List kept) ≡ present (value_in t v)
unfolding value_in
list_present t v ws kept is h = ap list h ∙ sym (ap (λ x. present (value_in t x)) is)

pub map_present : (t : Table) (v : ShapeValue) (ws kept : WriteList) → v ≡ stored.Map ws → writes_in t kept ≡ present_parts (writes_in t ws)
    → value_in t (stored.Map kept) ≡ present (value_in t v)
unfolding value_in
map_present t v ws kept is h = ap map h ∙ sym (ap (λ x. present (value_in t x)) is)

pub struct_present : (t : Table) (v : ShapeValue) (ws kept : WriteList) → v ≡ stored.Struct ws → writes_in t kept ≡ present_members (writes_in t ws)
    → value_in t (stored.Struct kept) ≡ present (value_in t v)
unfolding value_in
struct_present t v ws kept is h = ap structure h ∙ sym (ap (λ x. present (value_in t x)) is)

pub list_defined : (t : Table) (v : ShapeValue) (ws kept : WriteList) → v ≡ stored.List ws → (AreDefined t ws → AreDefined t kept)
    → IsDefined t v → IsDefined t (stored.List kept)
unfolding IsDefined
list_defined t v ws kept is h d = h (subst (IsDefined t) is d)

pub map_defined : (t : Table) (v : ShapeValue) (ws kept : WriteList) → v ≡ stored.Map ws → (AreDefined t ws → AreDefined t kept)
    → IsDefined t v → IsDefined t (stored.Map kept)
unfolding IsDefined
map_defined t v ws kept is h d = h (subst (IsDefined t) is d)

pub struct_defined : (t : Table) (v : ShapeValue) (ws kept : WriteList) → v ≡ stored.Struct ws → (AreDefined t ws → AreDefined t kept)
    → IsDefined t v → IsDefined t (stored.Struct kept)
unfolding IsDefined
struct_defined t v ws kept is h d = h (subst (IsDefined t) is d)

-- a value that is no group stays
pub scalar_present : (t : Table) (v : ShapeValue) → ((ws : WriteList) → v ≢ stored.List ws) → ((ws : WriteList) → v ≢ stored.Map ws)
    → ((ws : WriteList) → v ≢ stored.Struct ws) → value_in t v ≡ present (value_in t v)
unfolding value_in
scalar_present t (stored.List ws) l m s = absurd (l ws refl)
scalar_present t (stored.Map ws) l m s = absurd (m ws refl)
scalar_present t (stored.Struct ws) l m s = absurd (s ws refl)
scalar_present t (stored.Boolean x) l m s = refl
scalar_present t (stored.Byte x) l m s = refl
scalar_present t (stored.Short x) l m s = refl
scalar_present t (stored.Integer x) l m s = refl
scalar_present t (stored.Long x) l m s = refl
scalar_present t (stored.BigInteger x) l m s = refl
scalar_present t (stored.BigDecimal x) l m s = refl
scalar_present t (stored.String x) l m s = refl
scalar_present t (stored.Blob x) l m s = refl
scalar_present t (stored.Timestamp x) l m s = refl
scalar_present t (stored.Document x) l m s = refl
scalar_present t stored.Null l m s = refl

-- ---- steps

-- a write that is kept is the next one of what comes of all
kept_next : (t : Table) (old new : WriteList) (node : _) (v : ShapeValue) (here : Value) (more : Writes) → writes_in t new ≡ with_write t old node v → value_in t v ≡ here
    → appended (writes_in t new) more ≡ appended (writes_in t old) (write (label_at t node.0) here more)
kept_next t old new node v here more added is =
    ap (λ ws. appended ws more) added ∙ appended_assoc (writes_in t old) (one_write (label_at t node.0) (value_in t v)) more
    ∙ ap (λ x. appended (writes_in t old) (write (label_at t node.0) x more)) is

-- a null member is left out, and any other stays
member_stays : (t : Table) (l : Label) (v : ShapeValue) (ws : Writes) → v ≢ stored.Null
    → present_members (write l (value_in t v) ws) ≡ write l (present (value_in t v)) (present_members ws)
unfolding value_in
member_stays t l stored.Null ws there = absurd (there refl)
member_stays t l (stored.List x) ws there = refl
member_stays t l (stored.Map x) ws there = refl
member_stays t l (stored.Struct x) ws there = refl
member_stays t l (stored.Boolean x) ws there = refl
member_stays t l (stored.Byte x) ws there = refl
member_stays t l (stored.Short x) ws there = refl
member_stays t l (stored.Integer x) ws there = refl
member_stays t l (stored.Long x) ws there = refl
member_stays t l (stored.BigInteger x) ws there = refl
member_stays t l (stored.BigDecimal x) ws there = refl
member_stays t l (stored.String x) ws there = refl
member_stays t l (stored.Blob x) ws there = refl
member_stays t l (stored.Timestamp x) ws there = refl
member_stays t l (stored.Document x) ws there = refl

member_gone : (t : Table) (l : Label) (v : ShapeValue) (ws : Writes) → v ≡ stored.Null → present_members (write l (value_in t v) ws) ≡ present_members ws
unfolding value_in
member_gone t l v ws is = ap (λ x. present_members (write l (value_in t x) ws)) is

-- what is left of a list of writes, of which the first is taken
module _ (t : Table) (all : Writes) (w : OneWrite) (left rest : List OneWrite) (kept new : WriteList) (v : ShapeValue) (first : left ≡ w ∷ rest)
    (added : writes_in t new ≡ with_write t kept w.node v) (same : value_in t v ≡ present (value_in t w.value)) where
  pub part_more : appended (writes_in t kept) (present_parts (listed t left)) ≡ present_parts all → appended (writes_in t new) (present_parts (listed t rest)) ≡ present_parts all
  part_more h = kept_next t kept new w.node v _ _ added same ∙ ap (λ ws. appended (writes_in t kept) (present_parts (listed t ws))) (sym first) ∙ h

  pub member_more : w.value ≢ stored.Null → appended (writes_in t kept) (present_members (listed t left)) ≡ present_members all
      → appended (writes_in t new) (present_members (listed t rest)) ≡ present_members all
  member_more there h =
      kept_next t kept new w.node v _ _ added same ∙ ap (appended (writes_in t kept)) (sym (member_stays t (label_at t w.node.0) w.value (listed t rest) there))
      ∙ ap (λ ws. appended (writes_in t kept) (present_members (listed t ws))) (sym first) ∙ h

pub null_more : (t : Table) (all : Writes) (w : OneWrite) (left rest : List OneWrite) (kept : WriteList) → left ≡ w ∷ rest → w.value ≡ stored.Null
    → appended (writes_in t kept) (present_members (listed t left)) ≡ present_members all → appended (writes_in t kept) (present_members (listed t rest)) ≡ present_members all
null_more t all w left rest kept first is h =
    ap (appended (writes_in t kept)) (sym (member_gone t (label_at t w.node.0) w.value (listed t rest) is))
    ∙ ap (λ ws. appended (writes_in t kept) (present_members (listed t ws))) (sym first) ∙ h

-- and defined
pub defined_more : (all kept new : WriteList) (w : OneWrite) (left rest : List OneWrite) (v : ShapeValue) → left ≡ w ∷ rest → StaysDefinedWith w.node v kept new
    → ((t : Table) → IsDefined t w.value → IsDefined t v) → StaysDefinedBehind all kept left → StaysDefinedBehind all new rest
defined_more all kept new w left rest v first stays inside h = λ t d.
    let here = h t d in
    let parts = subst (AreListedDefined t) first here.1 in
    (stays t here.0 parts.0 (inside t parts.1), parts.2)

pub defined_past : (all kept : WriteList) (w : OneWrite) (left rest : List OneWrite) → left ≡ w ∷ rest → StaysDefinedBehind all kept left → StaysDefinedBehind all kept rest
defined_past all kept w left rest first h = λ t d.
    let here = h t d in
    let parts = subst (AreListedDefined t) first here.1 in
    (here.0, parts.2)

-- ---- ends

pub parts_begin : (t : Table) (all kept : WriteList) (left : List OneWrite) → writes_in t kept ≡ no_writes → left ≡ kept_writes all
    → appended (writes_in t kept) (present_parts (listed t left)) ≡ present_parts (writes_in t all)
parts_begin t all kept left none is =
    ap (λ ws. appended ws (present_parts (listed t left))) none ∙ ap (λ ws. present_parts (listed t ws)) is ∙ ap present_parts (sym (writes_listed t all))

pub members_begin : (t : Table) (all kept : WriteList) (left : List OneWrite) → writes_in t kept ≡ no_writes → left ≡ kept_writes all
    → appended (writes_in t kept) (present_members (listed t left)) ≡ present_members (writes_in t all)
members_begin t all kept left none is =
    ap (λ ws. appended ws (present_members (listed t left))) none ∙ ap (λ ws. present_members (listed t ws)) is ∙ ap present_members (sym (writes_listed t all))

pub defined_begin : (all kept : WriteList) (left : List OneWrite) → ((t : Table) → AreDefined t kept) → left ≡ kept_writes all → StaysDefinedBehind all kept left
defined_begin all kept left there is = λ t d. (there t, subst (AreListedDefined t) (sym is) (AreDefined-listed t all d))

pub none_left : {A : Type 0} (xs : List A) → length xs ≡ 0 → xs ≡ []
none_left [] none = refl
none_left (x ∷ xs) none = absurd (omega (arith, none))

pub parts_end : (t : Table) (kept : WriteList) (left : List OneWrite) (all : Writes) → left ≡ [] → appended (writes_in t kept) (present_parts (listed t left)) ≡ present_parts all
    → writes_in t kept ≡ present_parts all
parts_end t kept left all none h = sym (appended-no_writes (writes_in t kept)) ∙ ap (λ ws. appended (writes_in t kept) (present_parts (listed t ws))) (sym none) ∙ h

pub members_end : (t : Table) (kept : WriteList) (left : List OneWrite) (all : Writes) → left ≡ [] → appended (writes_in t kept) (present_members (listed t left)) ≡ present_members all
    → writes_in t kept ≡ present_members all
members_end t kept left all none h = sym (appended-no_writes (writes_in t kept)) ∙ ap (λ ws. appended (writes_in t kept) (present_members (listed t ws))) (sym none) ∙ h
