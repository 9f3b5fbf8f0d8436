-- What is kept of a body, in the words of the way back.
use Rattle.std.proofs.Common.{◌≡◌, refl, sym, ◌∙◌, ap, subst, cond, ℕ, Bool, true, false, ◌||◌, not, List, [], ◌∷◌, length, map, filter_map, Option, Some, None, Result, Ok, Err, option_map, option_and_then, is_some, arith}
use Rattle.std.specs.List.{list_any, cons_option}
use Rattle.std.specs.Option.{option_map_or}
use Rattle.smithy_ids.specs.declared.shape_type.ShapeType.{ShapeType}
use Rattle.smithy_ids.specs.declared.shape_type.ShapeType.TheVariants as kind
use Rattle.smithy_schema.specs.Nodes.{Schema, Table, at_place, members_of, Binding, to_body, binding_of, is_outside_body, is_bound}
use Rattle.smithy_schema.specs.declared.parts.SchemaIndex.{SchemaIndex}
use Rattle.smithy_serde.specs.Held.{Held}
use Rattle.smithy_serde.specs.StoredValues.{value_in, writes_in, IsDefined, AreDefined}
use Rattle.smithy_serde.specs.Values as value
use Rattle.smithy_serde.specs.Values.{Value, Writes, no_writes, Write, list_of}
use Rattle.smithy_serde.specs.declared.value.ShapeValue.{ShapeValue}
use Rattle.smithy_serde.specs.declared.value.WriteList.{WriteList}
use Rattle.smithy_binding.specs.Bodies.{is_raw_kind, has_unbound_member}
use Rattle.smithy_recovery.specs.BodyParts.{text_payload, held_value, held_writes, payload_value, is_asked_at, is_asked, reads_body, is_told}
use Rattle.smithy_recovery.specs.views.Keeping.{Keeps, KeepsHeld, KeepsPart, KeepsWrites, KeepsMembers}
use Rattle.smithy_recovery.specs.views.KeptBodies.{KeepsValueTold, KeepsPartTold, KeepsPayload, KeepsBody, is_unbound_at}
use Rattle.smithy_recovery.specs.declared.error.RecoverError.{RecoverError}
use Rattle.smithy_recovery.specs.declared.error.RecoverError.TheVariants.{NotPlaced, OutOfMemory}

-- What is kept is kept where it is told.

pub value_told : (told : Bool) (t : Table) (read : Option Value) (result : Result ShapeValue RecoverError) → Keeps t read result → KeepsValueTold told t read result
value_told told t read (Ok v) h = record { value = λ _. h; defined = h.defined }
value_told told t read (Err NotPlaced) h = record { value = λ _. h; defined = tt }
value_told told t read (Err OutOfMemory) h = record { value = λ _. h; defined = tt }

pub part_told : (told : Bool) (t : Table) (read : Option (Option Value)) (result : Result (Option ShapeValue) RecoverError) → KeepsPart t read result → KeepsPartTold told t read result
part_told told t read (Ok (Some v)) h = record { part = λ _. h; defined = h.1 }
part_told told t read (Ok None) h = record { part = λ _. h; defined = tt }
part_told told t read (Err NotPlaced) h = record { part = λ _. h; defined = tt }
part_told told t read (Err OutOfMemory) h = record { part = λ _. h; defined = tt }

-- The value of a payload by its kind.

pub blob_kept : (told : Bool) (t : Table) (holds : List ℕ → Option Held) (k : ShapeType) (m : Schema) (body : List ℕ) (v : ShapeValue) → k ≡ kind.Blob → value_in t v ≡ value.scalar (value.blob body) → IsDefined t v
    → KeepsValueTold told t (payload_value holds k m body) (Ok v)
blob_kept told t holds k m body v is same defined =
    subst (λ k. KeepsValueTold told t (payload_value holds k m body) (Ok v)) (sym is)
    (value_told told t (Some (value.scalar (value.blob body))) (Ok v) (record { value = ap (λ x. Some x) (sym same); defined = defined }))

pub text_kept : (told : Bool) (t : Table) (holds : List ℕ → Option Held) (k : ShapeType) (m : Schema) (body : List ℕ) (result : Result ShapeValue RecoverError) → k ≡ kind.String → Keeps t (text_payload body) result
    → KeepsValueTold told t (payload_value holds k m body) result
text_kept told t holds k m body result is kept =
    subst (λ k. KeepsValueTold told t (payload_value holds k m body) result) (sym is) (value_told told t (text_payload body) result kept)

held_kept : (t : Table) (o : Option Held) (read : Held → Option Value) (result : Result ShapeValue RecoverError) → is_some o ≡ true → ((h : Held) → o ≡ Some h → Keeps t (read h) result) → Keeps t (option_and_then read o) result
held_kept t None read result told kept = absurd (cc told)
held_kept t (Some h) read result told kept = kept h refl

pub codec_kept : (t : Table) (holds : List ℕ → Option Held) (k : ShapeType) (m : Schema) (body : List ℕ) (result : Result ShapeValue RecoverError) → (k ≡ kind.Blob → ⊥) → (k ≡ kind.String → ⊥) → KeepsHeld t (holds body) (held_value m) result
    → KeepsValueTold (is_told (not (is_raw_kind k)) (holds body)) t (payload_value holds k m body) result
codec_kept t holds kind.Blob m body result no_blob no_text kept = absurd (no_blob refl)
codec_kept t holds kind.String m body result no_blob no_text kept = absurd (no_text refl)
codec_kept t holds _ m body result no_blob no_text kept =
    record { value = λ told. held_kept t (holds body) (held_value m) result told kept.value; defined = kept.defined }

-- The part of a payload.

pub nothing_kept : (t : Table) (holds : List ℕ → Option Held) (m : Schema) (body : List ℕ) → length body ≡ 0 → KeepsPayload t holds m body (Ok None)
nothing_kept t holds m [] e = record { part = λ _. refl; defined = tt }
nothing_kept t holds m (b ∷ body) e = absurd (omega (arith, e))

pub payload_kept : (t : Table) (holds : List ℕ → Option Held) (m : Schema) (body : List ℕ) (v : ShapeValue) → (length body ≡ 0 → ⊥)
    → KeepsValueTold (is_told (not (is_raw_kind m.node.kind)) (holds body)) t (payload_value holds m.node.kind m body) (Ok v) → KeepsPayload t holds m body (Ok (Some v))
payload_kept t holds m [] v some kept = absurd (some refl)
payload_kept t holds m (b ∷ body) v some kept =
    record { part = λ told. let x = kept.value told in (ap (option_map (λ u. Some u)) x.value, x.defined); defined = kept.defined }

payload_error : (t : Table) (holds : List ℕ → Option Held) (m : Schema) (body : List ℕ) (e : RecoverError) → (length body ≡ 0 → ⊥)
    → KeepsValueTold (is_told (not (is_raw_kind m.node.kind)) (holds body)) t (payload_value holds m.node.kind m body) (Err e) → KeepsPayload t holds m body (Err e)
payload_error t holds m [] e some kept = absurd (some refl)
payload_error t holds m (b ∷ body) NotPlaced some kept = record { part = λ told. ap (option_map (λ u. Some u)) (kept.value told); defined = tt }
payload_error t holds m (b ∷ body) OutOfMemory some kept = record { part = λ told. tt; defined = tt }

pub payload_refused : (t : Table) (holds : List ℕ → Option Held) (m : Schema) (body : List ℕ) (e : RecoverError) (r : Result (Option ShapeValue) RecoverError) → r ≡ Err e → (length body ≡ 0 → ⊥)
    → KeepsValueTold (is_told (not (is_raw_kind m.node.kind)) (holds body)) t (payload_value holds m.node.kind m body) (Err e) → KeepsPayload t holds m body r
payload_refused t holds m body e r is some kept = rw is (payload_error t holds m body e some kept)

-- The unbound members.

pub or_right : (a b : Bool) → b ≡ true → (a || b) ≡ true
or_right true b e = refl
or_right false b e = e

-- some member at these places passes a test
any_placed : (test : Schema → Bool) (t : Table) (places : List ℕ) → list_any (λ p. option_map_or test (at_place t p) false) places ≡ list_any test (filter_map (at_place t) places)
any_placed test t [] = refl
any_placed test t (p ∷ places) = go (at_place t p) (any_placed test t places)
  where
    go : (o : Option Schema) → list_any (λ p. option_map_or test (at_place t p) false) places ≡ list_any test (filter_map (at_place t) places)
        → (option_map_or test o false || list_any (λ p. option_map_or test (at_place t p) false) places) ≡ list_any test (cons_option o (filter_map (at_place t) places))
    go None rest = rest
    go (Some m) rest = ap (λ b. test m || b) rest

pub any_shown : (test : ℕ → Bool) (places : List SchemaIndex) → list_any (λ p. test p.0) places ≡ list_any test (map (λ p. p.0) places)
any_shown test [] = refl
any_shown test (p ∷ places) = ap (λ b. test p.0 || b) (any_shown test places)

pub any_unbound : (schema : Schema) (t : Table) (places : List ℕ) (found : Bool) → schema.table ≡ t → places ≡ schema.node.members → found ≡ list_any (is_unbound_at t) places → found ≡ has_unbound_member schema
any_unbound schema t places found same are e =
    e ∙ ap (list_any (is_unbound_at t)) are ∙ any_placed (λ m. not (is_bound m)) t schema.node.members
    ∙ ap (λ u. list_any (λ m. not (is_bound m)) (filter_map (at_place u) schema.node.members)) (sym same)

unbound_is_asked : (b : Binding) (k : ShapeType) (body : List ℕ) → is_outside_body b ≡ false → is_asked_at b k body ≡ true
unbound_is_asked to_body k body e = refl
unbound_is_asked _ k body e = absurd (cc e)

-- the reader is asked of an unbound member
unbound_asked : (body : List ℕ) (ms : List Schema) → list_any (λ m. not (is_bound m)) ms ≡ true → list_any (is_asked body) ms ≡ true
unbound_asked body [] e = e
unbound_asked body (m ∷ ms) e = go (is_bound m) refl e (unbound_asked body ms)
  where
    go : (b : Bool) → is_bound m ≡ b → (not b || list_any (λ m. not (is_bound m)) ms) ≡ true → (list_any (λ m. not (is_bound m)) ms ≡ true → list_any (is_asked body) ms ≡ true) → (is_asked body m || list_any (is_asked body) ms) ≡ true
    go false is h rest = ap (λ a. a || list_any (is_asked body) ms) (unbound_is_asked (binding_of m) m.node.kind body is)
    go true is h rest = or_right (is_asked body m) (list_any (is_asked body) ms) (rest h)

asked_some : (asked : Bool) (o : Option Held) → asked ≡ true → is_told asked o ≡ true → is_some o ≡ true
asked_some asked o is told = ap (λ a. not a || is_some o) (sym is) ∙ told

members_kept : (t : Table) (schema : Schema) (o : Option Held) (result : Result WriteList RecoverError) → is_some o ≡ true → ((h : Held) → o ≡ Some h → KeepsWrites t (held_writes schema h) result)
    → KeepsWrites t (option_and_then (held_writes schema) o) result
members_kept t schema None result some kept = absurd (cc some)
members_kept t schema (Some h) result some kept = kept h refl

pub body_kept : (t : Table) (holds : List ℕ → Option Held) (schema : Schema) (body : List ℕ) (result : Result WriteList RecoverError) → has_unbound_member schema ≡ true → KeepsMembers t (holds body) (held_writes schema) result
    → KeepsBody t holds schema body result
body_kept t holds schema body result some kept =
    record {
      writes = λ told.
          subst (λ b. KeepsWrites t (cond b (option_and_then (held_writes schema) (holds body)) (Some [])) result) (sym some)
          (members_kept t schema (holds body) result (asked_some (reads_body schema body) (holds body) (unbound_asked body (members_of schema) some) told) kept.writes);
      defined = kept.defined;
    }

pub no_body_kept : (t : Table) (holds : List ℕ → Option Held) (schema : Schema) (body : List ℕ) (ws : WriteList) → has_unbound_member schema ≡ false → writes_in t ws ≡ no_writes → AreDefined t ws → KeepsBody t holds schema body (Ok ws)
no_body_kept t holds schema body ws none empty defined =
    record {
      writes = λ told.
          record {
            writes = ap (λ b. cond b (option_and_then (held_writes schema) (holds body)) (Some [])) none ∙ ap (λ (us : Writes). Some (list_of us)) (sym empty);
            defined = defined;
          };
      defined = defined;
    }
