-- Values and writes over tables that grow.
use Rattle.std.proofs.Common.{◌≡◌, refl, ap, ◌∙◌, ℕ, Option, Some, None, option_map, option_and_then, unwrap_or, Ok, Err, Result}
use Rattle.std.specs.Option.{IsSome}
use Rattle.smithy_schema.specs.Nodes.{Table, Schema, at_place}
use Rattle.smithy_schema.specs.declared.parts.SchemaIndex.{SchemaIndex}
use Rattle.smithy_serde.specs.Values.{Label, label_of, Scalar, Value, scalar, list, structure, Writes, no_writes, write}
use Rattle.smithy_serde.specs.Values as values
use Rattle.smithy_serde.specs.Told.{appended, one_write}
use Rattle.smithy_serde.specs.StoredValues.{label_at, no_label, HasNode, value_in, writes_in, with_write, IsDefined, AreDefined, StaysDefinedWith}
use Rattle.smithy_serde.specs.declared.value.ShapeValue.{ShapeValue}
use Rattle.smithy_serde.specs.declared.value.ShapeValue.TheVariants as stored
use Rattle.smithy_serde.specs.declared.value.WriteList.{WriteList}
use Rattle.smithy_serde.proofs.WritesLemmas.{appended-no_writes, appended_assoc}
use Rattle.smithy_model.specs.declared.error.JobError.{JobError}
use Rattle.smithy_model.specs.declared.error.JobError.TheVariants.{NoJob, OutOfMemory}
use Rattle.smithy_job.specs.views.Tables.{Keeps, HasLabel, IsScalar, IsValue, AreWrites, Has, ReadsAs}
use Rattle.smithy_job.proofs.TableLemmas.{keeps-both, label-kept}

-- a refusal that is passed on
pub passed_on : {A V B W : Type 0} (Is : A → V → Type 0) (Are : B → W → Type 0) (part : Option V) (whole : Option W) (e : JobError) → (part ≡ None → whole ≡ None) → ReadsAs Is part (Err e) → ReadsAs Are whole (Err e)
passed_on Is Are part whole NoJob h r = h r
passed_on Is Are part whole OutOfMemory h r = tt

-- scalars as values

scalar-value : (nodes : Table) (v : ShapeValue) (is : Scalar) → IsScalar v is → IsValue nodes v (scalar is)
scalar-value nodes v is h = record { value = λ t e. h.value t; defined = λ t e. h.defined t }

pub has_scalar : (nodes : Table) (v : ShapeValue) (is : Scalar) (all : Option Value) → all ≡ Some (scalar is) → IsScalar v is → Has all (IsValue nodes v)
has_scalar nodes v is all e h = rw e (scalar-value nodes v is h)

pub reads_scalar : (nodes : Table) (o : Option Scalar) (all : Option Value) (r : Result ShapeValue JobError) → all ≡ option_map scalar o → ReadsAs IsScalar o r → ReadsAs (IsValue nodes) all r
reads_scalar nodes None all (Ok v) e h = absurd h
reads_scalar nodes (Some is) all (Ok v) e h = has_scalar nodes v is all e h
reads_scalar nodes o all (Err NoJob) e h = rw (e, h) refl
reads_scalar nodes o all (Err OutOfMemory) e h = tt

-- writes as values

pub has_list : (nodes : Table) (ws : WriteList) (o : Option Writes) (all : Option Value) → all ≡ option_map list o → Has o (AreWrites nodes ws) → Has all (IsValue nodes (stored.List ws))
unfolding value_in IsDefined
has_list nodes ws None all e h = absurd h
has_list nodes ws (Some are) all e h = rw e (record { value = λ t k. ap list (h.writes t k); defined = λ t k. h.defined t k })

pub has_map : (nodes : Table) (ws : WriteList) (o : Option Writes) (all : Option Value) → all ≡ option_map values.map o → Has o (AreWrites nodes ws) → Has all (IsValue nodes (stored.Map ws))
unfolding value_in IsDefined
has_map nodes ws None all e h = absurd h
has_map nodes ws (Some are) all e h = rw e (record { value = λ t k. ap values.map (h.writes t k); defined = λ t k. h.defined t k })

pub has_structure : (nodes : Table) (ws : WriteList) (o : Option Writes) (all : Option Value) → all ≡ option_map structure o → Has o (AreWrites nodes ws) → Has all (IsValue nodes (stored.Struct ws))
unfolding value_in IsDefined
has_structure nodes ws None all e h = absurd h
has_structure nodes ws (Some are) all e h = rw e (record { value = λ t k. ap structure (h.writes t k); defined = λ t k. h.defined t k })

-- the writes so far, and those of the rest

pub record SoFar (nodes : Table) (kept : WriteList) (rest all : Option Writes) : Type 0 where
  pub are : Writes
  pub stored : AreWrites nodes kept are
  pub whole : option_map (appended are) rest ≡ all

after_none : (o : Option Writes) → option_map (appended no_writes) o ≡ o
after_none None = refl
after_none (Some ws) = refl

pub so_far-start : (nodes : Table) (ws : WriteList) (all : Option Writes) → ((t : Table) → writes_in t ws ≡ no_writes) → ((t : Table) → AreDefined t ws) → SoFar nodes ws all all
so_far-start nodes ws all e d = record { are = no_writes; stored = record { writes = λ t k. e t; defined = λ t k. d t }; whole = after_none all }

pub so_far-kept : (a b : Table) (ws : WriteList) (rest all : Option Writes) → Keeps a b → SoFar a ws rest all → SoFar b ws rest all
so_far-kept a b ws rest all k h = record {
  are = h.are;
  stored = record { writes = λ t e. h.stored.writes t (keeps-both a b t k e); defined = λ t e. h.stored.defined t (keeps-both a b t k e) };
  whole = h.whole;
}

pub so_far-end : (nodes : Table) (ws : WriteList) (rest all : Option Writes) → rest ≡ Some no_writes → SoFar nodes ws rest all → Has all (AreWrites nodes ws)
so_far-end nodes ws rest all e h = rw (← h.whole, e, appended-no_writes h.are) h.stored

pub so_far-none : (nodes : Table) (ws : WriteList) (rest all : Option Writes) → rest ≡ None → SoFar nodes ws rest all → all ≡ None
so_far-none nodes ws rest all e h = rw (← h.whole, e) refl

label_at-is : (t : Table) (p : ℕ) (l : Label) → HasLabel t p l → label_at t p ≡ l
label_at-is t p l h = ap (λ (o : Option Label). unwrap_or o no_label) h

pub has_node : (t : Table) (p : ℕ) (l : Label) → HasLabel t p l → HasNode t p
has_node t p l h = go (at_place t p) h
  where
    go : (o : Option Schema) → option_map label_of o ≡ Some l → IsSome o
    go None e = absurd (cc e)
    go (Some s) e = refl

one_more : (done : Writes) (l : Label) (v : Value) (o : Option Writes) → option_map (appended (appended done (one_write l v))) o ≡ option_map (appended done) (option_map (write l v) o)
one_more done l v None = refl
one_more done l v (Some ws) = ap (λ (x : Writes). Some x) (appended_assoc done (one_write l v) ws)

-- a write is pushed
pub so_far-push : (nodes : Table) (old new : WriteList) (index : SchemaIndex) (l : Label) (v : ShapeValue) (is : Value) (rest all : Option Writes)
    → HasLabel nodes index.0 l → IsValue nodes v is → ((t : Table) → writes_in t new ≡ with_write t old index v) → StaysDefinedWith index v old new
    → SoFar nodes old (option_map (write l is) rest) all → SoFar nodes new rest all
so_far-push nodes old new index l v is rest all at h e d so_far = record {
  are = appended so_far.are (one_write l is);
  stored = record {
    writes = λ t k.
        let same = label_at-is t index.0 l (label-kept nodes t index.0 l k at) in
        rw (e t, same, h.value t k, so_far.stored.writes t k) refl;
    defined = λ t k. d t (so_far.stored.defined t k) (has_node t index.0 l (label-kept nodes t index.0 l k at)) (h.defined t k);
  };
  whole = one_more so_far.are l is rest ∙ so_far.whole;
}

-- a write is pushed, of what was read
pub value_more : (a b : Table) (old new : WriteList) (index : SchemaIndex) (l : Label) (v : ShapeValue) (o : Option Value) (rest all : Option Writes)
    → Keeps a b → HasLabel b index.0 l → Has o (IsValue b v) → ((t : Table) → writes_in t new ≡ with_write t old index v) → StaysDefinedWith index v old new
    → SoFar a old (option_and_then (λ x. option_map (write l x) rest) o) all → SoFar b new rest all
value_more a b old new index l v None rest all k at h e d so_far = absurd h
value_more a b old new index l v (Some is) rest all k at h e d so_far = so_far-push b old new index l v is rest all at h e d (so_far-kept a b old _ all k so_far)

two_more : (l m : Label) (x y : Value) (o : Option Writes) → option_map (λ ws. write l x (write m y ws)) o ≡ option_map (write l x) (option_map (write m y) o)
two_more l m x y None = refl
two_more l m x y (Some ws) = refl

-- a key and then the value that was read
pub entry_more : (a b : Table) (old between new : WriteList) (p q : SchemaIndex) (l m : Label) (key value : ShapeValue) (k : Scalar) (o : Option Value) (rest all : Option Writes)
    → Keeps a b → HasLabel b p.0 l → HasLabel b q.0 m → IsScalar key k → Has o (IsValue b value)
    → ((t : Table) → writes_in t between ≡ with_write t old p key) → StaysDefinedWith p key old between
    → ((t : Table) → writes_in t new ≡ with_write t between q value) → StaysDefinedWith q value between new
    → SoFar a old (option_and_then (λ x. option_map (λ ws. write l (scalar k) (write m x ws)) rest) o) all → SoFar b new rest all
entry_more a b old between new p q l m key value k None rest all kept at to is h e d f g so_far = absurd h
entry_more a b old between new p q l m key value k (Some x) rest all kept at to is h e d f g so_far =
    let before = rw (two_more l m (scalar k) x rest) at (so_far-kept a b old _ all kept so_far) in
    so_far-push b between new q m value x rest all to h f g
    (so_far-push b old between p l key (scalar k) (option_map (write m x) rest) all at (scalar-value b key k is) e d before)

-- the same, of an answer
pub refuses : {A V B W : Type 0} (Is : A → V → Type 0) (Are : B → W → Type 0) (part : Option V) (whole : Option W) (e : JobError) (r : Result B JobError) → r ≡ Err e → (part ≡ None → whole ≡ None) → ReadsAs Is part (Err e) → ReadsAs Are whole r
refuses Is Are part whole e r is h told = rw is (passed_on Is Are part whole e h told)

-- a group whose writes are refused
pub group_refused : (nodes : Table) (f : Writes → Value) (o : Option Writes) (all : Option Value) (e : JobError) (r : Result ShapeValue JobError) → r ≡ Err e → all ≡ option_map f o
    → ReadsAs (AreWrites nodes) o (Err e) → ReadsAs (IsValue nodes) all r
group_refused nodes f o all e r is same told = refuses (AreWrites nodes) (IsValue nodes) o all e r is (λ none. same ∙ ap (option_map f) none) told

-- a value that is refused among others
pub next_refused : (a b : Table) (ws : WriteList) (f : Value → Option Writes) (o : Option Value) (all : Option Writes) (e : JobError) (r : Result WriteList JobError) → r ≡ Err e
    → SoFar a ws (option_and_then f o) all → ReadsAs (IsValue b) o (Err e) → ReadsAs (AreWrites b) all r
next_refused a b ws f o all e r is so_far told =
    refuses (IsValue b) (AreWrites b) o all e r is (λ none. so_far-none a ws (option_and_then f o) all (ap (option_and_then f) none) so_far) told
