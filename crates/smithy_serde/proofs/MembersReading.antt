-- How the members that a reader hands out are read as the writes of one structure.
use Rattle.std.proofs.Common.{◌≡◌, List, [], ◌∷◌, Option, Some, None, Result, Ok, Err, inl, inr, refl, sym, ap, subst, ◌∙◌}
use Rattle.std.specs.Prelude.{IfErr, MatchResult}
use Rattle.smithy_types.specs.Results.{then_give}
use Rattle.smithy_schema.specs.Nodes.{Table, Schema}
use Rattle.smithy_serde.specs.Values.{Value, Writes, no_writes}
use Rattle.smithy_serde.specs.declared.error.SerdeError.{SerdeError}
use Rattle.smithy_serde.specs.declared.error.SerdeError.TheVariants.{OutOfMemory}
use Rattle.smithy_serde.specs.declared.scalar.Group.TheVariants as group
use Rattle.smithy_serde.specs.declared.value.WriteList.{WriteList}
use Rattle.smithy_serde.specs.declared.builders.StructBuilder.{StructBuilder}
use Rattle.smithy_serde.specs.Collecting.{Collects, Built}
use Rattle.smithy_serde.specs.views.Handing.{HandsOut, AllHanded, settled_by, ending, at_members}
use Rattle.smithy_serde.specs.Held.{Held, Answer, IsAnswer}
use Rattle.smithy_serde.specs.IndexOrder.{in_index_order}
use Rattle.smithy_serde.specs.Listings.{Slot, at_member, at_element, at_key, Listing}
use Rattle.smithy_serde.specs.MembersRead.{with_answer, with_value, at_end, values_in, values_of_listing, structure_listed, ArePlaced, PassesMemory, structure_in, ReadsStruct}
use Rattle.smithy_serde.specs.ReadCalls.{AtHand}
use Rattle.smithy_serde.specs.StoredValues.{writes_in, AreDefined}
use Rattle.smithy_serde.specs.views.ValueBuilding.{add_write, TakesMember, BuildsStructure}
use Rattle.smithy_serde.specs.ValueRead.{value_read, write_by}
use Rattle.smithy_serde.proofs.ReadCollect.{built_memory, one_more, given_ok, given_err}
use Rattle.smithy_serde.proofs.ReadValue.{gives_memory, structure_total, is_structure, structure_ok, structure_err}

abbrev kept_writes : StructBuilder → Writes
kept_writes b = writes_in b.table.now b.writes

-- all of them, past those whose refusal is hidden
module _ (settled : Slot → SerdeError → Answer) (ends : Option SerdeError) (passes : PassesMemory settled) where
  -- what stands behind a refusal
  abbrev Behind : List (Slot × Held) → StructBuilder → StructBuilder → Answer → Answer → Type 0
  Behind items mid t answer settle = MatchResult settle (λ _. HandsOut (at_members TakesMember) settled ends items mid t answer) (λ e. (t ≡ mid) × (answer ≡ Err e))

  hidden_or_told : (items : List (Slot × Held)) (s mid t : StructBuilder) (answer settle : Answer) → kept_writes mid ≡ kept_writes s
      → (HandsOut (at_members TakesMember) settled ends items mid t answer → Built add_write (values_in settled ends items) (kept_writes mid) (kept_writes t) answer)
      → Behind items mid t answer settle → Built add_write (with_answer settle (values_in settled ends items)) (kept_writes s) (kept_writes t) answer
  hidden_or_told items s mid t answer (Ok u) kept rest k = subst (λ w. Built add_write (values_in settled ends items) w (kept_writes t) answer) kept (rest k)
  hidden_or_told items s mid t answer (Err e) kept rest k = inl k.1

  one_taken : (items : List (Slot × Held)) (m : Schema) (r : Result Value SerdeError) (given answer : Answer) (s mid t : StructBuilder) → Collects add_write (then_give r (write_by m)) (kept_writes s) (kept_writes mid) given
      → IfErr given (λ e. kept_writes mid ≡ kept_writes s)
      → (HandsOut (at_members TakesMember) settled ends items mid t answer → Built add_write (values_in settled ends items) (kept_writes mid) (kept_writes t) answer)
      → Behind items mid t answer (settled_by (settled (at_member m)) given) → Built add_write (with_value r (settled (at_member m)) m (values_in settled ends items)) (kept_writes s) (kept_writes t) answer
  one_taken items m (Ok v) (Ok u) answer s mid t (inl a) kept rest k = one_more add_write (write_by m v) (values_in settled ends items) (kept_writes s) (kept_writes mid) (kept_writes t) answer a.1 (rest k)
  one_taken items m (Ok v) (Ok u) answer s mid t (inr bad) kept rest k = cc
  one_taken items m (Ok v) (Err e) answer s mid t (inl a) kept rest k = let bad : Err e ≡ Ok tt = a.0 in cc
  one_taken items m (Ok v) (Err e) answer s mid t (inr is) kept rest k =
      let same : e ≡ OutOfMemory = cc in
      let told : Behind items mid t answer (Err OutOfMemory) = subst (Behind items mid t answer) (ap (settled (at_member m)) same ∙ passes (at_member m)) k in
      built_memory add_write (then_give (values_in settled ends items) (λ ws. write_by m v ∷ ws)) (kept_writes s) (kept_writes t) answer told.1
  one_taken items m (Err x) (Ok u) answer s mid t (inl bad) kept rest k = cc
  one_taken items m (Err x) (Ok u) answer s mid t (inr bad) kept rest k = cc
  one_taken items m (Err x) (Err e) answer s mid t (inl is) kept rest k =
      let same : e ≡ x = cc in
      hidden_or_told items s mid t answer (settled (at_member m) x) kept rest (subst (λ y. Behind items mid t answer (settled (at_member m) y)) same k)
  one_taken items m (Err x) (Err e) answer s mid t (inr is) kept rest k =
      let same : e ≡ OutOfMemory = cc in
      let told : Behind items mid t answer (Err OutOfMemory) = subst (Behind items mid t answer) (ap (settled (at_member m)) same ∙ passes (at_member m)) k in
      built_memory add_write (with_answer (settled (at_member m) x) (values_in settled ends items)) (kept_writes s) (kept_writes t) answer told.1

  at_the_end : (end : Option SerdeError) (s t : StructBuilder) (answer : Answer) → t ≡ s → IsAnswer (ending end) answer → Built add_write (at_end end) (kept_writes s) (kept_writes t) answer
  at_the_end None s t answer same (inl is) = inl (is, ap kept_writes same)
  at_the_end None s t answer same (inr m) = inr m
  at_the_end (Some e) s t answer same a = a

  placed_still : (items : List (Slot × Held)) (s mid : StructBuilder) → mid.table.now ≡ s.table.now → ArePlaced s.table.now items → ArePlaced mid.table.now items
  placed_still items s mid same p = subst (λ u. ArePlaced u items) (sym same) p

  values_built : (items : List (Slot × Held)) (s t : StructBuilder) (answer : Answer) → ArePlaced s.table.now items → HandsOut (at_members TakesMember) settled ends items s t answer
      → Built add_write (values_in settled ends items) (kept_writes s) (kept_writes t) answer
  values_built [] s t answer placed h = at_the_end ends s t answer h.0 h.1
  values_built ((at_member m, x) ∷ items) s t answer placed (inl h) = built_memory add_write (values_in settled ends ((at_member m, x) ∷ items)) (kept_writes s) (kept_writes t) answer h.1
  values_built ((at_member m, x) ∷ items) s t answer placed (inr h) =
      let took : TakesMember s m x h.0 h.1 = h.2 in
      elim h.3 [
        | inl stop ↦ built_memory add_write (values_in settled ends ((at_member m, x) ∷ items)) (kept_writes s) (kept_writes t) answer stop.1
        | inr k ↦ one_taken items m (value_read m x) h.1 answer s h.0 t (took.adds placed.0) took.refused
            (λ rest. values_built items h.0 t answer (placed_still items s h.0 took.same placed.1) rest) k
      ]
  values_built ((at_element, x) ∷ items) s t answer placed h = absurd placed
  values_built ((at_key key, x) ∷ items) s t answer placed h = absurd placed

-- and then the structure, its writes in index order
module _ (n : Schema) (b c : StructBuilder) (old new : AtHand) (table : b.table.now ≡ n.table) (none : kept_writes b ≡ no_writes) where
  built_of : (answer : Answer) → BuildsStructure n b c old new answer → (xs : Listing) → old.listing group.Structure n ≡ Some xs → ArePlaced b.table.now xs.items → PassesMemory xs.settled
      → Built add_write (values_of_listing xs) no_writes (kept_writes c) answer
  unfolding values_of_listing
  built_of answer all xs is placed passes =
      let handed = subst (λ l. AllHanded (at_members TakesMember) group.Structure l b c answer) is all.handed in
      subst (λ w. Built add_write (values_in xs.settled xs.ends xs.items) w (kept_writes c) answer) none (values_built xs.settled xs.ends passes xs.items b c answer placed handed)

  pub members_read : (sorted : WriteList) → BuildsStructure n b c old new (Ok tt) → writes_in b.table.now sorted ≡ in_index_order (writes_in b.table.now c.writes) → AreDefined b.table.now sorted → ReadsStruct b.table.now n old new (Ok sorted)
  members_read sorted all order defined = record {
    listed = λ xs is placed passes. given_ok (structure_in b.table.now) add_write structure_total no_writes (values_of_listing xs) (kept_writes c) sorted (built_of (Ok tt) all xs is placed passes)
        (is_structure (kept_writes c) (writes_in b.table.now c.writes) (writes_in b.table.now sorted) (structure_in b.table.now sorted) refl order (ap (λ u. writes_in u c.writes) (sym all.kept)));
    gives = structure_ok n b c sorted old new all table none order;
    defined = defined;
    leaves = all.leaves.opened;
  }

  pub members_refused : (e : SerdeError) → BuildsStructure n b c old new (Err e) → ReadsStruct b.table.now n old new (Err e)
  members_refused e all = record {
    listed = λ xs is placed passes. given_err (structure_in b.table.now) add_write structure_total no_writes (values_of_listing xs) (kept_writes c) e (built_of (Err e) all xs is placed passes);
    gives = structure_err n b c e old new all table none;
    defined = tt;
    leaves = all.leaves;
  }

-- there was no memory for the order
pub members_dropped : (t : Table) (n : Schema) (e : SerdeError) (old new : AtHand) → e ≡ OutOfMemory → new.opened ≡ old.opened → ReadsStruct t n old new (Err e)
members_dropped t n e old new m kept = record {
  listed = λ xs is placed passes. gives_memory (structure_in t) (Some (structure_listed xs)) e m;
  gives = gives_memory (structure_in t) _ e m;
  defined = tt;
  leaves = ([], kept);
}
