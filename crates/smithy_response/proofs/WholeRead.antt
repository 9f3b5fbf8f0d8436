-- A whole response is read as the value of its members.
use Rattle.std.specs.Prelude.{not}
use Rattle.smithy_response.proofs.Common.{◌≡◌, ℕ, Bool, true, false, List, [], ◌∷◌, Option, Some, None, inl, inr, Result, Ok, Err, refl, sym, ap, subst, ◌∙◌, option_map, NonUtf8HeaderHandling, Response, Table, Schema, at_place, SerdeError, structure, OutOfMemory, HandsOut, AllHanded, Held, Answer, Slot, Listing, contents, ArePlaced, structure_in, ReadsListed, AtHand, Gives, handed}
use Rattle.smithy_serde.specs.declared.deserializer.ShapeDeserializer.{Ghosts}
use Rattle.smithy_serde.specs.declared.scalar.Group.TheVariants as group
use Rattle.smithy_serde.specs.declared.struct_value.StructValue.{StructValue}
use Rattle.smithy_serde.specs.declared.value.WriteList.{WriteList}
use Rattle.smithy_serde.specs.StoredValues.{writes_in}
use Rattle.smithy_serde.specs.StructValues.{members_of}
use Rattle.smithy_serde.specs.ValueReading.{structure_of}
use Rattle.smithy_serde.proofs.ReadValue.{at_place_table, at_the_place, seen_as, refused_as}
use Rattle.smithy_response.specs.declared.response_reader.ResponseReader.{ResponseReader}
use Rattle.smithy_response.specs.declared.response_reader.ResponseReader.TheVariants.{BodyOnly, Composite}
use Rattle.smithy_response.specs.ResponseValue.{value_of_response}
use Rattle.smithy_response.specs.ResponseReaders.{is_body_only, reader_at_hand, ReadsWhole, IsReader, chosen_whole}
use Rattle.smithy_response.specs.WholeResponses.{GivesResponse, handed_with}
use Rattle.smithy_response.proofs.BodyOnlyItems.{body_passes, body_placed_only, handed_alike, read_alike}
use Rattle.smithy_response.proofs.HandedItems.{handed_placed, handed_passes}

module _ (table : Table) (n : Schema) (response : Response) (policy : NonUtf8HeaderHandling) (result : Result WriteList SerdeError) (here : n.table ≡ table) where
  abbrev GivesValue : Bool → Option Held → Type 0
  GivesValue is_error body = (h : Held) → body ≡ Some h → Gives (structure_in table) (Some (value_of_response n response h is_error policy)) result

  by_members : (is_error : Bool) (body seen : AtHand) → ReadsWhole response is_error policy body seen → ReadsListed table n seen result → GivesValue is_error body.held
  by_members is_error body seen whole listed h is =
      let given = handed n response h is_error policy in
      listed given (whole.members n ∙ ap (option_map (λ b. handed n response b is_error policy)) is)
      (subst (λ t. ArePlaced t given.items) here (handed_placed n response h is_error policy)) (handed_passes n response h is_error policy)

  by_body : is_body_only n ≡ true → (body : AtHand) → ReadsListed table n body result → GivesValue false body.held
  by_body only body listed h is =
      let xs = contents group.Structure n h in
      subst (λ v. Gives (structure_in table) (Some v) result) (read_alike n response h policy only)
      (listed xs (body.told group.Structure n h is) (subst (λ t. ArePlaced t xs.items) here (body_placed_only n h only)) (body_passes n h))

  value_given : {D : Type 0} {is_read : Ghosts D} (at : D → AtHand) (is_error : Bool) (body : D) (reader : ResponseReader D is_read) → IsReader at response is_error policy (chosen_whole n is_error) body reader
      → ReadsListed table n (reader_at_hand at reader) result → GivesValue is_error (at body).held
  value_given at true body (BodyOnly b) is listed = absurd is
  value_given at true body (Composite c) is listed = by_members true (at body) _ is.whole listed
  value_given {D} {is_read} at false body reader is listed = by_choice (is_body_only n) refl reader is listed
    where
      by_choice : (only : Bool) → is_body_only n ≡ only → (r : ResponseReader D is_read) → IsReader at response false policy (not only) body r → ReadsListed table n (reader_at_hand at r) result
          → GivesValue false (at body).held
      by_choice true e (BodyOnly b) is listed = by_body e (at body) (subst (λ d. ReadsListed table n (at d) result) is listed)
      by_choice true e (Composite c) is listed = absurd is
      by_choice false e (BodyOnly b) is listed = absurd is
      by_choice false e (Composite c) is listed = by_members false (at body) _ is.whole listed

module _ (table : Table) (place : ℕ) (n : Schema) (response : Response) (policy : NonUtf8HeaderHandling) {D : Type 0} {is_read : Ghosts D} (at : D → AtHand) (is_error : Bool) (body : D) (reader : ResponseReader D is_read)
    (there : Some n ≡ at_place table place) (is_one : IsReader at response is_error policy (chosen_whole n is_error) body reader) where
  given_here : (result : Result WriteList SerdeError) → ReadsListed table n (reader_at_hand at reader) result → GivesValue table n response policy result (at_place_table table place n (sym there)) is_error (at body).held
  given_here result listed = value_given table n response policy result (at_place_table table place n (sym there)) at is_error body reader is_one listed

  pub response_read : (ws : WriteList) (v : StructValue) → ReadsListed table n (reader_at_hand at reader) (Ok ws) → members_of v ≡ writes_in table ws → GivesResponse table place response is_error policy (at body).held (Ok v)
  response_read ws v listed same = at_the_place (λ m. (h : Held) → (at body).held ≡ Some h → Gives structure_of (Some (value_of_response m response h is_error policy)) (Ok v)) table place n there
      (λ h is. seen_as structure_of (structure_in table) (Some (value_of_response n response h is_error policy)) v ws (ap structure same) (given_here (Ok ws) listed h is))

  pub response_refused : (e : SerdeError) → ReadsListed table n (reader_at_hand at reader) (Err e) → GivesResponse table place response is_error policy (at body).held (Err e)
  response_refused e listed = at_the_place (λ m. (h : Held) → (at body).held ≡ Some h → Gives {A = StructValue} structure_of (Some (value_of_response m response h is_error policy)) (Err e)) table place n there
      (λ h is. refused_as structure_of (structure_in table) (Some (value_of_response n response h is_error policy)) e (given_here (Err e) listed h is))

module _ {S : Type 0} (takes : S → Slot → Held → S → Answer → Type 0) (n : Schema) (response : Response) (policy : NonUtf8HeaderHandling) (old new : S) (answer : Answer) where
  all_members : (is_error : Bool) (body seen : AtHand) → ReadsWhole response is_error policy body seen → AllHanded takes group.Structure (seen.listing group.Structure n) old new answer
      → AllHanded takes group.Structure (handed_with n response is_error policy body.held) old new answer
  all_members is_error body seen whole all = subst (λ l. AllHanded takes group.Structure l old new answer) (whole.members n) all

  all_fields : (only : is_body_only n ≡ true) (body : AtHand) → AllHanded takes group.Structure (body.listing group.Structure n) old new answer
      → AllHanded takes group.Structure (handed_with n response false policy body.held) old new answer
  all_fields only body all = told body.held refl
    where
      told : (held : Option Held) → body.held ≡ held → AllHanded takes group.Structure (handed_with n response false policy held) old new answer
      told None is = tt
      told (Some h) is = handed_alike takes n response h policy only old new answer (subst (λ l. AllHanded takes group.Structure l old new answer) (body.told group.Structure n h is) all)

  pub members_handed : {D : Type 0} {is_read : Ghosts D} (at : D → AtHand) (is_error : Bool) (body : D) (reader : ResponseReader D is_read) → IsReader at response is_error policy (chosen_whole n is_error) body reader
      → AllHanded takes group.Structure ((reader_at_hand at reader).listing group.Structure n) old new answer → AllHanded takes group.Structure (handed_with n response is_error policy (at body).held) old new answer
  members_handed at true body (BodyOnly b) is all = absurd is
  members_handed at true body (Composite c) is all = all_members true (at body) _ is.whole all
  members_handed {D} {is_read} at false body reader is all = by_choice (is_body_only n) refl reader is all
    where
      by_choice : (only : Bool) → is_body_only n ≡ only → (r : ResponseReader D is_read) → IsReader at response false policy (not only) body r
          → AllHanded takes group.Structure ((reader_at_hand at r).listing group.Structure n) old new answer → AllHanded takes group.Structure (handed_with n response false policy (at body).held) old new answer
      by_choice true e (BodyOnly b) is all = all_fields e (at body) (subst (λ d. AllHanded takes group.Structure ((at d).listing group.Structure n) old new answer) is all)
      by_choice true e (Composite c) is all = absurd is
      by_choice false e (BodyOnly b) is all = absurd is
      by_choice false e (Composite c) is all = all_members false (at body) _ is.whole all

-- nothing was handed out
pub none_handed : {S : Type 0} (takes : S → Slot → Held → S → Answer → Type 0) (listing : Option Listing) (old new : S) (answer : Answer) → new ≡ old → answer ≡ Err OutOfMemory
    → AllHanded takes group.Structure listing old new answer
none_handed takes None old new answer same full = tt
none_handed takes (Some xs) old new answer same full = at_items xs.items
  where
    at_items : (items : List (Slot × Held)) → HandsOut takes xs.settled xs.ends items old new answer
    at_items [] = (same, inr full)
    at_items (i ∷ items) = inl (same, full)
