-- Reading on, where what was read is kept in a list.
use Rattle.std.proofs.Common.{◌≡◌, ◌≢◌, refl, sym, ◌∙◌, ap, ℕ, true, false, ◌==◌, List, [], ◌∷◌, ◌++◌, length, Result, Ok, Err, IfErr, OnErr, inl, inr}
use Rattle.std.proofs.lemmas.List.{append_assoc, append-nil}
use Rattle.smithy_types.specs.Results.{then_try, then_give}
use Rattle.smithy_http.specs.declared.error.ListFault.{ListFault}
use Rattle.smithy_http.specs.declared.error.HttpError.{HttpError}
use Rattle.smithy_http.specs.HeaderValues.{IsRefusal, IsListRefusal, gathered}
use Rattle.smithy_http.specs.views.ItemReading.{AreItemsRead}

pub not_empty : (bytes : List ℕ) → false ≡ (length bytes == 0) → bytes ≢ []
not_empty bytes e empty = let q : false ≡ true = e ∙ ap (λ xs. length xs == 0) empty in absurd (cc q)

-- what is read behind items that were kept
abbrev pub behind : {A E : Type 0} → List A → Result (List A) E → Result (List A) E
behind items read = then_give read (λ others. items ++ others)

-- one more item was kept
pub behind-item : {A E : Type 0} (items new : List A) (item : A) (read : Result (List A) E) → new ≡ items ++ item ∷ [] → behind new read ≡ behind items (then_give read (λ others. item ∷ others))
behind-item items new item (Ok others) added = ap (λ xs. Ok (xs ++ others)) added ∙ ap (λ xs. Ok xs) (append_assoc items (item ∷ []) others)
behind-item items new item (Err e) added = refl

-- more items were kept
pub behind-items : {A E : Type 0} (items new more : List A) (read : Result (List A) E) → new ≡ items ++ more → behind new read ≡ behind items (behind more read)
behind-items items new more (Ok others) added = ap (λ xs. Ok (xs ++ others)) added ∙ ap (λ xs. Ok xs) (append_assoc items more others)
behind-items items new more (Err e) added = refl

-- at the end
pub behind-end : {A E : Type 0} (old items : List A) (rest read : Result (List A) E) → rest ≡ Ok [] → behind items rest ≡ behind old read → AreItemsRead read old items
behind-end old items rest (Ok others) at e =
    let q : Ok (items ++ []) ≡ Ok (old ++ others) = sym (ap (behind items) at) ∙ e in
    let same : items ++ [] ≡ old ++ others = cc q in
    record { items = others; are_read = refl; added = sym (append-nil items) ∙ same }
behind-end old items rest (Err f) at e = let q : Ok (items ++ []) ≡ Err f = sym (ap (behind items) at) ∙ e in absurd (cc q)

-- at a fault
pub behind-fault : {A E : Type 0} (old items : List A) (rest read : Result (List A) E) (f : E) → rest ≡ Err f → behind items rest ≡ behind old read → read ≡ Err f
behind-fault old items rest (Ok others) f at e = let q : Err f ≡ Ok (old ++ others) = sym (ap (behind items) at) ∙ e in absurd (cc q)
behind-fault old items rest (Err g) f at e = let q : Err f ≡ Err g = sym (ap (behind items) at) ∙ e in sym q

-- what was read of one value, and of those behind it
pub gathered-read : {A : Type 0} (read : List ℕ → Result (List A) HttpError) (value : List ℕ) (values : List (List ℕ)) (items : List A) → read value ≡ Ok items → gathered read (value ∷ values) ≡ behind items (gathered read values)
gathered-read read value values items e = ap (λ r. then_try r (λ own. then_give (gathered read values) (λ others. own ++ others))) e

pub gathered-fault : {A : Type 0} (read : List ℕ → Result (List A) HttpError) (value : List ℕ) (values : List (List ℕ)) (f : HttpError) → read value ≡ Err f → gathered read (value ∷ values) ≡ Err f
gathered-fault read value values f e = ap (λ r. then_try r (λ own. then_give (gathered read values) (λ others. own ++ others))) e

-- a refusal of what comes next refuses the whole
pub refused_later : {A B : Type 0} (e : HttpError) (next : Result A HttpError) (whole : Result B HttpError) → ((f : HttpError) → next ≡ Err f → whole ≡ Err f) → IsRefusal e next → IsRefusal e whole
refused_later e next whole later (inl memory) = inl memory
refused_later e next whole later (inr fault) = inr (later e fault)

pub list_refused_later : {A B : Type 0} (e : HttpError) (next : Result A ListFault) (whole : Result B ListFault) → ((f : ListFault) → next ≡ Err f → whole ≡ Err f) → IsListRefusal e next → IsListRefusal e whole
list_refused_later e next whole later (inl memory) = inl memory
list_refused_later e next whole later (inr fault) = inr (fault.0, later fault.0 fault.1, fault.2)

pub IfErr-then : {A E : Type 0} (r : Result A E) {P Q : E → Type 0} → ((e : E) → P e → Q e) → IfErr r P → IfErr r Q
IfErr-then (Ok x) later told = told
IfErr-then (Err e) later told = later e told

pub OnErr-from : {A E P : Type 0} (r : Result A E) → P → OnErr r P
OnErr-from (Ok x) p = tt
OnErr-from (Err e) p = p
