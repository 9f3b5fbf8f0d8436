-- What the outcomes of code are of what is recovered.
use Rattle.std.proofs.Common.{◌≡◌, sym, ◌∙◌, ap, subst, ℕ, Bool, false, List, Option, Some, None, Result, Ok, Err, IsTrue}
use Rattle.std.specs.Option.{option_map_or}
use Rattle.std.specs.Result.{result_ok}
use Rattle.smithy_http.specs.Requests.{Request}
use Rattle.smithy_schema.specs.Nodes.{Table, at_place}
use Rattle.smithy_serde.proofs.ReadValue.{at_place_table}
use Rattle.smithy_serde.specs.StoredValues.{writes_in}
use Rattle.smithy_serde.specs.StructValues.{members_of}
use Rattle.smithy_serde.specs.Values.{Write, Writes, list_of}
use Rattle.smithy_serde.specs.declared.error.SerdeError.{SerdeError}
use Rattle.smithy_serde.specs.declared.error.SerdeError.TheVariants as serde_error
use Rattle.smithy_serde.specs.declared.struct_value.StructValue.{StructValue}
use Rattle.smithy_serde.specs.declared.value.WriteList.{WriteList}
use Rattle.smithy_binding.specs.Faults.{Fault}
use Rattle.smithy_binding.specs.NormalForm.{view}
use Rattle.smithy_binding.specs.Placing.{OmitFlags}
use Rattle.smithy_binding.specs.Refusing.{TellsFault}
use Rattle.smithy_unambiguity.specs.Laws.{FactsDecideView, ViewSettles, ViewIsTyped}
use Rattle.smithy_recovery.specs.Finding.{Finds, refusal_of}
use Rattle.smithy_recovery.specs.views.KeptMembers.{ReadsTold}
use Rattle.smithy_recovery.specs.Recovered.{Reading, read_writes, is_body_told, recovered, RecoveredIsExact}
use Rattle.smithy_recovery.specs.Recovering.{HasFactsOf}
use Rattle.smithy_recovery.specs.views.Stages.{Tells}
use Rattle.smithy_recovery.specs.SameFacts.{has_same_facts}
use Rattle.smithy_recovery.specs.declared.error.RecoverError.{RecoverError}
use Rattle.smithy_recovery.specs.declared.error.RecoverError.TheVariants.{NotPlaced, OutOfMemory}
use Rattle.smithy_recovery.proofs.Decided.{IsSoundReading, none_read}

-- a refusal of the placing says that there is no request
pub not_placed : (e : SerdeError) (a : Result Request Fault) → TellsFault e (λ f. a ≡ Err f) → Finds {A = Request} (λ x. x) (Err (refusal_of e)) (result_ok a)
not_placed (serde_error.UnknownMember text) a told = ap result_ok told
not_placed (serde_error.InvalidInput text) a told = ap result_ok told
not_placed (serde_error.UnsupportedOperation text) a told = ap result_ok told
not_placed (serde_error.Custom text) a told = ap result_ok told
not_placed serde_error.OutOfMemory a told = tt
not_placed (serde_error.TypeMismatch text) a told = absurd told
not_placed (serde_error.MissingMember text) a told = absurd told
not_placed (serde_error.WriteFailed text) a told = absurd told
not_placed (serde_error.NumericCoercionOverflow target value) a told = absurd told
not_placed (serde_error.NumericCoercionLossy target value) a told = absurd told
not_placed (serde_error.BlobDecodeFailed text) a told = absurd told
not_placed (serde_error.TimestampParseFailed text) a told = absurd told

-- an input that has no request has none with the same facts
pub not_same : (e : RecoverError) (o : Option Request) (q : Request) (r : Result Bool RecoverError) → r ≡ Err e → Finds {A = Request} (λ x. x) (Err e) o → Tells (option_map_or (λ p. has_same_facts p q) o false) r
not_same NotPlaced o q r is told = rw is (ap (λ p. option_map_or (λ x. has_same_facts x q) p false) told)
not_same OutOfMemory o q r is told = rw is tt

-- where nothing is read, nothing is recovered
pub not_read : (r : Reading) (omit : OmitFlags) (q : Request) (e : RecoverError) (result : Result StructValue RecoverError) → result ≡ Err e → ReadsTold r q (Err e) → Finds (λ v. list_of (members_of v)) result (recovered r omit q)
not_read r omit q NotPlaced result is told = rw is (none_read r omit q told)
not_read r omit q OutOfMemory result is told = rw is tt

-- what code read is what is read, where that is told, as writes that stand over the table
pub read_over : (r : Reading) (q : Request) (t : Table) (place : ℕ) (ws : WriteList) (us : Writes) → at_place t place ≡ Some r.schema → us ≡ writes_in t ws → ReadsTold r q (Ok ws) → IsTrue (is_body_told r q)
    → read_writes r q ≡ Some (list_of us)
read_over r q t place ws us at is reads told = (reads told).writes ∙ ap (λ x. Some (list_of (writes_in x ws))) (at_place_table t place r.schema at) ∙ ap (λ w. Some (list_of w)) (sym is)

-- By the laws.

-- of a request with the facts of a typed input's, its normal form is recovered
pub view_recovered : (r : Reading) (omit : OmitFlags) (q : Request) (ws : List Write) → RecoveredIsExact r → FactsDecideView r.protocol → ViewSettles r.protocol → ViewIsTyped r.protocol → IsSoundReading r → HasFactsOf r omit q ws
    → recovered r omit q ≡ Some (view r.schema ws)
view_recovered r omit q ws exact decide settles typed sound has =
    let own = settles r.schema r.endpoint omit ws sound.checked sound.well_made has.typed in
    let typed_view = typed r.schema r.endpoint omit ws sound.checked sound.well_made has.typed in
    let same = (decide r.schema r.endpoint omit ws (view r.schema ws) sound.checked sound.well_made has.typed typed_view).1 (sym own) in
    (exact omit q (view r.schema ws) sound.checked sound.well_made).1 (record { typed = typed_view; normal = own; seen = sym same ∙ has.seen })

pub lacks : (r : Reading) (omit : OmitFlags) (q : Request) (ws : List Write) → RecoveredIsExact r → FactsDecideView r.protocol → ViewSettles r.protocol → ViewIsTyped r.protocol → IsSoundReading r → recovered r omit q ≡ None → HasFactsOf r omit q ws → ⊥
lacks r omit q ws exact decide settles typed sound none has =
    let both : None ≡ Some (view r.schema ws) = sym none ∙ view_recovered r omit q ws exact decide settles typed sound has in cc both

-- what was refused is nothing
pub none_at : {A B : Type 0} (show : A → B) (result : Result A RecoverError) (due : Option B) → Finds show result due → result ≡ Err NotPlaced → due ≡ None
none_at show result due told refused = subst (λ x. Finds show x due) refused told
