-- What a reader gives of a body, in the words of the way back.
use Rattle.std.proofs.Common.{◌≡◌, refl, sym, ap, cond, ℕ, Bool, true, false, List, Some, None, Result, Ok, Err, subst}
use Rattle.std.specs.Result.{result_ok}
use Rattle.std.specs.Str.{is_utf8}
use Rattle.smithy_http.specs.HeaderValues.{text_of}
use Rattle.smithy_schema.specs.Nodes.{Table}
use Rattle.smithy_serde.specs.ReadCalls.{Gives}
use Rattle.smithy_serde.specs.StoredValues.{value_in, writes_in}
use Rattle.smithy_serde.specs.Values as value
use Rattle.smithy_serde.specs.Values.{Value, list_of}
use Rattle.smithy_serde.specs.MembersRead.{structure_in}
use Rattle.smithy_serde.specs.declared.error.SerdeError.{SerdeError}
use Rattle.smithy_serde.specs.declared.value.ShapeValue.{ShapeValue}
use Rattle.smithy_serde.specs.declared.value.WriteList.{WriteList}
use Rattle.smithy_recovery.specs.BodyParts.{text_payload, structure_writes}
use Rattle.smithy_recovery.specs.Finding.{refusal_of}
use Rattle.smithy_recovery.specs.views.Keeping.{Keeps, KeepsWrites}
use Rattle.smithy_recovery.specs.declared.error.RecoverError.{RecoverError}
use Rattle.smithy_recovery.specs.declared.error.RecoverError.TheVariants.{NotPlaced, OutOfMemory}

pub read_given : (t : Table) (read : Result Value SerdeError) (v : ShapeValue) → Gives (value_in t) (Some read) (Ok v) → result_ok read ≡ Some (value_in t v)
read_given t (Ok x) v gives = ap (λ (y : Value). Some y) (sym gives)
read_given t (Err e) v gives = absurd gives

-- any refusal is free or says that there is nothing
none_read : (t : Table) (r : RecoverError) → Keeps t None (Err r)
none_read t NotPlaced = refl
none_read t OutOfMemory = tt

pub read_refused : (t : Table) (read : Result Value SerdeError) (e : SerdeError) → Gives (value_in t) (Some read) (Err e) → Keeps t (result_ok read) (Err (refusal_of e))
read_refused t (Ok x) e gives = subst (λ y. Keeps t (Some x) (Err (refusal_of y))) (sym gives) tt
read_refused t (Err x) e gives = none_read t (refusal_of e)

pub members_given : (t : Table) (read : Result Value SerdeError) (ws : WriteList) → Gives (structure_in t) (Some read) (Ok ws) → structure_writes read ≡ Some (list_of (writes_in t ws))
members_given t (Ok x) ws gives = ap (λ (y : Value). structure_writes (Ok y)) (sym gives)
members_given t (Err e) ws gives = absurd gives

none_written : (t : Table) (r : RecoverError) → KeepsWrites t None (Err r)
none_written t NotPlaced = refl
none_written t OutOfMemory = tt

pub members_refused : (t : Table) (read : Result Value SerdeError) (e : SerdeError) → Gives (structure_in t) (Some read) (Err e) → KeepsWrites t (structure_writes read) (Err (refusal_of e))
members_refused t (Ok x) e gives = subst (λ y. KeepsWrites t (structure_writes (Ok x)) (Err (refusal_of y))) (sym gives) tt
members_refused t (Err x) e gives = none_written t (refusal_of e)

pub text_some : (body text : List ℕ) → Some text ≡ text_of body → text_payload body ≡ Some (value.scalar (value.text text))
text_some body text e = go (is_utf8 body) e
  where
    go : (t : Bool) → Some text ≡ cond t (Some body) None → cond t (Some (value.scalar (value.text body))) None ≡ Some (value.scalar (value.text text))
    go true h = let same : text ≡ body = cc h in ap (λ x. Some (value.scalar (value.text x))) (sym same)
    go false h = absurd (cc h)

pub text_none : (body : List ℕ) → None ≡ text_of body → text_payload body ≡ None
text_none body e = go (is_utf8 body) e
  where
    go : (t : Bool) → None ≡ cond t (Some body) None → cond t (Some (value.scalar (value.text body))) None ≡ None
    go true h = absurd (cc h)
    go false h = refl
