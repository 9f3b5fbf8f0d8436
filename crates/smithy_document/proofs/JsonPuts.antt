-- A document that is written behind what leads to it.
use Rattle.std.proofs.Common.{◌≡◌, ℕ, Bool, true, List, [], ◌++◌, Some, None, false, Result, Ok, Err, refl, sym, ap, ap₂, ◌∙◌, subst, append_assoc}
use Rattle.std.specs.Result.{result_err}
use Rattle.smithy_types.specs.Documents.{Document}
use Rattle.smithy_types.specs.Documents as doc
use Rattle.smithy_types.specs.Results.{then_give}
use Rattle.smithy_serde.specs.declared.error.SerdeError.{SerdeError}
use Rattle.smithy_serde.specs.DocumentOf.{DocumentFault, document_fault_text, key_text, no_member_name}
use Rattle.smithy_document.specs.Refused.{IsRefusedFor}
use Rattle.smithy_serde.specs.Values.{Label}
use Rattle.smithy_document.specs.declared.json_writing.JsonWriting.{JsonWriting}
use Rattle.smithy_document.specs.declared.json_writing.Kind.TheVariants as kind
use Rattle.smithy_document.specs.declared.json_writing.Lead.{Lead}
use Rattle.smithy_document.specs.declared.json_writing.Lead.TheVariants as lead
use Rattle.smithy_document.specs.Building.{Building, top, items, fields, entries, second_value_text, texted, put_named}
use Rattle.smithy_document.specs.views.Frames.{Held}
use Rattle.smithy_document.specs.views.JsonFields.{names_of, starts_of}
use Rattle.smithy_document.specs.JsonText.{json_text}
use Rattle.smithy_document.specs.views.JsonStanding.{Part, last_first, AreAround, IsPartOf, LeadsTo, Shows, settled, IsNamed, IsKeyed, KeyOutcome, PutsOrNot, IsAnswered, IsWritten, wants_key, HasNoPlace}
use Rattle.smithy_document.proofs.JsonNamedLemmas.{name_leads}
use Rattle.smithy_document.proofs.JsonStandingLemmas.{led_puts, value_settled}

pub around_kept : (old new : JsonWriting) (hs : List Held) (outer : Part) → new.level.kind ≡ old.level.kind → new.around ≡ old.around → AreAround old.level.kind (last_first old.around.items []) hs outer
    → AreAround new.level.kind (last_first new.around.items []) hs outer
around_kept old new hs outer same around h = subst (λ k. AreAround k (last_first new.around.items []) hs outer) (sym same) (subst (λ a. AreAround old.level.kind (last_first a.items []) hs outer) (sym around) h)

pub value_put : (old mid new : JsonWriting) (l : Label) (struct : Bool) (d : Document) (b : Building) (hs : List Held) (s : Shows old b hs) → LeadsTo mid s.outer l.member_name b
    → new.text.items ≡ mid.text.items ++ json_text d → new.fields ≡ mid.fields → new.level ≡ settled mid.level → mid.level.kind ≡ old.level.kind → new.around ≡ old.around
    → (c : Building) × (put_named l.member_name l.full_name struct d b ≡ Ok c) × Shows new c hs
value_put old mid new l struct d b hs s led text same level kept around =
    let put = led_puts mid.level l.member_name l.full_name struct d b led.inner led.leads in
    let inner : Part = record { text = led.inner.text ++ json_text d; names = led.inner.names; starts = led.inner.starts } in
    let stands = value_settled mid.level l.member_name l.full_name struct d b put.0 led.inner inner put.1 led.leads (record { text = refl; names = refl; starts = refl }) in (
      put.0,
      put.1,
      record {
        outer = s.outer;
        inner = inner;
        joined = record {
          text = text ∙ ap (λ t. t ++ json_text d) led.joined.text ∙ append_assoc s.outer.text led.inner.text (json_text d);
          names = ap (λ f. names_of f.list.items) same ∙ led.joined.names;
          starts = ap (λ f. starts_of f.list.items) same ∙ led.joined.starts;
          first = ap (λ v. v.first) level ∙ led.joined.first;
          start = ap (λ v. v.start) level ∙ led.joined.start;
        };
        current = subst (λ v. IsPartOf v put.0 inner) (sym level) stands;
        around = around_kept old new hs s.outer (ap (λ v. v.kind) level ∙ kept) around s.around;
      },
    )

-- a key behind the fields of a map
pub key_put : (old mid new : JsonWriting) (key : List ℕ) → IsNamed key old mid → new.text ≡ mid.text → new.fields ≡ mid.fields → new.level ≡ record mid.level { keyed = true } → mid.around ≡ old.around → new.around ≡ mid.around → IsKeyed key old new
key_put old mid new key n text same level rest around (top w) hs due s = absurd (cc due)
key_put old mid new key n text same level rest around (items ds) hs due s = absurd (cc due)
key_put old mid new key n text same level rest around (entries ms (Some k)) hs due s = absurd (cc due)
key_put old mid new key n text same level rest around (entries ms None) hs due s =
    let h = s.current in
    let led = name_leads old mid key s.outer s.inner h.2.0 s.joined h.2.2 n in
    let at : mid.level.kind ≡ kind.Entries = ap (λ v. v.kind) n.level ∙ h.0 in
    let stands : IsPartOf (record mid.level { keyed = true }) (entries ms (Some key)) led.inner =
    (at, refl, (h.2.0, h.2.1, record { later = led.named.later; text = led.named.text; names = led.named.names; starts = led.named.starts; ascends = led.named.ascends })) in (
      ms,
      refl,
      record {
        outer = s.outer;
        inner = led.inner;
        joined = record {
          text = ap (λ t. t.items) text ∙ led.joined.text;
          names = ap (λ f. names_of f.list.items) same ∙ led.joined.names;
          starts = ap (λ f. starts_of f.list.items) same ∙ led.joined.starts;
          first = ap (λ v. v.first) level ∙ led.joined.first;
          start = ap (λ v. v.start) level ∙ led.joined.start;
        };
        current = subst (λ v. IsPartOf v (entries ms (Some key)) led.inner) (sym level) stands;
        around = around_kept old new hs s.outer (ap (λ v. v.kind) level ∙ ap (λ v. v.kind) n.level) (around ∙ rest) s.around;
      },
    )
key_put old mid new key n text same level rest around (fields ms) hs due s = absurd (cc due)

pub put_written : {U : Type 0} (l : Label) (d : Document) (old new : JsonWriting) (x : U) → ((b : Building) (inner : Part) → IsPartOf old.level b inner → false ≡ wants_key b) → PutsOrNot l d old new lead.Value → IsWritten l d old new (Ok x)
put_written l d old new x due h = λ b hs s. h b hs (sym (due b s.inner s.current)) s

key_has_place : (l : Label) (d : Document) (old new : JsonWriting) (key : List ℕ) → d ≡ doc.string key → IsKeyed key old new → (b : Building) (hs : List Held) → wants_key b ≡ true → Shows old b hs
    → (c : Building) × (put_named l.member_name l.full_name false d b ≡ Ok c) × Shows new c hs
key_has_place l d old new key is h b hs due s =
    let keyed = h b hs due s in
    (entries keyed.0 (Some key), ap₂ (λ x y. put_named l.member_name l.full_name false x y) is keyed.1, keyed.2)

pub key_refused : (l : Label) (struct : Bool) (d : Document) (e : SerdeError) → IsRefusedFor (result_err (texted (key_text d))) e → (b : Building) → wants_key b ≡ true
    → IsRefusedFor (result_err (put_named l.member_name l.full_name struct d b)) e
key_refused l struct d e told (top w) due = absurd (cc due)
key_refused l struct d e told (items ds) due = absurd (cc due)
key_refused l struct d e told (fields ms) due = absurd (cc due)
key_refused l struct d e told (entries ms (Some k)) due = absurd (cc due)
key_refused l struct d e told (entries ms None) due = subst (λ o. IsRefusedFor o e) (same (key_text d)) told
  where
    same : (r : Result (List ℕ) DocumentFault) → result_err (texted r) ≡ result_err (then_give (texted r) (λ key. entries ms (Some key)))
    same (Ok k) = refl
    same (Err f) = refl

pub key_written : {U : Type 0} (l : Label) (d : Document) (old new : JsonWriting) (result : Result U SerdeError) → ((b : Building) (inner : Part) → IsPartOf old.level b inner → true ≡ wants_key b) → KeyOutcome d old new result → IsWritten l d old new result
key_written l d old new (Ok x) due h = λ b hs s. key_has_place l d old new h.0 h.1 h.2 b hs (sym (due b s.inner s.current)) s
key_written l d old new (Err e) due h = λ b hs s. key_refused l false d e h b (sym (due b s.inner s.current))

none_written : (U : Type 0) (l : Label) (d : Document) (old new : JsonWriting) (text : List ℕ) (e : SerdeError) → ((b : Building) (inner : Part) → IsPartOf old.level b inner → false ≡ wants_key b) → HasNoPlace l old text → IsRefusedFor (Some text) e
    → IsWritten {U = U} l d old new (Err e)
none_written U l d old new text e due h told = λ b hs s. subst (λ o. IsRefusedFor o e) (sym (h s.inner b s.current (sym (due b s.inner s.current)) false d)) told

-- where no key is due, a document is written where it has a place, and else refused
pub put_answered : {U : Type 0} (l : Label) (d : Document) (old new : JsonWriting) (place : Lead) (result : Result U SerdeError) → ((b : Building) (inner : Part) → IsPartOf old.level b inner → false ≡ wants_key b) → PutsOrNot l d old new place
    → IsAnswered l place result → IsWritten l d old new result
put_answered l d old new lead.Value (Ok x) due h answer = put_written l d old new x due h
put_answered l d old new lead.Value (Err e) due h answer = absurd answer
put_answered l d old new lead.Second (Ok x) due h answer = absurd answer
put_answered {U} l d old new lead.Second (Err e) due h answer = none_written U l d old new second_value_text e due h.1 answer
put_answered l d old new lead.Unnamed (Ok x) due h answer = absurd answer
put_answered {U} l d old new lead.Unnamed (Err e) due h answer = none_written U l d old new (document_fault_text (no_member_name l.full_name)) e due h.1 answer
