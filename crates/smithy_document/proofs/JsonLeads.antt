-- What leads to a value, by the kind of the group, and where none has a place.
use Rattle.std.proofs.Common.{◌≡◌, ℕ, Bool, true, false, List, [], ◌∷◌, ◌++◌, Option, Some, None, refl, sym, ap, ◌∙◌, append_assoc}
use Rattle.std.specs.Result.{result_err}
use Rattle.serde_json.specs.Written.{comma_if}
use Rattle.smithy_types.specs.Documents.{Document}
use Rattle.smithy_serde.specs.DocumentOf.{no_member_name, document_fault_text}
use Rattle.smithy_document.specs.declared.json_writing.Kind.TheVariants as kind
use Rattle.smithy_document.specs.declared.json_writing.Level.{Level}
use Rattle.smithy_document.specs.declared.json_writing.JsonWriting.{JsonWriting}
use Rattle.smithy_document.specs.Building.{second_value_text, Building, top, items, fields, entries, put_named}
use Rattle.smithy_document.specs.views.JsonShown.{some_items, items_shown}
use Rattle.smithy_document.specs.views.JsonStanding.{Part, part_of, IsPartOf, LeadsTo, wants_key, IsJoined, IsNamed}
use Rattle.smithy_document.specs.views.JsonFields.{names_of, starts_of}
use Rattle.smithy_document.proofs.JsonNamedLemmas.{name_leads}

-- nothing stands at the top
pub top_leads : (w : JsonWriting) (outer inner : Part) (name : Option (List ℕ)) (b : Building) → w.level.kind ≡ kind.Top → w.level.later ≡ false → IsJoined w.level outer inner (part_of w) → IsPartOf w.level b inner
    → LeadsTo w outer name b
top_leads w outer inner name (top None) is later j h = record { inner = inner; joined = j; leads = (is, h.2) }
top_leads w outer inner name (top (Some x)) is later j h = let no : false ≡ true = sym later ∙ h.1 in absurd (cc no)
top_leads w outer inner name (items ds) is later j h = let no : kind.Top ≡ kind.Items = sym is ∙ h.0 in absurd (cc no)
top_leads w outer inner name (fields ms) is later j h = let no : kind.Top ≡ kind.Fields = sym is ∙ h.0 in absurd (cc no)
top_leads w outer inner name (entries ms None) is later j h = let no : kind.Top ≡ kind.Entries = sym is ∙ h.0 in absurd (cc no)
top_leads w outer inner name (entries ms (Some key)) is later j h = let no : kind.Top ≡ kind.Entries = sym is ∙ h.0 in absurd (cc no)

-- a value stands there
pub second_refused : (l : Level) (inner : Part) (b : Building) (name : Option (List ℕ)) (full : List ℕ) (struct : Bool) (d : Document) → l.kind ≡ kind.Top → l.later ≡ true → IsPartOf l b inner
    → result_err (put_named name full struct d b) ≡ Some second_value_text
second_refused l inner (top None) name full struct d is later h = let no : true ≡ false = sym later ∙ h.1 in absurd (cc no)
second_refused l inner (top (Some x)) name full struct d is later h = refl
second_refused l inner (items ds) name full struct d is later h = let no : kind.Top ≡ kind.Items = sym is ∙ h.0 in absurd (cc no)
second_refused l inner (fields ms) name full struct d is later h = let no : kind.Top ≡ kind.Fields = sym is ∙ h.0 in absurd (cc no)
second_refused l inner (entries ms None) name full struct d is later h = let no : kind.Top ≡ kind.Entries = sym is ∙ h.0 in absurd (cc no)
second_refused l inner (entries ms (Some key)) name full struct d is later h = let no : kind.Top ≡ kind.Entries = sym is ∙ h.0 in absurd (cc no)

-- a comma where an item stands before
pub items_lead : (old new : JsonWriting) (outer inner : Part) (name : Option (List ℕ)) (b : Building) → old.level.kind ≡ kind.Items → IsJoined old.level outer inner (part_of old) → IsPartOf old.level b inner
    → new.text.items ≡ old.text.items ++ comma_if old.level.later → new.fields ≡ old.fields → new.level ≡ old.level → LeadsTo new outer name b
items_lead old new outer inner name (items ds) is j h text same level =
    let none : inner ≡ record { text = 91 ∷ items_shown false ds; names = []; starts = [] } = h.2 in
    record {
      inner = record { text = 91 ∷ (items_shown false ds ++ comma_if (some_items ds)); names = []; starts = [] };
      joined = record {
        text =
            text ∙ ap (λ t. t ++ comma_if old.level.later) (j.text ∙ ap (λ p. outer.text ++ p.text) none) ∙ ap (λ b. (outer.text ++ 91 ∷ items_shown false ds) ++ comma_if b) h.1
            ∙ append_assoc outer.text (91 ∷ items_shown false ds) (comma_if (some_items ds));
        names = ap (λ f. names_of f.list.items) same ∙ j.names ∙ ap (λ p. outer.names ++ p.names) none;
        starts = ap (λ f. starts_of f.list.items) same ∙ j.starts ∙ ap (λ p. outer.starts ++ p.starts) none;
        first = ap (λ l. l.first) level ∙ j.first;
        start = ap (λ l. l.start) level ∙ j.start;
      };
      leads = (ap (λ l. l.kind) level ∙ h.0, refl);
    }
items_lead old new outer inner name (top w) is j h text same level = let no : kind.Items ≡ kind.Top = sym is ∙ h.0 in absurd (cc no)
items_lead old new outer inner name (fields ms) is j h text same level = let no : kind.Items ≡ kind.Fields = sym is ∙ h.0 in absurd (cc no)
items_lead old new outer inner name (entries ms None) is j h text same level = let no : kind.Items ≡ kind.Entries = sym is ∙ h.0 in absurd (cc no)
items_lead old new outer inner name (entries ms (Some key)) is j h text same level = let no : kind.Items ≡ kind.Entries = sym is ∙ h.0 in absurd (cc no)

-- a structure's member by its name
pub fields_lead : (old new : JsonWriting) (outer inner : Part) (name : List ℕ) (b : Building) → old.level.kind ≡ kind.Fields → IsJoined old.level outer inner (part_of old) → IsPartOf old.level b inner → IsNamed name old new
    → LeadsTo new outer (Some name) b
fields_lead old new outer inner name (fields ms) is j h n =
    let led = name_leads old new name outer inner h.1.0 j h.1.2 n in
    record { inner = led.inner; joined = led.joined; leads = (ap (λ l. l.kind) n.level ∙ h.0, (h.1.0, h.1.1, led.named)) }
fields_lead old new outer inner name (top w) is j h n = let no : kind.Fields ≡ kind.Top = sym is ∙ h.0 in absurd (cc no)
fields_lead old new outer inner name (items ds) is j h n = let no : kind.Fields ≡ kind.Items = sym is ∙ h.0 in absurd (cc no)
fields_lead old new outer inner name (entries ms None) is j h n = let no : kind.Fields ≡ kind.Entries = sym is ∙ h.0 in absurd (cc no)
fields_lead old new outer inner name (entries ms (Some key)) is j h n = let no : kind.Fields ≡ kind.Entries = sym is ∙ h.0 in absurd (cc no)

-- one without a name
pub unnamed_refused : (l : Level) (inner : Part) (b : Building) (full : List ℕ) (struct : Bool) (d : Document) → l.kind ≡ kind.Fields → IsPartOf l b inner
    → result_err (put_named None full struct d b) ≡ Some (document_fault_text (no_member_name full))
unnamed_refused l inner (fields ms) full struct d is h = refl
unnamed_refused l inner (top w) full struct d is h = let no : kind.Fields ≡ kind.Top = sym is ∙ h.0 in absurd (cc no)
unnamed_refused l inner (items ds) full struct d is h = let no : kind.Fields ≡ kind.Items = sym is ∙ h.0 in absurd (cc no)
unnamed_refused l inner (entries ms None) full struct d is h = let no : kind.Fields ≡ kind.Entries = sym is ∙ h.0 in absurd (cc no)
unnamed_refused l inner (entries ms (Some key)) full struct d is h = let no : kind.Fields ≡ kind.Entries = sym is ∙ h.0 in absurd (cc no)

-- an entry's key stands
pub entries_lead : (w : JsonWriting) (outer inner : Part) (name : Option (List ℕ)) (b : Building) → w.level.kind ≡ kind.Entries → wants_key b ≡ false → IsJoined w.level outer inner (part_of w) → IsPartOf w.level b inner
    → LeadsTo w outer name b
entries_lead w outer inner name (entries ms (Some key)) is keyed j h = record { inner = inner; joined = j; leads = (is, h.2) }
entries_lead w outer inner name (entries ms None) is keyed j h = absurd (cc keyed)
entries_lead w outer inner name (top x) is keyed j h = let no : kind.Entries ≡ kind.Top = sym is ∙ h.0 in absurd (cc no)
entries_lead w outer inner name (items ds) is keyed j h = let no : kind.Entries ≡ kind.Items = sym is ∙ h.0 in absurd (cc no)
entries_lead w outer inner name (fields ms) is keyed j h = let no : kind.Entries ≡ kind.Fields = sym is ∙ h.0 in absurd (cc no)
