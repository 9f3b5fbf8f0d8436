-- The calls of a serializer of JSON.
use Rattle.smithy_document.proofs.Common.{◌≡◌, ℕ, ◌+◌, ◌<◌, length, List, [], ◌∷◌, ◌++◌, Option, Some, None, option_map, Result, Ok, Err, suc, refl, sym, ap, ◌∙◌, subst, arith, result_err, Document, SerdeError, Custom, OutOfMemory, Group, Label, Scalar, scalar, document_of, State, ended, state_refusal, Building, top, started, ended_with, IsRefusedFor, IsFirstAnswer, Step, after, adds, opens, closes, Calls, first_kept, Holds, AreHeld, IsSome, ◌⊎◌, inl, inr, Open, Writes, no_writes, write, empty_state, built, start_in, items, discriminator_of, DocumentFault, then_give, texted, ap₂}
use Rattle.smithy_document.specs.declared.json_writing.Kind.TheVariants as kind
use Rattle.smithy_document.specs.declared.json_writing.Level.{Level}
use Rattle.smithy_document.specs.declared.json_writing.Around.{Around}
use Rattle.smithy_document.specs.Building.{Whole, fields, entries}
use Rattle.smithy_document.specs.JsonText.{json_text}
use Rattle.smithy_serde.specs.Finishing.{IsTextOf, IsFinishedText}
use Rattle.smithy_document.specs.views.JsonFields.{names_of, starts_of}
use Rattle.std.specs.Prelude.{OnOk, IfErr, OnErr}
use Rattle.smithy_serde.specs.views.Steps.{moved}
use Rattle.smithy_document.specs.declared.json_writing.JsonWriting.{JsonWriting}
use Rattle.smithy_document.specs.declared.json_codec.JsonSerializer.{JsonSerializer}
use Rattle.smithy_document.specs.views.Frames.{Held}
use Rattle.smithy_document.specs.views.Standing.{Stands}
use Rattle.smithy_document.specs.views.JsonStanding.{Part, nothing, top_text, IsPartOf, AreAround, last_first, Shows, WritesAs, JsonStandsFor, IsWritten, Begins, Ends, IsNewWriting}
use Rattle.smithy_document.specs.views.JsonSeen.{json_seen}
use Rattle.smithy_document.proofs.RefusalLemmas.{refused_as_told, starved_refused}
use Rattle.smithy_document.proofs.StandingLemmas.{unbroken, held_with, refused_same, stands_written, stands_begun, stands_ended, written_refused, ended_refused}
use Rattle.smithy_document.proofs.BuildingLemmas.{top_built}

-- a call where no refusal is kept: what it makes of what stands, or what refuses it, which is not kept yet
pub record Moves (step : Step) (old new : JsonWriting) : Type 0 where
  pub lists : moved step (length old.around.items) (length new.around.items)
  pub shows : (s : State) → WritesAs old None s → WritesAs new None (after step s)

pub record Stays (step : Step) (old new : JsonWriting) (e : SerdeError) : Type 0 where
  pub lists : length new.around.items ≡ length old.around.items
  pub told : (s : State) → WritesAs old None s → IsRefusedFor (state_refusal (after step s)) e

abbrev pub Attempts : {U : Type 0} → Step → JsonWriting → JsonWriting → Result U SerdeError → Type 0
Attempts step old new (Ok x) = Moves step old new
Attempts step old new (Err e) = Stays step old new e

-- ---- a scalar

abbrev pub scalar_given : Scalar → Document → Type 0
scalar_given x d = document_of (scalar x) ≡ Ok d

pub attempts_write : {U : Type 0} (l : Label) (x : Scalar) (d : Document) (old new : JsonWriting) (result : Result U SerdeError) → scalar_given x d → IsWritten l d old new result → new.around ≡ old.around
    → Attempts (adds l x) old new result
attempts_write l x d old new (Ok u) is h same = record {
  lists = ap (λ v. length v.items) same;
  shows = λ s w.
      let put = h w.building w.held (w.shows refl) in
      record {
        building = put.0;
        held = w.held;
        as_many = w.as_many ∙ ap (λ v. length v.items) (sym same);
        stands = stands_written w.building put.0 w.held None s l (scalar x) d is put.1 refl w.stands;
        shows = λ none. put.2;
      };
}
attempts_write l x d old new (Err e) is h same = record {
  lists = ap (λ v. length v.items) same;
  told = λ s w. written_refused w.building w.held None s l (scalar x) d e is refl (h w.building w.held (w.shows refl)) w.stands;
}

-- ---- a group

attempts_begin : {U : Type 0} (u : U) (l : Label) (g : Group) (old new : JsonWriting) → Begins l g old new → Attempts (opens l g) old new (Ok u)
attempts_begin u l g old new h = record {
  lists = h.count;
  shows = λ s w.
      let x = held_with l.member_name l.full_name g w.building in
      let count : length new.around.items ≡ length old.around.items + 1 = h.count in
      let many : length w.held ≡ length old.around.items = w.as_many in
      record {
        building = started g;
        held = x ∷ w.held;
        as_many = omega (arith, count, many);
        stands = stands_begun w.building x w.held (x ∷ w.held) None s l g refl refl refl w.stands;
        shows = λ none. h.shows w.building w.held (w.shows refl);
      };
}

starved_begin : (U : Type 0) (l : Label) (g : Group) (old new : JsonWriting) (e : SerdeError) → e ≡ OutOfMemory → new.around.items ≡ old.around.items → Attempts {U = U} (opens l g) old new (Err e)
starved_begin U l g old new e memory same = record { lists = ap length same; told = λ s w. starved_refused _ e memory }

pub attempts_open : {U : Type 0} (l : Label) (g : Group) (old new : JsonWriting) (result : Result U SerdeError) → OnOk result (Begins l g old new) → IfErr result (λ e. e ≡ OutOfMemory)
    → OnErr result (new.around.items ≡ old.around.items) → Attempts (opens l g) old new result
attempts_open l g old new (Ok u) begins memory same = attempts_begin u l g old new begins
attempts_open {U = U} l g old new (Err e) begins memory same = starved_begin U l g old new e memory same

ends_shown : (old new : JsonWriting) (s : State) (b : Building) (hs : List Held) → length hs ≡ length old.around.items → length new.around.items + 1 ≡ length old.around.items
    → ((b : Building) (h : Held) (hs : List Held) → Shows old b (h ∷ hs) → (c : Building) × (ended_with b h ≡ Ok c) × Shows new c hs)
    → Stands b hs None s → Shows old b hs → WritesAs new None (ended s)
ends_shown old new s b [] many count h stands shows = absurd (omega (arith, many, count))
ends_shown old new s b (x ∷ hs) many count h stands shows =
    let end = h b x hs shows in
    let more : suc (length hs) ≡ length old.around.items = many in
    record {
      building = end.0;
      held = hs;
      as_many = omega (arith, more, count);
      stands = stands_ended b end.0 x hs None s end.1 refl stands;
      shows = λ none. end.2;
    }

ends_told : (old : JsonWriting) (s : State) (b : Building) (hs : List Held) (e : SerdeError) → length hs ≡ length old.around.items → 0 < length old.around.items
    → ((b : Building) (h : Held) (hs : List Held) → Shows old b (h ∷ hs) → IsRefusedFor (result_err (ended_with b h)) e)
    → Stands b hs None s → Shows old b hs → IsRefusedFor (state_refusal (ended s)) e
ends_told old s b [] e many some h stands shows = absurd (omega (arith, many, some))
ends_told old s b (x ∷ hs) e many some h stands shows = ended_refused b x hs None s e refl (h b x hs shows) stands

pub attempts_end : {U : Type 0} (old new : JsonWriting) (result : Result U SerdeError) → 0 < length old.around.items → Ends old new result → Attempts closes old new result
attempts_end old new (Ok u) some h = record { lists = h.0; shows = λ s w. ends_shown old new s w.building w.held w.as_many h.0 h.1 w.stands (w.shows refl) }
attempts_end old new (Err e) some h = record { lists = h.0; told = λ s w. ends_told old s w.building w.held e w.as_many some h.1 w.stands (w.shows refl) }

-- ---- with what is kept

no_more : (o : Option SerdeError) (f : SerdeError) {P : Type 0} → o ≡ Some f → o ≡ None → P
no_more o f some none = let both : Some f ≡ None = sym some ∙ none in absurd (cc both)

unrefused : (w : JsonWriting) (refusal : Option SerdeError) (s : State) → refusal ≡ None → WritesAs w refusal s → WritesAs w None s
unrefused w refusal s none h = subst (λ r. WritesAs w r s) none h

-- a call that was tried, and whose refusal is kept
pub attempted : {U : Type 0} (step : Step) (old new : JsonSerializer) (tried result : Result U SerdeError) → old.refusal ≡ None → Attempts step old.writing new.writing tried → IsFirstAnswer tried result new.refusal
    → Calls step (json_seen old) (json_seen new) result
unfolding JsonStandsFor
attempted step old new (Ok x) (Ok y) none h first = record {
  same = record { text = refl; lawful = λ l. l; wrong = λ s t a h. h };
  outcome = record {
    unrefused = (none, first.1);
    right = λ s w.
        let after_it = h.shows s (unrefused old.writing old.refusal s none w) in
        ap (option_map (λ text. Custom text)) (sym (unbroken _ _ _ (after_it.stands.holds refl)));
    lists = h.lists;
    states = λ s w. subst (λ r. WritesAs new.writing r (after step s)) (sym first.1) (h.shows s (unrefused old.writing old.refusal s none w));
  };
}
attempted step old new (Ok x) (Err f) none h first = absurd first
attempted step old new (Err e) (Ok y) none h first = absurd first
attempted step old new (Err e) (Err f) none h first =
    let refused : (s : State) → WritesAs old.writing old.refusal s → IsRefusedFor (state_refusal (after step s)) f = λ s w. refused_same _ e f (h.told s (unrefused old.writing old.refusal s none w)) first.0 in
    record {
      same = record { text = refl; lawful = λ l. l; wrong = λ s t a h. h };
      outcome = record {
        kept = first_kept _ _ f none first.1;
        wrong = λ unrefused s w. refused_as_told _ f (refused s w);
        lists = h.lists;
        states = λ s w. record {
          building = w.building;
          held = w.held;
          as_many = w.as_many ∙ sym h.lists;
          stands = record {
            as_many = w.stands.as_many;
            holds = no_more new.refusal f first.1;
            refused = λ r is. (step, let same : Some f ≡ Some r = sym first.1 ∙ is in subst (IsRefusedFor (state_refusal (after step s))) (cc same) (refused s w));
          };
          shows = no_more new.refusal f first.1;
        };
      };
    }

-- ---- the start and the end

pub new_stands : (w : JsonWriting) → IsNewWriting w → WritesAs w None empty_state
new_stands w h = record {
  building = top None;
  held = [];
  as_many = sym (ap length h.around);
  stands = record { as_many = refl; holds = λ none. record { current = refl; around = tt }; refused = λ e is. absurd (cc is) };
  shows = λ none. record {
    outer = nothing;
    inner = nothing;
    joined = record { text = h.text; names = ap names_of h.noted; starts = ap starts_of h.noted; first = ap (λ l. l.first) h.level; start = ap (λ l. l.start) h.level };
    current = (ap (λ l. l.kind) h.level, ap (λ l. l.later) h.level, refl);
    around = subst (λ fs. AreAround w.level.kind (last_first fs []) [] nothing) (sym h.around) (ap (λ l. l.kind) h.level, refl);
  };
}

whole_text : (ws : Writes) (w : Option Whole) → built ws (top None) ≡ Ok (top w) → IsFinishedText json_text ws (top_text w)
whole_text no_writes w is = let same : None ≡ w = cc is in ap top_text (sym same)
whole_text (write l v no_writes) w is = go (document_of v) refl (sym (top_built l v) ∙ is)
  where
    go : (r : Result Document DocumentFault) → document_of v ≡ r → then_give (texted r) (λ d. top (Some record { document = d; discriminator = discriminator_of l v })) ≡ Ok (top w) → IsTextOf json_text v (top_text w)
    go (Ok d) given is = let same : Some record { document = d; discriminator = discriminator_of l v } ≡ w = cc is in (d, given, ap top_text (sym same))
    go (Err f) given is = absurd (cc is)
whole_text (write l v (write m u ws)) w is = tt

current_built : (ws : Writes) (os : List Open) (b : Building) → built ws (start_in os) ≡ Ok b → AreHeld [] os → built ws (top None) ≡ Ok b
current_built ws [] b is h = is
current_built ws (o ∷ os) b is h = absurd h

of_top : (l : Level) (b : Building) (inner : Part) → l.kind ≡ kind.Top → IsPartOf l b inner → (w : Option Whole) × (b ≡ top w) × (inner.text ≡ top_text w)
of_top l (top w) inner is h = (w, refl, ap (λ p. p.text) h.2)
of_top l (items ds) inner is h = let no : kind.Top ≡ kind.Items = sym is ∙ h.0 in absurd (cc no)
of_top l (fields ms) inner is h = let no : kind.Top ≡ kind.Fields = sym is ∙ h.0 in absurd (cc no)
of_top l (entries ms None) inner is h = let no : kind.Top ≡ kind.Entries = sym is ∙ h.0 in absurd (cc no)
of_top l (entries ms (Some key)) inner is h = let no : kind.Top ≡ kind.Entries = sym is ∙ h.0 in absurd (cc no)

none_around : (fs : List Around) → length fs ≡ 0 → fs ≡ []
none_around [] h = refl
none_around (f ∷ fs) h = absurd (omega (arith, h))

at_top : (w : JsonWriting) (s : State) (b : Building) (hs : List Held) → length hs ≡ 0 → length w.around.items ≡ 0 → Shows w b hs → Holds b hs s → IsFinishedText json_text s.current w.text.items
at_top w s b (h ∷ hs) many zero shows holds = absurd (omega (arith, many))
at_top w s b [] many zero shows holds =
    let around = subst (λ fs. AreAround w.level.kind (last_first fs []) [] shows.outer) (none_around w.around.items zero) shows.around in
    let part = of_top w.level b shows.inner around.0 shows.current in
    let text : w.text.items ≡ top_text part.0 = shows.joined.text ∙ ap₂ (λ (p : Part) t. p.text ++ t) around.1 part.2 in
    let is = current_built s.current s.around b holds.current holds.around ∙ ap (λ b. Ok b) part.1 in
    subst (IsFinishedText json_text s.current) (sym text) (whole_text s.current part.0 is)

pub finished_text : (r : JsonSerializer) (s : State) → length r.writing.around.items ≡ 0 → r.refusal ≡ None → JsonStandsFor r s → IsFinishedText json_text s.current r.writing.text.items
unfolding JsonStandsFor
finished_text r s zero none h = at_top r.writing s h.building h.held (h.as_many ∙ zero) zero (h.shows none) (h.stands.holds none)

-- where no refusal is kept, no list is open
pub none_open : (kept : Option SerdeError) (n : ℕ) → kept ≡ None → (n ≡ 0) ⊎ IsSome kept → n ≡ 0
none_open kept n none (inl zero) = zero
none_open None n none (inr refused) = absurd (cc refused)
none_open (Some first) n none (inr refused) = absurd (cc none)
