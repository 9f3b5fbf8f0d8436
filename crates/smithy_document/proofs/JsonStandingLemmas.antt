-- A value that was led to and written stands in its group.
use Rattle.std.proofs.Common.{◌≡◌, ℕ, ◌+◌, length, Bool, true, false, ◌||◌, List, [], ◌∷◌, ◌++◌, map, Option, Some, None, IsTrue, Ok, slice_range, nat_cmp, if◌then◌else◌, suc, refl, sym, subst, ap, ap₂, ◌∙◌, append_assoc, arith}
use Rattle.std.proofs.lemmas.List.{length-append, map-append}
use Rattle.std.specs.Ordering.{match_ordering, ordering_reverse}
use Rattle.std.specs.declared.cmp.Ordering.{Ordering}
use Rattle.std.specs.declared.cmp.Ordering.TheVariants.{Less, Equal, Greater}
use Rattle.std.specs.Cmp.Lexicographic.{slice_cmp}
use Rattle.std.proofs.lemmas.Cmp.{nat_list_cmp_total}
use Rattle.serde_json.specs.Written.{comma_if}
use Rattle.smithy_types.specs.Maps.{with_value}
use Rattle.smithy_types.specs.Documents as doc
use Rattle.smithy_types.specs.Documents.{Document, Members, no_members, items_snoc, put, put_all, members_of, list_of_members}
use Rattle.smithy_document.specs.declared.json_writing.Level.{Level}
use Rattle.smithy_document.specs.Building.{Building, top, items, fields, entries, put_named}
use Rattle.smithy_document.specs.JsonText.{json_text}
use Rattle.smithy_document.specs.views.JsonShown.{some_items, items_shown, Pair, some_pairs, name_shown, fields_shown, field_starts, IsBehind, NamesAscend}
use Rattle.smithy_document.specs.views.JsonFields.{Span, IsSpan, AreSpans}
use Rattle.smithy_document.specs.views.JsonStanding.{Part, first_name, HasFields, HasNamed, IsPartOf, Leads, settled}
use Rattle.smithy_document.proofs.JsonShownLemmas.{one_more_item, one_more_field, some_item, some_pair, object_text}
use Rattle.smithy_document.proofs.NamedPairs.{members_ordered}
use Rattle.smithy_document.proofs.OrderedPairs.{all_put, same_name}

-- the part goes on by this text
pub record GoesOn (before after : Part) (more : List ℕ) : Type 0 where
  pub text : after.text ≡ before.text ++ more
  pub names : after.names ≡ before.names
  pub starts : after.starts ≡ before.starts

part_same : (p : Part) {text : List ℕ} {names : List (List ℕ)} {starts : List ℕ} → p.text ≡ text → p.names ≡ names → p.starts ≡ starts → p ≡ record { text = text; names = names; starts = starts }
part_same p t n s = λ i. record { text = t i; names = n i; starts = s i }

put_all_last : (ps : List Pair) (p : Pair) (ms : Members) → put_all (ps ++ p ∷ []) ms ≡ put p.0 p.1 (put_all ps ms)
put_all_last [] p ms = refl
put_all_last (q ∷ ps) p ms = put_all_last ps p (put q.0 q.1 ms)

-- the text before a field, with the comma
shown_then : (q : Pair) (ps : List Pair) (comma : List ℕ)
    → length ((name_shown q.0 ++ (json_text q.1 ++ fields_shown true ps)) ++ comma) ≡ length (name_shown q.0 ++ json_text q.1) + length (fields_shown true ps ++ comma)
shown_then q ps comma =
    ap length (ap (λ t. t ++ comma) (sym (append_assoc (name_shown q.0) (json_text q.1) (fields_shown true ps))) ∙ append_assoc (name_shown q.0 ++ json_text q.1) (fields_shown true ps) comma)
    ∙ length-append (name_shown q.0 ++ json_text q.1) (fields_shown true ps ++ comma)

starts_more : (at : ℕ) (later : Bool) (ps : List Pair) (p : Pair)
    → field_starts at later (ps ++ p ∷ []) ≡ field_starts at later ps ++ (at + length (fields_shown later ps ++ comma_if (later || some_pairs ps))) ∷ []
starts_more at true [] p = refl
starts_more at false [] p = refl
starts_more at true (q ∷ ps) p =
    let size = length (name_shown q.0 ++ json_text q.1) in
    let both : length ((name_shown q.0 ++ (json_text q.1 ++ fields_shown true ps)) ++ 44 ∷ []) ≡ size + length (fields_shown true ps ++ 44 ∷ []) = shown_then q ps (44 ∷ []) in
    let here : (at + suc size) + length (fields_shown true ps ++ 44 ∷ []) ≡ at + suc (length ((name_shown q.0 ++ (json_text q.1 ++ fields_shown true ps)) ++ 44 ∷ [])) = omega (arith, both) in
    ap (λ rest. (at + 1) ∷ rest) (starts_more (at + suc size) true ps p ∙ ap (λ n. field_starts (at + suc size) true ps ++ n ∷ []) here)
starts_more at false (q ∷ ps) p =
    let size = length (name_shown q.0 ++ json_text q.1) in
    let both : length ((name_shown q.0 ++ (json_text q.1 ++ fields_shown true ps)) ++ 44 ∷ []) ≡ size + length (fields_shown true ps ++ 44 ∷ []) = shown_then q ps (44 ∷ []) in
    let here : (at + size) + length (fields_shown true ps ++ 44 ∷ []) ≡ at + length ((name_shown q.0 ++ (json_text q.1 ++ fields_shown true ps)) ++ 44 ∷ []) = omega (arith, both) in
    ap (λ rest. (at + 0) ∷ rest) (starts_more (at + size) true ps p ∙ ap (λ n. field_starts (at + size) true ps ++ n ∷ []) here)

named_settled : (l : Level) (ps : List Pair) (name : List ℕ) (d : Document) (p q : Part) → HasNamed l ps name p → GoesOn p q (json_text d) → HasFields (settled l) (ps ++ (name, d) ∷ []) q
named_settled l ps name d p q h more = record {
  later = sym (some_pair ps (name, d));
  text =
      more.text ∙ ap (λ t. t ++ json_text d) h.text
      ∙ ap (λ t. 123 ∷ t) (append_assoc (fields_shown false ps) (comma_if (some_pairs ps) ++ name_shown name) (json_text d)
      ∙ ap (λ t. fields_shown false ps ++ t) (append_assoc (comma_if (some_pairs ps)) (name_shown name) (json_text d)) ∙ sym (one_more_field false ps (name, d)));
  names = more.names ∙ h.names ∙ sym (map-append first_name ps ((name, d) ∷ []));
  starts = more.starts ∙ h.starts ∙ sym (starts_more (l.start + 1) false ps (name, d));
  ascends = λ up. rw more.names (h.ascends up);
}

pub value_settled : (l : Level) (name : Option (List ℕ)) (full : List ℕ) (struct : Bool) (d : Document) (b c : Building) (p q : Part) → put_named name full struct d b ≡ Ok c
    → Leads l name b p → GoesOn p q (json_text d) → IsPartOf (settled l) c q
value_settled l name full struct d (top (Some w)) c p q is led more = absurd led
value_settled l name full struct d (top None) c p q is led more =
    let c_is : top (Some record { document = d; discriminator = if struct then Some full else None }) ≡ c = cc is in
    subst (λ c. IsPartOf (settled l) c q) c_is (led.0, refl, part_same q (more.text ∙ ap (λ r. r.text ++ json_text d) led.1) (more.names ∙ ap (λ r. r.names) led.1) (more.starts ∙ ap (λ r. r.starts) led.1))
value_settled l name full struct d (items ds) c p q is led more =
    let c_is : items (items_snoc ds d) ≡ c = cc is in
    let shown =
    more.text ∙ ap (λ r. r.text ++ json_text d) led.1
    ∙ ap (λ t. 91 ∷ t) (append_assoc (items_shown false ds) (comma_if (some_items ds)) (json_text d) ∙ sym (one_more_item false ds d)) in
    subst (λ c. IsPartOf (settled l) c q) c_is (led.0, sym (some_item ds d), part_same q shown (more.names ∙ ap (λ r. r.names) led.1) (more.starts ∙ ap (λ r. r.starts) led.1))
value_settled l None full struct d (fields ms) c p q is led more = absurd led
value_settled l (Some name) full struct d (fields ms) c p q is led more =
    let c_is : fields (put name d ms) ≡ c = cc is in
    let ps = led.1.0 in
    subst (λ c. IsPartOf (settled l) c q) c_is (led.0, (ps ++ (name, d) ∷ [], put_all_last ps (name, d) no_members ∙ ap (put name d) led.1.1, named_settled l ps name d p q led.1.2 more))
value_settled l name full struct d (entries ms None) c p q is led more = absurd led
value_settled l name full struct d (entries ms (Some key)) c p q is led more =
    let c_is : entries (put key d ms) None ≡ c = cc is in
    let ps = led.1.0 in
    subst (λ c. IsPartOf (settled l) c q) c_is (led.0, refl, (ps ++ (key, d) ∷ [], put_all_last ps (key, d) no_members ∙ ap (put key d) led.1.1, named_settled l ps key d p q led.1.2 more))

-- what leads to a value has a place for it
pub led_puts : (l : Level) (name : Option (List ℕ)) (full : List ℕ) (struct : Bool) (d : Document) (b : Building) (p : Part) → Leads l name b p → (c : Building) × (put_named name full struct d b ≡ Ok c)
led_puts l name full struct d (top (Some w)) p led = absurd led
led_puts l name full struct d (top None) p led = (_, refl)
led_puts l name full struct d (items ds) p led = (_, refl)
led_puts l None full struct d (fields ms) p led = absurd led
led_puts l (Some name) full struct d (fields ms) p led = (_, refl)
led_puts l name full struct d (entries ms None) p led = absurd led
led_puts l name full struct d (entries ms (Some key)) p led = (_, refl)

-- ---- the end of an object

abbrev AllBelow : List ℕ → List Pair → Type 0
AllBelow name [] = Unit {0}
AllBelow name (p ∷ ps) = (slice_cmp nat_cmp p.0 name ≡ Less) × AllBelow name ps

put_at_end : (name : List ℕ) (d : Document) (ps : List Pair) → AllBelow name ps → with_value name d ps ≡ ps ++ (name, d) ∷ []
put_at_end name d [] h = refl
put_at_end name d (p ∷ ps) h =
    let above : slice_cmp nat_cmp name p.0 ≡ Greater = nat_list_cmp_total.antisymm name p.0 ∙ ap ordering_reverse h.0 in
    rw above (ap (λ qs. p ∷ qs) (put_at_end name d ps h.1))

all_higher : (low high : List ℕ) (ps : List Pair) → slice_cmp nat_cmp low high ≡ Less → AllBelow low ps → AllBelow high ps
all_higher low high [] less h = tt
all_higher low high (p ∷ ps) less h = (nat_list_cmp_total.trans p.0 low high h.0 less, all_higher low high ps less h.1)

below_last : (name : List ℕ) (ps : List Pair) (p : Pair) → AllBelow name ps → slice_cmp nat_cmp p.0 name ≡ Less → AllBelow name (ps ++ p ∷ [])
below_last name [] p h less = (less, tt)
below_last name (q ∷ ps) p h less = (h.0, below_last name ps p h.1 less)

put_in_turn : (done : List Pair) (p : Pair) (ps : List Pair) → AllBelow p.0 done → IsBehind p.0 (map first_name ps) → all_put (p ∷ ps) done ≡ done ++ p ∷ ps
put_in_turn done p [] h behind = put_at_end p.0 p.1 done h
put_in_turn done p (q ∷ ps) h behind =
    ap (λ ready. all_put (q ∷ ps) ready) (put_at_end p.0 p.1 done h)
    ∙ put_in_turn (done ++ p ∷ []) q ps (below_last q.0 done p (all_higher p.0 q.0 done behind.0 h) behind.0) behind.1
    ∙ append_assoc done (p ∷ []) (q ∷ ps)

-- names that ascend are put as they stand
pub in_turn : (ps : List Pair) → NamesAscend (map first_name ps) → list_of_members (members_of ps) ≡ ps
in_turn [] h = refl
in_turn (p ∷ ps) h = members_ordered (p ∷ ps) ∙ put_in_turn [] p ps tt h

-- an object whose names ascend ends with its text
pub object_settled : (l : Level) (ps : List Pair) (p : Part) → HasFields l ps p → IsTrue l.ascends → p.text ++ 125 ∷ [] ≡ json_text (doc.object (members_of ps))
object_settled l ps p h up =
    ap (λ t. t ++ 125 ∷ []) (h.text ∙ ap (λ qs. 123 ∷ fields_shown false qs) (sym (in_turn ps (rw (← h.names) (h.ascends up))))) ∙ sym (object_text (members_of ps))

-- one whose fields were put in order
pub object_ordered : (ps : List Pair) (text : List ℕ) → text ≡ 123 ∷ fields_shown false (list_of_members (members_of ps)) → text ++ 125 ∷ [] ≡ json_text (doc.object (members_of ps))
object_ordered ps text is = ap (λ t. t ++ 125 ∷ []) is ∙ sym (object_text (members_of ps))

-- ---- the fields in order, each from where it stands

put_spans : (text : List ℕ) (name : List ℕ) (s : Span) (d : Document) (ss : List (List ℕ × Span)) (ps : List Pair) → IsSpan text s (name, d) → AreSpans text ss ps
    → AreSpans text (with_value name s ss) (with_value name d ps)
put_spans text name s d [] [] is h = (refl, is, tt)
put_spans text name s d [] (p ∷ ps) is h = absurd h
put_spans text name s d (e ∷ ss) [] is h = absurd h
put_spans text name s d (e ∷ ss) (p ∷ ps) is h = subst (λ k. AreSpans text (with_value name s (e ∷ ss)) (match_ordering (slice_cmp nat_cmp name k) ((name, d) ∷ p ∷ ps) ((p.0, d) ∷ ps) (p ∷ with_value name d ps))) h.0
    (go (slice_cmp nat_cmp name e.0) refl (put_spans text name s d ss ps is h.2))
  where
    go : (o : Ordering) → slice_cmp nat_cmp name e.0 ≡ o → AreSpans text (with_value name s ss) (with_value name d ps)
        → AreSpans text (match_ordering o ((name, s) ∷ e ∷ ss) ((e.0, s) ∷ ss) (e ∷ with_value name s ss)) (match_ordering o ((name, d) ∷ p ∷ ps) ((p.0, d) ∷ ps) (p ∷ with_value name d ps))
    go Less same rest = (refl, is, h)
    go Equal same rest = (h.0, subst (λ k. IsSpan text s (k, d)) (same_name name e.0 same ∙ h.0) is, h.2)
    go Greater same rest = (h.0, h.1, rest)

all_spans : (text : List ℕ) (ts ss : List (List ℕ × Span)) (qs ps : List Pair) → AreSpans text ts qs → AreSpans text ss ps → AreSpans text (all_put ts ss) (all_put qs ps)
all_spans text [] ss [] ps h j = j
all_spans text [] ss (q ∷ qs) ps h j = absurd h
all_spans text (t ∷ ts) ss [] ps h j = absurd h
all_spans text (t ∷ ts) ss (q ∷ qs) ps h j =
    all_spans text ts (with_value t.0 t.1 ss) qs (with_value q.0 q.1 ps) h.2 (subst (λ k. AreSpans text (with_value t.0 t.1 ss) (with_value k q.1 ps)) h.0 (put_spans text t.0 t.1 q.1 ss ps (subst (λ k. IsSpan text t.1 (k, q.1)) (sym h.0) (record { ascends = h.1.ascends; within = h.1.within; shows = h.1.shows })) j))

-- the spans of fields that were told, put in order, are those of the object's members
pub spans_in_order : (text : List ℕ) (ss : List (List ℕ × Span)) (ps : List Pair) → AreSpans text ss ps → AreSpans text (all_put ss []) (list_of_members (members_of ps))
spans_in_order text ss ps h = subst (AreSpans text (all_put ss [])) (sym (members_ordered ps)) (all_spans text ss [] ps [] h tt)

-- what is copied of them, with commas between, is the text of the fields
abbrev pub copied : List ℕ → Bool → List (List ℕ × Span) → List ℕ
copied text later [] = []
copied text later (s ∷ ss) = comma_if later ++ (slice_range text s.1.0 s.1.1 ++ copied text true ss)

pub copied_fields : (text : List ℕ) (later : Bool) (ss : List (List ℕ × Span)) (ps : List Pair) → AreSpans text ss ps → copied text later ss ≡ fields_shown later ps
copied_fields text later [] [] h = refl
copied_fields text later [] (p ∷ ps) h = absurd h
copied_fields text later (s ∷ ss) [] h = absurd h
copied_fields text later (s ∷ ss) (p ∷ ps) h =
    ap (λ t. comma_if later ++ t) (ap₂ (λ a b. a ++ b) h.1.shows (copied_fields text true ss ps h.2) ∙ append_assoc (name_shown p.0) (json_text p.1) (fields_shown true ps))
