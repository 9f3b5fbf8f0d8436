-- The string codec's reader, call by call.
use Rattle.std.proofs.Common.{◌≡◌, ◌≢◌, refl, sym, ap, ◌∙◌, subst, ℕ, ◌+◌, ◌<◌, inl, inr, Bool, true, false, List, [], ◌∷◌, ◌++◌, map, length, drop, get_or, Option, Some, None, option_map, is_some, IfSome, Result, Ok, Err, ℤ, arith}
use Rattle.std.specs.Option.{ok_or, option_or}
use Rattle.std.proofs.lemmas.List.{length-map, length-append, drop_more}
use Rattle.std.proofs.lemmas.Option.{slice_get-get_or}
use Rattle.smithy_http.specs.declared.error.ListFault.{ListFault}
use Rattle.smithy_http.specs.ListTexts.{list_texts}
use Rattle.smithy_types.specs.declared.error.TypesError.{TypesError}
use Rattle.smithy_types.specs.declared.error.TypesError.TheVariants.{Malformed}
use Rattle.smithy_schema.specs.Nodes.{Schema}
use Rattle.smithy_serde.specs.declared.error.SerdeError.{SerdeError}
use Rattle.smithy_serde.specs.declared.read_scalar.ScalarKind.{ScalarKind}
use Rattle.smithy_serde.specs.declared.read_scalar.ReadScalar.{ReadScalar}
use Rattle.smithy_serde.specs.declared.scalar.Group.{Group}
use Rattle.smithy_serde.specs.declared.scalar.Group.TheVariants as group
use Rattle.smithy_serde.specs.Held as held
use Rattle.smithy_serde.specs.Held.{Held, IsAnswer}
use Rattle.smithy_serde.specs.HeldReads.{read_scalar, elements, entries, fields, string_refusal}
use Rattle.smithy_serde.specs.Listings.{Slot, at_element, Listing, contents, contents_at, none_but}
use Rattle.smithy_serde.specs.ReadCalls.{Frame, AtHand, IsRefused, Opened, Advanced, Gives, Reads, scalar_of_read, type_of}
use Rattle.smithy_serde.specs.Refusals.{IsRefusal}
use Rattle.smithy_serde.specs.StringReads.{scalar_of_string}
use Rattle.smithy_serde.specs.Values.{timestamp}
use Rattle.smithy_strings.specs.ReadingRefusals.{not_utf8, no_list, shape_of}
use Rattle.smithy_strings.specs.StringReading.{texts_in, text_inside, held_of, frame_of, frames_of, levels_of, standing_at, text_left_of, ReadsLeft}
use Rattle.smithy_strings.specs.declared.string_reader.OpenList.{OpenList}

-- ---- reads

-- a read takes the text that is left
left_read : (text : List ℕ) (is_read : Bool) (list : Option OpenList) (k : ScalarKind) (node : Schema) →
    read_scalar (type_of k) node (held_of (Some text) is_read list) ≡ scalar_of_string (type_of k) (text_left_of (Some text) is_read list)
unfolding read_scalar
left_read text is_read None k node = refl
left_read text is_read (Some list) k node = refl

pub text_reads : (input : Option (List ℕ)) (is_read : Bool) (list : Option OpenList) (k : ScalarKind) (node : Schema) (new : AtHand) (result : Result ReadScalar SerdeError) →
    is_some input ≡ true → new.opened ≡ frames_of input is_read list → new.levels ≡ levels_of list → ReadsLeft k (text_left_of input is_read list) result →
    Reads scalar_of_read k node (standing_at input is_read list) new result
text_reads None is_read list k node new result some opened levels read = absurd (cc some)
text_reads (Some text) is_read list k node new result some opened levels read =
    record { opened = opened; levels = levels; of_kind = read.of_kind; gives = subst (λ x. Gives scalar_of_read (Some x) result) (sym (left_read text is_read list k node)) read.gives }

-- the input is not UTF-8
pub refused_reads : (input : Option (List ℕ)) (is_read : Bool) (list : Option OpenList) (k : ScalarKind) (node : Schema) (e : SerdeError) → is_some input ≡ false → IsRefusal not_utf8 e →
    Reads {A = ReadScalar} scalar_of_read k node (standing_at input is_read list) (standing_at input is_read list) (Err e)
unfolding read_scalar
refused_reads None is_read list k node e none refusal = record { opened = refl; levels = refl; of_kind = tt; gives = refusal }
refused_reads (Some text) is_read list k node e none refusal = absurd (cc none)

-- ---- times

pub later_time : (first second : Option ℤ) (e : TypesError) (z : ℤ) → Err e ≡ ok_or first Malformed → Ok z ≡ ok_or second Malformed → Some (timestamp z) ≡ option_map (λ s. timestamp s) (option_or first second)
later_time (Some y) second e z first_err second_ok = absurd (cc first_err)
later_time None None e z first_err second_ok = absurd (cc second_ok)
later_time None (Some y) e z first_err second_ok = let same : z ≡ y = cc second_ok in ap (λ s. Some (timestamp s)) same

pub no_time : (first second : Option ℤ) (e f : TypesError) → Err e ≡ ok_or first Malformed → Err f ≡ ok_or second Malformed → None ≡ option_map (λ s. timestamp s) (option_or first second)
no_time (Some y) second e f first_err second_err = absurd (cc first_err)
no_time None (Some y) e f first_err second_err = absurd (cc second_err)
no_time None None e f first_err second_err = refl

-- ---- openings

refused_by : (g : Group) (node : Schema) (h : Held) (x e : SerdeError) → contents g node h ≡ none_but x → IsRefusal x e → IsRefused (contents_at (Some h) g node) e
refused_by g node h x e same (inl is) =
    inr (record { none_left = ap (λ (l : Listing). l.items) same; ended = ap (λ (l : Listing). l.ends) same ∙ ap (λ r. Some r) (sym is) })
refused_by g node h x e same (inr memory) = inl memory

refused_contents : (g : Group) (node : Schema) (x : SerdeError) → contents g node (held.refused x) ≡ none_but x
unfolding elements entries fields
refused_contents group.List node x = refl
refused_contents group.Map node x = refl
refused_contents group.Structure node x = refl

item_contents : (g : Group) (node : Schema) (text : Option (List ℕ)) → contents g node (held.item text) ≡ none_but (string_refusal (shape_of g))
unfolding elements entries fields
item_contents group.List node text = refl
item_contents group.Map node text = refl
item_contents group.Structure node text = refl

input_contents : (g : Group) (node : Schema) (text : List ℕ) (is_read : Bool) → g ≢ group.List → contents g node (held.input text is_read) ≡ none_but (string_refusal (shape_of g))
unfolding elements entries fields
input_contents group.List node text is_read other = absurd (other refl)
input_contents group.Map node text is_read other = refl
input_contents group.Structure node text is_read other = refl

unlisted_contents : (node : Schema) (text : List ℕ) (is_read : Bool) (f : ListFault) → list_texts text ≡ Err f → contents group.List node (held.input text is_read) ≡ none_but (no_list f)
unfolding elements
unlisted_contents node text is_read f fault = rw fault refl

-- the input is not UTF-8
pub refused_opening : (g : Group) (input : Option (List ℕ)) (is_read : Bool) (list : Option OpenList) (node : Schema) (e : SerdeError) →
    input ≡ None → IsRefusal not_utf8 e → IsRefused (contents_at (Some (held_of input is_read list)) g node) e
refused_opening g input is_read list node e none refusal =
    subst (λ i. IsRefused (contents_at (Some (held_of i is_read list)) g node) e) (sym none)
    (refused_by g node (held.refused not_utf8) not_utf8 e (refused_contents g node not_utf8) refusal)

-- a list is open
pub nested_opening : (g : Group) (input : Option (List ℕ)) (text : List ℕ) (is_read : Bool) (list : Option OpenList) (node : Schema) (e : SerdeError) →
    input ≡ Some text → is_some list ≡ true → IsRefusal (string_refusal (shape_of g)) e → IsRefused (contents_at (Some (held_of input is_read list)) g node) e
nested_opening g input text is_read None node e is_text is_open refusal = absurd (cc is_open)
nested_opening g input text is_read (Some list) node e is_text is_open refusal =
    subst (λ i. IsRefused (contents_at (Some (held_of i is_read (Some list))) g node) e) (sym is_text)
    (refused_by g node (held_of (Some text) is_read (Some list)) (string_refusal (shape_of g)) e (item_contents g node (text_inside (texts_in (Some text)) list)) refusal)

-- none is
whole_opening : (g : Group) (input : Option (List ℕ)) (text : List ℕ) (is_read : Bool) (list : Option OpenList) (node : Schema) (x e : SerdeError) →
    input ≡ Some text → is_some list ≡ false → contents g node (held.input text is_read) ≡ none_but x → IsRefusal x e →
    IsRefused (contents_at (Some (held_of input is_read list)) g node) e
whole_opening g input text is_read (Some list) node x e is_text is_open none refusal = absurd (cc is_open)
whole_opening g input text is_read None node x e is_text is_open none refusal =
    subst (λ i. IsRefused (contents_at (Some (held_of i is_read None)) g node) e) (sym is_text) (refused_by g node (held.input text is_read) x e none refusal)

-- a map or a structure
pub other_opening : (g : Group) (input : Option (List ℕ)) (text : List ℕ) (is_read : Bool) (list : Option OpenList) (node : Schema) (e : SerdeError) →
    g ≢ group.List → input ≡ Some text → is_some list ≡ false → IsRefusal (string_refusal (shape_of g)) e → IsRefused (contents_at (Some (held_of input is_read list)) g node) e
other_opening g input text is_read list node e other is_text is_open refusal =
    whole_opening g input text is_read list node (string_refusal (shape_of g)) e is_text is_open (input_contents g node text is_read other) refusal

-- no list is spelled
pub unlisted_opening : (g : Group) (input : Option (List ℕ)) (text : List ℕ) (is_read : Bool) (list : Option OpenList) (f : ListFault) (node : Schema) (e : SerdeError) →
    g ≡ group.List → input ≡ Some text → is_some list ≡ false → list_texts text ≡ Err f → IsRefusal (no_list f) e → IsRefused (contents_at (Some (held_of input is_read list)) g node) e
unlisted_opening g input text is_read list f node e is_list is_text is_open fault refusal =
    whole_opening g input text is_read list node (no_list f) e is_text is_open
    (ap (λ h. contents h node (held.input text is_read)) is_list ∙ unlisted_contents node text is_read f fault) refusal

-- at the start of its list
abbrev start : OpenList
start = record { form = group.List; next = 0; at_hand = None }

count_of : (texts : List (List ℕ)) → length (map {B = Slot × Held} (λ x. (at_element, x)) (map (λ t. held.item (Some t)) texts)) ≡ length texts
count_of texts = length-map {B = Slot × Held} (map (λ t. held.item (Some t)) texts) (λ x. (at_element, x)) ∙ length-map texts (λ t. held.item (Some t))

listed_opened : (text : List ℕ) (is_read : Bool) (texts : List (List ℕ)) (node : Schema) → list_texts text ≡ Ok texts →
    Opened group.List node (standing_at (Some text) is_read None) (standing_at (Some text) true (Some start))
unfolding elements
listed_opened text is_read texts node spells = record {
  frame = frame_of (Some text) true start;
  now_is = refl;
  form = refl;
  container = refl;
  depth = refl;
  within = rw spells (omega (arith, count_of texts));
  to_come = rw spells refl;
}

pub opened : (g : Group) (input : Option (List ℕ)) (is_read : Bool) (list : Option OpenList) (node : Schema) (text : List ℕ) (texts : List (List ℕ)) →
    g ≡ group.List → list ≡ None → input ≡ Some text → list_texts text ≡ Ok texts → Opened g node (standing_at input is_read list) (standing_at input true (Some start))
opened g input is_read list node text texts is_list none_open is_text spells =
    subst (λ h. Opened h node (standing_at input is_read list) (standing_at input true (Some start))) (sym is_list)
    (subst (λ o. Opened group.List node (standing_at input is_read o) (standing_at input true (Some start))) (sym none_open)
    (subst (λ i. Opened group.List node (standing_at i is_read None) (standing_at i true (Some start))) (sym is_text) (listed_opened text is_read texts node spells)))

-- ---- the elements

element_next : (input : Option (List ℕ)) (is_read : Bool) (list : OpenList) → list.next < length (texts_in input) →
    Advanced None at_element (standing_at input is_read (Some list)) (standing_at input is_read (Some (record { form = list.form; next = list.next + 1; at_hand = Some list.next })))
element_next None is_read list more = absurd (omega (arith, more))
element_next (Some text) is_read list more =
    let texts = texts_in (Some text) in
    let first = get_or texts list.next [] in
    let comes : drop list.next texts ≡ first ∷ drop (list.next + 1) texts = drop_more texts list.next [] more in
    record {
      top = frame_of (Some text) is_read list;
      next = frame_of (Some text) is_read (record { form = list.form; next = list.next + 1; at_hand = Some list.next });
      below = [];
      was = refl;
      now_is = refl;
      form = refl;
      container = refl;
      depth = refl;
      falls = omega (arith, more);
      lower = omega arith;
      hands = (
        held.item (Some first),
        _,
        ap (λ xs. map (λ x. (at_element, x)) (map (λ t. held.item (Some t)) xs)) comes,
        ap (λ t. Some (held.item t)) (slice_get-get_or texts list.next [] more),
        refl,
      );
      settles = (λ e. Err e, refl, λ e. refl);
    }

pub element_after : (input : Option (List ℕ)) (is_read : Bool) (open_list : Option OpenList) (list : OpenList) → open_list ≡ Some list → list.next < length (texts_in input) →
    Advanced None at_element (standing_at input is_read open_list) (standing_at input is_read (Some (record { form = list.form; next = list.next + 1; at_hand = Some list.next })))
element_after input is_read open_list list is_open more =
    subst (λ o. Advanced None at_element (standing_at input is_read o) (standing_at input is_read (Some (record { form = list.form; next = list.next + 1; at_hand = Some list.next })))) (sym is_open)
    (element_next input is_read list more)

-- ---- what is open

none_open : (above below : List Frame) (f : Frame) → [] ≡ above ++ (f ∷ below) → ⊥
none_open above below f e = omega (arith, ap (λ (xs : List Frame). length xs) e, length-append above (f ∷ below))

only_frame : (P : Frame → Type 0) (x : Frame) (above below : List Frame) (f : Frame) → P x → (x ∷ []) ≡ above ++ (f ∷ below) → P f
only_frame P x [] below f p e = let same : x ≡ f = cc e in subst P same p
only_frame P x (a ∷ above) below f p e = let rest : [] ≡ above ++ (f ∷ below) = cc e in absurd (none_open above below f rest)

-- a refusal is answered as it is, whatever is open
pub open_settles : (input : Option (List ℕ)) (is_read : Bool) (list : Option OpenList) (e : SerdeError) (above below : List Frame) (f : Frame) →
    frames_of input is_read list ≡ above ++ (f ∷ below) → IfSome f.settled (λ s. IsAnswer (s e) (Err e))
open_settles input is_read None e above below f at = absurd (none_open above below f at)
open_settles input is_read (Some list) e above below f at = only_frame (λ y. IfSome y.settled (λ s. IsAnswer (s e) (Err e))) (frame_of input is_read list) above below f (inl refl) at
