-- How what is at hand of a response is opened, and its items handed out.
use Rattle.smithy_response.proofs.Common.{◌≡◌, ◌<◌, ◌≤◌, inl, inr, ℕ, ℤ, zero, suc, ◌+◌, ◌-◌, ◌++◌, true, false, List, [], ◌∷◌, map, length, drop, Option, Some, None, option_map, is_some, IfSome, Ok, Err, refl, sym, ap, subst, ◌∙◌, arith, add-one, slice_get, str_to_ascii_lowercase, Response, Schema, SerdeError, OutOfMemory, Group, elements_of_header, Held, Prefixed, IsAnswer, is_null_held, elements, entries, fields, opening_refusal, Slot, at_element, at_key, Listing, all_of, none_but, listing_of, contents, contents_at, Frame, AtHand, IsIn, IsRefused, NotOpened, Halted, NextElement, NextEntry, TellsNull, IsRefusal, BoundMember, OpenList, values_named, keys_behind, entry_of, prefixed_in, header_of, items_of, element_at, levels_at, told_frame, told_reader, elements_left, header_reader, entries_left, prefix_at_hand, member_at_hand}
use Rattle.smithy_ids.specs.declared.shape_type.ShapeType.TheVariants as kind
use Rattle.smithy_serde.specs.declared.scalar.Group.TheVariants as group
use Rattle.smithy_serde.specs.Held as held
use Rattle.smithy_response.specs.declared.parts.BoundMember.TheVariants as bound
use Rattle.smithy_response.specs.declared.parts.OpenMap.{OpenMap}
use Rattle.smithy_response.specs.declared.parts.ListItems.{ListItems}
use Rattle.smithy_response.specs.declared.parts.ListItems.TheVariants as items
use Rattle.smithy_response.specs.Openings.{opened_kind, OpensList, OpensEntries, IsAtEntries}
use Rattle.smithy_binding.proofs.WriteSteps.{drop-none}

-- the refusal that opening what is held gives, or want of memory
pub refused_listing : (x e : SerdeError) → IsRefusal x e → IsRefused (Some (none_but x)) e
refused_listing x e (inl is) = inr (record { none_left = refl; ended = ap (λ r. Some r) (sym is) })
refused_listing x e (inr m) = inl m

-- each way of opening what can be opened in none
module _ (node : Schema) (e : SerdeError) where
  pub not_status : (n : ℕ) (g : Group) → IsRefusal (opening_refusal (opened_kind g) (held.status n)) e → IsRefused (contents_at (Some (held.status n)) g node) e
  unfolding elements entries fields
  not_status n group.List r = refused_listing _ e r
  not_status n group.Map r = refused_listing _ e r
  not_status n group.Structure r = refused_listing _ e r

  pub not_raw : (bytes : List ℕ) (g : Group) → IsRefusal (opening_refusal (opened_kind g) (held.raw bytes)) e → IsRefused (contents_at (Some (held.raw bytes)) g node) e
  unfolding elements entries fields
  not_raw bytes group.List r = refused_listing _ e r
  not_raw bytes group.Map r = refused_listing _ e r
  not_raw bytes group.Structure r = refused_listing _ e r

  pub not_element : (text : List ℕ) (g : Group) → IsRefusal (opening_refusal (opened_kind g) (held.element text)) e → IsRefused (contents_at (Some (held.element text)) g node) e
  unfolding elements entries fields
  not_element text group.List r = refused_listing _ e r
  not_element text group.Map r = refused_listing _ e r
  not_element text group.Structure r = refused_listing _ e r

module _ (node : Schema) (e : SerdeError) where
  not_date : (seconds : ℤ) (g : Group) → IsRefusal (opening_refusal (opened_kind g) (held.date seconds)) e → IsRefused (contents_at (Some (held.date seconds)) g node) e
  unfolding elements entries fields
  not_date seconds group.List r = refused_listing _ e r
  not_date seconds group.Map r = refused_listing _ e r
  not_date seconds group.Structure r = refused_listing _ e r

-- an item at a place stands before those behind it
next_of : {A : Type 0} (xs : List A) (p : ℕ) (x : A) → slice_get xs p ≡ Some x → drop p xs ≡ x ∷ drop (suc p) xs
next_of [] zero x e = cc
next_of [] (suc p) x e = cc
next_of (y ∷ ys) zero x e = cc
next_of (y ∷ ys) (suc p) x e = next_of ys p x e

found_at : {A : Type 0} (xs : List A) (p : ℕ) → p < length xs → (x : A) × (slice_get xs p ≡ Some x)
found_at [] p h = absurd (omega arith)
found_at (y ∷ ys) zero h = (y, refl)
found_at (y ∷ ys) (suc p) h = found_at ys p (omega (arith, h))

behind_end : {A : Type 0} (xs : List A) (p : ℕ) → length xs ≤ p → drop p xs ≡ []
behind_end [] zero h = refl
behind_end [] (suc p) h = refl
behind_end (y ∷ ys) zero h = absurd (omega arith)
behind_end (y ∷ ys) (suc p) h = behind_end ys p (omega (arith, h))

-- what holds of none, of each text and of each date holds of an item of a list
module _ (P : Option Held → Type 0) (none : P None) (text : (t : List ℕ) → P (Some (held.element t))) (date : (s : ℤ) → P (Some (held.date s))) where
  of_texts : (words : List (List ℕ)) (p : ℕ) → P (slice_get (map (λ t. held.element t) words) p)
  of_texts [] zero = none
  of_texts [] (suc p) = none
  of_texts (w ∷ words) zero = text w
  of_texts (w ∷ words) (suc p) = of_texts words p

  of_dates : (seconds : List ℤ) (p : ℕ) → P (slice_get (map (λ s. held.date s) seconds) p)
  of_dates [] zero = none
  of_dates [] (suc p) = none
  of_dates (s ∷ seconds) zero = date s
  of_dates (s ∷ seconds) (suc p) = of_dates seconds p

  pub of_items : (its : ListItems) (p : ℕ) → P (slice_get (items_of its) p)
  of_items (items.Texts words) p = of_texts words p
  of_items (items.Dates seconds) p = of_dates seconds p

items_low : (its : ListItems) (p : ℕ) → levels_at (slice_get (items_of its) p) ≡ 0
items_low its p = of_items (λ o. levels_at o ≡ 0) refl (λ t. refl) (λ s. refl) its p

module _ (node : Schema) (e : SerdeError) (g : Group) (r : IsRefusal (opening_refusal (opened_kind g) (held.element [])) e) where
  items_not : (its : ListItems) (p : ℕ) → IsRefused (contents_at (slice_get (items_of its) p) g node) e
  items_not its p = of_items (λ o. IsRefused (contents_at o g node) e) (inr tt) (λ t. not_element node e t g r) (λ s. not_date node e s g r) its p

  -- an element can't be opened
  pub element_not_opened : (whole : Held) (below : List Frame) (l : OpenList)
      → NotOpened g node (header_reader whole below (Some l)) (header_reader whole below (Some l)) e
  element_not_opened whole below l = record { opened = refl; levels = refl; refused = items_not l.items (l.place - 1) }

  pub element_refused : (whole : Held) (below : List Frame) (list : Option OpenList) → true ≡ is_some list
      → NotOpened g node (header_reader whole below list) (header_reader whole below list) e
  element_refused whole below None bad = cc
  element_refused whole below (Some l) is = element_not_opened whole below l

pub none_list : (list : Option OpenList) → is_some list ≡ false → list ≡ None
none_list None e = refl
none_list (Some l) e = cc

-- the state after want of memory
pub halted : (a b : AtHand) → b ≡ a → Halted None a b OutOfMemory
halted a b e = record { still = λ top below was. (top, ap (λ (x : AtHand). x.opened) e ∙ was, refl); refused = λ top below was. inl refl }

-- the map is the innermost container
pub at_entries : (response : Response) (ps : List Prefixed) (entries : Option OpenMap) → IsIn group.Map (prefix_at_hand response ps entries) → IsAtEntries entries
at_entries response ps None is = is
at_entries response ps (Some m) is = go m.entry.list is
  where
    go : (list : Option OpenList) → IsIn group.Map (header_reader (header_of response m.entry.name) (told_frame group.Map (held.prefixed ps) (entries_left response m) ∷ []) list) → list ≡ None
    go None is = refl
    go (Some l) is = cc

-- a header is opened
module _ (response : Response) (name : List ℕ) (node : Schema) where
  abbrev values : List (List ℕ)
  values = values_named name response.headers

  told_list : (its : ListItems) → IsAnswer (elements_of_header node values) (Ok (items_of its))
      → contents group.List node (header_of response name) ≡ all_of (map (λ x. (at_element, x)) (items_of its))
  unfolding elements
  told_list its (inl is) = ap (listing_of (λ x. (at_element, x))) (sym is)
  told_list its (inr bad) = cc

  pub list_opened : (its : ListItems) → IsAnswer (elements_of_header node values) (Ok (items_of its))
      → OpensList response name group.List node (Ok (record { items = its; place = 0 }))
  list_opened its answer = λ below.
      let told = told_list its answer in
      let same : length (contents group.List node (header_of response name)).items ≡ length (map {B = Slot × Held} (λ x. (at_element, x)) (items_of its)) = ap (λ (x : Listing). length x.items) told in
      record {
        frame = told_frame group.List (header_of response name) (elements_left (record { items = its; place = 0 }));
        now_is = refl;
        form = refl;
        container = refl;
        depth = refl;
        within = omega (arith, same);
        to_come = ap (λ x. Some x) (sym told);
      }

  pub list_refused : (e : SerdeError) → IsAnswer (elements_of_header node values) (Err e) → OpensList response name group.List node (Err e)
  unfolding elements
  list_refused e (inl is) = λ below. record {
    opened = refl;
    levels = refl;
    refused = subst (λ r. IsRefused (Some (listing_of (λ x. (at_element, x)) r)) e) is (refused_listing e e (inl refl));
  }
  list_refused e (inr m) = λ below. record { opened = refl; levels = refl; refused = inl (let memory : e ≡ OutOfMemory = cc in memory) }

  pub header_no_map : (e : SerdeError) → IsRefusal (opening_refusal kind.Map (header_of response name)) e → OpensList response name group.Map node (Err e)
  unfolding entries
  header_no_map e r = λ below. record { opened = refl; levels = refl; refused = refused_listing _ e r }

  pub header_no_structure : (e : SerdeError) → IsRefusal (opening_refusal kind.Structure (header_of response name)) e → OpensList response name group.Structure node (Err e)
  unfolding fields
  header_no_structure e r = λ below. record { opened = refl; levels = refl; refused = refused_listing _ e r }

-- the next element of a header list
module _ (response : Response) (name : List ℕ) (below : List Frame) (l : OpenList) where
  pub element_advanced : (l' : OpenList) → l'.items ≡ l.items → l.place < length (items_of l.items) → l'.place ≡ l.place + 1
      → NextElement (header_reader (header_of response name) below (Some l)) (header_reader (header_of response name) below (Some l')) (Ok true)
  element_advanced l' same h place =
      let found = found_at (items_of l.items) l.place h in
      let back : l'.place - 1 ≡ l.place = omega (arith, place) in
      let at : element_at l' ≡ Some found.0 = ap (λ its. slice_get (items_of its) (l'.place - 1)) same ∙ ap (λ p. slice_get (items_of l.items) p) back ∙ found.1 in
      let rest : elements_left l' ≡ map {B = Slot × Held} (λ x. (at_element, x)) (drop (suc l.place) (items_of l.items)) =
      ap (λ its. map {B = Slot × Held} (λ x. (at_element, x)) (drop l'.place (items_of its))) same
      ∙ ap (λ p. map {B = Slot × Held} (λ x. (at_element, x)) (drop p (items_of l.items))) (place ∙ add-one l.place) in
      let now : elements_left l ≡ (at_element, found.0) ∷ elements_left l' =
      ap (map {B = Slot × Held} (λ x. (at_element, x))) (next_of (items_of l.items) l.place found.0 found.1) ∙ ap (λ is. (at_element, found.0) ∷ is) (sym rest) in
      let shorter : length (elements_left l) ≡ suc (length (elements_left l')) = ap length now in
      let low : levels_at (element_at l') ≡ 0 = items_low l'.items (l'.place - 1) in
      record {
        top = told_frame group.List (header_of response name) (elements_left l);
        next = told_frame group.List (header_of response name) (elements_left l');
        below = below;
        was = refl;
        now_is = refl;
        form = refl;
        container = refl;
        depth = refl;
        falls = omega (arith, shorter);
        lower = omega (arith, low);
        hands = (found.0, elements_left l', now, at, refl);
        settles = (λ e. Err e, refl, λ e. refl);
      }

  pub list_closed : length (items_of l.items) ≤ l.place → NextElement (header_reader (header_of response name) below (Some l)) (header_reader (header_of response name) below None) (Ok false)
  list_closed h = record {
    top = told_frame group.List (header_of response name) (elements_left l);
    was = refl;
    held = refl;
    levels = refl;
    none_left = ap (map {B = Slot × Held} (λ x. (at_element, x))) (behind_end (items_of l.items) l.place h);
    not_refused = refl;
  }

-- the headers behind a prefix
module _ (response : Response) (ps : List Prefixed) where
  abbrev map_frame : OpenMap → Frame
  map_frame m = told_frame group.Map (held.prefixed ps) (entries_left response m)

  closed_entry : (m : OpenMap) → m.entry.list ≡ None
      → prefix_at_hand response ps (Some m) ≡ told_reader (Some (header_of response m.entry.name)) (told_frame group.Map (held.prefixed ps) (entries_left response m) ∷ [])
  closed_entry m e = ap (header_reader (header_of response m.entry.name) (told_frame group.Map (held.prefixed ps) (entries_left response m) ∷ [])) e

  module _ (m : OpenMap) (closed : m.entry.list ≡ None) where
    pub entry_advanced : (n : OpenMap) (key : List ℕ) → n.keys ≡ m.keys → n.lower ≡ m.lower → slice_get m.keys m.place ≡ Some key → n.place ≡ m.place + 1
        → n.entry.name ≡ m.lower ++ key → n.entry.list ≡ None → NextEntry (prefix_at_hand response ps (Some m)) (prefix_at_hand response ps (Some n)) (Ok (Some key))
    entry_advanced n key keys lower found place name none =
        let item : List ℕ → Slot × Held = λ k. (at_key k, header_of response (m.lower ++ k)) in
        let rest : entries_left response n ≡ map item (drop (suc m.place) m.keys) =
        ap (λ low. map {B = Slot × Held} (λ k. (at_key k, header_of response (low ++ k))) (drop n.place n.keys)) lower
        ∙ ap (λ ks. map item (drop n.place ks)) keys ∙ ap (λ p. map item (drop p m.keys)) (place ∙ add-one m.place) in
        let now : entries_left response m ≡ item key ∷ entries_left response n =
        ap (map item) (next_of m.keys m.place key found) ∙ ap (λ is. item key ∷ is) (sym rest) in
        let shorter : length (entries_left response m) ≡ suc (length (entries_left response n)) = ap length now in
        subst (λ a. NextEntry a (prefix_at_hand response ps (Some n)) (Ok (Some key))) (sym (closed_entry m closed))
        (subst (λ b. NextEntry (told_reader (Some (header_of response m.entry.name)) (map_frame m ∷ [])) b (Ok (Some key))) (sym (closed_entry n none))
        (record {
          top = map_frame m;
          next = map_frame n;
          below = [];
          was = refl;
          now_is = refl;
          form = refl;
          container = refl;
          depth = refl;
          falls = omega (arith, shorter);
          lower = omega arith;
          hands = (header_of response (m.lower ++ key), entries_left response n, now, ap (λ x. Some (header_of response x)) name, refl);
          settles = (λ e. Err e, refl, λ e. refl);
        }))

    pub map_closed : slice_get m.keys m.place ≡ None → NextEntry (prefix_at_hand response ps (Some m)) (prefix_at_hand response ps None) (Ok None)
    map_closed none =
        subst (λ a. NextEntry a (prefix_at_hand response ps None) (Ok None)) (sym (closed_entry m closed))
        (record {
          top = map_frame m;
          was = refl;
          held = refl;
          levels = refl;
          none_left = ap (map {B = Slot × Held} (λ k. (at_key k, header_of response (m.lower ++ k)))) (drop-none m.keys m.place none);
          not_refused = refl;
        })

-- the headers behind a prefix are opened
module _ (response : Response) (prefix : List ℕ) (node : Schema) where
  listed : (keys : List (List ℕ))
      → map {B = Slot × Held} (λ e. (at_key e.0, e.1)) (map {B = List ℕ × Held} (λ p. (p.key, held.header p.name p.values)) (map (entry_of prefix response.headers) keys))
      ≡ map {B = Slot × Held} (λ key. (at_key key, header_of response (str_to_ascii_lowercase prefix ++ key))) keys
  listed [] = refl
  listed (key ∷ keys) = ap (λ is. (at_key key, header_of response (str_to_ascii_lowercase prefix ++ key)) ∷ is) (listed keys)

  told_entries : (m : OpenMap) → m.keys ≡ keys_behind prefix response.headers → m.lower ≡ str_to_ascii_lowercase prefix → m.place ≡ 0
      → contents group.Map node (held.prefixed (prefixed_in prefix response.headers)) ≡ all_of (entries_left response m)
  unfolding entries
  told_entries m keys lower place =
      ap all_of (listed (keys_behind prefix response.headers)
      ∙ ap (λ ks. map {B = Slot × Held} (λ key. (at_key key, header_of response (str_to_ascii_lowercase prefix ++ key))) ks) (sym keys)
      ∙ ap (λ low. map {B = Slot × Held} (λ key. (at_key key, header_of response (low ++ key))) m.keys) (sym lower)
      ∙ ap (λ p. map {B = Slot × Held} (λ key. (at_key key, header_of response (m.lower ++ key))) (drop p m.keys)) (sym place))

  pub map_opened : (m : OpenMap) → m.keys ≡ keys_behind prefix response.headers → m.lower ≡ str_to_ascii_lowercase prefix → m.place ≡ 0 → m.entry.list ≡ None
      → OpensEntries response (prefixed_in prefix response.headers) group.Map node (Ok m)
  map_opened m keys lower place none =
      let told = told_entries m keys lower place in
      let same : length (contents group.Map node (held.prefixed (prefixed_in prefix response.headers))).items ≡ length (entries_left response m) = ap (λ (x : Listing). length x.items) told in
      record {
        frame = told_frame group.Map (held.prefixed (prefixed_in prefix response.headers)) (entries_left response m);
        now_is = ap (λ (a : AtHand). a.opened) (closed_entry response (prefixed_in prefix response.headers) m none);
        form = refl;
        container = refl;
        depth = refl;
        within = omega (arith, same);
        to_come = ap (λ x. Some x) (sym told);
      }

  pub prefix_no_list : (e : SerdeError) → IsRefusal (opening_refusal kind.List (held.prefixed (prefixed_in prefix response.headers))) e
      → OpensEntries response (prefixed_in prefix response.headers) group.List node (Err e)
  unfolding elements
  prefix_no_list e r = record { opened = refl; levels = refl; refused = refused_listing _ e r }

  pub prefix_no_structure : (e : SerdeError) → IsRefusal (opening_refusal kind.Structure (held.prefixed (prefixed_in prefix response.headers))) e
      → OpensEntries response (prefixed_in prefix response.headers) group.Structure node (Err e)
  unfolding fields
  prefix_no_structure e r = record { opened = refl; levels = refl; refused = refused_listing _ e r }

-- no bound member is the null
module _ (response : Response) where
  header_not_null : (below : List Frame) (name : List ℕ) (list : Option OpenList) → TellsNull (header_reader (header_of response name) below list) false
  header_not_null below name None = refl
  header_not_null below name (Some l) = of_items (λ o. IfSome o (λ h. false ≡ is_null_held h)) tt (λ t. refl) (λ s. refl) l.items (l.place - 1)

  raw_not_null : (body : Option (List ℕ)) → IfSome (option_map held.raw body) (λ h. false ≡ is_null_held h)
  raw_not_null None = tt
  raw_not_null (Some bytes) = refl

  pub not_null : (m : BoundMember) → TellsNull (member_at_hand response m) false
  not_null bound.Nothing = tt
  not_null (bound.Header member h) = header_not_null [] h.name h.list
  not_null (bound.Prefix member prefix None) = refl
  not_null (bound.Prefix member prefix (Some m)) =
      header_not_null (told_frame group.Map (held.prefixed (prefixed_in prefix response.headers)) (entries_left response m) ∷ []) m.entry.name m.entry.list
  not_null bound.Status = refl
  not_null bound.Raw = raw_not_null response.body
  not_null bound.Body = tt

-- the headers behind a prefix at hand, and one of them
pub bound_prefix : (at : BoundMember) (member prefix : List ℕ) (entries : Option OpenMap) (m : OpenMap) → at ≡ bound.Prefix member prefix entries → entries ≡ Some m
    → at ≡ bound.Prefix member prefix (Some m)
bound_prefix at member prefix entries m is open_map = is ∙ ap (bound.Prefix member prefix) open_map

-- what is open around one of them
abbrev pub prefix_below : Response → List ℕ → OpenMap → List Frame
prefix_below response prefix m = told_frame group.Map (held.prefixed (prefixed_in prefix response.headers)) (entries_left response m) ∷ []

-- what can't be opened stays at hand
module _ (response : Response) (node : Schema) (g : Group) (e : SerdeError) where
  pub status_not_opened : IsRefusal (opening_refusal (opened_kind g) (held.status 0)) e
      → NotOpened g node (member_at_hand response bound.Status) (member_at_hand response bound.Status) e
  status_not_opened r = record { opened = refl; levels = refl; refused = not_status node e response.status g r }

  raw_refused : (body : Option (List ℕ)) → IsRefusal (opening_refusal (opened_kind g) (held.raw [])) e → IsRefused (contents_at (option_map held.raw body) g node) e
  raw_refused None r = inr tt
  raw_refused (Some bytes) r = not_raw node e bytes g r

  pub raw_not_opened : IsRefusal (opening_refusal (opened_kind g) (held.raw [])) e
      → NotOpened g node (member_at_hand response bound.Raw) (member_at_hand response bound.Raw) e
  raw_not_opened r = record { opened = refl; levels = refl; refused = raw_refused response.body r }
