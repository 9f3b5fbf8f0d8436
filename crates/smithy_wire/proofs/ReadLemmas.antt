-- Documents of JSON values, an item or a member at a time.
use Rattle.smithy_wire.proofs.Common.{◌≡◌, refl, sym, ap, ◌∙◌, subst, ℕ, zero, suc, ◌+◌, ◌<◌, ◌≤◌, arith, List, [], ◌∷◌, length, drop, Result, Ok, Err}
use Rattle.std.proofs.Common.{get_or}
use Rattle.std.proofs.lemmas.List.{drop_more}
use Rattle.std.proofs.Math.ListN.{drop_of_length-le}
use Rattle.std.specs.Borrow.{Bor}
use Rattle.std.specs.declared.alloc.Global.{Global}
use Rattle.json.specs.Tree.{depth, items_depth, members_depth}
use Rattle.json.specs.Value.{value_view, items_view, members_view}
use Rattle.json.specs.declared.value.Value.{Value}
use Rattle.smithy_json.proofs.DocumentLemmas.{and_items}
use Rattle.smithy_types.specs.Documents as doc
use Rattle.smithy_types.specs.Documents.{Document, Items, Members, items_snoc, put, put_all, members_of}
use Rattle.smithy_types.specs.Results.{then_give, then_try}
use Rattle.smithy_wire.specs.declared.unread.Unread.{Unread}
use Rattle.smithy_wire.specs.declared.wire_style.WireStyle.{WireStyle}
use Rattle.std.specs.Prelude.{IsErrAnd}
use Rattle.smithy_types.specs.DocumentView.{view, items_view as documents_view, members_view as fields_view}
use Rattle.smithy_types.specs.declared.document.Document as code
use Rattle.smithy_types.specs.declared.document.Documents.{Documents}
use Rattle.smithy_types.specs.declared.document.Members.{Members as CodeMembers}
use Rattle.smithy_wire.specs.declared.unread.ReadError.{ReadError}
use Rattle.smithy_wire.specs.declared.unread.ReadError.TheVariants as error
use Rattle.smithy_wire.specs.views.WireReads.{Reads}
use Rattle.smithy_wire.specs.Forms.{Form, name_in, part_form}
use Rattle.smithy_wire.specs.Unwire.{within, item_step, part_step, unwire, unwire_items, unwire_pairs}

abbrev pub Values : Type 0
Values = List (Value Global)

abbrev pub Fields : Type 0
Fields = List (Bor (List ℕ) × Value Global)

and_none : (ds : Items) → and_items ds doc.no_items ≡ ds
and_none doc.no_items = refl
and_none (doc.item d ds) = ap (doc.item d) (and_none ds)

and_snoc : (ds : Items) (d : Document) (es : Items) → and_items (items_snoc ds d) es ≡ and_items ds (doc.item d es)
and_snoc doc.no_items d es = refl
and_snoc (doc.item x ds) d es = ap (doc.item x) (and_snoc ds d es)

-- ---- items

and_all : (found : Items) (d : Document) (r : Result Items Unread) → then_give (then_give r (doc.item d)) (and_items found) ≡ then_give r (and_items (items_snoc found d))
and_all found d (Ok es) = ap (λ (x : Items). Ok x) (sym (and_snoc found d es))
and_all found d (Err u) = refl

pub items_begin : (n : WireStyle) (f : Form) (vs : Values) → then_give (unwire_items n f 0 (items_view vs)) (and_items doc.no_items) ≡ unwire_items n f 0 (items_view vs)
items_begin n f vs = go (unwire_items n f 0 (items_view vs))
  where
    go : (r : Result Items Unread) → then_give r (and_items doc.no_items) ≡ r
    go (Ok ds) = refl
    go (Err u) = refl

items_here : (n : WireStyle) (f : Form) (i : ℕ) (vs : Values) (v : Value Global) → i < length vs → v ≡ get_or vs i v
    → unwire_items n f i (items_view (drop i vs)) ≡ then_try (within (item_step i) (unwire n f (value_view v))) λ d. then_give (unwire_items n f (suc i) (items_view (drop (i + 1) vs))) (doc.item d)
items_here n f i vs v within is = ap (λ ws. unwire_items n f i (items_view ws)) (drop_more vs i v within ∙ ap (λ w. w ∷ drop (i + 1) vs) (sym is))

pub items_more : (n : WireStyle) (f : Form) (i : ℕ) (vs : Values) (v : Value Global) (found : Items) (d : Document) (all : Result Items Unread) → i < length vs → v ≡ get_or vs i v
    → within (item_step i) (unwire n f (value_view v)) ≡ Ok d → then_give (unwire_items n f i (items_view (drop i vs))) (and_items found) ≡ all
    → then_give (unwire_items n f (i + 1) (items_view (drop (i + 1) vs))) (and_items (items_snoc found d)) ≡ all
items_more n f i vs v found d all within is one h =
    let next : i + 1 ≡ suc i = omega arith in
    ap (λ k. then_give (unwire_items n f k (items_view (drop (i + 1) vs))) (and_items (items_snoc found d))) next
    ∙ sym (and_all found d (unwire_items n f (suc i) (items_view (drop (i + 1) vs))))
    ∙ ap (λ r. then_give (then_try r λ x. then_give (unwire_items n f (suc i) (items_view (drop (i + 1) vs))) (doc.item x)) (and_items found)) (sym one)
    ∙ ap (λ r. then_give r (and_items found)) (sym (items_here n f i vs v within is)) ∙ h

pub items_fail : (n : WireStyle) (f : Form) (i : ℕ) (vs : Values) (v : Value Global) (found : Items) (u : Unread) (all : Result Items Unread) → i < length vs → v ≡ get_or vs i v
    → within (item_step i) (unwire n f (value_view v)) ≡ Err u → then_give (unwire_items n f i (items_view (drop i vs))) (and_items found) ≡ all → all ≡ Err u
items_fail n f i vs v found u all within is one h =
    sym h ∙ ap (λ r. then_give r (and_items found)) (items_here n f i vs v within is ∙ ap (λ r. then_try r λ x. then_give (unwire_items n f (suc i) (items_view (drop (i + 1) vs))) (doc.item x)) one)

pub items_end : (n : WireStyle) (f : Form) (i : ℕ) (vs : Values) (found : Items) (all : Result Items Unread) → length vs ≤ i
    → then_give (unwire_items n f i (items_view (drop i vs))) (and_items found) ≡ all → all ≡ Ok found
items_end n f i vs found all past h =
    sym h ∙ ap (λ ws. then_give (unwire_items n f i (items_view ws)) (and_items found)) (drop_of_length-le vs past) ∙ ap (λ (x : Items). Ok x) (and_none found)

pub item_depth : (vs : Values) (i : ℕ) (v : Value Global) → i < length vs → v ≡ get_or vs i v → depth (value_view v) ≤ items_depth (items_view vs)
item_depth [] i v within is = absurd (omega (arith, within))
item_depth (w ∷ vs) zero v within is = let same : depth (value_view v) ≡ depth (value_view w) = ap (λ x. depth (value_view x)) is in omega (arith, same)
item_depth (w ∷ vs) (suc i) v within is = let inside : depth (value_view v) ≤ items_depth (items_view vs) = item_depth vs i v (omega (arith, within)) is in omega (arith, inside)

-- ---- members

put_on : (found : Members) (k : List ℕ) (d : Document) (r : Result (List (List ℕ × Document)) Unread)
    → then_give (then_give r (λ ps. (k, d) ∷ ps)) (λ ps. put_all ps found) ≡ then_give r (λ ps. put_all ps (put k d found))
put_on found k d (Ok ps) = refl
put_on found k d (Err u) = refl

abbrev pub rest_of : WireStyle → Form → ℕ → Fields → Result (List (List ℕ × Document)) Unread
rest_of n f i ms = unwire_pairs n f (members_view (drop i ms))

abbrev pub one_of : WireStyle → Form → (Bor (List ℕ) × Value Global) → Result Document Unread
one_of n f m = within (part_step f (name_in n.json_names f m.0.now)) (unwire n (part_form f (name_in n.json_names f m.0.now)) (value_view m.1))

members_here : (n : WireStyle) (f : Form) (i : ℕ) (ms : Fields) (m : Bor (List ℕ) × Value Global) → i < length ms → m ≡ get_or ms i m
    → rest_of n f i ms ≡ then_try (one_of n f m) λ d. then_give (rest_of n f (i + 1) ms) (λ ps. (name_in n.json_names f m.0.now, d) ∷ ps)
members_here n f i ms m within is = ap (λ ws. unwire_pairs n f (members_view ws)) (drop_more ms i m within ∙ ap (λ w. w ∷ drop (i + 1) ms) (sym is))

pub members_more : (n : WireStyle) (f : Form) (i : ℕ) (ms : Fields) (m : Bor (List ℕ) × Value Global) (found : Members) (d : Document) (all : Result Members Unread) → i < length ms → m ≡ get_or ms i m
    → within (part_step f (name_in n.json_names f m.0.now)) (unwire n (part_form f (name_in n.json_names f m.0.now)) (value_view m.1)) ≡ Ok d
    → then_give (unwire_pairs n f (members_view (drop i ms))) (λ ps. put_all ps found) ≡ all
    → then_give (unwire_pairs n f (members_view (drop (i + 1) ms))) (λ ps. put_all ps (put (name_in n.json_names f m.0.now) d found)) ≡ all
members_more n f i ms m found d all within is one h =
    sym (put_on found (name_in n.json_names f m.0.now) d (rest_of n f (i + 1) ms))
    ∙ ap (λ r. then_give (then_try r λ x. then_give (rest_of n f (i + 1) ms) (λ ps. (name_in n.json_names f m.0.now, x) ∷ ps)) (λ ps. put_all ps found)) (sym one)
    ∙ ap (λ r. then_give r (λ ps. put_all ps found)) (sym (members_here n f i ms m within is)) ∙ h

pub members_fail : (n : WireStyle) (f : Form) (i : ℕ) (ms : Fields) (m : Bor (List ℕ) × Value Global) (found : Members) (u : Unread) (all : Result Members Unread) → i < length ms → m ≡ get_or ms i m
    → within (part_step f (name_in n.json_names f m.0.now)) (unwire n (part_form f (name_in n.json_names f m.0.now)) (value_view m.1)) ≡ Err u
    → then_give (unwire_pairs n f (members_view (drop i ms))) (λ ps. put_all ps found) ≡ all → all ≡ Err u
members_fail n f i ms m found u all within is one h =
    sym h ∙ ap (λ r. then_give r (λ ps. put_all ps found)) (members_here n f i ms m within is ∙ ap (λ r. then_try r λ x. then_give (rest_of n f (i + 1) ms) (λ ps. (name_in n.json_names f m.0.now, x) ∷ ps)) one)

pub members_end : (n : WireStyle) (f : Form) (i : ℕ) (ms : Fields) (found : Members) (all : Result Members Unread) → length ms ≤ i
    → then_give (unwire_pairs n f (members_view (drop i ms))) (λ ps. put_all ps found) ≡ all → all ≡ Ok found
members_end n f i ms found all past h = sym h ∙ ap (λ ws. then_give (unwire_pairs n f (members_view ws)) (λ ps. put_all ps found)) (drop_of_length-le ms past)

pub member_depth : (ms : Fields) (i : ℕ) (m : Bor (List ℕ) × Value Global) → i < length ms → m ≡ get_or ms i m → depth (value_view m.1) ≤ members_depth (members_view ms)
member_depth [] i m within is = absurd (omega (arith, within))
member_depth (w ∷ ms) zero m within is = let same : depth (value_view m.1) ≡ depth (value_view w.1) = ap (λ x. depth (value_view x.1)) is in omega (arith, same)
member_depth (w ∷ ms) (suc i) m within is = let inside : depth (value_view m.1) ≤ members_depth (members_view ms) = member_depth ms i m (omega (arith, within)) is in omega (arith, inside)

-- ---- refusals

-- what one part can't be read as, is what the whole can't
pub refused_item : (n : WireStyle) (f : Form) (i : ℕ) (vs : Values) (v : Value Global) (found : Items) (e : ReadError) (r : Result Documents ReadError) → IsErrAnd r (λ y. y ≡ e) → i < length vs → v ≡ get_or vs i v
    → Reads view (within (item_step i) (unwire n f (value_view v))) (Err e) → then_give (unwire_items n f i (items_view (drop i vs))) (and_items found) ≡ unwire_items n f 0 (items_view vs)
    → Reads documents_view (unwire_items n f 0 (items_view vs)) r
refused_item n f i vs v found e (Ok ds) same inside is one h = absurd same
refused_item n f i vs v found e (Err y) same inside is one h = go y (subst (λ x. Reads view (within (item_step i) (unwire n f (value_view v))) (Err x)) (sym same) one)
  where
    go : (y : ReadError) → Reads view (within (item_step i) (unwire n f (value_view v))) (Err y) → Reads documents_view (unwire_items n f 0 (items_view vs)) (Err y)
    go (error.Unread u) told = items_fail n f i vs v found u (unwire_items n f 0 (items_view vs)) inside is told h
    go error.OutOfMemory told = tt

pub refused_member : (n : WireStyle) (f : Form) (i : ℕ) (ms : Fields) (m : Bor (List ℕ) × Value Global) (found : Members) (e : ReadError) (r : Result CodeMembers ReadError) → IsErrAnd r (λ y. y ≡ e) → i < length ms → m ≡ get_or ms i m
    → Reads view (one_of n f m) (Err e) → then_give (unwire_pairs n f (members_view (drop i ms))) (λ ps. put_all ps found) ≡ then_give (unwire_pairs n f (members_view ms)) members_of
    → Reads fields_view (then_give (unwire_pairs n f (members_view ms)) members_of) r
refused_member n f i ms m found e (Ok d) same inside is one h = absurd same
refused_member n f i ms m found e (Err y) same inside is one h = go y (subst (λ x. Reads view (one_of n f m) (Err x)) (sym same) one)
  where
    go : (y : ReadError) → Reads view (one_of n f m) (Err y) → Reads fields_view (then_give (unwire_pairs n f (members_view ms)) members_of) (Err y)
    go (error.Unread u) told = members_fail n f i ms m found u (then_give (unwire_pairs n f (members_view ms)) members_of) inside is told h
    go error.OutOfMemory told = tt

-- a part that was read by the name, the form and the step that were found
pub part_read : (n : WireStyle) (f : Form) (m : Bor (List ℕ) × Value Global) (name : List ℕ) (o : WireStyle) (g : Form) (step : List ℕ) (r : Result code.Document ReadError)
    → name ≡ name_in n.json_names f m.0.now → o ≡ n → g ≡ part_form f (name_in n.json_names f m.0.now) → step ≡ part_step f name
    → Reads view (within step (unwire o g (value_view m.1))) r → Reads view (one_of n f m) r
part_read n f m name o g step r named kept formed stepped h =
    let own = name_in n.json_names f m.0.now in
    subst (λ k. Reads view (within (part_step f k) (unwire n (part_form f own) (value_view m.1))) r) named
    (subst (λ x. Reads view (within x (unwire n (part_form f own) (value_view m.1))) r) stepped
    (subst (λ x. Reads view (within step (unwire n x (value_view m.1))) r) formed
    (subst (λ x. Reads view (within step (unwire x g (value_view m.1))) r) kept h)))
