-- A name that belongs behind the last of members in byte order.
use Rattle.std.proofs.Common.{◌≡◌, sym, ap, ◌∙◌, ℕ, zero, suc, ◌-◌, arith, List, [], ◌∷◌, length, get_or, Err, true, Ordering, Less, Equal, Greater, nat_cmp, refl}
use Rattle.std.specs.Ordering.{is_gt, ordering_reverse}
use Rattle.std.specs.Cmp.Lexicographic.{slice_cmp}
use Rattle.std.proofs.lemmas.Cmp.{nat_list_cmp_total}
use Rattle.smithy_types.specs.Maps.{IsOrdered}
use Rattle.smithy_json.specs.views.JsonView.{Member, entries}
use Rattle.smithy_json.specs.PutMembers.{further, place_of}
use Rattle.smithy_json.proofs.OrderLemmas.{Entry, Under}
use Rattle.smithy_json.proofs.OrderedPairs.{Ascends, up_ordered}

pub is_greater : (o : Ordering) → is_gt o ≡ true → o ≡ Greater
is_greater Less h = absurd (cc h)
is_greater Equal h = absurd (cc h)
is_greater Greater h = refl

place_under : (name : List ℕ) (es : List Entry) → Under es name → place_of name es ≡ Err (length es)
place_under name [] under = refl
place_under name (e ∷ es) under =
    let above : slice_cmp nat_cmp name e.0 ≡ Greater = nat_list_cmp_total.antisymm name e.0 ∙ ap ordering_reverse under.0 in
    rw above (ap further (place_under name es under.1))

under_last : (name : List ℕ) (ms : List Member) (m : Member) (i : ℕ) → Ascends (entries ms) → length ms ≡ suc i → m ≡ get_or ms i m → slice_cmp nat_cmp m.0.now name ≡ Less → Under (entries ms) name
under_last name [] m i up count is less = tt
under_last name (x ∷ []) m zero up count is less = (ap (λ e. slice_cmp nat_cmp e.0.now name) (sym is) ∙ less, tt)
under_last name (x ∷ []) m (suc i) up count is less = absurd (omega (arith, count))
under_last name (x ∷ y ∷ ms) m zero up count is less = absurd (omega (arith, count))
under_last name (x ∷ y ∷ ms) m (suc i) up count is less =
    let rest = under_last name (y ∷ ms) m i up.1 (omega (arith, count)) is less in (nat_list_cmp_total.trans x.0.now y.0.now name up.0 rest.0, rest)

counted : (ms : List Member) → length (entries ms) ≡ length ms
counted [] = refl
counted (m ∷ ms) = ap suc (counted ms)

pub place_behind_last : (name : List ℕ) (ms : List Member) (m : Member) → IsOrdered (entries ms) → m ≡ get_or ms (length ms - 1) m → slice_cmp nat_cmp m.0.now name ≡ Less → place_of name (entries ms) ≡ Err (length ms)
place_behind_last name [] m ordered is less = refl
place_behind_last name (x ∷ ms) m ordered is less =
    let last : length (x ∷ ms) - 1 ≡ length ms = omega arith in
    place_under name (entries (x ∷ ms)) (under_last name (x ∷ ms) m (length ms) (up_ordered (entries (x ∷ ms)) ordered) refl (is ∙ ap (λ (n : ℕ). get_or (x ∷ ms) n m) last) less)
    ∙ ap (λ (n : ℕ). Err n) (counted (x ∷ ms))
