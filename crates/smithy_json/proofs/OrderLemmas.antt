-- Members put one after another, in byte order of their names.
use Rattle.std.proofs.Common.{◌≡◌, refl, sym, ap, subst, ◌∙◌, ℕ, suc, ◌+◌, ◌<◌, ◌≤◌, arith, List, [], ◌∷◌, ◌++◌, length, get_or, drop, slice_set, insert, Bool, true, false, cond, Option, Some, None, MatchOption, Result, Ok, Err, Bor, bytes_eq, Ordering, Less, Equal, Greater, nat_cmp, is_eq, is_ge, IsTrue}
use Rattle.std.specs.Ordering.{match_ordering}
use Rattle.std.specs.BTreeMap.{insert_entry}
use Rattle.std.specs.Cmp.Lexicographic.{slice_cmp}
use Rattle.std.proofs.lemmas.List.{drop_more}
use Rattle.std.proofs.lemmas.List.Edits.{insert_end}
use Rattle.std.proofs.lemmas.Map.Text.{is_eq-slice_cmp}
use Rattle.std.proofs.Math.ListN.{drop_of_length-le}
use Rattle.serde_json.specs.Data as parsed
use Rattle.serde_json.specs.Data.{Data, Members, put}
use Rattle.serde_json.specs.Find.{get_member}
use Rattle.smithy_types.specs.Maps.{IsOrdered, with_value}
use Rattle.smithy_json.specs.views.JsonView.{Member, members_view, entry_of, entries}
use Rattle.smithy_json.specs.PutMembers.{put_all, further, place_of}
use Rattle.smithy_json.proofs.OrderedPairs.{same_name, Behind, Ascends, put_ascends, all_put, ordered_up, up_ordered, put_as_they_stand as pairs_as_they_stand}

abbrev pub Entry : Type 0
Entry = List ℕ × Data

-- the members that entries are
abbrev pub made : List Entry → Members
made [] = parsed.no_members
made (e ∷ es) = parsed.member e.0 e.1 (made es)

pub made_entries : (ms : List Member) → made (entries ms) ≡ members_view ms
made_entries [] = refl
made_entries (m ∷ ms) = ap (parsed.member m.0.now (entry_of m).1) (made_entries ms)

-- the entries of members
abbrev taken : Members → List Entry
taken parsed.no_members = []
taken (parsed.member k d ms) = (k, d) ∷ taken ms

made_taken : (ms : Members) → made (taken ms) ≡ ms
made_taken parsed.no_members = refl
made_taken (parsed.member k d ms) = ap (parsed.member k d) (made_taken ms)

taken_entries : (ms : List Member) → taken (members_view ms) ≡ entries ms
taken_entries [] = refl
taken_entries (m ∷ ms) = ap (λ es. entry_of m ∷ es) (taken_entries ms)

taken_put : (k : List ℕ) (d : Data) (ms : Members) → taken (put k d ms) ≡ with_value k d (taken ms)
taken_put k d parsed.no_members = refl
taken_put k d (parsed.member l e ms) = go (slice_cmp nat_cmp k l) (taken_put k d ms)
  where
    go : (o : Ordering) → taken (put k d ms) ≡ with_value k d (taken ms)
        → taken (match_ordering o (parsed.member k d (parsed.member l e ms)) (parsed.member l d ms) (parsed.member l e (put k d ms)))
        ≡ match_ordering o ((k, d) ∷ (l, e) ∷ taken ms) ((l, d) ∷ taken ms) ((l, e) ∷ with_value k d (taken ms))
    go Less rest = refl
    go Equal rest = refl
    go Greater rest = ap (λ es. (l, e) ∷ es) rest

taken_all : (es : List Entry) (ms : Members) → taken (put_all es ms) ≡ all_put es (taken ms)
taken_all [] ms = refl
taken_all (e ∷ es) ms = taken_all es (put e.0 e.1 ms) ∙ ap (all_put es) (taken_put e.0 e.1 ms)

-- ---- one more

pub put_more : (es : List Entry) (e : Entry) (ms : Members) → put_all (es ++ e ∷ []) ms ≡ put e.0 e.1 (put_all es ms)
put_more [] e ms = refl
put_more (x ∷ es) e ms = put_more es e (put x.0 x.1 ms)

pub entries_more : (ms : List Member) (m : Member) → entries (ms ++ m ∷ []) ≡ entries ms ++ entry_of m ∷ []
entries_more [] m = refl
entries_more (x ∷ ms) m = ap (λ es. entry_of x ∷ es) (entries_more ms m)

-- each of these names is below one
abbrev pub Under : List Entry → List ℕ → Type 0
Under [] name = Unit {0}
Under (e ∷ es) name = (slice_cmp nat_cmp e.0 name ≡ Less) × Under es name

-- members whose names ascend are put as they stand
pub put_as_they_stand : (ms : List Member) → IsOrdered (entries ms) → put_all (entries ms) parsed.no_members ≡ members_view ms
put_as_they_stand ms ordered =
    sym (made_taken (put_all (entries ms) parsed.no_members))
    ∙ ap made (taken_all (entries ms) parsed.no_members ∙ pairs_as_they_stand (entries ms) (up_ordered (entries ms) ordered)) ∙ made_entries ms

-- ---- a member that is put leaves the order

pub put_ordered : (old new : List Member) (k : List ℕ) (d : Data) → members_view new ≡ put k d (members_view old) → IsOrdered (entries old) → IsOrdered (entries new)
put_ordered old new k d is ordered =
    let same : entries new ≡ with_value k d (entries old) = sym (taken_entries new) ∙ ap taken is ∙ taken_put k d (members_view old) ∙ ap (with_value k d) (taken_entries old) in
    ordered_up (entries new) (subst (λ es. Ascends es) (sym same) (put_ascends k d (entries old) (up_ordered (entries old) ordered)))

-- ---- names before those that are left

up_at_none : (before : Option (Bor (List ℕ))) → MatchOption before (Ascends (entries [])) (λ b. Behind b.now (entries []))
up_at_none None = tt
up_at_none (Some b) = tt

-- behind the last member no name is left
pub up_at_end : (before : Option (Bor (List ℕ))) (ms : List Member) (i : ℕ) → length ms ≤ i → MatchOption before (Ascends (entries (drop i ms))) (λ b. Behind b.now (entries (drop i ms)))
up_at_end before ms i past = subst (λ xs. MatchOption before (Ascends (entries xs)) (λ b. Behind b.now (entries xs))) (sym (drop_of_length-le ms past)) (up_at_none before)

-- a name that isn't above the one before it is out of order
pub out_of_order : (before : Option (Bor (List ℕ))) (name : Bor (List ℕ)) (ms : List Member) (i : ℕ) (m : Member) → before ≡ Some name → i < length ms → m ≡ get_or ms i m → true ≡ is_ge (slice_cmp nat_cmp name.now m.0.now)
    → MatchOption before (Ascends (entries (drop i ms))) (λ b. Behind b.now (entries (drop i ms))) → IsTrue false
out_of_order before name ms i m at within is ge up =
    let behind : Behind name.now (entries (drop i ms)) = subst (λ o. MatchOption o (Ascends (entries (drop i ms))) (λ b. Behind b.now (entries (drop i ms)))) at up in
    let first : Behind name.now (entries (m ∷ drop (i + 1) ms)) = subst (λ xs. Behind name.now (entries xs)) (drop_more ms i m within ∙ ap (λ x. x ∷ drop (i + 1) ms) (sym is)) behind in
    let no : true ≡ false = ge ∙ ap is_ge first.0 in absurd (cc no)

-- ---- members that are put in turn

pub one_fed : (m : Member) (old new : List Member) (before after all : Members) → old ≡ m ∷ new → after ≡ put m.0.now (entry_of m).1 before → put_all (entries old) before ≡ all → put_all (entries new) after ≡ all
one_fed m old new before after all is given h = ap (put_all (entries new)) given ∙ ap (λ ms. put_all (entries ms) before) (sym is) ∙ h

-- ---- the place of a name

-- so many places further on
abbrev pub past : ℕ → Result ℕ ℕ → Result ℕ ℕ
past i (Ok place) = Ok (i + place)
past i (Err place) = Err (i + place)

pub past_none : (r : Result ℕ ℕ) → past 0 r ≡ r
past_none (Ok place) = ap (λ (n : ℕ). Ok n) (omega arith)
past_none (Err place) = ap (λ (n : ℕ). Err n) (omega arith)

past_one : (i : ℕ) (r : Result ℕ ℕ) → past i (further r) ≡ past (i + 1) r
past_one i (Ok place) = ap (λ (n : ℕ). Ok n) (omega arith)
past_one i (Err place) = ap (λ (n : ℕ). Err n) (omega arith)

place_first : (o : Ordering) (name : List ℕ) (e : Entry) (es : List Entry) → slice_cmp nat_cmp name e.0 ≡ o → place_of name (e ∷ es) ≡ match_ordering o (Err 0) (Ok 0) (further (place_of name es))
place_first o name e es is = ap (λ c. match_ordering c (Err 0) (Ok 0) (further (place_of name es))) is

place_at : (o : Ordering) (name : List ℕ) (ms : List Member) (i : ℕ) (m : Member) (all : Result ℕ ℕ) → i < length ms → m ≡ get_or ms i m → o ≡ slice_cmp nat_cmp name m.0.now
    → past i (place_of name (entries (drop i ms))) ≡ all → past i (match_ordering o (Err 0) (Ok 0) (further (place_of name (entries (drop (i + 1) ms))))) ≡ all
place_at o name ms i m all within is found h =
    ap (past i) (sym (place_first o name (entry_of m) (entries (drop (i + 1) ms)) (sym found))) ∙ ap (λ xs. past i (place_of name (entries xs))) (sym (drop_more ms i m within ∙ ap (λ x. x ∷ drop (i + 1) ms) (sym is))) ∙ h

pub place_before : (name : List ℕ) (ms : List Member) (i : ℕ) (m : Member) (all : Result ℕ ℕ) → i < length ms → m ≡ get_or ms i m → Less ≡ slice_cmp nat_cmp name m.0.now
    → past i (place_of name (entries (drop i ms))) ≡ all → Err i ≡ all
place_before name ms i m all within is found h = ap (λ (n : ℕ). Err n) (omega arith) ∙ place_at Less name ms i m all within is found h

pub place_here : (name : List ℕ) (ms : List Member) (i : ℕ) (m : Member) (all : Result ℕ ℕ) → i < length ms → m ≡ get_or ms i m → Equal ≡ slice_cmp nat_cmp name m.0.now
    → past i (place_of name (entries (drop i ms))) ≡ all → Ok i ≡ all
place_here name ms i m all within is found h = ap (λ (n : ℕ). Ok n) (omega arith) ∙ place_at Equal name ms i m all within is found h

pub place_further : (name : List ℕ) (ms : List Member) (i : ℕ) (m : Member) (all : Result ℕ ℕ) → i < length ms → m ≡ get_or ms i m → Greater ≡ slice_cmp nat_cmp name m.0.now
    → past i (place_of name (entries (drop i ms))) ≡ all → past (i + 1) (place_of name (entries (drop (i + 1) ms))) ≡ all
place_further name ms i m all within is found h = sym (past_one i _) ∙ place_at Greater name ms i m all within is found h

pub place_end : (name : List ℕ) (ms : List Member) (i : ℕ) (all : Result ℕ ℕ) → i ≤ length ms → length ms ≤ i → past i (place_of name (entries (drop i ms))) ≡ all → Err (length ms) ≡ all
place_end name ms i all low high h =
    ap (λ (n : ℕ). Err n) (omega (arith, low, high)) ∙ ap (λ xs. past i (place_of name (entries xs))) (sym (drop_of_length-le ms high)) ∙ h

-- ---- a member at its place

found_place : (r : Result ℕ ℕ) (i : ℕ) → further r ≡ Ok i → (j : ℕ) × (i ≡ suc j) × (r ≡ Ok j)
found_place (Ok j) i e = let same : suc j ≡ i = cc e in (j, sym same, refl)
found_place (Err j) i e = absurd (cc e)

missed_place : (r : Result ℕ ℕ) (i : ℕ) → further r ≡ Err i → (j : ℕ) × (i ≡ suc j) × (r ≡ Err j)
missed_place (Ok j) i e = absurd (cc e)
missed_place (Err j) i e = let same : suc j ≡ i = cc e in (j, sym same, refl)

pub put_over : (m : Member) (ms : List Member) (i : ℕ) → place_of m.0.now (entries ms) ≡ Ok i → members_view (slice_set ms i m) ≡ put m.0.now (entry_of m).1 (members_view ms)
put_over m [] i e = absurd (cc e)
put_over m (x ∷ ms) i e = go (slice_cmp nat_cmp m.0.now x.0.now) refl e (λ j h. put_over m ms j h)
  where
    go : (o : Ordering) → slice_cmp nat_cmp m.0.now x.0.now ≡ o → match_ordering o (Err 0) (Ok 0) (further (place_of m.0.now (entries ms))) ≡ Ok i
        → ((j : ℕ) → place_of m.0.now (entries ms) ≡ Ok j → members_view (slice_set ms j m) ≡ put m.0.now (entry_of m).1 (members_view ms))
        → members_view (slice_set (x ∷ ms) i m)
        ≡ match_ordering o (parsed.member m.0.now (entry_of m).1 (members_view (x ∷ ms))) (parsed.member x.0.now (entry_of m).1 (members_view ms)) (parsed.member x.0.now (entry_of x).1 (put m.0.now (entry_of m).1 (members_view ms)))
    go Less is h rest = absurd (cc h)
    go Equal is h rest =
        let first : 0 ≡ i = cc h in
        ap (λ n. members_view (slice_set (x ∷ ms) n m)) (sym first) ∙ ap (λ name. parsed.member name (entry_of m).1 (members_view ms)) (same_name m.0.now x.0.now is)
    go Greater is h rest =
        let f = found_place (place_of m.0.now (entries ms)) i h in
        ap (λ n. members_view (slice_set (x ∷ ms) n m)) f.1 ∙ ap (parsed.member x.0.now (entry_of x).1) (rest f.0 f.2)

pub put_between : (m : Member) (ms : List Member) (i : ℕ) → place_of m.0.now (entries ms) ≡ Err i → members_view (insert ms i m) ≡ put m.0.now (entry_of m).1 (members_view ms)
put_between m [] i e = let first : 0 ≡ i = cc e in ap (λ n. members_view (insert [] n m)) (sym first)
put_between m (x ∷ ms) i e = go (slice_cmp nat_cmp m.0.now x.0.now) refl e (λ j h. put_between m ms j h)
  where
    go : (o : Ordering) → slice_cmp nat_cmp m.0.now x.0.now ≡ o → match_ordering o (Err 0) (Ok 0) (further (place_of m.0.now (entries ms))) ≡ Err i
        → ((j : ℕ) → place_of m.0.now (entries ms) ≡ Err j → members_view (insert ms j m) ≡ put m.0.now (entry_of m).1 (members_view ms))
        → members_view (insert (x ∷ ms) i m)
        ≡ match_ordering o (parsed.member m.0.now (entry_of m).1 (members_view (x ∷ ms))) (parsed.member x.0.now (entry_of m).1 (members_view ms)) (parsed.member x.0.now (entry_of x).1 (put m.0.now (entry_of m).1 (members_view ms)))
    go Less is h rest = let first : 0 ≡ i = cc h in ap (λ n. members_view (insert (x ∷ ms) n m)) (sym first)
    go Equal is h rest = absurd (cc h)
    go Greater is h rest =
        let f = missed_place (place_of m.0.now (entries ms)) i h in
        ap (λ n. members_view (insert (x ∷ ms) n m)) f.1 ∙ ap (parsed.member x.0.now (entry_of x).1) (rest f.0 f.2)

-- a member that belongs behind the others leaves the order
pub pushed_in_order : (ms : List Member) (m : Member) → IsOrdered (entries ms) → place_of m.0.now (entries ms) ≡ Err (length ms) → IsOrdered (entries (ms ++ m ∷ []))
pushed_in_order ms m ordered last =
    put_ordered ms (ms ++ m ∷ []) m.0.now (entry_of m).1 (ap members_view (sym (insert_end ms m)) ∙ put_between m ms (length ms) last) ordered

pub place_within : (name : List ℕ) (ms : List Member) (i : ℕ) → place_of name (entries ms) ≡ Ok i → i < length ms
place_within name [] i e = absurd (cc e)
place_within name (x ∷ ms) i e = go (slice_cmp nat_cmp name x.0.now) e (λ j h. place_within name ms j h)
  where
    go : (o : Ordering) → match_ordering o (Err 0) (Ok 0) (further (place_of name (entries ms))) ≡ Ok i → ((j : ℕ) → place_of name (entries ms) ≡ Ok j → j < length ms) → i < suc (length ms)
    go Less h rest = absurd (cc h)
    go Equal h rest = let first : 0 ≡ i = cc h in omega (arith, first)
    go Greater h rest = let f = found_place (place_of name (entries ms)) i h in let less = rest f.0 f.2 in omega (arith, less, f.1)

pub place_by_end : (name : List ℕ) (ms : List Member) (i : ℕ) → place_of name (entries ms) ≡ Err i → i ≤ length ms
place_by_end name [] i e = let first : 0 ≡ i = cc e in omega (arith, first)
place_by_end name (x ∷ ms) i e = go (slice_cmp nat_cmp name x.0.now) e (λ j h. place_by_end name ms j h)
  where
    go : (o : Ordering) → match_ordering o (Err 0) (Ok 0) (further (place_of name (entries ms))) ≡ Err i → ((j : ℕ) → place_of name (entries ms) ≡ Err j → j ≤ length ms) → i ≤ suc (length ms)
    go Less h rest = let first : 0 ≡ i = cc h in omega (arith, first)
    go Equal h rest = absurd (cc h)
    go Greater h rest = let f = missed_place (place_of name (entries ms)) i h in let less = rest f.0 f.2 in omega (arith, less, f.1)

-- ---- a map of members

abbrev name_cmp : Bor (List ℕ) → Bor (List ℕ) → Ordering
name_cmp a b = slice_cmp nat_cmp a.now b.now

seen_at : (o : Ordering) (a b c : List Member) → members_view (match_ordering o a b c) ≡ match_ordering o (members_view a) (members_view b) (members_view c)
seen_at Less a b c = refl
seen_at Equal a b c = refl
seen_at Greater a b c = refl

pub entry_put : (es : List Member) (m : Member) → members_view (insert_entry name_cmp es m.0 m.1) ≡ put m.0.now (entry_of m).1 (members_view es)
entry_put [] m = refl
entry_put (e ∷ es) m = seen_at (name_cmp m.0 e.0) _ _ _ ∙ rw (entry_put es m) refl

-- ---- what stands under a name

pub named_start : (name : List ℕ) (ms : List Member) → get_member name (members_view (drop 0 ms)) ≡ get_member name (members_view ms)
named_start name ms = refl

chosen : (o : Ordering) (b : Bool) (x y : Option Data) → is_eq o ≡ b → match_ordering o x y x ≡ cond b y x
chosen Less b x y e = ap (λ t. cond t y x) e
chosen Equal b x y e = ap (λ t. cond t y x) e
chosen Greater b x y e = ap (λ t. cond t y x) e

named_at : (b : Bool) (name : List ℕ) (ms : List Member) (i : ℕ) (m : Member) (all : Option Data) → i < length ms → m ≡ get_or ms i m → b ≡ bytes_eq name m.0.now
    → get_member name (members_view (drop i ms)) ≡ all → cond b (Some (entry_of m).1) (get_member name (members_view (drop (i + 1) ms))) ≡ all
named_at b name ms i m all within is same h =
    sym (chosen (slice_cmp nat_cmp name m.0.now) b _ _ (is_eq-slice_cmp name m.0.now ∙ sym same))
    ∙ ap (λ xs. get_member name (members_view xs)) (sym (drop_more ms i m within ∙ ap (λ x. x ∷ drop (i + 1) ms) (sym is))) ∙ h

pub named_here : (name : List ℕ) (ms : List Member) (i : ℕ) (m : Member) (all : Option Data) → i < length ms → m ≡ get_or ms i m → true ≡ bytes_eq name m.0.now → get_member name (members_view (drop i ms)) ≡ all → Some (entry_of m).1 ≡ all
named_here name ms i m all within is same h = named_at true name ms i m all within is same h

pub named_later : (name : List ℕ) (ms : List Member) (i : ℕ) (m : Member) (all : Option Data) → i < length ms → m ≡ get_or ms i m → false ≡ bytes_eq name m.0.now → get_member name (members_view (drop i ms)) ≡ all
    → get_member name (members_view (drop (i + 1) ms)) ≡ all
named_later name ms i m all within is same h = named_at false name ms i m all within is same h

pub named_nowhere : (name : List ℕ) (ms : List Member) (i : ℕ) (all : Option Data) → length ms ≤ i → get_member name (members_view (drop i ms)) ≡ all → None ≡ all
named_nowhere name ms i all past h = ap (λ xs. get_member name (members_view xs)) (sym (drop_of_length-le ms past)) ∙ h
