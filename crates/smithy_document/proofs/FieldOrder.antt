-- The values of a structure by their names, in index order, are the values of its members in turn.
use Rattle.std.proofs.Common.{unwrap_or}
use Rattle.smithy_document.proofs.Common.{◌≡◌, refl, sym, ap, ap₂, ◌∙◌, ℕ, suc, ◌≤◌, ◌<◌, arith, lt-ltb, le-ltb, Bool, true, false, cond, not, List, [], ◌∷◌, map, find, filter_map, Option, Some, None, option_map, option_and_then, is_some, AllByRecursion, cons_option, option_map_or, and_parts, or_parts, not-true, same_text, is_one_of, are_distinct, Schema, Value, Write, label_of, field_of, is_named, no_label, write_by, same_self, looked, all_put, look_ordered, Ascends, absent, up_tail}
use Rattle.std.specs.Cmp.Lexicographic.{same_text as same_from_test}
use Rattle.smithy_serde.specs.IndexOrder.{put_by, position_of, in_order}

abbrev pub Named : Type 0
Named = List ℕ × Value

-- ---- members in turn

-- the members stand at these positions, one after another
abbrev pub StandFrom : ℕ → List Schema → Type 0
StandFrom i [] = Unit {0}
StandFrom i (m ∷ ms) = (m.node.member_index ≡ Some i) × StandFrom (suc i) ms

abbrev pub names_of : List Schema → List (List ℕ)
names_of ms = filter_map (λ m. m.node.member_name) ms

-- the value under the member's name
abbrev value_under : List Named → Option (List ℕ) → Option Value
value_under es name = option_and_then (λ n. looked n es) name

-- the write of a member, if a value has its name
abbrev pub looked_field : List Named → Schema → Option Write
looked_field es m = option_map (write_by m) (value_under es m.node.member_name)

-- the write of a value by the member of its name
abbrev pub field_write : List Schema → Named → Write
field_write ms e = record { label = option_map_or label_of (find (is_named (Some e.0)) ms) no_label; value = e.1 }

-- a write goes before those of members behind its own
put_front : (w : Write) (i : ℕ) (es : List Named) (ms : List Schema) → position_of w ≤ i → StandFrom i ms
    → put_by position_of w (filter_map (looked_field es) ms) ≡ w ∷ filter_map (looked_field es) ms
put_front w i es [] le stand = refl
put_front w i es (m ∷ ms) le stand = go (value_under es m.node.member_name) (put_front w (suc i) es ms (omega (arith, le)) stand.1)
  where
    go : (x : Option Value) → put_by position_of w (filter_map (looked_field es) ms) ≡ w ∷ filter_map (looked_field es) ms
        → put_by position_of w (cons_option (option_map (write_by m) x) (filter_map (looked_field es) ms)) ≡ w ∷ cons_option (option_map (write_by m) x) (filter_map (looked_field es) ms)
    go None rest = rest
    go (Some v) rest =
        let here : unwrap_or m.node.member_index 0 ≡ i = ap (λ o. unwrap_or o 0) stand.0 in
        rw (le-ltb (unwrap_or m.node.member_index 0) (position_of w) (omega (arith, le, here))) refl

-- the member of a name stands behind the start
found_behind : (i : ℕ) (name : List ℕ) (m : Schema) (ms : List Schema) → StandFrom i ms → find (is_named (Some name)) ms ≡ Some m → i ≤ unwrap_or m.node.member_index 0
found_behind i name m [] stand e = absurd (cc e)
found_behind i name m (x ∷ xs) stand e = go (is_named (Some name) x) e (λ later. found_behind (suc i) name m xs stand.1 later)
  where
    go : (t : Bool) → cond t (Some x) (find (is_named (Some name)) xs) ≡ Some m → (find (is_named (Some name)) xs ≡ Some m → suc i ≤ unwrap_or m.node.member_index 0) → i ≤ unwrap_or m.node.member_index 0
    go true is rest =
        let same : x ≡ m = cc is in
        let here : unwrap_or m.node.member_index 0 ≡ i = ap (λ (s : Schema). unwrap_or s.node.member_index 0) (sym same) ∙ ap (λ o. unwrap_or o 0) stand.0 in
        omega (arith, here)
    go false is rest = let less : suc i ≤ unwrap_or m.node.member_index 0 = rest is in omega (arith, less)

-- a member of another name has the value that it had
under_other : (name : List ℕ) (v : Value) (es : List Named) (o : Option (List ℕ)) → option_map_or (same_text name) o false ≡ false → value_under ((name, v) ∷ es) o ≡ value_under es o
under_other name v es None other = refl
under_other name v es (Some n) other = ap (λ t. cond t (Some v) (looked n es)) other

none_named : (name : List ℕ) (o : Option (List ℕ)) (names : List (List ℕ)) → is_one_of name (cons_option o names) ≡ false
    → (option_map_or (same_text name) o false ≡ false) × (is_one_of name names ≡ false)
none_named name None names e = (refl, e)
none_named name (Some n) names e = or_parts (same_text name n) (is_one_of name names) e

others : (name : List ℕ) (v : Value) (es : List Named) (ms : List Schema) → is_one_of name (names_of ms) ≡ false
    → filter_map (looked_field ((name, v) ∷ es)) ms ≡ filter_map (looked_field es) ms
others name v es [] e = refl
others name v es (m ∷ ms) e =
    let parts = none_named name m.node.member_name (names_of ms) e in
    ap₂ (λ x ws. cons_option (option_map (write_by m) x) ws) (under_other name v es m.node.member_name parts.0) (others name v es ms parts.1)

is_name : (name : List ℕ) (o : Option (List ℕ)) → option_map_or (same_text name) o false ≡ true → o ≡ Some name
is_name name None e = absurd (cc e)
is_name name (Some n) e = ap Some (sym (same_from_test name n (sym e)))

distinct_tail : (o : Option (List ℕ)) (names : List (List ℕ)) → are_distinct (cons_option o names) ≡ true → are_distinct names ≡ true
distinct_tail None names e = e
distinct_tail (Some n) names e = (and_parts (not (is_one_of n names)) (are_distinct names) e).1

-- the write of one more name, put at its place
put_field : (i : ℕ) (name : List ℕ) (v : Value) (es : List Named) (m : Schema) (ms : List Schema) → StandFrom i ms → are_distinct (names_of ms) ≡ true
    → looked name es ≡ None → find (is_named (Some name)) ms ≡ Some m
    → put_by position_of (write_by m v) (filter_map (looked_field es) ms) ≡ filter_map (looked_field ((name, v) ∷ es)) ms
put_field i name v es m [] stand distinct fresh e = absurd (cc e)
put_field i name v es m (x ∷ xs) stand distinct fresh e =
    go (is_named (Some name) x) refl e (λ later. put_field (suc i) name v es m xs stand.1 (distinct_tail x.node.member_name (names_of xs) distinct) fresh later)
  where
    here : x.node.member_name ≡ Some name → x ≡ m → put_by position_of (write_by m v) (filter_map (looked_field es) (x ∷ xs)) ≡ filter_map (looked_field ((name, v) ∷ es)) (x ∷ xs)
    here named same =
        let apart_names = and_parts (not (is_one_of name (names_of xs))) (are_distinct (names_of xs)) (ap (λ o. are_distinct (cons_option o (names_of xs))) (sym named) ∙ distinct) in
        let low : position_of (write_by m v) ≡ i = ap (λ (s : Schema). unwrap_or s.node.member_index 0) (sym same) ∙ ap (λ o. unwrap_or o 0) stand.0 in
        ap (λ o. put_by position_of (write_by m v) (cons_option (option_map (write_by x) (value_under es o)) (filter_map (looked_field es) xs))) named
        ∙ ap (λ o. put_by position_of (write_by m v) (cons_option (option_map (write_by x) o) (filter_map (looked_field es) xs))) fresh
        ∙ put_front (write_by m v) (suc i) es xs (omega (arith, low)) stand.1
        ∙ ap₂ (λ s ws. write_by s v ∷ ws) (sym same) (sym (others name v es xs (not-true (is_one_of name (names_of xs)) apart_names.0)))
        ∙ ap (λ t. cons_option (option_map (write_by x) (cond t (Some v) (looked name es))) (filter_map (looked_field ((name, v) ∷ es)) xs)) (sym (same_self name))
        ∙ ap (λ o. cons_option (option_map (write_by x) (value_under ((name, v) ∷ es) o)) (filter_map (looked_field ((name, v) ∷ es)) xs)) (sym named)

    past : (y : Option Value) → i < position_of (write_by m v) → put_by position_of (write_by m v) (filter_map (looked_field es) xs) ≡ filter_map (looked_field ((name, v) ∷ es)) xs
        → put_by position_of (write_by m v) (cons_option (option_map (write_by x) y) (filter_map (looked_field es) xs)) ≡ cons_option (option_map (write_by x) y) (filter_map (looked_field ((name, v) ∷ es)) xs)
    past None less rest = rest
    past (Some u) less rest =
        let low : unwrap_or x.node.member_index 0 ≡ i = ap (λ o. unwrap_or o 0) stand.0 in
        rw (lt-ltb (unwrap_or x.node.member_index 0) (position_of (write_by m v)) (omega (arith, less, low))) (ap (λ ws. write_by x u ∷ ws) rest)

    go : (t : Bool) → is_named (Some name) x ≡ t → cond t (Some x) (find (is_named (Some name)) xs) ≡ Some m
        → (find (is_named (Some name)) xs ≡ Some m → put_by position_of (write_by m v) (filter_map (looked_field es) xs) ≡ filter_map (looked_field ((name, v) ∷ es)) xs)
        → put_by position_of (write_by m v) (filter_map (looked_field es) (x ∷ xs)) ≡ filter_map (looked_field ((name, v) ∷ es)) (x ∷ xs)
    go true is found rest = here (is_name name x.node.member_name is) (cc found)
    go false is found rest =
        past (value_under es x.node.member_name) (found_behind (suc i) name m xs stand.1 found) (rest found)
        ∙ ap (λ y. cons_option (option_map (write_by x) y) (filter_map (looked_field ((name, v) ∷ es)) xs)) (sym (under_other name v es x.node.member_name is))

nothing_looked : (ms : List Schema) → [] ≡ filter_map (looked_field []) ms
nothing_looked [] = refl
nothing_looked (m ∷ ms) = nothing_looked ms ∙ go m.node.member_name
  where
    go : (o : Option (List ℕ)) → filter_map (looked_field []) ms ≡ cons_option (option_map (write_by m) (value_under [] o)) (filter_map (looked_field []) ms)
    go None = refl
    go (Some n) = refl

pub fields_in_order : (ms : List Schema) (es : List Named) → StandFrom 0 ms → are_distinct (names_of ms) ≡ true → Ascends es
    → AllByRecursion (λ e. is_some (find (is_named (Some e.0)) ms) ≡ true) es → in_order (map (field_write ms) es) ≡ filter_map (looked_field es) ms
fields_in_order ms [] stand distinct up named = nothing_looked ms
fields_in_order ms (e ∷ es) stand distinct up named =
    ap (put_by position_of (field_write ms e)) (fields_in_order ms es stand distinct (up_tail e.0 es up) named.1)
    ∙ go (find (is_named (Some e.0)) ms) refl named.0
  where
    go : (o : Option Schema) → find (is_named (Some e.0)) ms ≡ o → is_some o ≡ true
        → put_by position_of (record { label = option_map_or label_of o no_label; value = e.1 }) (filter_map (looked_field es) ms) ≡ filter_map (looked_field (e ∷ es)) ms
    go None is there = absurd (cc there)
    go (Some m) is there = put_field 0 e.0 e.1 es m ms stand distinct (absent e.0 es up) is

-- the values of a structure in the order of their names are the last ones
pub last_in_order : (fs : List Named) (ms : List Schema) → filter_map (looked_field (all_put fs [])) ms ≡ filter_map (field_of fs) ms
last_in_order fs ms i = filter_map (λ m. option_map (write_by m) (option_and_then (λ name. look_ordered name fs i) m.node.member_name)) ms
