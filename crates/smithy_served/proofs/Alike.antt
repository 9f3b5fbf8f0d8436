-- A schema as a response has it: its members and their first writes are the schema's own.
use Rattle.smithy_served.proofs.Common.{at-in, cited-in, member-in, position-in, as_output, first_value, Bool, List, None, Option, Resolved, Schema, Some, Write, [], all_resolved, ap, at_place, cond, cons_option, element_of, false, filter, filter_map, find, first, is_none, is_of, is_some, list_any, map, member_at, members_of, then_some, option_and_then, option_map, position_in, refl, resolve, resolved, sym, true, ℕ, ◌||◌, ◌∙◌, ◌∷◌, ◌≡◌}
use Rattle.smithy_binding.specs.declared.direction.Direction.TheVariants as direction

-- lists whose elements are changed alike

cond_map : {X Y : Type 0} (f : X → Y) (b : Bool) (x y : X) → cond b (f x) (f y) ≡ f (cond b x y)
cond_map f true x y = refl
cond_map f false x y = refl

pub none_is : {X : Type 0} (o : Option X) → is_none o ≡ true → o ≡ None
none_is None e = refl
none_is (Some x) e = absurd (cc e)

pub some-map : {X Y : Type 0} (f : X → Y) (o : Option X) → is_some (option_map f o) ≡ is_some o
some-map f None = refl
some-map f (Some x) = refl

pub option_map-map : {X Y Z : Type 0} (g : Y → Z) (f : X → Y) (o : Option X) → option_map g (option_map f o) ≡ option_map (λ x. g (f x)) o
option_map-map g f None = refl
option_map-map g f (Some x) = refl

pub find-map : {X Y : Type 0} (p : Y → Bool) (f : X → Y) (xs : List X) → find p (map f xs) ≡ option_map f (find (λ x. p (f x)) xs)
find-map p f [] = refl
find-map p f (x ∷ xs) = ap (cond (p (f x)) (Some (f x))) (find-map p f xs) ∙ cond_map (option_map f) (p (f x)) (Some x) (find (λ x. p (f x)) xs)

pub filter-map : {X Y : Type 0} (p : Y → Bool) (f : X → Y) (xs : List X) → filter p (map f xs) ≡ map f (filter (λ x. p (f x)) xs)
filter-map p f [] = refl
filter-map p f (x ∷ xs) =
    ap (λ ys. cond (p (f x)) (f x ∷ ys) ys) (filter-map p f xs) ∙ cond_map (map f) (p (f x)) (x ∷ filter (λ x. p (f x)) xs) (filter (λ x. p (f x)) xs)

pub filter_map-map : {X Y Z : Type 0} (g : Y → Option Z) (f : X → Y) (xs : List X) → filter_map g (map f xs) ≡ filter_map (λ x. g (f x)) xs
filter_map-map g f [] = refl
filter_map-map g f (x ∷ xs) = ap (cons_option (g (f x))) (filter_map-map g f xs)

pub any-map : {X Y : Type 0} (p : Y → Bool) (f : X → Y) (xs : List X) → list_any p (map f xs) ≡ list_any (λ x. p (f x)) xs
any-map p f [] = refl
any-map p f (x ∷ xs) = ap (λ b. p (f x) || b) (any-map p f xs)

-- what is found for each is changed alike
found_alike : {X Y Z : Type 0} (f : X → Option Z) (g : X → Option Y) (h : Y → Z) → ((x : X) → f x ≡ option_map h (g x)) → (xs : List X) → filter_map f xs ≡ map h (filter_map g xs)
found_alike f g h same [] = refl
found_alike {Y = Y} f g h same (x ∷ xs) = (λ i. cons_option (same x i) (found_alike f g h same xs i)) ∙ go (g x)
  where
    go : (o : Option Y) → cons_option (option_map h o) (map h (filter_map g xs)) ≡ map h (cons_option o (filter_map g xs))
    go None = refl
    go (Some y) = refl

-- Members.

pub member_at-out : (schema : Schema) (i : ℕ) (m : Schema) → member_at schema i ≡ Some m → member_at (as_output schema) i ≡ Some (as_output m)
member_at-out schema i m at = member-in direction.Response schema i ∙ ap (option_map as_output) at

pub members-out : (schema : Schema) → members_of (as_output schema) ≡ map as_output (members_of schema)
members-out schema = found_alike (at_place (as_output schema).table) (at_place schema.table) as_output (at-in direction.Response schema.table) schema.node.members

-- what is told of a list's element alike
pub element_told : {X : Type 0} (f : Option Schema → X) → ((e : Schema) → f (Some (as_output e)) ≡ f (Some e)) → (m : Schema) → f (element_of (as_output m)) ≡ f (element_of m)
element_told f same m = ap f (cited-in direction.Response m m.node.element) ∙ go (element_of m)
  where
    go : (o : Option Schema) → f (option_map as_output o) ≡ f o
    go None = refl
    go (Some e) = same e

-- Writes.

position-out : (schema : Schema) (index : Option ℕ) (name : Option (List ℕ)) → position_in (as_output schema) index name ≡ position_in schema index name
position-out schema (Some i) name = ap (λ b. then_some b i) (ap is_some (member-in direction.Response schema i) ∙ some-map as_output (member_at schema i))
position-out schema None (Some name) = position-in direction.Response schema name
position-out schema None None = refl

-- a write with its member, as a response has it
abbrev pub out_write : Resolved → Resolved
out_write r = record { position = r.position; member = as_output r.member; value = r.value }

resolved-out : (schema : Schema) (w : Write) → resolved (as_output schema) w ≡ option_map out_write (resolved schema w)
resolved-out schema w =
    (λ j. option_and_then (λ i. option_map (made i) (member-in direction.Response schema i j)) (position-out schema w.label.member_index w.label.member_name j))
    ∙ go (resolve schema w.label)
  where
    made : ℕ → Schema → Resolved
    made i m = record { position = i; member = m; value = w.value }

    go : (o : Option ℕ) → option_and_then (λ i. option_map (made i) (option_map as_output (member_at schema i))) o ≡ option_map out_write (option_and_then (λ i. option_map (made i) (member_at schema i)) o)
    go None = refl
    go (Some i) = option_map-map (made i) as_output (member_at schema i) ∙ sym (option_map-map out_write (made i) (member_at schema i))

pub all_resolved-out : (schema : Schema) (ws : List Write) → all_resolved (as_output schema) ws ≡ map out_write (all_resolved schema ws)
all_resolved-out schema ws = found_alike (resolved (as_output schema)) (resolved schema) out_write (resolved-out schema) ws

-- the first write of a member has the same value
pub first_value-out : (schema : Schema) (ws : List Write) (i : ℕ) → first_value (as_output schema) ws i ≡ first_value schema ws i
first_value-out schema ws i =
    ap (λ rs. option_map (λ (r : Resolved). r.value) (find (is_of i) rs)) (all_resolved-out schema ws)
    ∙ ap (option_map (λ (r : Resolved). r.value)) (find-map (is_of i) out_write (all_resolved schema ws)) ∙ option_map-map (λ (r : Resolved). r.value) out_write (first schema ws i)
