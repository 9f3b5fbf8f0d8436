-- Arrays and objects of a text, a token at a time.
use Rattle.std.proofs.Common.{◌≡◌, refl, sym, ap, ◌∙◌, ℕ, suc, arith, List, [], ◌∷◌, length, Option, Some, None, option_map, option_and_then}
use Rattle.json.specs.Token.{Token}
use Rattle.json.specs.Json as json
use Rattle.json.specs.Json.{Json, parse_map, after_end_array, read_key, items_step, members_step, items, members, value}
use Rattle.json.proofs.Grammar.{items_end, members_end, members_no_key, read_key-shorter}
use Rattle.serde_json.specs.Data as parsed
use Rattle.serde_json.specs.Data.{Data, Items, Members, put}
use Rattle.serde_json.specs.Read.{of_json, of_items, of_members, converted}
use Rattle.smithy_json.specs.Tokens.{value_at, items_at, members_at}
use Rattle.smithy_json.proofs.Shortening.{value_shortens, items_enough, members_enough, fewer, LeavesFewer}

abbrev Left : Type 0 → Type 0
Left A = Option (A × List Token)

-- ---- the conversion of one part

mapped_left : {A B : Type 0} (f : A → B) (left : List Token) (o : Option A) → option_map (λ b. (b, left)) (option_map f o) ≡ parse_map f (option_map (λ a. (a, left)) o)
mapped_left f left None = refl
mapped_left f left (Some a) = refl

pub array_converted : (o : Left json.Items) → converted of_json (parse_map json.array o) ≡ parse_map parsed.array (converted of_items o)
array_converted None = refl
array_converted (Some q) = mapped_left parsed.array q.1 (of_items q.0)

pub object_converted : (o : Left json.Members) → converted of_json (parse_map json.object o) ≡ parse_map parsed.object (converted (λ ms. of_members ms parsed.no_members) o)
object_converted None = refl
object_converted (Some q) = mapped_left parsed.object q.1 (of_members q.0 parsed.no_members)

item_converted : (j : Json) (more : Left json.Items) (o : Option Data) → of_json j ≡ o → converted of_items (parse_map (json.item j) more) ≡ option_and_then (λ d. parse_map (parsed.item d) (converted of_items more)) o
item_converted j None None is = refl
item_converted j None (Some d) is = refl
item_converted j (Some q) None is = rw is refl
item_converted j (Some q) (Some d) is = rw is (mapped_left (parsed.item d) q.1 (of_items q.0))

member_converted : (k : List ℕ) (j : Json) (before : Members) (more : Left json.Members) (o : Option Data) → of_json j ≡ o
    → converted (λ ms. of_members ms before) (parse_map (json.member k j) more) ≡ option_and_then (λ d. converted (λ ms. of_members ms (put k d before)) more) o
member_converted k j before None None is = refl
member_converted k j before None (Some d) is = refl
member_converted k j before (Some q) None is = rw is refl
member_converted k j before (Some q) (Some d) is = rw is refl

-- ---- and of what comes behind it

behind : {A B : Type 0} (f : A × List Token → Option B) (left : List Token) (o : Option A) → option_and_then (λ a. f (a, left)) o ≡ option_and_then f (option_map (λ a. (a, left)) o)
behind f left None = refl
behind f left (Some a) = refl

module _ (depth : ℕ) where
  then_items : (o : Left Json) → converted of_items (option_and_then (λ q. parse_map (json.item q.0) (items (value depth) (length q.1) q.1)) o)
      ≡ option_and_then (λ q. parse_map (parsed.item q.0) (items_at depth q.1)) (converted of_json o)
  then_items None = refl
  then_items (Some q) =
      item_converted q.0 (items (value depth) (length q.1) q.1) (of_json q.0) refl ∙ behind (λ r. parse_map (parsed.item r.0) (items_at depth r.1)) q.1 (of_json q.0)

  then_members : (k : List ℕ) (before : Members) (o : Left Json) → converted (λ ms. of_members ms before) (option_and_then (λ q. parse_map (json.member k q.0) (members (value depth) (length q.1) q.1)) o)
      ≡ option_and_then (λ q. members_at depth (put k q.0 before) q.1) (converted of_json o)
  then_members k before None = refl
  then_members k before (Some q) =
      member_converted k q.0 before (members (value depth) (length q.1) q.1) (of_json q.0) refl ∙ behind (λ r. members_at depth (put k r.0 before) r.1) q.1 (of_json q.0)

  -- ---- arrays

  pub items_over : (ts rest : List Token) → after_end_array ts ≡ Some rest → items_at depth ts ≡ Some (parsed.no_items, rest)
  items_over ts rest is = ap (converted of_items) (items_end (value depth) (length ts) ts rest (omega arith) is)

  same_turns : (n : ℕ) (o : Left Json) → LeavesFewer (suc n) o
      → option_and_then (λ q. parse_map (json.item q.0) (items (value depth) n q.1)) o ≡ option_and_then (λ q. parse_map (json.item q.0) (items (value depth) (length q.1) q.1)) o
  same_turns n None few = refl
  same_turns n (Some q) few = ap (parse_map (json.item q.0)) (items_enough (value depth) (value_shortens depth) n (length q.1) q.1 (omega (arith, few)) (omega arith))

  -- an item, and then the others
  item_first : (t : Token) (ts : List Token) → after_end_array (t ∷ ts) ≡ None → items_at depth (t ∷ ts) ≡ option_and_then (λ q. parse_map (parsed.item q.0) (items_at depth q.1)) (value_at depth (t ∷ ts))
  unfolding items
  item_first t ts going =
      ap (λ o. converted of_items (items_step (value depth) (items (value depth) (length ts)) (t ∷ ts) o)) going
      ∙ ap (converted of_items) (same_turns (length ts) (value depth (t ∷ ts)) (value_shortens depth (t ∷ ts)))
      ∙ then_items (value depth (t ∷ ts))

  -- ---- objects

  pub members_over : (before : Members) (ts rest : List Token) → read_key ts ≡ Some (None, rest) → members_at depth before ts ≡ Some (before, rest)
  members_over before ts rest is = ap (converted (λ ms. of_members ms before)) (members_end (value depth) (length ts) ts rest (omega arith) is)

  pub no_name : (before : Members) (ts : List Token) → read_key ts ≡ None → members_at depth before ts ≡ None
  no_name before ts is = ap (converted (λ ms. of_members ms before)) (members_no_key (value depth) (length ts) ts is)

  same_members : (n : ℕ) (k : List ℕ) (o : Left Json) → LeavesFewer (suc n) o
      → option_and_then (λ q. parse_map (json.member k q.0) (members (value depth) n q.1)) o ≡ option_and_then (λ q. parse_map (json.member k q.0) (members (value depth) (length q.1) q.1)) o
  same_members n k None few = refl
  same_members n k (Some q) few = ap (parse_map (json.member k q.0)) (members_enough (value depth) (value_shortens depth) n (length q.1) q.1 (omega (arith, few)) (omega arith))

  -- a member, and then the others
  member_first : (before : Members) (k : List ℕ) (ts rest : List Token) → read_key ts ≡ Some (Some k, rest)
      → members_at depth before ts ≡ option_and_then (λ q. members_at depth (put k q.0 before) q.1) (value_at depth rest)
  unfolding members
  member_first before k [] rest named = absurd (cc named)
  member_first before k (t ∷ ts) rest named =
      ap (λ o. converted (λ ms. of_members ms before) (option_and_then (λ q. members_step (value depth) (members (value depth) (length ts)) q.0 q.1) o)) named
      ∙ ap (converted (λ ms. of_members ms before)) (same_members (length ts) k (value depth rest) (fewer (length rest) (suc (length ts)) (value depth rest) (omega (arith, read_key-shorter (t ∷ ts) (Some k) rest named)) (value_shortens depth rest)))
      ∙ then_members k before (value depth rest)

  -- ---- with what the first value is

  module _ (ts rest : List Token) (t : Token) (is : ts ≡ t ∷ rest) (going : after_end_array ts ≡ None) where
    items_behind : items_at depth ts ≡ option_and_then (λ q. parse_map (parsed.item q.0) (items_at depth q.1)) (value_at depth (t ∷ rest))
    items_behind = ap (items_at depth) is ∙ item_first t rest (ap after_end_array (sym is) ∙ going)

    pub item_lost : value_at depth (t ∷ rest) ≡ None → items_at depth ts ≡ None
    item_lost none = items_behind ∙ ap (option_and_then (λ q. parse_map (parsed.item q.0) (items_at depth q.1))) none

    pub item_read : (d : Data) (left : List Token) → value_at depth (t ∷ rest) ≡ Some (d, left) → items_at depth ts ≡ parse_map (parsed.item d) (items_at depth left)
    item_read d left found = items_behind ∙ ap (option_and_then (λ q. parse_map (parsed.item q.0) (items_at depth q.1))) found

  module _ (before : Members) (k : List ℕ) (ts rest : List Token) (named : read_key ts ≡ Some (Some k, rest)) where
    pub member_lost : value_at depth rest ≡ None → members_at depth before ts ≡ None
    member_lost none = member_first before k ts rest named ∙ ap (option_and_then (λ q. members_at depth (put k q.0 before) q.1)) none

    pub member_read : (d : Data) (left : List Token) → value_at depth rest ≡ Some (d, left) → members_at depth before ts ≡ members_at depth (put k d before) left
    member_read d left found = member_first before k ts rest named ∙ ap (option_and_then (λ q. members_at depth (put k q.0 before) q.1)) found

pub no_items_left : (depth : ℕ) → items_at depth [] ≡ None
unfolding items
no_items_left depth = refl
