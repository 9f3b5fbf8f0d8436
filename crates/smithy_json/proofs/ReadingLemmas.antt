-- Values as they are read, from their first token on.
use Rattle.std.proofs.Common.{◌≡◌, refl, sym, ap, subst, ◌∙◌, ℕ, suc, ◌-◌, arith, List, [], ◌∷◌, ◌++◌, length, Option, Some, None, option_map, option_and_then, Result, Ok, Err, Vec, Bor, Global, rules}
use Rattle.std.specs.Prelude as std
use Rattle.std.specs.Prelude.{IsErrAnd}
use Rattle.json.specs.Token.{Token}
use Rattle.json.specs.Json.{parse_map, items, members, value, if_last}
use Rattle.json.specs.Lex.{tokens}
use Rattle.json.proofs.Grammar.{value_is, value-begin_array, value-begin_object}
use Rattle.serde_json.specs.Data as parsed
use Rattle.serde_json.specs.Data.{Num, Data, Items, item, no_items}
use Rattle.serde_json.specs.Read.{number_of, of_json, converted, max_depth, read}
use Rattle.serde_json.specs.View.{number_view}
use Rattle.serde_json.specs.declared.number.Number as numbers
use Rattle.smithy_json.specs.views.JsonView.{Member, view, items_view, members_view, entry_of, entries}
use Rattle.smithy_json.specs.PutMembers.{put_all}
use Rattle.smithy_json.specs.Reads.{Reads}
use Rattle.smithy_json.specs.Tokens.{value_at, items_at, members_at, Takes}
use Rattle.smithy_json.specs.declared.error.JsonError.{JsonError}
use Rattle.smithy_json.specs.declared.error.JsonError.TheVariants.{Unreadable, OutOfMemory}
use Rattle.smithy_json.specs.declared.value.JsonValue.{JsonValue, Null, Bool, Number, String, Array, Object, the_lemmas}
use Rattle.smithy_json.proofs.OrderLemmas.{put_more, entries_more}
use Rattle.smithy_json.proofs.TokenSteps.{array_converted, object_converted}

pub view-Array : (v : Vec JsonValue Global) → view (Array v) ≡ parsed.array (items_view v.items)
view-Array v = search (rules, the_lemmas)

pub view-Object : (v : Vec Member Global) → view (Object v) ≡ parsed.object (members_view v.items)
view-Object v = search (rules, the_lemmas)

-- ---- refusals

-- a refusal where nothing stands
pub refused : {A V : Type 0} (Q : JsonError → Type 0) (see : A → V) (there : Option (V × List Token)) (left : List Token) (r : Result A JsonError) → IsErrAnd r Q → there ≡ None → Takes see there left r
refused Q see there left (Ok a) h none = absurd h
refused Q see there left (Err Unreadable) h none = none
refused Q see there left (Err OutOfMemory) h none = tt

module _ {A B V W : Type 0} (part : A → V) (whole : B → W) (o : Option (V × List Token)) (p : Option (W × List Token)) (left rest : List Token) where
  passed : (e : JsonError) → Takes part o left (Err e) → (o ≡ None → p ≡ None) → Takes whole p rest (Err e)
  passed Unreadable h none = none h
  passed OutOfMemory h none = tt

  -- the refusal of a part is the whole's
  pub passed_on : (e : JsonError) (r : Result B JsonError) → IsErrAnd r (λ y. y ≡ e) → Takes part o left (Err e) → (o ≡ None → p ≡ None) → Takes whole p rest r
  passed_on e (Ok b) same h none = absurd same
  passed_on e (Err y) same h none = passed y (subst (λ x. Takes part o left (Err x)) (sym same) h) none

-- a text without tokens has no value
pub no_tokens : {A : Type 0} (Q : JsonError → Type 0) (see : A → Data) (text : List ℕ) (r : Result A JsonError) → IsErrAnd r Q → tokens text ≡ [] → Reads see (read text) r
no_tokens Q see text (Ok a) h empty = absurd h
no_tokens Q see text (Err Unreadable) h empty =
    ap (λ ts. option_and_then of_json (option_and_then (λ p. if_last p.0 p.1) (value max_depth ts))) empty
    ∙ ap (λ o. option_and_then of_json (option_and_then (λ p. if_last p.0 p.1) o)) (value_is max_depth [])
no_tokens Q see text (Err OutOfMemory) h empty = tt

-- ---- the first token of a value

written : (o : Option Num) (n : numbers.Number) (ts : List Token) → option_map number_view (Some n) ≡ o → option_map {U = Data × List Token} (λ d. (d, ts)) (option_map parsed.number o) ≡ Some (view (Number n), ts)
written o n ts is =
    let seen : parsed.number (number_view n) ≡ view (Number n) = search (rules, the_lemmas) in
    rw (← is) (ap (λ d. Some (d, ts)) seen)

module _ (depth : ℕ) (ts : List Token) where
  pub null_first : value_at depth (Token.null ∷ ts) ≡ Some (view Null, ts)
  null_first = ap (converted of_json) (value_is depth (Token.null ∷ ts)) ∙ (let seen : parsed.null ≡ view Null = search (rules, the_lemmas) in ap (λ d. Some (d, ts)) seen)

  pub truth_first : (b : std.Bool) → value_at depth (Token.boolean b ∷ ts) ≡ Some (view (Bool b), ts)
  truth_first b = ap (converted of_json) (value_is depth (Token.boolean b ∷ ts)) ∙ (let seen : parsed.boolean b ≡ view (Bool b) = search (rules, the_lemmas) in ap (λ d. Some (d, ts)) seen)

  pub text_first : (s : Bor (List ℕ)) → value_at depth (Token.string s.now ∷ ts) ≡ Some (view (String s), ts)
  text_first s = ap (converted of_json) (value_is depth (Token.string s.now ∷ ts)) ∙ (let seen : parsed.string s.now ≡ view (String s) = search (rules, the_lemmas) in ap (λ d. Some (d, ts)) seen)

  pub number_first : (s : List ℕ) (n : numbers.Number) → option_map number_view (Some n) ≡ number_of s → value_at depth (Token.number s ∷ ts) ≡ Some (view (Number n), ts)
  number_first s n is = ap (converted of_json) (value_is depth (Token.number s ∷ ts)) ∙ written (number_of s) n ts is

  pub no_number : (s : List ℕ) → None ≡ number_of s → value_at depth (Token.number s ∷ ts) ≡ None
  no_number s is = ap (converted of_json) (value_is depth (Token.number s ∷ ts)) ∙ ap (λ o. option_map {U = Data × List Token} (λ d. (d, ts)) (option_map parsed.number o)) (sym is)

  pub array_first : (inner : ℕ) → depth ≡ suc inner → value_at depth (Token.begin_array ∷ ts) ≡ parse_map parsed.array (items_at inner ts)
  array_first inner deep =
      let less : depth - 1 ≡ inner = omega (arith, deep) in
      ap (converted of_json) (value-begin_array depth ts (omega (arith, deep))) ∙ array_converted (items (value (depth - 1)) (length ts) ts) ∙ ap (λ n. parse_map parsed.array (items_at n ts)) less

  pub object_first : (inner : ℕ) → depth ≡ suc inner → value_at depth (Token.begin_object ∷ ts) ≡ parse_map parsed.object (members_at inner parsed.no_members ts)
  object_first inner deep =
      let less : depth - 1 ≡ inner = omega (arith, deep) in
      ap (converted of_json) (value-begin_object depth ts (omega (arith, deep))) ∙ object_converted (members (value (depth - 1)) (length ts) ts) ∙ ap (λ n. parse_map parsed.object (members_at n parsed.no_members ts)) less

  pub array_too_deep : depth ≡ 0 → value_at depth (Token.begin_array ∷ ts) ≡ None
  array_too_deep flat = ap (λ n. value_at n (Token.begin_array ∷ ts)) flat ∙ ap (converted of_json) (value_is 0 (Token.begin_array ∷ ts))

  pub object_too_deep : depth ≡ 0 → value_at depth (Token.begin_object ∷ ts) ≡ None
  object_too_deep flat = ap (λ n. value_at n (Token.begin_object ∷ ts)) flat ∙ ap (converted of_json) (value_is 0 (Token.begin_object ∷ ts))

  -- no value begins with a key or at an end
  pub key_first : (k : List ℕ) → value_at depth (Token.key k ∷ ts) ≡ None
  key_first k = ap (converted of_json) (value_is depth (Token.key k ∷ ts))

  pub array_end_first : value_at depth (Token.end_array ∷ ts) ≡ None
  array_end_first = ap (converted of_json) (value_is depth (Token.end_array ∷ ts))

  pub object_end_first : value_at depth (Token.end_object ∷ ts) ≡ None
  object_end_first = ap (converted of_json) (value_is depth (Token.end_object ∷ ts))

  pub bad_first : value_at depth (Token.bad ∷ ts) ≡ None
  bad_first = ap (converted of_json) (value_is depth (Token.bad ∷ ts))

pub nothing_first : (depth : ℕ) → value_at depth [] ≡ None
nothing_first depth = ap (converted of_json) (value_is depth [])

-- ---- items and members, one more

-- these items, and then others
abbrev pub joined : Items → Items → Items
joined no_items more = more
joined (item d ds) more = item d (joined ds more)

pub joined_none : (ds : Items) → joined ds no_items ≡ ds
joined_none no_items = refl
joined_none (item d ds) = ap (item d) (joined_none ds)

joined_one : (ds : Items) (d : Data) (more : Items) → joined ds (item d more) ≡ joined (joined ds (item d no_items)) more
joined_one no_items d more = refl
joined_one (item x ds) d more = ap (item x) (joined_one ds d more)

pub from_start : (o : Option (Items × List Token)) → o ≡ parse_map (joined no_items) o
from_start None = refl
from_start (Some q) = refl

pub one_further : (ds : Items) (d : Data) (o : Option (Items × List Token)) → parse_map (joined ds) (parse_map (item d) o) ≡ parse_map (joined (joined ds (item d no_items))) o
one_further ds d None = refl
one_further ds d (Some q) = ap (λ x. Some (x, q.1)) (joined_one ds d q.0)

pub one_seen : (vs : List JsonValue) (v : JsonValue) → items_view (vs ++ v ∷ []) ≡ joined (items_view vs) (item (view v) no_items)
one_seen [] v = refl
one_seen (w ∷ vs) v = ap (item (view w)) (one_seen vs v)

-- the members that were put, one more put
pub one_put : (ms : List Member) (m : Member) → put_all (entries (ms ++ m ∷ [])) parsed.no_members ≡ parsed.put m.0.now (entry_of m).1 (put_all (entries ms) parsed.no_members)
one_put ms m = ap (λ es. put_all es parsed.no_members) (entries_more ms m) ∙ put_more (entries ms) (entry_of m) parsed.no_members
