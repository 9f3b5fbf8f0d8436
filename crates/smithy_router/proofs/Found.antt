-- The best one of the entries that a target leads to is the best one of the list.
use Prim.Native.Nat.{zero}
use Rattle.smithy_router.proofs.Common.{◌≡◌, refl, sym, ◌∙◌, ap, subst, ℕ, suc, arith, Bool, true, false, List, [], ◌∷◌, ◌++◌, ◌==◌, Option, Some, None, slice_get, map, option_map, option_and_then, length, ◌<◌, ◌⊎◌, inl, inr, IsTrue, if◌then◌else◌, nat_eq, codes, option_map_or, slice_get-map, slice_get_within, AllByRecursion, Contains, starts_with, slice_split, before_first, range_with_len, and_parts, same_text, is_question_mark, query_pieces, Literal, Hole, segments_of, fits_path, fits_query, Route, IsRoute, matches, fits_target, Beats, Conflicts, beats, Entry, AreApart, NoneMatches, IsBest, IsBestOf, preferred, better, SomeIsBest, better_of, best_of, entry_seen, child_of, ends_of, child_at, led_to, EndsAt, IsIndexed, Node}
use Rattle.std.proofs.lemmas.List.FromFn.{length-range_with_len, get_or-range_with_len}
use Rattle.smithy_router.specs.declared.route.StoredEntry.{StoredEntry}
use Rattle.smithy_router.proofs.Tests.{same_text_is}
use Rattle.smithy_router.proofs.Ranks.{beats_holds, beats_found, three}
use Rattle.smithy_router.proofs.Growing.{contains_none}
use Rattle.smithy_router.proofs.Leading.{leads_to}
use Rattle.smithy_router.proofs.Cuts.{fits_none}

-- numbers in a row
pub best_in_row : (method target : List ℕ) (entries : List Entry) (best : Option Entry) (ns ms : List ℕ)
    → best_of method target entries best (ns ++ ms) ≡ best_of method target entries (best_of method target entries best ns) ms
best_in_row method target entries best [] ms = refl
best_in_row method target entries best (n ∷ ns) ms = best_in_row method target entries (better_of method target entries best n) ns ms

-- one number, by what is stored
pub at_entry : (method target : List ℕ) (stored : List StoredEntry) (best : Option Entry) (number : ℕ) (entry : Option StoredEntry) → entry ≡ slice_get stored number
    → best_of method target (map entry_seen stored) best (number ∷ []) ≡ option_map_or (λ e. better method target best (entry_seen e)) entry best
at_entry method target stored best number entry is =
    ap (λ (o : Option Entry). option_map_or (λ e. better method target best e) o best) (slice_get-map entry_seen stored number ∙ ap (option_map entry_seen) (sym is)) ∙ go entry
  where
    go : (o : Option StoredEntry) → option_map_or (λ e. better method target best e) (option_map entry_seen o) best ≡ option_map_or (λ e. better method target best (entry_seen e)) o best
    go None = refl
    go (Some e) = refl

-- the entry of a number has a route
abbrev AreRoutes : List Entry → Type 0
AreRoutes entries = (number : ℕ) (e : Entry) → slice_get entries number ≡ Some e → IsRoute e.route

routes_in : (entries : List Entry) → AreApart entries → AreRoutes entries
routes_in [] h number e is = absurd (cc is)
routes_in (x ∷ entries) h zero e is = let same : x ≡ e = cc is in subst (λ (y : Entry). IsRoute y.route) same h.0
routes_in (x ∷ entries) h (suc number) e is = routes_in entries h.1.1 number e is

-- the best so far, if there is one, is an entry that matches
record IsOne (method : List ℕ) (target : List ℕ) (entries : List Entry) (b : Entry) : Type 0 where
  pub number : ℕ
  pub stands : slice_get entries number ≡ Some b
  pub matched : IsTrue (matches b.route method target)

abbrev IsOneOf : List ℕ → List ℕ → List Entry → Option Entry → Type 0
IsOneOf method target entries None = Unit {0}
IsOneOf method target entries (Some b) = IsOne method target entries b

-- there is a best one, and a route does not beat it
abbrev LosesTo : Route → Option Entry → Type 0
LosesTo route None = ⊥
LosesTo route (Some b) = ¬ (Beats route b.route)

beats_self : (a : Route) → ¬ (Beats a a)
beats_self a h = h.not_back h.within

beats_through : (a b c : Route) → Beats a b → Beats b c → Beats a c
beats_through a b c ab bc = record {
  within = λ method target m. bc.within method target (ab.within method target m);
  not_back = λ h. ab.not_back (λ method target m. h method target (bc.within method target m));
}

module _ (method target : List ℕ) (entries : List Entry) (routes : AreRoutes entries) where
  -- a best one that takes the place of another: what loses to the old one loses to the new one
  abbrev Follows : Option Entry → Option Entry → Type 0
  Follows old new = IsOneOf method target entries new × ((route : Route) → LosesTo route old → LosesTo route new)

  -- the better one follows the best one so far, and an entry that is looked at loses to it
  better_follows : (best : Option Entry) (number : ℕ) (e : Entry) → slice_get entries number ≡ Some e → IsOneOf method target entries best
      → Follows best (better method target best e) × (IsTrue (matches e.route method target) → LosesTo e.route (better method target best e))
  better_follows best number e is h = go (matches e.route method target) refl best h
    where
      new : matches e.route method target ≡ true → IsOne method target entries e
      new m = record { number = number; stands = is; matched = m }

      fight : (b : Entry) (t : Bool) → beats e.route b.route ≡ t → matches e.route method target ≡ true → IsOne method target entries b
          → Follows (Some b) (if t then Some e else Some b) × (IsTrue (matches e.route method target) → LosesTo e.route (if t then Some e else Some b))
      fight b true w m h =
          ((new m, λ route lost beaten. lost (beats_through route e.route b.route beaten (beats_holds e.route b.route (routes number e is) (routes h.number b h.stands) w))), λ n. beats_self e.route)
      fight b false l m h =
          ((h, λ route lost. lost), λ n beaten. (let no : true ≡ false = sym (beats_found e.route b.route (routes number e is) (routes h.number b h.stands) beaten) ∙ l in cc no))

      go : (t : Bool) → matches e.route method target ≡ t → (best : Option Entry) → IsOneOf method target entries best
          → Follows best (if t then preferred best e else best) × (IsTrue (matches e.route method target) → LosesTo e.route (if t then preferred best e else best))
      go false m best h = ((h, λ route lost. lost), λ n. (let no : true ≡ false = sym n ∙ m in absurd (cc no)))
      go true m None h = ((new m, λ route lost. absurd lost), λ n. beats_self e.route)
      go true m (Some b) h = fight b (beats e.route b.route) refl m h

  number_follows : (best : Option Entry) (number : ℕ) → IsOneOf method target entries best
      → Follows best (better_of method target entries best number)
      × ((e : Entry) → slice_get entries number ≡ Some e → IsTrue (matches e.route method target) → LosesTo e.route (better_of method target entries best number))
  number_follows best number h = go (slice_get entries number) refl
    where
      go : (o : Option Entry) → slice_get entries number ≡ o
          → Follows best (option_map_or (λ e. better method target best e) o best)
          × ((e : Entry) → o ≡ Some e → IsTrue (matches e.route method target) → LosesTo e.route (option_map_or (λ e. better method target best e) o best))
      go None is = ((h, λ route lost. lost), λ e at. absurd (cc at))
      go (Some x) is =
          let won = better_follows best number x is h in
          (won.0, λ e at. (let same : x ≡ e = cc at in subst (λ (y : Entry). IsTrue (matches y.route method target) → LosesTo y.route (better method target best x)) same won.1))

  numbers_follow : (ns : List ℕ) (best : Option Entry) → IsOneOf method target entries best → Follows best (best_of method target entries best ns)
  numbers_follow [] best h = (h, λ route lost. lost)
  numbers_follow (n ∷ ns) best h =
      let here = (number_follows best n h).0 in
      let rest = numbers_follow ns (better_of method target entries best n) here.0 in
      (rest.0, λ route lost. rest.1 route (here.1 route lost))

  -- each entry that matches loses to the best one of the numbers that have its own
  loses : (ns : List ℕ) (best : Option Entry) (number : ℕ) (e : Entry) → IsOneOf method target entries best → slice_get entries number ≡ Some e → IsTrue (matches e.route method target) → Contains ns number
      → LosesTo e.route (best_of method target entries best ns)
  loses [] best number e h is m among = contains_none number among
  loses (n ∷ ns) best number e h is m (zero, _, same) =
      let here = number_follows best n h in
      (numbers_follow ns (better_of method target entries best n) here.0.0).1 e.route (here.1 e (ap (slice_get entries) same ∙ is) m)
  loses (n ∷ ns) best number e h is m (suc k, l, same) =
      loses ns (better_of method target entries best n) number e (number_follows best n h).0.0 is m (k, omega (arith, l), same)

conflicts_back : (a b : Route) → Conflicts a b → Conflicts b a
conflicts_back a b h = record {
  overlap = record { method = h.overlap.method; target = h.overlap.target; by_first = h.overlap.by_second; by_second = h.overlap.by_first };
  not_first = h.not_second;
  not_second = h.not_first;
}

-- of two routes that match one request and do not conflict, one beats the other
wins : (a b : Route) (method target : List ℕ) → IsRoute a → IsRoute b → IsTrue (matches a method target) → IsTrue (matches b method target)
    → ¬ (Conflicts a b) → ¬ (Beats b a) → Beats a b
wins a b method target ra rb ma mb apart lost = go (beats a b) refl
  where
    go : (t : Bool) → beats a b ≡ t → Beats a b
    go true w = beats_holds a b ra rb w
    go false l = absurd (apart (record {
      overlap = record { method = method; target = target; by_first = ma; by_second = mb };
      not_first = λ h. (let no : true ≡ false = sym (beats_found a b ra rb h) ∙ l in cc no);
      not_second = lost;
    }))

-- what is known of each number is known of each entry
each_entry : (P : Entry → Type 0) (entries : List Entry) → ((number : ℕ) (e : Entry) → slice_get entries number ≡ Some e → P e) → AllByRecursion P entries
each_entry P [] h = tt
each_entry P (x ∷ entries) h = (h 0 x refl, each_entry P entries (λ number e is. h (suc number) e is))

at_number : (P : Entry → Type 0) (entries : List Entry) (number : ℕ) (e : Entry) → AllByRecursion P entries → slice_get entries number ≡ Some e → P e
at_number P [] number e all is = absurd (cc is)
at_number P (x ∷ entries) zero e all is = let same : x ≡ e = cc is in subst P same all.0
at_number P (x ∷ entries) (suc number) e all is = at_number P entries number e all.1 is

-- an entry that matches and that no other one beats, in a list without conflicts
is_best : (method target : List ℕ) (entries : List Entry) (number : ℕ) (b : Entry) → AreApart entries → slice_get entries number ≡ Some b
    → IsTrue (matches b.route method target) → AllByRecursion (λ o. IsTrue (matches o.route method target) → ¬ (Beats o.route b.route)) entries → IsBest method target entries b
is_best method target [] number b apart is m all = absurd (cc is)
is_best method target (x ∷ entries) zero b apart is m all =
    let same : x ≡ b = cc is in
    subst (IsBest method target (x ∷ entries)) same (record {
      before = [];
      after = entries;
      stands = refl;
      matched = subst (λ (y : Entry). IsTrue (matches y.route method target)) (sym same) m;
      beats_others = each_entry (λ o. IsTrue (matches o.route method target) → Beats x.route o.route) entries (λ number o at mo.
          wins x.route o.route method target apart.0 (routes_in entries apart.1.1 number o at)
          (subst (λ (y : Entry). IsTrue (matches y.route method target)) (sym same) m) mo
          (at_number (λ o. ¬ (Conflicts x.route o.route)) entries number o apart.1.0 at)
          (subst (λ (y : Entry). ¬ (Beats o.route y.route)) (sym same) (at_number (λ o. IsTrue (matches o.route method target) → ¬ (Beats o.route b.route)) entries number o all.1 at mo)));
    })
is_best method target (x ∷ entries) (suc number) b apart is m all =
    let rest = is_best method target entries number b apart.1.1 is m all.1 in
    record {
      before = x ∷ rest.before;
      after = rest.after;
      stands = ap (λ (es : List Entry). x ∷ es) rest.stands;
      matched = m;
      beats_others = (
        λ mx. wins b.route x.route method target (routes_in entries apart.1.1 number b is) apart.0 m mx
            (λ c. at_number (λ o. ¬ (Conflicts x.route o.route)) entries number b apart.1.0 is (conflicts_back b.route x.route c)) (all.0 mx),
        rest.beats_others,
      );
    }

-- where the numbers have that of each entry that matches, the best one of them is the best one of the list
pub best_is : (method target : List ℕ) (entries : List Entry) (ns : List ℕ) → AreApart entries
    → ((number : ℕ) (e : Entry) → slice_get entries number ≡ Some e → IsTrue (matches e.route method target) → Contains ns number)
    → IsBestOf method target entries (best_of method target entries None ns)
best_is method target entries ns apart among = go (best_of method target entries None ns) (numbers_follow method target entries (routes_in entries apart) ns None tt).0 lost
  where
    lost : (number : ℕ) (e : Entry) → slice_get entries number ≡ Some e → IsTrue (matches e.route method target) → LosesTo e.route (best_of method target entries None ns)
    lost number e is m = loses method target entries (routes_in entries apart) ns None number e tt is m (among number e is m)

    go : (best : Option Entry) → IsOneOf method target entries best
        → ((number : ℕ) (e : Entry) → slice_get entries number ≡ Some e → IsTrue (matches e.route method target) → LosesTo e.route best) → IsBestOf method target entries best
    go None one lost = each_entry (λ o. ¬ (IsTrue (matches o.route method target))) entries (λ number e is m. lost number e is m)
    go (Some b) one lost = is_best method target entries one.number b apart one.stands one.matched
        (each_entry (λ o. IsTrue (matches o.route method target) → ¬ (Beats o.route b.route)) entries (λ number e is m. lost number e is m))

-- in a list without conflicts one entry beats each other one that matches, if one matches: the best one of all numbers
pub some_is_best : SomeIsBest
some_is_best method target entries apart =
    go (best_of method target entries None (range_with_len 0 (length entries)))
    (best_is method target entries (range_with_len 0 (length entries)) apart (λ number e is m. among number (slice_get_within entries number e is)))
  where
    among : (number : ℕ) → number < length entries → Contains (range_with_len 0 (length entries)) number
    among number l =
        (number, omega (arith, l, length-range_with_len 0 (length entries)), get_or-range_with_len 0 (length entries) number number l ∙ omega arith)

    go : (best : Option Entry) → IsBestOf method target entries best → NoneMatches method target entries ⊎ ((e : Entry) × IsBest method target entries e)
    go None none = inl none
    go (Some e) best = inr (e, best)

-- a target leads to each entry that matches
pub led_to_each : (nodes : List Node) (method target : List ℕ) (e : Entry) (number : ℕ) → EndsAt nodes e.route number → IsTrue (matches e.route method target)
    → Contains (led_to nodes (child_at nodes 0 (Literal method)) (segments_of (before_first is_question_mark target))) number
led_to_each nodes method target e number ends m =
    let own = and_parts (same_text e.route.method method) (fits_target e.route target) m in
    let path_fits = (three (starts_with nat_eq target (codes "/")) (fits_path e.route.is_greedy e.route.segments (segments_of (before_first is_question_mark target))) (fits_query e.route.query (query_pieces target)) own.1).1 in
    subst (λ (t : List ℕ). Contains (led_to nodes (child_at nodes 0 (Literal t)) (segments_of (before_first is_question_mark target))) number) (same_text_is e.route.method method own.0)
    (leads_to nodes e.route.is_greedy 32 e.route.segments (child_at nodes 0 (Literal e.route.method)) (segments_of (before_first is_question_mark target)) number path_fits ends)

-- the search finds the best one
pub search_finds : (nodes : List Node) (entries : List Entry) (method target : List ℕ) → AreApart entries → IsIndexed nodes entries
    → IsBestOf method target entries (best_of method target entries None (led_to nodes (child_at nodes 0 (Literal method)) (segments_of (before_first is_question_mark target))))
search_finds nodes entries method target apart indexed =
    best_is method target entries _ apart (λ number e is m. led_to_each nodes method target e number (indexed number e is) m)

pub found : (nodes : List Node) (entries : List Entry) (method target path rest : List ℕ) (start : Option ℕ) (best : Option Entry) → AreApart entries → IsIndexed nodes entries
    → path ≡ before_first (λ b. b == 63) target → path ≡ 47 ∷ rest → start ≡ child_at nodes 0 (Literal method)
    → best ≡ best_of method target entries None (led_to nodes start (slice_split (λ b. b == 47) rest)) → IsBestOf method target entries best
found nodes entries method target path rest start best apart indexed path_is is_path start_is best_is_it =
    let segments : segments_of (before_first is_question_mark target) ≡ slice_split (λ b. b == 47) rest = ap segments_of (sym path_is ∙ is_path) in
    let same : best_of method target entries None (led_to nodes (child_at nodes 0 (Literal method)) (segments_of (before_first is_question_mark target))) ≡ best =
    ap (λ (ss : List (List ℕ)). best_of method target entries None (led_to nodes (child_at nodes 0 (Literal method)) ss)) segments
    ∙ ap (λ (o : Option ℕ). best_of method target entries None (led_to nodes o (slice_split (λ b. b == 47) rest))) (sym start_is) ∙ sym best_is_it in
    subst (IsBestOf method target entries) same (search_finds nodes entries method target apart indexed)

-- what is behind a segment: the greedy ends, and then what the literal and the hole lead to
pub below_more : (nodes : List Node) (entries : List Entry) (method target : List ℕ) (place : Option ℕ) (node : Node) (s : List ℕ) (ss rest : List (List ℕ)) (greedy : List ℕ) (child : Option ℕ)
    (before ends literal hole : Option Entry) → Some node ≡ option_and_then (slice_get nodes) place → rest ≡ s ∷ ss → greedy ≡ ends_of node true → child ≡ child_of node (Literal s)
    → ends ≡ best_of method target entries before greedy → literal ≡ best_of method target entries ends (led_to nodes child ss) → hole ≡ best_of method target entries literal (led_to nodes node.hole ss)
    → hole ≡ best_of method target entries before (led_to nodes place rest)
below_more nodes entries method target None node s ss rest greedy child before ends literal hole at is greedy_is child_is ends_is literal_is hole_is = absurd (cc at)
below_more nodes entries method target (Some place) node s ss rest greedy child before ends literal hole at is greedy_is child_is ends_is literal_is hole_is =
    let leads = λ (o : Option Node). option_map_or (λ n. ends_of n true) o []
    ++ (led_to nodes (option_and_then (λ n. child_of n (Literal s)) o) ss ++ led_to nodes (option_and_then (λ n. child_of n Hole) o) ss) in
    let best = best_of method target entries in
    let behind_literal : literal ≡ best (best before (ends_of node true)) (led_to nodes (child_of node (Literal s)) ss) =
    literal_is ∙ ap (λ (o : Option ℕ). best ends (led_to nodes o ss)) child_is
    ∙ ap (λ (b : Option Entry). best b (led_to nodes (child_of node (Literal s)) ss)) (ends_is ∙ ap (best before) greedy_is) in
    hole_is ∙ ap (λ (b : Option Entry). best b (led_to nodes node.hole ss)) behind_literal
    ∙ sym (best_in_row method target entries (best before (ends_of node true)) (led_to nodes (child_of node (Literal s)) ss) (led_to nodes node.hole ss))
    ∙ sym (best_in_row method target entries before (ends_of node true) (led_to nodes (child_of node (Literal s)) ss ++ led_to nodes node.hole ss))
    ∙ ap (λ (o : Option Node). best before (leads o)) at
    ∙ ap (λ (ps : List (List ℕ)). best before (led_to nodes (Some place) ps)) (sym is)

-- and none matches a target without `/` first
pub none_matches : (method target : List ℕ) (entries : List Entry) → starts_with nat_eq target (codes "/") ≡ false → NoneMatches method target entries
none_matches method target entries no_path = each_entry (λ o. ¬ (IsTrue (matches o.route method target))) entries (λ number e is m.
    let own = and_parts (same_text e.route.method method) (fits_target e.route target) m in
    let no : true ≡ false = sym own.1 ∙ fits_none e.route target no_path in cc no)
