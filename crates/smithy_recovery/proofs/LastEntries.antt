-- Entries in order of their keys, of each key the last one, are those that are put one after another.
use Rattle.std.proofs.Common.{◌≡◌, refl, sym, ◌∙◌, ap, subst, cond, ℕ, Bool, true, false, List, [], ◌∷◌, ◌++◌, map, Option, Some, None}
use Rattle.std.specs.Cmp.Lexicographic.{same_text as same_from_test}
use Rattle.std.specs.Option.{option_or}
use Rattle.std.specs.Ordering.{is_lt, is_eq, ordering_reverse}
use Rattle.std.specs.declared.cmp.Ordering.{Ordering}
use Rattle.std.specs.declared.cmp.Ordering.TheVariants.{Less, Equal, Greater}
use Rattle.std.proofs.lemmas.Map.Text.{is_eq-slice_cmp}
use Rattle.smithy_types.specs.Texts.{same_text}
use Rattle.smithy_http.specs.Facts.{values_at}
use Rattle.smithy_serde.specs.Values.{Value}
use Rattle.smithy_document.proofs.OrderedPairs.{Ascends, Behind, all_ascend, known_by_names, last_of, look_ordered, looked, or_none}
use Rattle.smithy_strings.proofs.UnescapeLaws.{same_self}
use Rattle.smithy_recovery.specs.MapParts.{as_text, text_entries}
use Rattle.smithy_recovery.specs.views.KeptEntries.{is_again, last_entries}
use Rattle.smithy_recovery.specs.views.NameOrder.{IsLow, Rises, IsInOrder}
use Rattle.smithy_recovery.proofs.Ordered.{order, turned, absent, values_cons}

abbrev Pairs : Type 0
Pairs = List (List ℕ × List ℕ)

abbrev pub with_text : List ℕ × List ℕ → List ℕ × Value
with_text e = (e.0, as_text e.1)

-- the last of these values
abbrev last_value : List (List ℕ) → Option Value
last_value [] = None
last_value (v ∷ vs) = option_or (last_value vs) (Some (as_text v))

last_of_values : (name : List ℕ) (ps : Pairs) → last_of name (map with_text ps) ≡ last_value (values_at name ps)
last_of_values name [] = refl
last_of_values name (p ∷ ps) =
    ap (λ o. option_or o (cond (same_text p.0 name) (Some (as_text p.1)) None)) (last_of_values name ps)
    ∙ go (same_text p.0 name)
    ∙ sym (ap last_value (values_cons name p ps))
  where
    go : (t : Bool) → option_or (last_value (values_at name ps)) (cond t (Some (as_text p.1)) None) ≡ last_value (cond t (p.1 ∷ values_at name ps) (values_at name ps))
    go true = refl
    go false = or_none (last_value (values_at name ps))

-- a name that is not lower than another and not the same is higher
less_up : (a b : List ℕ) → is_lt (order b a) ≡ false → same_text b a ≡ false → order a b ≡ Less
less_up a b low other = go (order a b) refl
  where
    go : (o : Ordering) → order a b ≡ o → o ≡ Less
    go Less is = refl
    go Equal is =
        let equal : is_eq (order b a) ≡ true = ap is_eq (turned a b ∙ ap ordering_reverse is) in
        let bad : true ≡ false = sym equal ∙ is_eq-slice_cmp b a ∙ other in absurd (cc bad)
    go Greater is =
        let bad : true ≡ false = sym (ap is_lt (turned a b ∙ ap ordering_reverse is)) ∙ low in absurd (cc bad)

self_low : (p : List ℕ × List ℕ) (ps : Pairs) → IsLow p.0 ps → IsLow p.0 (p ∷ ps)
self_low p ps low = (go (order p.0 p.0) refl, low)
  where
    go : (o : Ordering) → order p.0 p.0 ≡ o → is_lt (order p.0 p.0) ≡ false
    go Less is = let bad : false ≡ true = sym (ap is_eq is) ∙ is_eq-slice_cmp p.0 p.0 ∙ same_self p.0 in absurd (cc bad)
    go Equal is = ap is_lt is
    go Greater is = ap is_lt is

-- a key that does not stand next again stands nowhere behind
none_behind : (e : List ℕ × List ℕ) (es : Pairs) → Rises (e ∷ es) → is_again e.0 es ≡ false → values_at e.0 es ≡ []
none_behind e [] up other = refl
none_behind e (f ∷ es) up other = absent e.0 f.0 (f ∷ es) (ap is_lt (less_up e.0 f.0 up.0.0 other)) (self_low f es up.1.0)

or_some : {X : Type 0} (o : Option X) (x : X) (y : Option X) → option_or (option_or o (Some x)) y ≡ option_or o (Some x)
or_some None x y = refl
or_some (Some z) x y = refl

-- what stands under a name
last_looked : (name : List ℕ) (es : Pairs) → Rises es → looked name (last_entries es) ≡ last_value (values_at name es)
last_looked name [] up = refl
last_looked name (e ∷ es) up = go (is_again e.0 es) refl (last_looked name es up.1) ∙ sym (ap last_value (values_cons name e es))
  where
    again : (es : Pairs) (t : Bool) → is_again e.0 es ≡ true → same_text e.0 name ≡ t → last_value (values_at name es) ≡ last_value (cond t (e.1 ∷ values_at name es) (values_at name es))
    again [] t is same = absurd (cc is)
    again (f ∷ es) false is same = refl
    again (f ∷ es) true is same =
        let key : f.0 ≡ e.0 = same_from_test f.0 e.0 (sym is) in
        let named : same_text f.0 name ≡ true = ap (λ k. same_text k name) key ∙ same in
        let values : values_at name (f ∷ es) ≡ f.1 ∷ values_at name es = values_cons name f es ∙ ap (λ t. cond t (f.1 ∷ values_at name es) (values_at name es)) named in
        ap last_value values ∙ sym (or_some (last_value (values_at name es)) (as_text f.1) (Some (as_text e.1)))
        ∙ sym (ap (λ vs. option_or (last_value vs) (Some (as_text e.1))) values)

    alone : (t : Bool) → is_again e.0 es ≡ false → same_text e.0 name ≡ t → cond t (Some (as_text e.1)) (last_value (values_at name es)) ≡ last_value (cond t (e.1 ∷ values_at name es) (values_at name es))
    alone false other same = refl
    alone true other same =
        let key : e.0 ≡ name = same_from_test e.0 name (sym same) in
        let none : values_at name es ≡ [] = subst (λ n. values_at n es ≡ []) key (none_behind e es up other) in
        sym (ap (λ vs. option_or (last_value vs) (Some (as_text e.1))) none)

    go : (t : Bool) → is_again e.0 es ≡ t → looked name (last_entries es) ≡ last_value (values_at name es)
        → looked name (cond t [] (with_text e ∷ []) ++ last_entries es) ≡ last_value (cond (same_text e.0 name) (e.1 ∷ values_at name es) (values_at name es))
    go true is rest = rest ∙ again es (same_text e.0 name) is refl
    go false is rest = ap (cond (same_text e.0 name) (Some (as_text e.1))) rest ∙ alone (same_text e.0 name) is refl

-- their keys ascend
behind_last : (low : List ℕ) (e : List ℕ × List ℕ) (es : Pairs) → Rises (e ∷ es) → order low e.0 ≡ Less → Behind low (last_entries (e ∷ es))
behind_last low e [] up less = (less, tt)
behind_last low e (f ∷ es) up less = go (same_text f.0 e.0) refl (behind_last low f es up.1) (behind_last e.0 f es up.1)
  where
    go : (t : Bool) → same_text f.0 e.0 ≡ t → (order low f.0 ≡ Less → Behind low (last_entries (f ∷ es))) → (order e.0 f.0 ≡ Less → Behind e.0 (last_entries (f ∷ es)))
        → Behind low (cond t [] (with_text e ∷ []) ++ last_entries (f ∷ es))
    go true is again rest = again (subst (λ k. order low k ≡ Less) (sym (same_from_test f.0 e.0 (sym is))) less)
    go false is again rest = (less, rest (less_up e.0 f.0 up.0.0 is))

last_ascend : (es : Pairs) → Rises es → Ascends (last_entries es)
last_ascend [] up = tt
last_ascend (e ∷ []) up = tt
last_ascend (e ∷ f ∷ es) up = go (same_text f.0 e.0) refl (last_ascend (f ∷ es) up.1)
  where
    go : (t : Bool) → same_text f.0 e.0 ≡ t → Ascends (last_entries (f ∷ es)) → Ascends (cond t [] (with_text e ∷ []) ++ last_entries (f ∷ es))
    go true is rest = rest
    go false is rest = behind_last e.0 f es up.1 (less_up e.0 f.0 up.0.0 is)

pub last_in_order : (ps us : Pairs) → IsInOrder ps us → last_entries us ≡ text_entries ps
last_in_order ps us ordered =
    known_by_names (last_entries us) (text_entries ps) (last_ascend us ordered.rises) (all_ascend (map with_text ps) [] tt)
    (λ name. last_looked name us ordered.rises ∙ ap last_value (ordered.same name) ∙ sym (last_of_values name ps) ∙ sym (look_ordered name (map with_text ps)))
