-- Shapes that are reached, and the positions of their names.
use Rattle.std.proofs.Common.{◌≡◌, refl, sym, ap, ◌∙◌, cond, ℕ, suc, ◌+◌, Bool, true, false, ◌||◌, ◌&&◌, List, [], ◌∷◌, ◌++◌, append_assoc, length, map, find, arith, Option, Some, None, option_map, option_and_then, Bor, subst}
use Rattle.std.specs.List.{list_all, slice_get}
use Rattle.std.specs.Option.{is_some, option_or}
use Rattle.std.specs.BTreeMap.{BTreeMap, UpdatesBy}
use Rattle.std.specs.Cmp.Lexicographic.{slice_cmp}
use Rattle.std.specs.Ordering.{nat_cmp}
use Rattle.std.proofs.lemmas.Map.Text.{btree_map_updates_str}
use Rattle.std.proofs.lemmas.Slice.Eq.{bytes_eq-Decides}
use Rattle.std.proofs.lemmas.List.{append-nil, map-append}
use Rattle.serde_json.specs.Data.{Data}
use Rattle.smithy_ids.specs.ShapeIds.{has_hash}
use Rattle.smithy_model.specs.Names.{is}
use Rattle.smithy_model.specs.Json.{provided, members_in}
use Rattle.smithy_model.specs.Prelude.{prelude_kind, prelude_kinds}
use Rattle.smithy_model.specs.Shapes.{Shape, Member, shape_at, shape_in, shape_with, prelude_shape, own_shape_at, kind_in, members_by, found_at}
use Rattle.smithy_model.specs.GivenTraits.{traits_of}
use Rattle.smithy_ids.specs.declared.shape_type.ShapeType.{ShapeType}
use Rattle.smithy_schema.specs.Nodes.{Traits}
use Rattle.smithy_model.specs.Reached.{is_among, with_name, with_names, with_targets, names_of, reached_in, reached}
use Rattle.smithy_model.specs.views.NameView.{found_in, position_from, position_in, ArePositions}

pub among-position : (p : ℕ) (ns : List (List ℕ)) (q : List ℕ) → is_some (position_from p ns q) ≡ is_among ns q
among-position p [] q = refl
among-position p (n ∷ ns) q = go (is n q) (among-position (p + 1) ns q)
  where
    go : (b : Bool) → is_some (position_from (p + 1) ns q) ≡ is_among ns q → is_some (cond b (Some p) (position_from (p + 1) ns q)) ≡ b || is_among ns q
    go true h = refl
    go false h = h

-- a further name behind
position-apart : (p : ℕ) (ns : List (List ℕ)) (n q : List ℕ) → is n q ≡ false → position_from p (ns ++ n ∷ []) q ≡ position_from p ns q
position-apart p [] n q e = rw e refl
position-apart p (m ∷ ns) n q e = ap (cond (is m q) (Some p)) (position-apart (p + 1) ns n q e)

position-last : (p : ℕ) (ns : List (List ℕ)) (n q : List ℕ) → is n q ≡ true → is_among ns q ≡ false → position_from p (ns ++ n ∷ []) q ≡ Some (p + length ns)
position-last p [] n q e a = rw e (ap (λ k. Some k) (omega arith))
position-last p (m ∷ ns) n q e a = go (is m q) a (position-last (p + 1) ns n q e)
  where
    go : (b : Bool) → b || is_among ns q ≡ false → (is_among ns q ≡ false → position_from (p + 1) (ns ++ n ∷ []) q ≡ Some (p + 1 + length ns)) → cond b (Some p) (position_from (p + 1) (ns ++ n ∷ []) q) ≡ Some (p + length (m ∷ ns))
    go true h k = absurd (cc h)
    go false h k = k h ∙ ap (λ k. Some k) (omega arith)

-- a name that was not there is the last one now
pub positions_more : (ns : List (List ℕ)) (n : List ℕ) (p : ℕ) (old new : BTreeMap (Bor (List ℕ)) ℕ) → p ≡ length ns → is_among ns n ≡ false
    → UpdatesBy (λ x y. slice_cmp nat_cmp x.now y.now) (λ k. slice_cmp nat_cmp n k.now) old new (Some p)
    → ArePositions old ns → ArePositions new (ns ++ n ∷ [])
positions_more ns n p old new l a updates h q = btree_map_updates_str n old new (Some p) updates q ∙ go (is n q) refl
  where
    go : (b : Bool) → is n q ≡ b → cond b (Some p) (found_in old q) ≡ position_in (ns ++ n ∷ []) q
    go true e =
        let same : n ≡ q = (bytes_eq-Decides n q).0 e in
        let none : is_among ns q ≡ false = subst (λ m. is_among ns m ≡ false) same a in
        let here : 0 + length ns ≡ p = omega (arith, l) in
        sym (position-last 0 ns n q e none ∙ ap (λ k. Some k) here)
    go false e = h q ∙ sym (position-apart 0 ns n q e)

-- the names stay in front
pub with_name-front : (ns : List (List ℕ)) (n : List ℕ) → (rest : List (List ℕ)) × (with_name ns n ≡ ns ++ rest)
with_name-front ns n = go (is_among ns n)
  where
    go : (b : Bool) → (rest : List (List ℕ)) × (cond b ns (ns ++ n ∷ []) ≡ ns ++ rest)
    go true = ([], sym (append-nil ns))
    go false = (n ∷ [], refl)

pub with_names-front : (ns ms : List (List ℕ)) → (rest : List (List ℕ)) × (with_names ns ms ≡ ns ++ rest)
with_names-front ns [] = ([], sym (append-nil ns))
with_names-front ns (m ∷ ms) =
    let first = with_name-front ns m in
    let others = with_names-front (with_name ns m) ms in
    (first.0 ++ others.0, others.1 ∙ ap (λ xs. xs ++ others.0) first.1 ∙ append_assoc ns first.0 others.0)

pub met_already : (ns : List (List ℕ)) (q : List ℕ) (p : ℕ) → Some p ≡ position_in ns q → ns ≡ with_name ns q
met_already ns q p e =
    let among : is_among ns q ≡ true = sym (among-position 0 ns q) ∙ ap is_some (sym e) in
    rw among refl

pub absent : (ns : List (List ℕ)) (q : List ℕ) → None ≡ position_in ns q → is_among ns q ≡ false
absent ns q e = sym (among-position 0 ns q) ∙ ap is_some (sym e)

pub met_now : (ns : List (List ℕ)) (q : List ℕ) → is_among ns q ≡ false → ns ++ q ∷ [] ≡ with_name ns q
met_now ns q a = rw a refl

-- the names of the shapes that are found stand in front
pub record IsFront (found : List Shape) (names : List (List ℕ)) : Type 0 where
  pub rest : List (List ℕ)
  pub front : names ≡ names_of found ++ rest

behind : (found : List Shape) (rest : List (List ℕ)) → slice_get (names_of found ++ rest) (length found) ≡ slice_get rest 0
behind [] rest = refl
behind (s ∷ found) rest = behind found rest

-- the shape of the next name is found, and further names are met
pub front-more : (found : List Shape) (names ms : List (List ℕ)) (name : List ℕ) (s : Shape) → IsFront found names → slice_get names (length found) ≡ Some name → s.name ≡ name
    → IsFront (found ++ s ∷ []) (with_names names ms)
front-more found names ms name s h at is = go h.rest h.front
  where
    go : (rest : List (List ℕ)) → names ≡ names_of found ++ rest → IsFront (found ++ s ∷ []) (with_names names ms)
    go [] e = absurd (let none = sym (behind found []) ∙ ap (λ ns. slice_get ns (length found)) (sym e) ∙ at in cc)
    go (n ∷ rest) e =
        let here : n ≡ name = let same = sym (behind found (n ∷ rest)) ∙ ap (λ ns. slice_get ns (length found)) (sym e) ∙ at in cc in
        let more = with_names-front names ms in
        let first : names_of (found ++ s ∷ []) ≡ names_of found ++ n ∷ [] = map-append (λ x. x.name) found (s ∷ []) ∙ ap (λ m. names_of found ++ m ∷ []) (is ∙ sym here) in
        record {
          rest = rest ++ more.0;
          front = more.1 ∙ ap (λ ns. ns ++ more.0) e ∙ append_assoc (names_of found) (n ∷ rest) more.0
              ∙ sym (append_assoc (names_of found) (n ∷ []) (rest ++ more.0)) ∙ ap (λ ns. ns ++ (rest ++ more.0)) (sym first);
        }

-- each name has its shape
pub front-end : (found : List Shape) (names : List (List ℕ)) → IsFront found names → slice_get names (length found) ≡ None → names ≡ names_of found
front-end found names h at = go h.rest h.front
  where
    go : (rest : List (List ℕ)) → names ≡ names_of found ++ rest → names ≡ names_of found
    go [] e = e ∙ append-nil (names_of found)
    go (n ∷ rest) e = absurd (let some = sym (behind found (n ∷ rest)) ∙ ap (λ ns. slice_get ns (length found)) (sym e) ∙ at in cc)

-- one step of the walk
pub walk-more : (steps : ℕ) (d : Data) (found : List Shape) (names : List (List ℕ)) (name : List ℕ) (s : Shape) (all : Option (List Shape)) → slice_get names (length found) ≡ Some name → shape_at d name ≡ Some s
    → reached_in (suc steps) d found names ≡ all → reached_in steps d (found ++ s ∷ []) (with_targets names s.members) ≡ all
walk-more steps d found names name s all at is h = rw (at, is) at h

pub walk-refused : (steps : ℕ) (d : Data) (found : List Shape) (names : List (List ℕ)) (name : List ℕ) (all : Option (List Shape)) → slice_get names (length found) ≡ Some name → shape_at d name ≡ None
    → reached_in (suc steps) d found names ≡ all → all ≡ None
walk-refused steps d found names name all at is h = sym (rw (at, is) at h)

pub walk-end : (steps : ℕ) (d : Data) (found : List Shape) (names : List (List ℕ)) (all : Option (List Shape)) → slice_get names (length found) ≡ None → reached_in (suc steps) d found names ≡ all → all ≡ Some found
walk-end steps d found names all at h = sym (rw at at h)

-- a shape has the name by which it is found, and that is a full one
named_so : (ts : Option Traits) (ms : Option (List Member)) (make : Traits → List Member → Shape) (name : List ℕ) (s : Shape) → ((t : Traits) (m : List Member) → (make t m).name ≡ name)
    → option_and_then (λ t. option_map (make t) ms) ts ≡ Some s → s.name ≡ name
named_so None ms make name s h e = absurd (cc e)
named_so (Some t) None make name s h e = absurd (cc e)
named_so (Some t) (Some m) make name s h e = let same : make t m ≡ s = cc in ap (λ (x : Shape). x.name) (sym same) ∙ h t m

provided-some : {A : Type 0} (b : Bool) (o : Option A) (x : A) → provided b o ≡ Some x → (b ≡ true) × (o ≡ Some x)
provided-some false o x e = absurd (cc e)
provided-some true o x e = (refl, e)

shape_in-name : (name : List ℕ) (d : Data) (s : Shape) → shape_in name d ≡ Some s → s.name ≡ name
shape_in-name name d s e = go (kind_in d) (provided-some _ _ _ e).1
  where
    go : (o : Option ShapeType) → option_and_then (shape_with name d) o ≡ Some s → s.name ≡ name
    go None h = absurd (cc h)
    go (Some k) h = named_so (traits_of d) (members_by k d) (λ t m. record { name = name; kind = k; traits = t; members = m }) name s (λ t m. refl) h

own-name : (d : Data) (name : List ℕ) (s : Shape) → own_shape_at d name ≡ Some s → s.name ≡ name
own-name d name s e = go (found_at d name) e
  where
    go : (o : Option Data) → option_and_then (shape_in name) o ≡ Some s → s.name ≡ name
    go None h = absurd (cc h)
    go (Some v) h = shape_in-name name v s h

both-true : (a b : Bool) → a && b ≡ true → (a ≡ true) × (b ≡ true)
both-true true b e = (refl, e)
both-true false b e = absurd (cc e)

own-hash : (d : Data) (name : List ℕ) (s : Shape) → own_shape_at d name ≡ Some s → has_hash name ≡ true
own-hash d name s e = go (found_at d name) refl e
  where
    go : (o : Option Data) → found_at d name ≡ o → option_and_then (shape_in name) o ≡ Some s → has_hash name ≡ true
    go None f h = absurd (cc h)
    go (Some v) f h = (both-true (has_hash name) _ (both-true _ _ (provided-some _ _ _ f).0).0).0

-- a name of these kinds is a full one, where all are
kind-hash : (ps : List (List ℕ × ShapeType)) (name : List ℕ) (k : ShapeType) → list_all (λ p. has_hash p.0) ps ≡ true → option_map (λ p. p.1) (find (λ p. is p.0 name) ps) ≡ Some k → has_hash name ≡ true
kind-hash [] name k h e = absurd (cc e)
kind-hash (p ∷ ps) name k h e = go (is p.0 name) refl (both-true _ _ h) (kind-hash ps name k) e
  where
    go : (b : Bool) → is p.0 name ≡ b → (has_hash p.0 ≡ true) × (list_all (λ q. has_hash q.0) ps ≡ true)
        → (list_all (λ q. has_hash q.0) ps ≡ true → option_map (λ q. q.1) (find (λ q. is q.0 name) ps) ≡ Some k → has_hash name ≡ true)
        → option_map (λ q. q.1) (cond b (Some p) (find (λ q. is q.0 name) ps)) ≡ Some k → has_hash name ≡ true
    go true i h more f = ap has_hash (sym ((bytes_eq-Decides p.0 name).0 i)) ∙ h.0
    go false i h more f = more h.1 f

prelude-hash : (name : List ℕ) (k : ShapeType) → prelude_kind name ≡ Some k → has_hash name ≡ true
unfolding prelude_kind
prelude-hash name k e = kind-hash prelude_kinds name k refl e

pub shape_at-name : (d : Data) (name : List ℕ) (s : Shape) → shape_at d name ≡ Some s → s.name ≡ name
unfolding shape_at
shape_at-name d name s e = go (prelude_kind name) e
  where
    go : (o : Option ShapeType) → option_or (option_map (prelude_shape name) o) (own_shape_at d name) ≡ Some s → s.name ≡ name
    go None h = own-name d name s h
    go (Some k) h = let same : prelude_shape name k ≡ s = cc in ap (λ (x : Shape). x.name) (sym same)

pub shape_at-hash : (d : Data) (name : List ℕ) (s : Shape) → shape_at d name ≡ Some s → has_hash name ≡ true
unfolding shape_at
shape_at-hash d name s e = go (prelude_kind name) refl e
  where
    go : (o : Option ShapeType) → prelude_kind name ≡ o → option_or (option_map (prelude_shape name) o) (own_shape_at d name) ≡ Some s → has_hash name ≡ true
    go None f h = own-hash d name s h
    go (Some k) f h = prelude-hash name k f

-- one more shape, which has a full name
pub named-more : (found : List Shape) (s : Shape) (name : List ℕ) → s.name ≡ name → has_hash name ≡ true → list_all (λ x. has_hash x.name) found ≡ true → list_all (λ x. has_hash x.name) (found ++ s ∷ []) ≡ true
named-more [] s name same h e = rw (same, h) refl
named-more (x ∷ found) s name same h e = go (has_hash x.name) (named-more found s name same h) e
  where
    go : (b : Bool) → (list_all (λ y. has_hash y.name) found ≡ true → list_all (λ y. has_hash y.name) (found ++ s ∷ []) ≡ true)
        → b && list_all (λ y. has_hash y.name) found ≡ true → b && list_all (λ y. has_hash y.name) (found ++ s ∷ []) ≡ true
    go true more k = more k
    go false more k = absurd (cc k)

-- a model without shapes
pub not-reached : (d : Data) (roots : List (List ℕ)) → members_in d ≡ None → reached d roots ≡ None
unfolding reached
not-reached d roots e = rw e refl

-- So far these shapes are found of all that are reached from a name, and these names are met.
pub record IsWalked (d : Data) (roots : List (List ℕ)) (rest : ℕ) (found : List Shape) (names : List (List ℕ)) : Type 0 where
  pub walked : reached_in (suc rest) d found names ≡ reached d roots
  pub front : IsFront found names
  pub named : list_all (λ s. has_hash s.name) found ≡ true

pub walked-start : (d : Data) (entries : List (List ℕ × Data)) (roots : List (List ℕ)) (rest : ℕ) (found : List Shape) (names : List (List ℕ)) → Some entries ≡ members_in d → rest ≡ length entries + length prelude_kinds
    → found ≡ [] → names ≡ with_names [] roots → IsWalked d roots rest found names
unfolding reached
walked-start d entries roots rest found names e r f n = rw f (record { walked = rw (← e, r, n) refl; front = record { rest = names; front = refl }; named = refl })

pub walked-more : (d : Data) (roots : List (List ℕ)) (rest less : ℕ) (found : List Shape) (names : List (List ℕ)) (n : List ℕ) (s : Shape) (after : List Shape) (more : List (List ℕ)) → slice_get names (length found) ≡ Some n → shape_at d n ≡ Some s
    → rest ≡ suc less → after ≡ found ++ s ∷ [] → more ≡ with_targets names s.members → IsWalked d roots rest found names → IsWalked d roots less after more
walked-more d roots rest less found names n s after more at there r a m h =
    let same = shape_at-name d n s there in
    subst (λ ss. IsWalked d roots less ss more) (sym a)
    (subst (λ ns. IsWalked d roots less (found ++ s ∷ []) ns) (sym m)
    (record {
      walked = subst (λ k. reached_in k d (found ++ s ∷ []) (with_targets names s.members) ≡ reached d roots) r (walk-more rest d found names n s (reached d roots) at there h.walked);
      front = front-more found names (map (λ x. x.target) s.members) n s h.front at same;
      named = named-more found s n same (shape_at-hash d n s there) h.named;
    }))

-- a further shape and no step left
pub walked-short : (d : Data) (roots : List (List ℕ)) (rest : ℕ) (found : List Shape) (names : List (List ℕ)) (n : List ℕ) (s : Shape) → slice_get names (length found) ≡ Some n → shape_at d n ≡ Some s → rest ≡ 0
    → IsWalked d roots rest found names → reached d roots ≡ None
walked-short d roots rest found names n s at there r h =
    sym (subst (λ k. reached_in k d (found ++ s ∷ []) (with_targets names s.members) ≡ reached d roots) r (walk-more rest d found names n s (reached d roots) at there h.walked))
