-- The tests of a template, a hole at a time.
use Rattle.smithy_binding.proofs.Common.{◌≡◌, ◌≢◌, refl, ap, sym, ◌∙◌, ℕ, suc, ◌+◌, ◌-◌, ◌<◌, ◌≤◌, Bool, true, false, not, cond, ◌&&◌, ◌==◌, List, [], ◌∷◌, ◌++◌, length, get_or, drop, arith, if◌then◌else◌, Option, Some, None, is_none, is_some, ne_eqb, eq-eqb, map, unwrap_or, after_last, suffix_len, list_all, Bor, option_copied, bytes_eq, eqb-true, suffix_len_is, sum_by-append, length-filter, length-map, same_text, Hole, Template, holes_of, CutHole, holes_named, hole_shown, behind_holes, literal_alone, template_shown, is_greedy_last_behind, once_mark, times_named, is_close}
use Rattle.std.specs.Cmp.Lexicographic.{same_text as same_from_test}
use Rattle.smithy_binding.specs.declared.template.CutTemplate.{CutTemplate}

-- no `}` stands from this place on, and one stands before it unless it is the start
pub after_last-at : (xs : List ℕ) (n : ℕ) → n ≤ length xs → ((k : ℕ) → n ≤ k → k < length xs → get_or xs k 0 ≢ 125) → (0 < n → get_or xs (n - 1) 0 ≡ 125) → drop n xs ≡ after_last is_close xs
after_last-at xs n within others close =
    let e : suffix_len (λ x. not (x == 125)) xs ≡ length xs - n =
    suffix_len_is (λ x. not (x == 125)) xs n 0 within (λ k low high. ap not (ne_eqb (get_or xs k 0) 125 (others k low high))) (λ low. ap not (eq-eqb (get_or xs (n - 1) 0) 125 (close low))) in
    let back : length xs - (length xs - n) ≡ n = omega arith in
    rw (e, back) refl

-- a hole behind a greedy one
greedy-then : (h : Hole) (hs : List Hole) → is_greedy_last_behind true (h ∷ hs) ≡ false
greedy-then h hs = let e : (suc (length hs) == 0) ≡ false = ne_eqb (suc (length hs)) 0 (λ e. omega (arith, e)) in rw e refl

times-more : (name : List ℕ) (hs : List Hole) (h : Hole) → times_named name (hs ++ h ∷ []) ≡ times_named name hs + cond (same_text h.name name) 1 0
times-more name hs h =
    let e : times_named name (hs ++ h ∷ []) ≡ times_named name hs + times_named name (h ∷ []) = sum_by-append (λ (h : Hole). cond (same_text h.name name) 1 0) hs (h ∷ []) in
    e ∙ one (times_named name hs) (cond (same_text h.name name) 1 0)
  where
    one : (n k : ℕ) → n + (0 + k) ≡ n + k
    one n k = omega arith

-- the marks of one more hole
pub marks-more : (hs : List Hole) (h : Hole) (before after : List ℕ → Option Bool) → ((name : List ℕ) → before name ≡ once_mark (times_named name hs))
    → ((name : List ℕ) → after name ≡ cond (bytes_eq h.name name) (Some (is_none (before h.name))) (before name))
    → (name : List ℕ) → after name ≡ once_mark (times_named name (hs ++ h ∷ []))
marks-more hs h before after old new name = new name ∙ rw (times-more name hs h) (go (same_text h.name name) refl)
  where
    none_yet : (n : ℕ) → Some (is_none (once_mark n)) ≡ once_mark (n + 1)
    none_yet n = step (n == 0) refl
      where
        step : (b : Bool) → (n == 0) ≡ b → Some (is_none (if b then None else Some (n == 1))) ≡ once_mark (n + 1)
        step true e = let z : n ≡ 0 = eqb-true n 0 e in rw z refl
        step false e =
            let more : (n + 1 == 0) ≡ false = ne_eqb (n + 1) 0 (λ q. omega (arith, q)) in
            let two : (n + 1 == 1) ≡ false = ne_eqb (n + 1) 1 (λ q. let z : n ≡ 0 = omega (arith, q) in let t : true ≡ false = sym (eq-eqb n 0 z) ∙ e in cc t) in
            rw (more, two) refl

    go : (b : Bool) → same_text h.name name ≡ b → cond b (Some (is_none (before h.name))) (before name) ≡ once_mark (times_named name hs + cond b 1 0)
    go true e =
        let same : h.name ≡ name = same_from_test h.name name (sym e) in
        rw (← same) (ap (λ o. Some (is_none o)) (old h.name) ∙ none_yet (times_named h.name hs))
    go false e = old name ∙ ap once_mark (plus_none (times_named name hs))
      where
        plus_none : (n : ℕ) → n ≡ n + 0
        plus_none n = omega arith

holes-shown : (hs : List CutHole) (end : Template) → end.rest ≡ [] → holes_of (behind_holes hs end) ≡ map hole_shown hs
holes-shown [] end e = ap (λ ps. map (λ p. p.hole) ps) e
holes-shown (h ∷ hs) end e = ap (λ (gs : List Hole). hole_shown h ∷ gs) (holes-shown hs end e)

-- a name that is marked once is that of one hole
pub one_hole : (t : CutTemplate) (name : List ℕ) → unwrap_or (once_mark (times_named name (map hole_shown t.holes.items))) false ≡ (length (holes_named name (template_shown t)) == 1)
one_hole t name =
    rw (length-filter (λ h. same_text h.name name) (holes_of (template_shown t)), holes-shown t.holes.items (literal_alone t.last.now) refl) (go (times_named name (map hole_shown t.holes.items)))
  where
    go : (n : ℕ) → unwrap_or (once_mark n) false ≡ (n == 1)
    go n = step (n == 0) refl
      where
        step : (b : Bool) → (n == 0) ≡ b → unwrap_or (if b then None else Some (n == 1)) false ≡ (n == 1)
        step true e = let z : n ≡ 0 = eqb-true n 0 e in rw z refl
        step false e = refl

-- some hole stands behind a greedy one
pub greedy-behind : (hs : List CutHole) (end : Template) → 0 < length hs → is_greedy_last_behind true (holes_of (behind_holes hs end)) ≡ false
greedy-behind [] end l = absurd (omega (arith, l))
greedy-behind (h ∷ hs) end l = greedy-then (hole_shown h) (holes_of (behind_holes hs end))

-- a look-up that finds nothing
pub is_none-copied : {X : Type 0} (o : Option (Bor X)) (b : Bool) → is_some o ≡ not b → b ≡ is_none (option_copied o)
is_none-copied None true e = refl
is_none-copied None false e = absurd (cc e)
is_none-copied (Some x) true e = absurd (cc e)
is_none-copied (Some x) false e = refl

-- two tests that agree
pub list_all-same : {X : Type 0} (f g : X → Bool) → ((x : X) → f x ≡ g x) → (xs : List X) → list_all f xs ≡ list_all g xs
list_all-same f g same [] = refl
list_all-same f g same (x ∷ xs) = λ i. same x i && list_all-same f g same xs i

pub holes-count : (t : CutTemplate) → length (holes_of (template_shown t)) ≡ length t.holes.items
holes-count t = ap length (holes-shown t.holes.items (literal_alone t.last.now) refl) ∙ length-map t.holes.items hole_shown

-- the tests of a clear template in the order of the code
pub path_false : (u f w a l c g : Bool) → (f && w && a) ≡ false → false ≡ (not u && f && w && a && (l && c) && g)
path_false true f w a l c g e = refl
path_false false f w a l c g e = rw e refl

pub path_true : (u f w a l c g : Bool) → u ≡ false → (f && w && a) ≡ true → (l && c && g) ≡ (not u && f && w && a && (l && c) && g)
path_true u f w a l c g e h = rw (e, h) refl

pub list_all-map : {X Y : Type 0} (f : Y → Bool) (g : X → Y) (xs : List X) → list_all f (map g xs) ≡ list_all (λ x. f (g x)) xs
list_all-map f g [] = refl
list_all-map f g (x ∷ xs) = ap (λ b. f (g x) && b) (list_all-map f g xs)
