-- A template, cut and filled hole by hole.
use Rattle.smithy_binding.proofs.Common.{◌≡◌, refl, ap, sym, ◌∙◌, ℕ, ◌+◌, ◌<◌, Bool, true, false, List, [], ◌∷◌, ◌++◌, append_assoc, length, Result, Ok, Err, if◌then◌else◌, arith, not, Option, Some, None, append-nil, length-append, has_byte, then_try, then_give, Hole, Template, behind_hole, literal_alone, fill_rest, filled_by, Fault, filled_fault, long_fault, too_long, unless, is_text, is_short_target, separator, target_behind, ◌==◌, ne_eqb, text_in}
use Rattle.smithy_binding.specs.Filling.{filled_hole}
use Rattle.std.proofs.lemmas.Bool.Decides.{nat_tests}
use Rattle.std.specs.Result.{result_err}

-- a hole further
pub fill-more : (texts : List ℕ → Option (List ℕ)) (out out2 literal : List ℕ) (hole : Hole) (t u : Template) → u ≡ behind_hole literal hole t
    → then_give (text_in texts hole) (λ x. (out ++ literal) ++ x) ≡ Ok out2
    → then_give (filled_by texts u) (λ x. out ++ x) ≡ then_give (filled_by texts t) (λ x. out2 ++ x)
fill-more texts out out2 literal hole t u e given = rw e (go (text_in texts hole) given (fill_rest texts t.rest))
  where
    go : (text : Result (List ℕ) (List ℕ)) → then_give text (λ x. (out ++ literal) ++ x) ≡ Ok out2 → (later : Result (List ℕ) (List ℕ))
        → then_give (then_give (then_try text (λ x. then_give later (λ y. x ++ t.first ++ y))) (λ y. literal ++ y)) (λ y. out ++ y) ≡ then_give (then_give later (λ y. t.first ++ y)) (λ y. out2 ++ y)
    go (Err h) given later = absurd (cc given)
    go (Ok x) given (Err h) = refl
    go (Ok x) given (Ok y) =
        let made : (out ++ literal) ++ x ≡ out2 = cc given in
        ap (λ (z : List ℕ). Ok z)
        (ap (λ (z : List ℕ). out ++ (literal ++ z)) (append_assoc x t.first y)
        ∙ sym (append_assoc out literal (x ++ (t.first ++ y))) ∙ sym (append_assoc (out ++ literal) x (t.first ++ y)) ∙ ap (λ (z : List ℕ). z ++ (t.first ++ y)) made)

-- a hole without a text
pub fill-stop : (texts : List ℕ → Option (List ℕ)) (out literal name : List ℕ) (hole : Hole) (t u : Template) → u ≡ behind_hole literal hole t
    → text_in texts hole ≡ Err name → then_give (filled_by texts u) (λ x. out ++ x) ≡ Err name
fill-stop texts out literal name hole t u e given = rw (e, given) refl

-- no further hole
pub fill-end : (texts : List ℕ → Option (List ℕ)) (out rest : List ℕ) (u : Template) → u ≡ literal_alone rest → then_give (filled_by texts u) (λ x. out ++ x) ≡ Ok (out ++ rest)
fill-end texts out rest u e = rw e (ap (λ (x : List ℕ). Ok (out ++ x)) (append-nil rest))

-- a hole that has a text is not the one that lacks it
pub missing-more : (texts : List ℕ → Option (List ℕ)) (literal : List ℕ) (hole : Hole) (t u : Template) → u ≡ behind_hole literal hole t → is_text (texts hole.name) ≡ true
    → result_err (filled_by texts u) ≡ result_err (filled_by texts t)
missing-more texts literal hole t u e has = rw e (go (texts hole.name) has (fill_rest texts t.rest))
  where
    go : (text : Option (List ℕ)) → is_text text ≡ true → (later : Result (List ℕ) (List ℕ))
        → result_err (then_give (then_try (filled_hole hole text) (λ x. then_give later (λ y. x ++ t.first ++ y))) (λ y. literal ++ y)) ≡ result_err (then_give later (λ y. t.first ++ y))
    go None has later = absurd (cc has)
    go (Some []) has later = absurd (cc has)
    go (Some (b ∷ text)) has (Err h) = refl
    go (Some (b ∷ text)) has (Ok y) = refl

-- and one that has none is
pub missing-here : (texts : List ℕ → Option (List ℕ)) (literal : List ℕ) (hole : Hole) (t u : Template) → u ≡ behind_hole literal hole t → is_text (texts hole.name) ≡ false
    → result_err (filled_by texts u) ≡ Some hole.name
missing-here texts literal hole t u e lacks = rw e (go (texts hole.name) lacks)
  where
    go : (text : Option (List ℕ)) → is_text text ≡ false
        → result_err (then_give (then_try (filled_hole hole text) (λ x. then_give (fill_rest texts t.rest) (λ y. x ++ t.first ++ y))) (λ y. literal ++ y)) ≡ Some hole.name
    go None lacks = refl
    go (Some []) lacks = refl
    go (Some (b ∷ text)) lacks = let q : true ≡ false = sym (ap not (ne_eqb (length (b ∷ text)) 0 (λ h. omega arith))) ∙ lacks in absurd (cc q)

pub missing-end : (texts : List ℕ → Option (List ℕ)) (rest : List ℕ) (u : Template) → u ≡ literal_alone rest → result_err (filled_by texts u) ≡ None
missing-end texts rest u e = rw e refl

-- what is too long stays so with more behind it

past : (text : List ℕ) → 65534 < length text → is_short_target text ≡ false
past text long = grind (arith, nat_tests)

past-is : (text : List ℕ) → is_short_target text ≡ false → 65534 < length text
past-is text e = grind (arith, nat_tests)

longer : (text more : List ℕ) → 65534 < length text → is_short_target (text ++ more) ≡ false
longer text more long = let n : length (text ++ more) ≡ length text + length more = length-append text more in past (text ++ more) (omega (arith, n, long))

behind-long : (path query : List ℕ) → is_short_target path ≡ false → is_short_target (target_behind path query) ≡ false
behind-long path [] e = e
behind-long path (b ∷ query) e = go (b == 38)
  where
    go : (first : Bool) → is_short_target (if first then path ++ (separator (has_byte 63 path) ++ query) else path) ≡ false
    go true = longer path (separator (has_byte 63 path) ++ query) (past-is path e)
    go false = e

-- a target that is too long before a hole has the fault of what is left
pub long-before : (rest whole : Result (List ℕ) (List ℕ)) (out : List ℕ) → 65534 < length out → then_give rest (λ t. out ++ t) ≡ whole → (f : Fault) → f ≡ long_fault rest → filled_fault whole ≡ Some f
long-before (Err h) whole out long e f same = sym (ap filled_fault e) ∙ ap (λ (x : Fault). Some x) (sym same)
long-before (Ok t) whole out long e f same = sym (ap filled_fault e) ∙ ap (λ b. unless b too_long) (longer out t long) ∙ ap (λ (x : Fault). Some x) (sym same)

-- the fault of a filled template is that of the target
pub filled-given : (r : Result (List ℕ) (List ℕ)) (query : List ℕ) (f : Fault) → filled_fault r ≡ Some f → filled_fault (then_give r (λ path. target_behind path query)) ≡ Some f
filled-given (Err h) query f e = e
filled-given (Ok path) query f e = go (is_short_target path) refl e
  where
    go : (b : Bool) → is_short_target path ≡ b → unless b too_long ≡ Some f → unless (is_short_target (target_behind path query)) too_long ≡ Some f
    go true short e = absurd (cc e)
    go false short e = ap (λ b. unless b too_long) (behind-long path query short) ∙ e

pub ruleset filling = (fill-more, fill-end)

pub ruleset missing = (missing-more, missing-here, missing-end)
