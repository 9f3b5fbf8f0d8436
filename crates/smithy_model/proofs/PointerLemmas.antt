-- Steps from the outside in, of steps innermost first.
use Rattle.std.proofs.Common.{◌≡◌, ℕ, ◌+◌, ◌-◌, ◌<◌, ◌≤◌, List, [], ◌∷◌, ◌++◌, length, take, get_or, reverse, Option, Some, None, sym, ap, ◌∙◌, refl, append_assoc, arith}
use Rattle.std.specs.Option.{option_map_or}
use Rattle.std.proofs.lemmas.List.{append-nil, reverse-append, take_all, take_more}
use Rattle.serde_json.specs.Data.{Data}
use Rattle.smithy_model.specs.declared.wrong.Step.{Step}
use Rattle.smithy_model.specs.Wrong.{token, pointer, led_from, leading_from}

-- the step at a position is further out than those of earlier positions
front_at : (steps : List Step) (i : ℕ) (step : Step) → i < length steps → step ≡ get_or steps i step → reverse (take (i + 1) steps) ≡ step ∷ reverse (take i steps)
front_at steps i step l is =
    ap reverse (take_more steps i step l) ∙ reverse-append (take i steps) (get_or steps i step ∷ []) ∙ ap (λ s. s ∷ reverse (take i steps)) (sym is)

pub pointer_more : (steps : List Step) (i left : ℕ) (step : Step) (text slashed told whole : List ℕ) → i + 1 ≡ left → i < length steps → step ≡ get_or steps i step
    → slashed ≡ text ++ 47 ∷ [] → told ≡ slashed ++ token step → text ++ pointer (reverse (take left steps)) ≡ whole → told ++ pointer (reverse (take i steps)) ≡ whole
pointer_more steps i left step text slashed told whole e l is begun ended so_far =
    ap (λ t. t ++ pointer (reverse (take i steps))) (ended ∙ ap (λ t. t ++ token step) begun)
    ∙ append_assoc (text ++ 47 ∷ []) (token step) (pointer (reverse (take i steps))) ∙ append_assoc text (47 ∷ []) (token step ++ pointer (reverse (take i steps)))
    ∙ ap (λ ss. text ++ pointer ss) (sym (front_at steps i step l is)) ∙ ap (λ n. text ++ pointer (reverse (take n steps))) e ∙ so_far

pub pointer_start : (steps : List Step) (left : ℕ) (text : List ℕ) → length steps ≤ left → text ≡ [] → text ++ pointer (reverse (take left steps)) ≡ pointer (reverse steps)
pointer_start steps left text l e = ap (λ t. t ++ pointer (reverse (take left steps))) e ∙ ap (λ ss. pointer (reverse ss)) (take_all left steps l)

pub pointer_end : (steps : List Step) (left : ℕ) (text whole : List ℕ) → left ≤ 0 → text ++ pointer (reverse (take left steps)) ≡ whole → text ≡ whole
pointer_end steps left text whole l so_far =
    let none : left ≡ 0 = omega arith in
    sym (append-nil text) ∙ ap (λ n. text ++ pointer (reverse (take n steps))) (sym none) ∙ so_far

-- the last of the steps is the outermost
pub popped : (before after : List Step) (step : Step) → before ≡ after ++ step ∷ [] → reverse before ≡ step ∷ reverse after
popped before after step e = ap reverse e ∙ reverse-append after (step ∷ [])

-- a step by what it leads to, and those behind it
abbrev led_by : Step → List Step → Option (Option Data) → List Step
led_by step rest o = option_map_or (λ next. step ∷ leading_from next rest) o []

led_here : (here : Option Data) (step : Step) (rest : List Step) → leading_from here (step ∷ rest) ≡ led_by step rest (led_from here step)
led_here None step rest = refl
led_here (Some d) step rest = refl

pub led_stop : (here : Option Data) (led rest steps whole : List Step) (step : Step) → steps ≡ step ∷ rest → None ≡ led_from here step → led ++ leading_from here steps ≡ whole → led ≡ whole
led_stop here led rest steps whole step e none so_far =
    sym (append-nil led) ∙ ap (λ o. led ++ led_by step rest o) none ∙ ap (λ ss. led ++ ss) (sym (led_here here step rest)) ∙ ap (λ ss. led ++ leading_from here ss) (sym e) ∙ so_far

pub led_more : (here next : Option Data) (led rest steps whole : List Step) (step : Step) → steps ≡ step ∷ rest → Some next ≡ led_from here step → led ++ leading_from here steps ≡ whole
    → (led ++ step ∷ []) ++ leading_from next rest ≡ whole
led_more here next led rest steps whole step e some so_far =
    append_assoc led (step ∷ []) (leading_from next rest) ∙ ap (λ o. led ++ led_by step rest o) some ∙ ap (λ ss. led ++ ss) (sym (led_here here step rest))
    ∙ ap (λ ss. led ++ leading_from here ss) (sym e) ∙ so_far

led_no_more : (here : Option Data) → leading_from here [] ≡ []
led_no_more None = refl
led_no_more (Some d) = refl

pub led_end : (here : Option Data) (led steps whole : List Step) → steps ≡ [] → led ++ leading_from here steps ≡ whole → led ≡ whole
led_end here led steps whole e so_far = sym (append-nil led) ∙ sym (ap (λ ss. led ++ ss) (ap (leading_from here) e ∙ led_no_more here)) ∙ so_far

-- steps of which there are none
pub no_steps : (steps : List Step) → length steps ≡ 0 → steps ≡ []
no_steps [] e = refl
no_steps (step ∷ steps) e = absurd (omega (arith, e))
