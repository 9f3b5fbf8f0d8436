-- An entry whose path fits a target stands at a node that the target leads to.
use Prim.Native.Nat.{zero, suc}
use Rattle.smithy_router.proofs.Common.{◌≡◌, subst, ℕ, Bool, true, false, List, [], ◌∷◌, ◌++◌, ◌||◌, Option, Some, None, Contains, and_parts, Contains-append_left, Contains-append_right, same_text, Segment, Literal, Hole, fits_segment, fits_path, child_at, ends_at, ends_behind, first_segments, has_more, led_to, Node}
use Rattle.smithy_router.proofs.Tests.{same_text_is}
use Rattle.smithy_router.proofs.Growing.{contains_none}

pub leads_to : (nodes : List Node) (is_greedy : Bool) (n : ℕ) (ps : List Segment) (place : Option ℕ) (ss : List (List ℕ)) (number : ℕ) → fits_path is_greedy ps ss ≡ true
    → Contains (ends_behind nodes place (first_segments n ps) (has_more n ps || is_greedy)) number → Contains (led_to nodes place ss) number
leads_to nodes is_greedy n ps None ss number fits h = contains_none number h
leads_to nodes false n [] (Some place) [] number fits h = h
leads_to nodes false n [] (Some place) (s ∷ ss) number fits h = absurd (cc fits)
leads_to nodes true n [] (Some place) [] number fits h = absurd (cc fits)
leads_to nodes true n [] (Some place) (s ∷ ss) number fits h =
    Contains-append_left (ends_at nodes place true) (led_to nodes (child_at nodes place (Literal s)) ss ++ led_to nodes (child_at nodes place Hole) ss) number h
leads_to nodes is_greedy n (p ∷ ps) (Some place) [] number fits h = absurd (cc fits)
leads_to nodes is_greedy zero (p ∷ ps) (Some place) (s ∷ ss) number fits h =
    Contains-append_left (ends_at nodes place true) (led_to nodes (child_at nodes place (Literal s)) ss ++ led_to nodes (child_at nodes place Hole) ss) number h
leads_to nodes is_greedy (suc n) (Literal text ∷ ps) (Some place) (s ∷ ss) number fits h =
    let both = and_parts (same_text text s) (fits_path is_greedy ps ss) fits in
    let is : text ≡ s = same_text_is text s both.0 in
    let below = leads_to nodes is_greedy n ps (child_at nodes place (Literal text)) ss number both.1 h in
    let literal = subst (λ (t : List ℕ). Contains (led_to nodes (child_at nodes place (Literal t)) ss) number) is below in
    Contains-append_right (ends_at nodes place true) (led_to nodes (child_at nodes place (Literal s)) ss ++ led_to nodes (child_at nodes place Hole) ss) number
    (Contains-append_left (led_to nodes (child_at nodes place (Literal s)) ss) (led_to nodes (child_at nodes place Hole) ss) number literal)
leads_to nodes is_greedy (suc n) (Hole ∷ ps) (Some place) (s ∷ ss) number fits h =
    let both = and_parts (fits_segment Hole s) (fits_path is_greedy ps ss) fits in
    let below = leads_to nodes is_greedy n ps (child_at nodes place Hole) ss number both.1 h in
    Contains-append_right (ends_at nodes place true) (led_to nodes (child_at nodes place (Literal s)) ss ++ led_to nodes (child_at nodes place Hole) ss) number
    (Contains-append_right (led_to nodes (child_at nodes place (Literal s)) ss) (led_to nodes (child_at nodes place Hole) ss) number below)
