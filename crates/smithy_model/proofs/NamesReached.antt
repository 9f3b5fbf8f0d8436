-- The names that are reached, a shape at a time.
use Rattle.std.proofs.Common.{◌≡◌, ℕ, suc, ◌+◌, ◌-◌, ◌<◌, ◌≤◌, List, [], length, Option, Some, None, slice_get, sym, ap, ◌∙◌, arith}
use Rattle.std.specs.Option.{option_map_or}
use Rattle.serde_json.specs.Data.{Data}
use Rattle.smithy_model.specs.Json.{members_in}
use Rattle.smithy_model.specs.Prelude.{prelude_kinds}
use Rattle.smithy_model.specs.Reached.{with_names, with_targets}
use Rattle.smithy_model.specs.WrongModels.{members_named, names_next, names_from, names_reached}

-- with a step left
opened : (steps done : ℕ) (shapes : Data) (names : List (List ℕ)) → done < steps
    → names_from (steps - done) shapes done names ≡ names_next (λ name. names_from (steps - (done + 1)) shapes (done + 1) (with_targets names (members_named shapes name))) names (slice_get names done)
opened steps done shapes names l =
    let e : steps - done ≡ suc (steps - (done + 1)) = omega arith in
    ap (λ n. names_from n shapes done names) e

pub names_more : (steps done : ℕ) (shapes : Data) (names : List (List ℕ)) (name : List ℕ) (whole : List (List ℕ)) → done < steps → slice_get names done ≡ Some name
    → names_from (steps - done) shapes done names ≡ whole → names_from (steps - (done + 1)) shapes (done + 1) (with_targets names (members_named shapes name)) ≡ whole
names_more steps done shapes names name whole l at so_far =
    sym (opened steps done shapes names l ∙ ap (names_next (λ n. names_from (steps - (done + 1)) shapes (done + 1) (with_targets names (members_named shapes n))) names) at) ∙ so_far

pub names_none : (steps done : ℕ) (shapes : Data) (names whole : List (List ℕ)) → done < steps → slice_get names done ≡ None
    → names_from (steps - done) shapes done names ≡ whole → names ≡ whole
names_none steps done shapes names whole l at so_far =
    sym (opened steps done shapes names l ∙ ap (names_next (λ n. names_from (steps - (done + 1)) shapes (done + 1) (with_targets names (members_named shapes n))) names) at) ∙ so_far

pub names_end : (steps done : ℕ) (shapes : Data) (names whole : List (List ℕ)) → steps ≤ done → names_from (steps - done) shapes done names ≡ whole → names ≡ whole
names_end steps done shapes names whole l so_far =
    let e : steps - done ≡ 0 = omega arith in
    sym (ap (λ n. names_from n shapes done names) e) ∙ so_far

pub names_start : (shapes : Data) (entries : List (List ℕ × Data)) (roots names : List (List ℕ)) (steps : ℕ) → members_in shapes ≡ Some entries
    → steps ≡ (length entries + length prelude_kinds) + 1 → names ≡ with_names [] roots → names_from (steps - 0) shapes 0 names ≡ names_reached shapes roots
unfolding names_reached
names_start shapes entries roots names steps e s n =
    let count : steps - 0 ≡ suc (length entries + length prelude_kinds) = omega (arith, s) in
    ap (λ k. names_from k shapes 0 names) count ∙ ap (names_from (suc (length entries + length prelude_kinds)) shapes 0) n
    ∙ sym (ap (λ o. option_map_or (λ es. names_from (suc (length es + length prelude_kinds)) shapes 0 (with_names [] roots)) o []) e)
