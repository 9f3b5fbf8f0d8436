-- Members that are put once more, one after another.
use Rattle.std.proofs.Common.{◌≡◌, refl, ap, ◌∙◌, ℕ, List, [], ◌∷◌, Less, Greater, nat_cmp}
use Rattle.std.proofs.lemmas.Cmp.{nat_list_cmp_total}
use Rattle.std.specs.Cmp.Lexicographic.{slice_cmp}
use Rattle.std.specs.List.{AllByRecursion}
use Rattle.std.specs.List.Sorted.{IsStrictlySortedBy}
use Rattle.std.specs.Map.{keys_of}
use Rattle.std.specs.Ordering.{ordering_reverse}
use Rattle.smithy_types.specs.Documents.{Document, Members, no_members, member, put, put_all, members_of, list_of_members}
use Rattle.smithy_types.specs.Maps.{IsOrdered}

-- the first stays first where all names that are put come later
first_stays : (k : List ℕ) (d : Document) (ms : Members) (ps : List (List ℕ × Document)) → AllByRecursion (λ name. slice_cmp nat_cmp k name ≡ Less) (keys_of ps)
    → put_all ps (member k d ms) ≡ member k d (put_all ps ms)
first_stays k d ms [] later = refl
first_stays k d ms (p ∷ ps) later =
    let behind : slice_cmp nat_cmp p.0 k ≡ Greater = nat_list_cmp_total.antisymm p.0 k ∙ ap ordering_reverse later.0 in
    rw behind (first_stays k d (put p.0 p.1 ms) ps later.1)

-- members in byte order of their names are the object of themselves
pub again : (ms : Members) → IsOrdered (list_of_members ms) → members_of (list_of_members ms) ≡ ms
unfolding IsStrictlySortedBy
again no_members ordered = refl
again (member k d ms) ordered = first_stays k d no_members (list_of_members ms) ordered.0 ∙ ap (member k d) (again ms ordered.1)
