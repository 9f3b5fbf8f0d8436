-- The tests of a template, a hole at a time.
use Rattle.std.specs.Prelude.{◌≡◌, ℕ, unwrap_or, Bool, false, not, ◌&&◌, ◌||◌, ◌==◌, List, length, count_by, Option, Some, None, if◌then◌else◌}
use Rattle.smithy_binding.specs.Words.{BTreeMap, get_by, Bor, slice_cmp, nat_cmp, list_all, is_legal_target, same_text, Hole, Template}
use Rattle.smithy_binding.specs.Clear.{begins_segment, are_whole_segments, has_whole_authority, holes_named, is_greedy_last}

-- every hole of the template is a whole segment, and so is one before it, if there is one
abbrev pub are_whole_behind : Bool → Template → Bool
are_whole_behind is_behind t = (not is_behind || begins_segment t.first) && are_whole_segments t.first t.rest

-- only the last hole may be greedy, the one before these included
abbrev pub is_greedy_last_behind : Bool → List Hole → Bool
is_greedy_last_behind is_greedy hs = (not is_greedy || (length hs == 0)) && is_greedy_last hs

-- none, one, or more
abbrev pub once_mark : ℕ → Option Bool
once_mark n = if n == 0 then None else Some (n == 1)

-- how often the holes have this name
abbrev pub times_named : List ℕ → List Hole → ℕ
times_named name hs = count_by (λ h. same_text h.name name) hs

-- the mark of a name
abbrev pub mark_in : BTreeMap (Bor (List ℕ)) Bool → List ℕ → Option Bool
mark_in marks name = get_by (λ k. slice_cmp nat_cmp name k.now) marks

-- the name is marked as that of one hole
unfoldable pub is_marked_once : BTreeMap (Bor (List ℕ)) Bool → List ℕ → Bool
is_marked_once marks name = unwrap_or (mark_in marks name) false

-- the marks of the names of these holes
abbrev pub MarksOnce : List Hole → BTreeMap (Bor (List ℕ)) Bool → Type 0
MarksOnce hs marks = (name : List ℕ) → mark_in marks name ≡ once_mark (times_named name hs)

-- each of the names is that of one hole
abbrev pub have_one_hole : List (Bor (List ℕ)) → Template → Bool
have_one_hole names template = list_all (λ name. length (holes_named name.now template) == 1) names

-- with `a` in each hole it is this legal target, and the holes are whole segments of its path
abbrev pub is_clear_path : Template → List ℕ → Bool
is_clear_path template filled = is_legal_target filled && are_whole_segments template.first template.rest && has_whole_authority template

-- each label has one hole, of so many, and only the last is greedy
abbrev pub are_clear_holes : List Hole → Bool → ℕ → Bool
are_clear_holes hs have_one count = have_one && (length hs == count) && is_greedy_last hs
