-- What buffers of texts stand for, and one step of the reading of a path.
use Rattle.std.specs.Prelude.{◌≡◌, ℕ, Bool, List, map, length, drop, Option, Some, None, Vec, option_map, option_and_then}
use Rattle.std.specs.Borrow.{Bor}
use Rattle.std.specs.BTreeMap.{BTreeMap, get_by}
use Rattle.std.specs.Cmp.Lexicographic.{slice_cmp}
use Rattle.std.specs.Global.{Global}
use Rattle.std.specs.Ordering.{nat_cmp}
use Rattle.smithy_types.specs.Texts.{found}
use Rattle.smithy_strings.specs.Escapes.{decoded}
use Rattle.smithy_schema.specs.declared.first_hole.CutHole.{CutHole}
use Rattle.smithy_binding.specs.views.CutTemplate.{behind_holes, literal_alone}
use Rattle.smithy_recovery.specs.declared.path_texts.LabelText.{LabelText}
use Rattle.smithy_recovery.specs.declared.path_texts.LabelTexts.{LabelTexts}
use Rattle.smithy_recovery.specs.PathParts.{behind_front, part_by, path_texts}

-- a label with its text
abbrev pub label_seen : LabelText → List ℕ × List ℕ
label_seen l = (l.name.now, l.text)

abbrev pub labels_seen : Vec LabelText Global → List (List ℕ × List ℕ)
labels_seen labels = map label_seen labels.items

-- the texts of holes in a path, the last of them before a last literal
abbrev pub texts_cut : List CutHole → (last path : List ℕ) → Option (List (List ℕ × List ℕ))
texts_cut holes last path = path_texts (behind_holes holes (literal_alone last)) path

-- the text that a map has under a name
unfoldable pub text_in_map : BTreeMap (Bor (List ℕ)) (Bor (List ℕ)) → List ℕ → Option (List ℕ)
text_in_map texts name = option_map (λ t. t.now) (get_by (λ k. slice_cmp nat_cmp name k.now) texts)

-- the text of the first of these labels, by a map of them where there is one
abbrev pub found_by : Option (BTreeMap (Bor (List ℕ)) (Bor (List ℕ))) → List LabelText → List ℕ → Option (List ℕ)
found_by (Some texts) labels name = text_in_map texts name
found_by None labels name = found name (map label_seen labels)

-- the text under a name
abbrev pub text_under : LabelTexts → List ℕ → Option (List ℕ)
text_under t = found_by t.texts t.labels.now

-- under each name the map has what these labels have first
abbrev pub IsMapOf : List (List ℕ × List ℕ) → BTreeMap (Bor (List ℕ)) (Bor (List ℕ)) → Type 0
IsMapOf labels texts = (name : List ℕ) → text_in_map texts name ≡ found name labels

-- under each name stands what these labels have first
abbrev pub HasTexts : List (List ℕ × List ℕ) → LabelTexts → Type 0
HasTexts labels texts = (name : List ℕ) → text_under texts name ≡ found name labels

-- a hole's part of a path, and what stands behind that
abbrev pub part_behind : (greedy : Bool) → (literal path : List ℕ) → Option (List ℕ × List ℕ)
part_behind greedy literal path = option_map (λ part. (part, drop (length part) path)) (part_by greedy literal path)

-- a hole's text in a path that begins with the literal before the hole, and what stands behind its part
abbrev pub text_behind : (front : List ℕ) → (greedy : Bool) → (literal path : List ℕ) → Option (List ℕ × List ℕ)
text_behind front greedy literal path =
    option_and_then
    (λ text. option_and_then (λ (x : List ℕ × List ℕ). option_map (λ t. (t, x.1)) (decoded x.0)) (part_behind greedy literal text))
    (behind_front front path)

abbrev pub text_of_hole : CutHole → (literal path : List ℕ) → Option (List ℕ × List ℕ)
text_of_hole hole literal path = text_behind hole.literal.now hole.is_greedy literal path
