-- The texts of labels, found by name.
use Rattle.std.specs.Prelude.{◌≡◌, ℕ, Bool, false, not, ◌==◌, List, ◌++◌, length, map, String, string_bytes, Option, Some, None, option_map, Result, Ok, Err}
use Rattle.smithy_binding.specs.Words.{Bor, BTreeMap, get_by, slice_cmp, nat_cmp, option_map_or, Template, found, then_give, SerdeError}
use Rattle.std.specs.Result.{result_err}
use Rattle.smithy_binding.specs.Faults.{Fault, missing_hole, too_long, filled_fault}
use Rattle.smithy_binding.specs.Filling.{filled_by}
use Rattle.smithy_binding.specs.Refusing.{TellsFault, IsTold}
use Rattle.smithy_binding.specs.views.TargetParts.{text_in, target_with}
use Rattle.smithy_binding.specs.views.Seen.{label_pair}
use Rattle.smithy_binding.specs.declared.labels.Label.{Label}
use Rattle.smithy_binding.specs.declared.labels.LabelTexts.{LabelTexts}

-- the text that a map has under a name
unfoldable pub text_in_map : BTreeMap (Bor (List ℕ)) (Bor (List ℕ)) → List ℕ → Option (List ℕ)
text_in_map texts name = option_map (λ t. t.now) (get_by (λ k. slice_cmp nat_cmp name k.now) texts)

-- the text of the first of these labels, by a map of them where there is one
abbrev pub found_by : Option (BTreeMap (Bor (List ℕ)) (Bor (List ℕ))) → List Label → List ℕ → Option (List ℕ)
found_by (Some texts) labels name = text_in_map texts name
found_by None labels name = found name (map label_pair labels)

-- the text of the first label of a name
abbrev pub text_under : LabelTexts → List ℕ → Option (List ℕ)
text_under t = found_by t.texts t.labels.now

-- what stands in a hole of this name, greedy or not
abbrev pub label_text : LabelTexts → List ℕ → Bool → Result (List ℕ) (List ℕ)
label_text texts name is_greedy = text_in (text_under texts) (record { name = name; greedy = is_greedy })

-- the text is what it was, and this behind it
abbrev pub Extends : {Z : Type 0} → Result (List ℕ) (List ℕ) → String Z → String Z → Type 0
Extends part old new = then_give part (λ t. string_bytes old ++ t) ≡ Ok (string_bytes new)

-- the hole of this name has no text, and the refusal tells it
abbrev pub LacksLabel : List ℕ → Result (List ℕ) (List ℕ) → SerdeError → Type 0
LacksLabel name text = λ e. TellsFault e (λ f. (f ≡ missing_hole name) × (text ≡ Err name))

-- there is a text, and it is not empty
abbrev pub is_text : Option (List ℕ) → Bool
is_text text = option_map_or (λ t. not (length t == 0)) text false

-- the name of the first hole of a template without a text
abbrev pub missing_in : LabelTexts → Template → Option (List ℕ)
missing_in texts template = result_err (filled_by (text_under texts) template)

-- the fault of a target that is too long before the rest of its template: the first hole of that without a text comes first
abbrev pub long_fault : Result (List ℕ) (List ℕ) → Fault
long_fault rest = option_map_or missing_hole (result_err rest) too_long

-- the target of a template, of these labels, and of pairs that each stand behind a `&`
abbrev pub target_in : List ℕ → List Label → List ℕ → Result (List ℕ) (List ℕ)
target_in template labels query = target_with template (map label_pair labels) query

-- the text is this filled template
abbrev pub IsTextOf : {Z : Type 0} → Result (List ℕ) (List ℕ) → String Z → Type 0
IsTextOf filled text = filled ≡ Ok (string_bytes text)

-- the refusal tells why a template is not filled, or that it is too long
abbrev pub IsFaultOf : Result (List ℕ) (List ℕ) → SerdeError → Type 0
IsFaultOf filled = IsTold (filled_fault filled)
