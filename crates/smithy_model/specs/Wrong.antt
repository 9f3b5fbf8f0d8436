-- The first place of a value whose form is not as asked, and what is asked there.
use Rattle.std.specs.Prelude.{◌≡◌, ℕ, ◌+◌, List, [], ◌∷◌, ◌++◌, flat_map, codes, decimal, Bool, Option, Some, None, option_map, option_and_then, slice_get, ◌==◌, if◌then◌else◌}
use Rattle.std.specs.Option.{option_or, option_map_or}
use Rattle.serde_json.specs.Data.{Data}
use Rattle.serde_json.specs.Find.{get_member, as_object}
use Rattle.smithy_types.specs.Results.{unless}
use Rattle.smithy_model.specs.Json.{items_in}
use Rattle.smithy_model.specs.declared.wrong.Step.{Step}
use Rattle.smithy_model.specs.declared.wrong.Step.TheVariants.{Key, Item}

-- the way to the place from the outside in, and the words of what is asked there
pub record Wrong : Type 0 where
  pub path : List Step
  pub asked : List ℕ

-- the value itself is not as asked
abbrev pub asked_here : List ℕ → Wrong
asked_here words = record { path = []; asked = words }

abbrev pub under : Step → Wrong → Wrong
under step w = record { path = step ∷ w.path; asked = w.asked }

-- what stands under a key of the value is not as asked, or belongs there
abbrev pub asked_at : List ℕ → List ℕ → Wrong
asked_at key words = under (Key key) (asked_here words)

-- what is found in a part, from the whole
abbrev pub in_key : List ℕ → Option Wrong → Option Wrong
in_key key found = option_map (under (Key key)) found

abbrev pub in_item : ℕ → Option Wrong → Option Wrong
in_item i found = option_map (under (Item i)) found

-- these words where the test fails
abbrev pub unless_here : Bool → List ℕ → Option Wrong
unless_here fits words = unless fits (asked_here words)

abbrev pub unless_at : Bool → List ℕ → List ℕ → Option Wrong
unless_at fits key words = unless fits (asked_at key words)

-- the first that is found
infixr 5 ◌or◌
abbrev pub ◌or◌ : Option Wrong → Option Wrong → Option Wrong
found or other = option_or found other

-- the first that is found in these
abbrev pub first_in : {A : Type 0} → (A → Option Wrong) → List A → Option Wrong
first_in f [] = None
first_in f (x ∷ xs) = f x or first_in f xs

-- the same of the items of an array, of which the first has this position
abbrev pub first_item : {A : Type 0} → (A → Option Wrong) → ℕ → List A → Option Wrong
first_item f i [] = None
first_item f i (x ∷ xs) = in_item i (f x) or first_item f (i + 1) xs

-- what a step leads to: a key of an object to its value, or to none where it lacks it, a position of an array to its item
abbrev pub led_to : Data → Step → Option (Option Data)
led_to d (Key key) = option_map (get_member key) (as_object d)
led_to d (Item i) = option_map_or (λ ds. option_map Some (slice_get ds i)) (items_in d) None

-- the same where there may be no value, as under a key that is missing
abbrev pub led_from : Option Data → Step → Option (Option Data)
led_from here step = option_and_then (λ d. led_to d step) here

-- the longest front of the steps that leads to a place of the value, or to a key that an object there lacks
abbrev pub leading : Data → List Step → List Step
leading d [] = []
leading d (step ∷ steps) = option_map_or (λ next. step ∷ option_map_or (λ e. leading e steps) next []) (led_to d step) []

abbrev pub leading_from : Option Data → List Step → List Step
leading_from next steps = option_map_or (λ d. leading d steps) next []

-- with no step that does not lead
abbrev pub within : Data → Wrong → Wrong
within d w = record { path = leading d w.path; asked = w.asked }

-- a byte of a name in a pointer (RFC 6901, section 3)
abbrev pub escaped : ℕ → List ℕ
escaped byte = if byte == 126 then codes "~0" else (if byte == 47 then codes "~1" else byte ∷ [])

abbrev pub token : Step → List ℕ
token (Key key) = flat_map escaped key
token (Item i) = decimal i

-- the JSON Pointer of the steps (RFC 6901, section 5)
abbrev pub pointer : List Step → List ℕ
pointer [] = []
pointer (step ∷ steps) = 47 ∷ token step ++ pointer steps

-- each step leads further, and only the last may lead to a key that an object lacks
abbrev pub leads_by : (Data → Type 0) → List Step → Option (Option Data) → Type 0
leads_by Rest steps None = ⊥
leads_by Rest steps (Some None) = steps ≡ []
leads_by Rest steps (Some (Some d)) = Rest d

abbrev pub Leads : Data → List Step → Type 0
Leads d [] = Unit {0}
Leads d (step ∷ steps) = leads_by (λ e. Leads e steps) steps (led_to d step)
