-- A list that is read element by element, and a map of texts that is read entry by entry.
use Rattle.std.specs.Prelude.{ℕ, ℤ, map, List, [], ◌∷◌, ◌++◌, Option, option_map, Result}
use Rattle.smithy_types.specs.Results.{then_try, then_give}
use Rattle.smithy_types.specs.Maps.{with_value}
use Rattle.smithy_ids.specs.declared.shape_type.ShapeType.TheVariants as kind
use Rattle.smithy_schema.specs.Nodes.{Schema}
use Rattle.smithy_schema.specs.PreludeNodes.{prelude_node}
use Rattle.smithy_serde.specs.Values.{Scalar, whole, integer, text}
use Rattle.smithy_serde.specs.declared.error.SerdeError.{SerdeError}
use Rattle.smithy_serde.specs.declared.read_scalar.ScalarKind.{ScalarKind}
use Rattle.smithy_serde.specs.declared.read_scalar.ScalarKind.TheVariants as of
use Rattle.smithy_serde.specs.Collecting.{Collects, all_added}
use Rattle.smithy_serde.specs.views.Handing.{LeavesAll}
use Rattle.smithy_serde.specs.Held.{Held, Answer}
use Rattle.smithy_serde.specs.HeldReads.{read_scalar, elements, entries}
use Rattle.smithy_serde.specs.ReadCalls.{AtHand, Gives, type_of}
use Rattle.smithy_serde.specs.ValueRead.{all_read}

-- the prelude's node of the kind
abbrev pub prelude_of : ScalarKind → Schema
prelude_of k = record { table = []; node = prelude_node (type_of k) }

-- one more
abbrev pub with_scalar : List Scalar → Scalar → List Scalar
with_scalar xs x = xs ++ x ∷ []

-- how the list of what was read grows by an element
abbrev pub CollectsScalar : ScalarKind → List Scalar → Held → List Scalar → Answer → Type 0
CollectsScalar k old h new answer = Collects with_scalar (read_scalar (type_of k) (prelude_of k) h) old new answer

-- what reading each element as a scalar of the kind gives, where the value at hand is told
abbrev pub each_at : ScalarKind → Schema → Option Held → Option (Result (List Scalar) SerdeError)
each_at k node held = option_map (λ h. then_try (elements node h) (all_read (read_scalar (type_of k) (prelude_of k)))) held

-- the list at hand is read, each element as a scalar of the kind
pub record ReadsEach {A : Type 0} (f : A → Scalar) (k : ScalarKind) (node : Schema) (old new : AtHand) (result : Result (List A) SerdeError) : Type 0 where
  pub gives : Gives (map f) (each_at k node old.held) result
  pub leaves : LeavesAll old new result

-- each as a number of 32 bits
abbrev pub ReadsIntegers : Schema → AtHand → AtHand → Result (List ℤ) SerdeError → Type 0
ReadsIntegers node old new result = ReadsEach (whole integer) of.Integer node old new result

-- one more entry, in byte order of the keys, in place of one with its key
abbrev pub with_read : List (List ℕ × Scalar) → List ℕ × Scalar → List (List ℕ × Scalar)
with_read m e = with_value e.0 e.1 m

-- the value of an entry, read as a text
abbrev pub text_of_entry : List ℕ × Held → Result (List ℕ × Scalar) SerdeError
text_of_entry e = then_give (read_scalar kind.String (prelude_of of.String) e.1) (λ x. (e.0, x))

-- how the map of what was read grows by an entry
abbrev pub CollectsText : List (List ℕ × Scalar) → List ℕ → Held → List (List ℕ × Scalar) → Answer → Type 0
CollectsText old key h new answer = Collects with_read (text_of_entry (key, h)) old new answer

-- what reading the value of each entry as a text gives, where the value at hand is told
abbrev pub texts_at : Schema → Option Held → Option (Result (List (List ℕ × Scalar)) SerdeError)
texts_at node held = option_map (λ h. then_give (then_try (entries node h) (all_read text_of_entry)) (all_added with_read [])) held

-- a map of texts, of what was read
abbrev pub read_texts : List (List ℕ × List ℕ) → List (List ℕ × Scalar)
read_texts es = map (λ e. (e.0, text e.1)) es

-- the map at hand is read, each value as a text
pub record ReadsTexts (node : Schema) (old new : AtHand) (result : Result (List (List ℕ × List ℕ)) SerdeError) : Type 0 where
  pub gives : Gives read_texts (texts_at node old.held) result
  pub leaves : LeavesAll old new result
