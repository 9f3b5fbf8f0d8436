-- What the string codec's reader has at hand: its text, or the texts of the list that it spells.
use Rattle.std.specs.Prelude.{◌≡◌, ℕ, ◌-◌, true, false, List, [], ◌∷◌, map, length, drop, slice_get, Bool, Option, Some, None, option_map, option_and_then, unwrap_or, Result, Ok, Err, IfOk, IsTrue}
use Rattle.std.specs.List.{AllByRecursion}
use Rattle.std.specs.Result.{result_ok}
use Rattle.std.specs.Str.{IsUtf8}
use Rattle.smithy_http.specs.HeaderValues.{text_of}
use Rattle.smithy_http.specs.ListTexts.{list_texts}
use Rattle.smithy_schema.specs.Nodes.{Schema}
use Rattle.smithy_schema.specs.References.{schema_of}
use Rattle.smithy_schema.specs.declared.schema_ref.SchemaRef.{SchemaRef}
use Rattle.smithy_serde.specs.declared.error.SerdeError.{SerdeError}
use Rattle.smithy_serde.specs.declared.read_scalar.ReadScalar.{ReadScalar}
use Rattle.smithy_serde.specs.declared.read_scalar.ScalarKind.{ScalarKind}
use Rattle.smithy_serde.specs.declared.read_scalar.ScalarKind.TheVariants as of
use Rattle.smithy_serde.specs.declared.scalar.Group.{Group}
use Rattle.smithy_serde.specs.declared.scalar.Group.TheVariants as group
use Rattle.smithy_serde.specs.Held as held
use Rattle.smithy_serde.specs.Held.{Held}
use Rattle.smithy_serde.specs.HeldReads.{unread, elements}
use Rattle.smithy_serde.specs.Listings.{at_element, Listing, listing_of, contents, contents_at, told_at}
use Rattle.smithy_serde.specs.ReadCalls.{Frame, AtHand, IsRefused, Reads, OpensAt, Gives, scalar_of_read, type_of, is_of_kind}
use Rattle.smithy_serde.specs.StringReads.{scalar_of_string}
use Rattle.smithy_serde.specs.Values as value
use Rattle.smithy_serde.specs.Values.{Label}
use Rattle.smithy_serde.specs.Writing.{each_with}
use Rattle.smithy_strings.specs.ReadingRefusals.{not_utf8}
use Rattle.smithy_strings.specs.StringWriting.{value_text}
use Rattle.smithy_strings.specs.declared.string_reader.OpenList.{OpenList}
use Rattle.smithy_strings.specs.declared.string_reader.HttpStringDeserializer.{HttpStringDeserializer}

-- ---- what is at hand

-- the texts that a text spells as a list, none where it spells no list
abbrev pub spelled_texts : List ℕ → Option (List (List ℕ))
spelled_texts text = result_ok (list_texts text)

-- the same of an input, none where it is not UTF-8
abbrev pub texts_in : Option (List ℕ) → List (List ℕ)
texts_in input = unwrap_or (option_and_then spelled_texts input) []

-- outside a list an input, and whether it was read
abbrev pub held_whole : Option (List ℕ) → Bool → Held
held_whole None is_read = held.refused not_utf8
held_whole (Some text) is_read = held.input text is_read

-- in a list the element that is at hand, until it is used up
abbrev pub text_inside : List (List ℕ) → OpenList → Option (List ℕ)
text_inside texts list = option_and_then (slice_get texts) list.at_hand

abbrev pub held_of : Option (List ℕ) → Bool → Option OpenList → Held
held_of None is_read list = held.refused not_utf8
held_of (Some text) is_read None = held.input text is_read
held_of (Some text) is_read (Some list) = held.item (text_inside (texts_in (Some text)) list)

-- the texts behind a place, as elements
abbrev pub elements_from : ℕ → List (List ℕ) → Listing
elements_from place texts = listing_of (λ x. (at_element, x)) (Ok (map (λ text. held.item (Some text)) (drop place texts)))

abbrev pub frame_of : Option (List ℕ) → Bool → OpenList → Frame
frame_of input is_read list =
    record {
      form = list.form;
      container = Some (held_whole input is_read);
      depth = 1;
      to_come = λ by. Some (elements_from list.next (texts_in input));
      left = λ by. length (texts_in input) - list.next;
      settled = Some (λ e. Err e);
    }

abbrev pub frames_of : Option (List ℕ) → Bool → Option OpenList → List Frame
frames_of input is_read None = []
frames_of input is_read (Some list) = frame_of input is_read list ∷ []

-- one list can be opened, and none inside it
abbrev pub levels_of : Option OpenList → ℕ
levels_of None = 1
levels_of (Some list) = 0

abbrev pub standing_at : Option (List ℕ) → Bool → Option OpenList → AtHand
standing_at input is_read list =
    let h = held_of input is_read list in
    record {
      held = Some h;
      levels = levels_of list;
      listing = contents_at (Some h);
      size = λ g node. length (contents g node h).items;
      opened = frames_of input is_read list;
      told = told_at (Some h);
    }

-- what is seen of a reader
abbrev pub string_at_hand : HttpStringDeserializer → AtHand
string_at_hand d = standing_at d.input d.is_read d.list

-- what a reader over bytes has at hand
abbrev pub held_by_bytes : List ℕ → Held
held_by_bytes bytes = held_whole (text_of bytes) false

-- ---- what its calls do

-- the texts of the list that it can open
abbrev pub listed_texts : HttpStringDeserializer → Option (List (List ℕ))
listed_texts d = option_and_then spelled_texts d.input

-- the text that a read takes
abbrev pub text_left_of : Option (List ℕ) → Bool → Option OpenList → Option (List ℕ)
text_left_of input is_read (Some list) = text_inside (texts_in input) list
text_left_of None is_read None = None
text_left_of (Some text) is_read None = unread text is_read

abbrev pub text_left : HttpStringDeserializer → Option (List ℕ)
text_left d = text_left_of d.input d.is_read d.list

-- a read as the kind, and the opening of what is at hand, with a node
abbrev pub ReadsString : ScalarKind → SchemaRef → HttpStringDeserializer → HttpStringDeserializer → Result ReadScalar SerdeError → Type 0
ReadsString k schema old new result = Reads scalar_of_read k (schema_of schema) (string_at_hand old) (string_at_hand new) result

abbrev pub OpensString : {U : Type 0} → Group → SchemaRef → HttpStringDeserializer → HttpStringDeserializer → Result U SerdeError → Type 0
OpensString g schema old new result = OpensAt g (schema_of schema) (string_at_hand old) (string_at_hand new) result

-- a text that is left is read as the kind
pub record ReadsLeft (k : ScalarKind) (text : Option (List ℕ)) (result : Result ReadScalar SerdeError) : Type 0 where
  pub gives : Gives scalar_of_read (Some (scalar_of_string (type_of k) text)) result
  pub of_kind : IfOk result (λ r. IsTrue (is_of_kind k (scalar_of_read r)))

-- what is at hand changes so, and what is open stays open
pub record Leaves (change : Held → Held) (old new : HttpStringDeserializer) : Type 0 where
  pub held : (string_at_hand new).held ≡ option_map change (string_at_hand old).held
  pub levels : (string_at_hand new).levels ≡ (string_at_hand old).levels
  pub opened : (string_at_hand new).opened ≡ (string_at_hand old).opened

-- a text that is read is used up, whatever is answered
abbrev pub used_up : Held → Held
used_up (held.input text is_read) = held.input text true
used_up (held.item text) = held.item None
used_up h = h

-- a document is no text, and its read takes none
abbrev pub used_by : ScalarKind → Held → Held
used_by of.Document h = h
used_by k h = used_up h

-- nothing is used up
abbrev pub kept : Held → Held
kept h = h

-- an element that is passed over is used up too, and an input isn't
abbrev pub passed_over : Held → Held
passed_over (held.item text) = held.item None
passed_over h = h

-- a list can be opened
pub record CanOpen (g : Group) (d : HttpStringDeserializer) : Type 0 where
  pub is_list : g ≡ group.List
  pub none_open : d.list ≡ None
  pub text : List ℕ
  pub is_text : d.input ≡ Some text
  pub texts : List (List ℕ)
  pub spells : list_texts text ≡ Ok texts

-- opening what is at hand is refused so, under any node
abbrev pub RefusesOpening : Group → HttpStringDeserializer → SerdeError → Type 0
RefusesOpening g d e = (node : Schema) → IsRefused ((string_at_hand d).listing g node) e

-- How many texts are left: in a list those from the one at hand on, else those that the input spells, if it spells a list.
abbrev pub texts_left_of : Option (List ℕ) → Option OpenList → Option ℕ
texts_left_of input None = option_map length (option_and_then spelled_texts input)
texts_left_of input (Some list) = Some (length (texts_in input) - unwrap_or list.at_hand list.next)

abbrev pub texts_left : HttpStringDeserializer → Option ℕ
texts_left d = texts_left_of d.input d.list

-- a list of texts that was written is read as these texts
abbrev pub ListsAreReadBack : Type 0
ListsAreReadBack =
    (l : Label) (node : Schema) (texts : List (List ℕ)) → AllByRecursion IsUtf8 texts →
    option_map (λ t. elements node (held.input t false)) (value_text (value.list (each_with l value.text texts))) ≡ Some (Ok (map (λ t. held.item (Some t)) texts))
