-- The document that a JSON value of AWS's protocols is, by a node, or the first refusal.
use Rattle.std.specs.Prelude.{ℕ, suc, ◌&&◌, Bool, List, [], ◌∷◌, codes, ◌++◌, decimal, Option, Some, option_map, ok_or, Result, Ok, Err, if◌then◌else◌}
use Rattle.json.specs.Json as json
use Rattle.smithy_ids.specs.Kinds.{same_kind}
use Rattle.smithy_ids.specs.declared.shape_type.ShapeType.TheVariants as kind
use Rattle.smithy_types.specs.Documents as doc
use Rattle.smithy_types.specs.Documents.{members_of}
use Rattle.smithy_types.specs.declared.date_time.Format.{Format}
use Rattle.smithy_types.specs.declared.date_time.Format.TheVariants.{DateTime, HttpDate}
use Rattle.smithy_wire.specs.Words.{Json, Document, number_of, option_map_or, then_try, then_give}
use Rattle.smithy_wire.specs.declared.unread.Unread.{Unread}
use Rattle.smithy_wire.specs.declared.wire_style.WireStyle.{WireStyle}
use Rattle.smithy_wire.specs.ExactNumbers.{is_integer, plain_number, integer_number, whole_decimal, decimal_number}
use Rattle.smithy_wire.specs.WireTimes.{spelled, before_blank}
use Rattle.smithy_wire.specs.Forms.{Form, free, fields, date_time, http_date, big_integer, big_decimal, whole, element_form, part_form, name_in, form_word}

-- what can't be read as what stands there: the number or the text, the word of the kind that it is to be, and where it stands
abbrev pub unread : List ℕ → Form → Unread
unread text f = record { text = text; word = form_word f; path = [] }

-- the steps of a path
abbrev pub item_step : ℕ → List ℕ
item_step i = codes "[" ++ (decimal i ++ codes "]")

abbrev pub part_step : Form → List ℕ → List ℕ
part_step (fields side s) name = codes "." ++ name
part_step _ name = codes "[\"" ++ (name ++ codes "\"]")

-- one step further out
abbrev pub within : {A : Type 0} → List ℕ → Result A Unread → Result A Unread
within step (Ok x) = Ok x
within step (Err u) = Err record { text = u.text; word = u.word; path = step ++ u.path }

-- an integer as a document
abbrev pub integer_read : Bool → List ℕ → Option Document
integer_read floors s = option_map doc.number (integer_number floors s)

-- The document of a number. A time's fraction may be dropped, and a decimal is its text as it came. Where no node asks, a number that no
-- document holds is null.
abbrev pub number_read : Bool → Form → List ℕ → Option Document
number_read floors free s = Some (option_map_or doc.number (plain_number s) doc.null)
number_read floors date_time s = integer_read floors s
number_read floors http_date s = integer_read floors s
number_read floors (whole k) s = integer_read (floors && same_kind k kind.Timestamp) s
number_read floors big_integer s = if is_integer s then Some (doc.string s) else option_map doc.string (whole_decimal s)
number_read floors big_decimal s = Some (doc.string s)
number_read floors _ s = option_map doc.number (plain_number s)

-- a text with a blank at its end, without it; else the seconds that it spells
abbrev pub time_read : Bool → Format → List ℕ → Option Document
time_read floors format s =
    option_map_or (λ front. Some (doc.string front)) (before_blank s) (option_map (λ z. doc.number (number_of z)) (spelled floors format s))

-- a number where the text is its decimal, else the text
abbrev pub decimal_read : List ℕ → Document
decimal_read s = option_map_or doc.number (decimal_number s) (doc.string s)

-- the document of a text
abbrev pub string_read : Bool → Form → List ℕ → Option Document
string_read floors date_time s = time_read floors DateTime s
string_read floors http_date s = time_read floors HttpDate s
string_read floors big_integer s = Some (decimal_read s)
string_read floors big_decimal s = Some (decimal_read s)
string_read floors _ s = Some (doc.string s)

-- the document of a JSON value; of one name the last value stays
abbrev mutual
  pub unwire : WireStyle → Form → Json → Result Document Unread
  unwire style f json.null = Ok doc.null
  unwire style f (json.boolean b) = Ok (doc.boolean b)
  unwire style f (json.number s) = ok_or (number_read style.floors_times f s) (unread s f)
  unwire style f (json.string s) = ok_or (string_read style.floors_times f s) (unread s f)
  unwire style f (json.array js) = then_give (unwire_items style (element_form f) 0 js) doc.array
  unwire style f (json.object ms) = then_give (unwire_pairs style f ms) (λ ps. doc.object (members_of ps))

  pub unwire_items : WireStyle → Form → ℕ → json.Items → Result doc.Items Unread
  unwire_items style f i json.no_items = Ok doc.no_items
  unwire_items style f i (json.item j js) =
      then_try (within (item_step i) (unwire style f j)) λ d. then_give (unwire_items style f (suc i) js) (doc.item d)

  pub unwire_pairs : WireStyle → Form → json.Members → Result (List (List ℕ × Document)) Unread
  unwire_pairs style f json.no_members = Ok []
  unwire_pairs style f (json.member w j ms) =
      let k = name_in style.json_names f w in
      then_try (within (part_step f k) (unwire style (part_form f k) j)) λ d. then_give (unwire_pairs style f ms) (λ ps. (k, d) ∷ ps)
