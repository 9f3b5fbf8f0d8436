-- What is written for a document is read as it.
use Rattle.smithy_wire.proofs.Common.{◌≡◌, refl, ap, ap₂, ◌∙◌, ℕ, suc, ◌++◌, Bool, true, false, ◌&&◌, ◌||◌, ◌==◌, if◌then◌else◌, List, ◌∷◌, Option, Some, None, option_map, ok_or, Ok, pos, negsuc}
use Rattle.std.specs.Prelude.{codes}
use Rattle.std.specs.List.{list_all}
use Rattle.std.specs.Option.{option_map_or}
use Rattle.json.specs.Json as json
use Rattle.smithy_ids.specs.Kinds.{same_kind}
use Rattle.smithy_ids.specs.declared.shape_type.ShapeType.TheVariants as kind
use Rattle.smithy_types.specs.BigNumbers.{is_digit}
use Rattle.smithy_types.specs.Documents as doc
use Rattle.smithy_types.specs.Documents.{Document, Number, number_of, list_of_members, members_of}
use Rattle.smithy_types.specs.Results.{then_try, then_give}
use Rattle.smithy_types.specs.Timestamps.{timestamp_text}
use Rattle.smithy_types.specs.declared.date_time.Format.{Format}
use Rattle.smithy_types.specs.declared.date_time.Format.TheVariants.{DateTime, HttpDate}
use Rattle.smithy_serde.specs.DocumentReads.{integer_of_number, number_text}
use Rattle.smithy_document.proofs.SoundDocuments.{IsSoundNumber, IsSound, AreItemsSound, AreMembersSound}
use Rattle.smithy_document.proofs.FromData.{Ascend, all_put}
use Rattle.smithy_wire.specs.declared.wire_style.WireStyle.{WireStyle}
use Rattle.smithy_wire.specs.WireTimes.{spelled}
use Rattle.smithy_wire.specs.ExactNumbers.{is_number, is_integer, plain_number, whole_decimal}
use Rattle.smithy_wire.specs.Forms.{Form, free, fields, items, entries, date_time, http_date, big_integer, big_decimal, whole, document, other, element_form, part_form, name_in}
use Rattle.smithy_wire.specs.Standing.{StructureStands, Stand}
use Rattle.smithy_wire.proofs.EachLemmas.{each_element, each_part}
use Rattle.smithy_wire.proofs.StandLemmas.{closed_stands, structure_stand}
use Rattle.smithy_wire.specs.Wire.{wire_number, wire_string, wire, wire_items, wire_members}
use Rattle.smithy_wire.specs.Unwire.{unread, within, item_step, part_step, integer_read, time_read, decimal_read, unwire, unwire_items, unwire_pairs}
use Rattle.smithy_wire.proofs.NameLaws.{swapped_back}
use Rattle.smithy_wire.proofs.NumberLaws.{decimal_is_plain, decimal_is_read, decimal_is_decimal}
use Rattle.smithy_wire.proofs.TimeLaws.{spelled_date_time, spelled_http_date, no_front, front_back}

-- ---- names that stand

pub name_back : (names : Bool) (f : Form) (k : List ℕ) → Stand names f → name_in names f (name_in names f k) ≡ k
name_back false f k h = refl
name_back true free k h = refl
name_back true (fields side s) k h = swapped_back side s k (structure_stand side s (h refl))
name_back true (items element) k h = refl
name_back true (entries value) k h = refl
name_back true date_time k h = refl
name_back true http_date k h = refl
name_back true big_integer k h = refl
name_back true big_decimal k h = refl
name_back true (whole k) name h = refl
name_back true document k h = refl
name_back true (other k) name h = refl

-- ---- scalars

number_again : (n : Number) → IsSoundNumber n → number_of (integer_of_number n) ≡ n
number_again (doc.positive n) h = refl
number_again (doc.negative (pos n)) h = absurd h
number_again (doc.negative (negsuc n)) h = refl

whole_back : (floors : Bool) (f : Form) (n : Number) → IsSoundNumber n → ok_or (integer_read floors (number_text n)) (unread (number_text n) f) ≡ Ok (doc.number n)
whole_back floors f n h = ap (λ o. ok_or (option_map doc.number o) (unread (number_text n) f)) (decimal_is_read floors n h)

plain_back : (f : Form) (n : Number) → IsSoundNumber n → ok_or (option_map doc.number (plain_number (number_text n))) (unread (number_text n) f) ≡ Ok (doc.number n)
plain_back f n h = ap (λ o. ok_or (option_map doc.number o) (unread (number_text n) f)) (decimal_is_plain n h)

decimal_back : (n : Number) → IsSoundNumber n → decimal_read (number_text n) ≡ doc.number n
decimal_back n h = ap (λ o. option_map_or doc.number o (doc.string (number_text n))) (decimal_is_decimal n h)

number_back : (style : WireStyle) (f : Form) (n : Number) → IsSoundNumber n → unwire style f (wire_number f n) ≡ Ok (doc.number n)
number_back style free n h = ap (λ o. Ok (option_map_or doc.number o doc.null)) (decimal_is_plain n h)
number_back style (fields side s) n h = plain_back (fields side s) n h
number_back style (items element) n h = plain_back (items element) n h
number_back style (entries value) n h = plain_back (entries value) n h
number_back style date_time n h = go (timestamp_text DateTime (integer_of_number n)) refl
  where
    go : (o : Option (List ℕ)) → timestamp_text DateTime (integer_of_number n) ≡ o → unwire style date_time (option_map_or json.string o (json.number (number_text n))) ≡ Ok (doc.number n)
    go None is = whole_back style.floors_times date_time n h
    go (Some t) is =
        ap (λ o. ok_or (option_map_or (λ front. Some (doc.string front)) o (option_map (λ z. doc.number (number_of z)) (spelled style.floors_times DateTime t))) (unread t date_time)) (no_front DateTime (integer_of_number n) t is)
        ∙ ap (λ o. ok_or (option_map (λ z. doc.number (number_of z)) o) (unread t date_time)) (spelled_date_time style.floors_times (integer_of_number n) t is)
        ∙ ap (λ m. Ok (doc.number m)) (number_again n h)
number_back style http_date n h = go (timestamp_text HttpDate (integer_of_number n)) refl
  where
    go : (o : Option (List ℕ)) → timestamp_text HttpDate (integer_of_number n) ≡ o → unwire style http_date (option_map_or json.string o (json.number (number_text n))) ≡ Ok (doc.number n)
    go None is = whole_back style.floors_times http_date n h
    go (Some t) is =
        ap (λ o. ok_or (option_map_or (λ front. Some (doc.string front)) o (option_map (λ z. doc.number (number_of z)) (spelled style.floors_times HttpDate t))) (unread t http_date)) (no_front HttpDate (integer_of_number n) t is)
        ∙ ap (λ o. ok_or (option_map (λ z. doc.number (number_of z)) o) (unread t http_date)) (spelled_http_date style.floors_times (integer_of_number n) t is)
        ∙ ap (λ m. Ok (doc.number m)) (number_again n h)
number_back style big_integer n h = ap Ok (decimal_back n h)
number_back style big_decimal n h = ap Ok (decimal_back n h)
number_back style (whole k) n h = whole_back (style.floors_times && same_kind k kind.Timestamp) (whole k) n h
number_back style document n h = plain_back document n h
number_back style (other k) n h = plain_back (other k) n h

-- a text with a blank behind it, where a time stands
blank_back : (floors : Bool) (format : Format) (f : Form) (s : List ℕ) → ok_or (time_read floors format (s ++ codes " ")) (unread (s ++ codes " ") f) ≡ Ok (doc.string s)
blank_back floors format f s =
    ap (λ o. ok_or (option_map_or (λ front. Some (doc.string front)) o (option_map (λ z. doc.number (number_of z)) (spelled floors format (s ++ codes " ")))) (unread (s ++ codes " ") f)) (front_back s)

string_back : (style : WireStyle) (f : Form) (s : List ℕ) → unwire style f (wire_string f s) ≡ Ok (doc.string s)
string_back style free s = refl
string_back style (fields side n) s = refl
string_back style (items element) s = refl
string_back style (entries value) s = refl
string_back style date_time s = blank_back style.floors_times DateTime date_time s
string_back style http_date s = blank_back style.floors_times HttpDate http_date s
string_back style big_integer s = go (is_integer s) refl
  where
    go : (b : Bool) → is_integer s ≡ b → unwire style big_integer (if b then json.number s else json.string s) ≡ Ok (doc.string s)
    go true is = ap (λ b. ok_or (if b then Some (doc.string s) else option_map doc.string (whole_decimal s)) (unread s big_integer)) is
    go false is = ap (λ b. Ok (option_map_or doc.number (if b then plain_number s else None) (doc.string s))) is
string_back style big_decimal s = go (is_number s) refl
  where
    go : (b : Bool) → is_number s ≡ b → unwire style big_decimal (if b then json.number s else json.string s) ≡ Ok (doc.string s)
    go true is = refl
    go false is = ap (λ b. Ok (option_map_or doc.number (if b && list_all (λ c. is_digit c || (c == 45)) s then plain_number s else None) (doc.string s))) is
string_back style (whole k) s = refl
string_back style document s = refl
string_back style (other k) s = refl

-- ---- documents

sound_ascend : (ms : doc.Members) → AreMembersSound ms → Ascend ms
sound_ascend doc.no_members h = tt
sound_ascend (doc.member k d ms) h = (h.2, sound_ascend ms h.3)

mutual
  pub unwire-wire : (style : WireStyle) (f : Form) (d : Document) → Stand style.json_names f → IsSound d → unwire style f (wire style.json_names f d) ≡ Ok d
  unwire-wire style f doc.null stand h = refl
  unwire-wire style f (doc.boolean b) stand h = refl
  unwire-wire style f (doc.number n) stand h = number_back style f n h
  unwire-wire style f (doc.string s) stand h = string_back style f s
  unwire-wire style f (doc.array ds) stand h =
      ap (λ r. then_give r doc.array) (items_back style (element_form f) 0 ds (λ is. each_element StructureStands closed_stands f (stand is)) h)
  unwire-wire style f (doc.object ms) stand h =
      ap (λ r. then_give r (λ ps. doc.object (members_of ps))) (pairs_back style f ms stand h) ∙ ap (λ os. Ok (doc.object os)) (all_put ms (sound_ascend ms h))

  items_back : (style : WireStyle) (f : Form) (i : ℕ) (ds : doc.Items) → Stand style.json_names f → AreItemsSound ds → unwire_items style f i (wire_items style.json_names f ds) ≡ Ok ds
  items_back style f i doc.no_items stand h = refl
  items_back style f i (doc.item d ds) stand h =
      ap₂ (λ r q. then_try (within (item_step i) r) λ x. then_give q (doc.item x)) (unwire-wire style f d stand h.0) (items_back style f (suc i) ds stand h.1)

  pairs_back : (style : WireStyle) (f : Form) (ms : doc.Members) → Stand style.json_names f → AreMembersSound ms → unwire_pairs style f (wire_members style.json_names f ms) ≡ Ok (list_of_members ms)
  pairs_back style f doc.no_members stand h = refl
  pairs_back style f (doc.member k d ms) stand h =
      ap (λ n. then_try (within (part_step f n) (unwire style (part_form f n) (wire style.json_names (part_form f k) d))) λ x. then_give (unwire_pairs style f (wire_members style.json_names f ms)) (λ ps. (n, x) ∷ ps)) (name_back style.json_names f k stand)
      ∙ ap₂ (λ r q. then_try (within (part_step f k) r) λ x. then_give q (λ ps. (k, x) ∷ ps)) (unwire-wire style (part_form f k) d (λ is. each_part StructureStands closed_stands f k (stand is)) h.1) (pairs_back style f ms stand h.3)
