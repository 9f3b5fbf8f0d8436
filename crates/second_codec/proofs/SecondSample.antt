-- The second sample job: headers, a prefix map, a raw payload and a literal query; its facts and its normal form.
use Rattle.std.proofs.Common.{◌≡◌, refl, ℕ, codes, true, List, [], ◌∷◌, Option, Some, None, map}
use Rattle.std.specs.Option.{option_map as mapped}
use Rattle.second_codec.proofs.OnLiterals.{second_codec_on_literals}
use Rattle.smithy_serde.specs.Values.{Write, writes_of, structure}
use Rattle.smithy_serde.specs.DocumentOf.{doc_of}
use Rattle.smithy_http.specs.Facts.{facts}
use Rattle.smithy_binding.specs.Answer.{place}
use Rattle.smithy_binding.specs.Faults.{fault}
use Rattle.smithy_binding.specs.Checked.{checked_input}
use Rattle.smithy_binding.specs.NormalForm.{view}
use Rattle.smithy_schema.specs.WellMade.{is_well_made}
use Rattle.smithy_binding.specs.Typed.{IsTyped}
use Rattle.smithy_document.specs.JsonText.{json_text}
use Rattle.second_codec.proofs.Making.{to, string_map, json, keep_all}
use Rattle.second_codec.proofs.Samples.{put_object, put_object_input}

pub put_object_is_checked : checked_input put_object ≡ true
unfolding second_codec_on_literals
put_object_is_checked = refl

pub put_object_is_well_made : is_well_made put_object ≡ true
unfolding second_codec_on_literals
put_object_is_well_made = refl

pub put_object_has_no_fault : fault put_object put_object_input [] ≡ None
unfolding second_codec_on_literals
put_object_has_no_fault = refl

pub put_object_is_placed : place json put_object put_object_input [] keep_all ≡ Some (record { method = codes "PUT"; target = codes "/box/a%20b/c.txt?x-id=PutObject"; headers = ((codes "cache-control", codes "no-cache") ∷ (codes "content-length", codes "5") ∷ (codes "content-type", codes "text/plain") ∷ (codes "expires", codes "Tue, 09 Jan 2018 18:47:00 GMT") ∷ (codes "x-amz-meta-team", codes "blue") ∷ (codes "x-amz-meta-owner", codes "ann") ∷ (codes "x-amz-storage-class", codes "STANDARD_IA") ∷ []); body = codes "hello" })
unfolding second_codec_on_literals
put_object_is_placed = refl

pub put_object_is_typed : IsTyped json put_object [] keep_all put_object_input
unfolding second_codec_on_literals
put_object_is_typed = record {
  in_range = refl;
  conforming = refl;
  unbound_shaped = tt;
  payload_shaped = refl;
  placed_values = (refl, (refl, (refl, (refl, (refl, (refl, (refl, (refl, (refl, tt)))))))));
  defaults = refl;
  prefixed = (refl, (refl, (refl, (refl, (refl, (refl, (refl, (refl, (refl, tt)))))))));
  clear = refl;
  shallow = refl;
}

-- the names of its headers
abbrev names : List (List ℕ)
names = codes "cache-control" ∷ codes "content-length" ∷ codes "content-type" ∷ codes "expires" ∷ codes "x-amz-meta-team" ∷ codes "x-amz-meta-owner" ∷ codes "x-amz-storage-class" ∷ []

-- what a server sees of it, at the names that occur
abbrev seen : List Write → Option (List ℕ × List ℕ × List (List (List ℕ)) × List (List ℕ) × List ℕ)
seen ws = mapped (λ r. let f = facts r in (f.method, f.path, map f.headers names, f.query (codes "x-id"), f.body)) (place json put_object ws [] keep_all)

pub put_object_is_seen : seen put_object_input ≡ Some (codes "PUT", codes "/box/a%20b/c.txt", (codes "no-cache" ∷ []) ∷ (codes "5" ∷ []) ∷ (codes "text/plain" ∷ []) ∷ (codes "Tue, 09 Jan 2018 18:47:00 GMT" ∷ []) ∷ (codes "blue" ∷ []) ∷ (codes "ann" ∷ []) ∷ (codes "STANDARD_IA" ∷ []) ∷ [], codes "x-id=PutObject" ∷ [], codes "hello")
unfolding second_codec_on_literals
put_object_is_seen = refl

pub nothing_is_seen_elsewhere : mapped (λ r. (facts r).query (codes "y")) (place json put_object put_object_input [] keep_all) ≡ Some []
unfolding second_codec_on_literals
nothing_is_seen_elsewhere = refl

-- the input with its map in the other order
abbrev turned_input : List Write
turned_input = to put_object 12 (string_map ((codes "owner", codes "ann") ∷ (codes "Team", codes "blue") ∷ [])) ∷ put_object_input

pub normal_form_has_the_facts : seen (view put_object put_object_input) ≡ seen put_object_input
unfolding second_codec_on_literals
normal_form_has_the_facts = refl

pub order_is_not_seen : seen turned_input ≡ seen put_object_input
unfolding second_codec_on_literals
order_is_not_seen = refl

pub order_is_not_in_the_normal_form : view put_object turned_input ≡ view put_object put_object_input
unfolding second_codec_on_literals
order_is_not_in_the_normal_form = refl

pub normal_form_settles : view put_object (view put_object put_object_input) ≡ view put_object put_object_input
unfolding second_codec_on_literals
normal_form_settles = refl

-- the document of the normal form: what recovering the request gives
pub put_object_is_recovered : mapped json_text (doc_of (structure (writes_of (view put_object put_object_input)))) ≡ Some (codes "{\"Body\":\"aGVsbG8=\",\"Bucket\":\"box\",\"CacheControl\":\"no-cache\",\"ContentLength\":5,\"ContentType\":\"text/plain\",\"Expires\":1515523620,\"Key\":\"a b/c.txt\",\"Metadata\":{\"owner\":\"ann\",\"team\":\"blue\"},\"StorageClass\":\"STANDARD_IA\"}")
unfolding second_codec_on_literals
put_object_is_recovered = refl
