-- The parts of members one after another, and those of the body before them, are what is read of a request.
use Rattle.std.proofs.Common.{◌≡◌, refl, sym, ◌∙◌, ap, subst, ℕ, zero, suc, ◌+◌, ◌<◌, arith, get_or, Bool, true, false, ◌||◌, ◌&&◌, not, List, [], ◌∷◌, ◌++◌, append_assoc, drop, length, map, Option, Some, None, Result, Ok, Err, IfOk, option_map, option_and_then, is_some, IsTrue}
use Rattle.std.specs.List.{cons_option, enumerate_from, list_any, list_all}
use Rattle.std.specs.Option.{option_map_or}
use Rattle.std.proofs.lemmas.Bool.{and_parts}
use Rattle.std.proofs.lemmas.List.{append-nil, drop_more}
use Rattle.smithy_types.specs.Grammars.{before_query}
use Rattle.smithy_http.specs.Facts.{query_pieces}
use Rattle.smithy_http.specs.Requests.{Request}
use Rattle.smithy_schema.specs.Nodes.{Schema, Table, at_place, members_of}
use Rattle.smithy_schema.specs.Templates.{Template}
use Rattle.smithy_schema.specs.References.{schema_of}
use Rattle.smithy_schema.specs.declared.parts.SchemaIndex.{SchemaIndex}
use Rattle.smithy_schema.specs.declared.schema_ref.SchemaRef.{SchemaRef}
use Rattle.smithy_serde.specs.Held.{Held}
use Rattle.smithy_serde.specs.IndexOrder.{in_order, in_index_order}
use Rattle.smithy_serde.specs.StoredValues.{writes_in, AreDefined}
use Rattle.smithy_serde.specs.Values.{Value, Write, list_of}
use Rattle.smithy_serde.specs.ValueRead.{write_by}
use Rattle.smithy_serde.specs.declared.value.WriteList.{WriteList}
use Rattle.smithy_schema.specs.declared.first_hole.CutHole.{CutHole}
use Rattle.smithy_binding.specs.views.CutTemplate.{behind_holes, literal_alone}
use Rattle.smithy_recovery.specs.BodyParts.{body_part, is_asked, reads_body, is_told}
use Rattle.smithy_recovery.specs.Finding.{Finds}
use Rattle.smithy_recovery.specs.views.Keeping.{KeepsWrites}
use Rattle.smithy_recovery.specs.views.Kept.{HasTexts}
use Rattle.smithy_recovery.specs.views.KeptBodies.{KeepsWritesTold, KeepsBody}
use Rattle.smithy_recovery.specs.views.KeptMembers.{IsCutBy, AddsTold, write_read, is_told_at, part_of, AddsMember, parts_read, members_at, AddsMembers, KeepsCut, KeepsLabelled, ReadsTold}
use Rattle.smithy_recovery.specs.MemberParts.{part_writes, with_body}
use Rattle.smithy_recovery.specs.PathParts.{path_texts}
use Rattle.smithy_recovery.specs.views.Pieces.{HasLeft}
use Rattle.smithy_recovery.specs.QueryParts.{last_literal, own_query, pieces_named}
use Rattle.smithy_recovery.specs.Recovered.{Reading, template, read_writes, body_writes}
use Rattle.smithy_recovery.specs.declared.error.RecoverError.{RecoverError}
use Rattle.smithy_recovery.specs.declared.error.RecoverError.TheVariants.{NotPlaced, OutOfMemory}
use Rattle.smithy_recovery.specs.declared.member_values.CutRequest.{CutRequest}
use Rattle.smithy_recovery.proofs.EachText.{and_rest}
use Rattle.smithy_recovery.proofs.Joining.{list_of-writes_of}

-- The writes of members, from whichever position they are counted.

abbrev counted : (Schema → Option (Option Value)) → ℕ → List Schema → Option (List Write)
counted part k ms = part_writes (λ p. part p.1) (enumerate_from k ms)

same_count : (part : Schema → Option (Option Value)) (k l : ℕ) (ms : List Schema) → counted part k ms ≡ counted part l ms
same_count part k l [] = refl
same_count part k l (m ∷ ms) = ap (λ rest. option_and_then (λ o. option_map (cons_option (option_map (write_by m) o)) rest) (part m)) (same_count part (k + 1) (l + 1) ms)

-- the writes of the first member, and those of the others behind it
joined : (part : Schema → Option (Option Value)) (o : Option Schema) (ms : List Schema) → counted part 0 (cons_option o ms) ≡ option_and_then (λ us. and_rest us (counted part 0 ms)) (write_read part o)
joined part None ms = go (counted part 0 ms)
  where
    go : (x : Option (List Write)) → x ≡ and_rest [] x
    go None = refl
    go (Some ws) = refl
joined part (Some m) ms = go (part m)
  where
    by : (o : Option Value) (x : Option (List Write)) → option_map (cons_option (option_map (write_by m) o)) x ≡ and_rest (cons_option (option_map (write_by m) o) []) x
    by o None = refl
    by None (Some ws) = refl
    by (Some v) (Some ws) = refl

    go : (x : Option (Option Value))
        → option_and_then (λ o. option_map (cons_option (option_map (write_by m) o)) (counted part 1 ms)) x
        ≡ option_and_then (λ us. and_rest us (counted part 0 ms)) (option_map (λ o. cons_option (option_map (write_by m) o) []) x)
    go None = refl
    go (Some o) = ap (option_map (cons_option (option_map (write_by m) o))) (same_count part 1 0 ms) ∙ by o (counted part 0 ms)

rest_behind : (done us : List Write) (x : Option (List Write)) → and_rest done (and_rest us x) ≡ and_rest (done ++ us) x
rest_behind done us None = refl
rest_behind done us (Some ws) = ap (λ (all : List Write). Some all) (sym (append_assoc done us ws))

-- what was read of the first member went behind what was done
moved : (done after : List Write) (w x : Option (List Write)) → option_map (λ us. done ++ us) w ≡ Some after → and_rest done (option_and_then (λ us. and_rest us x) w) ≡ and_rest after x
moved done after None x e = absurd (cc e)
moved done after (Some us) x e = let same : done ++ us ≡ after = cc e in rest_behind done us x ∙ ap (λ ws. and_rest ws x) same

none_moved : (done : List Write) (w x : Option (List Write)) → option_map (λ us. done ++ us) w ≡ None → and_rest done (option_and_then (λ us. and_rest us x) w) ≡ None
none_moved done None x e = refl
none_moved done (Some us) x e = absurd (cc e)

-- it is told of the first and of the others
told_parts : (a b s : Bool) → (not (a || b) || s) ≡ true → ((not a || s) ≡ true) × ((not b || s) ≡ true)
told_parts true b s e = (e, by b s e)
  where
    by : (b s : Bool) → s ≡ true → (not b || s) ≡ true
    by true s h = h
    by false s h = refl
told_parts false b s e = (refl, e)

told_first : (holds : List ℕ → Option Held) (body : List ℕ) (o : Option Schema) (ms : List Schema) → is_told (list_any (is_asked body) (cons_option o ms)) (holds body) ≡ true
    → (is_told_at holds body o ≡ true) × (is_told (list_any (is_asked body) ms) (holds body) ≡ true)
told_first holds body None ms e = (refl, e)
told_first holds body (Some m) ms e = told_parts (is_asked body m) (list_any (is_asked body) ms) (is_some (holds body)) e

-- What was added of members, and what is to be added of those at the other places.

pub record GoesOn (r : Reading) (q : Request) (texts : List (List ℕ × List ℕ)) (holds : List ℕ → Option Held) (t : Table) (all rest : List ℕ) (first now : WriteList) : Type 0 where
  pub told : IsTrue (is_told (list_any (is_asked q.body) (members_at t all)) (holds q.body)) → IsTrue (is_told (list_any (is_asked q.body) (members_at t rest)) (holds q.body))
  pub read : IsTrue (is_told (list_any (is_asked q.body) (members_at t all)) (holds q.body))
      → and_rest (list_of (writes_in t now)) (parts_read r q texts (members_at t rest)) ≡ and_rest (list_of (writes_in t first)) (parts_read r q texts (members_at t all))
  pub defined : AreDefined t first → AreDefined t now

unfoldable pub Going : (List ℕ → Option Held) → CutRequest → (all rest : List ℕ) → (first now : WriteList) → Type 0
Going holds cut all rest first now =
    (r : Reading) (texts : List (List ℕ × List ℕ)) → r.holds ≡ holds → IsCutBy r texts cut → GoesOn r cut.request.now texts holds cut.table.now all rest first now

pub going_begins : (holds : List ℕ → Option Held) (cut : CutRequest) (all : List ℕ) (ws : WriteList) → Going holds cut all all ws ws
unfolding Going
going_begins holds cut all ws = λ r texts by cuts. record { told = λ e. e; read = λ e. refl; defined = λ d. d }

pub going_on : {A : Type 0} (holds : List ℕ → Option Held) (cut : CutRequest) (all rest more : List ℕ) (place : ℕ) (first before after : WriteList) (x : A) → AddsMember {A = A} holds cut place before after (Ok x) → rest ≡ place ∷ more
    → Going holds cut all rest first before → Going holds cut all more first after
unfolding Going AddsMember
going_on holds cut all rest more place first before after x adds is going = λ r texts by cuts.
    let q = cut.request.now in
    let t = cut.table.now in
    let so_far = subst (λ ps. GoesOn r q texts holds t all ps first before) is (going r texts by cuts) in
    let added = adds r texts by cuts in
    record {
      told = λ e. (told_first holds q.body (at_place t place) (members_at t more) (so_far.told e)).1;
      read = λ e.
          let told = told_first holds q.body (at_place t place) (members_at t more) (so_far.told e) in
          sym (ap (and_rest (list_of (writes_in t before))) (joined (part_of r q texts) (at_place t place) (members_at t more))
          ∙ moved (list_of (writes_in t before)) (list_of (writes_in t after)) (write_read (part_of r q texts) (at_place t place)) (parts_read r q texts (members_at t more)) (added.writes told.0))
          ∙ so_far.read e;
      defined = λ d. added.defined (so_far.defined d);
    }

stopped : (A B : Type 0) (holds : List ℕ → Option Held) (cut : CutRequest) (all rest more : List ℕ) (place : ℕ) (first before after last : WriteList) (e : RecoverError) → rest ≡ place ∷ more → Going holds cut all rest first before
    → AddsMember {A = A} holds cut place before after (Err e) → AddsMembers {A = B} holds cut all first last (Err e)
unfolding Going AddsMember AddsMembers
stopped A B holds cut all rest more place first before after last e is going adds = λ r texts by cuts.
    let q = cut.request.now in
    let t = cut.table.now in
    let so_far = subst (λ ps. GoesOn r q texts holds t all ps first before) is (going r texts by cuts) in
    let added = adds r texts by cuts in
    by_error r texts e so_far added
  where
    by_error : (r : Reading) (texts : List (List ℕ × List ℕ)) (e : RecoverError) → GoesOn r cut.request.now texts holds cut.table.now all (place ∷ more) first before
        → AddsTold {A = A} (is_told_at holds cut.request.now.body (at_place cut.table.now place)) cut.table.now before after (write_read (part_of r cut.request.now texts) (at_place cut.table.now place)) (Err e)
        → AddsTold {A = B} (is_told (list_any (is_asked cut.request.now.body) (members_at cut.table.now all)) (holds cut.request.now.body)) cut.table.now first last (parts_read r cut.request.now texts (members_at cut.table.now all)) (Err e)
    by_error r texts NotPlaced so_far added =
        let q = cut.request.now in
        let t = cut.table.now in
        record {
          writes = λ told.
              let here = told_first holds q.body (at_place t place) (members_at t more) (so_far.told told) in
              sym (so_far.read told)
              ∙ ap (and_rest (list_of (writes_in t before))) (joined (part_of r q texts) (at_place t place) (members_at t more))
              ∙ none_moved (list_of (writes_in t before)) (write_read (part_of r q texts) (at_place t place)) (parts_read r q texts (members_at t more)) (added.writes here.0);
          defined = λ d. tt;
        }
    by_error r texts OutOfMemory so_far added = record { writes = λ told. tt; defined = λ d. tt }

pub going_stops : (A B : Type 0) (holds : List ℕ → Option Held) (cut : CutRequest) (all rest more : List ℕ) (place : ℕ) (first before after last : WriteList) (e : RecoverError) (result : Result B RecoverError)
    → AddsMember {A = A} holds cut place before after (Err e) → rest ≡ place ∷ more → result ≡ Err e → Going holds cut all rest first before → AddsMembers holds cut all first last result
going_stops A B holds cut all rest more place first before after last e result adds is refused going =
    rw refused (stopped A B holds cut all rest more place first before after last e is going adds)

pub going_ends : {A : Type 0} (holds : List ℕ → Option Held) (cut : CutRequest) (all rest : List ℕ) (first now : WriteList) (x : A) → rest ≡ [] → Going holds cut all rest first now → AddsMembers holds cut all first now (Ok x)
unfolding Going AddsMembers
going_ends holds cut all rest first now x is going = λ r texts by cuts.
    let q = cut.request.now in
    let t = cut.table.now in
    let so_far = subst (λ ps. GoesOn r q texts holds t all ps first now) is (going r texts by cuts) in
    record {
      writes = λ told. sym (so_far.read told) ∙ ap (λ (ws : List Write). Some ws) (append-nil (list_of (writes_in t now)));
      defined = so_far.defined;
    }

-- each place passes the test that all pass
pub sound_place : (test : ℕ → Bool) (places : List SchemaIndex) (i : ℕ) (d : SchemaIndex) → i < length places → list_all test (map (λ p. p.0) places) ≡ true → test (get_or places i d).0 ≡ true
sound_place test [] i d l all = absurd (omega (arith, l))
sound_place test (p ∷ places) zero d l all = (and_parts (test p.0) (list_all test (map (λ p. p.0) places)) all).0
sound_place test (p ∷ places) (suc i) d l all = sound_place test places i d (omega (arith, l)) (and_parts (test p.0) (list_all test (map (λ p. p.0) places)) all).1

-- the places from one on
pub places_further : (places : List SchemaIndex) (i : ℕ) (d : SchemaIndex) → i < length places → map (λ p. p.0) (drop i places) ≡ (get_or places i d).0 ∷ map (λ p. p.0) (drop (i + 1) places)
places_further places i d l = ap (map (λ (p : SchemaIndex). p.0)) (drop_more places i d l)

-- The members of a schema, and the body.

pub same_members : (schema : Schema) (t : Table) (places : List ℕ) → schema.table ≡ t → places ≡ schema.node.members → members_at t places ≡ members_of schema
same_members schema t places table is = λ i. members_at (sym table i) (is i)

-- so are the places of a schema's members
pub sound_members : (test : Schema → Bool) (schema : Schema) (t : Table) (places : List ℕ) → schema.table ≡ t → places ≡ schema.node.members → list_all test (members_of schema) ≡ true
    → list_all (λ p. option_map_or test (at_place t p) true) places ≡ true
sound_members test schema t places table is all = go places (ap (list_all test) (same_members schema t places table is) ∙ all)
  where
    go : (ps : List ℕ) → list_all test (members_at t ps) ≡ true → list_all (λ p. option_map_or test (at_place t p) true) ps ≡ true
    go [] h = refl
    go (p ∷ ps) h = by (at_place t p) h (go ps)
      where
        by : (o : Option Schema) → list_all test (cons_option o (members_at t ps)) ≡ true → (list_all test (members_at t ps) ≡ true → list_all (λ p. option_map_or test (at_place t p) true) ps ≡ true)
            → (option_map_or test o true && list_all (λ p. option_map_or test (at_place t p) true) ps) ≡ true
        by None h rest = rest h
        by (Some m) h rest = let x = and_parts (test m) (list_all test (members_at t ps)) h in rw x.0 (rest x.1)

ordered : (us all : List Write) (parts : Option (List Write)) → option_map (λ ws. us ++ ws) parts ≡ Some all → option_map (λ ws. in_order (us ++ ws)) parts ≡ Some (in_order all)
ordered us all None e = absurd (cc e)
ordered us all (Some ws) e = let same : us ++ ws ≡ all = cc e in ap (λ (xs : List Write). Some (in_order xs)) same

unordered : (us : List Write) (parts : Option (List Write)) → option_map (λ ws. us ++ ws) parts ≡ None → option_map (λ ws. in_order (us ++ ws)) parts ≡ None
unordered us None e = refl
unordered us (Some ws) e = absurd (cc e)

-- all writes in index order
pub cut_kept : {A : Type 0} (holds : List ℕ → Option Held) (cut : CutRequest) (schema : Schema) (places body : List ℕ) (first before after : WriteList) (x : A) → schema.table ≡ cut.table.now → places ≡ schema.node.members → body ≡ cut.request.now.body
    → KeepsBody cut.table.now holds schema body (Ok first) → AddsMembers holds cut places first before (Ok x) → writes_in cut.table.now after ≡ in_index_order (writes_in cut.table.now before)
    → ((t : Table) → AreDefined t before → AreDefined t after) → KeepsCut holds cut schema (Ok after)
unfolding AddsMembers KeepsCut
cut_kept {A} holds cut schema places body first before after x table is bytes kept adds order stays = λ r texts by cuts.
    let q = cut.request.now in
    let t = cut.table.now in
    let inner = subst (λ b. KeepsBody t holds schema b (Ok first)) bytes kept in
    let added = subst (λ ms. AddsTold {A = A} (is_told (list_any (is_asked q.body) ms) (holds q.body)) t first before (parts_read r q texts ms) (Ok x)) (same_members schema t places table is) (adds r texts by cuts) in
    let defined = stays t (added.defined inner.defined) in
    record {
      writes = λ told.
          record {
            writes = ap (with_body (parts_read r q texts (members_of schema))) (inner.writes told).writes
                ∙ ordered (list_of (writes_in t first)) (list_of (writes_in t before)) (parts_read r q texts (members_of schema)) (added.writes told)
                ∙ ap (λ (ws : List Write). Some ws) (sym (ap list_of order ∙ list_of-writes_of (in_order (list_of (writes_in t before)))));
            defined = defined;
          };
      defined = defined;
    }

body_error : (t : Table) (told : Bool) (read parts : Option (List Write)) (e : RecoverError) → KeepsWritesTold told t read (Err e) → KeepsWritesTold told t (with_body parts read) (Err e)
body_error t told read parts NotPlaced kept = record { writes = λ h. ap (with_body parts) (kept.writes h); defined = tt }
body_error t told read parts OutOfMemory kept = record { writes = λ h. tt; defined = tt }

-- the body was refused
pub body_stops : (holds : List ℕ → Option Held) (cut : CutRequest) (schema : Schema) (body : List ℕ) (e : RecoverError) (result : Result WriteList RecoverError) → result ≡ Err e → body ≡ cut.request.now.body
    → KeepsBody cut.table.now holds schema body (Err e) → KeepsCut holds cut schema result
unfolding KeepsCut
body_stops holds cut schema body e result is bytes kept = rw is (λ r texts by cuts.
    let q = cut.request.now in
    body_error cut.table.now (is_told (reads_body schema q.body) (holds q.body)) (body_part holds schema q.body) (parts_read r q texts (members_of schema)) e (subst (λ b. KeepsBody cut.table.now holds schema b (Err e)) bytes kept))

parts_error : {A : Type 0} (t : Table) (told : Bool) (read parts : Option (List Write)) (first after : WriteList) (e : RecoverError) → KeepsWritesTold told t read (Ok first) → AddsTold {A = A} told t first after parts (Err e)
    → KeepsWritesTold told t (with_body parts read) (Err e)
parts_error t told read parts first after NotPlaced kept adds =
    record { writes = λ h. ap (with_body parts) (kept.writes h).writes ∙ unordered (list_of (writes_in t first)) parts (adds.writes h); defined = tt }
parts_error t told read parts first after OutOfMemory kept adds = record { writes = λ h. tt; defined = tt }

-- a member was refused
pub members_stop : (A : Type 0) (holds : List ℕ → Option Held) (cut : CutRequest) (schema : Schema) (places body : List ℕ) (first after : WriteList) (e : RecoverError) (result : Result WriteList RecoverError) → result ≡ Err e
    → schema.table ≡ cut.table.now → places ≡ schema.node.members → body ≡ cut.request.now.body
    → KeepsBody cut.table.now holds schema body (Ok first) → AddsMembers {A = A} holds cut places first after (Err e) → KeepsCut holds cut schema result
unfolding AddsMembers KeepsCut
members_stop A holds cut schema places body first after e result refused table is bytes kept adds = rw refused (λ r texts by cuts.
    let q = cut.request.now in
    let t = cut.table.now in
    parts_error {A = A} t (is_told (reads_body schema q.body) (holds q.body)) (body_part holds schema q.body) (parts_read r q texts (members_of schema)) first after e
    (subst (λ b. KeepsBody t holds schema b (Ok first)) bytes kept)
    (subst (λ ms. AddsTold {A = A} (is_told (list_any (is_asked q.body) ms) (holds q.body)) t first after (parts_read r q texts ms) (Err e)) (same_members schema t places table is) (adds r texts by cuts)))

-- want of memory is free
pub memory_cut : (holds : List ℕ → Option Held) (cut : CutRequest) (schema : Schema) (result : Result WriteList RecoverError) → result ≡ Err OutOfMemory → KeepsCut holds cut schema result
unfolding KeepsCut
memory_cut holds cut schema result is = rw is (λ r texts by cuts. record { writes = λ e. tt; defined = tt })

-- The whole request.

-- the last literal of a cut template
pub last_of_holes : (holes : List CutHole) (last : List ℕ) → last_literal (behind_holes holes (literal_alone last)).first (behind_holes holes (literal_alone last)).rest ≡ last
last_of_holes [] last = refl
last_of_holes (h ∷ holes) last = last_of_holes holes last

pub own_of_holes : (holes : List CutHole) (last : List ℕ) (t : Template) → behind_holes holes (literal_alone last) ≡ t → query_pieces last ≡ own_query t
own_of_holes holes last t is = ap query_pieces (sym (last_of_holes holes last)) ∙ ap own_query is

pub labelled_kept : (holds : List ℕ → Option Held) (q : Request) (schema : SchemaRef) (last : List ℕ) (texts : List (List ℕ × List ℕ)) (cut : CutRequest) (result : Result WriteList RecoverError) → KeepsCut holds cut (schema_of schema) result
    → cut.request.now ≡ q → cut.table.now ≡ (schema_of schema).table → HasTexts texts cut.labels.now → HasLeft (query_pieces last) (query_pieces q.target) cut.own.now cut.pieces.now
    → cut.schema ≡ schema → KeepsLabelled holds q schema last texts result
unfolding KeepsCut KeepsLabelled
labelled_kept holds q schema last texts cut result kept request table labels left members = λ r by is same.
    let s = schema_of schema in
    let cuts : IsCutBy r texts cut =
    record {
      labels = labels;
      left = λ name. left name
          ∙ ap (λ ps. drop (length (pieces_named name ps)) (pieces_named name (query_pieces q.target))) same
          ∙ ap (λ (p : Request). drop (length (pieces_named name (own_query (template r)))) (pieces_named name (query_pieces p.target))) (sym request);
      schema = is ∙ ap schema_of (sym members);
    } in
    let here = kept r texts by cuts in
    subst (λ (t : Table). KeepsWritesTold (is_told (reads_body s q.body) (holds q.body)) t (with_body (parts_read r q texts (members_of s)) (body_part holds s q.body)) result) table
    (subst (λ (p : Request). KeepsWritesTold (is_told (reads_body s p.body) (holds p.body)) cut.table.now (with_body (parts_read r p texts (members_of s)) (body_part holds s p.body)) result) request here)

pub memory_labelled : (holds : List ℕ → Option Held) (q : Request) (schema : SchemaRef) (last : List ℕ) (texts : List (List ℕ × List ℕ)) (result : Result WriteList RecoverError) → result ≡ Err OutOfMemory → KeepsLabelled holds q schema last texts result
unfolding KeepsLabelled
memory_labelled holds q schema last texts result is = rw is (λ r by same own. record { writes = λ e. tt; defined = tt })

pub request_read : (r : Reading) (q : Request) (holds : List ℕ → Option Held) (schema : SchemaRef) (last : List ℕ) (texts : List (List ℕ × List ℕ)) (result : Result WriteList RecoverError) → KeepsLabelled holds q schema last texts result
    → r.holds ≡ holds → r.schema ≡ schema_of schema → query_pieces last ≡ own_query (template r) → path_texts (template r) (before_query q.target) ≡ Some texts → ReadsTold r q result
unfolding KeepsLabelled read_writes
request_read r q holds schema last texts result kept same is own read = λ told.
    let s = schema_of schema in
    let inner =
    subst (λ (hs : List ℕ → Option Held). KeepsWritesTold (is_told (reads_body s q.body) (hs q.body)) s.table (with_body (parts_read r q texts (members_of s)) (body_part hs s q.body)) result) (sym same) (kept r same is own) in
    let whole =
    subst (λ (x : Schema). KeepsWritesTold (is_told (reads_body x q.body) (r.holds q.body)) x.table (with_body (parts_read r q texts (members_of x)) (body_part r.holds x q.body)) result) (sym is) inner in
    subst (λ o. KeepsWrites r.schema.table (option_and_then (λ ts. with_body (parts_read r q ts (members_of r.schema)) (body_writes r q)) o) result) (sym read) (whole.writes told)

pub request_defined : (r : Reading) (q : Request) (holds : List ℕ → Option Held) (schema : SchemaRef) (last : List ℕ) (texts : List (List ℕ × List ℕ)) (result : Result WriteList RecoverError) → KeepsLabelled holds q schema last texts result
    → r.holds ≡ holds → r.schema ≡ schema_of schema → query_pieces last ≡ own_query (template r) → IfOk result (λ ws. AreDefined (schema_of schema).table ws)
unfolding KeepsLabelled
request_defined r q holds schema last texts result kept same is own = (kept r same is own).defined

path_error : {A : Type 0} (show : A → List (List ℕ × List ℕ)) (r : Reading) (q : Request) (e : RecoverError) → Finds show (Err e) (path_texts (template r) (before_query q.target)) → ReadsTold r q (Err e)
unfolding read_writes
path_error show r q NotPlaced none = λ told. ap (option_and_then (λ ts. with_body (parts_read r q ts (members_of r.schema)) (body_writes r q))) none
path_error show r q OutOfMemory none = λ told. tt

-- the path is none of the template's
pub path_stops : {A : Type 0} (show : A → List (List ℕ × List ℕ)) (r : Reading) (q : Request) (t : Template) (path : List ℕ) (e : RecoverError) (result : Result WriteList RecoverError) → result ≡ Err e → t ≡ template r → path ≡ before_query q.target
    → Finds show (Err e) (path_texts t path) → ReadsTold r q result
path_stops show r q t path e result refused is same none =
    rw refused (path_error show r q e (subst (λ x. Finds show (Err e) (path_texts x (before_query q.target))) is (subst (λ p. Finds show (Err e) (path_texts t p)) same none)))
