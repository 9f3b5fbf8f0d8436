-- A name that is written in an object leads to its value.
use Rattle.std.proofs.Common.{◌≡◌, ℕ, ◌+◌, ◌-◌, length, false, List, [], ◌∷◌, ◌++◌, map, IsTrue, nat_cmp, suc, refl, sym, ap, ap₂, ◌∙◌, subst, append_assoc, arith}
use Rattle.std.specs.declared.cmp.Ordering.TheVariants.{Less}
use Rattle.std.specs.Cmp.Lexicographic.{slice_cmp}
use Rattle.std.proofs.lemmas.List.{length-append, length-map, map-append}
use Rattle.serde_json.specs.Written.{comma_if}
use Rattle.smithy_document.specs.declared.json_writing.JsonWriting.{JsonWriting}
use Rattle.smithy_document.specs.declared.json_fields.Field.{Field}
use Rattle.smithy_document.specs.views.JsonTree.{text_at}
use Rattle.smithy_document.specs.views.JsonShown.{Pair, some_pairs, name_shown, fields_shown, field_starts, IsBehind, NamesAscend}
use Rattle.smithy_document.specs.views.JsonStanding.{Part, part_of, first_name, HasFields, HasNamed, IsJoined, IsNamed}
use Rattle.smithy_document.specs.views.JsonFields.{names_of, starts_of, IsLastBelow}

-- ---- the last name

abbrev last_of : List ℕ → List (List ℕ) → List ℕ
last_of name [] = name
last_of name (n ∷ names) = last_of n names

last_at : (name : List ℕ) (names : List (List ℕ)) → text_at (name ∷ names) (length names) ≡ last_of name names
last_at name [] = refl
last_at name (n ∷ names) = last_at n names

last_joined : (outer : List (List ℕ)) (name : List ℕ) (names : List (List ℕ)) → text_at (outer ++ name ∷ names) (length outer + length names) ≡ last_of name names
last_joined [] name names = ap (text_at (name ∷ names)) (omega arith) ∙ last_at name names
last_joined (o ∷ outer) name names =
    let at : length (o ∷ outer) + length names ≡ suc (length outer + length names) = omega arith in
    ap (text_at (o ∷ (outer ++ name ∷ names))) at ∙ last_joined outer name names

behind_more : (low : List ℕ) (names : List (List ℕ)) (more : List ℕ) → IsBehind low names → slice_cmp nat_cmp (last_of low names) more ≡ Less → IsBehind low (names ++ more ∷ [])
behind_more low [] more h less = (less, tt)
behind_more low (n ∷ names) more h less = (h.0, behind_more n names more h.1 less)

-- names that ascend still do with one behind the last of them
ascend_more : (outer names whole : List (List ℕ)) (more : List ℕ) → whole ≡ outer ++ names → NamesAscend names → (names ≡ [] → ⊥) → slice_cmp nat_cmp (text_at whole (length whole - 1)) more ≡ Less → NamesAscend (names ++ more ∷ [])
ascend_more outer [] whole more is h some less = absurd (some refl)
ascend_more outer (n ∷ names) whole more is h some less =
    let size : length (outer ++ n ∷ names) ≡ length outer + suc (length names) = length-append outer (n ∷ names) in
    let at : length (outer ++ n ∷ names) - 1 ≡ length outer + length names = omega (arith, size) in
    let last : text_at whole (length whole - 1) ≡ last_of n names = ap (λ w. text_at w (length w - 1)) is ∙ ap (text_at (outer ++ n ∷ names)) at ∙ last_joined outer n names in
    behind_more n names more h (ap (λ t. slice_cmp nat_cmp t more) (sym last) ∙ less)

-- ---- what a name leads to

pub record Led (w : JsonWriting) (outer : Part) (ps : List Pair) (name : List ℕ) : Type 0 where
  pub inner : Part
  pub joined : IsJoined w.level outer inner (part_of w)
  pub named : HasNamed w.level ps name inner

abbrev pub inner_of : Part → List Pair → List ℕ → ℕ → Part
inner_of inner ps name at = record { text = inner.text ++ (comma_if (some_pairs ps) ++ name_shown name); names = inner.names ++ name ∷ []; starts = inner.starts ++ at ∷ [] }

-- the names of an object without fields are none
ascending : (ps : List Pair) (outer names whole : List (List ℕ)) (name : List ℕ) → names ≡ map first_name ps → whole ≡ outer ++ names → NamesAscend names
    → (IsTrue (some_pairs ps) → slice_cmp nat_cmp (text_at whole (length whole - 1)) name ≡ Less) → NamesAscend (names ++ name ∷ [])
ascending [] outer names whole name are is up behind = subst (λ ns. NamesAscend (ns ++ name ∷ [])) (sym are) tt
ascending (p ∷ ps) outer names whole name are is up behind =
    ascend_more outer names whole name is up (λ none. let no : [] ≡ map first_name (p ∷ ps) = sym none ∙ are in absurd (cc no)) (behind refl)

last_below : (name : List ℕ) (fs : List Field) → IsLastBelow name fs → slice_cmp nat_cmp (text_at (names_of fs) (length (names_of fs) - 1)) name ≡ Less
last_below name fs h = rw length-map h

pub name_leads : (old new : JsonWriting) (name : List ℕ) (outer inner : Part) (ps : List Pair) → IsJoined old.level outer inner (part_of old) → HasFields old.level ps inner → IsNamed name old new
    → Led new outer ps name
name_leads old new name outer inner ps j h n =
    let shown = fields_shown false ps in
    let comma = comma_if (some_pairs ps) in
    let commas : comma_if old.level.later ≡ comma = ap comma_if h.later in
    let at = length (old.text.items ++ comma_if old.level.later) in
    let start : new.level.start ≡ old.level.start = ap (λ l. l.start) n.level in
    let later : new.level.later ≡ old.level.later = ap (λ l. l.later) n.level in
    let first : new.level.first ≡ old.level.first = ap (λ l. l.first) n.level in
    let one : at ≡ length (old.text.items) + length comma = length-append old.text.items (comma_if old.level.later) ∙ ap (λ t. length old.text.items + length t) commas in
    let two : length old.text.items ≡ length outer.text + length inner.text = ap length j.text ∙ length-append outer.text inner.text in
    let three : length inner.text ≡ suc (length shown) = ap length h.text in
    let four : length (shown ++ comma) ≡ length shown + length comma = length-append shown comma in
    let five : old.level.start ≡ length outer.text = j.start in
    let placed : at ≡ new.level.start + 1 + length (shown ++ comma) = omega (arith, one, two, three, four, five, start) in
    record {
      inner = inner_of inner ps name at;
      joined = record {
        text =
            n.text ∙ append_assoc old.text.items (comma_if old.level.later) (name_shown name)
            ∙ ap₂ (λ t c. t ++ (c ++ name_shown name)) j.text commas ∙ append_assoc outer.text inner.text (comma ++ name_shown name);
        names = ap names_of n.noted ∙ map-append _ old.fields.list.items _ ∙ ap (λ ns. ns ++ name ∷ []) j.names ∙ append_assoc outer.names inner.names (name ∷ []);
        starts = ap starts_of n.noted ∙ map-append _ old.fields.list.items _ ∙ ap (λ ss. ss ++ at ∷ []) j.starts ∙ append_assoc outer.starts inner.starts (at ∷ []);
        first = first ∙ j.first;
        start = start ∙ j.start;
      };
      named = record {
        later = later ∙ h.later;
        text = ap (λ t. t ++ (comma ++ name_shown name)) h.text;
        names = ap (λ ns. ns ++ name ∷ []) h.names;
        starts = ap₂ (λ ss s. ss ++ s ∷ []) (h.starts ∙ ap (λ s. field_starts (s + 1) false ps) (sym start)) placed;
        ascends = λ up. ascending ps outer.names inner.names (names_of old.fields.list.items) name h.names j.names (h.ascends (n.ascended up)) (λ some. last_below name old.fields.list.items (n.behind up (subst IsTrue (sym h.later) some)));
      };
    }
