-- What stands behind a front or before an end.
use Rattle.std.proofs.Common.{◌≡◌, refl, sym, ◌∙◌, ap, cond, ℕ, suc, ◌+◌, ◌-◌, arith, Bool, true, false, not, ◌==◌, List, [], ◌∷◌, ◌++◌, length, take, drop, Option, Some, None, option_map, option_and_then, eq-eqb, append_assoc}
use Rattle.std.specs.Borrow.{Bor}
use Rattle.std.specs.List.{position_or_len}
use Rattle.std.specs.Option.{MatchOption}
use Rattle.std.specs.Str.Pattern.{FindsTextPrefix, FindsTextSuffix, StripsPrefix, StripsSuffix}
use Rattle.std.specs.Cmp.Lexicographic.{same_text as same_from_test}
use Rattle.std.proofs.lemmas.Bool.{eqb-true, ne_eqb}
use Rattle.std.proofs.lemmas.List.{append-nil, length-append}
use Rattle.smithy_types.specs.Texts.{same_text}
use Rattle.smithy_types.specs.Grammars.{before_query}
use Rattle.smithy_schema.specs.Templates.{Hole, Piece, Template}
use Rattle.smithy_strings.specs.Escapes.{decoded}
use Rattle.smithy_strings.proofs.UnescapeLaws.{same_self}
use Rattle.smithy_binding.specs.views.CutTemplate.{hole_shown, behind_hole, behind_holes, literal_alone}
use Rattle.smithy_schema.specs.declared.first_hole.CutHole.{CutHole}
use Rattle.smithy_recovery.specs.PathParts.{behind_front, before_end, segment, part_by, with_part, path_texts}
use Rattle.smithy_recovery.specs.views.Kept.{part_behind, text_behind}

pub behind_front-append : (front text : List ℕ) → behind_front front (front ++ text) ≡ Some text
behind_front-append [] text = refl
behind_front-append (f ∷ front) text = ap (λ t. cond t (behind_front front (front ++ text)) None) (eq-eqb f f refl) ∙ behind_front-append front text

unlike_longer : (x : List ℕ) (b : ℕ) (end : List ℕ) → same_text (b ∷ x ++ end) end ≡ false
unlike_longer x b end = go (same_text (b ∷ x ++ end) end) refl
  where
    go : (t : Bool) → same_text (b ∷ x ++ end) end ≡ t → t ≡ false
    go false e = refl
    go true e = absurd (let lengths = ap length (same_from_test (b ∷ x ++ end) end (sym e)) in let sum = length-append x end in omega (arith, lengths, sum))

end_self : (end : List ℕ) → before_end end end ≡ Some []
end_self [] = refl
end_self (b ∷ end) = ap (λ t. cond t (Some []) (option_map (λ front. b ∷ front) (before_end (b ∷ end) end))) (same_self (b ∷ end))

pub before_end-append : (x end : List ℕ) → before_end end (x ++ end) ≡ Some x
before_end-append [] end = end_self end
before_end-append (b ∷ x) end =
    ap (λ t. cond t (Some []) (option_map (λ front. b ∷ front) (before_end end (x ++ end)))) (unlike_longer x b end)
    ∙ ap (option_map (λ front. b ∷ front)) (before_end-append x end)

-- a front and what stands behind it are the text
pub front_back : (front text rest : List ℕ) → behind_front front text ≡ Some rest → text ≡ front ++ rest
front_back [] text rest e = cc e
front_back (f ∷ front) [] rest e = absurd (cc e)
front_back (f ∷ front) (b ∷ text) rest e = go (f == b) refl (front_back front text rest) e
  where
    go : (t : Bool) → (f == b) ≡ t → (behind_front front text ≡ Some rest → text ≡ front ++ rest) → cond t (behind_front front text) None ≡ Some rest → b ∷ text ≡ f ∷ front ++ rest
    go true same later h = λ i. sym (eqb-true f b same) i ∷ later h i
    go false same later h = absurd (cc h)

-- and so are an end and what stands before it
end_back : (end text front : List ℕ) → before_end end text ≡ Some front → text ≡ front ++ end
end_back [] [] front e = let none : [] ≡ front = cc e in rw (sym none) refl
end_back (c ∷ end) [] front e =
    let bad : None ≡ Some front = sym (ap (λ t. cond t (Some []) None) (ne_eqb (suc (length end)) 0 (λ h. omega (arith, h)))) ∙ e in absurd (cc bad)
end_back end (b ∷ text) front e = go (same_text (b ∷ text) end) refl (before_end end text) refl (end_back end text) e
  where
    go : (t : Bool) → same_text (b ∷ text) end ≡ t → (o : Option (List ℕ)) → before_end end text ≡ o → ((f : List ℕ) → before_end end text ≡ Some f → text ≡ f ++ end)
        → cond t (Some []) (option_map (λ front. b ∷ front) o) ≡ Some front → b ∷ text ≡ front ++ end
    go true same o is later h = let none : [] ≡ front = cc h in same_from_test (b ∷ text) end (sym same) ∙ ap (λ f. f ++ end) none
    go false same (Some f) is later h = let more : b ∷ f ≡ front = cc h in ap (λ t. b ∷ t) (later f is) ∙ ap (λ f. f ++ end) more
    go false same None is later h = absurd (cc h)

-- what the calls say
pub strips_front : (front text : List ℕ) (r : Option (Bor (List ℕ))) → MatchOption r (FindsTextPrefix front text None) (λ x. StripsPrefix (FindsTextPrefix front) text x.now)
    → option_map (λ t. t.now) r ≡ behind_front front text
strips_front front text None lacks = go (behind_front front text) refl
  where
    go : (o : Option (List ℕ)) → behind_front front text ≡ o → None ≡ o
    go None e = refl
    go (Some rest) e = absurd (lacks rest (front_back front text rest e))
strips_front front text (Some x) h =
    let found = h.1 in
    sym (ap (behind_front front) found.1 ∙ behind_front-append front (drop h.0 text) ∙ ap Some (sym h.2))

pub strips_end : (end text : List ℕ) (r : Option (Bor (List ℕ))) → MatchOption r (FindsTextSuffix end text None) (λ x. StripsSuffix (FindsTextSuffix end) text x.now)
    → option_map (λ t. t.now) r ≡ before_end end text
strips_end end text None lacks = go (before_end end text) refl
  where
    go : (o : Option (List ℕ)) → before_end end text ≡ o → None ≡ o
    go None e = refl
    go (Some front) e = absurd (lacks front (end_back end text front e))
strips_end end text (Some x) h =
    let found = h.1 in
    sym (ap (before_end end) found.1 ∙ before_end-append (take (length text - h.0) text) end ∙ ap Some (sym h.2))

-- What stands behind a hole's part.

front_of_append : (front rest : List ℕ) → behind_front front (front ++ rest) ≡ Some (drop (length front) (front ++ rest))
front_of_append [] rest = refl
front_of_append (f ∷ front) rest = ap (λ t. cond t (behind_front front (front ++ rest)) None) (eq-eqb f f refl) ∙ front_of_append front rest

behind_segment : (text : List ℕ) → behind_front (segment text) text ≡ Some (drop (length (segment text)) text)
behind_segment [] = refl
behind_segment (b ∷ text) =
    let same : take (cond (not (b == 47)) (1 + position_or_len (λ x. x == 47) text) 0) (b ∷ text) ≡ first (b == 47) = go (b == 47) in
    ap (λ s. behind_front s (b ∷ text)) same ∙ by (b == 47) (behind_segment text) ∙ sym (ap (λ s. Some (drop (length s) (b ∷ text))) same)
  where
    first : Bool → List ℕ
    first t = cond t [] (b ∷ segment text)

    go : (t : Bool) → take (cond (not t) (1 + position_or_len (λ x. x == 47) text) 0) (b ∷ text) ≡ first t
    go true = refl
    go false = let next : 1 + position_or_len (λ x. x == 47) text ≡ suc (position_or_len (λ x. x == 47) text) = omega arith in ap (λ k. take k (b ∷ text)) next

    by : (t : Bool) → behind_front (segment text) text ≡ Some (drop (length (segment text)) text) → behind_front (first t) (b ∷ text) ≡ Some (drop (length (first t)) (b ∷ text))
    by true rest = refl
    by false rest = ap (λ t. cond t (behind_front (segment text) text) None) (eq-eqb b b refl) ∙ rest

behind_part : (greedy : Bool) (literal path part : List ℕ) → part_by greedy literal path ≡ Some part → behind_front part path ≡ Some (drop (length part) path)
behind_part true literal path part e =
    let whole = end_back (before_query literal) path part e in
    ap (behind_front part) whole ∙ front_of_append part (before_query literal) ∙ ap (λ t. Some (drop (length part) t)) (sym whole)
behind_part false literal path part e =
    let is : segment path ≡ part = cc e in
    ap (λ s. behind_front s path) (sym is) ∙ behind_segment path ∙ ap (λ s. Some (drop (length s) path)) is

-- the part and what stands behind it
pub part_some : (greedy : Bool) (literal path part rest : List ℕ) → Some part ≡ part_by greedy literal path → Some rest ≡ behind_front part path → Some (part, rest) ≡ part_behind greedy literal path
part_some greedy literal path part rest e f =
    let behind : Some rest ≡ Some (drop (length part) path) = f ∙ behind_part greedy literal path part (sym e) in
    let same : rest ≡ drop (length part) path = cc behind in
    let pair : Option (List ℕ × List ℕ) = Some (part, drop (length part) path) in
    let first : Some (part, rest) ≡ pair = ap (λ (x : List ℕ). Some (part, x)) same in
    first ∙ ap (option_map (λ (p : List ℕ). (p, drop (length p) path))) e

pub part_none : (greedy : Bool) (literal path part : List ℕ) → Some part ≡ part_by greedy literal path → None ≡ behind_front part path → None ≡ part_behind greedy literal path
part_none greedy literal path part e f =
    let bad : None ≡ Some (drop (length part) path) = f ∙ behind_part greedy literal path part (sym e) in absurd (cc bad)

-- One hole further.

abbrev pub then_texts : List ℕ → Template → Option (List ℕ × List ℕ) → Option (List (List ℕ × List ℕ))
then_texts name later o = option_and_then (λ (x : List ℕ × List ℕ). option_map (λ more. (name, x.0) ∷ more) (path_texts later x.1)) o

part_texts : (name : List ℕ) (later : Template) (text : List ℕ) (o : Option (List ℕ))
    → option_and_then (λ part. with_part name (path_texts later (drop (length part) text)) part) o
    ≡ then_texts name later (option_and_then (λ (x : List ℕ × List ℕ). option_map (λ t. (t, x.1)) (decoded x.0)) (option_map (λ part. (part, drop (length part) text)) o))
part_texts name later text None = refl
part_texts name later text (Some part) = go (decoded part)
  where
    go : (d : Option (List ℕ)) → option_and_then (λ t. option_map (λ texts. (name, t) ∷ texts) (path_texts later (drop (length part) text))) d
        ≡ then_texts name later (option_map (λ t. (t, drop (length part) text)) d)
    go None = refl
    go (Some t) = refl

front_texts : (name : List ℕ) (greedy : Bool) (later : Template) (o : Option (List ℕ))
    → option_and_then (λ text. option_and_then (λ part. with_part name (path_texts later (drop (length part) text)) part) (part_by greedy later.first text)) o
    ≡ then_texts name later (option_and_then (λ text. option_and_then (λ (x : List ℕ × List ℕ). option_map (λ t. (t, x.1)) (decoded x.0)) (part_behind greedy later.first text)) o)
front_texts name greedy later None = refl
front_texts name greedy later (Some text) = part_texts name later text (part_by greedy later.first text)

pub hole_further : (front : List ℕ) (hole : Hole) (later : Template) (path : List ℕ)
    → path_texts (behind_hole front hole later) path ≡ then_texts hole.name later (text_behind front hole.greedy later.first path)
hole_further front hole later path = go later.rest refl ∙ front_texts hole.name hole.greedy later (behind_front front path)
  where
    go : (ps : List Piece) → later.rest ≡ ps → path_texts (behind_hole front hole later) path
        ≡ option_and_then (λ text. option_and_then (λ part. with_part hole.name (path_texts later (drop (length part) text)) part) (part_by hole.greedy later.first text)) (behind_front front path)
    go [] e = rw e refl
    go (p ∷ ps) e = rw e refl

-- A hole of a cut template further.

abbrev Texts : Type 0
Texts = List (List ℕ × List ℕ)

abbrev pub behind_done : Texts → Option Texts → Option Texts
behind_done done o = option_map (λ more. done ++ more) o

more_done : (done : Texts) (p : List ℕ × List ℕ) (o : Option Texts) → behind_done done (option_map (λ more. p ∷ more) o) ≡ behind_done (done ++ p ∷ []) o
more_done done p None = refl
more_done done p (Some more) = ap Some (sym (append_assoc done (p ∷ []) more))

pub path_more : (done : Texts) (holes rest : List CutHole) (h : CutHole) (last path : List ℕ) (x : List ℕ × List ℕ) → holes ≡ h ∷ rest
    → text_behind h.literal.now h.is_greedy (behind_holes rest (literal_alone last)).first path ≡ Some x
    → behind_done done (path_texts (behind_holes holes (literal_alone last)) path) ≡ behind_done (done ++ (h.name.now, x.0) ∷ []) (path_texts (behind_holes rest (literal_alone last)) x.1)
path_more done holes rest h last path x is e =
    let later = behind_holes rest (literal_alone last) in
    ap (λ hs. behind_done done (path_texts (behind_holes hs (literal_alone last)) path)) is
    ∙ ap (behind_done done) (hole_further h.literal.now (hole_shown h) later path ∙ ap (then_texts h.name.now later) e)
    ∙ more_done done (h.name.now, x.0) (path_texts later x.1)

pub path_stop : (holes rest : List CutHole) (h : CutHole) (last path : List ℕ) → holes ≡ h ∷ rest → text_behind h.literal.now h.is_greedy (behind_holes rest (literal_alone last)).first path ≡ None
    → path_texts (behind_holes holes (literal_alone last)) path ≡ None
path_stop holes rest h last path is e =
    let later = behind_holes rest (literal_alone last) in
    ap (λ hs. path_texts (behind_holes hs (literal_alone last)) path) is ∙ hole_further h.literal.now (hole_shown h) later path ∙ ap (then_texts h.name.now later) e

pub path_end : (done : Texts) (holes : List CutHole) (last path : List ℕ) → holes ≡ [] → behind_done done (path_texts (behind_holes holes (literal_alone last)) path) ≡ Some done
path_end done holes last path is = ap (λ hs. behind_done done (path_texts (behind_holes hs (literal_alone last)) path)) is ∙ ap Some (append-nil done)
