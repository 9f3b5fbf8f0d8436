-- Texts that are kept by their names.
use Rattle.std.proofs.Common.{◌≡◌, refl, sym, ◌∙◌, ap, cond, ℕ, zero, suc, arith, drop, length, Bool, true, false, List, [], ◌∷◌, ◌++◌, map, find, Option, Some, None, option_map, is_some, not, unwrap_or, Vec, Global, String}
use Rattle.std.specs.Borrow.{Bor}
use Rattle.std.specs.BTreeMap.{BTreeMap, get_by, get_by_text}
use Rattle.std.specs.Cmp.Lexicographic.{slice_cmp, same_text as same_from_test}
use Rattle.std.specs.Option.{option_map_or, option_or, option_copied}
use Rattle.std.specs.Ordering.{nat_cmp}
use Rattle.std.specs.Str.{bytes_eq}
use Rattle.std.proofs.lemmas.List.{append-nil, map-append}
use Rattle.std.proofs.Math.ListN.{drop_of_length-le}
use Rattle.smithy_types.specs.Texts.{same_text, found}
use Rattle.smithy_http.specs.Facts.{values_at}
use Rattle.smithy_recovery.specs.views.Kept.{text_in_map, label_seen}
use Rattle.smithy_recovery.specs.views.Pieces.{NamedPieces, HasLeft, pieces_under}
use Rattle.smithy_recovery.specs.QueryParts.{pieces_named}
use Rattle.smithy_recovery.specs.declared.path_texts.LabelText.{LabelText}

abbrev pub Groups : Type 0
Groups = BTreeMap (String Global) (Vec (Bor (List ℕ)) Global)

abbrev pub group : Groups → List ℕ → Option (Vec (Bor (List ℕ)) Global)
group m name = get_by_text m name

abbrev pub texts_in : Option (Vec (Bor (List ℕ)) Global) → List (List ℕ)
texts_in o = option_map_or (λ v. map (λ p. p.now) v.items) o []

-- the texts of the group of a name, or of an empty one
held_or_new : (o : Option (Vec (Bor (List ℕ)) Global)) (fresh : Vec (Bor (List ℕ)) Global) → fresh.items ≡ [] → map (λ (p : Bor (List ℕ)). p.now) (unwrap_or o fresh).items ≡ texts_in o
held_or_new None fresh empty = ap (map (λ (p : Bor (List ℕ)). p.now)) empty
held_or_new (Some v) fresh empty = refl

-- a text is added to the group of a name, or to a new one
pub group_put : (old new : Groups) (name : List ℕ) (piece : Bor (List ℕ)) (fresh before after : Vec (Bor (List ℕ)) Global)
    → fresh.items ≡ [] → before ≡ unwrap_or (group old name) fresh → after.items ≡ before.items ++ piece ∷ []
    → ((q : List ℕ) → group new q ≡ cond (bytes_eq name q) (Some after) (group old q))
    → (q : List ℕ) → pieces_under new q ≡ pieces_under old q ++ values_at q ((name, piece.now) ∷ [])
unfolding pieces_under
group_put old new name piece fresh before after empty is more put q = ap texts_in (put q) ∙ go (bytes_eq name q) refl
  where
    held : map (λ (p : Bor (List ℕ)). p.now) before.items ≡ texts_in (group old name)
    held = ap (λ (v : Vec (Bor (List ℕ)) Global). map (λ (p : Bor (List ℕ)). p.now) v.items) is ∙ held_or_new (group old name) fresh empty

    go : (t : Bool) → bytes_eq name q ≡ t → texts_in (cond t (Some after) (group old q)) ≡ texts_in (group old q) ++ map (λ (p : List ℕ × List ℕ). p.1) (cond t ((name, piece.now) ∷ []) [])
    go true e =
        let same : name ≡ q = same_from_test name q (sym e) in
        ap (map (λ (p : Bor (List ℕ)). p.now)) more ∙ map-append (λ (p : Bor (List ℕ)). p.now) before.items (piece ∷ []) ∙ ap (λ ts. ts ++ piece.now ∷ []) (held ∙ ap (λ n. texts_in (group old n)) same)
    go false e = sym (append-nil (texts_in (group old q)))

-- where nothing is kept, nothing is left
pub none_left : (own pieces : NamedPieces) (ps : List (List ℕ)) → ((name : List ℕ) → pieces_under pieces name ≡ []) → HasLeft ps ps own pieces
none_left own pieces ps none = λ name.
    ap (drop (length (pieces_under own name))) (none name)
    ∙ drop_of_length-le {A = List ℕ} [] {i = length (pieces_under own name)} (omega arith)
    ∙ sym (drop_of_length-le (pieces_named name ps) (omega arith))

abbrev pub Named : Type 0
Named = BTreeMap (Bor (List ℕ)) (Bor (List ℕ))

abbrev pub text_at : Named → List ℕ → Option (Bor (List ℕ))
text_at m name = get_by (λ k. slice_cmp nat_cmp name k.now) m

-- a label whose name is new
pub label_put : (old new : Named) (l : LabelText) (text : Bor (List ℕ)) (rest : List (List ℕ × List ℕ)) → text.now ≡ l.text → text_at old l.name.now ≡ None
    → ((q : List ℕ) → text_at new q ≡ cond (bytes_eq l.name.now q) (Some text) (text_at old q))
    → (q : List ℕ) → option_or (text_in_map new q) (found q rest) ≡ option_or (text_in_map old q) (found q (label_seen l ∷ rest))
unfolding text_in_map
label_put old new l text rest is free put q =
    ap (λ o. option_or (option_map (λ t. t.now) o) (found q rest)) (put q) ∙ go (bytes_eq l.name.now q) refl
  where
    go : (t : Bool) → bytes_eq l.name.now q ≡ t
        → option_or (option_map (λ (t : Bor (List ℕ)). t.now) (cond t (Some text) (text_at old q))) (found q rest)
        ≡ option_or (option_map (λ t. t.now) (text_at old q)) (option_map (λ (p : List ℕ × List ℕ). p.1) (cond t (Some (label_seen l)) (find (λ (p : List ℕ × List ℕ). same_text p.0 q) rest)))
    go true e =
        let same : l.name.now ≡ q = same_from_test l.name.now q (sym e) in
        ap Some is ∙ sym (ap (λ o. option_or (option_map (λ (t : Bor (List ℕ)). t.now) o) (Some l.text)) (ap (text_at old) (sym same) ∙ free))
    go false e = refl

-- a label whose name was met
pub label_skip : (old : Named) (l : LabelText) (text : Bor (List ℕ)) (rest : List (List ℕ × List ℕ)) → text_at old l.name.now ≡ Some text
    → (q : List ℕ) → option_or (text_in_map old q) (found q rest) ≡ option_or (text_in_map old q) (found q (label_seen l ∷ rest))
unfolding text_in_map
label_skip old l text rest met q = go (bytes_eq l.name.now q) refl
  where
    go : (t : Bool) → bytes_eq l.name.now q ≡ t
        → option_or (option_map (λ (t : Bor (List ℕ)). t.now) (text_at old q)) (found q rest)
        ≡ option_or (option_map (λ t. t.now) (text_at old q)) (option_map (λ (p : List ℕ × List ℕ). p.1) (cond t (Some (label_seen l)) (find (λ (p : List ℕ × List ℕ). same_text p.0 q) rest)))
    go true e =
        let same : l.name.now ≡ q = same_from_test l.name.now q (sym e) in
        let here : text_at old q ≡ Some text = ap (text_at old) (sym same) ∙ met in
        ap (λ o. option_or (option_map (λ (t : Bor (List ℕ)). t.now) o) (found q rest)) here
        ∙ sym (ap (λ o. option_or (option_map (λ (t : Bor (List ℕ)). t.now) o) (Some l.text)) here)
    go false e = refl

pub no_text : (m : Named) → ((q : List ℕ) → text_at m q ≡ None) → (q : List ℕ) → text_in_map m q ≡ None
unfolding text_in_map
no_text m empty q = ap (option_map (λ t. t.now)) (empty q)

-- what a test of a look-up says
pub none_got : {X : Type 0} (r : Option (Bor X)) (o : Option X) (b : Bool) → is_some r ≡ not b → b ≡ true → option_copied r ≡ o → o ≡ None
none_got None o b e is same = sym same
none_got (Some x) o b e is same = let bad : true ≡ false = e ∙ ap not is in absurd (cc bad)

pub some_got : {X : Type 0} (r : Option (Bor X)) (o : Option X) (b : Bool) → is_some r ≡ not b → b ≡ false → option_copied r ≡ o → (x : X) × (o ≡ Some x)
some_got None o b e is same = let bad : false ≡ true = e ∙ ap not is in absurd (cc bad)
some_got (Some x) o b e is same = (x.now, sym same)

-- the pieces that are found under a name
pub pieces_found : (m : Groups) (name : List ℕ) (v : Vec (Bor (List ℕ)) Global) → Some v ≡ group m name → map (λ (p : Bor (List ℕ)). p.now) v.items ≡ pieces_under m name
unfolding pieces_under
pieces_found m name v e = ap texts_in e

pub drop_map : {X Y : Type 0} (f : X → Y) (n : ℕ) (xs : List X) → drop n (map f xs) ≡ map f (drop n xs)
drop_map f zero [] = refl
drop_map f (suc n) [] = refl
drop_map f zero (x ∷ xs) = refl
drop_map f (suc n) (x ∷ xs) = drop_map f n xs
