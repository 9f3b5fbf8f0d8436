-- What is read from bytes is what they spell.
use Rattle.std.proofs.Common.{◌≡◌, ◌≢◌, refl, sym, ◌∙◌, ap, subst, ℕ, zero, suc, ◌+◌, ◌<◌, ◌≤◌, arith, Bool, true, false, not, cond, ◌==◌, List, [], ◌∷◌, ◌++◌, length, take, drop, Option, Some, None, option_map, Result, Ok, Err, ne_eqb}
use Rattle.std.specs.List.{before_first, after_first, position_or_len}
use Rattle.std.specs.Option.{ok_or}
use Rattle.std.specs.Str.{trim}
use Rattle.std.proofs.lemmas.Bool.{eqb-true, eqb-false}
use Rattle.std.proofs.lemmas.List.{append_assoc, append-nil, length-append}
use Rattle.std.proofs.lemmas.Option.{same_Some}
use Rattle.smithy_types.specs.Results.{then_try, then_give}
use Rattle.smithy_http.specs.declared.error.ListFault.{ListFault}
use Rattle.smithy_http.specs.declared.error.ListFault.TheVariants as fault
use Rattle.smithy_http.specs.ListTexts.{is_comma, behind_blanks, with_first, quoted_text, behind_comma, quoted_item, bare_item, item_at, first_item, texts_within, list_texts}
use Rattle.smithy_http.specs.Spelling.{is_blank, AreBlanks, HasNoComma, IsQuotedText, end, plain, pair, BeginsBare, IsItem, quoted, bare, Spells, nothing, last, more}

-- nothing, or a comma and what stands behind it
data IsTail : List ℕ → List ℕ → Type 0 where
  none : IsTail [] []
  comma : (rest : List ℕ) → IsTail (44 ∷ rest) rest

one_more : (k : ℕ) → 1 + k ≡ suc k
one_more k = omega arith

before-more : (n b : ℕ) (bytes : List ℕ) → take (1 + n) (b ∷ bytes) ≡ b ∷ take n bytes
before-more n b bytes = ap (λ k. take k (b ∷ bytes)) (one_more n)

after-more : (n b : ℕ) (bytes : List ℕ) → drop (1 + n + 1) (b ∷ bytes) ≡ drop (n + 1) bytes
after-more n b bytes = let e : 1 + n + 1 ≡ suc (n + 1) = omega arith in ap (λ k. drop k (b ∷ bytes)) e

-- ---- what is spelled is read

behind_blanks-blanks : (blanks rest : List ℕ) → AreBlanks blanks → behind_blanks (blanks ++ rest) ≡ behind_blanks rest
behind_blanks-blanks [] rest are = refl
behind_blanks-blanks (b ∷ blanks) rest are = ap (λ x. cond x (behind_blanks (blanks ++ rest)) (b ∷ blanks ++ rest)) are.0 ∙ behind_blanks-blanks blanks rest are.1

behind_blanks-tail : (tail rest : List ℕ) → IsTail tail rest → behind_blanks tail ≡ tail
behind_blanks-tail _ _ none = refl
behind_blanks-tail _ _ (comma rest) = refl

behind_comma-tail : (tail rest : List ℕ) → IsTail tail rest → behind_comma tail ≡ Ok rest
behind_comma-tail _ _ none = refl
behind_comma-tail _ _ (comma rest) = refl

quoted_text-inside : {inner text : List ℕ} (rest : List ℕ) → IsQuotedText inner text → quoted_text false (inner ++ 34 ∷ rest) ≡ Some (text, rest)
quoted_text-inside rest end = refl
quoted_text-inside rest (plain {bytes} {text} b no_quote no_pair inside) =
    ap (λ x. cond x (Some ([], bytes ++ 34 ∷ rest)) (cond (b == 92) (quoted_text true (bytes ++ 34 ∷ rest)) (option_map (with_first b) (quoted_text false (bytes ++ 34 ∷ rest))))) (ne_eqb b 34 no_quote)
    ∙ ap (λ x. cond x (quoted_text true (bytes ++ 34 ∷ rest)) (option_map (with_first b) (quoted_text false (bytes ++ 34 ∷ rest)))) (ne_eqb b 92 no_pair)
    ∙ ap (option_map (with_first b)) (quoted_text-inside rest inside)
quoted_text-inside rest (pair b inside) = ap (option_map (with_first b)) (quoted_text-inside rest inside)

before_first-item : (item tail rest : List ℕ) → HasNoComma item → IsTail tail rest → before_first is_comma (item ++ tail) ≡ item
before_first-item [] _ _ bare_of none = refl
before_first-item [] _ _ bare_of (comma rest) = refl
before_first-item (b ∷ item) tail rest bare_of is_tail =
    ap (λ x. take (cond (not x) (1 + position_or_len is_comma (item ++ tail)) 0) (b ∷ item ++ tail)) (ne_eqb b 44 bare_of.0)
    ∙ before-more (position_or_len is_comma (item ++ tail)) b (item ++ tail)
    ∙ ap (λ xs. b ∷ xs) (before_first-item item tail rest bare_of.1 is_tail)

after_first-item : (item tail rest : List ℕ) → HasNoComma item → IsTail tail rest → after_first is_comma (item ++ tail) ≡ rest
after_first-item [] _ _ bare_of none = refl
after_first-item [] _ _ bare_of (comma rest) = refl
after_first-item (b ∷ item) tail rest bare_of is_tail =
    ap (λ x. drop (cond (not x) (1 + position_or_len is_comma (item ++ tail)) 0 + 1) (b ∷ item ++ tail)) (ne_eqb b 44 bare_of.0)
    ∙ after-more (position_or_len is_comma (item ++ tail)) b (item ++ tail)
    ∙ after_first-item item tail rest bare_of.1 is_tail

bare_item-item : (item tail rest : List ℕ) → HasNoComma item → IsTail tail rest → bare_item (item ++ tail) ≡ (trim item, rest)
bare_item-item item tail rest bare_of is_tail = λ i. (trim (before_first-item item tail rest bare_of is_tail i), after_first-item item tail rest bare_of is_tail i)

first_item-bare : (item tail rest : List ℕ) → HasNoComma item → BeginsBare item → IsTail tail rest → first_item (item ++ tail) ≡ Ok (trim item, rest)
unfolding first_item
first_item-bare [] _ _ bare_of begins none = refl
first_item-bare [] _ _ bare_of begins (comma rest) = refl
first_item-bare (b ∷ item) tail rest bare_of begins is_tail =
    ap (λ x. item_at (cond x (behind_blanks (item ++ tail)) (b ∷ item ++ tail))) begins.0
    ∙ ap (λ x. cond x (quoted_item (item ++ tail)) (Ok (bare_item (b ∷ item ++ tail)))) (ne_eqb b 34 begins.1)
    ∙ ap (λ read. Ok read) (bare_item-item (b ∷ item) tail rest bare_of is_tail)

first_item-quoted : (inner blanks text tail rest : List ℕ) → IsQuotedText inner text → AreBlanks blanks → IsTail tail rest → first_item (34 ∷ (inner ++ 34 ∷ (blanks ++ tail))) ≡ Ok (text, rest)
unfolding first_item
first_item-quoted inner blanks text tail rest inside are is_tail =
    ap (λ o. then_try (ok_or o fault.Unended) (λ read. then_give (behind_comma (behind_blanks read.1)) (λ behind. (read.0, behind)))) (quoted_text-inside (blanks ++ tail) inside)
    ∙ ap (λ xs. then_give (behind_comma xs) (λ behind. (text, behind))) (behind_blanks-blanks blanks tail are ∙ behind_blanks-tail tail rest is_tail)
    ∙ ap (λ r. then_give r (λ behind. (text, behind))) (behind_comma-tail tail rest is_tail)

first_item-item : (item text tail rest : List ℕ) → IsItem item text → IsTail tail rest → first_item (item ++ tail) ≡ Ok (text, rest)
first_item-item item text tail rest (quoted inner blanks _ _ inside are e) is_tail =
    ap (λ xs. first_item (xs ++ tail)) e
    ∙ ap (λ xs. first_item (34 ∷ xs)) (append_assoc inner (34 ∷ blanks) tail)
    ∙ first_item-quoted inner blanks text tail rest inside are is_tail
first_item-item item text tail rest (bare _ _ bare_of begins e) is_tail = first_item-bare item tail rest bare_of begins is_tail ∙ ap (λ t. Ok (t, rest)) (sym e)

first_item-blanks : (blanks rest : List ℕ) → AreBlanks blanks → first_item (blanks ++ rest) ≡ first_item rest
unfolding first_item
first_item-blanks blanks rest are = ap item_at (behind_blanks-blanks blanks rest are)

-- the first item of bytes, where the relation has one
first_item-spelled : (blanks item text tail rest bytes : List ℕ) → AreBlanks blanks → IsItem item text → IsTail tail rest → bytes ≡ blanks ++ (item ++ tail) → first_item bytes ≡ Ok (text, rest)
first_item-spelled blanks item text tail rest bytes are is_item is_tail e =
    ap first_item e ∙ first_item-blanks blanks (item ++ tail) are ∙ first_item-item item text tail rest is_item is_tail

-- one step of the reader
texts_within-step : (most : ℕ) (bytes text rest : List ℕ) → bytes ≢ [] → first_item bytes ≡ Ok (text, rest) → texts_within (suc most) bytes ≡ then_give (texts_within most rest) (λ texts. text ∷ texts)
texts_within-step most [] text rest some e = absurd (some refl)
texts_within-step most (b ∷ bytes) text rest some e = ap (λ r. then_try r (λ item. then_give (texts_within most item.1) (λ texts. item.0 ∷ texts))) e

longer : (xs : List ℕ) (x : ℕ) (rest : List ℕ) → xs ++ x ∷ rest ≢ []
longer [] x rest e = cc e
longer (y ∷ xs) x rest e = cc e

not_empty : (bytes : List ℕ) → bytes ≢ [] → 0 < length bytes
not_empty [] some = absurd (some refl)
not_empty (b ∷ bytes) some = omega arith

shorter : (blanks item rest bytes : List ℕ) → bytes ≡ blanks ++ item ++ 44 ∷ rest → length rest < length bytes
shorter blanks item rest bytes e = omega (arith, ap length e, length-append (blanks ++ item) (44 ∷ rest))

texts_within-spelled : (most : ℕ) (texts : List (List ℕ)) (bytes : List ℕ) → Spells texts bytes → length bytes ≤ most → texts_within most bytes ≡ Ok texts
texts_within-spelled most _ _ nothing within = refl
texts_within-spelled zero _ bytes (last blanks item _ text some are is_item e) within = absurd (omega (arith, not_empty bytes some))
texts_within-spelled (suc most) _ bytes (last blanks item _ text some are is_item e) within =
    texts_within-step most bytes text [] some (first_item-spelled blanks item text [] [] bytes are is_item none (e ∙ ap (λ xs. blanks ++ xs) (sym (append-nil item))))
texts_within-spelled zero _ bytes (more blanks item rest _ text texts are is_item spelled e) within = absurd (omega (arith, shorter blanks item rest bytes e))
texts_within-spelled (suc most) _ bytes (more blanks item rest _ text texts are is_item spelled e) within =
    texts_within-step most bytes text rest (λ empty. longer (blanks ++ item) 44 rest (sym e ∙ empty)) (first_item-spelled blanks item text (44 ∷ rest) rest bytes are is_item (comma rest) (e ∙ append_assoc blanks item (44 ∷ rest)))
    ∙ ap (λ r. then_give r (λ others. text ∷ others)) (texts_within-spelled most texts rest spelled (omega (arith, shorter blanks item rest bytes e)))

pub list_texts-spelled : (texts : List (List ℕ)) (bytes : List ℕ) → Spells texts bytes → list_texts bytes ≡ Ok texts
unfolding list_texts
list_texts-spelled texts bytes spelled = texts_within-spelled (length bytes) texts bytes spelled (omega arith)

-- bytes spell at most one list of texts
pub Spells-unique : (texts others : List (List ℕ)) (bytes : List ℕ) → Spells texts bytes → Spells others bytes → texts ≡ others
Spells-unique texts others bytes spelled also =
    let same = sym (list_texts-spelled texts bytes spelled) ∙ list_texts-spelled others bytes also in
    cc same

-- ---- what is read is spelled

-- no blank stands at the front
abbrev BeginsUnblank : List ℕ → Type 0
BeginsUnblank [] = Unit {0}
BeginsUnblank (b ∷ bytes) = is_blank b ≡ false

-- bytes are blanks and what stands behind them
record IsCutAtBlanks (bytes rest : List ℕ) : Type 0 where
  blanks : List ℕ
  are : AreBlanks blanks
  joined : bytes ≡ blanks ++ rest
  unblank : BeginsUnblank rest

cut_at_blanks : (bytes : List ℕ) → IsCutAtBlanks bytes (behind_blanks bytes)
cut_at_blanks [] = record { blanks = []; are = tt; joined = refl; unblank = tt }
cut_at_blanks (b ∷ bytes) = go (is_blank b) refl (cut_at_blanks bytes)
  where
    go : (blank : Bool) → is_blank b ≡ blank → IsCutAtBlanks bytes (behind_blanks bytes) → IsCutAtBlanks (b ∷ bytes) (cond blank (behind_blanks bytes) (b ∷ bytes))
    go true e cut = record { blanks = b ∷ cut.blanks; are = (e, cut.are); joined = ap (λ xs. b ∷ xs) cut.joined; unblank = cut.unblank }
    go false e cut = record { blanks = []; are = tt; joined = refl; unblank = e }

-- the bytes from the first comma on
abbrev from_comma : List ℕ → List ℕ
from_comma [] = []
from_comma (b ∷ bytes) = cond (is_comma b) (b ∷ bytes) (from_comma bytes)

IsTail-from_comma : (bytes : List ℕ) → IsTail (from_comma bytes) (after_first is_comma bytes)
IsTail-from_comma [] = none
IsTail-from_comma (b ∷ bytes) = go (is_comma b) refl (IsTail-from_comma bytes)
  where
    go : (here : Bool) → is_comma b ≡ here → IsTail (from_comma bytes) (after_first is_comma bytes) → IsTail (cond here (b ∷ bytes) (from_comma bytes)) (drop (cond (not here) (1 + position_or_len is_comma bytes) 0 + 1) (b ∷ bytes))
    go true e rest = subst (λ c. IsTail (c ∷ bytes) bytes) (sym (eqb-true b 44 e)) (comma bytes)
    go false e rest = subst (λ xs. IsTail (from_comma bytes) xs) (sym (after-more (position_or_len is_comma bytes) b bytes)) rest

before-from_comma : (bytes : List ℕ) → bytes ≡ before_first is_comma bytes ++ from_comma bytes
before-from_comma [] = refl
before-from_comma (b ∷ bytes) = go (is_comma b) (before-from_comma bytes)
  where
    go : (here : Bool) → bytes ≡ before_first is_comma bytes ++ from_comma bytes → b ∷ bytes ≡ take (cond (not here) (1 + position_or_len is_comma bytes) 0) (b ∷ bytes) ++ cond here (b ∷ bytes) (from_comma bytes)
    go true rest = refl
    go false rest = ap (λ xs. b ∷ xs) rest ∙ ap (λ xs. xs ++ from_comma bytes) (sym (before-more (position_or_len is_comma bytes) b bytes))

HasNoComma-before : (bytes : List ℕ) → HasNoComma (before_first is_comma bytes)
HasNoComma-before [] = tt
HasNoComma-before (b ∷ bytes) = go (is_comma b) refl (HasNoComma-before bytes)
  where
    go : (here : Bool) → is_comma b ≡ here → HasNoComma (before_first is_comma bytes) → HasNoComma (take (cond (not here) (1 + position_or_len is_comma bytes) 0) (b ∷ bytes))
    go true e rest = tt
    go false e rest = subst HasNoComma (sym (before-more (position_or_len is_comma bytes) b bytes)) (eqb-false b 44 e, rest)

BeginsBare-before : (b : ℕ) (bytes : List ℕ) → is_blank b ≡ false → (b == 34) ≡ false → BeginsBare (before_first is_comma (b ∷ bytes))
BeginsBare-before b bytes unblank no_quote = go (is_comma b)
  where
    go : (here : Bool) → BeginsBare (take (cond (not here) (1 + position_or_len is_comma bytes) 0) (b ∷ bytes))
    go true = tt
    go false = subst BeginsBare (sym (before-more (position_or_len is_comma bytes) b bytes)) (unblank, eqb-false b 34 no_quote)

-- what stands between quotes
record IsInQuotes (bytes text rest : List ℕ) : Type 0 where
  inner : List ℕ
  inside : IsQuotedText inner text
  joined : bytes ≡ inner ++ 34 ∷ rest

-- the same behind a `\`
record IsPaired (bytes text rest : List ℕ) : Type 0 where
  byte : ℕ
  behind : List ℕ
  text_behind : List ℕ
  begins : bytes ≡ byte ∷ behind
  text_begins : text ≡ byte ∷ text_behind
  in_quotes : IsInQuotes behind text_behind rest

abbrev IsReadQuoted : Bool → List ℕ → List ℕ → List ℕ → Type 0
IsReadQuoted true bytes text rest = IsPaired bytes text rest
IsReadQuoted false bytes text rest = IsInQuotes bytes text rest

-- what is read behind the first byte
first_and_rest : (b : ℕ) (o : Option (List ℕ × List ℕ)) (text rest : List ℕ) → option_map (with_first b) o ≡ Some (text, rest) → (behind : List ℕ) × (o ≡ Some (behind, rest)) × (text ≡ b ∷ behind)
first_and_rest b None text rest e = absurd (cc e)
first_and_rest b (Some read) text rest e =
    let same : with_first b read ≡ (text, rest) = same_Some (with_first b read) (text, rest) e in
    (read.0, ap (λ r. Some (read.0, r)) (ap (λ r. r.1) same), sym (ap (λ r. r.0) same))

quoted_text-reads : (paired : Bool) (bytes text rest : List ℕ) → quoted_text paired bytes ≡ Some (text, rest) → IsReadQuoted paired bytes text rest
quoted_text-reads paired [] text rest e = absurd (cc e)
quoted_text-reads true (b ∷ bytes) text rest e =
    let parts = first_and_rest b (quoted_text false bytes) text rest e in
    record { byte = b; behind = bytes; text_behind = parts.0; begins = refl; text_begins = parts.2; in_quotes = quoted_text-reads false bytes parts.0 rest parts.1 }
quoted_text-reads false (b ∷ bytes) text rest e =
    go (b == 34) (b == 92) refl refl e (quoted_text-reads true bytes) (quoted_text-reads false bytes)
  where
    go : (quote pair_mark : Bool) → (b == 34) ≡ quote → (b == 92) ≡ pair_mark
        → cond quote (Some ([], bytes)) (cond pair_mark (quoted_text true bytes) (option_map (with_first b) (quoted_text false bytes))) ≡ Some (text, rest)
        → ((t r : List ℕ) → quoted_text true bytes ≡ Some (t, r) → IsPaired bytes t r)
        → ((t r : List ℕ) → quoted_text false bytes ≡ Some (t, r) → IsInQuotes bytes t r)
        → IsInQuotes (b ∷ bytes) text rest
    go true p q34 q92 e in_pair in_text =
        let same : ◌≡◌ {A = List ℕ × List ℕ} ([], bytes) (text, rest) = same_Some ([], bytes) (text, rest) e in
        let empty : [] ≡ text = ap (λ r. r.0) same in
        let behind : bytes ≡ rest = ap (λ r. r.1) same in
        record { inner = []; inside = subst (λ t. IsQuotedText [] t) empty end; joined = λ i. eqb-true b 34 q34 i ∷ behind i }
    go false true q34 q92 e in_pair in_text =
        let read = in_pair text rest e in
        let inner = read.in_quotes in
        record {
          inner = 92 ∷ read.byte ∷ inner.inner;
          inside = subst (λ t. IsQuotedText (92 ∷ read.byte ∷ inner.inner) t) (sym read.text_begins) (pair read.byte inner.inside);
          joined = λ i. eqb-true b 92 q92 i ∷ (read.begins ∙ ap (λ xs. read.byte ∷ xs) inner.joined) i;
        }
    go false false q34 q92 e in_pair in_text =
        let parts = first_and_rest b (quoted_text false bytes) text rest e in
        let read = in_text parts.0 rest parts.1 in
        record {
          inner = b ∷ read.inner;
          inside = subst (λ t. IsQuotedText (b ∷ read.inner) t) (sym parts.2) (plain b (eqb-false b 34 q34) (eqb-false b 92 q92) read.inside);
          joined = ap (λ xs. b ∷ xs) read.joined;
        }

-- bytes are an item that is the text, and a tail
record IsItemAndTail (bytes text rest : List ℕ) : Type 0 where
  item : List ℕ
  tail : List ℕ
  is_item : IsItem item text
  is_tail : IsTail tail rest
  joined : bytes ≡ item ++ tail

IsTail-behind_comma : (bytes rest : List ℕ) → behind_comma bytes ≡ Ok rest → IsTail bytes rest
IsTail-behind_comma [] rest e = let q : [] ≡ rest = cc e in subst (λ r. IsTail [] r) q none
IsTail-behind_comma (b ∷ bytes) rest e = go (is_comma b) refl e
  where
    go : (here : Bool) → is_comma b ≡ here → cond here (Ok bytes) (Err fault.Trailing) ≡ Ok rest → IsTail (b ∷ bytes) rest
    go true at e = let q : bytes ≡ rest = cc e in subst (λ c. IsTail (c ∷ bytes) rest) (sym (eqb-true b 44 at)) (subst (λ r. IsTail (44 ∷ bytes) r) q (comma bytes))
    go false at e = absurd (cc e)

quoted_item-reads : (bytes text rest : List ℕ) → quoted_item bytes ≡ Ok (text, rest) → IsItemAndTail (34 ∷ bytes) text rest
quoted_item-reads bytes text rest e = go (quoted_text false bytes) refl e
  where
    at_tail : (t behind : List ℕ) (r : Result (List ℕ) ListFault) → behind_comma (behind_blanks behind) ≡ r → quoted_text false bytes ≡ Some (t, behind) → then_give {B = List ℕ × List ℕ} r (λ xs. (t, xs)) ≡ Ok (text, rest) → IsItemAndTail (34 ∷ bytes) text rest
    at_tail t behind (Err f) at read e = absurd (cc e)
    at_tail t behind (Ok xs) at read e =
        let same : ◌≡◌ {A = List ℕ × List ℕ} (t, xs) (text, rest) = cc e in
        let same_text : t ≡ text = ap (λ r. r.0) same in
        let same_rest : xs ≡ rest = ap (λ r. r.1) same in
        let inner = quoted_text-reads false bytes t behind read in
        let cut = cut_at_blanks behind in
        record {
          item = 34 ∷ inner.inner ++ 34 ∷ cut.blanks;
          tail = behind_blanks behind;
          is_item = quoted inner.inner cut.blanks (34 ∷ inner.inner ++ 34 ∷ cut.blanks) text (subst (λ x. IsQuotedText inner.inner x) same_text inner.inside) cut.are refl;
          is_tail = IsTail-behind_comma (behind_blanks behind) rest (at ∙ ap (λ x. Ok x) same_rest);
          joined = ap (λ x. 34 ∷ x) (inner.joined ∙ ap (λ x. inner.inner ++ 34 ∷ x) cut.joined ∙ sym (append_assoc inner.inner (34 ∷ cut.blanks) (behind_blanks behind)));
        }

    go : (o : Option (List ℕ × List ℕ)) → quoted_text false bytes ≡ o → then_try (ok_or o fault.Unended) (λ read. then_give {B = List ℕ × List ℕ} (behind_comma (behind_blanks read.1)) (λ xs. (read.0, xs))) ≡ Ok (text, rest) → IsItemAndTail (34 ∷ bytes) text rest
    go None at e = absurd (cc e)
    go (Some read) at e = at_tail read.0 read.1 (behind_comma (behind_blanks read.1)) refl at e

item_at-reads : (bytes text rest : List ℕ) → BeginsUnblank bytes → item_at bytes ≡ Ok (text, rest) → IsItemAndTail bytes text rest
item_at-reads [] text rest unblank e =
    let same : bare_item [] ≡ (text, rest) = cc e in
    let same_text : trim [] ≡ text = ap (λ r. r.0) same in
    let same_rest : [] ≡ rest = ap (λ r. r.1) same in
    record { item = []; tail = []; is_item = bare [] text tt tt (sym same_text); is_tail = subst (λ r. IsTail [] r) same_rest none; joined = refl }
item_at-reads (b ∷ bytes) text rest unblank e = go (b == 34) refl e
  where
    go : (quote : Bool) → (b == 34) ≡ quote → cond quote (quoted_item bytes) (Ok (bare_item (b ∷ bytes))) ≡ Ok (text, rest) → IsItemAndTail (b ∷ bytes) text rest
    go true at e = subst (λ c. IsItemAndTail (c ∷ bytes) text rest) (sym (eqb-true b 34 at)) (quoted_item-reads bytes text rest e)
    go false at e =
        let same : bare_item (b ∷ bytes) ≡ (text, rest) = cc e in
        let same_text : trim (before_first is_comma (b ∷ bytes)) ≡ text = ap (λ r. r.0) same in
        let same_rest : after_first is_comma (b ∷ bytes) ≡ rest = ap (λ r. r.1) same in
        record {
          item = before_first is_comma (b ∷ bytes);
          tail = from_comma (b ∷ bytes);
          is_item = bare (before_first is_comma (b ∷ bytes)) text (HasNoComma-before (b ∷ bytes)) (BeginsBare-before b bytes unblank at) (sym same_text);
          is_tail = subst (λ r. IsTail (from_comma (b ∷ bytes)) r) same_rest (IsTail-from_comma (b ∷ bytes));
          joined = before-from_comma (b ∷ bytes);
        }

-- bytes are blanks, an item and a tail
first_item-reads : (bytes text rest : List ℕ) → first_item bytes ≡ Ok (text, rest) → IsItemAndTail (behind_blanks bytes) text rest
unfolding first_item
first_item-reads bytes text rest e = item_at-reads (behind_blanks bytes) text rest (cut_at_blanks bytes).unblank e

-- what stands behind a comma is shorter
tail_shorter : (front tail rest bytes : List ℕ) → bytes ≢ [] → IsTail tail rest → bytes ≡ front ++ tail → length rest < length bytes
tail_shorter front _ _ bytes some none joined = not_empty bytes some
tail_shorter front _ _ bytes some (comma rest) joined = omega (arith, ap length joined, length-append front (44 ∷ rest))

pub first_item-shorter : (bytes text rest : List ℕ) → bytes ≢ [] → first_item bytes ≡ Ok (text, rest) → length rest < length bytes
first_item-shorter bytes text rest some e =
    let cut = cut_at_blanks bytes in
    let read = first_item-reads bytes text rest e in
    tail_shorter (cut.blanks ++ read.item) read.tail rest bytes some read.is_tail
    (cut.joined ∙ ap (λ xs. cut.blanks ++ xs) read.joined ∙ sym (append_assoc cut.blanks read.item read.tail))

spelled_by_tail : (item tail rest blanks bytes text : List ℕ) (texts : List (List ℕ)) → bytes ≢ [] → IsTail tail rest → IsItem item text → AreBlanks blanks → bytes ≡ blanks ++ (item ++ tail) → Spells texts rest → (rest ≡ [] → texts ≡ []) → Spells (text ∷ texts) bytes
spelled_by_tail item _ _ blanks bytes text texts some none is_item are joined spelled at_end =
    subst (λ ts. Spells (text ∷ ts) bytes) (sym (at_end refl)) (last blanks item bytes text some are is_item (joined ∙ ap (λ xs. blanks ++ xs) (append-nil item)))
spelled_by_tail item _ _ blanks bytes text texts some (comma rest) is_item are joined spelled at_end =
    more blanks item rest bytes text texts are is_item spelled (joined ∙ sym (append_assoc blanks item (44 ∷ rest)))

Spells-step : (bytes text rest : List ℕ) (texts : List (List ℕ)) → bytes ≢ [] → first_item bytes ≡ Ok (text, rest) → Spells texts rest → (rest ≡ [] → texts ≡ []) → Spells (text ∷ texts) bytes
Spells-step bytes text rest texts some e spelled at_end =
    let cut = cut_at_blanks bytes in
    let read = first_item-reads bytes text rest e in
    spelled_by_tail read.item read.tail rest cut.blanks bytes text texts some read.is_tail read.is_item cut.are (cut.joined ∙ ap (λ xs. cut.blanks ++ xs) read.joined) spelled at_end

nothing_within : (most : ℕ) (bytes : List ℕ) (texts : List (List ℕ)) → texts_within most bytes ≡ Ok texts → bytes ≡ [] → texts ≡ []
nothing_within most [] texts e at = let q : [] ≡ texts = cc e in sym q
nothing_within most (b ∷ bytes) texts e at = absurd (cc at)

Spells-texts_within : (most : ℕ) (texts : List (List ℕ)) (bytes : List ℕ) → texts_within most bytes ≡ Ok texts → length bytes ≤ most → Spells texts bytes
Spells-texts_within most texts [] e within = let q : [] ≡ texts = cc e in subst (λ ts. Spells ts []) q nothing
Spells-texts_within zero texts (b ∷ bytes) e within = absurd (omega arith)
Spells-texts_within (suc most) texts (b ∷ bytes) e within = go (first_item (b ∷ bytes)) refl e (Spells-texts_within most)
  where
    behind : (text rest : List ℕ) (r : Result (List (List ℕ)) ListFault) → texts_within most rest ≡ r → first_item (b ∷ bytes) ≡ Ok (text, rest) → then_give r (λ others. text ∷ others) ≡ Ok texts
        → ((ts : List (List ℕ)) (bs : List ℕ) → texts_within most bs ≡ Ok ts → length bs ≤ most → Spells ts bs) → Spells texts (b ∷ bytes)
    behind text rest (Err f) at first e before = absurd (cc e)
    behind text rest (Ok others) at first e before =
        let same : text ∷ others ≡ texts = cc e in
        let short = first_item-shorter (b ∷ bytes) text rest (λ h. cc h) first in
        subst (λ ts. Spells ts (b ∷ bytes)) same (Spells-step (b ∷ bytes) text rest others (λ h. cc h) first (before others rest at (omega arith)) (nothing_within most rest others at))

    go : (r : Result (List ℕ × List ℕ) ListFault) → first_item (b ∷ bytes) ≡ r → then_try r (λ item. then_give (texts_within most item.1) (λ others. item.0 ∷ others)) ≡ Ok texts
        → ((ts : List (List ℕ)) (bs : List ℕ) → texts_within most bs ≡ Ok ts → length bs ≤ most → Spells ts bs) → Spells texts (b ∷ bytes)
    go (Err f) at e before = absurd (cc e)
    go (Ok item) at e before = behind item.0 item.1 (texts_within most item.1) refl at e before

pub Spells-list_texts : (texts : List (List ℕ)) (bytes : List ℕ) → list_texts bytes ≡ Ok texts → Spells texts bytes
unfolding list_texts
Spells-list_texts texts bytes e = Spells-texts_within (length bytes) texts bytes e (omega arith)

-- ---- the reader, item by item

-- more than there are bytes makes no difference
texts_within-same : (n m : ℕ) (bytes : List ℕ) → length bytes ≤ n → length bytes ≤ m → texts_within n bytes ≡ texts_within m bytes
texts_within-same n m [] l k = refl
texts_within-same zero m (b ∷ bytes) l k = absurd (omega arith)
texts_within-same (suc n) zero (b ∷ bytes) l k = absurd (omega arith)
texts_within-same (suc n) (suc m) (b ∷ bytes) l k = go (first_item (b ∷ bytes)) refl (texts_within-same n m)
  where
    go : (r : Result (List ℕ × List ℕ) ListFault) → first_item (b ∷ bytes) ≡ r → ((bs : List ℕ) → length bs ≤ n → length bs ≤ m → texts_within n bs ≡ texts_within m bs)
        → then_try r (λ item. then_give (texts_within n item.1) (λ texts. item.0 ∷ texts)) ≡ then_try r (λ item. then_give (texts_within m item.1) (λ texts. item.0 ∷ texts))
    go (Err f) at same = refl
    go (Ok item) at same =
        let short = first_item-shorter (b ∷ bytes) item.0 item.1 (λ h. cc h) at in
        ap (λ r. then_give r (λ texts. item.0 ∷ texts)) (same item.1 (omega arith) (omega arith))

pub list_texts-item : (bytes text rest : List ℕ) → bytes ≢ [] → first_item bytes ≡ Ok (text, rest) → list_texts bytes ≡ then_give (list_texts rest) (λ texts. text ∷ texts)
unfolding list_texts
list_texts-item [] text rest some e = absurd (some refl)
list_texts-item (b ∷ bytes) text rest some e =
    let short = first_item-shorter (b ∷ bytes) text rest some e in
    texts_within-step (length bytes) (b ∷ bytes) text rest some e
    ∙ ap (λ r. then_give r (λ texts. text ∷ texts)) (texts_within-same (length bytes) (length rest) rest (omega arith) (omega arith))

pub list_texts-fault : (bytes : List ℕ) (f : ListFault) → bytes ≢ [] → first_item bytes ≡ Err f → list_texts bytes ≡ Err f
unfolding list_texts
list_texts-fault [] f some e = absurd (some refl)
list_texts-fault (b ∷ bytes) f some e = ap (λ r. then_try r (λ item. then_give (texts_within (length bytes) item.1) (λ texts. item.0 ∷ texts))) e

pub list_texts-nil : list_texts [] ≡ Ok []
unfolding list_texts
list_texts-nil = refl

-- an item in quotes, and one that is bare
pub first_item-of_quoted : (text item inner : List ℕ) → item ≡ behind_blanks text → item ≡ 34 ∷ inner → first_item text ≡ quoted_item inner
unfolding first_item
first_item-of_quoted text item inner at begins = ap item_at (sym at ∙ begins)

item_at-bare : (item : List ℕ) → ((rest : List ℕ) → item ≢ 34 ∷ rest) → item_at item ≡ Ok (bare_item item)
item_at-bare [] other = refl
item_at-bare (b ∷ item) other = ap (λ x. cond x (quoted_item item) (Ok (bare_item (b ∷ item)))) (ne_eqb b 34 (λ e. other item (ap (λ x. x ∷ item) e)))

pub first_item-of_bare : (text item : List ℕ) → item ≡ behind_blanks text → ((rest : List ℕ) → item ≢ 34 ∷ rest) → first_item text ≡ Ok (bare_item item)
unfolding first_item
first_item-of_bare text item at other = ap item_at (sym at) ∙ item_at-bare item other
