-- Which bytes spell a list of texts in a header value: the grammar of readers (RFC 7230, section 7, with `quoted-string` of section 3.2.6).
use Rattle.std.specs.Prelude.{◌≡◌, ◌≢◌, ℕ, Bool, true, false, ◌||◌, ◌==◌, List, [], ◌∷◌, ◌++◌}
use Rattle.std.specs.List.{AllByRecursion}
use Rattle.std.specs.Str.{trim}
use Rattle.smithy_types.specs.Texts.{ascii}

-- a space or a tab, of which `OWS` of RFC 7230, section 3.2.3, has any number
abbrev pub is_blank : ℕ → Bool
is_blank b = (b == ascii " ") || (b == 9)

abbrev pub AreBlanks : List ℕ → Type 0
AreBlanks bytes = AllByRecursion (λ b. is_blank b ≡ true) bytes

abbrev pub HasNoComma : List ℕ → Type 0
HasNoComma bytes = AllByRecursion (λ b. b ≢ ascii ",") bytes

-- what stands between quotes, and the text that it is: without the `\` before each character that has one
pub data IsQuotedText : List ℕ → List ℕ → Type 0 where
  end : IsQuotedText [] []
  plain : {bytes text : List ℕ} (b : ℕ) → b ≢ ascii "\"" → b ≢ ascii "\\" → IsQuotedText bytes text → IsQuotedText (b ∷ bytes) (b ∷ text)
  pair : {bytes text : List ℕ} (b : ℕ) → IsQuotedText bytes text → IsQuotedText (ascii "\\" ∷ b ∷ bytes) (b ∷ text)

-- no blank and no quote stands at the front
abbrev pub BeginsBare : List ℕ → Type 0
BeginsBare [] = Unit {0}
BeginsBare (b ∷ bytes) = (is_blank b ≡ false) × (b ≢ ascii "\"")

-- the bytes are an item that is this text (`quoted-string` of RFC 7230, section 3.2.6, or bare)
pub data IsItem : List ℕ → List ℕ → Type 0 where
  quoted : (inner blanks bytes text : List ℕ) → IsQuotedText inner text → AreBlanks blanks → bytes ≡ ascii "\"" ∷ inner ++ ascii "\"" ∷ blanks → IsItem bytes text
  bare : (bytes text : List ℕ) → HasNoComma bytes → BeginsBare bytes → text ≡ trim bytes → IsItem bytes text

-- The bytes spell these texts. No text is spelled by no bytes and by nothing else.
pub data Spells : List (List ℕ) → List ℕ → Type 0 where
  nothing : Spells [] []
  last : (blanks item bytes text : List ℕ) → bytes ≢ [] → AreBlanks blanks → IsItem item text → bytes ≡ blanks ++ item → Spells (text ∷ []) bytes
  more : (blanks item rest bytes text : List ℕ) (texts : List (List ℕ)) → AreBlanks blanks → IsItem item text → Spells texts rest → bytes ≡ blanks ++ item ++ ascii "," ∷ rest → Spells (text ∷ texts) bytes

-- bytes spell at most one list of texts
abbrev pub SpellOneList : Type 0
SpellOneList = (texts others : List (List ℕ)) (bytes : List ℕ) → Spells texts bytes → Spells others bytes → texts ≡ others
