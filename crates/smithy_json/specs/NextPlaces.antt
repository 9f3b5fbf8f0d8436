-- What may stand next in a JSON text, byte by byte (RFC 8259). Its texts are in UTF-8 (RFC 3629), and half a surrogate pair is no escape.
use Rattle.std.specs.Prelude.{ℕ, ◌==◌, ◌||◌, ◌&&◌, Bool, true, false, Option, Some, None, option_map, if◌then◌else◌}
use Rattle.std.specs.Int.{is_in_range}
use Rattle.json.specs.Ascii as ascii
use Rattle.smithy_types.specs.BigNumbers.{is_digit, is_sign}
use Rattle.smithy_json.specs.declared.places.Bracket.{Bracket}
use Rattle.smithy_json.specs.declared.places.Bracket.TheVariants.{Array, Object}
use Rattle.smithy_json.specs.declared.places.TextPlace.{TextPlace}
use Rattle.smithy_json.specs.declared.places.TextPlace.TheVariants as text
use Rattle.smithy_json.specs.declared.places.NumberPlace.{NumberPlace}
use Rattle.smithy_json.specs.declared.places.NumberPlace.TheVariants as number
use Rattle.smithy_json.specs.declared.places.WordPlace.{WordPlace}
use Rattle.smithy_json.specs.declared.places.WordPlace.TheVariants as word
use Rattle.smithy_json.specs.declared.places.Place.{Place}
use Rattle.smithy_json.specs.declared.places.Place.TheVariants.{Value, FirstItem, FirstName, Name, Colon, Behind, InName, InText, InNumber, InWord}
use Rattle.smithy_json.specs.declared.places.Step.{Step}
use Rattle.smithy_json.specs.declared.places.Step.TheVariants.{To, Open, Close}

-- the place behind a byte that passes the test
abbrev pub at : {A : Type 0} → Bool → A → Option A
at true place = Some place
at false place = None

-- ---- texts

abbrev pub is_hex_digit : ℕ → Bool
is_hex_digit b = is_digit b || is_in_range 65 70 b || is_in_range 97 102 b

-- `D` or `d`
abbrev pub is_d : ℕ → Bool
is_d b = (b == 68) || (b == 100)

-- a digit from 8 to B
abbrev pub is_high_digit : ℕ → Bool
is_high_digit b = is_in_range 56 57 b || is_in_range 65 66 b || is_in_range 97 98 b

-- a digit from C to F
abbrev pub is_low_digit : ℕ → Bool
is_low_digit b = is_in_range 67 70 b || is_in_range 99 102 b

-- a byte of a character of more than one (`UTF8-tail` of RFC 3629)
abbrev pub is_tail : ℕ → Bool
is_tail b = is_in_range 128 191 b

-- behind the first byte of a character, or a backslash
abbrev pub plain_next : ℕ → Option TextPlace
plain_next b =
    if b == ascii.backslash then Some text.Escape
    else if is_in_range 32 127 b then Some text.Plain
    else if is_in_range 194 223 b then Some text.Tail1
    else if b == 224 then Some text.BehindE0
    else if b == 237 then Some text.BehindEd
    else if is_in_range 225 239 b then Some text.Tail2
    else if b == 240 then Some text.BehindF0
    else if b == 244 then Some text.BehindF4
    else at (is_in_range 241 243 b) text.Tail3

-- the byte behind a backslash, but for `u`
abbrev pub is_escape : ℕ → Bool
is_escape b =
    (b == ascii.quote) || (b == ascii.backslash) || (b == ascii.slash) || (b == ascii.lower_b) || (b == ascii.lower_f)
    || (b == ascii.lower_n) || (b == ascii.lower_r) || (b == ascii.lower_t)

abbrev pub escape_next : ℕ → Option TextPlace
escape_next b = if b == ascii.lower_u then Some text.Unit else at (is_escape b) text.Plain

-- behind the first digit of `\u`
abbrev pub unit_next : ℕ → Option TextPlace
unit_next b = if is_d b then Some text.UnitD else at (is_hex_digit b) text.Digits3

-- behind the second digit of `\u`, where the first is a D: the first half of a pair has one from 8 to B
abbrev pub unit_d_next : ℕ → Option TextPlace
unit_d_next b = if is_high_digit b then Some text.High2 else at (is_in_range 48 55 b) text.Digits2

-- behind a byte of a text that isn't its end
abbrev pub text_next : TextPlace → ℕ → Option TextPlace
text_next text.Plain b = plain_next b
text_next text.Escape b = escape_next b
text_next text.Unit b = unit_next b
text_next text.UnitD b = unit_d_next b
text_next text.Digits3 b = at (is_hex_digit b) text.Digits2
text_next text.Digits2 b = at (is_hex_digit b) text.Digits1
text_next text.Digits1 b = at (is_hex_digit b) text.Plain
text_next text.High2 b = at (is_hex_digit b) text.High1
text_next text.High1 b = at (is_hex_digit b) text.LowBackslash
text_next text.LowBackslash b = at (b == ascii.backslash) text.LowU
text_next text.LowU b = at (b == ascii.lower_u) text.LowD
text_next text.LowD b = at (is_d b) text.LowDigit
text_next text.LowDigit b = at (is_low_digit b) text.Digits2
text_next text.Tail3 b = at (is_tail b) text.Tail2
text_next text.Tail2 b = at (is_tail b) text.Tail1
text_next text.Tail1 b = at (is_tail b) text.Plain
text_next text.BehindE0 b = at (is_in_range 160 191 b) text.Tail1
text_next text.BehindEd b = at (is_in_range 128 159 b) text.Tail1
text_next text.BehindF0 b = at (is_in_range 144 191 b) text.Tail2
text_next text.BehindF4 b = at (is_in_range 128 143 b) text.Tail2

-- a quote ends the text
abbrev pub ends_text : TextPlace → ℕ → Bool
ends_text text.Plain b = b == ascii.quote
ends_text _ b = false

-- ---- numbers

abbrev pub is_exponent : ℕ → Bool
is_exponent b = (b == ascii.lower_e) || (b == ascii.upper_e)

-- behind the first digit
abbrev pub first_digit_next : ℕ → Option NumberPlace
first_digit_next b = if b == ascii.zero then Some number.Zero else at (is_digit b) number.Whole

-- behind a digit of an exponent's
abbrev pub power_next : ℕ → Option NumberPlace
power_next b = at (is_digit b) number.Power

-- behind a point or an `e`
abbrev pub zero_next : ℕ → Option NumberPlace
zero_next b = if b == ascii.dot then Some number.Point else at (is_exponent b) number.Exponent

-- behind a byte of a number
abbrev pub number_next : NumberPlace → ℕ → Option NumberPlace
number_next number.Minus b = first_digit_next b
number_next number.Zero b = zero_next b
number_next number.Whole b = if is_digit b then Some number.Whole else zero_next b
number_next number.Point b = at (is_digit b) number.Fraction
number_next number.Fraction b = if is_digit b then Some number.Fraction else at (is_exponent b) number.Exponent
number_next number.Exponent b = if is_sign b then Some number.Sign else power_next b
number_next number.Sign b = power_next b
number_next number.Power b = power_next b

-- the number may end here
abbrev pub may_end : NumberPlace → Bool
may_end number.Zero = true
may_end number.Whole = true
may_end number.Fraction = true
may_end number.Power = true
may_end _ = false

-- ---- `true`, `false` and `null`

abbrev pub word_next : WordPlace → ℕ → Option Place
word_next word.Rue b = at (b == 114) (InWord word.Ue)
word_next word.Ue b = at (b == 117) (InWord word.E)
word_next word.E b = at (b == 101) Behind
word_next word.Alse b = at (b == 97) (InWord word.Lse)
word_next word.Lse b = at (b == 108) (InWord word.Se)
word_next word.Se b = at (b == 115) (InWord word.E)
word_next word.Ull b = at (b == 117) (InWord word.Ll)
word_next word.Ll b = at (b == 108) (InWord word.L)
word_next word.L b = at (b == 108) Behind

-- ---- values

abbrev pub is_blank : ℕ → Bool
is_blank b = (b == ascii.space) || (b == ascii.tab) || (b == ascii.line_feed) || (b == ascii.carriage_return)

-- the first byte of a value that is a text, a number or a word
abbrev pub scalar_begun : ℕ → Option Place
scalar_begun b =
    if b == ascii.quote then Some (InText text.Plain)
    else if b == ascii.minus then Some (InNumber number.Minus)
    else if b == ascii.lower_t then Some (InWord word.Rue)
    else if b == ascii.lower_f then Some (InWord word.Alse)
    else if b == ascii.lower_n then Some (InWord word.Ull)
    else option_map InNumber (first_digit_next b)

-- the first byte of a value
abbrev pub value_begun : ℕ → Option Step
value_begun b =
    if b == ascii.open_bracket then Some (Open Array)
    else if b == ascii.open_brace then Some (Open Object)
    else option_map To (scalar_begun b)

-- a quote begins a name
abbrev pub name_begun : ℕ → Option Step
name_begun b = at (b == ascii.quote) (To (InName text.Plain))

-- behind a value, by the innermost that is open: a comma, or its end
abbrev pub value_left : Option Bracket → ℕ → Option Step
value_left None b = None
value_left (Some Array) b = if b == ascii.comma then Some (To Value) else at (b == ascii.close_bracket) Close
value_left (Some Object) b = if b == ascii.comma then Some (To Name) else at (b == ascii.close_brace) Close

-- the same, or a blank
abbrev pub behind_next : Option Bracket → ℕ → Option Step
behind_next inner b = if is_blank b then Some (To Behind) else value_left inner b

-- a byte of a text, or its end, which leads there
abbrev pub within_text : (TextPlace → Place) → Place → TextPlace → ℕ → Option Step
within_text in_text behind t b = if ends_text t b then Some (To behind) else option_map (λ next. To (in_text next)) (text_next t b)

-- a byte of a number, or what follows it
abbrev pub within_number : Option Bracket → Option NumberPlace → NumberPlace → ℕ → Option Step
within_number inner (Some next) n b = Some (To (InNumber next))
within_number inner None n b = if may_end n then behind_next inner b else None

-- blanks may stand before what is wanted
abbrev pub takes_blank : Place → Bool
takes_blank (InName t) = false
takes_blank (InText t) = false
takes_blank (InNumber n) = false
takes_blank (InWord w) = false
takes_blank _ = true

-- what a byte does that is wanted at a place
abbrev pub wanted : Place → Option Bracket → ℕ → Option Step
wanted Value inner b = value_begun b
wanted FirstItem inner b = if b == ascii.close_bracket then Some Close else value_begun b
wanted FirstName inner b = if b == ascii.close_brace then Some Close else name_begun b
wanted Name inner b = name_begun b
wanted Colon inner b = at (b == ascii.colon) (To Value)
wanted Behind inner b = value_left inner b
wanted (InName t) inner b = within_text InName Colon t b
wanted (InText t) inner b = within_text InText Behind t b
wanted (InNumber n) inner b = within_number inner (number_next n b) n b
wanted (InWord w) inner b = option_map To (word_next w b)

-- What a byte does at a place, where this is the innermost that is open. None where it can't stand there.
unfoldable pub step : Place → Option Bracket → ℕ → Option Step
step place inner b = if takes_blank place && is_blank b then Some (To place) else wanted place inner b
