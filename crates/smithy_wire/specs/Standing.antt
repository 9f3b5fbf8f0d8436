-- Where names stand at each place that a form leads to.
use Rattle.std.specs.Prelude.{◌≡◌, ⊤, Bool, true, Option, Some, None}
use Rattle.std.specs.Coded.{Unit-prop}
use Rattle.std.proofs.Math.Bool.{Bool-set}
use Rattle.smithy_wire.specs.Words.{Schema, shape}
use Rattle.smithy_wire.specs.declared.side.Side.{Side}
use Rattle.smithy_wire.specs.WireNames.{structure_stands}
use Rattle.smithy_wire.specs.Forms.{Form, free, fields, items, entries, date_time, http_date, big_integer, big_decimal, whole, document, other}

-- what is said of a node holds of that of a form, if it has one
abbrev pub May : (Schema → Type 0) → Option Schema → Type 0
May P None = ⊤
May P (Some n) = P n

-- what is said of a structure, at the top of a side or elsewhere, holds of those whose values a form's are or have next
abbrev pub Each : (Option Side → Schema → Type 0) → Form → Type 0
Each P (fields side s) = P side s
Each P (items element) = May (λ n. P None (shape n)) element
Each P (entries value) = May (λ n. P None (shape n)) value
Each P _ = ⊤

abbrev pub StructureStands : Option Side → Schema → Type 0
StructureStands side s = structure_stands side s ≡ true

-- where JSON names are applied, names stand
abbrev pub Stand : Bool → Form → Type 0
Stand names f = names ≡ true → Each StructureStands f

-- it is a fact: two proofs of it are one
may_prop : (P : Schema → Type 0) → ((n : Schema) → IsProp (P n)) → (o : Option Schema) → IsProp (May P o)
may_prop P fact None = Unit-prop
may_prop P fact (Some n) = fact n

pub each_prop : (P : Option Side → Schema → Type 0) → ((side : Option Side) (n : Schema) → IsProp (P side n)) → (f : Form) → IsProp (Each P f)
each_prop P fact free = Unit-prop
each_prop P fact (fields side s) = fact side s
each_prop P fact (items element) = may_prop (λ n. P None (shape n)) (λ n. fact None (shape n)) element
each_prop P fact (entries value) = may_prop (λ n. P None (shape n)) (λ n. fact None (shape n)) value
each_prop P fact date_time = Unit-prop
each_prop P fact http_date = Unit-prop
each_prop P fact big_integer = Unit-prop
each_prop P fact big_decimal = Unit-prop
each_prop P fact (whole k) = Unit-prop
each_prop P fact document = Unit-prop
each_prop P fact (other k) = Unit-prop

pub Stand-prop : (names : Bool) (f : Form) → IsProp (Stand names f)
Stand-prop names f x y i is = each_prop StructureStands (λ side s. Bool-set (structure_stands side s) true) f (x is) (y is) i
