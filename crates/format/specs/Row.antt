-- How the code lays fields out one after the other. `RowLaws` proves that a FORMAT that fits is laid as its fields.
use Rattle.std.specs.Prelude.{◌≡◌, List, ℕ, zero, suc, ◌+◌, ◌-◌, ◌*◌, ◌≤◌, ltb, eqb, length, take, get_or, set, Option, Some, None}
use Rattle.laws.specs.Choice.{pick}
use Rattle.format.specs.Format.{number, Format, plain, group, join, unblanked}
use Rattle.format.specs.Reading.{Parsed, none, some}
use Rattle.format.specs.Laid.{kind_in}
use Rattle.format.specs.Measured.{capped}
use Rattle.format.specs.declared.Kind as own
use Rattle.format.specs.declared.Kind.TheVariants.{Skip, Text, Integer, Real}
use Rattle.format.specs.declared.Tally.{Tally}
use Rattle.format.specs.declared.Fields.{Fields}

-- fields in order: how many there are, their kinds and their widths
abbrev pub a_row : ℕ → List own.Kind → List ℕ → Fields
a_row n ks ws = record { count = n; kinds = ks; widths = ws }

-- one field more; 80 stay
unfoldable pub pushed : Fields → own.Kind → ℕ → Fields
pushed r k w = pick (ltb r.count 80) (a_row (r.count + 1) (set r.kinds r.count k) (set r.widths r.count w)) r

-- m fields once more, those from place j on
unfoldable pub again_row : ℕ → ℕ → Fields → Fields
again_row zero j r = r
again_row (suc m) j r = pick (ltb j 80) (again_row m (j + 1) (pushed r (get_or r.kinds j Skip) (get_or r.widths j 0))) r

-- the fields from one place to before another, m times more
unfoldable pub repeat_row : ℕ → ℕ → ℕ → Fields → Fields
repeat_row zero from past r = r
repeat_row (suc m) from past r = repeat_row m from past (again_row (past - from) from r)

-- all fields from a place on, m times more
abbrev pub repeat_from : ℕ → ℕ → Fields → Fields
repeat_from m from r = repeat_row m from r.count r

-- the fields of an item
unfoldable pub lay_plain : Fields → own.Kind → ℕ → ℕ → Fields
lay_plain r Skip n w = repeat_from (n - 1) r.count (pushed r Skip w)
lay_plain r Text n w = pushed r Text (capped (n * w))
lay_plain r Integer n w = repeat_from (n - 1) r.count (pushed r Integer w)
lay_plain r Real n w = repeat_from (n - 1) r.count (pushed r Real w)

-- the fields of a format after those that are there
unfoldable pub lay : Fields → Format → Fields
lay r (plain c k w) = lay_plain r (kind_in k) (capped (number c)) w
lay r (group c t) = repeat_from (capped (number c) - 1) r.count (lay r t)
lay r (join t u) = lay (lay r t) u

-- where an item or a list ends, and the fields with those that it adds
pub record Laying : Type 0 where
  pub at : ℕ
  pub row : Fields

abbrev pub a_laying : ℕ → Fields → Laying
a_laying at r = record { at = at; row = r }

-- what an answer says with the fields that it leaves
abbrev pub laying_in : Option ℕ → Fields → Option Laying
laying_in None r = None
laying_in (Some at) r = Some (a_laying at r)

unfoldable pub laid : Fields → Parsed → Option Laying
laid r none = None
laid r (some t at) = Some (a_laying at (lay r t))

-- a group whose list is laid and ends at a place
abbrev pub closed_laid : ℕ → Tally → List ℕ → ℕ → Fields → Option Laying
closed_laid from c l at r = pick (eqb (get_or l at 0) 41) (Some (a_laying (at + 1) (repeat_from (c.count - 1) from r))) None

-- n bytes of a buffer are those of a text that are no blanks
pub record Unblanked (text : List ℕ) (n : ℕ) (out : List ℕ) : Type 0 where
  pub within : n ≤ length text
  pub bytes : take n out ≡ unblanked text
  pub size : length out ≡ 120
