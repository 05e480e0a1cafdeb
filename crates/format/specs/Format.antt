-- The grammar of FORMAT texts and what they mean (02, C-15). A format is a tree; `Spelled` says which bytes, blanks left out,
-- write it. Nothing here reads a text.
use Rattle.std.specs.Prelude.{List, [], ◌∷◌, ◌++◌, ℕ, zero, suc, ◌+◌, ◌*◌, ◌≤◌, max, eqb, length}
use Rattle.laws.specs.Choice.{pick}
use Rattle.text.specs.Parts.{Digits}

-- what stands in columns: nothing (X), a text (A), an integer (I), a real (E, D)
pub data Kind : Type 0 where
  skip : Kind
  text : Kind
  integer : Kind
  real : Kind

pub record Field : Type 0 where
  pub kind : Kind
  pub width : ℕ

abbrev pub field : Kind → ℕ → Field
field k w = record { kind = k; width = w }

-- "repeat counts from 1", left out or written
pub data Count : Type 0 where
  once : Count
  times : ℕ → Count

abbrev pub number : Count → ℕ
number once = 1
number (times n) = n

-- "an item may be a list, and a list is made of items": a list is an item, or an item and then a list
pub data Format : Type 0 where
  -- nX (of width 1), nAw, nIw, nEw.d, nDw.d
  plain : Count → Kind → ℕ → Format
  group : Count → Format → Format
  join : Format → Format → Format

-- "numbers have no leading zeros"
pub data Numeral : ℕ → List ℕ → Type 0 where
  nought : Numeral 0 (48 ∷ [])
  from : {b v : ℕ} {ds : List ℕ} → 49 ≤ b → Digits 0 (b ∷ ds) v → Numeral v (b ∷ ds)

pub data Counted : Count → List ℕ → Type 0 where
  left_out : Counted once []
  written : {n : ℕ} {ns : List ℕ} → 1 ≤ n → Numeral n ns → Counted (times n) ns

-- "Widths are 1 to 80"
pub data Width : ℕ → List ℕ → Type 0 where
  width : {w : ℕ} {ws : List ℕ} → 1 ≤ w → w ≤ 80 → Numeral w ws → Width w ws

-- "E and D"
pub data Letter : ℕ → Type 0 where
  E : Letter 69
  D : Letter 68

-- an item after its count: "Items are I and A with width, E and D with width and decimals, .. X"; "decimals at most the width"
pub data Plain : Kind → ℕ → List ℕ → Type 0 where
  skips : Plain skip 1 (88 ∷ [])
  texts : {w : ℕ} {ws : List ℕ} → Width w ws → Plain text w (65 ∷ ws)
  integers : {w : ℕ} {ws : List ℕ} → Width w ws → Plain integer w (73 ∷ ws)
  reals : {b w d : ℕ} {ws ds : List ℕ} → Letter b → Width w ws → Numeral d ds → d ≤ w → Plain real w (b ∷ (ws ++ (46 ∷ ds)))

pub data Sort : Type 0 where
  item : Sort
  list : Sort

-- the bytes of an item, and of a list, of this format
pub data Spelled : Sort → Format → List ℕ → Type 0 where
  counted : {c : Count} {k : Kind} {w : ℕ} {cs ps : List ℕ} → Counted c cs → Plain k w ps → Spelled item (plain c k w) (cs ++ ps)
  -- "1P allowed before E and D alone, ahead of any count"
  scaled : {c : Count} {w : ℕ} {cs ps : List ℕ} → Counted c cs → Plain real w ps → Spelled item (plain c real w) (49 ∷ 80 ∷ (cs ++ ps))
  -- "groups within groups"
  brackets : {c : Count} {t : Format} {cs ts : List ℕ} → Counted c cs → Spelled list t ts → Spelled item (group c t) (cs ++ (40 ∷ (ts ++ (41 ∷ []))))
  -- "one comma stands between items, no list is empty"
  last : {t : Format} {ts : List ℕ} → Spelled item t ts → Spelled list t ts
  more : {t u : Format} {ts us : List ℕ} → Spelled item t ts → Spelled list u us → Spelled list (join t u) (ts ++ (44 ∷ us))

-- fields as many times, in order
unfoldable pub repeated : ℕ → List Field → List Field
repeated zero fs = []
repeated (suc n) fs = fs ++ repeated n fs

-- the fields of an item with a count: "An A item with its own count is one text"; columns of X are entries of kind skip, one each
unfoldable pub fields_for : ℕ → Kind → ℕ → List Field
fields_for n skip w = repeated n (field skip w ∷ [])
fields_for n text w = field text (n * w) ∷ []
fields_for n integer w = repeated n (field integer w ∷ [])
fields_for n real w = repeated n (field real w ∷ [])

-- the fields of a format in order: a group with a count is its fields that many times
unfoldable pub fields_of : Format → List Field
fields_of (plain c k w) = fields_for (number c) k w
fields_of (group c t) = repeated (number c) (fields_of t)
fields_of (join t u) = fields_of t ++ fields_of u

-- how many columns the fields take; `columns` says it of a format without unfolding a count
unfoldable pub span : List Field → ℕ
span [] = 0
span (f ∷ fs) = f.width + span fs

unfoldable pub columns : Format → ℕ
columns (plain c k w) = number c * w
columns (group c t) = number c * columns t
columns (join t u) = columns t + columns u

-- how deep groups lie in groups
unfoldable pub depth : Format → ℕ
depth (plain c k w) = 0
depth (group c t) = suc (depth t)
depth (join t u) = max (depth t) (depth u)

-- the same, "optional outer brackets not counted"
unfoldable pub groups : Format → ℕ
groups (plain c k w) = 0
groups (group once t) = depth t
groups (group (times n) t) = suc (depth t)
groups (join t u) = max (depth t) (depth u)

-- the bytes without blanks: "blanks ignored"
unfoldable pub unblanked : List ℕ → List ℕ
unblanked [] = []
unblanked (b ∷ bs) = pick (eqb b 32) (unblanked bs) (b ∷ unblanked bs)

-- the bytes are a FORMAT text: "The text is at most 120 bytes"
pub record Text (t : Format) (bytes : List ℕ) : Type 0 where
  pub short : length bytes ≤ 120
  pub spelled : Spelled list t (unblanked bytes)

-- "with groups three deep"; "over 80 columns" is refused
pub record Fits (t : Format) : Type 0 where
  pub three : groups t ≤ 3
  pub eighty : columns t ≤ 80

-- every field has a column
pub data Wide : List Field → Type 0 where
  none : Wide []
  more : {f : Field} {fs : List Field} → 1 ≤ f.width → Wide fs → Wide (f ∷ fs)
