-- The f64 of a list's items (01, "Reader": "A number with coefficient at most 9,007,199,254,740,992 and scale -22 to 22 is the coefficient times, or
-- divided by, an exact power of ten: one operation, one rounding, the sign put on last, on zero too. Any other number makes the whole question 21").
use Rattle.std.specs.Prelude.{◌≡◌, Bool, false, List, [], ◌∷◌, ◌⊎◌, ℕ, suc, ◌+◌, ◌*◌, ◌^◌, ◌<◌, ◌≤◌, Float, ℤ, pos, negsuc, nat_abs, length}
use Rattle.std.specs.Float.{binary64}
use Rattle.std.specs.Float.Ieee.{round}
use Rattle.exact.specs.Exact.{with_sign}
use Rattle.field.specs.Item.{Item}
use Rattle.reader.specs.Reader.{Said, said, refused}
use Rattle.theory.specs.Sets.{Set}
use Rattle.parts_laws.specs.Stored.{stored_item}

-- the f64 nearest to c × 10^s
abbrev pub nearest : ℕ → ℤ → Float
nearest c (pos k) = round binary64 false (c * 10 ^ k) 1
nearest c (negsuc k) = round binary64 false c (10 ^ suc k)

-- the f64 is the item's number, rounded once, with its sign
pub record Rounded (i : Item) (x : Float) : Type 0 where
  pub sign : Bool
  pub coefficient : ℕ
  pub scale : ℤ
  pub item : i ≡ Item.real sign coefficient scale
  pub few : coefficient ≤ 9007199254740992
  pub near : nat_abs scale ≤ 22
  pub rounded : x ≡ with_sign sign (nearest coefficient scale)

-- the item's number is outside the exact path
pub record Outside (i : Item) : Type 0 where
  pub sign : Bool
  pub coefficient : ℕ
  pub scale : ℤ
  pub item : i ≡ Item.real sign coefficient scale
  pub outside : (9007199254740992 < coefficient) ⊎ (22 < nat_abs scale)

-- each of these f64 is that of a stored number, from number j on
pub data EachRounded (s : Set) : ℕ → List Float → Type 0 where
  none : {j : ℕ} → EachRounded s j []
  more : {j : ℕ} {x : Float} {xs : List Float} → Rounded (stored_item s j) x → EachRounded s (suc j) xs → EachRounded s j (x ∷ xs)

-- what is said of the k stored numbers from number j on, with this place: the f64 of each, or 21, since one of them is outside the exact path
pub data OnceOr21 (s : Set) (j k place : ℕ) : Said Float → Type 0 where
  once : (xs : List Float) → length xs ≡ k → EachRounded s j xs → OnceOr21 s j k place (said 0 place xs)
  outside : (r : ℕ) → r < k → Outside (stored_item s (j + r)) → OnceOr21 s j k place (refused 21 0)
