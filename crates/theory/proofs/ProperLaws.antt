-- What every proper writing keeps: the limits on its sets and bytes, and that no line inside a set is a delimiter.
use Rattle.std.specs.Prelude.{List, [], ℕ, zero, suc, ◌≤◌, ◌<◌, length, get_or}
use Rattle.std.proofs.Common.{arith}
use Rattle.field.specs.Item.{Item}
use Rattle.record_table.specs.Row.{Row}
use Rattle.theory.specs.Sets.{Set}
use Rattle.theory.specs.Proper.{Inside, TypedLines, PlainLines, SetLines, Proper}

module _ {sets : List Set} {bytes : List ℕ} (p : Proper sets bytes) where
  -- "A file has 1 to 4,096 sets"
  pub proper_some : 1 ≤ length sets
  proper_some = p.some

  pub proper_most : length sets ≤ 4096
  proper_most = p.most

  -- "A file has at most 16,777,216 bytes"
  pub proper_short : length bytes ≤ 16777216
  proper_short = p.short

typed_inside : {rs : List Row} {iss : List (List Item)} {css : List (List ℕ)} → TypedLines rs iss css → (k : ℕ) → k < length css
    → Inside (get_or css k [])
typed_inside TypedLines.none k h = λ _. omega arith
typed_inside (TypedLines.more w i t) zero h = i
typed_inside (TypedLines.more w i t) (suc k) h = typed_inside t k (omega arith)

plain_inside : {iss : List (List Item)} {css : List (List ℕ)} → PlainLines iss css → (k : ℕ) → k < length css → Inside (get_or css k [])
plain_inside PlainLines.none k h = λ _. omega arith
plain_inside (PlainLines.more w i t) zero h = i
plain_inside (PlainLines.more w i t) (suc k) h = plain_inside t k (omega arith)

-- "No line between a set's number line and its closing delimiter is a delimiter"
pub set_inside : {s : Set} {css : List (List ℕ)} → SetLines s css → (k : ℕ) → k < length css → Inside (get_or css k [])
set_inside (SetLines.typed _ t) = typed_inside t
set_inside (SetLines.plain _ t) = plain_inside t
