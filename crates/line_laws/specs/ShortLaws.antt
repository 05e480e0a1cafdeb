-- The lines of a proper writing have at most 80 columns.
use Rattle.std.specs.Prelude.{List, [], ◌∷◌, ◌++◌, ℕ, zero, suc, ◌≤◌, length, get_or}
use Rattle.std.proofs.Common.{arith}
use Rattle.theory.specs.Proper.{Ended}
use Rattle.line_laws.specs.Short.{Short}

pub ended_short : {css : List (List ℕ)} {bytes : List ℕ} → Ended css bytes → Short css
ended_short Ended.none = Short.none
ended_short (Ended.lf cs bytes a l e) = Short.more l (ended_short e)
ended_short (Ended.crlf cs bytes a l e) = Short.more l (ended_short e)

-- of lines in two parts
pub short_left : (a b : List (List ℕ)) → Short (a ++ b) → Short a
short_left [] b s = Short.none
short_left (cs ∷ a) b (Short.more h s) = Short.more h (short_left a b s)

pub short_right : (a b : List (List ℕ)) → Short (a ++ b) → Short b
short_right [] b s = s
short_right (cs ∷ a) b (Short.more h s) = short_right a b s

-- of one line
pub short_at : {css : List (List ℕ)} (k : ℕ) → Short css → length (get_or css k []) ≤ 80
short_at k Short.none = omega arith
short_at zero (Short.more h s) = h
short_at (suc k) (Short.more h s) = short_at k s
