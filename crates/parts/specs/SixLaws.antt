-- A delimiter and a number line have at least six columns.
use Rattle.std.specs.Prelude.{◌≡◌, refl, Bool, List, ◌++◌, ℕ, suc, ◌+◌, ◌-◌, ◌≤◌, ◌<◌, length, get_or, replicate}
use Rattle.std.proofs.Common.{ap, ◌∙◌, ⊎_elim, arith, length-append, get_or-append-add}
use Rattle.std.proofs.lemmas.List.{get_or-replicate}
use Rattle.std.proofs.Math.ListN.{get_or-append}
use Rattle.laws.specs.ChoiceLaws.{below_or_not}
use Rattle.text.specs.Parts.{Digits, Digits.none as no_digit, more}
use Rattle.integer.specs.Spelling.{IntegerSpelling, spelled}
use Rattle.line.specs.Line.{filled}
use Rattle.line.specs.LineLaws.{filled_short}
use Rattle.delimiter.specs.Kind.{Delimiter, delimiter, NumberLine, number_line}

-- a line whose sixth column is no blank has six columns
reaches : (cs : List ℕ) → (get_or (filled cs) 5 0 ≡ 32 → ⊥) → 6 ≤ length cs
reaches cs n = ⊎_elim (λ h. absurd (n (short h))) (λ h. h) (below_or_not (length cs) 6)
  where
    short : length cs < 6 → get_or (filled cs) 5 0 ≡ 32
    short h =
        let e : 5 ≡ length cs + (5 - length cs) = omega arith in
        ap (λ (x : List ℕ). get_or x 5 0) (filled_short cs (omega arith))
        ∙ ap (λ (x : ℕ). get_or (cs ++ replicate (80 - length cs) 32) x 0) e
        ∙ get_or-append-add cs (replicate (80 - length cs) 32) (5 - length cs) 0
        ∙ get_or-replicate (80 - length cs) (5 - length cs) 32 0 (omega arith)

-- a delimiter has its 1 there
delimiter_sixth : {l : List ℕ} → Delimiter l → get_or l 5 0 ≡ 49
delimiter_sixth (delimiter b) = refl

pub delimiter_six : (cs : List ℕ) → Delimiter (filled cs) → 6 ≤ length cs
delimiter_six cs d = reaches cs (λ e. omega (arith, delimiter_sixth d))

-- a number line its last digit
digits_last : {m v : ℕ} {ds : List ℕ} → Digits m ds v → 0 < length ds → 48 ≤ get_or ds (length ds - 1) 0
digits_last no_digit p = absurd (omega arith)
digits_last (more low high no_digit) p = low
digits_last (more low high (more {ds = ds} l h d)) p =
    let e : suc (suc (length ds)) - 1 ≡ suc (suc (length ds) - 1) = omega arith in
    rw e (digits_last (more l h d) (omega arith))

append_last : (a b : List ℕ) → 0 < length b → get_or (a ++ b) (length (a ++ b) - 1) 0 ≡ get_or b (length b - 1) 0
append_last a b p =
    let e : length (a ++ b) - 1 ≡ length a + (length b - 1) = rw (length-append a b) (omega arith) in
    rw e (get_or-append-add a b (length b - 1) 0)

integer_last : {n : Bool} {v : ℕ} {l : List ℕ} → IntegerSpelling n v l → 48 ≤ get_or l (length l - 1) 0
integer_last (spelled bl sg ds b s d p) =
    let q : 0 < length (sg ++ ds) = simp length-append (omega arith) in
    rw (append_last bl (sg ++ ds) q, append_last sg ds p) (digits_last d p)

number_sixth : {v : ℕ} {l : List ℕ} → NumberLine v l → 48 ≤ get_or l 5 0
number_sixth (number_line field bl n s lo hi b) = rw (get_or-append field bl 0 5 (omega arith)) (rw n at (integer_last s))

pub number_six : {v : ℕ} (cs : List ℕ) → NumberLine v (filled cs) → 6 ≤ length cs
number_six cs d = reaches cs (λ e. omega (arith, number_sixth d))
