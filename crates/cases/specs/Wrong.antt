-- Wrong programs that no edit of one operand gives, each with a named input on which its reply differs from the promised one.
use Rattle.std.specs.Prelude.{◌≡◌, refl, true, ◌||◌, List, ℕ, suc, ◌<◌, eqb, drop}
use Rattle.std.proofs.Common.{ap, arith}
use mathlib.Core.List as L
use Rattle.laws.specs.Choice.{pick}
use Rattle.judge.specs.declared.Reply.{Reply}
use Rattle.judge.specs.Judge.{judged}
use Rattle.reader.specs.Reader.{Said, said, Shown, shown, stored_number}
use Rattle.cases.specs.Files.{none, ◌⊕◌, closing, measured}
use Rattle.cases.specs.Computed.{computed_number}

-- a 58 of two values in case 5, in fields that touch
abbrev touching : List ℕ
touching =
    measured "         4         2         1  0.00000E+00  1.00000E-03  0.00000E+00"
    (" -1.000000000000E-01-12.00000000000E-001" ⊕ closing)

-- its second number
touching_second : stored_number touching 1 1 ≡ said 0 0 (L.◌∷◌ (shown 428 448 true 1200000000000 true 12) L.[])
unfolding computed_number
touching_second = refl

-- A reader that parts a line at its blanks: a number ends at the first blank or LF.
abbrev run_end : List ℕ → ℕ → ℕ
run_end L.[] at = at
run_end (L.◌∷◌ b bs) at = pick (eqb b 32 || eqb b 10) at (run_end bs (suc at))

-- It takes the first number, which begins at byte 409, to end where the second one does; the promised past byte is another.
abbrev past : Said Shown → ℕ
past s = first_past s.shown
  where
    first_past : List Shown → ℕ
    first_past L.[] = 0
    first_past (L.◌∷◌ x xs) = x.past

pub by_blanks : past (stored_number touching 1 0) ≡ run_end (drop 409 touching) 409 → ⊥
unfolding computed_number
by_blanks e = let z : ◌≡◌ {A = ℕ} 428 448 = e in omega arith

-- A judge that only refuses differs on a file that is accepted, one that only accepts on an empty file.
pub only_refuses : (wrong : List ℕ → Reply) → ((f : List ℕ) → 0 < (wrong f).number) → ((f : List ℕ) → wrong f ≡ judged f) → ⊥
unfolding computed_number
only_refuses wrong a b = omega (arith, a touching, ap (λ (r : Reply). r.number) (b touching))

pub only_accepts : (wrong : List ℕ → Reply) → ((f : List ℕ) → (wrong f).number ≡ 0) → ((f : List ℕ) → wrong f ≡ judged f) → ⊥
unfolding computed_number
only_accepts wrong a b = omega (arith, a none, ap (λ (r : Reply). r.number) (b none))
