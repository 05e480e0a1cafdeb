-- The sets that a judged file has, as the judge counts those that open.
use Rattle.std.specs.Prelude.{◌≡◌, Result, Ok, Err, List, ℕ, ◌≤◌, ◌<◌, length}
use Rattle.judge.specs.Judge.{judged}
use Rattle.parts.specs.Parts.{parts_of}
use Rattle.judge.specs.declared.Reply.{Reply}

-- how many sets an accepted file has, the judge's reply to any other
abbrev pub Counted : List ℕ → Result ℕ Reply → Type 0
Counted file (Ok n) = ((judged file).number ≤ 0) × (n ≡ length (parts_of file))
Counted file (Err r) = (0 < r.number) × (r ≡ judged file)
