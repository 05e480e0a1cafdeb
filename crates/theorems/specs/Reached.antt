-- The states that the judge comes to, line after line of a file, and the lines on which a row is due.
use Rattle.std.specs.Prelude.{◌≡◌, true, false, List, ℕ}
use Rattle.line.specs.Line.{columns, filled}
use Rattle.delimiter.specs.Kind.{Delimiter}
use Rattle.record.specs.Check.{taken}
use Rattle.walk.specs.Due.{may_continue, row_due}
use Rattle.walk.specs.Step.{start}
use Rattle.walk.specs.declared.Due.{Due}
use Rattle.walk.specs.declared.Place.TheVariants.{Typed}
use Rattle.walk.specs.declared.State.{State}
use Rattle.std.specs.Prelude.{Ok}
use Rattle.judge.specs.Judge.{line_step}
use Rattle.format_laws.specs.Asked.{left_blank}
use Rattle.format_laws.specs.Printed.{printed_for}

pub data Reached : State → Type 0 where
  begins : Reached start
  line : {s t : State} (l : List ℕ) → Reached s → line_step s l ≡ Ok t → Reached t

-- a line of a file, by the bytes before its LF, where a row is due in a typed set: no delimiter, and no line with a field left blank
pub record DueLine (s : State) (l : List ℕ) : Type 0 where
  pub reached : Reached s
  pub due : Due
  pub place : s.place ≡ Typed due
  pub more : may_continue due ≡ true
  pub inside : Delimiter (filled (columns true l)) → ⊥
  pub present : left_blank (taken (row_due due) (filled (columns true l))).fields (filled (columns true l)) ≡ false

-- its printed FORMAT
abbrev pub printed_text : {s : State} {l : List ℕ} → DueLine s l → List ℕ
printed_text {l = l} a = printed_for a.due (filled (columns true l))
