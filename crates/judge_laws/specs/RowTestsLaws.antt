-- What the row due takes is written by it.
use Rattle.std.specs.Prelude.{◌≡◌, List, ℕ}
use Rattle.line.specs.Line.{filled}
use Rattle.line.specs.LineLaws.{filled_length}
use Rattle.record.specs.Check.{items_of, row_refusal}
use Rattle.record.specs.Written.{Written}
use Rattle.record_laws.specs.LineReadingLaws.{written_sound}
use Rattle.walk.specs.Due.{row_due}
use Rattle.walk.specs.declared.Due.{Due}
use Rattle.judge_laws.specs.RowFitsLaws.{row_due_fits, row_due_readable}

-- what the row due takes is written by it
pub row_due_sound : (d : Due) (cs : List ℕ) → (row_refusal (row_due d) (filled cs)).number ≡ 0
    → Written (row_due d) (items_of (row_due d).fields 0 (filled cs)) (filled cs)
row_due_sound d cs h = written_sound (filled cs) (filled_length cs) (row_due d) (row_due_fits d) (row_due_readable d) h
