-- What a 58 declares, and the columns of its last line that count, by where the code finds it.
use Rattle.std.specs.Prelude.{List, ℕ, eqb}
use Rattle.laws.specs.Choice.{pick}
use Rattle.record_table.specs.TypedSets.{line_seven}
use Rattle.record.specs.Declares.{case_in, stored_in}
use Rattle.parts.specs.declared.Extent.{Extent}
use Rattle.parts.specs.declared.Declared.{Declared}
use Rattle.parts.specs.declared.Counted.{Counted}
use Rattle.parts.specs.Scan.{line_from}
use Rattle.parts.specs.Padding.{counted_past}

abbrev pub declares : ℕ → ℕ → Declared
declares c n = record { case = c; stored = n }

abbrev pub counts : ℕ → ℕ → Counted
counts at k = record { line = at; past = k }

unfoldable pub declared_at : List ℕ → Extent → Declared
declared_at file e =
    let seven : List ℕ = line_from e.closing e.body file line_seven in
    pick (eqb e.number 58) (declares (case_in seven) (stored_in seven)) (declares 0 0)

abbrev pub counted_by : Declared → ℕ → ℕ → Counted
counted_by d last closing = pick (eqb d.stored 0) (counts closing 0) (counts last (counted_past d.case d.stored))

unfoldable pub counted_at : List ℕ → Extent → Counted
counted_at file e = counted_by (declared_at file e) e.last e.closing
