-- `values::put_line` meets its contract.
use Rattle.std.proofs.Common.{◌≡◌, List, ℕ, ◌+◌, ◌≤◌, length}
use Rattle.layout.specs.Columns.{field_start}
use Rattle.layout.specs.Layout.{layout_of, fields_of}
use Rattle.reader.specs.declared.Data.{Data}
use Rattle.reader.specs.Find.{real_at}
use Rattle.values.specs.Lines.{filled}
use Rattle.values.proofs.put_line.Given as goal

-- the numbers of the first k fields are put
pub record Going (file : List ℕ) (d : Data) (line j : ℕ) (out₀ out : List ℕ) (at k : ℕ) : Type 0 where
  pub here : at ≡ line + field_start (layout_of d.case).widths k
  pub long : length out ≡ length out₀
  pub same : (count : ℕ) → j + fields_of d.case ≤ count → count ≤ length out₀ → filled (real_at file d) count (j + k) out ≡ filled (real_at file d) count j out₀

abbrev pub invariant-loop-k : goal.invariant-loop-k
invariant-loop-k l = Going l.file l.p.set l.t.spot.line l.t.number l.initial.out l.out l.at l.k
