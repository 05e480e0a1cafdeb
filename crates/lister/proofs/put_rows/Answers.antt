use mathlib.Core.Path.{◌≡◌, refl, ◌∙◌}
use mathlib.Core.List.{List}
use Prim.Native.Nat.{ℕ, ◌≤◌, ◌<◌, ◌-◌, ◌+◌, ◌*◌}
use lib.ListN.{length}
use borrow.Rule.Slice.PartMut.{same_len_mid}
use Rattle.parts.specs.Parts.{parts_of}
use Rattle.parts.specs.Set.{remaining}
use Rattle.lister.specs.declared.Listed.{Listed}
use Rattle.lister.specs.Lister.{row_numbers}
use Rattle.lister.specs.Listed.{listed_first, Next}
use Rattle.lister.specs.ListerLaws.{next_set, next_small, rows_count, rows_start, rows_complete, rows_left_lem, rows_turn, rows_kept, rows_done, row_length}
use native.Mathlib.Omega.{arith}
use Rattle.lister.proofs.put_rows.Invariants.{Laid}
use Rattle.lister.proofs.put_rows.Goals as goal

-- the set that is found next
laid_next : {file rows₀ rows : List ℕ} {i lines at : ℕ} (l : Listed) → Laid file rows₀ rows i lines at → i < row_numbers * length (parts_of file)
    → l ≡ listed_first (remaining file lines at) → Next file lines at l
laid_next l inv h e = next_set _ _ _ l inv.within inv.few inv.complete (omega (arith, inv.left)) e

pub loop-k-init : goal.loop-k-init
loop-k-init c =
    let file = c.args.file.now in
    record {
      within = omega arith;
      few = omega arith;
      complete = rows_complete file c.requires.1.1.0;
      same = refl;
      left = rows_count file;
      laid = rows_start file c.args.rows.now;
      kept = refl;
    }

pub next_listed-l-requires : goal.next_listed-l-requires
next_listed-l-requires c =
    let inv = c.loop-k.invariant in
    (inv.within, (inv.few, (inv.complete, omega (arith, c.loop-k-test.true, c.requires.1.0, inv.left))))

pub overflow_add-past : goal.overflow_add-past
overflow_add-past c = omega (arith, c.loop-k-test.true, c.requires.1.1.1)

pub slice_bounds-put_row-end : goal.slice_bounds-put_row-end
slice_bounds-put_row-end c =
    let inv = c.loop-k.invariant in
    omega (arith, c.loop-k-test.true, c.requires.1.1.1, c.requires.1.0, inv.left, inv.same)

pub put_row-requires : goal.put_row-requires
put_row-requires c =
    let inv = c.loop-k.invariant in
    let more : row_numbers * c.loop-k.k < row_numbers * length (parts_of c.args.file.now) = omega (arith, c.loop-k-test.true, c.requires.1.0) in
    let next = laid_next _ inv more c.next_listed-l.ensures in
    let room : row_numbers * c.loop-k.k + row_numbers ≤ length c.loop-k.rows = omega (arith, c.loop-k-test.true, c.requires.1.1.1, c.requires.1.0, inv.left, inv.same) in
    (row_length c.loop-k.rows (row_numbers * c.loop-k.k) room, next_small 16777216 c.requires.0 inv.few next)

pub loop-k-preserved : goal.loop-k-preserved
loop-k-preserved c =
    let inv = c.loop-k.invariant in
    let more : row_numbers * c.loop-k.k < row_numbers * length (parts_of c.args.file.now) = omega (arith, c.loop-k-test.true, c.requires.1.0) in
    let next = laid_next _ inv more c.next_listed-l.ensures in
    let row = c.put_row.ensures in
    let i : ℕ = row_numbers * c.loop-k.k in
    let z : row_numbers * (c.loop-k.k + 1) ≡ i + row_numbers = omega arith in
    let rows : List ℕ = c.loop-k.rows in
    let room : row_numbers * c.loop-k.k + row_numbers ≤ length c.loop-k.rows = omega (arith, c.loop-k-test.true, c.requires.1.1.1, c.requires.1.0, inv.left, inv.same) in
    rw z (record {
      within = next.within;
      few = next.lines;
      complete = rw next.rest at next.complete;
      same = same_len_mid {X = ℕ} i (i + row_numbers - i) rows c.put_row.new.row c.put_row.auto.row ∙ inv.same;
      left = rows_left_lem i next ∙ inv.left;
      laid = rows_turn _ _ _ _ _ _ _ next room row ∙ inv.laid;
      kept = rows_kept _ _ _ _ _ _ _ next room row _ inv.kept;
    })

pub shape_of-rows : goal.shape_of-rows
shape_of-rows c = c.loop-k.invariant.same

pub returns : goal.returns
returns c =
    let inv = c.loop-k.invariant in
    rows_done _ _ _ _ _ _ (omega (arith, c.loop-k-test.false, c.requires.1.0)) inv.left inv.laid inv.kept
