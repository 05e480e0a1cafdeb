-- `values::put_line` meets its contract.
use Rattle.std.proofs.Common.{◌≡◌, List, ℕ, ◌+◌, ◌<◌, refl, ◌∙◌, get_or, get_or-take, length-set, add-one, arith}
use Rattle.layout.specs.Columns.{field_start, field_past}
use Rattle.layout.specs.ColumnsLaws.{field_start_next}
use Rattle.layout.specs.Layout.{fields_of}
use Rattle.layout.specs.LayoutLaws.{field_inside}
use Rattle.reader.specs.Find.{real_at}
use Rattle.usual_columns.specs.WidthsLaws.{fields_six}
use Rattle.values.specs.FillLaws.{patterns_next}
use Rattle.values.specs.LinesLaws.{width_own, width_either, line_pattern}
use Rattle.values.proofs.put_line.Goals as goal

-- the first field's column, and the next one's
start : (ws : List ℕ) (line : ℕ) → line ≡ line + field_start ws 0
unfolding field_start
start ws line = omega arith

further : (ws : List ℕ) (line at w k : ℕ) → at ≡ line + field_start ws k → w ≡ get_or ws k 0 → at + w ≡ line + field_start ws (k + 1)
unfolding field_past
further ws line at w k e f = rw (add-one k, field_start_next) (omega arith)

pub loop-k-init : goal.loop-k-init
loop-k-init c =
    let y : c.args.t.number + 0 ≡ c.args.t.number = omega arith in
    record { here = start _ _; long = refl; same = λ count a b. rw y refl }

pub shared_ref_as_front-widths : goal.shared_ref_as_front-widths
shared_ref_as_front-widths c = omega (arith, c.requires.ready.0.fields_are, fields_six c.args.p.now.set.case)

pub field_bits-requires : goal.field_bits-requires
field_bits-requires c =
    let case = c.args.p.now.set.case in
    let ready = c.requires.ready.0 in
    let usual = c.requires.at_spot.1.1 in
    let here = c.loop-k.invariant.here in
    let k : ℕ = c.loop-k.k in
    let room = usual.room in
    let before : k < fields_of case = omega (arith, ready.fields_are, c.loop-k-test.true) in
    let width = c.from-width.ensures ∙ get_or-take _ _ k 0 (omega (arith, ready.fields_are)) ∙ width_own case k _ ready.widths_are before in
    record {
      fact = rw width (width_either case k ready.eight before);
      width_in_bounds = (omega (arith, here, width, field_inside case k), (rw (here, width) (usual.fields k before), c.requires.ready.1.0));
    }

pub loop-k-preserved : goal.loop-k-preserved
loop-k-preserved c =
    let file : List ℕ = c.args.file.now in
    let d = c.args.p.now.set in
    let ready = c.requires.ready.0 in
    let inv = c.loop-k.invariant in
    let k : ℕ = c.loop-k.k in
    let j : ℕ = c.args.t.number in
    let out = c.loop-k.out in
    let next : j + k + 1 ≡ j + (k + 1) = omega arith in
    let before : k < fields_of d.case = omega (arith, ready.fields_are, c.loop-k-test.true) in
    let width = c.from-width.ensures ∙ get_or-take _ _ k 0 (omega (arith, ready.fields_are)) ∙ width_own d.case k _ ready.widths_are before in
    let own = rw (inv.here, width) at c.field_bits.ensures in
    let bits = c.field_bits.result in
    let pattern = line_pattern file d ready.body ready.eight _ _ _ c.requires.at_spot.0 c.requires.at_spot.1.1 k bits (get_or out (j + k) 0) before own in
    record {
      here = further _ _ _ _ _ inv.here width;
      long = simp length-set inv.long;
      same = λ count a b. rw (← next) (patterns_next (real_at file d) (j + k) count (omega arith) out (omega (arith, inv.long)) 0 bits pattern ∙ inv.same count a b);
    }

pub returns : goal.returns
returns c =
    let inv = c.loop-k.invariant in
    let e : c.loop-k.k ≡ fields_of c.args.p.now.set.case = omega (arith, c.requires.ready.0.fields_are, c.loop-k-test.false) in
    record { long = inv.long; same = λ count a b. rw (← e) (inv.same count a b) }
