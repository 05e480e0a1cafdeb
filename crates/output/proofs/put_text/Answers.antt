use mathlib.Core.Path.{◌≡◌}
use mathlib.Core.List.{List, ◌∷◌}
use Prim.Native.Nat.{ℕ, ◌+◌}
use native.Mathlib.Numerals.{add-one}
use lib.ListN.{get_or, drop, drop_of_length-le}
use lib.Seq.{drop-cons}
use Rattle.output.specs.OutputLaws.{put_start, put_byte, put_done}
use borrow.Author.Rules.{rules}
use Rattle.output.proofs.put_text.Goals as goal

pub loop-i-init : goal.loop-i-init
loop-i-init c = record { within = search rules; here = search rules; put = put_start _ _ _ }

pub loop-i-preserved : goal.loop-i-preserved
loop-i-preserved c =
    let s : List ℕ = c.args.s.now in
    let i : ℕ = c.loop-i.i in
    let next : drop i s ≡ get_or s i 0 ∷ drop (i + 1) s = rw add-one (drop-cons s i 0 c.loop-i-test.true) in
    record { within = search rules; here = search rules; put = put_byte _ _ _ _ _ _ c.loop-i.invariant.put c.requires _ _ next }

pub shape_of-out : goal.shape_of-out
shape_of-out c = c.loop-i.invariant.put.same

pub returns : goal.returns
returns c = put_done _ _ _ _ _ _ c.loop-i.invariant.put (drop_of_length-le _ c.loop-i-test.false)
