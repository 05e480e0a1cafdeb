-- `stream::push` meets its contract.
use Rattle.std.proofs.Common.{◌≤◌, ◌+◌, ◌-◌, ◌≡◌, ◌++◌, length, take, drop, sym, ap, ◌∙◌, le_refl, take-take, length-take-le}
use Rattle.std.proofs.lemmas.Slice.{put_mid-paste}
use native.Mathlib.Omega.{arith}
use Rattle.stream.specs.StreamLaws.{laid_pushed, none_pushed}
use Rattle.stream.proofs.push.Goals as goal

pub returns-then-n-eq0 : goal.returns-then-n-eq0
returns-then-n-eq0 c = none_pushed _ _ _ c.requires c.if-n-eq0.true

pub returns : goal.returns
returns c =
    let line = c.args.line.now in
    let bytes = c.args.bytes.now in
    let f = c.min-from.result in
    let i = c.min-count.result in
    let from = c.min-from.ensures in
    let count = c.min-count.ensures in
    let within : i ≤ length bytes = omega (arith, count) in
    let room : f + i ≤ 80 = omega (arith, from, count) in
    let same : i ≡ f + i - f = omega arith in
    let put = put_mid-paste f (f + i - f) line c.copy_from_slice.new.self (take i bytes) i c.copy_from_slice.ensures.after same (sym (length-take-le i bytes within)) in
    let once = ap (λ l. take f line ++ l ++ drop (f + i) line) (take-take i i bytes (le_refl i)) in
    laid_pushed line c.args.held bytes f from c.requires _ i (put ∙ once) within room count (omega (arith, c.if-n-eq0.false))
