-- `stream_c::put_line` meets its contract.
use mathlib.Core.Path.{◌≡◌}
use mathlib.Core.List.{List}
use Prim.Native.Nat.{ℕ}
use lib.ListN.{length}
use Rattle.stream_c.specs.LentLaws.{laid_line}
use borrow.Author.Rules.{rules}
use Rattle.stream_c.proofs.put_line.Goals as goal

pub returns : goal.returns
returns c =
    let pending : List ℕ = c.args.pending.now in
    let room : length pending ≡ 81 = search rules in
    (laid_line pending c.args.line.now _ _ _ room c.put_text-past.ensures.0 c.put_text-past.ensures.1 c.put_text.ensures.1, room)
