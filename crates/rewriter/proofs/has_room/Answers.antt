-- `rewriter::has_room` meets its contract.
use mathlib.Core.Path.{refl}
use Rattle.judge.specs.JudgeLaws.{judged_short}
use Rattle.rewriter.proofs.PutLaws.{file_room}
use Rattle.rewriter.proofs.has_room.Goals as goal

pub returns-then-file-room : goal.returns-then-file-room
returns-then-file-room c = file_room _ _ c.requires c.if-file-room.true

pub rewritten_len-requires : goal.rewritten_len-requires
rewritten_len-requires c = judged_short _ c.requires

pub returns : goal.returns
returns c = rw c.rewritten_len.ensures refl
