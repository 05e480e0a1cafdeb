-- `listing::show_file` is safe and ends: where the lister answers 0, its rows have the places of each set.
use mathlib.Core.Path.{◌≡◌}
use mathlib.Core.List.{List}
use mathlib.Core.Logic.{⊎_elim}
use Prim.Native.Nat.{ℕ, ◌*◌, ◌≤◌}
use native.Mathlib.Omega.{arith}
use lib.ListN.{length}
use borrow.Author.Tests.{lt-ltb, le-ltb}
use Rattle.laws.specs.ChoiceLaws.{below_or_not}
use Rattle.judge.specs.declared.Reply.{Reply}
use Rattle.judge.specs.Judge.{judged}
use Rattle.parts.specs.Parts.{parts_of}
use Rattle.lister.specs.Lister.{row_numbers, list_reply}
use Rattle.listing.proofs.show_file.Goals as goal

-- a reply of 0 counts no more sets than have their places
rows_fit : (file : List ℕ) (places : ℕ) (r : Reply) → r ≡ list_reply file places → r.number ≤ 0 → row_numbers * r.place ≤ places
unfolding list_reply
rows_fit file places r e h =
    ⊎_elim
    (λ l. let z : (judged file).number ≤ 0 = rw (e, lt-ltb 0 (judged file).number l) at h in absurd (omega arith))
    (λ a. ⊎_elim
    (λ l. let z : ◌≤◌ 17 0 = rw (e, le-ltb 0 (judged file).number a, lt-ltb places (row_numbers * length (parts_of file)) l) at h in absurd (omega arith))
    (λ m. rw (e, le-ltb 0 (judged file).number a, le-ltb places (row_numbers * length (parts_of file)) m) m)
    (below_or_not places (row_numbers * length (parts_of file))))
    (below_or_not 0 (judged file).number)

pub show_sets-requires : goal.show_sets-requires
show_sets-requires g c =
    let l = c.list-reply in
    omega (arith, rows_fit _ _ _ l.ensures.0 c.if-reply-gt0.false, l.auto.rows)
