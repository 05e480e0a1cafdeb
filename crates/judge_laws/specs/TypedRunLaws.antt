-- The lines that the walk follows in a typed set are those of document 01's rows.
use Rattle.std.specs.Prelude.{◌≡◌, refl, true, List, [], ◌∷◌, ℕ, suc, length}
use Rattle.std.proofs.Common.{ap, subst}
use Rattle.field.specs.Item.{Item}
use Rattle.record_table.specs.Row.{Row}
use Rattle.record_table.specs.TypedSets.{kind_of, is_typed}
use Rattle.walk.specs.Due.{opening, row_due}
use Rattle.walk.specs.declared.Due.{Due}
use Rattle.theory.specs.Due.{set_rows}
use Rattle.theory.specs.Proper.{TypedLines}
use Rattle.walk_laws.specs.Follows.{Follows}
use Rattle.walk_laws.specs.FollowsLaws.{follows_rows, rows_follow}
use Rattle.judge_laws.specs.TypedRun.{TypedRun}

-- lines written by the rows that the walk follows are a run of it
follows_run : {d : Due} {iss : List (List Item)} {rs : List Row} {css : List (List ℕ)} → Follows d iss rs → TypedLines rs iss css → TypedRun d iss css
follows_run (Follows.closed c) TypedLines.none = TypedRun.closed c
follows_run (Follows.more c f) (TypedLines.more w n l) = TypedRun.more c w n (follows_run f l)

-- a run has rows that the walk follows, and its lines are written by them
run_follows : {d : Due} {iss : List (List Item)} {css : List (List ℕ)} → TypedRun d iss css → (rs : List Row) × Follows d iss rs × TypedLines rs iss css
run_follows (TypedRun.closed c) = ([], Follows.closed c, TypedLines.none)
run_follows (TypedRun.more {d} c w n r) =
    let o = run_follows r in
    (row_due d ∷ o.0, Follows.more c o.1, TypedLines.more w n o.2)

-- each line has one row
typed_lines_length : {rs : List Row} {iss : List (List Item)} {css : List (List ℕ)} → TypedLines rs iss css → length iss ≡ length rs
typed_lines_length TypedLines.none = refl
typed_lines_length (TypedLines.more w n l) = ap suc (typed_lines_length l)

module _ (n : ℕ) (iss : List (List Item)) (css : List (List ℕ)) (t : is_typed n ≡ true) where
  -- a typed set's lines are a run from its opening
  pub typed_lines_run : TypedLines (set_rows n iss) iss css → TypedRun (opening (kind_of n)) iss css
  typed_lines_run l = follows_run (rows_follow n iss t (typed_lines_length l)) l

  -- and a run from its opening is a typed set's lines
  pub run_typed_lines : TypedRun (opening (kind_of n)) iss css → TypedLines (set_rows n iss) iss css
  run_typed_lines r =
      let o = run_follows r in
      subst (λ (rs : List Row). TypedLines rs iss css) (follows_rows n iss o.0 t o.1) o.2
