-- The lists after a set's records, a line at a time.
use Rattle.std.specs.Prelude.{◌≡◌, Bool, true, false, List, [], ◌∷◌, ◌<◌, leb, eqb, length}
use Rattle.std.proofs.Math.Path.{refl}
use Rattle.std.proofs.Common.{append-nil}
use borrow.Author.Tests.{eqb-true, eqb-false, ltb-true}
use Rattle.laws.specs.Choice.{pick}
use Rattle.laws.specs.ChoiceLaws.{and_right}
use Rattle.field.specs.Item.{Item}
use Rattle.record_table.specs.Records.{no_record}
use Rattle.walk.specs.Due.{due, record_due, list_row, may_close, may_continue, row_due, settled, after_list, after_items}
use Rattle.walk.specs.declared.Due.{Due}
use Rattle.walk_laws.specs.LinesForLaws.{list_rows_none, list_rows_more}
use Rattle.walk_laws.specs.Owed.{rows_left, Listing, Owes, Next}

-- what holds of a state whose first list is done, moved on to the second, and of any other as it stands, holds once it is settled
pub settled_cases : (P : Due → Type 0) (d : Due) → (d.left ≡ 0 → P (due d.kind d.at d.case d.second 0)) → ((d.left ≡ 0 → ⊥) → P d)
    → P (settled d)
unfolding settled
settled_cases P d done not = go (eqb d.left 0) refl
  where
    go : (t : Bool) → eqb d.left 0 ≡ t → P (pick t (due d.kind d.at d.case d.second 0) d)
    go true e = done (eqb-true d.left 0 e)
    go false e = not (eqb-false d.left 0 e)

-- moving on to the second list changes no row that is owed
pub rows_left_settled : (d : Due) → rows_left (settled d) ≡ rows_left d
unfolding rows_left list_row
rows_left_settled d = settled_cases (λ (s : Due). rows_left s ≡ rows_left d) d (λ z. rw z (simp (list_rows_none, append-nil))) (λ n. refl)

-- a settled state with its records done stands in its lists
pub listing_settled : (d : Due) → record_due d ≡ no_record → 0 < length (list_row d).fields → Listing (settled d)
unfolding record_due list_row
listing_settled d p w =
    settled_cases
    Listing
    d
    (λ z. record { past = p; none = λ _. refl; wide = λ _. w })
    (λ n. record { past = p; none = λ z. absurd (n z); wide = λ _. w })

module _ (d : Due) (l : Listing d) where
  -- a set that may close owes nothing
  pub lists_closed : may_close d ≡ true → rows_left d ≡ []
  unfolding may_close rows_left
  lists_closed h =
      let z : d.left ≡ 0 = eqb-true d.left 0 (and_right (leb no_record (record_due d)) (eqb d.left 0) h) in
      rw (z, l.none z, list_rows_none) refl

  -- a set that may go on owes some numbers
  lists_some : may_continue d ≡ true → 0 < d.left
  unfolding may_continue
  lists_some h = ltb-true 0 d.left (rw l.past at h)

  -- a line of a list has as much of the list's row as is left
  rows_left_more : 0 < d.left → rows_left d ≡ row_due d ∷ rows_left (after_list d)
  unfolding rows_left row_due after_list list_row
  rows_left_more p = rw (l.past, rows_left_settled, list_rows_more (list_row d) d.left (l.wide p) p) refl

  -- one line of a list owed
  pub lists_next : (iss : List (List Item)) → may_continue d ≡ true → Next d iss (rows_left d)
  unfolding after_items after_list record_due list_row
  lists_next iss h =
      let p : 0 < d.left = lists_some h in
      record {
        rest = rows_left (after_list d);
        first = rows_left_more p;
        then = λ is iss' e. rw l.past (Owes.lists (listing_settled _ l.past (l.wide p)));
      }
