-- The walk's account of what is due in a typed set agrees with document 01's rows.
use Rattle.std.specs.Prelude.{◌≡◌, refl, Bool, true, false, List, [], ◌∷◌, ℕ, suc, ◌<◌, length}
use Rattle.std.proofs.Common.{sym, ◌∙◌, ap, arith, ltb-true}
use Rattle.laws.specs.ChoiceLaws.{false_not_true}
use Rattle.field.specs.Item.{Item}
use Rattle.record_table.specs.Row.{Row}
use Rattle.record_table.specs.TypedSets.{kind_of, is_typed, untyped}
use Rattle.theory.specs.Due.{set_rows}
use Rattle.walk.specs.Due.{opening, may_close, may_continue, row_due, after_items}
use Rattle.walk.specs.declared.Due.{Due}
use Rattle.walk.specs.DueLaws.{open_continues}
use Rattle.walk_laws.specs.Follows.{Follows, closed, more}
use Rattle.walk_laws.specs.Owed.{reached, rows_left, Owes, Next}
use Rattle.walk_laws.specs.ListLaws.{lists_closed, lists_next}
use Rattle.walk_laws.specs.RecordsLaws.{records_open, records_next, records_opening}

-- where no line comes, a set that may close owes nothing, and any other owes some line
owes_closed : {d : Due} {rs : List Row} → Owes d [] rs → may_close d ≡ true → rs ≡ []
owes_closed (Owes.records k a ls h p e) c = false_not_true (sym (records_open k a ls h p) ∙ c)
owes_closed (Owes.lists {d} l) c = lists_closed d l c

owes_open : {d : Due} {rs : List Row} → Owes d [] rs → may_close d ≡ false → 0 < length rs
owes_open (Owes.records k a ls h p e) c = rw (records_next k a ls h p [] e).first (omega arith)
owes_open (Owes.lists {d} l) c = rw (lists_next d l [] (open_continues d c)).first (omega arith)

-- where a line comes, a set that may go on owes it, and then what is owed after it, and any other owes nothing
owes_next : {d : Due} {is : List Item} {iss : List (List Item)} {rs : List Row} → Owes d (is ∷ iss) rs → may_continue d ≡ true → Next d (is ∷ iss) rs
owes_next (Owes.records k a ls {iss} h p e) c = records_next k a ls h p iss e
owes_next (Owes.lists {d} {iss} l) c = lists_next d l iss c

owes_done : {d : Due} {is : List Item} {iss : List (List Item)} {rs : List Row} → Owes d (is ∷ iss) rs → may_continue d ≡ false → rs ≡ []
owes_done (Owes.records k a ls h p e) c = false_not_true (sym c ∙ open_continues (reached k ls a) (records_open k a ls h p))
owes_done (Owes.lists {d} l) c = by (may_close d) refl
  where
    by : (t : Bool) → may_close d ≡ t → rows_left d ≡ []
    by true q = lists_closed d l q
    by false q = false_not_true (sym c ∙ open_continues d q)

-- the rows of lines that the walk follows are those owed
follows_owed : {d : Due} {iss : List (List Item)} {rs owed : List Row} → Follows d iss rs → Owes d iss owed → rs ≡ owed
follows_owed (closed c) o = sym (owes_closed o c)
follows_owed (more {d} {is} {iss} {rs} c f) o =
    let n = owes_next o c in
    ap (◌∷◌ (row_due d)) (follows_owed f (n.then is iss refl)) ∙ sym n.first

-- the walk follows lines that are as many as the rows owed
owed_follows : (iss : List (List Item)) (d : Due) (rs : List Row) (t o : Bool) → may_close d ≡ t → may_continue d ≡ o → Owes d iss rs
    → length iss ≡ length rs → Follows d iss rs
owed_follows [] d rs true o c g w e = rw (owes_closed w c) (closed c)
owed_follows [] d rs false o c g w e = let z : 0 < length rs = owes_open w c in absurd (omega arith)
owed_follows (is ∷ iss) d rs t false c g w e = let z : suc (length iss) ≡ 0 = e ∙ ap length (owes_done w g) in absurd (omega arith)
owed_follows (is ∷ iss) d rs t true c g w e =
    let n = owes_next w g in
    let z : suc (length iss) ≡ suc (length n.rest) = e ∙ ap length n.first in
    rw n.first (more g (owed_follows iss (after_items d is) n.rest _ _ refl refl (n.then is iss refl) (omega arith)))

module _ (n : ℕ) (iss : List (List Item)) where
  -- an opened set owes the rows that document 01 gives
  opening_owes : is_typed n ≡ true → Owes (opening (kind_of n)) iss (set_rows n iss)
  unfolding set_rows is_typed
  opening_owes t = records_opening (kind_of n) iss (ltb-true (kind_of n) untyped t)

  -- the rows of a set's lines, as the walk follows them, are document 01's
  pub follows_rows : (rs : List Row) → is_typed n ≡ true → Follows (opening (kind_of n)) iss rs → rs ≡ set_rows n iss
  follows_rows rs t f = follows_owed f (opening_owes t)

  -- the walk follows lines that are as many as document 01's rows
  pub rows_follow : is_typed n ≡ true → length iss ≡ length (set_rows n iss) → Follows (opening (kind_of n)) iss (set_rows n iss)
  rows_follow t e = owed_follows iss (opening (kind_of n)) (set_rows n iss) _ _ refl refl (opening_owes t) e
