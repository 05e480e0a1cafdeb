-- The steps of the functions that lay items and lists, as the code takes them.
use Rattle.std.specs.Prelude.{◌≡◌, refl, Bool, true, false, List, ℕ, zero, suc, ◌+◌, ◌-◌, eqb, drop, get_or, Option, Some, None, option_and_then, option_map}
use Rattle.std.proofs.Common.{sym, ap, ◌∙◌}
use Rattle.laws.specs.Choice.{pick}
use Rattle.format.specs.Format.{Count, Format}
use Rattle.format.specs.Reading.{Counting, Parsed, none, some, count_of, leaf_of, item_of, list_of}
use Rattle.format.specs.ListLaws.{item_leaf, item_group, item_none, list_last, list_more, list_none}
use Rattle.format.specs.Measured.{found, tally_at, plain_leaf}
use Rattle.format.specs.Row.{Laying, a_laying, lay, laid}
use Rattle.format.proofs.MeasuredLaws.{leaf_in_leaf}
use Rattle.format.proofs.StepLaws.{fewer}
use Rattle.format.proofs.RowLaws.{laid_leaf, group_laid, laid_leaf_lem, laid_closed, laid_joined}
use Rattle.format.specs.declared.Tally.{Tally}
use Rattle.format.specs.declared.Fields.{Fields}

-- no byte is left
pub item_zero : (n : ℕ) (l : List ℕ) (at : ℕ) (w : Fields) → n ≡ 0 → None ≡ laid w (item_of n l at)
unfolding item_of laid
item_zero n l at w e = rw e refl

pub list_zero : (n : ℕ) (l : List ℕ) (at : ℕ) (w : Fields) → n ≡ 0 → None ≡ laid w (list_of n l at)
unfolding item_of laid
list_zero n l at w e = rw e refl

-- an item after its count, where lists of fewer than n bytes are laid
abbrev pub item_by : ℕ → List ℕ → Fields → Tally → Option Laying
item_by n l w c =
    pick (eqb (get_or l c.at 0) 40)
    (option_and_then (group_laid w.count c l) (laid w (list_of n l (c.at + 1))))
    (option_map (laid_leaf w) (plain_leaf c l))

-- a list after its first item
abbrev pub list_by : ℕ → List ℕ → Laying → Option Laying
list_by n l i = pick (eqb (get_or l i.at 0) 44) (laid i.row (list_of n l (i.at + 1))) (Some i)

item_next : (n : ℕ) (l : List ℕ) (at : ℕ) (w : Fields) → laid w (item_of (suc n) l at) ≡ option_and_then (item_by n l w) (tally_at at (count_of (drop at l)))
unfolding laid tally_at
item_next n l at w = go (count_of (drop at l)) refl
  where
    grouped : (d : Count) (k : ℕ) → count_of (drop at l) ≡ some d k → (b : Bool) → eqb (get_or l (at + k) 0) 40 ≡ b → laid w (item_of (suc n) l at) ≡ item_by n l w (found d (at + k))
    grouped d k q true b = rw (b, item_group n l at d k q b) (laid_closed w d (at + k) l (list_of n l (at + k + 1)))
    grouped d k q false b =
        rw (b, item_leaf n l at d k q b) (laid_leaf_lem w (leaf_of d (at + k) l) ∙ ap (option_map (laid_leaf w)) (leaf_in_leaf d (at + k) l))

    go : (x : Counting) → count_of (drop at l) ≡ x → laid w (item_of (suc n) l at) ≡ option_and_then (item_by n l w) (tally_at at (count_of (drop at l)))
    go none q = rw (q, item_none n l at q) refl
    go (some d k) q = rw q (grouped d k q (eqb (get_or l (at + k) 0) 40) refl)

pub item_is : (n : ℕ) (l : List ℕ) (at : ℕ) (w : Fields) (r : Option Laying) → (n ≡ 0 → ⊥)
    → r ≡ option_and_then (item_by (n - 1) l w) (tally_at at (count_of (drop at l))) → r ≡ laid w (item_of n l at)
item_is zero l at w r z e = absurd (z refl)
item_is (suc m) l at w r z e = rw (fewer m) at e ∙ sym (item_next m l at w)

list_next : (n : ℕ) (l : List ℕ) (at : ℕ) (w : Fields) → laid w (list_of (suc n) l at) ≡ option_and_then (list_by n l) (laid w (item_of n l at))
unfolding laid
list_next n l at w = go (item_of n l at) refl
  where
    comma : (t : Format) (k : ℕ) → item_of n l at ≡ some t k → (b : Bool) → eqb (get_or l k 0) 44 ≡ b
        → laid w (list_of (suc n) l at) ≡ pick b (laid (lay w t) (list_of n l (k + 1))) (Some (a_laying k (lay w t)))
    comma t k q true b = rw (list_more n l at t k q b) (laid_joined w t (list_of n l (k + 1)))
    comma t k q false b = rw (list_last n l at t k q b) refl

    go : (x : Parsed) → item_of n l at ≡ x → laid w (list_of (suc n) l at) ≡ option_and_then (list_by n l) (laid w (item_of n l at))
    go none q = rw (q, list_none n l at q) refl
    go (some t k) q = rw q (comma t k q (eqb (get_or l k 0) 44) refl)

pub list_is : (n : ℕ) (l : List ℕ) (at : ℕ) (w : Fields) (r : Option Laying) → (n ≡ 0 → ⊥)
    → r ≡ option_and_then (list_by (n - 1) l) (laid w (item_of (n - 1) l at)) → r ≡ laid w (list_of n l at)
list_is zero l at w r z e = absurd (z refl)
list_is (suc m) l at w r z e = rw (fewer m) at e ∙ sym (list_next m l at w)
