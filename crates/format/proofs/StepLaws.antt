-- The steps of the item and list functions, as the code takes them.
use Rattle.std.specs.Prelude.{◌≡◌, refl, Bool, true, false, List, ℕ, zero, suc, ◌+◌, ◌-◌, eqb, drop, get_or, min, Option, Some, None, option_and_then, option_map}
use Rattle.std.proofs.Common.{sym, ap, ◌∙◌, arith}
use Rattle.laws.specs.Choice.{pick}
use Rattle.format.specs.Format.{Count, Format, depth, groups, columns}
use Rattle.format.specs.Reading.{Counting, Parsed, none, some, count_of, leaf_of, item_of, list_of}
use Rattle.format.specs.ListLaws.{item_leaf, item_group, item_none, list_last, list_more, list_none}
use Rattle.format.specs.Measured.{capped, found, tally_at, plain_leaf, a_measure, measured, measured_leaf, closed_measure, joined_measure}
use Rattle.format.proofs.MeasuredLaws.{leaf_in_leaf, measured_leaf_lem, measured_closed, measured_joined}
use Rattle.format.specs.declared.Tally.{Tally}
use Rattle.format.specs.declared.Measure.{Measure}

-- one byte fewer is left
pub fewer : (m : ℕ) → suc m - 1 ≡ m
fewer m = omega arith

-- no byte is left
pub item_zero : (n : ℕ) (l : List ℕ) (at : ℕ) → n ≡ 0 → None ≡ measured (item_of n l at)
unfolding item_of measured
item_zero n l at e = rw e refl

pub list_zero : (n : ℕ) (l : List ℕ) (at : ℕ) → n ≡ 0 → None ≡ measured (list_of n l at)
unfolding item_of measured
list_zero n l at e = rw e refl

-- an item after its count, where lists of fewer than n bytes are measured
abbrev pub item_by : ℕ → List ℕ → Tally → Option Measure
item_by n l c =
    pick (eqb (get_or l c.at 0) 40)
    (option_and_then (closed_measure c l) (measured (list_of n l (c.at + 1))))
    (option_map measured_leaf (plain_leaf c l))

-- a list after its first item
abbrev pub list_by : ℕ → List ℕ → Measure → Option Measure
list_by n l i = pick (eqb (get_or l i.at 0) 44) (option_map (joined_measure i) (measured (list_of n l (i.at + 1)))) (Some i)

item_next : (n : ℕ) (l : List ℕ) (at : ℕ) → measured (item_of (suc n) l at) ≡ option_and_then (item_by n l) (tally_at at (count_of (drop at l)))
unfolding measured tally_at
item_next n l at = go (count_of (drop at l)) refl
  where
    grouped : (d : Count) (k : ℕ) → count_of (drop at l) ≡ some d k → (b : Bool) → eqb (get_or l (at + k) 0) 40 ≡ b → measured (item_of (suc n) l at) ≡ item_by n l (found d (at + k))
    grouped d k q true b = rw (b, item_group n l at d k q b) (measured_closed d (at + k) l (list_of n l (at + k + 1)))
    grouped d k q false b =
        rw (b, item_leaf n l at d k q b) (measured_leaf_lem (leaf_of d (at + k) l) ∙ ap (option_map measured_leaf) (leaf_in_leaf d (at + k) l))

    go : (x : Counting) → count_of (drop at l) ≡ x → measured (item_of (suc n) l at) ≡ option_and_then (item_by n l) (tally_at at (count_of (drop at l)))
    go none q = rw (q, item_none n l at q) refl
    go (some d k) q = rw q (grouped d k q (eqb (get_or l (at + k) 0) 40) refl)

pub item_is : (n : ℕ) (l : List ℕ) (at : ℕ) (r : Option Measure) → (n ≡ 0 → ⊥)
    → r ≡ option_and_then (item_by (n - 1) l) (tally_at at (count_of (drop at l))) → r ≡ measured (item_of n l at)
item_is zero l at r z e = absurd (z refl)
item_is (suc m) l at r z e = rw (fewer m) at e ∙ sym (item_next m l at)

list_next : (n : ℕ) (l : List ℕ) (at : ℕ) → measured (list_of (suc n) l at) ≡ option_and_then (list_by n l) (measured (item_of n l at))
unfolding measured
list_next n l at = go (item_of n l at) refl
  where
    comma : (t : Format) (k : ℕ) → item_of n l at ≡ some t k → (b : Bool) → eqb (get_or l k 0) 44 ≡ b
        → measured (list_of (suc n) l at)
        ≡ pick b (option_map (joined_measure (a_measure k (min (depth t) 4) (min (groups t) 4) (capped (columns t)))) (measured (list_of n l (k + 1)))) (measured (some t k))
    comma t k q true b = rw (list_more n l at t k q b) (measured_joined t k (list_of n l (k + 1)))
    comma t k q false b = rw (list_last n l at t k q b) refl

    go : (x : Parsed) → item_of n l at ≡ x → measured (list_of (suc n) l at) ≡ option_and_then (list_by n l) (measured (item_of n l at))
    go none q = rw (q, list_none n l at q) refl
    go (some t k) q = rw q (comma t k q (eqb (get_or l k 0) 44) refl)

pub list_is : (n : ℕ) (l : List ℕ) (at : ℕ) (r : Option Measure) → (n ≡ 0 → ⊥)
    → r ≡ option_and_then (list_by (n - 1) l) (measured (item_of (n - 1) l at)) → r ≡ measured (list_of n l at)
list_is zero l at r z e = absurd (z refl)
list_is (suc m) l at r z e = rw (fewer m) at e ∙ sym (list_next m l at)
