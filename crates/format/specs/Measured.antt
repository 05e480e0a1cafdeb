-- What the code keeps of numbers, items and lists: bounded numbers, each past its bound alike.
use Rattle.std.specs.Prelude.{Bool, true, false, ◌||◌, List, ℕ, ◌+◌, ◌-◌, ◌*◌, min, max, ltb, eqb, drop, get_or, Option, Some, None, option_and_then}
use Rattle.laws.specs.Choice.{pick}
use Rattle.format.specs.Format.{Count, once, times, number, depth, groups, columns}
use Rattle.format.specs.Reading.{Number, number_of, count_of, Counting, Leaf, Parsed, none, some}
use Rattle.format.specs.Laid.{kind_in}
use Rattle.format.specs.declared.Kind as own
use Rattle.format.specs.declared.Kind.TheVariants.{Skip, Text, Integer, Real}
use Rattle.format.specs.declared.Figure.{Figure}
use Rattle.format.specs.declared.Tally.{Tally}
use Rattle.format.specs.declared.Leaf as code
use Rattle.format.specs.declared.Measure.{Measure}

-- "over 80 columns": past 80 a number stays at 81
abbrev pub capped : ℕ → ℕ
capped n = min n 81

-- "deeper than three": past 3 a depth stays at 4
abbrev pub deeper : ℕ → ℕ
deeper d = min (d + 1) 4

unfoldable pub kept_digit : ℕ → ℕ → ℕ
kept_digit m b = capped (m * 10 + (b - 48))

abbrev pub figure_of : ℕ → ℕ → Figure
figure_of v k = record { value = v; at = k }

unfoldable pub figure_at : ℕ → Number → Option Figure
figure_at at n = pick (eqb n.used 0) None (Some (figure_of (capped n.value) (at + n.used)))

abbrev pub is_bare : Count → Bool
is_bare once = true
is_bare (times n) = false

abbrev pub a_tally : Bool → ℕ → ℕ → Tally
a_tally b n at = record { bare = b; count = n; at = at }

-- a count that is found, as the code keeps it
abbrev pub found : Count → ℕ → Tally
found c at = a_tally (is_bare c) (capped (number c)) at

unfoldable pub tally_at : ℕ → Counting → Option Tally
tally_at at none = None
tally_at at (some c k) = Some (found c (at + k))

abbrev pub a_leaf : own.Kind → ℕ → ℕ → ℕ → code.Leaf
a_leaf k n w at = record { kind = k; count = n; width = w; at = at }

abbrev pub leaf_in : Leaf → Option code.Leaf
leaf_in none = None
leaf_in (some c k w at) = Some (a_leaf (kind_in k) (capped (number c)) w at)

-- the readings of an item, said of its kind and its count as it is kept
abbrev pub figure : ℕ → List ℕ → Option Figure
figure at l = figure_at at (number_of (drop at l))

abbrev pub sized_by : own.Kind → ℕ → Figure → Option code.Leaf
sized_by k n d = pick (ltb d.value 1 || ltb 80 d.value) None (Some (a_leaf k n d.value d.at))

abbrev pub sized_leaf : own.Kind → ℕ → ℕ → List ℕ → Option code.Leaf
sized_leaf k n at l = option_and_then (sized_by k n) (figure at l)

abbrev pub decimals_by : code.Leaf → Figure → Option code.Leaf
decimals_by i d = pick (ltb i.width d.value) None (Some (a_leaf Real i.count i.width d.at))

abbrev pub decimals_leaf : code.Leaf → List ℕ → Option code.Leaf
decimals_leaf i l = pick (eqb (get_or l i.at 0) 46) (option_and_then (decimals_by i) (figure (i.at + 1) l)) None

unfoldable pub real_leaf : ℕ → ℕ → List ℕ → Option code.Leaf
real_leaf n at l = pick (eqb (get_or l at 0) 69 || eqb (get_or l at 0) 68) (option_and_then (λ (i : code.Leaf). decimals_leaf i l) (sized_leaf Real n (at + 1) l)) None

abbrev pub scaled_by : Option Tally → List ℕ → Option code.Leaf
scaled_by t l = option_and_then (λ (c : Tally). real_leaf c.count c.at l) t

abbrev pub scaled_leaf : ℕ → List ℕ → Option code.Leaf
scaled_leaf at l = scaled_by (tally_at at (count_of (drop at l))) l

unfoldable pub plain_leaf : Tally → List ℕ → Option code.Leaf
plain_leaf c l =
    pick (eqb (get_or l c.at 0) 88) (Some (a_leaf Skip c.count 1 (c.at + 1)))
    (pick (eqb (get_or l c.at 0) 73) (sized_leaf Integer c.count (c.at + 1) l)
    (pick (eqb (get_or l c.at 0) 65) (sized_leaf Text c.count (c.at + 1) l)
    (pick (eqb (get_or l c.at 0) 80) (pick c.bare None (pick (eqb c.count 1) (scaled_leaf (c.at + 1) l) None))
    (real_leaf c.count c.at l))))

abbrev pub a_measure : ℕ → ℕ → ℕ → ℕ → Measure
a_measure at d g n = record { at = at; depth = d; groups = g; columns = n }

unfoldable pub measured : Parsed → Option Measure
measured none = None
measured (some t at) = Some (a_measure at (min (depth t) 4) (min (groups t) 4) (capped (columns t)))

-- an item without brackets
abbrev pub measured_leaf : code.Leaf → Measure
measured_leaf p = a_measure p.at 0 0 (capped (p.count * p.width))

-- the groups of a group whose list lies so deep, a pair of brackets without a count not counted
abbrev pub group_depth : Bool → ℕ → ℕ
group_depth b d = pick b d (deeper d)

-- a group after its list
abbrev pub closed_measure : Tally → List ℕ → Measure → Option Measure
closed_measure c l m =
    pick (eqb (get_or l m.at 0) 41)
    (Some (a_measure (m.at + 1) (deeper m.depth) (group_depth c.bare m.depth) (capped (c.count * m.columns))))
    None

-- a list after its first item and comma
abbrev pub joined_measure : Measure → Measure → Measure
joined_measure i m = a_measure m.at (max i.depth m.depth) (max i.depth m.depth) (capped (i.columns + m.columns))
