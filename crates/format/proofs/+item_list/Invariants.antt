-- The bytes left fall.
use Rattle.format.proofs.+item_list.Given as goal

abbrev pub decreases-item : goal.decreases-item
decreases-item l = l.left

abbrev pub decreases-list : goal.decreases-list
decreases-list l = l.left
