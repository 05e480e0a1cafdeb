-- The bytes left fall.
use Rattle.format.proofs.Fields.+lay_item_lay_list.Given as goal

abbrev pub decreases-lay_item : goal.decreases-lay_item
decreases-lay_item l = l.left

abbrev pub decreases-lay_list : goal.decreases-lay_list
decreases-lay_list l = l.left
