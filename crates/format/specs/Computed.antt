-- A reading as it is computed: to open this name is to open every definition that it computes with.
use Rattle.std.specs.Prelude.{List, ℕ}
use Rattle.laws.specs.Run.{run}
use Rattle.text.specs.Parts.{is_digit}
use Rattle.format.specs.Format.{repeated, fields_for, fields_of, columns, depth, groups, unblanked}
use Rattle.format.specs.Reading.{Leaf, Parsed, Reading, digits_before, with_digit, number_in, number_of, count_of, width_of, decimals_of, pointed, real_of, scaled_of, is_one, leaf_of, leaf, closed, joined, item_after, list_after, item_of, list_of, fitting, whole_of, packed_reading, reading_of}

unfoldable computed_leaf : List ℕ → Leaf
unfolding run is_digit digits_before with_digit number_in number_of count_of width_of decimals_of pointed real_of scaled_of is_one leaf_of
computed_leaf l = scaled_of (count_of l) 0 l

unfoldable computed_list : ℕ → List ℕ → Parsed
unfolding computed_leaf leaf closed joined item_after list_after item_of
computed_list n l = list_of n l 0

unfoldable pub computed_reading : List ℕ → Reading
unfolding computed_list repeated fields_for fields_of columns depth groups unblanked fitting whole_of packed_reading reading_of
computed_reading l = reading_of l
