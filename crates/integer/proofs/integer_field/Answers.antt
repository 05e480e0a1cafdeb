-- `integer_field`: the bytes past the blanks give what all the bytes give.
use Rattle.std.proofs.Common.{◌≡◌, ℕ, ◌-◌, List, length, take, drop, refl, sym, ap, ◌∙◌, arith, rules}
use Rattle.std.specs.List.{fold}
use Rattle.std.proofs.lemmas.Iterator.{YieldsList-from_slice}
use Rattle.std.proofs.lemmas.Iterator.Consumers.{fold_from_yields_List}
use Rattle.text.specs.Parts.{is_digit}
use Rattle.text.specs.Blank.{blanks_before}
use Rattle.text.specs.BlankLaws.{run_past_blanks, blanks_before_most}
use Rattle.laws.specs.CutLaws.{tail_part}
use Rattle.laws.specs.RunLaws.{run_fold}
use Rattle.integer.specs.Integer.{start, step_integer, end_integer, integer_of}
use Rattle.integer.proofs.integer_field.Goals as goal

pub slice_bounds-rest-count : goal.slice_bounds-rest-count
slice_bounds-rest-count c = omega (arith, c.blanks_before.ensures, blanks_before_most c.args.s.now)

pub slice_bounds-rest-start : goal.slice_bounds-rest-start
slice_bounds-rest-start c = omega (arith, c.blanks_before.ensures, blanks_before_most c.args.s.now)

pub returns : goal.returns
unfolding integer_of is_digit step_integer
returns c =
    let s : List ℕ = c.args.s.now in
    let n : ℕ = c.blanks_before.result in
    let folded =
    fold_from_yields_List _ step_integer start c.fold.result c.fold.ensures.ran
    (YieldsList-from_slice (take (length s - n) (drop n s)) cc)
    (λ a x b q k. search rules) in
    let rest : fold step_integer start (take (length s - n) (drop n s)) ≡ fold step_integer start (drop (blanks_before s) s) = rw (tail_part s n, c.blanks_before.ensures) refl in
    c.finish.ensures
    ∙ ap end_integer (folded ∙ rest ∙ sym (run_fold step_integer start (drop (blanks_before s) s)) ∙ run_past_blanks step_integer start refl s)
