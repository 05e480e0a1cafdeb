-- `real::scan_field` meets its contract.
use Rattle.std.proofs.Common.{rules, List, ℕ, ◌≡◌, fold, drop, length, take_all, length-drop, sym, ap, ◌∙◌, arith}
use Rattle.std.proofs.lemmas.Iterator.{YieldsList-from_slice}
use Rattle.std.proofs.lemmas.Iterator.Consumers.{fold_from_yields_List}
use Rattle.text.specs.BlankLaws.{run_past_blanks, blanks_before_most}
use Rattle.real.specs.Real.{start, scan_step, real_end, real_of}
use Rattle.real.specs.Plain.{between}
use Rattle.real.specs.StepLaws.{blank_passed}
use Rattle.laws.specs.Run.{run}
use Rattle.laws.specs.RunLaws.{run_fold}
use Rattle.real.proofs.scan_field.Goals as goal

pub slice_bounds-iter-count : goal.slice_bounds-iter-count
slice_bounds-iter-count c = omega (arith, c.blanks_before-from.ensures, blanks_before_most c.args.s.now)

pub slice_bounds-iter-start : goal.slice_bounds-iter-start
slice_bounds-iter-start c = omega (arith, c.blanks_before-from.ensures, blanks_before_most c.args.s.now)

pub returns : goal.returns
unfolding real_of
returns c =
    let blanks = c.blanks_before-from.ensures in
    let left : List ℕ = drop c.blanks_before-from.result c.args.s.now in
    let rest : between c.blanks_before-from.result (length c.args.s.now) c.args.s.now ≡ left = take_all _ _ (simp length-drop (omega arith)) in
    let st : c.fold.result ≡ fold scan_step start left =
    fold_from_yields_List _ scan_step start _ c.fold.ensures.ran (YieldsList-from_slice left (c.iter.ensures.rest ∙ rest)) (λ a x b q k. search rules) in
    let past : run scan_step start left ≡ run scan_step start c.args.s.now = rw blanks (run_past_blanks scan_step start blank_passed _) in
    c.finish.ensures ∙ ap real_end (st ∙ sym (run_fold scan_step start left) ∙ past)
