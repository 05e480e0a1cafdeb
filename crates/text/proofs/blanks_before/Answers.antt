-- `text::blanks_before` meets its contract.
use Rattle.std.proofs.Common.{◌≡◌, ℕ, ◌≤◌, Bool, true, false, List, Some, None, not, eqb, ltb, cond, length, refl, sym, ◌∙◌, ltb-false, arith, rules, tests}
use Rattle.std.specs.Option.{unwrap_or}
use Rattle.std.specs.List.{position_or_len}
use Rattle.std.proofs.lemmas.Iterator.{YieldsList-from_slice}
use Rattle.std.proofs.lemmas.Iterator.Search.{position_from_yields_List}
use Rattle.text.specs.BlankLaws.{blanks_before_position, blanks_before_most}
use Rattle.text.proofs.blanks_before.Goals as goal

-- a place below m, or m where there is none
found : (n m : ℕ) (t : Bool) → ltb n m ≡ t → n ≤ m → unwrap_or (cond t (Some n) None) m ≡ n
found n m true e h = refl
found n m false e h = omega (arith, ltb-false n m e)

pub returns : goal.returns
returns c =
    let s : List ℕ = c.args.s.now in
    let n : ℕ = position_or_len (λ (b : ℕ). not (eqb b 32)) s in
    let first = position_from_yields_List (λ b. not (eqb b 32)) _ _ c.position.result c.position.ensures.ran (YieldsList-from_slice s cc) (λ x b q k. search (rules, tests)) in
    let same = blanks_before_position s in
    let most : n ≤ length s = omega (arith, same, blanks_before_most s) in
    c.unwrap_or.ensures ∙ rw first (found n (length s) (ltb n (length s)) refl most) ∙ sym same
