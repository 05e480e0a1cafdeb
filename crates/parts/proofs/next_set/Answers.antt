-- `parts::next_set` meets its contract.
use Rattle.std.proofs.Common.{sym, ◌∙◌}
use native.Mathlib.Omega.{arith}
use Rattle.parts.specs.FirstLaws.{fits, closing_fits, never_opened, never_numbered, never_closed, set_found}
use Rattle.parts.proofs.next_set.Goals as goal

pub returns-in_err-opening : goal.returns-in_err-opening
returns-in_err-opening c =
    let none = sym c.in_err-opening.was ∙ c.find_delimiter.ensures in
    c.from_residual.ensures ∙ never_opened _ _ _ c.requires.0 c.requires.1 none

pub returns-then-file-end : goal.returns-then-file-end
returns-then-file-end c =
    let opens = sym c.in_ok-opening.was ∙ c.find_delimiter.ensures in
    never_numbered _ _ _ c.requires.0 c.requires.1 _ opens _ c.find_end-end.ensures c.if-file-end.true

pub overflow_add-opening : goal.overflow_add-opening
overflow_add-opening c =
    let opens = sym c.in_ok-opening.was ∙ c.find_delimiter.ensures in
    let f = fits _ _ _ c.requires.0 c.requires.1 _ opens in
    omega (arith, f.lines, f.later, f.within, c.if-file-end.false)

pub find_delimiter-requires-2 : goal.find_delimiter-requires-2
find_delimiter-requires-2 c =
    let opens = sym c.in_ok-opening.was ∙ c.find_delimiter.ensures in
    let f = fits _ _ _ c.requires.0 c.requires.1 _ opens in
    (omega (arith, c.if-file-end.false), omega (arith, f.lines, f.later, c.find_end-end.ensures))

pub returns-in_err-closing : goal.returns-in_err-closing
returns-in_err-closing c =
    let opens = sym c.in_ok-opening.was ∙ c.find_delimiter.ensures in
    let none = sym c.in_err-closing.was ∙ c.find_delimiter-2.ensures in
    c.from_residual-in_err-closing.ensures
    ∙ never_closed _ _ _ c.requires.0 c.requires.1 _ opens _ c.find_end-end.ensures c.if-file-end.false none

pub last_line-requires : goal.last_line-requires
last_line-requires c =
    let opens = sym c.in_ok-opening.was ∙ c.find_delimiter.ensures in
    let closes = sym c.in_ok-closing.was ∙ c.find_delimiter-2.ensures in
    let g = closing_fits _ _ _ c.requires.0 c.requires.1 _ opens _ c.find_end-end.ensures c.if-file-end.false _ closes in
    (g.onward, omega (arith, g.later, g.within))

pub overflow_add-result : goal.overflow_add-result
overflow_add-result c =
    let opens = sym c.in_ok-opening.was ∙ c.find_delimiter.ensures in
    let closes = sym c.in_ok-closing.was ∙ c.find_delimiter-2.ensures in
    let g = closing_fits _ _ _ c.requires.0 c.requires.1 _ opens _ c.find_end-end.ensures c.if-file-end.false _ closes in
    omega (arith, g.lines, g.later, g.within)

pub returns : goal.returns
returns c =
    let opens = sym c.in_ok-opening.was ∙ c.find_delimiter.ensures in
    let closes = sym c.in_ok-closing.was ∙ c.find_delimiter-2.ensures in
    set_found _ _ _ c.requires.0 c.requires.1 _ opens _ c.find_end-end.ensures c.if-file-end.false
    _ closes _ c.last_line.ensures _ c.line_number.ensures
