-- `format::Fields::again` meets its contract.
use Rattle.std.proofs.Common.{◌≡◌, ◌-◌}
use Rattle.format.specs.Row.{again_row}
use Rattle.format.proofs.Fields.again.Given as goal

-- from here on the fields that are left give what all of them give
abbrev pub invariant-loop-j : goal.invariant-loop-j
invariant-loop-j l = again_row (l.past - l.j) l.j l.self ≡ again_row (l.past - l.from) l.from l.initial.self
