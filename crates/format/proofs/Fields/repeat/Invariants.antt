-- `format::Fields::repeat` meets its contract.
use Rattle.std.proofs.Common.{◌≡◌, ◌-◌}
use Rattle.format.specs.Row.{repeat_row}
use Rattle.format.proofs.Fields.repeat.Given as goal

-- the rounds that are left give what all of them give
abbrev pub invariant-loop : goal.invariant-loop
invariant-loop l = repeat_row (l.times - l.counter) l.from l.past l.self ≡ repeat_row (l.times - 1) l.from l.past l.initial.self
