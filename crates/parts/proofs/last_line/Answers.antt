use mathlib.Core.Path.{◌≡◌, refl}
use mathlib.Core.List.{List}
use Prim.Native.Nat.{ℕ, ◌<◌, ◌-◌}
use lib.ListN.{length, get_or, take, drop}
use native.Mathlib.Omega.{arith}
use Rattle.std.proofs.Common.{rules}
use Rattle.std.proofs.iter.runs.Made.{chains}
use Rattle.parts.specs.MarkLaws.{last_found, last_none}
use Rattle.parts.proofs.last_line.Goals as goal

pub returns-then-closing-from : goal.returns-then-closing-from
returns-then-closing-from c =
    record {
      onward = search rules;
      before = λ h. omega arith;
      none = λ h. refl;
      starts = λ h. absurd (omega arith);
      whole = λ k a b e. omega arith;
    }

pub returns-in-Some : goal.returns-in-Some
returns-in-Some c =
    let k : ℕ = c.in-Some.k in
    let s : List ℕ = take (c.args.closing - 1 - c.args.from) (drop c.args.from c.args.file.now) in
    let inside : k < length s = search (rules, chains) in
    let here : get_or s k 0 ≡ 10 = search (rules, chains) in
    let after : (j : ℕ) → k < j → j < length s → get_or s j 0 ≡ 10 → ⊥ = λ j a b. search (rules, chains) in
    last_found c.args.file.now c.args.from c.args.closing c.if-closing-from.false c.requires.1 k inside here after

pub returns-in-None : goal.returns-in-None
returns-in-None c =
    let s : List ℕ = take (c.args.closing - 1 - c.args.from) (drop c.args.from c.args.file.now) in
    let none : (j : ℕ) → j < length s → get_or s j 0 ≡ 10 → ⊥ = λ j a. search (rules, chains) in
    last_none c.args.file.now c.args.from c.args.closing c.if-closing-from.false c.requires.1 none
