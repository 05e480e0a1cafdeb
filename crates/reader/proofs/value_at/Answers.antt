-- `reader::value_at` meets its contract.
use mathlib.Core.Path.{◌∙◌}
use Prim.Native.Nat.{◌≤◌, ◌*◌}
use Rattle.reader.specs.ReaderLaws.{start_most, value_one, value_two, value_three}
use borrow.Author.Rules.{rules}
use Rattle.reader.proofs.value_at.Goals as goal

pub overflow_mul-j : goal.overflow_mul-j
overflow_mul-j c = let h : c.args.i * c.numbers_of-k.result ≤ c.args.i * 3 = start_most _ _ _ (search rules) c.numbers_of-k.ensures in search rules

pub read_at-a-requires : goal.read_at-a-requires
read_at-a-requires c = let h : c.args.i * c.numbers_of-k.result ≤ c.args.i * 3 = start_most _ _ _ (search rules) c.numbers_of-k.ensures in search rules

pub returns-then-k-eq1 : goal.returns-then-k-eq1
returns-then-k-eq1 c = c.one.ensures ∙ value_one _ _ _ (search rules) _ c.numbers_of-k.ensures _ c.if-k-eq1.true c.read_at-a.ensures

pub overflow_add-j : goal.overflow_add-j
overflow_add-j c = let h : c.args.i * c.numbers_of-k.result ≤ c.args.i * 3 = start_most _ _ _ (search rules) c.numbers_of-k.ensures in search rules

pub read_at-b-requires : goal.read_at-b-requires
read_at-b-requires c = let h : c.args.i * c.numbers_of-k.result ≤ c.args.i * 3 = start_most _ _ _ (search rules) c.numbers_of-k.ensures in search rules

pub returns-then-k-eq2 : goal.returns-then-k-eq2
returns-then-k-eq2 c =
    let numbers = c.numbers_of-k.ensures in
    let first = c.read_at-a.ensures in
    let second = c.read_at-b.ensures in
    c.two.ensures ∙ value_two _ _ _ (search rules) _ numbers _ _ c.if-k-eq1.false c.if-k-eq2.true first second

pub overflow_add-j-2 : goal.overflow_add-j-2
overflow_add-j-2 c = let h : c.args.i * c.numbers_of-k.result ≤ c.args.i * 3 = start_most _ _ _ (search rules) c.numbers_of-k.ensures in search rules

pub read_at-requires : goal.read_at-requires
read_at-requires c = let h : c.args.i * c.numbers_of-k.result ≤ c.args.i * 3 = start_most _ _ _ (search rules) c.numbers_of-k.ensures in search rules

pub returns : goal.returns
returns c =
    let numbers = c.numbers_of-k.ensures in
    let first = c.read_at-a.ensures in
    let second = c.read_at-b.ensures in
    let third = c.read_at.ensures in
    c.three.ensures ∙ value_three _ _ _ (search rules) _ numbers _ _ _ c.if-k-eq1.false c.if-k-eq2.false first second third
