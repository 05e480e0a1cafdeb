-- `decimal::put_coefficient` meets its contract.
use Prim.Native.Nat.{◌*◌, ◌^◌}
use borrow.Author.Rules.{rules}
use lib.ListN.{length-set}
use Rattle.decimal.specs.PutLaws.{coefficient_laid}
use Rattle.decimal.proofs.put_coefficient.Goals as goal

pub bounds-out-1-2 : goal.bounds-out-1-2
bounds-out-1-2 c = simp length-set (search rules)

pub returns : goal.returns
returns c = coefficient_laid c.args.out.now c.put_digits.new.out (c.args.number * 10 ^ c.args.zeros) c.requires c.put_digits.ensures
