-- `values::put_number` meets its contract.
use Rattle.std.proofs.Common.{refl, ap, ◌∙◌, length-set, arith}
use Rattle.reader.specs.Reader.{read_of}
use Rattle.values.specs.Fill.{pattern_or}
use Rattle.values.specs.FillLaws.{patterns_next}
use Rattle.values.proofs.put_number.Goals as goal

pub returns : goal.returns
returns c =
    let read = c.read_of-read.ensures ∙ ap read_of c.real_field.ensures ∙ c.columns_of.ensures.1 in
    record {
      long = simp length-set refl;
      same = λ count a b. patterns_next _ c.args.t.number count (omega arith) c.args.out.now (omega arith) 0 _ (c.pattern_or.ensures ∙ ap (pattern_or _) read);
    }
