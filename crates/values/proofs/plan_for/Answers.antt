-- `values::plan_for` meets its contract.
use Rattle.std.proofs.Common.{Option, Some, None, IfSome, refl, sym, length-take-le, arith}
use Rattle.record.specs.ConditionLaws.{data_six}
use Rattle.usual_columns.specs.WidthsLaws.{six_widths, fields_six}
use Rattle.values.proofs.plan_for.Goals as goal

both : {X : Type 0} (P Q : X → Type 0) (o : Option X) → IfSome o P → IfSome o Q → IfSome o (λ x. P x × Q x)
both P Q (Some x) p q = (p, q)
both P Q None p q = tt

pub slice_bounds-widths-end : goal.slice_bounds-widths-end
slice_bounds-widths-end c = omega (arith, c.fields_of-fields.ensures, fields_six c.args.d.case, data_six _ _ c.line_widths-widths.ensures)

pub slice_bounds-line_tables-end : goal.slice_bounds-line_tables-end
slice_bounds-line_tables-end c =
    sym (length-take-le _ _ (omega (arith, c.fields_of-fields.ensures, data_six _ _ c.line_widths-widths.ensures, fields_six c.args.d.case)))

pub line_tables-usual-requires : goal.line_tables-usual-requires
line_tables-usual-requires c =
    let case = c.requires.1 in
    (case, (c.first_spot-first.ensures.1, rw c.fields_of-fields.ensures (six_widths _ _ case c.line_widths-widths.ensures)))

pub returns : goal.returns
returns c =
    let first = c.first_spot-first.ensures in (
      (refl, refl),
      (
        record {
          body = c.requires.0;
          eight = c.requires.1;
          fields_are = c.fields_of-fields.ensures;
          widths_are = c.line_widths-widths.ensures;
          laid = both _ _ _ c.line_tables-usual.ensures c.powers_for.ensures;
        },
        record { spot_is = first.0; inside = first.1 },
      ),
    )
