-- `record::check_condition` meets its contract.
use Rattle.line.specs.LineLaws.{ok_passed}
use Rattle.record.specs.ConditionLaws.{condition_fault_none}
use Rattle.record.proofs.check_condition.Goals as goal

pub returns : goal.returns
returns c = ok_passed (condition_fault_none _ _ c.if-row-eq-DATA_FORM.false c.if-row-eq-FACTORS.false)
