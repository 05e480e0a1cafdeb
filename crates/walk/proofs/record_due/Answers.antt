-- `walk::record_due` meets its contract.
use Rattle.std.proofs.Common.{arith}
use Rattle.std.proofs.lemmas.Grind.{common_steps}
use Rattle.std.proofs.lemmas.Option.{gets}
use mathlib.Core.Path.{refl, sym, ◌∙◌}
use Prim.{tt}
use Rattle.std.specs.Prelude.{◌≡◌, slice_get}
use Rattle.record_table.specs.TypedSets.{sequence, typed_sets, untyped}
use Rattle.record_table.specs.Tabled.{Differs}
use Rattle.record_table.specs.TabledLaws.{past}
use Rattle.record_table.proofs.TypedSetsLaws.{sequence_past}
use Rattle.walk.specs.DueLaws.{due_record_found}
use Rattle.walk.proofs.record_due.Goals.{in-0, in-1, in-2, in-3, in-4, in_default}
use Rattle.walk.proofs.record_due.Goals as goal

pub returns : goal.returns
unfolding sequence typed_sets Differs
returns c =
    let found : c.map.result ≡ slice_get c.match-d.records.now c.args.d.at = grind (arith, common_steps, gets) in
    let set : c.match-d.records.now ≡ sequence c.args.d.kind =
    elim c.match-d.branch [
      | in-0 w ↦ rw (w.records-is, w.in-0.is) refl
      | in-1 w ↦ rw (w.records-is, w.in-1.is) refl
      | in-2 w ↦ rw (w.records-is, w.in-2.is) refl
      | in-3 w ↦ rw (w.records-is, w.in-3.is) refl
      | in-4 w ↦ rw (w.records-is, w.in-4.is) refl
      | in_default w ↦ rw w.records-is (sym (sequence_past _ (past untyped _ (((((tt, λ e. omega arith), λ e. omega arith), λ e. omega arith), λ e. omega arith), λ e. omega arith))))
    ]
    in
    found ∙ rw set (due_record_found c.args.d)
