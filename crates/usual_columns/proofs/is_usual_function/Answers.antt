-- `usual_columns::is_usual_function` meets its contract.
use Rattle.std.proofs.Common.{◌&&◌, refl}
use Prim.{tt}
use Rattle.codes.specs.Form.{form_of, forms}
use Rattle.laws.specs.ChoiceLaws.{and_left, and_right, false_not_true}
use Rattle.usual_columns.specs.Parts.{function_parts, parts_cells, record_cells, Asked}
use Rattle.usual_columns.specs.PartsLaws.{usual_passes, function_usual}
use Rattle.usual_columns.proofs.is_usual_function.Goals as goal

pub returns-then-passes : goal.returns-then-passes
unfolding function_parts parts_cells record_cells Asked form_of forms
returns-then-passes c h =
    let line = c.args.line.now in
    let a = c.asks.result in
    let b = c.asks-then-passes.result in
    let d = c.asks-then-passes-2.result in
    let e = c.asks-then-passes-3.result in
    let first = and_left (a && b) (d && e) h in
    let second = and_right (a && b) (d && e) h in
    let version = c.asks.ensures (and_left a b first) in
    let load = c.asks-then-passes.ensures (and_right a b first) in
    let response = c.asks-then-passes-2.ensures (and_left d e second) in
    let reference = c.asks-then-passes-3.ensures (and_right d e second) in
    usual_passes function_parts line function_usual refl refl refl c.passes-arg-1.given (c.passes.ensures c.if-passes.true)
    (tt, (version, (tt, (load, (tt, (tt, (response, (tt, (tt, (tt, (reference, (tt, tt))))))))))))

pub returns : goal.returns
returns c h = false_not_true h
