-- `decimal::put_parts` meets its contract.
use mathlib.Core.Path.{◌∙◌, ap}
use Prim.Native.Nat.{◌*◌, ◌^◌}
use mir.Syntax.{w64}
use mir.ValLaws.{to_z-of_z}
use Rattle.decimal.specs.Decimal.{exponent_text}
use Rattle.decimal.specs.PutLaws.{lead_room, lead_some, parts_laid}
use Rattle.decimal.proofs.put_parts.Goals as goal

pub slice_bounds-put_lead-end-2 : goal.slice_bounds-put_lead-end-2
slice_bounds-put_lead-end-2 c = lead_room c.args.out.now c.args.decimals c.requires

pub put_lead-requires : goal.put_lead-requires
put_lead-requires c = lead_some c.args.out.now c.args.decimals c.requires

pub returns : goal.returns
returns c =
    let args = c.args in
    let lead = c.put_lead in
    let coefficient = c.put_coefficient in
    let exponent = c.put_exponent in
    let laid = parts_laid args.out.now args.decimals c.requires lead.new.out coefficient.new.out exponent.new.out in
    let shown = exponent.ensures ∙ ap exponent_text (to_z-of_z w64 args.x c.ranges.x) in
    laid (args.number * 10 ^ args.zeros) args.minus args.x lead.ensures coefficient.ensures shown
