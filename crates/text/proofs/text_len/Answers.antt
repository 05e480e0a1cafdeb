-- `text::text_len` meets its contract.
use Rattle.std.proofs.Common.{◌≡◌, ◌+◌, ◌∙◌, sym, rules}
use Rattle.std.specs.Option.{option_map_or}
use Rattle.std.proofs.iter.runs.Made.{chains}
use Rattle.text.proofs.TextLaws.{Last, trimmed_length}
use Rattle.text.proofs.text_len.Goals as goal

pub returns : goal.returns
returns c =
    let last : Last c.args.s.now c.rposition.result = search (rules, chains) in
    let past : c.map_or.result ≡ option_map_or (λ i. i + 1) c.rposition.result 0 = search rules in
    past ∙ sym (trimmed_length _ _ last)
