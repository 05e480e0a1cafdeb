-- `edges::show_text` is safe and ends: a text's length is at most its columns'.
use Rattle.std.proofs.Common.{ap, sym, length}
use Rattle.text.proofs.TextLaws.{trimmed_take}
use Rattle.edges.proofs.show_text.Goals as goal

pub slice_bounds-write_all-end : goal.slice_bounds-write_all-end
slice_bounds-write_all-end g c = rw c.text_len-n.ensures (sym (ap length (trimmed_take _)))
