use Rattle.std.proofs.Common.{ap, ◌∙◌}
use Rattle.stream.specs.Stream.{seen, end_reply}
use Rattle.stream.specs.StreamLaws.{seen_closed}
use Rattle.stream.specs.declared.Stream.{Stream}
use Rattle.stream_mut.proofs.end.Goals as goal

-- `stream_mut::end` meets its contract.
pub returns : goal.returns
returns c = (c.close.ensures, c.reply.ensures ∙ ap (λ (y : Stream). end_reply (seen y)) c.close.ensures ∙ ap end_reply (seen_closed c.args.c.now))
