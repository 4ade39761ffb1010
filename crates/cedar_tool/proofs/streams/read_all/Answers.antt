use Rattle.std.proofs.Common.{rules}
use Rattle.cedar_tool.proofs.Bytes.{whole}
use Rattle.cedar_tool.proofs.streams.read_all.Goals as goal

pub returns : goal.returns
returns g c =
    whole g.R.Read.remaining c.args.reader c.take-limited.result.inner c.take-limited.result.limit 268435456 c.new-bytes.result.items _ c.in_ok-read_to_end.ensures.bytes (search rules) (search rules) (search rules)
    (search rules)
