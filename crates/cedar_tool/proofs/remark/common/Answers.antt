use Rattle.std.proofs.Common.{◌≡◌, length, min, sym, ◌∙◌, arith, rules}
use Rattle.cedar_tool.proofs.Parting.{ended}
use Rattle.cedar_tool.proofs.remark.common.Goals as goal

pub returns : goal.returns
returns c =
    let l = c.loop-index in
    let xs = c.args.text.now in
    let ys = c.args.other.now in
    let last : l.index ≡ c.min-shorter.result = first_of (omega arith, search rules) in
    let short : c.min-shorter.result ≡ min (length xs) (length ys) = first_of (search rules, omega arith) in
    sym last ∙ ended xs ys l.index _ (last ∙ short) l.invariant
