use Rattle.std.proofs.Common.{List, ℕ, [], string_bytes, refl, subst}
use Rattle.cedar_tool.specs.Listed.{numbered_data, AreJsonLines}
use Rattle.cedar_tool.proofs.Bytes.{unchanged}
use Rattle.cedar_tool.proofs.Listing.{listed_more}
use Rattle.cedar_tool.proofs.list.list_set.Goals as goal

pub loop-number-init : goal.loop-number-init
loop-number-init g c = (([], AreJsonLines.none, unchanged _), refl)

pub loop-number-preserved : goal.loop-number-preserved
loop-number-preserved g c =
    let name = c.args.source.now.name.now in
    let text = c.args.source.now.text.now in
    let set = c.args.set.now in
    let n = c.loop-number.number in
    let Q : List ℕ → Type 0 = λ t. AreJsonLines (numbered_data name t set n) (string_bytes c.in_ok-line.line) in
    (listed_more name text set n _ _ _ _ c.loop-number.invariant.0 (subst Q c.in_ok-lines.ensures c.in_ok-line.ensures) c.in_ok-write.ensures.written, c.loop-number.invariant.1)
