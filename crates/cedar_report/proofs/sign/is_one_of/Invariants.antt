use Rattle.std.proofs.Common.{◌≡◌, false, take}
use Rattle.std.specs.List.{list_any}
use Rattle.std.specs.Str.{bytes_eq}
use Rattle.cedar_report.proofs.sign.is_one_of.Given as goal

-- none so far is the word
abbrev pub invariant-loop-wanted : goal.invariant-loop-wanted
invariant-loop-wanted l =
    list_any (λ wanted. bytes_eq l.word wanted.now) (take l.wanted-index l.list) ≡ false
