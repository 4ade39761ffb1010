use Rattle.std.proofs.Common.{◌≡◌, ◌≤◌, true, length, drop}
use Rattle.std.specs.List.{list_all}
use Rattle.std.specs.Char.{is_ascii_digit}
use Rattle.cedar_policy_store.proofs.id_order.word_length.Given as goal

abbrev pub invariant-loop-length : goal.invariant-loop-length
invariant-loop-length l = (l.length ≤ length l.fn.text) × (list_all is_ascii_digit (drop l.length l.fn.text) ≡ true)

abbrev pub decreases-loop-length : goal.decreases-loop-length
decreases-loop-length l = l.length
