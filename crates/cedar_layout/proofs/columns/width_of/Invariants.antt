-- The characters of the bytes read, and those of the bytes that are left.
use Rattle.std.proofs.Common.{◌≡◌, ◌+◌, ◌≤◌, drop}
use Rattle.cedar_layout.specs.Columns.{width_of}
use Rattle.cedar_layout.proofs.columns.width_of.Given as goal

abbrev pub invariant-loop-byte : goal.invariant-loop-byte
invariant-loop-byte l = (l.count + width_of (drop l.byte-index l.text) ≡ width_of l.text) × (l.count ≤ l.byte-index)
