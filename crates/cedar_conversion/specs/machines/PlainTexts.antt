-- Texts whose characters stand for themselves.
use Rattle.std.specs.Prelude.{ℕ, Bool, ◌&&◌, ◌==◌, not}
use Rattle.std.specs.Str.{byte}

-- a byte of a character that stands for itself wherever it is no part of an escape: any but those
-- that the case `plain` of `Piece` leaves out
abbrev pub stands_for_itself : ℕ → Bool
stands_for_itself c = not (c == byte "\"") && not (c == byte "\\") && not (c == 13)
