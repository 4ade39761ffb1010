-- No line ends with a space, a tab, a vertical tab or a form feed, but within a word. Other white
-- space of Unicode, as at a comment's end, isn't asked about.
use Rattle.std.specs.Prelude.{ℕ, Bool, true, false, not, ◌&&◌, ◌==◌, IsTrue, List, [], ◌∷◌, drop, slice_range}
use Rattle.cedar_lexer.specs.Token.{Lexeme}
use Rattle.cedar_layout.specs.Pieces.{is_blank_byte}

-- no line feed of these bytes stands straight behind a blank one, where one stands before them or
-- not
abbrev pub ends_cleanly : Bool → List ℕ → Bool
ends_cleanly blank [] = true
ends_cleanly blank (b ∷ bs) = not (blank && b == 10) && ends_cleanly (is_blank_byte b) bs

-- so it is of what stands before each of these tokens and behind the last
abbrev pub EndCleanly : List ℕ → ℕ → List Lexeme → Type 0
EndCleanly source place [] = IsTrue (ends_cleanly false (drop place source))
EndCleanly source place (t ∷ ts) =
    IsTrue (ends_cleanly false (slice_range source place t.start)) × EndCleanly source t.end ts
