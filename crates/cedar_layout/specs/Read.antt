-- The pieces that the program holds, with their texts read.
use Rattle.std.specs.Prelude.{ℕ, List, [], ◌∷◌}
use Rattle.cedar_lexer.specs.Token.{Lexeme}
use Rattle.cedar_lexer.specs.Cut.{StopsAt}
use Rattle.cedar_layout.specs.declared.reading.LayoutError.{LayoutError}
use Rattle.cedar_layout.specs.declared.reading.LayoutError.TheVariants.{InvalidToken, Memory}
use Rattle.cedar_layout.specs.Pieces as spec
use Rattle.cedar_layout.specs.Laid as laid
use Rattle.cedar_layout.specs.declared.standing.Standing.{Standing}
use Rattle.cedar_layout.specs.declared.standing.Standing.TheVariants as standing
use Rattle.cedar_layout.specs.declared.writing.Last.{Last}
use Rattle.cedar_layout.specs.declared.writing.Last.TheVariants as last
use Rattle.cedar_layout.specs.declared.pieces.Item.{Item}
use Rattle.cedar_layout.specs.declared.pieces.Item.TheVariants.{Word, Beside, Below}
use Rattle.cedar_layout.specs.declared.pieces.SpacedItem.{SpacedItem}

abbrev pub item_now : Item → spec.Item
item_now (Word kind text) = spec.word (record { kind = kind; text = text.now })
item_now (Beside text) = spec.beside text.now
item_now (Below text) = spec.below text.now

abbrev pub piece_now : SpacedItem → spec.SpacedItem
piece_now p = record { blank = p.blank; item = item_now p.item }

abbrev pub pieces_now : List SpacedItem → List spec.SpacedItem
pieces_now [] = []
pieces_now (p ∷ ps) = piece_now p ∷ pieces_now ps

abbrev pub items_now : List SpacedItem → List spec.Item
items_now [] = []
items_now (p ∷ ps) = item_now p.item ∷ items_now ps

-- what stood before, as the program holds it
abbrev pub last_now : Last → laid.Before
last_now last.Start = laid.start
last_now (last.Word kind) = laid.behind_word kind
last_now last.Comment = laid.behind_comment

-- a place in a gap, as the program holds it
abbrev pub standing_now : Standing → spec.Standing
standing_now standing.Inside = spec.inside
standing_now (standing.Outside near feeds) = spec.outside near feeds

-- a text that isn't read for want of memory, or that stops at this place
abbrev pub IsNotRead : List ℕ → LayoutError → Type 0
IsNotRead source (InvalidToken bad) = (ts : List Lexeme) × StopsAt source ts bad.location
IsNotRead source (Memory error) = Unit {0}
