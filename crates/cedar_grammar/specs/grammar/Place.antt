-- Where tokens and trees stand: from the first byte of the first token to the end of the last.
use Rattle.std.specs.Prelude.{ℕ, ◌-◌, List, [], ◌∷◌, Option, Some, None}
use Rattle.cedar_lexer.specs.Token.{Lexeme}
use Rattle.cedar_syntax.specs.declared.loc.Loc.{Loc}
use Rattle.cedar_syntax.specs.declared.node.Node.{Node}
use Rattle.cedar_grammar.specs.declared.reading.extent.Extent.{Extent}

-- from the start of the first to the end of the second
abbrev pub joint_extent : Option Extent → Option Extent → Option Extent
joint_extent None b = b
joint_extent (Some a) None = Some a
joint_extent (Some a) (Some b) = Some record { start = a.start; end = b.end }

abbrev pub extent_of : Lexeme → Extent
extent_of t = record { start = t.start; end = t.end }

-- from the start of the first token to the end of the last
abbrev pub extent : List Lexeme → Option Extent
extent [] = None
extent (t ∷ ts) = joint_extent (Some (extent_of t)) (extent ts)

-- a range of bytes of the source, which each place carries whole
abbrev pub loc_at : List ℕ → Option Extent → Option Loc
loc_at src None = None
loc_at src (Some e) = Some record {
  span = record { offset = e.start; len = e.end - e.start };
  src = src;
}

-- a tree as a node, at the bytes of the source that it takes
abbrev pub node_at : {T : Type 0} → List ℕ → Option Extent → T → Node (Option T)
node_at src e x = record { node = Some x; loc = loc_at src e }

-- a tree as a node, at the place of its tokens
abbrev pub placed : {T : Type 0} → List ℕ → List Lexeme → T → Node (Option T)
placed src ts x = node_at src (extent ts) x

-- and at 0..0 where there are none
abbrev pub placed_or_start : {T : Type 0} → List ℕ → List Lexeme → T → Node (Option T)
placed_or_start src [] x = node_at src (Some record { start = 0; end = 0 }) x
placed_or_start src (t ∷ ts) x = placed src (t ∷ ts) x
