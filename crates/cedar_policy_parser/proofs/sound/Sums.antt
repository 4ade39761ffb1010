-- Sums and relations, of what their parts give, and one more operand.
use Rattle.std.proofs.Common.{◌≡◌, inl, inr, List, [], ◌∷◌, ◌++◌, map, Option, Ok, Err, refl, sym, ap, ◌∙◌}
use Rattle.cedar_lexer.specs.Token.{Lexeme}
use Rattle.cedar_lexer.specs.declared.token.TokenKind.{TokenKind}
use Rattle.cedar_lexer.specs.declared.token.TokenKind.TheVariants as kind
use Rattle.cedar_expressions.specs.declared.operators.AddOp.{AddOp}
use Rattle.cedar_expressions.specs.Value as v
use Rattle.cedar_expressions.specs.Value.{Value, values, terms}
use Rattle.cedar_syntax.specs.declared.loc.Loc.{Loc}
use Rattle.cedar_syntax.specs.declared.cst.RelOp.{RelOp}
use Rattle.cedar_syntax.specs.declared.cst.MultOp.{MultOp}
use Rattle.cedar_syntax.specs.trees.Forms.{parts_of}
use Rattle.cedar_syntax.specs.trees.Located.{Located, Parts}
use Rattle.cedar_syntax.specs.trees.Tree.{Operator, compare, add, multiply, relation, sum}
use Rattle.cedar_grammar.specs.grammar.LooseExpressions as l
use Rattle.cedar_grammar.specs.grammar.LooseExpressions.{ReadsRelOp, ReadsAddOp, ReadsMultOp}
use Rattle.cedar_syntax.specs.tokens.Tokens.{Spot, one}
use Rattle.cedar_conversion.specs.outcome.Conversion.{Part, value_outcome, operands, chain_outcome, comparison_outcome, relation_outcome, factor, sum_terms}
use Rattle.cedar_conversion.specs.strict.Extensions.{Extensions}
use Rattle.cedar_conversion.specs.outcome.Held.{Held, expression, as_expression}
use Rattle.cedar_conversion.specs.outcome.Outcome.{Outcome, next}
use Rattle.cedar_conversion.specs.strict.Strict as m
use Rattle.cedar_conversion.specs.strict.Strict.{Sort, Joined, Added, Relates}
use Rattle.cedar_conversion.proofs.Inverted.{ok_is, more_ok, one_operator}
use Rattle.cedar_policy_parser.proofs.Lists.{no_snoc, snoc_one, added-snoc, length-added}
use Rattle.cedar_conversion.proofs.Loops.{map_snoc}
use Rattle.cedar_conversion.proofs.Outcomes.{operand, operands_snoc, settled}
use Rattle.cedar_policy_parser.proofs.sound.Bare.{Meant, HeldAs, held_means, held_up}
use Rattle.cedar_policy_parser.proofs.sound.Leaves.{held_as}
use Rattle.cedar_policy_parser.proofs.sound.Levels.{AddedAs, chain_held}

-- ---- sums

abbrev pub Summed : Extensions → List Lexeme → Held → List Part → Type 0
Summed e ts h [] = HeldAs e m.product ts h
Summed e ts h (q ∷ qs) = (a : Value) → as_expression h ≡ Ok a → AddedAs e ts a (sum_terms (q ∷ qs))

summed_added : (e : Extensions) (ts : List Lexeme) (h : Held) (ps : List Part) (a : Value) → Summed e ts h ps → as_expression h ≡ Ok a → AddedAs e ts a (sum_terms ps)
summed_added e ts h [] a i g = m.one_term (held_means e m.product h a i g)
summed_added e ts h (q ∷ qs) a i g = i a g

some_summed : (e : Extensions) (ts : List Lexeme) (h : Held) (qs ps : List Part) (p : Part) → ps ≡ qs ++ p ∷ [] → ((a : Value) → as_expression h ≡ Ok a → AddedAs e ts a (sum_terms ps)) → Summed e ts h ps
some_summed e ts h qs [] p f j = absurd (no_snoc qs p (sym f))
some_summed e ts h qs (r ∷ rs) p f j = j

added_more : {e : Extensions} {ts us : List Lexeme} {a : Value} {k : TokenKind} (op : AddOp) (qs ps : List Part) (b : Value) (p : Spot) → ps ≡ qs ++ (add op, b) ∷ []
    → AddedAs e ts a (sum_terms qs) → ReadsAddOp k op → Meant e m.product us b → AddedAs e (ts ++ one k p ++ us) a (sum_terms ps)
added_more op qs ps b p h j r i = rw (h, added-snoc) (m.more_terms p j r i)

pub summed_one : (e : Extensions) (ts : List Lexeme) (h : Held) (ps : List Part) → [] ≡ ps → HeldAs e m.product ts h → Summed e ts h ps
summed_one e ts h [] f i = i
summed_one e ts h (q ∷ qs) f i = cc

pub summed_more : (e : Extensions) (k : TokenKind) (ts us : List Lexeme) (h : Held) (op : AddOp) (qs ps : List Part) (b : Value) (p : Spot) → ps ≡ qs ++ (add op, b) ∷ [] → Summed e ts h qs → ReadsAddOp k op → Meant e m.product us b → Summed e (ts ++ one k p ++ us) h ps
summed_more e k ts us h op qs ps b p f i r n = some_summed e (ts ++ one k p ++ us) h qs ps (add op, b) f (λ a g. added_more op qs ps b p f (summed_added e ts h qs a i g) r n)

pub add_held : (e : Extensions) (ts : List Lexeme) (place : Option Loc) (ps : Parts) (x : Outcome Held) (r : Outcome (List Part)) (h : Held) → ((s : Held) (qs : List Part) → x ≡ Ok s → r ≡ Ok qs → Summed e ts s qs)
    → chain_outcome sum place ps x r ≡ Ok h → HeldAs e m.sum ts h
add_held e ts place ps x r h j g = elim (chain_held sum place ps x r h g) [
  | inl i ↦ held_up e m.product m.sum h (λ y n. m.one_product n) (j h [] i.0 i.1)
  | inr i ↦ held_as e m.sum ts _ h (ok_is i.8) (m.added_up (j i.0 (i.2 ∷ i.3) i.4 i.5 i.1 i.6) (length-added i.2 i.3))
]

-- ---- relations

-- a first sum, and those behind relation operators
pub data Compared (e : Extensions) : List Lexeme → Held → List Part → Type 0 where
  one_side : {ts : List Lexeme} {h : Held} → HeldAs e m.sum ts h → Compared e ts h []
  more_sides : {ts us : List Lexeme} {h : Held} {b : Value} {k : TokenKind} {op : RelOp} {ps : List Part} (p : Spot) → Compared e ts h ps → ReadsRelOp k op → Meant e m.sum us b
      → Compared e (ts ++ one k p ++ us) h (ps ++ (compare op, b) ∷ [])

pub compared_one : (e : Extensions) (ts : List Lexeme) (h : Held) (ps : List Part) → [] ≡ ps → HeldAs e m.sum ts h → Compared e ts h ps
compared_one e ts h ps f i = let empty : ps ≡ [] = sym f in rw empty (one_side i)

pub compared_more : {e : Extensions} {ts us : List Lexeme} {s : Held} {k : TokenKind} (op : RelOp) (qs ps : List Part) (b : Value) (p : Spot) → ps ≡ qs ++ (compare op, b) ∷ []
    → Compared e ts s qs → ReadsRelOp k op → Meant e m.sum us b → Compared e (ts ++ one k p ++ us) s ps
compared_more op qs ps b p h j r i = rw h (more_sides p j r i)

only_side : (e : Extensions) (ts : List Lexeme) (h : Held) (ps : List Part) → Compared e ts h ps → ps ≡ [] → HeldAs e m.sum ts h
only_side e _ h _ (one_side i) f = i
only_side e _ h _ (more_sides {b = b} {op = op} {ps = ps} p j r i) f = absurd (no_snoc ps (compare op, b) f)

-- what a relation gives is an expression
related_value : (place : Option Loc) (op : RelOp) (a b : Value) (h : Held) (k : TokenKind) → ReadsRelOp k op → comparison_outcome place op a b ≡ Ok h → (w : Value) × (h ≡ expression place w) × Relates k a b w
related_value place _ a b h _ l.less g = (v.less a b, sym (ok_is g), m.less)
related_value place _ a b h _ l.less_eq g = (v.lesseq a b, sym (ok_is g), m.less_eq)
related_value place _ a b h _ l.greater_eq g = (v.greatereq a b, sym (ok_is g), m.greater_eq)
related_value place _ a b h _ l.greater g = (v.greater a b, sym (ok_is g), m.greater)
related_value place _ a b h _ l.not_eq g = (v.noteq a b, sym (ok_is g), m.not_eq)
related_value place _ a b h _ l.equal g = (v.is_eq a b, sym (ok_is g), m.equal)
related_value place _ a b h _ l.within g = (v.is_in a b, sym (ok_is g), m.within)
related_value place _ a b h _ l.single_eq g = cc

two_held : (e : Extensions) (ts : List Lexeme) (s : Held) (a : Value) (place : Option Loc) (q : Part) (qs rs : List Part) (h : Held) → Compared e ts s rs → as_expression s ≡ Ok a → rs ≡ q ∷ qs → qs ≡ [] → relation_outcome place q.0 a q.1 ≡ Ok h → HeldAs e m.relation ts h
two_held e _ s a place q qs _ h (one_side i) g f none k = cc
two_held e _ s a place q qs _ h (more_sides {ts = ts} {b = b} {k = t} {op = op} {ps = rs} p j r i) g f none k =
    let last = snoc_one rs (compare op, b) q (f ∙ ap (λ xs. q ∷ xs) none) in
    let found : comparison_outcome place op a b ≡ Ok h = rw (← last.1) at k in
    let d = related_value place op a b h t r found in
    held_as e m.relation _ (expression place d.0) h (sym d.1) (m.related p (held_means e m.sum s a (only_side e ts s rs j last.0) g) d.2 i)

pub relation_held : (e : Extensions) (ts : List Lexeme) (place : Option Loc) (ps : Parts) (x : Outcome Held) (h : Held) → ((s : Held) (qs : List Part) → x ≡ Ok s → operands e place ps ≡ Ok qs → Compared e ts s qs)
    → chain_outcome relation place ps x (operands e place ps) ≡ Ok h → HeldAs e m.relation ts h
relation_held e ts place ps x h j g = elim (chain_held relation place ps x (operands e place ps) h g) [
  | inl i ↦ held_up e m.sum m.relation h (λ y n. m.one_sum n) (only_side e ts h [] (j h [] i.0 i.1) refl)
  | inr i ↦ two_held e ts i.0 i.1 place i.2 i.3 (i.2 ∷ i.3) h (j i.0 (i.2 ∷ i.3) i.4 i.5) i.6 refl (one_operator e place ps i.2 i.3 tt i.5 i.7) i.8
]

-- ---- one more operand

pub snoc_parts : {X : Type 0} (e : Extensions) (place : Option Loc) (g : X → Operator × Located) (xs : List X) (y : X) (ps : List Part) → operands e place (parts_of (map g (xs ++ y ∷ []))) ≡ Ok ps
    → (qs : List Part) × (b : Value) × (operands e place (parts_of (map g xs)) ≡ Ok qs) × (operand e place (g y) ≡ Ok b) × (ps ≡ qs ++ ((g y).0, b) ∷ [])
snoc_parts e place g xs y ps h =
    more_ok (g y).0 _ _ ps (sym (ap (λ zs. operands e place (parts_of zs)) (map_snoc g xs y) ∙ operands_snoc e place (map g xs) (g y)) ∙ h)

-- an operand whose operator lets it stand is its value
pub plain_operand : (e : Extensions) (place : Option Loc) (p : Operator × Located) (b : Value) → ((v : Value) → factor place p.0 v ≡ Ok v) → operand e place p ≡ Ok b → value_outcome e p.1 ≡ Ok b
plain_operand e place p b stands h = sym (settled place p.0 (value_outcome e p.1) stands) ∙ h

-- only `*` lets a factor stand
pub times_only : {k : TokenKind} {op : MultOp} (place : Option Loc) (x : Outcome Value) (b : Value) → ReadsMultOp k op → next x (factor place (multiply op)) ≡ Ok b → (k ≡ kind.Star) × (x ≡ Ok b)
times_only place (Ok v) b l.times h = (refl, h)
times_only place (Ok v) b l.divide h = cc
times_only place (Ok v) b l.modulo h = cc
times_only place (Err fs) b r h = cc
