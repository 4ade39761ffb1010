-- One level of operators, of what its parts give: what is held of the whole.
use Rattle.std.proofs.Common.{◌≡◌, ◌⊎◌, inl, inr, List, [], ◌∷◌, ◌++◌, Option, Ok, sym, ◌∙◌}
use Rattle.cedar_lexer.specs.Token.{Lexeme}
use Rattle.cedar_lexer.specs.declared.token.TokenKind.{TokenKind}
use Rattle.cedar_lexer.specs.declared.token.TokenKind.TheVariants as kind
use Rattle.cedar_expressions.specs.declared.operators.AddOp.{AddOp}
use Rattle.cedar_expressions.specs.Value.{Value}
use Rattle.cedar_syntax.specs.declared.loc.Loc.{Loc}
use Rattle.cedar_syntax.specs.tokens.Signs.{sign_limit}
use Rattle.cedar_syntax.specs.trees.Located.{Parts}
use Rattle.cedar_syntax.specs.trees.Tree.{Level, Operator, disjunction, conjunction, product}
use Rattle.cedar_syntax.specs.tokens.Tokens.{Spot, one}
use Rattle.cedar_conversion.specs.outcome.Conversion.{Part, chain_outcome, level_outcome, joint_outcome, operator_limit, bodies}
use Rattle.cedar_conversion.specs.strict.Extensions.{Extensions}
use Rattle.cedar_conversion.specs.outcome.Held.{Held, as_expression}
use Rattle.cedar_conversion.specs.outcome.Outcome.{Outcome, both}
use Rattle.cedar_conversion.specs.strict.Strict as m
use Rattle.cedar_conversion.specs.strict.Strict.{Sort, Joined, Added, Relates}
use Rattle.cedar_conversion.proofs.Inverted.{ok_is, next_ok, both_ok}
use Rattle.cedar_policy_parser.proofs.Lists.{no_snoc, bodies-snoc, length-bodies}
use Rattle.cedar_policy_parser.proofs.sound.Bare.{Meant, HeldAs, held_means, held_up}
use Rattle.cedar_policy_parser.proofs.sound.Leaves.{held_as}

abbrev pub JoinedAs : Extensions → TokenKind → Sort → List Lexeme → Value → List Value → Type 0
JoinedAs e k s ts a bs = Joined e sign_limit k s ts a bs

abbrev pub AddedAs : Extensions → List Lexeme → Value → List (AddOp × Value) → Type 0
AddedAs e ts a bs = Added e sign_limit ts a bs

-- ---- a chain that is given

abbrev pub IsChain : Level → Option Loc → Parts → Outcome Held → Outcome (List Part) → Held → Type 0
IsChain level place ps x r h = ((x ≡ Ok h) × (r ≡ Ok []))
    ⊎ ((s : Held) × (a : Value) × (q : Part) × (qs : List Part) × (x ≡ Ok s) × (r ≡ Ok (q ∷ qs)) × (as_expression s ≡ Ok a) × (operator_limit level place ps ≡ Ok tt) × (level_outcome level place (q ∷ qs) a ≡ Ok h))

joined_held : (level : Level) (place : Option Loc) (ps : Parts) (s h : Held) (rs : List Part) (x : Outcome Held) (r : Outcome (List Part)) → x ≡ Ok s → r ≡ Ok rs → operator_limit level place ps ≡ Ok tt → joint_outcome level place s rs ≡ Ok h → IsChain level place ps x r h
joined_held level place ps s h [] x r e f u g = inl (e ∙ g, f)
joined_held level place ps s h (q ∷ qs) x r e f u g =
    let a = next_ok (as_expression s) _ h g in
    inr (s, a.0, q, qs, e, f, a.1, u, a.2)

pub chain_held : (level : Level) (place : Option Loc) (ps : Parts) (x : Outcome Held) (r : Outcome (List Part)) (h : Held) → chain_outcome level place ps x r ≡ Ok h → IsChain level place ps x r h
chain_held level place ps x r h e =
    let b = next_ok (both (both x r) (operator_limit level place ps)) _ h e in
    let c = both_ok (both x r) (operator_limit level place ps) b.0 b.1 in
    let d = both_ok x r b.0.0 c.0 in
    joined_held level place ps b.0.0.0 h b.0.0.1 x r d.0 d.1 c.1 b.2

-- ---- one operator for all parts

-- what is held of a first part and those behind operators
abbrev pub Parted : Extensions → TokenKind → Sort → List Lexeme → Held → List Part → Type 0
Parted e k s ts h [] = HeldAs e s ts h
Parted e k s ts h (q ∷ qs) = (a : Value) → as_expression h ≡ Ok a → JoinedAs e k s ts a (bodies (q ∷ qs))

pub parted_joined : (e : Extensions) (k : TokenKind) (s : Sort) (ts : List Lexeme) (h : Held) (ps : List Part) (a : Value) → Parted e k s ts h ps → as_expression h ≡ Ok a → JoinedAs e k s ts a (bodies ps)
parted_joined e k s ts h [] a i g = m.one_part (held_means e s h a i g)
parted_joined e k s ts h (q ∷ qs) a i g = i a g

some_parted : (e : Extensions) (k : TokenKind) (s : Sort) (ts : List Lexeme) (h : Held) (qs ps : List Part) (p : Part) → ps ≡ qs ++ p ∷ [] → ((a : Value) → as_expression h ≡ Ok a → JoinedAs e k s ts a (bodies ps)) → Parted e k s ts h ps
some_parted e k s ts h qs [] p f j = absurd (no_snoc qs p (sym f))
some_parted e k s ts h qs (r ∷ rs) p f j = j

joined_more : {e : Extensions} {k : TokenKind} {s : Sort} {ts us : List Lexeme} {a : Value} (op : Operator) (qs ps : List Part) (b : Value) (p : Spot) → ps ≡ qs ++ (op, b) ∷ []
    → JoinedAs e k s ts a (bodies qs) → Meant e s us b → JoinedAs e k s (ts ++ one k p ++ us) a (bodies ps)
joined_more op qs ps b p h j i = rw (h, bodies-snoc) (m.more_parts p j i)

pub parted_one : (e : Extensions) (k : TokenKind) (s : Sort) (ts : List Lexeme) (h : Held) (ps : List Part) → [] ≡ ps → HeldAs e s ts h → Parted e k s ts h ps
parted_one e k s ts h [] f i = i
parted_one e k s ts h (q ∷ qs) f i = cc

pub parted_more : (e : Extensions) (k : TokenKind) (s : Sort) (ts us : List Lexeme) (h : Held) (op : Operator) (qs ps : List Part) (b : Value) (p : Spot) → ps ≡ qs ++ (op, b) ∷ [] → Parted e k s ts h qs → Meant e s us b → Parted e k s (ts ++ one k p ++ us) h ps
parted_more e k s ts us h op qs ps b p f i n = some_parted e k s (ts ++ one k p ++ us) h qs ps (op, b) f (λ a g. joined_more op qs ps b p f (parted_joined e k s ts h qs a i g) n)

pub or_held : (e : Extensions) (ts : List Lexeme) (place : Option Loc) (ps : Parts) (x : Outcome Held) (r : Outcome (List Part)) (h : Held) → ((s : Held) (qs : List Part) → x ≡ Ok s → r ≡ Ok qs → Parted e kind.OrOr m.conjunction ts s qs)
    → chain_outcome disjunction place ps x r ≡ Ok h → HeldAs e m.disjunction ts h
or_held e ts place ps x r h j g = elim (chain_held disjunction place ps x r h g) [
  | inl i ↦ held_up e m.conjunction m.disjunction h (λ y n. m.one_conjunction n) (j h [] i.0 i.1)
  | inr i ↦ held_as e m.disjunction ts _ h (ok_is i.8) (m.disjoined (j i.0 (i.2 ∷ i.3) i.4 i.5 i.1 i.6) (length-bodies i.2 i.3))
]

pub and_held : (e : Extensions) (ts : List Lexeme) (place : Option Loc) (ps : Parts) (x : Outcome Held) (r : Outcome (List Part)) (h : Held) → ((s : Held) (qs : List Part) → x ≡ Ok s → r ≡ Ok qs → Parted e kind.AndAnd m.relation ts s qs)
    → chain_outcome conjunction place ps x r ≡ Ok h → HeldAs e m.conjunction ts h
and_held e ts place ps x r h j g = elim (chain_held conjunction place ps x r h g) [
  | inl i ↦ held_up e m.relation m.conjunction h (λ y n. m.one_relation n) (j h [] i.0 i.1)
  | inr i ↦ held_as e m.conjunction ts _ h (ok_is i.8) (m.conjoined (j i.0 (i.2 ∷ i.3) i.4 i.5 i.1 i.6) (length-bodies i.2 i.3))
]

pub mult_held : (e : Extensions) (ts : List Lexeme) (place : Option Loc) (ps : Parts) (x : Outcome Held) (r : Outcome (List Part)) (h : Held) → ((s : Held) (qs : List Part) → x ≡ Ok s → r ≡ Ok qs → Parted e kind.Star m.signed ts s qs)
    → chain_outcome product place ps x r ≡ Ok h → HeldAs e m.product ts h
mult_held e ts place ps x r h j g = elim (chain_held product place ps x r h g) [
  | inl i ↦ held_up e m.signed m.product h (λ y n. m.one_signed n) (j h [] i.0 i.1)
  | inr i ↦ held_as e m.product ts _ h (ok_is i.8) (m.multiplied (j i.0 (i.2 ∷ i.3) i.4 i.5 i.1 i.6) (length-bodies i.2 i.3))
]
