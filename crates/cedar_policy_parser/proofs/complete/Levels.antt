-- The levels of operators, of trees for their parts.
use Rattle.std.proofs.Common.{◌≡◌, ◌<◌, ℕ, List, [], ◌∷◌, ◌++◌, map, length, Option, Ok, Err, refl, sym, ap, ◌∙◌, arith}
use Rattle.cedar_lexer.specs.Token.{Lexeme}
use Rattle.cedar_lexer.specs.declared.token.TokenKind.{TokenKind}
use Rattle.cedar_lexer.specs.declared.token.TokenKind.TheVariants as kind
use Rattle.cedar_expressions.specs.declared.operators.AddOp.{AddOp}
use Rattle.cedar_expressions.specs.Value as v
use Rattle.cedar_expressions.specs.Value.{Value, values, terms}
use Rattle.cedar_syntax.specs.declared.loc.Loc.{Loc}
use Rattle.cedar_syntax.specs.declared.cst.And.{And}
use Rattle.cedar_syntax.specs.declared.cst.Relation.{Relation}
use Rattle.cedar_syntax.specs.declared.cst.Mult.{Mult}
use Rattle.cedar_syntax.specs.declared.cst.MultOp.{MultOp}
use Rattle.cedar_syntax.specs.declared.cst.MultOp.TheVariants as mul
use Rattle.cedar_syntax.specs.declared.cst.Unary.{Unary}
use Rattle.cedar_syntax.specs.trees.Forms.{located, parts_of, and_form, relation_form, mult_form, unary_form, or_operand, and_operand, add_operand, mult_operand, listed_expr}
use Rattle.cedar_syntax.specs.trees.Located.{Located, Parts}
use Rattle.cedar_syntax.specs.trees.Tree.{Level, Operator, or_or, and_and, add, multiply, beside, disjunction, conjunction, sum, product}
use Rattle.cedar_grammar.specs.grammar.LooseExpressions as l
use Rattle.cedar_grammar.specs.grammar.LooseExpressions.{ReadsAnds, ReadsRelations, ReadsMults, ReadsUnaries, ReadsAddOp}
use Rattle.cedar_grammar.specs.grammar.Place.{placed}
use Rattle.cedar_syntax.specs.tokens.Tokens.{Spot, one}
use Rattle.cedar_syntax.specs.trees.Trees.{Cell, expr_of, or_of, and_of, add_of, mult_of}
use Rattle.cedar_conversion.specs.outcome.Conversion.{Part, Converts, outcome, operands, chain_outcome, level_outcome, operator_limit, expression_at}
use Rattle.cedar_conversion.specs.strict.Extensions.{Extensions}
use Rattle.cedar_conversion.specs.outcome.Held.{Held, as_expression}
use Rattle.cedar_conversion.specs.outcome.Outcome.{Outcome, next}
use Rattle.cedar_conversion.specs.strict.Strict as m
use Rattle.cedar_conversion.specs.strict.Strict.{Sort}
use Rattle.cedar_conversion.specs.machines.Views.{one_more}
use Rattle.cedar_conversion.proofs.Inverted.{value_from}
use Rattle.cedar_conversion.proofs.Loops.{map_snoc}
use Rattle.cedar_policy_parser.proofs.Made.{gives_or_alone, gives_or, gives_and, gives_add, gives_mult}
use Rattle.cedar_conversion.proofs.Outcomes.{operand, operands_snoc, settled}
use Rattle.cedar_policy_parser.proofs.complete.Reads.{ExprRead, OrRead, AndRead, RelationRead, AddRead, MultRead, UnaryRead, MemberRead, PrimaryRead, ItemsRead, under, summed, under-snoc, summed-snoc, bodies-under, added-summed}

abbrev pub Read : Extensions → List ℕ → Sort → List Lexeme → Value → Type 0
Read e src m.expression ts w = ExprRead e src ts w
Read e src m.disjunction ts w = OrRead e src ts w
Read e src m.conjunction ts w = AndRead e src ts w
Read e src m.relation ts w = RelationRead e src ts w
Read e src m.sum ts w = AddRead e src ts w
Read e src m.product ts w = MultRead e src ts w
Read e src m.signed ts w = UnaryRead e src ts w
Read e src m.member ts w = MemberRead e src ts w
Read e src m.primary ts w = PrimaryRead e src ts w

-- ---- a first part and those behind operators

pub record AndsRead (e : Extensions) (src : List ℕ) (ts : List Lexeme) (a : Value) (bs : List Value) : Type 0 where
  first : Cell And
  others : List (Cell And)
  pub reads : ReadsAnds src ts first others
  pub gives : Converts e (located and_form first) a
  give : (p : Option Loc) → operands e p (parts_of (map or_operand others)) ≡ Ok (under or_or bs)

pub record RelationsRead (e : Extensions) (src : List ℕ) (ts : List Lexeme) (a : Value) (bs : List Value) : Type 0 where
  first : Cell Relation
  others : List (Cell Relation)
  pub reads : ReadsRelations src ts first others
  pub gives : Converts e (located relation_form first) a
  give : (p : Option Loc) → operands e p (parts_of (map and_operand others)) ≡ Ok (under and_and bs)

pub record UnariesRead (e : Extensions) (src : List ℕ) (ts : List Lexeme) (a : Value) (bs : List Value) : Type 0 where
  first : Cell Unary
  others : List (MultOp × Cell Unary)
  pub reads : ReadsUnaries src ts first others
  pub gives : Converts e (located unary_form first) a
  give : (p : Option Loc) → operands e p (parts_of (map mult_operand others)) ≡ Ok (under (multiply mul.Times) bs)

pub record MultsRead (e : Extensions) (src : List ℕ) (ts : List Lexeme) (a : Value) (bs : List (AddOp × Value)) : Type 0 where
  first : Cell Mult
  others : List (AddOp × Cell Mult)
  pub reads : ReadsMults src ts first others
  pub gives : Converts e (located mult_form first) a
  give : (p : Option Loc) → operands e p (parts_of (map add_operand others)) ≡ Ok (summed bs)

-- lists of parts stand at four levels
abbrev pub PartsRead : Extensions → List ℕ → TokenKind → Sort → List Lexeme → Value → List Value → Type 0
PartsRead e src k m.expression ts a bs = k ≡ kind.Comma → ItemsRead e src ts (a ∷ bs)
PartsRead e src k m.disjunction ts a bs = Unit {0}
PartsRead e src k m.conjunction ts a bs = k ≡ kind.OrOr → AndsRead e src ts a bs
PartsRead e src k m.relation ts a bs = k ≡ kind.AndAnd → RelationsRead e src ts a bs
PartsRead e src k m.sum ts a bs = Unit {0}
PartsRead e src k m.product ts a bs = Unit {0}
PartsRead e src k m.signed ts a bs = k ≡ kind.Star → UnariesRead e src ts a bs
PartsRead e src k m.member ts a bs = Unit {0}
PartsRead e src k m.primary ts a bs = Unit {0}

-- ---- one more part

with_one : (op : Operator) (r : Outcome (List Part)) (x : Outcome Value) (ps : List Part) (b : Value) → r ≡ Ok ps → x ≡ Ok b → one_more op r x ≡ Ok (ps ++ (op, b) ∷ [])
with_one op r x ps b h k = rw (h, k) refl

-- the operands with one more, whose operator lets it stand
snoc_gives : {X : Type 0} (e : Extensions) (p : Option Loc) (g : X → Operator × Located) (xs : List X) (y : X) (ps qs : List Part) (b : Value) → operands e p (parts_of (map g xs)) ≡ Ok ps → operand e p (g y) ≡ Ok b
    → ps ++ ((g y).0, b) ∷ [] ≡ qs → operands e p (parts_of (map g (xs ++ y ∷ []))) ≡ Ok qs
snoc_gives e p g xs y ps qs b h k same = ap (λ zs. operands e p (parts_of zs)) (map_snoc g xs y) ∙ operands_snoc e p (map g xs) (g y) ∙ with_one (g y).0 _ _ ps b h k ∙ ap Ok same

more_items : {e : Extensions} {src : List ℕ} {ts us : List Lexeme} {b : Value} {bs : List Value} (p : Spot) → ItemsRead e src ts bs → ExprRead e src us b → ItemsRead e src (ts ++ one kind.Comma p ++ us) (bs ++ b ∷ [])
more_items {e = e} {src = src} {us = us} {b = b} {bs = bs} p h n = record {
  cells = h.cells ++ placed src us n.tree ∷ [];
  reads = l.more_exprs p h.reads n.reads;
  give = λ q. snoc_gives e q listed_expr h.cells (placed src us n.tree) (under beside bs) _ b (h.give q) (settled q beside _ (λ v. refl) ∙ n.gives (placed src us n.tree).loc) (sym (under-snoc beside bs b));
}

more_ands : {e : Extensions} {src : List ℕ} {ts us : List Lexeme} {a b : Value} {bs : List Value} (p : Spot) → AndsRead e src ts a bs → AndRead e src us b → AndsRead e src (ts ++ one kind.OrOr p ++ us) a (bs ++ b ∷ [])
more_ands {e = e} {src = src} {us = us} {b = b} {bs = bs} p h n = record {
  first = h.first;
  others = h.others ++ placed src us n.tree ∷ [];
  reads = l.more_and p h.reads n.reads;
  gives = h.gives;
  give = λ q. snoc_gives e q or_operand h.others (placed src us n.tree) (under or_or bs) _ b (h.give q) (settled q or_or _ (λ v. refl) ∙ n.gives _) (sym (under-snoc or_or bs b));
}

more_relations : {e : Extensions} {src : List ℕ} {ts us : List Lexeme} {a b : Value} {bs : List Value} (p : Spot) → RelationsRead e src ts a bs → RelationRead e src us b → RelationsRead e src (ts ++ one kind.AndAnd p ++ us) a (bs ++ b ∷ [])
more_relations {e = e} {src = src} {us = us} {b = b} {bs = bs} p h n = record {
  first = h.first;
  others = h.others ++ placed src us n.tree ∷ [];
  reads = l.more_relation p h.reads n.reads;
  gives = h.gives;
  give = λ q. snoc_gives e q and_operand h.others (placed src us n.tree) (under and_and bs) _ b (h.give q) (settled q and_and _ (λ v. refl) ∙ n.gives _) (sym (under-snoc and_and bs b));
}

more_unaries : {e : Extensions} {src : List ℕ} {ts us : List Lexeme} {a b : Value} {bs : List Value} (p : Spot) → UnariesRead e src ts a bs → UnaryRead e src us b → UnariesRead e src (ts ++ one kind.Star p ++ us) a (bs ++ b ∷ [])
more_unaries {e = e} {src = src} {us = us} {b = b} {bs = bs} p h n = record {
  first = h.first;
  others = h.others ++ (mul.Times, placed src us n.tree) ∷ [];
  reads = l.more_unary p h.reads l.times n.reads;
  gives = h.gives;
  give = λ q. snoc_gives e q mult_operand h.others ((mul.Times, placed src us n.tree)) (under (multiply mul.Times) bs) _ b (h.give q) (settled q (multiply mul.Times) _ (λ v. refl) ∙ n.gives _) (sym (under-snoc (multiply mul.Times) bs b));
}

pub more_mults : {e : Extensions} {src : List ℕ} {ts us : List Lexeme} {a b : Value} {k : TokenKind} {op : AddOp} {bs : List (AddOp × Value)} (p : Spot) → MultsRead e src ts a bs → ReadsAddOp k op → MultRead e src us b
    → MultsRead e src (ts ++ one k p ++ us) a (bs ++ (op, b) ∷ [])
more_mults {e = e} {src = src} {us = us} {b = b} {op = op} {bs = bs} p h r n = record {
  first = h.first;
  others = h.others ++ (op, placed src us n.tree) ∷ [];
  reads = l.more_mult p h.reads r n.reads;
  gives = h.gives;
  give = λ q. snoc_gives e q add_operand h.others (op, placed src us n.tree) (summed bs) _ b (h.give q) (settled q (add op) _ (λ v. refl) ∙ n.gives _) (sym (summed-snoc bs op b));
}

one_item : {e : Extensions} {src : List ℕ} {ts : List Lexeme} {a : Value} → ExprRead e src ts a → ItemsRead e src ts (a ∷ [])
unfolding operands
one_item {e = e} {src = src} {ts = ts} {a = a} n = record {
  cells = placed src ts n.tree ∷ [];
  reads = l.one_expr n.reads;
  give = λ q. snoc_gives e q listed_expr [] (placed src ts n.tree) [] ((beside, a) ∷ []) a refl (settled q beside _ (λ v. refl) ∙ n.gives (placed src ts n.tree).loc) refl;
}

pub one_read : (e : Extensions) (src : List ℕ) (k : TokenKind) (ts : List Lexeme) (a : Value) (s : Sort) → Read e src s ts a → PartsRead e src k s ts a []
unfolding operands
one_read e src k ts a m.expression h = λ i. one_item h
one_read e src k ts a m.disjunction h = tt
one_read e src k ts a m.conjunction h = λ i. record { first = placed src ts h.tree; others = []; reads = l.one_and h.reads; gives = h.gives _; give = λ q. refl }
one_read e src k ts a m.relation h = λ i. record { first = placed src ts h.tree; others = []; reads = l.one_relation h.reads; gives = h.gives _; give = λ q. refl }
one_read e src k ts a m.sum h = tt
one_read e src k ts a m.product h = tt
one_read e src k ts a m.signed h = λ i. record { first = placed src ts h.tree; others = []; reads = l.one_unary h.reads; gives = h.gives _; give = λ q. refl }
one_read e src k ts a m.member h = tt
one_read e src k ts a m.primary h = tt

pub more_read : (e : Extensions) (src : List ℕ) (k : TokenKind) (ts us : List Lexeme) (a b : Value) (bs : List Value) (s : Sort) (p : Spot) → PartsRead e src k s ts a bs → Read e src s us b
    → PartsRead e src k s (ts ++ one k p ++ us) a (bs ++ b ∷ [])
more_read e src k ts us a b bs m.expression p h n = λ i. rw i (more_items p (h i) n)
more_read e src k ts us a b bs m.disjunction p h n = tt
more_read e src k ts us a b bs m.conjunction p h n = λ i. rw i (more_ands p (h i) n)
more_read e src k ts us a b bs m.relation p h n = λ i. rw i (more_relations p (h i) n)
more_read e src k ts us a b bs m.sum p h n = tt
more_read e src k ts us a b bs m.product p h n = tt
more_read e src k ts us a b bs m.signed p h n = λ i. rw i (more_unaries p (h i) n)
more_read e src k ts us a b bs m.member p h n = tt
more_read e src k ts us a b bs m.primary p h n = tt

pub one_mult_read : {e : Extensions} {src : List ℕ} {ts : List Lexeme} {a : Value} → MultRead e src ts a → MultsRead e src ts a []
unfolding operands
one_mult_read {src = src} {ts = ts} h = record { first = placed src ts h.tree; others = []; reads = l.one_mult h.reads; gives = h.gives _; give = λ q. refl }

-- ---- one level

-- a chain of two parts or more
pub chain_gives : (level : Level) (p : Option Loc) (ps : Parts) (x : Outcome Held) (r : Outcome (List Part)) (a : Value) (q : Part) (qs : List Part) (w : Value) → next x as_expression ≡ Ok a → r ≡ Ok (q ∷ qs)
    → operator_limit level p ps ≡ Ok tt → level_outcome level p (q ∷ qs) a ≡ expression_at p w → next (chain_outcome level p ps x r) as_expression ≡ Ok w
chain_gives level p ps (Ok s) r a q qs w h k u g = rw (k, u, h, g) refl
chain_gives level p ps (Err fs) r a q qs w h k u g = cc

pub alone_gives : (level : Level) (p : Option Loc) (ps : Parts) (x : Outcome Held) (r : Outcome (List Part)) (a : Value) → next x as_expression ≡ Ok a → r ≡ Ok [] → operator_limit level p ps ≡ Ok tt → next (chain_outcome level p ps x r) as_expression ≡ Ok a
alone_gives level p ps (Ok s) r a h k u = rw (k, u) h
alone_gives level p ps (Err fs) r a h k u = cc

pub or_read : {e : Extensions} {src : List ℕ} {ts : List Lexeme} {a : Value} {bs : List Value} → AndsRead e src ts a bs → 0 < length bs → OrRead e src ts (v.or_nary a (values bs))
or_read {bs = []} h some = absurd (omega arith)
or_read {e = e} {a = a} {bs = b ∷ bs} h some = record {
  tree = or_of h.first h.others;
  reads = l.or h.reads;
  gives = λ p. value_from _ _ _ (gives_or e p h.first h.others)
      (chain_gives disjunction p (parts_of (map or_operand h.others)) (outcome e (located and_form h.first)) (operands e p (parts_of (map or_operand h.others))) a (or_or, b) (under or_or bs) _ h.gives (h.give p) refl (ap (λ xs. expression_at p (v.or_nary a (values (b ∷ xs)))) (bodies-under or_or bs)));
}

pub or_alone : {e : Extensions} {src : List ℕ} {ts : List Lexeme} {a : Value} → AndsRead e src ts a [] → OrRead e src ts a
or_alone {e = e} {a = a} h = record { tree = or_of h.first h.others; reads = l.or h.reads; gives = λ p. value_from _ _ _ (gives_or e p h.first h.others) (alone_gives disjunction p (parts_of (map or_operand h.others)) (outcome e (located and_form h.first)) (operands e p (parts_of (map or_operand h.others))) a h.gives (h.give p) refl) }

pub and_read : {e : Extensions} {src : List ℕ} {ts : List Lexeme} {a : Value} {bs : List Value} → RelationsRead e src ts a bs → 0 < length bs → AndRead e src ts (v.and_naryl a (values bs))
and_read {bs = []} h some = absurd (omega arith)
and_read {e = e} {a = a} {bs = b ∷ bs} h some = record {
  tree = and_of h.first h.others;
  reads = l.and h.reads;
  gives = λ p. value_from _ _ _ (gives_and e p h.first h.others)
      (chain_gives conjunction p (parts_of (map and_operand h.others)) (outcome e (located relation_form h.first)) (operands e p (parts_of (map and_operand h.others))) a (and_and, b) (under and_and bs) _ h.gives (h.give p) refl (ap (λ xs. expression_at p (v.and_naryl a (values (b ∷ xs)))) (bodies-under and_and bs)));
}

pub and_alone : {e : Extensions} {src : List ℕ} {ts : List Lexeme} {a : Value} → RelationsRead e src ts a [] → AndRead e src ts a
and_alone {e = e} {a = a} h = record { tree = and_of h.first h.others; reads = l.and h.reads; gives = λ p. value_from _ _ _ (gives_and e p h.first h.others) (alone_gives conjunction p (parts_of (map and_operand h.others)) (outcome e (located relation_form h.first)) (operands e p (parts_of (map and_operand h.others))) a h.gives (h.give p) refl) }

pub mult_read : {e : Extensions} {src : List ℕ} {ts : List Lexeme} {a : Value} {bs : List Value} → UnariesRead e src ts a bs → 0 < length bs → MultRead e src ts (v.mul_nary a (values bs))
mult_read {bs = []} h some = absurd (omega arith)
mult_read {e = e} {a = a} {bs = b ∷ bs} h some = record {
  tree = mult_of h.first h.others;
  reads = l.mult h.reads;
  gives = λ p. value_from _ _ _ (gives_mult e p h.first h.others)
      (chain_gives product p (parts_of (map mult_operand h.others)) (outcome e (located unary_form h.first)) (operands e p (parts_of (map mult_operand h.others))) a ((multiply mul.Times), b) (under (multiply mul.Times) bs) _ h.gives (h.give p) refl (ap (λ xs. expression_at p (v.mul_nary a (values (b ∷ xs)))) (bodies-under (multiply mul.Times) bs)));
}

pub mult_alone : {e : Extensions} {src : List ℕ} {ts : List Lexeme} {a : Value} → UnariesRead e src ts a [] → MultRead e src ts a
mult_alone {e = e} {a = a} h = record { tree = mult_of h.first h.others; reads = l.mult h.reads; gives = λ p. value_from _ _ _ (gives_mult e p h.first h.others) (alone_gives product p (parts_of (map mult_operand h.others)) (outcome e (located unary_form h.first)) (operands e p (parts_of (map mult_operand h.others))) a h.gives (h.give p) refl) }

pub add_read : {e : Extensions} {src : List ℕ} {ts : List Lexeme} {a : Value} {bs : List (AddOp × Value)} → MultsRead e src ts a bs → 0 < length bs → AddRead e src ts (v.add_nary a (terms bs))
add_read {bs = []} h some = absurd (omega arith)
add_read {e = e} {a = a} {bs = b ∷ bs} h some = record {
  tree = add_of h.first h.others;
  reads = l.add h.reads;
  gives = λ p. value_from _ _ _ (gives_add e p h.first h.others)
      (chain_gives sum p (parts_of (map add_operand h.others)) (outcome e (located mult_form h.first)) (operands e p (parts_of (map add_operand h.others))) a (add b.0, b.1) (summed bs) _ h.gives (h.give p) refl (ap (λ xs. expression_at p (v.add_nary a (terms ((b.0, b.1) ∷ xs)))) (added-summed bs)));
}

pub add_alone : {e : Extensions} {src : List ℕ} {ts : List Lexeme} {a : Value} → MultsRead e src ts a [] → AddRead e src ts a
add_alone {e = e} {a = a} h = record { tree = add_of h.first h.others; reads = l.add h.reads; gives = λ p. value_from _ _ _ (gives_add e p h.first h.others) (alone_gives sum p (parts_of (map add_operand h.others)) (outcome e (located mult_form h.first)) (operands e p (parts_of (map add_operand h.others))) a h.gives (h.give p) refl) }

pub expr_read : {e : Extensions} {src : List ℕ} {ts : List Lexeme} {a : Value} → OrRead e src ts a → ExprRead e src ts a
expr_read {e = e} {src = src} {ts = ts} h = record {
  tree = expr_of (placed src ts h.tree);
  reads = l.or_expr h.reads;
  gives = λ p. value_from _ _ _ (gives_or_alone e p (placed src ts h.tree)) (h.gives _);
}
