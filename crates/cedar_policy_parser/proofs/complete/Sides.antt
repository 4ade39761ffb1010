-- Relations and conditionals, of trees for their sides.
use Rattle.std.proofs.Common.{◌≡◌, ℕ, List, [], ◌∷◌, ◌++◌, map, Option, Some, None, Ok, Err, refl, ◌∙◌}
use Rattle.cedar_lexer.specs.Token.{Lexeme}
use Rattle.cedar_lexer.specs.declared.token.TokenKind.{TokenKind}
use Rattle.cedar_lexer.specs.declared.token.TokenKind.TheVariants as kind
use Rattle.cedar_expressions.specs.declared.entity.EntityType.{EntityType}
use Rattle.cedar_expressions.specs.declared.atoms.PatternElem.{PatternElem}
use Rattle.cedar_expressions.specs.Value as v
use Rattle.cedar_expressions.specs.Value.{Value}
use Rattle.cedar_syntax.specs.declared.loc.Loc.{Loc}
use Rattle.cedar_syntax.specs.declared.cst.RelOp.{RelOp}
use Rattle.cedar_syntax.specs.declared.cst.RelOp.TheVariants as rel
use Rattle.cedar_syntax.specs.trees.Forms.{located, parts_of, add_form, relation_operand}
use Rattle.cedar_syntax.specs.trees.Located.{Located, none}
use Rattle.cedar_syntax.specs.trees.Tree.{Operator, compare, relation}
use Rattle.cedar_grammar.specs.grammar.LooseExpressions as l
use Rattle.cedar_grammar.specs.grammar.LooseExpressions.{ReadsRelOp}
use Rattle.cedar_grammar.specs.grammar.Place.{placed}
use Rattle.cedar_syntax.specs.tokens.Tokens.{Spot, one}
use Rattle.cedar_syntax.specs.trees.Trees.{if_of, common_of, has_of, like_of, is_of}
use Rattle.cedar_conversion.specs.outcome.Conversion.{outcome, operands, comparison_outcome, expression_at, conditional_outcome, with_attributes, match_outcome, beside_type, type_test_outcome, type_within_outcome}
use Rattle.cedar_conversion.specs.strict.Extensions.{Extensions}
use Rattle.cedar_conversion.specs.parts.HasSide.{Attributes}
use Rattle.cedar_conversion.specs.outcome.Held.{Held, as_expression, as_pattern, as_entity_type}
use Rattle.cedar_conversion.specs.outcome.Outcome.{Outcome, both, next}
use Rattle.cedar_conversion.specs.strict.Strict as m
use Rattle.cedar_conversion.specs.strict.Strict.{Relates}
use Rattle.cedar_conversion.proofs.Inverted.{value_from}
use Rattle.cedar_policy_parser.proofs.Made.{gives_if, gives_common, gives_has, gives_like, gives_is, gives_is_in}
use Rattle.cedar_conversion.proofs.Outcomes.{operand, settled}
use Rattle.cedar_policy_parser.proofs.complete.Levels.{chain_gives, alone_gives}
use Rattle.cedar_policy_parser.proofs.complete.Reads.{ExprRead, RelationRead, AddAs, AddRead, SoughtRead}

-- ---- operators

pub record OperatorRead (k : TokenKind) (a b w : Value) : Type 0 where
  op : RelOp
  pub reads : ReadsRelOp k op
  gives : (p : Option Loc) → comparison_outcome p op a b ≡ expression_at p w

pub operator_read : {k : TokenKind} {a b w : Value} → Relates k a b w → OperatorRead k a b w
operator_read m.less = record { op = rel.Less; reads = l.less; gives = λ p. refl }
operator_read m.less_eq = record { op = rel.LessEq; reads = l.less_eq; gives = λ p. refl }
operator_read m.greater_eq = record { op = rel.GreaterEq; reads = l.greater_eq; gives = λ p. refl }
operator_read m.greater = record { op = rel.Greater; reads = l.greater; gives = λ p. refl }
operator_read m.not_eq = record { op = rel.NotEq; reads = l.not_eq; gives = λ p. refl }
operator_read m.equal = record { op = rel.Eq; reads = l.equal; gives = λ p. refl }
operator_read m.within = record { op = rel.In; reads = l.within; gives = λ p. refl }

pub relation_alone : {e : Extensions} {src : List ℕ} {ts : List Lexeme} {a : Value} → AddRead e src ts a → RelationRead e src ts a
unfolding operands
relation_alone {e = e} {src = src} {ts = ts} {a = a} h = record {
  tree = common_of (placed src ts h.tree) [];
  reads = l.common (l.one_add h.reads);
  gives = λ p. value_from _ _ _ (gives_common e p (placed src ts h.tree) []) (alone_gives relation p none (outcome e (located add_form (placed src ts h.tree))) (Ok []) a (h.gives (placed src ts h.tree).loc) refl refl);
}

one_operand : (e : Extensions) (p : Option Loc) (q : Operator × Located) (b : Value) → operand e p q ≡ Ok b → operands e p (parts_of (q ∷ [])) ≡ Ok ((q.0, b) ∷ [])
unfolding operands
one_operand e p q b h = rw h refl

pub relation_read : {e : Extensions} {src : List ℕ} {ts us : List Lexeme} {a b w : Value} {k : TokenKind} (p : Spot) → AddRead e src ts a → OperatorRead k a b w → AddRead e src us b → RelationRead e src (ts ++ one k p ++ us) w
relation_read {e = e} {src = src} {ts = ts} {us = us} {a = a} {b = b} {w = w} p f o g = record {
  tree = common_of (placed src ts f.tree) ((o.op, placed src us g.tree) ∷ []);
  reads = l.common (l.more_add p (l.one_add f.reads) o.reads g.reads);
  gives = λ q. value_from _ _ _ (gives_common e q (placed src ts f.tree) ((o.op, placed src us g.tree) ∷ []))
      (chain_gives relation q (parts_of (map relation_operand ((o.op, placed src us g.tree) ∷ []))) (outcome e (located add_form (placed src ts f.tree))) (operands e q (parts_of (map relation_operand ((o.op, placed src us g.tree) ∷ [])))) a (compare o.op, b) [] w (f.gives (placed src ts f.tree).loc)
      (one_operand e q (relation_operand (o.op, placed src us g.tree)) b (settled q (compare o.op) _ (λ v. refl) ∙ g.gives (placed src us g.tree).loc)) refl (o.gives q));
}

-- ---- words

has_gives : (p : Option Loc) (side : Outcome Attributes) (x : Outcome Value) (a : Value) (id : List ℕ) (ids : List (List ℕ)) → side ≡ Ok (id, ids) → x ≡ Ok a → next (next side (λ r. next x (with_attributes p r))) as_expression ≡ Ok (v.extended_has_attr a id ids)
has_gives p side x a id ids h k = rw (h, k) refl

pub has_read : {e : Extensions} {src : List ℕ} {ts us : List Lexeme} {a : Value} {id : List ℕ} {ids : List (List ℕ)} (p : Spot) → AddRead e src ts a → SoughtRead src us (id, ids) → RelationRead e src (ts ++ one kind.Has p ++ us) (v.extended_has_attr a id ids)
has_read {e = e} {src = src} {ts = ts} {us = us} {a = a} {id = id} {ids = ids} p f g = record {
  tree = has_of (placed src ts f.tree) (placed src us g.tree);
  reads = l.has p f.reads g.reads;
  gives = λ q. value_from _ _ _ (gives_has e q (placed src ts f.tree) (placed src us g.tree)) (has_gives q _ _ a id ids (g.gives (placed src us g.tree).loc (placed src us g.tree).loc) (f.gives (placed src ts f.tree).loc));
}

like_gives : (p : Option Loc) (side : Outcome Held) (x : Outcome Value) (a : Value) (pattern : List PatternElem) → next side as_pattern ≡ Ok pattern → x ≡ Ok a → next (next side (λ h. next (both x (as_pattern h)) (match_outcome p))) as_expression ≡ Ok (v.like a pattern)
like_gives p (Ok h) x a pattern i k = rw (k, i) refl
like_gives p (Err fs) x a pattern i k = cc

pub like_read : {e : Extensions} {src : List ℕ} {ts us : List Lexeme} {a : Value} {pattern : List PatternElem} (p : Spot) → AddRead e src ts a → AddAs e src us as_pattern pattern → RelationRead e src (ts ++ one kind.Like p ++ us) (v.like a pattern)
like_read {e = e} {src = src} {ts = ts} {us = us} {a = a} {pattern = pattern} p f g = record {
  tree = like_of (placed src ts f.tree) (placed src us g.tree);
  reads = l.like p f.reads g.reads;
  gives = λ q. value_from _ _ _ (gives_like e q (placed src ts f.tree) (placed src us g.tree)) (like_gives q _ _ a pattern (g.gives (placed src us g.tree).loc) (f.gives (placed src ts f.tree).loc));
}

type_gives : (side : Outcome Held) (x : Outcome Value) (a : Value) (t : EntityType) → next side as_entity_type ≡ Ok t → x ≡ Ok a → next side (beside_type x) ≡ Ok (a, t)
type_gives (Ok h) x a t i k = rw (k, i) refl
type_gives (Err fs) x a t i k = cc

is_gives : (p : Option Loc) (o : Outcome (Value × EntityType)) (a : Value) (t : EntityType) → o ≡ Ok (a, t) → next (next o (type_test_outcome p)) as_expression ≡ Ok (v.is_entity_type a t)
is_gives p o a t h = rw h refl

pub is_read : {e : Extensions} {src : List ℕ} {ts us : List Lexeme} {a : Value} {t : EntityType} (p : Spot) → AddRead e src ts a → AddAs e src us as_entity_type t → RelationRead e src (ts ++ one kind.Is p ++ us) (v.is_entity_type a t)
is_read {e = e} {src = src} {ts = ts} {us = us} {a = a} {t = t} p f g = record {
  tree = is_of (placed src ts f.tree) (placed src us g.tree) None;
  reads = l.is p f.reads g.reads;
  gives = λ q. value_from _ _ _ (gives_is e q (placed src ts f.tree) (placed src us g.tree)) (is_gives q _ a t (type_gives _ _ a t (g.gives (placed src us g.tree).loc) (f.gives (placed src ts f.tree).loc)));
}

is_in_gives : (p : Option Loc) (o : Outcome (Value × EntityType)) (x : Outcome Value) (a b : Value) (t : EntityType) → o ≡ Ok (a, t) → x ≡ Ok b → next (next o (λ q. next x (type_within_outcome p q))) as_expression ≡ Ok (v.is_in_entity_type a t b)
is_in_gives p o x a b t h k = rw (h, k) refl

pub is_in_read : {e : Extensions} {src : List ℕ} {ts us vs : List Lexeme} {a b : Value} {t : EntityType} (p o : Spot) → AddRead e src ts a → AddAs e src us as_entity_type t → AddRead e src vs b
    → RelationRead e src (ts ++ one kind.Is p ++ us ++ one kind.In o ++ vs) (v.is_in_entity_type a t b)
is_in_read {e = e} {src = src} {ts = ts} {us = us} {vs = vs} {a = a} {b = b} {t = t} p o f g h = record {
  tree = is_of (placed src ts f.tree) (placed src us g.tree) (Some (placed src vs h.tree));
  reads = l.is_in p o f.reads g.reads h.reads;
  gives = λ q. value_from _ _ _ (gives_is_in e q (placed src ts f.tree) (placed src us g.tree) (placed src vs h.tree))
      (is_in_gives q _ _ a b t (type_gives _ _ a t (g.gives (placed src us g.tree).loc) (f.gives (placed src ts f.tree).loc)) (h.gives (placed src vs h.tree).loc));
}

-- ---- conditionals

if_gives : (p : Option Loc) (x y z : Outcome Value) (a b d : Value) → x ≡ Ok a → y ≡ Ok b → z ≡ Ok d → next (next (both (both x y) z) (conditional_outcome p)) as_expression ≡ Ok (v.ite a b d)
if_gives p x y z a b d h k g = rw (h, k, g) refl

pub if_read : {e : Extensions} {src : List ℕ} {ts us vs : List Lexeme} {a b d : Value} (i t o : Spot) → ExprRead e src ts a → ExprRead e src us b → ExprRead e src vs d
    → ExprRead e src (one kind.If i ++ ts ++ one kind.Then t ++ us ++ one kind.Else o ++ vs) (v.ite a b d)
if_read {e = e} {src = src} {ts = ts} {us = us} {vs = vs} {a = a} {b = b} {d = d} i t o f g h = record {
  tree = if_of (placed src ts f.tree) (placed src us g.tree) (placed src vs h.tree);
  reads = l.if_expr i t o f.reads g.reads h.reads;
  gives = λ p. value_from _ _ _ (gives_if e p (placed src ts f.tree) (placed src us g.tree) (placed src vs h.tree)) (if_gives p _ _ _ a b d (f.gives (placed src ts f.tree).loc) (g.gives (placed src us g.tree).loc) (h.gives (placed src vs h.tree).loc));
}
