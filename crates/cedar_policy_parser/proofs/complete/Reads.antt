-- What is to be found for tokens that mean something: a tree that they are read as, and that gives
-- the value wherever it stands.
use Rattle.std.proofs.Common.{◌≡◌, ℕ, List, [], ◌∷◌, ◌++◌, map, Option, Ok, refl, ap}
use Rattle.cedar_lexer.specs.Token.{Lexeme}
use Rattle.cedar_expressions.specs.declared.operators.AddOp.{AddOp}
use Rattle.cedar_expressions.specs.Value.{Value}
use Rattle.cedar_syntax.specs.declared.loc.Loc.{Loc}
use Rattle.cedar_syntax.specs.declared.cst.Expr.{Expr}
use Rattle.cedar_syntax.specs.declared.cst.Or.{Or}
use Rattle.cedar_syntax.specs.declared.cst.And.{And}
use Rattle.cedar_syntax.specs.declared.cst.Relation.{Relation}
use Rattle.cedar_syntax.specs.declared.cst.Add.{Add}
use Rattle.cedar_syntax.specs.declared.cst.Mult.{Mult}
use Rattle.cedar_syntax.specs.declared.cst.Unary.{Unary}
use Rattle.cedar_syntax.specs.declared.cst.MemAccess.{MemAccess}
use Rattle.cedar_syntax.specs.declared.cst.Primary.{Primary}
use Rattle.cedar_syntax.specs.declared.cst.RecInit.{RecInit}
use Rattle.cedar_syntax.specs.trees.Forms.{parts_of, expr_form, or_form, and_form, relation_form, add_form, mult_form, unary_form, primary_form, init_form, listed_access, listed_expr, listed_init}
use Rattle.cedar_syntax.specs.trees.Located.{at}
use Rattle.cedar_syntax.specs.trees.Tree.{Operator, add, beside}
use Rattle.cedar_grammar.specs.grammar.LooseExpressions.{ReadsExpr, ReadsOr, ReadsAnd, ReadsRelation, ReadsAdd, ReadsMult, ReadsUnary, ReadsAccesses, ReadsPrimary, ReadsExprItems, ReadsExprs, ReadsRecInit, ReadsInitItems, ReadsRecInits}
use Rattle.cedar_syntax.specs.trees.Trees.{Cell}
use Rattle.cedar_conversion.specs.outcome.Conversion.{Part, Converts, outcome, operands, accesses_outcome, pair_outcome, pairs_outcome, bodies, sum_terms}
use Rattle.cedar_conversion.specs.strict.Extensions.{Extensions}
use Rattle.cedar_conversion.specs.parts.HasSide.{Attributes, right_side}
use Rattle.cedar_conversion.specs.outcome.Held.{Held, as_expression}
use Rattle.cedar_conversion.specs.parts.Members.{Access, member_outcome}
use Rattle.cedar_conversion.specs.outcome.Outcome.{Outcome, next}

-- ---- one tree

-- an expression's tree that gives what is wanted of it, a value or something else
pub record ExprAs {X : Type 0} (e : Extensions) (src : List ℕ) (ts : List Lexeme) (wanted : Held → Outcome X) (x : X) : Type 0 where
  pub tree : Expr
  pub reads : ReadsExpr src ts tree
  pub gives : (p : Option Loc) → next (outcome e (at p (expr_form tree))) wanted ≡ Ok x

abbrev pub ExprRead : Extensions → List ℕ → List Lexeme → Value → Type 0
ExprRead e src ts w = ExprAs e src ts as_expression w

pub record OrRead (e : Extensions) (src : List ℕ) (ts : List Lexeme) (w : Value) : Type 0 where
  pub tree : Or
  pub reads : ReadsOr src ts tree
  pub gives : (p : Option Loc) → Converts e (at p (or_form tree)) w

pub record AndRead (e : Extensions) (src : List ℕ) (ts : List Lexeme) (w : Value) : Type 0 where
  pub tree : And
  pub reads : ReadsAnd src ts tree
  pub gives : (p : Option Loc) → Converts e (at p (and_form tree)) w

pub record RelationRead (e : Extensions) (src : List ℕ) (ts : List Lexeme) (w : Value) : Type 0 where
  pub tree : Relation
  pub reads : ReadsRelation src ts tree
  pub gives : (p : Option Loc) → Converts e (at p (relation_form tree)) w

-- a sum's tree, which is also read as a type, a pattern or an attribute
pub record AddAs {X : Type 0} (e : Extensions) (src : List ℕ) (ts : List Lexeme) (wanted : Held → Outcome X) (x : X) : Type 0 where
  pub tree : Add
  pub reads : ReadsAdd src ts tree
  pub gives : (p : Option Loc) → next (outcome e (at p (add_form tree))) wanted ≡ Ok x

abbrev pub AddRead : Extensions → List ℕ → List Lexeme → Value → Type 0
AddRead e src ts w = AddAs e src ts as_expression w

pub record SoughtRead (src : List ℕ) (ts : List Lexeme) (r : Attributes) : Type 0 where
  pub tree : Add
  pub reads : ReadsAdd src ts tree
  pub gives : (whole p : Option Loc) → right_side whole (at p (add_form tree)) ≡ Ok r

pub record MultRead (e : Extensions) (src : List ℕ) (ts : List Lexeme) (w : Value) : Type 0 where
  pub tree : Mult
  pub reads : ReadsMult src ts tree
  pub gives : (p : Option Loc) → Converts e (at p (mult_form tree)) w

pub record UnaryRead (e : Extensions) (src : List ℕ) (ts : List Lexeme) (w : Value) : Type 0 where
  pub tree : Unary
  pub reads : ReadsUnary src ts tree
  pub gives : (p : Option Loc) → Converts e (at p (unary_form tree)) w

-- a member by its primary and its accesses, so that it can be accessed further
pub record MemberRead (e : Extensions) (src : List ℕ) (ts : List Lexeme) (w : Value) : Type 0 where
  pub first_tokens : List Lexeme
  pub other_tokens : List Lexeme
  pub together : ts ≡ first_tokens ++ other_tokens
  pub first : Primary
  pub others : List (Cell MemAccess)
  pub reads_first : ReadsPrimary src first_tokens first
  pub reads_others : ReadsAccesses src other_tokens others
  pub links : List Access
  pub given : accesses_outcome e (parts_of (map listed_access others)) ≡ Ok links
  pub gives : (p q : Option Loc) → next (next (outcome e (at q (primary_form first))) (λ h. member_outcome e p h links)) as_expression ≡ Ok w

pub record PrimaryRead (e : Extensions) (src : List ℕ) (ts : List Lexeme) (w : Value) : Type 0 where
  pub tree : Primary
  pub reads : ReadsPrimary src ts tree
  pub gives : (p : Option Loc) → Converts e (at p (primary_form tree)) w

-- ---- lists of parts

-- each value behind the same operator
abbrev pub under : Operator → List Value → List Part
under op bs = map (λ b. (op, b)) bs

-- the values of a sum behind their operators
abbrev pub summed : List (AddOp × Value) → List Part
summed bs = map (λ b. (add b.0, b.1)) bs

pub under-snoc : (op : Operator) (bs : List Value) (b : Value) → under op (bs ++ b ∷ []) ≡ under op bs ++ (op, b) ∷ []
under-snoc op [] b = refl
under-snoc op (x ∷ bs) b = ap (λ ps. (op, x) ∷ ps) (under-snoc op bs b)

pub summed-snoc : (bs : List (AddOp × Value)) (op : AddOp) (b : Value) → summed (bs ++ (op, b) ∷ []) ≡ summed bs ++ (add op, b) ∷ []
summed-snoc [] op b = refl
summed-snoc (x ∷ bs) op b = ap (λ ps. (add x.0, x.1) ∷ ps) (summed-snoc bs op b)

pub bodies-under : (op : Operator) (bs : List Value) → bodies (under op bs) ≡ bs
bodies-under op [] = refl
bodies-under op (b ∷ bs) = ap (λ xs. b ∷ xs) (bodies-under op bs)

pub added-summed : (bs : List (AddOp × Value)) → sum_terms (summed bs) ≡ bs
added-summed [] = refl
added-summed (b ∷ bs) = ap (λ xs. (b.0, b.1) ∷ xs) (added-summed bs)

-- items joined by `,`, and a list of such or none, with one more `,` or none
pub record ItemsRead (e : Extensions) (src : List ℕ) (ts : List Lexeme) (bs : List Value) : Type 0 where
  pub cells : List (Cell Expr)
  pub reads : ReadsExprItems src ts cells
  pub give : (p : Option Loc) → operands e p (parts_of (map listed_expr cells)) ≡ Ok (under beside bs)

pub record ListRead (e : Extensions) (src : List ℕ) (ts : List Lexeme) (bs : List Value) : Type 0 where
  pub cells : List (Cell Expr)
  pub reads : ReadsExprs src ts cells
  pub give : (p : Option Loc) → operands e p (parts_of (map listed_expr cells)) ≡ Ok (under beside bs)

-- the same of a record's entries
pub record EntryRead (e : Extensions) (src : List ℕ) (ts : List Lexeme) (f : List ℕ × Value) : Type 0 where
  pub tree : RecInit
  pub reads : ReadsRecInit src ts tree
  pub gives : (p : Option Loc) → pair_outcome e (at p (init_form tree)) ≡ Ok f

pub record PairsRead (e : Extensions) (src : List ℕ) (ts : List Lexeme) (fs : List (List ℕ × Value)) : Type 0 where
  pub cells : List (Cell RecInit)
  pub reads : ReadsInitItems src ts cells
  pub give : pairs_outcome e (parts_of (map listed_init cells)) ≡ Ok fs

pub record EntriesRead (e : Extensions) (src : List ℕ) (ts : List Lexeme) (fs : List (List ℕ × Value)) : Type 0 where
  pub cells : List (Cell RecInit)
  pub reads : ReadsRecInits src ts cells
  pub give : pairs_outcome e (parts_of (map listed_init cells)) ≡ Ok fs
