-- `&&`, `||`, and expressions with `if`.
use Rattle.std.proofs.Common.{◌≡◌, ℕ, List, [], ◌∷◌, ◌++◌, Option, Some, None, true, refl, ◌∙◌, ap}
use Rattle.cedar_lexer.specs.Token.{Lexeme}
use Rattle.cedar_lexer.specs.declared.token.TokenKind.TheVariants as kind
use Rattle.cedar_expressions.specs.declared.operators.AddOp.{AddOp}
use Rattle.cedar_syntax.specs.declared.cst.Expr.{Expr}
use Rattle.cedar_syntax.specs.declared.cst.Or.{Or}
use Rattle.cedar_syntax.specs.declared.cst.And.{And}
use Rattle.cedar_syntax.specs.declared.cst.Relation.{Relation}
use Rattle.cedar_syntax.specs.declared.cst.MultOp.{MultOp}
use Rattle.cedar_syntax.specs.declared.cst.Mult.{Mult}
use Rattle.cedar_syntax.specs.declared.cst.Unary.{Unary}
use Rattle.cedar_expression_machine.specs.declared.expression.state.PendingChain.{PendingChain}
use Rattle.cedar_expression_machine.specs.declared.expression.state.Branch.{Branch}
use Rattle.cedar_expression_machine.specs.declared.expression.state.PendingRelation.{PendingRelation}
use Rattle.cedar_expression_machine.specs.declared.expression.state.Then.{Then}
use Rattle.cedar_expression_machine.specs.declared.expression.state.PendingOperators.{PendingOperators}
use Rattle.cedar_expression_machine.specs.declared.expression.state.Operand.{Operand}
use Rattle.cedar_expression_machine.specs.declared.expression.state.Frame.{Frame}
use Rattle.cedar_expression_machine.specs.declared.expression.state.Frame.TheVariants as frame
use Rattle.cedar_expression_machine.specs.declared.expression.state.OperandPlace.{OperandPlace}
use Rattle.cedar_expression_machine.specs.declared.expression.state.OperandPlace.TheVariants as place
use Rattle.cedar_expression_machine.specs.declared.expression.state.OperandMode.{OperandMode}
use Rattle.cedar_expression_machine.specs.declared.expression.state.FollowSet.{FollowSet}
use Rattle.cedar_grammar.specs.declared.reading.extent.Extent.{Extent}
use Rattle.cedar_grammar.specs.grammar.Place.{joint_extent, extent, placed}
use Rattle.cedar_syntax.specs.tokens.Tokens.{Spot, one}
use Rattle.cedar_syntax.specs.trees.Trees.{Cell, expr_of, if_of, or_of, and_of}
use Rattle.cedar_expression_machine.specs.machines.Closing.{spanned_tree, Plain, plain_chain, onward, unary_at, made_mult, made_add, made_and, made_or, made_expr, marked_chain, relation_with_sum, with_branches, whole, levels_of, fresh}
use Rattle.cedar_expression_machine.specs.machines.ExpressionStates.{state, opening}
use Rattle.cedar_expression_machine.specs.machines.Having.{conjunction_beginning, disjunction_beginning, branch_of, frame_ending}
use Rattle.cedar_grammar.specs.declared.reading.class.Closing.TheVariants as closing
use Rattle.cedar_grammar.specs.declared.reading.class.FollowClass.TheVariants as operator
use Rattle.cedar_expression_machine.proofs.expressions.Stepping.{had}
use Rattle.cedar_expression_machine.proofs.expressions.complete.Runs.{follow_set_at, extent-append, at, Setting, run, two, three, StandsAt, met, Joins, an_if, all_joins, is_first}
use Rattle.cedar_expression_machine.proofs.expressions.complete.Words.{closed}
use Rattle.cedar_expression_machine.proofs.expressions.complete.If.{if_runs, guard_frame, guard_runs}
use Rattle.cedar_expression_machine.proofs.expressions.complete.Sums.{chain, linked_more, begin_at, Goes}
use Rattle.cedar_expression_machine.proofs.expressions.complete.Relations.{RelationAt}

abbrev pub at_and : PendingOperators → Option (Plain Relation) → Option PendingRelation → Option (PendingChain Mult AddOp) → Option (PendingChain Unary MultOp) → PendingOperators
at_and lv a r s m = levels_of lv.branches lv.or a r s m

abbrev pub at_or : PendingOperators → Option (Plain And) → Option (Plain Relation) → Option PendingRelation → Option (PendingChain Mult AddOp) → Option (PendingChain Unary MultOp) → PendingOperators
at_or lv o a r s m = levels_of lv.branches o a r s m

pub record AndAt {src : List ℕ} (c : Setting src) (st : List Frame) (lv : PendingOperators) (pl : OperandPlace) (ts : List Lexeme) (P : Plain Relation → Type 0) : Type 0 where
  pub a : Option (Plain Relation)
  pub r : Option PendingRelation
  pub s : Option (PendingChain Mult AddOp)
  pub m : Option (PendingChain Unary MultOp)
  pub md : OperandMode
  pub last : Operand
  pub is : P (plain_chain src a (relation_with_sum src r (made_add (marked_chain src s (made_mult (marked_chain src m (unary_at src last)))))))
  pub joins : Joins (follow_set_at c.symbol st last)
  pub at_it : StandsAt c st (at_and lv a r s m) md last
  pub goes : Goes c st (at_and lv None None None None) pl ts (at_and lv a r s m) md

pub record OrAt {src : List ℕ} (c : Setting src) (st : List Frame) (lv : PendingOperators) (pl : OperandPlace) (ts : List Lexeme) (P : Plain And → Type 0) : Type 0 where
  pub o : Option (Plain And)
  pub a : Option (Plain Relation)
  pub r : Option PendingRelation
  pub s : Option (PendingChain Mult AddOp)
  pub m : Option (PendingChain Unary MultOp)
  pub md : OperandMode
  pub last : Operand
  pub is : P (plain_chain src o (made_and (plain_chain src a (relation_with_sum src r (made_add (marked_chain src s (made_mult (marked_chain src m (unary_at src last)))))))))
  pub joins : Joins (follow_set_at c.symbol st last)
  pub at_it : StandsAt c st (at_or lv o a r s m) md last
  pub goes : Goes c st (at_or lv None None None None None) pl ts (at_or lv o a r s m) md

pub record ExprAt {src : List ℕ} (c : Setting src) (st : List Frame) (bs : List Branch) (pl : OperandPlace) (ts : List Lexeme) (x : Expr) : Type 0 where
  pub levels : PendingOperators
  pub md : OperandMode
  pub last : Operand
  pub is : whole src levels last ≡ with_branches src bs (closed ts x)
  pub at_it : StandsAt c st levels md last
  pub goes : run c (Some (opening st bs pl)) ts ≡ Some (state st levels md)

-- `&&`

conjoins : (src : List ℕ) (st : List Frame) (lv : PendingOperators) (u : Operand) (e : Extent) {r : FollowSet} → Joins r → had src st lv u r operator.And e ≡ Some (conjunction_beginning src st lv u e)
conjoins src st lv u e an_if = refl
conjoins src st lv u e all_joins = refl

pub one_relations : {src : List ℕ} (c : Setting src) (st : List Frame) (lv : PendingOperators) (pl : OperandPlace) (ts : List Lexeme) (x : Relation) →
    RelationAt c st (at_and lv None None None None) pl ts x → AndAt c st lv pl ts (λ q. q ≡ chain ts (placed src ts x) [])
one_relations {src = src} c st lv pl ts x h = record { a = None; r = h.r; s = h.s; m = h.m; md = h.md; last = h.last; is = ap (λ y. plain_chain src None y) h.is; joins = h.joins; at_it = h.at_it; goes = h.goes }

pub more_relations : {src : List ℕ} (c : Setting src) (st : List Frame) (lv : PendingOperators) (pl : OperandPlace) (ts us : List Lexeme) (p : Spot) (x : Cell Relation) (y : Relation) (xs : List (Cell Relation)) →
    AndAt c st lv pl ts (λ q. q ≡ chain ts x xs) → ((w : PendingOperators) → RelationAt c st w place.Operand us y) →
    AndAt c st lv pl (ts ++ one kind.AndAnd p ++ us) (λ q. q ≡ chain (ts ++ one kind.AndAnd p ++ us) x (xs ++ placed src us y ∷ []))
more_relations {src = src} c st lv pl ts us p x y xs h g =
    let begun : Option (Plain Relation) = Some (onward (chain ts x xs) (at p)) in
    let w = g (at_and lv begun None None None) in
    let lv' = at_and lv h.a h.r h.s h.m in
    record {
      a = begun;
      r = w.r;
      s = w.s;
      m = w.m;
      md = w.md;
      last = w.last;
      is = ap (λ z. plain_chain src begun z) w.is ∙ linked_more src ts us kind.AndAnd p x y xs;
      joins = w.joins;
      at_it = w.at_it;
      goes = three c (begin_at st (at_and lv None None None None) pl) _ (begin_at st (at_and lv begun None None None) place.Operand) _ ts (one kind.AndAnd p) us h.goes
          (met c st lv' h.md h.last kind.AndAnd p h.at_it refl ∙ conjoins src st lv' h.last (at p) h.joins
          ∙ ap (λ q. begin_at st (at_and lv (Some (onward q (at p))) None None None) place.Operand) h.is) w.goes;
    }

-- `||`

disjoins : (src : List ℕ) (st : List Frame) (lv : PendingOperators) (u : Operand) (e : Extent) {r : FollowSet} → Joins r → had src st lv u r operator.Or e ≡ Some (disjunction_beginning src st lv u e)
disjoins src st lv u e an_if = refl
disjoins src st lv u e all_joins = refl

pub one_ands : {src : List ℕ} (c : Setting src) (st : List Frame) (lv : PendingOperators) (pl : OperandPlace) (ts : List Lexeme) (x : And) →
    AndAt c st (at_or lv None None None None None) pl ts (λ q. made_and q ≡ closed ts x) → OrAt c st lv pl ts (λ q. q ≡ chain ts (placed src ts x) [])
one_ands {src = src} c st lv pl ts x h = record { o = None; a = h.a; r = h.r; s = h.s; m = h.m; md = h.md; last = h.last; is = ap (λ y. plain_chain src None y) h.is; joins = h.joins; at_it = h.at_it; goes = h.goes }

pub more_ands : {src : List ℕ} (c : Setting src) (st : List Frame) (lv : PendingOperators) (pl : OperandPlace) (ts us : List Lexeme) (p : Spot) (x : Cell And) (y : And) (xs : List (Cell And)) →
    OrAt c st lv pl ts (λ q. q ≡ chain ts x xs) → ((w : PendingOperators) → AndAt c st w place.Operand us (λ q. made_and q ≡ closed us y)) →
    OrAt c st lv pl (ts ++ one kind.OrOr p ++ us) (λ q. q ≡ chain (ts ++ one kind.OrOr p ++ us) x (xs ++ placed src us y ∷ []))
more_ands {src = src} c st lv pl ts us p x y xs h g =
    let begun : Option (Plain And) = Some (onward (chain ts x xs) (at p)) in
    let w = g (at_or lv begun None None None None) in
    let lv' = at_or lv h.o h.a h.r h.s h.m in
    record {
      o = begun;
      a = w.a;
      r = w.r;
      s = w.s;
      m = w.m;
      md = w.md;
      last = w.last;
      is = ap (λ z. plain_chain src begun z) w.is ∙ linked_more src ts us kind.OrOr p x y xs;
      joins = w.joins;
      at_it = w.at_it;
      goes = three c (begin_at st (at_or lv None None None None None) pl) _ (begin_at st (at_or lv begun None None None None) place.Operand) _ ts (one kind.OrOr p) us h.goes
          (met c st lv' h.md h.last kind.OrOr p h.at_it refl ∙ disjoins src st lv' h.last (at p) h.joins
          ∙ ap (λ q. begin_at st (at_or lv (Some (onward q (at p))) None None None None) place.Operand) h.is) w.goes;
    }

-- expressions

pub or_exprs : {src : List ℕ} (c : Setting src) (st : List Frame) (bs : List Branch) (pl : OperandPlace) (ts : List Lexeme) (x : Or) →
    OrAt c st (fresh bs) pl ts (λ q. made_or q ≡ closed ts x) → ExprAt c st bs pl ts (expr_of (placed src ts x))
or_exprs {src = src} c st bs pl ts x h = record {
  levels = at_or (fresh bs) h.o h.a h.r h.s h.m;
  md = h.md;
  last = h.last;
  is = ap (λ y. with_branches src bs (made_expr src y)) h.is;
  at_it = h.at_it;
  goes = h.goes;
}

if_extent : (ts us vs : List Lexeme) (l m n : Spot) →
    joint_extent (joint_extent (joint_extent (joint_extent (joint_extent (Some (at l)) (extent ts)) (Some (at m))) (extent us)) (Some (at n))) (extent vs) ≡ extent (one kind.If l ++ ts ++ one kind.Then m ++ us ++ one kind.Else n ++ vs)
if_extent ts us vs l m n =
    rw (extent-append (one kind.If l ++ ts ++ one kind.Then m ++ us ++ one kind.Else n) vs, extent-append (one kind.If l ++ ts ++ one kind.Then m ++ us) (one kind.Else n), extent-append (one kind.If l ++ ts ++ one kind.Then m) us, extent-append (one kind.If l ++ ts) (one kind.Then m), extent-append (one kind.If l) ts)

-- the guard of a conditional
guard_at : {src : List ℕ} (c : Setting src) (st : List Frame) (bs : List Branch) (pl : OperandPlace) (ts : List Lexeme) (l : Spot) (x : Expr) → is_first pl ≡ true → (h : ExprAt c (guard_frame bs l ∷ st) [] place.Expr ts x) →
    run c (Some (opening st bs pl)) (one kind.If l ++ ts) ≡ Some (state (guard_frame bs l ∷ st) h.levels h.md)
guard_at c st bs pl ts l x e h =
    let i = if_runs c st (fresh bs) pl l in
    two c (Some (opening st bs pl)) _ _ (one kind.If l) ts i.goes (guard_runs c st (fresh bs) pl l i e ts (guard_frame bs l ∷ st) h.levels h.md h.last h.at_it h.goes)

pub if_exprs : {src : List ℕ} (c : Setting src) (st : List Frame) (bs : List Branch) (pl : OperandPlace) (ts us vs : List Lexeme) (l m n : Spot) (x y z : Expr) → is_first pl ≡ true →
    ((f : Frame) → ExprAt c (f ∷ st) [] place.Expr ts x) → ((f : Frame) → ExprAt c (f ∷ st) [] place.Expr us y) → ((b : Branch) → ExprAt c st (b ∷ bs) place.Expr vs z) →
    ExprAt c st bs pl (one kind.If l ++ ts ++ one kind.Then m ++ us ++ one kind.Else n ++ vs) (if_of (placed src ts x) (placed src us y) (placed src vs z))
if_exprs {src = src} c st bs pl ts us vs l m n x y z e g h k =
    let q : Option Extent = joint_extent (joint_extent (Some (at l)) (extent ts)) (Some (at m)) in
    let yes : Then = record { branches = bs; guard = placed src ts x; extent = q } in
    let b : Branch = branch_of src yes (closed us y) (at n) in
    let in_guard = guard_frame bs l ∷ st in
    let in_then = frame.Then yes ∷ st in
    let i = g (guard_frame bs l) in
    let j = h (frame.Then yes) in
    let w = k b in
    record {
      levels = w.levels;
      md = w.md;
      last = w.last;
      is = w.is ∙ ap (λ q. with_branches src bs (spanned_tree q (if_of (placed src ts x) (placed src us y) (placed src vs z)))) (if_extent ts us vs l m n);
      at_it = w.at_it;
      goes = three c (Some (opening st bs pl)) _ (Some (opening st (b ∷ bs) place.Expr)) _ (one kind.If l ++ ts ++ one kind.Then m ++ us) (one kind.Else n) vs
          (three c (Some (opening st bs pl)) _ (Some (opening in_then [] place.Expr)) _ (one kind.If l ++ ts) (one kind.Then m) us (guard_at c st bs pl ts l x e i)
          (met c in_guard i.levels i.md i.last kind.Then m i.at_it refl ∙ ap (λ o. (frame_ending src in_guard o closing.Then (at m))) i.is) j.goes)
          (met c in_then j.levels j.md j.last kind.Else n j.at_it refl ∙ ap (λ o. (frame_ending src in_then o closing.Else (at n))) j.is) w.goes;
    }

-- the tree of a chain

pub and_made : {src : List ℕ} (c : Setting src) (st : List Frame) (lv : PendingOperators) (pl : OperandPlace) (ts : List Lexeme) (x : Cell Relation) (xs : List (Cell Relation)) →
    AndAt c st lv pl ts (λ q. q ≡ chain ts x xs) → AndAt c st lv pl ts (λ q. made_and q ≡ closed ts (and_of x xs))
and_made c st lv pl ts x xs h = record { a = h.a; r = h.r; s = h.s; m = h.m; md = h.md; last = h.last; is = ap (λ q. made_and q) h.is; joins = h.joins; at_it = h.at_it; goes = h.goes }

pub or_made : {src : List ℕ} (c : Setting src) (st : List Frame) (lv : PendingOperators) (pl : OperandPlace) (ts : List Lexeme) (x : Cell And) (xs : List (Cell And)) →
    OrAt c st lv pl ts (λ q. q ≡ chain ts x xs) → OrAt c st lv pl ts (λ q. made_or q ≡ closed ts (or_of x xs))
or_made c st lv pl ts x xs h = record { o = h.o; a = h.a; r = h.r; s = h.s; m = h.m; md = h.md; last = h.last; is = ap (λ q. made_or q) h.is; joins = h.joins; at_it = h.at_it; goes = h.goes }
