-- Products and sums: the machine has come to a last operand, and with it the levels begun are what
-- is read.
use Rattle.std.proofs.Common.{◌≡◌, ℕ, List, [], ◌∷◌, ◌++◌, Option, Some, None, false, refl, sym, ◌∙◌, ap, subst}
use Rattle.cedar_lexer.specs.Token.{Lexeme}
use Rattle.cedar_lexer.specs.declared.token.TokenKind.{TokenKind}
use Rattle.cedar_lexer.specs.declared.token.TokenKind.TheVariants as kind
use Rattle.cedar_expressions.specs.declared.operators.AddOp.{AddOp}
use Rattle.cedar_expressions.specs.declared.operators.AddOp.TheVariants as sum
use Rattle.cedar_syntax.specs.declared.cst.MultOp.{MultOp}
use Rattle.cedar_syntax.specs.declared.cst.MultOp.TheVariants as product
use Rattle.cedar_syntax.specs.declared.cst.Mult.{Mult}
use Rattle.cedar_syntax.specs.declared.cst.Unary.{Unary}
use Rattle.cedar_expression_machine.specs.declared.expression.state.Chain.{Chain}
use Rattle.cedar_expression_machine.specs.declared.expression.state.PendingChain.{PendingChain}
use Rattle.cedar_expression_machine.specs.declared.expression.state.PendingOperators.{PendingOperators}
use Rattle.cedar_expression_machine.specs.declared.expression.state.Operand.{Operand}
use Rattle.cedar_expression_machine.specs.declared.expression.state.Frame.{Frame}
use Rattle.cedar_expression_machine.specs.declared.expression.state.OperandPlace.{OperandPlace}
use Rattle.cedar_expression_machine.specs.declared.expression.state.OperandPlace.TheVariants as place
use Rattle.cedar_expression_machine.specs.declared.expression.state.OperandMode.{OperandMode}
use Rattle.cedar_expression_machine.specs.declared.expression.state.State.{State}
use Rattle.cedar_expression_machine.specs.declared.expression.state.FollowSet.{FollowSet}
use Rattle.cedar_grammar.specs.declared.reading.extent.Extent.{Extent}
use Rattle.cedar_grammar.specs.grammar.Place.{extent, placed}
use Rattle.cedar_syntax.specs.tokens.Tokens.{Spot, one}
use Rattle.cedar_syntax.specs.trees.Trees.{Cell, add_of, mult_of}
use Rattle.cedar_grammar.specs.grammar.LooseExpressions.{ReadsAddOp, plus, minus, ReadsMultOp, times, divide, modulo}
use Rattle.cedar_expression_machine.specs.machines.Closing.{Marked, plain_chain, marked_chain, onward, pending, unary_at, made_mult, made_add, levels_of}
use Rattle.cedar_expression_machine.specs.machines.ExpressionStates.{state, wants}
use Rattle.cedar_expression_machine.specs.machines.ExpressionPlans.{edge}
use Rattle.cedar_expression_machine.specs.machines.Having.{product_beginning, sum_beginning}
use Rattle.cedar_grammar.specs.declared.reading.class.FollowClass.TheVariants as operator
use Rattle.cedar_expression_machine.proofs.expressions.Stepping.{had}
use Rattle.cedar_expression_machine.proofs.expressions.complete.Runs.{follow_set_at, chain_extent, at, Setting, run, three, StandsAt, met, Sums, a_sum, a_whole, follow_set_at_edge}
use Rattle.cedar_expression_machine.proofs.expressions.complete.Words.{closed}
use Rattle.cedar_expression_machine.proofs.expressions.complete.Members.{UnaryAt}

-- a chain that reads some tokens
abbrev pub chain : {T I : Type 0} → List Lexeme → Cell T → List I → Chain T I
chain ts x xs = record { initial = x; extended = xs; extent = extent ts }

pub linked_more : {T : Type 0} (src : List ℕ) (ts us : List Lexeme) (k : TokenKind) (p : Spot) (x : Cell T) (y : T) (xs : List (Cell T)) →
    plain_chain src (Some (onward (chain ts x xs) (at p))) (closed us y) ≡ chain (ts ++ one k p ++ us) x (xs ++ placed src us y ∷ [])
linked_more src ts us k p x y xs = ap (λ q. record { initial = x; extended = xs ++ placed src us y ∷ []; extent = q }) (chain_extent ts us k p)

pub marked_more : {T O : Type 0} (src : List ℕ) (ts us : List Lexeme) (k : TokenKind) (p : Spot) (x : Cell T) (o : O) (y : T) (xs : List (O × Cell T)) →
    marked_chain src (Some (pending (chain ts x xs) o (at p))) (closed us y) ≡ chain (ts ++ one k p ++ us) x (xs ++ (o, placed src us y) ∷ [])
marked_more src ts us k p x o y xs = ap (λ q. record { initial = x; extended = xs ++ (o, placed src us y) ∷ []; extent = q }) (chain_extent ts us k p)

abbrev pub at_mult : PendingOperators → Option (PendingChain Unary MultOp) → PendingOperators
at_mult lv m = levels_of lv.branches lv.or lv.and lv.relation lv.add m

abbrev pub at_add : PendingOperators → Option (PendingChain Mult AddOp) → Option (PendingChain Unary MultOp) → PendingOperators
at_add lv s m = levels_of lv.branches lv.or lv.and lv.relation s m

abbrev pub begin_at : List Frame → PendingOperators → OperandPlace → Option State
begin_at st lv pl = Some (state st lv (wants pl))

abbrev pub Goes : {src : List ℕ} → Setting src → List Frame → PendingOperators → OperandPlace → List Lexeme → PendingOperators → OperandMode → Type 0
Goes c st lv pl ts lv' md = run c (begin_at st lv pl) ts ≡ Some (state st lv' md)

pub record MultAt {src : List ℕ} (c : Setting src) (st : List Frame) (lv : PendingOperators) (pl : OperandPlace) (ts : List Lexeme) (P : Marked Unary MultOp → Type 0) : Type 0 where
  pub m : Option (PendingChain Unary MultOp)
  pub md : OperandMode
  pub last : Operand
  pub is : P (marked_chain src m (unary_at src last))
  pub free : last.is_if ≡ false
  pub at_it : StandsAt c st (at_mult lv m) md last
  pub goes : Goes c st (at_mult lv None) pl ts (at_mult lv m) md

pub record AddAt {src : List ℕ} (c : Setting src) (st : List Frame) (lv : PendingOperators) (pl : OperandPlace) (ts : List Lexeme) (P : Marked Mult AddOp → Type 0) : Type 0 where
  pub s : Option (PendingChain Mult AddOp)
  pub m : Option (PendingChain Unary MultOp)
  pub md : OperandMode
  pub last : Operand
  pub is : P (marked_chain src s (made_mult (marked_chain src m (unary_at src last))))
  pub free : last.is_if ≡ false
  pub at_it : StandsAt c st (at_add lv s m) md last
  pub goes : Goes c st (at_add lv None None) pl ts (at_add lv s m) md

pub sums_of : {src : List ℕ} (c : Setting src) (st : List Frame) (m : Operand) → m.is_if ≡ false → Sums (edge c.symbol st) → Sums (follow_set_at c.symbol st m)
sums_of c st m e s = subst (λ r. Sums r) (sym (follow_set_at_edge c st m e)) s

-- products

multiplies : (src : List ℕ) (st : List Frame) (lv : PendingOperators) (u : Operand) (o : MultOp) (e : Extent) {r : FollowSet} → Sums r → had src st lv u r (operator.Multiply o) e ≡ Some (product_beginning src st lv u o e)
multiplies src st lv u o e a_sum = refl
multiplies src st lv u o e a_whole = refl

multiply_runs : {src : List ℕ} (c : Setting src) (st : List Frame) (lv : PendingOperators) (md : OperandMode) (u : Operand) (p : Spot) {k : TokenKind} {o : MultOp} → ReadsMultOp k o → StandsAt c st lv md u → Sums (follow_set_at c.symbol st u) →
    run c (Some (state st lv md)) (one k p) ≡ Some (product_beginning src st lv u o (at p))
multiply_runs {src = src} c st lv md u p times h s = met c st lv md u kind.Star p h refl ∙ multiplies src st lv u product.Times (at p) s
multiply_runs {src = src} c st lv md u p divide h s = met c st lv md u kind.Slash p h refl ∙ multiplies src st lv u product.Divide (at p) s
multiply_runs {src = src} c st lv md u p modulo h s = met c st lv md u kind.Percent p h refl ∙ multiplies src st lv u product.Mod (at p) s

pub one_unaries : {src : List ℕ} (c : Setting src) (st : List Frame) (lv : PendingOperators) (pl : OperandPlace) (ts : List Lexeme) (x : Unary) →
    UnaryAt c st (at_mult lv None) pl ts x → MultAt c st lv pl ts (λ q. q ≡ chain ts (placed src ts x) [])
one_unaries {src = src} c st lv pl ts x h = record { m = None; md = h.md; last = h.last; is = ap (λ y. marked_chain src None y) h.is; free = h.free; at_it = h.at_it; goes = h.goes }

pub more_unaries : {src : List ℕ} (c : Setting src) (st : List Frame) (lv : PendingOperators) (pl : OperandPlace) (ts us : List Lexeme) (k : TokenKind) (o : MultOp) (p : Spot) (x : Cell Unary) (y : Unary) (xs : List (MultOp × Cell Unary)) → Sums (edge c.symbol st) →
    MultAt c st lv pl ts (λ q. q ≡ chain ts x xs) → ReadsMultOp k o → ((w : PendingOperators) → UnaryAt c st w place.Operand us y) →
    MultAt c st lv pl (ts ++ one k p ++ us) (λ q. q ≡ chain (ts ++ one k p ++ us) x (xs ++ (o, placed src us y) ∷ []))
more_unaries {src = src} c st lv pl ts us k o p x y xs e h r g =
    let begun : Option (PendingChain Unary MultOp) = Some (pending (chain ts x xs) o (at p)) in
    let w = g (at_mult lv begun) in
    record {
      m = begun;
      md = w.md;
      last = w.last;
      is = ap (λ z. marked_chain src begun z) w.is ∙ marked_more src ts us k p x o y xs;
      free = w.free;
      at_it = w.at_it;
      goes = three c (begin_at st (at_mult lv None) pl) _ (begin_at st (at_mult lv begun) place.Operand) _ ts (one k p) us h.goes
          (multiply_runs c st (at_mult lv h.m) h.md h.last p r h.at_it (sums_of c st h.last h.free e) ∙ ap (λ q. begin_at st (at_mult lv (Some (pending q o (at p)))) place.Operand) h.is) w.goes;
    }

-- sums

sums_up : (src : List ℕ) (st : List Frame) (lv : PendingOperators) (u : Operand) (o : AddOp) (e : Extent) {r : FollowSet} → Sums r → had src st lv u r (operator.Sum o) e ≡ Some (sum_beginning src st lv u o e)
sums_up src st lv u o e a_sum = refl
sums_up src st lv u o e a_whole = refl

sum_runs : {src : List ℕ} (c : Setting src) (st : List Frame) (lv : PendingOperators) (md : OperandMode) (u : Operand) (p : Spot) {k : TokenKind} {o : AddOp} → ReadsAddOp k o → StandsAt c st lv md u → Sums (follow_set_at c.symbol st u) →
    run c (Some (state st lv md)) (one k p) ≡ Some (sum_beginning src st lv u o (at p))
sum_runs {src = src} c st lv md u p plus h s = met c st lv md u kind.Plus p h refl ∙ sums_up src st lv u sum.Plus (at p) s
sum_runs {src = src} c st lv md u p minus h s = met c st lv md u kind.Minus p h refl ∙ sums_up src st lv u sum.Minus (at p) s

pub one_mults : {src : List ℕ} (c : Setting src) (st : List Frame) (lv : PendingOperators) (pl : OperandPlace) (ts : List Lexeme) (x : Mult) →
    MultAt c st (at_add lv None None) pl ts (λ q. made_mult q ≡ closed ts x) → AddAt c st lv pl ts (λ q. q ≡ chain ts (placed src ts x) [])
one_mults {src = src} c st lv pl ts x h = record { s = None; m = h.m; md = h.md; last = h.last; is = ap (λ y. marked_chain src None y) h.is; free = h.free; at_it = h.at_it; goes = h.goes }

pub more_mults : {src : List ℕ} (c : Setting src) (st : List Frame) (lv : PendingOperators) (pl : OperandPlace) (ts us : List Lexeme) (k : TokenKind) (o : AddOp) (p : Spot) (x : Cell Mult) (y : Mult) (xs : List (AddOp × Cell Mult)) → Sums (edge c.symbol st) →
    AddAt c st lv pl ts (λ q. q ≡ chain ts x xs) → ReadsAddOp k o → ((w : PendingOperators) → MultAt c st w place.Operand us (λ q. made_mult q ≡ closed us y)) →
    AddAt c st lv pl (ts ++ one k p ++ us) (λ q. q ≡ chain (ts ++ one k p ++ us) x (xs ++ (o, placed src us y) ∷ []))
more_mults {src = src} c st lv pl ts us k o p x y xs e h r g =
    let begun : Option (PendingChain Mult AddOp) = Some (pending (chain ts x xs) o (at p)) in
    let w = g (at_add lv begun None) in
    record {
      s = begun;
      m = w.m;
      md = w.md;
      last = w.last;
      is = ap (λ z. marked_chain src begun z) w.is ∙ marked_more src ts us k p x o y xs;
      free = w.free;
      at_it = w.at_it;
      goes = three c (begin_at st (at_add lv None None) pl) _ (begin_at st (at_add lv begun None) place.Operand) _ ts (one k p) us h.goes
          (sum_runs c st (at_add lv h.s h.m) h.md h.last p r h.at_it (sums_of c st h.last h.free e) ∙ ap (λ q. begin_at st (at_add lv (Some (pending q o (at p))) None) place.Operand) h.is) w.goes;
    }

-- the tree of a chain

pub mult_made : {src : List ℕ} (c : Setting src) (st : List Frame) (lv : PendingOperators) (pl : OperandPlace) (ts : List Lexeme) (x : Cell Unary) (xs : List (MultOp × Cell Unary)) →
    MultAt c st lv pl ts (λ q. q ≡ chain ts x xs) → MultAt c st lv pl ts (λ q. made_mult q ≡ closed ts (mult_of x xs))
mult_made c st lv pl ts x xs h = record { m = h.m; md = h.md; last = h.last; is = ap (λ q. made_mult q) h.is; free = h.free; at_it = h.at_it; goes = h.goes }

pub add_made : {src : List ℕ} (c : Setting src) (st : List Frame) (lv : PendingOperators) (pl : OperandPlace) (ts : List Lexeme) (x : Cell Mult) (xs : List (AddOp × Cell Mult)) →
    AddAt c st lv pl ts (λ q. q ≡ chain ts x xs) → AddAt c st lv pl ts (λ q. made_add q ≡ closed ts (add_of x xs))
add_made c st lv pl ts x xs h = record { s = h.s; m = h.m; md = h.md; last = h.last; is = ap (λ q. made_add q) h.is; free = h.free; at_it = h.at_it; goes = h.goes }
