-- Relations: chains of comparisons, and the right sides of `has`, `like` and `is`.
use Rattle.std.specs.Prelude.{cond}
use Rattle.std.proofs.Common.{◌≡◌, ℕ, List, [], ◌∷◌, ◌++◌, Option, Some, None, true, false, refl, sym, ◌∙◌, ap, subst}
use Rattle.cedar_lexer.specs.Token.{Lexeme}
use Rattle.cedar_lexer.specs.declared.token.TokenKind.{TokenKind}
use Rattle.cedar_lexer.specs.declared.token.TokenKind.TheVariants as kind
use Rattle.cedar_expressions.specs.declared.operators.AddOp.{AddOp}
use Rattle.cedar_syntax.specs.declared.cst.RelOp.{RelOp}
use Rattle.cedar_syntax.specs.declared.cst.RelOp.TheVariants as rel
use Rattle.cedar_syntax.specs.declared.cst.Relation.{Relation}
use Rattle.cedar_syntax.specs.declared.cst.Add.{Add}
use Rattle.cedar_syntax.specs.declared.cst.MultOp.{MultOp}
use Rattle.cedar_syntax.specs.declared.cst.Mult.{Mult}
use Rattle.cedar_syntax.specs.declared.cst.Unary.{Unary}
use Rattle.cedar_syntax.specs.declared.cst.Member.{Member}
use Rattle.cedar_syntax.specs.declared.cst.MemAccess.{MemAccess}
use Rattle.cedar_grammar.specs.declared.reading.class.SideWord.{SideWord}
use Rattle.cedar_grammar.specs.declared.reading.class.SideWord.TheVariants as side
use Rattle.cedar_expression_machine.specs.declared.expression.state.Spanned.{Spanned}
use Rattle.cedar_expression_machine.specs.declared.expression.state.PendingChain.{PendingChain}
use Rattle.cedar_expression_machine.specs.declared.expression.state.PendingRelation.{PendingRelation}
use Rattle.cedar_expression_machine.specs.declared.expression.state.PendingRelation.TheVariants as left
use Rattle.cedar_expression_machine.specs.declared.expression.state.PendingOperators.{PendingOperators}
use Rattle.cedar_expression_machine.specs.declared.expression.state.Operand.{Operand}
use Rattle.cedar_expression_machine.specs.declared.expression.state.Frame.{Frame}
use Rattle.cedar_expression_machine.specs.declared.expression.state.OperandPlace.{OperandPlace}
use Rattle.cedar_expression_machine.specs.declared.expression.state.OperandPlace.TheVariants as place
use Rattle.cedar_expression_machine.specs.declared.expression.state.OperandMode.{OperandMode}
use Rattle.cedar_expression_machine.specs.declared.expression.state.OperandMode.TheVariants as mode
use Rattle.cedar_expression_machine.specs.declared.expression.state.FollowSet.TheVariants as follow_set
use Rattle.cedar_grammar.specs.declared.reading.extent.Extent.{Extent}
use Rattle.cedar_grammar.specs.grammar.Place.{joint_extent, extent, node_at, placed}
use Rattle.cedar_syntax.specs.tokens.Tokens.{Spot, one}
use Rattle.cedar_syntax.specs.trees.Trees.{Cell, common_of, has_of, like_of, is_of, add_of, mult_of, unary_of, member_of}
use Rattle.cedar_grammar.specs.grammar.LooseExpressions.{ReadsRelOp, less, less_eq, greater_eq, greater, not_eq, equal, within, single_eq, if_name, lone_add}
use Rattle.cedar_expression_machine.specs.machines.Closing.{spanned_tree, Marked, marked_chain, pending, unary_at, made_mult, made_add, made_common, relation_with_sum, add_at, levels_of, no_signs, operand_with, if_operand}
use Rattle.cedar_expression_machine.specs.machines.ExpressionStates.{state}
use Rattle.cedar_expression_machine.specs.machines.ExpressionPlans.{edge, may_compare}
use Rattle.cedar_expression_machine.specs.machines.Having.{comparison_beginning, left_beginning, before, side_of, side_place, side_beginning}
use Rattle.cedar_grammar.specs.declared.reading.class.FollowClass.TheVariants as operator
use Rattle.cedar_expression_machine.proofs.expressions.Stepping.{had}
use Rattle.cedar_expression_machine.specs.machines.ExpressionShapes.{relation_shape}
use Rattle.cedar_expression_machine.proofs.expressions.complete.Runs.{follow_set_at, chain_extent, extent-append, at, Setting, run, two, three, StandsAt, met, follow_set_at_edge, Joins, an_if, all_joins}
use Rattle.cedar_expression_machine.proofs.expressions.complete.Words.{closed}
use Rattle.cedar_expression_machine.proofs.expressions.complete.If.{if_runs, if_stands}
use Rattle.cedar_expression_machine.proofs.expressions.complete.Members.{AccessesAt}
use Rattle.cedar_expression_machine.proofs.expressions.complete.Sums.{chain, marked_more, begin_at, Goes, AddAt}

-- the left side that a chain of comparisons is
abbrev pub common_left : Option (PendingChain Add RelOp) → Option PendingRelation
common_left None = None
common_left (Some p) = Some (left.Common p)

abbrev pub at_relation : PendingOperators → Option PendingRelation → Option (PendingChain Mult AddOp) → Option (PendingChain Unary MultOp) → PendingOperators
at_relation lv r s m = levels_of lv.branches lv.or lv.and r s m

-- a chain of comparisons
pub record CommonAt {src : List ℕ} (c : Setting src) (st : List Frame) (lv : PendingOperators) (pl : OperandPlace) (ts : List Lexeme) (P : Marked Add RelOp → Type 0) : Type 0 where
  pub r : Option (PendingChain Add RelOp)
  pub s : Option (PendingChain Mult AddOp)
  pub m : Option (PendingChain Unary MultOp)
  pub md : OperandMode
  pub last : Operand
  pub is : P (marked_chain src r (made_add (marked_chain src s (made_mult (marked_chain src m (unary_at src last))))))
  pub free : last.is_if ≡ false
  pub at_it : StandsAt c st (at_relation lv (common_left r) s m) md last
  pub goes : Goes c st (at_relation lv None None None) pl ts (at_relation lv (common_left r) s m) md

-- any relation
pub record RelationAt {src : List ℕ} (c : Setting src) (st : List Frame) (lv : PendingOperators) (pl : OperandPlace) (ts : List Lexeme) (x : Relation) : Type 0 where
  pub r : Option PendingRelation
  pub s : Option (PendingChain Mult AddOp)
  pub m : Option (PendingChain Unary MultOp)
  pub md : OperandMode
  pub last : Operand
  pub is : relation_with_sum src r (made_add (marked_chain src s (made_mult (marked_chain src m (unary_at src last))))) ≡ closed ts x
  pub joins : Joins (follow_set_at c.symbol st last)
  pub at_it : StandsAt c st (at_relation lv r s m) md last
  pub goes : Goes c st (at_relation lv None None None) pl ts (at_relation lv r s m) md

pub whole_joins : {src : List ℕ} (c : Setting src) (st : List Frame) (m : Operand) → m.is_if ≡ false → edge c.symbol st ≡ follow_set.Whole → Joins (follow_set_at c.symbol st m)
whole_joins c st m f e = subst (λ r. Joins r) (sym (follow_set_at_edge c st m f ∙ e)) all_joins

-- comparisons

compares_so : (src : List ℕ) (st : List Frame) (lv : PendingOperators) (r : Option (PendingChain Add RelOp)) (x : Spanned Add) (o : RelOp) (e : Extent) →
    (comparison_beginning src st lv (common_left r) x o e) ≡ Some (left_beginning st lv (left.Common (pending (marked_chain src r x) o e)) place.Operand)
compares_so src st lv None x o e = refl
compares_so src st lv (Some p) x o e = refl

abbrev ComparesAs : {src : List ℕ} → Setting src → List Frame → PendingOperators → OperandMode → Operand → TokenKind → RelOp → Spot → Type 0
ComparesAs {src = src} c st lv md u k o p = run c (Some (state st lv md)) (one k p) ≡ had src st lv u (follow_set_at c.symbol st u) (operator.Compare o) (at p)

compare_runs : {src : List ℕ} (c : Setting src) (st : List Frame) (lv : PendingOperators) (md : OperandMode) (u : Operand) (p : Spot) {k : TokenKind} {o : RelOp} → ReadsRelOp k o → StandsAt c st lv md u → ComparesAs c st lv md u k o p
compare_runs c st lv md u p less h = met c st lv md u kind.Less p h refl
compare_runs c st lv md u p less_eq h = met c st lv md u kind.LessEq p h refl
compare_runs c st lv md u p greater_eq h = met c st lv md u kind.GreaterEq p h refl
compare_runs c st lv md u p greater h = met c st lv md u kind.Greater p h refl
compare_runs c st lv md u p not_eq h = met c st lv md u kind.NotEq p h refl
compare_runs c st lv md u p equal h = met c st lv md u kind.EqEq p h refl
compare_runs c st lv md u p within h = met c st lv md u kind.In p h refl
compare_runs c st lv md u p single_eq h = met c st lv md u kind.Eq p h refl

-- of a whole expression, where the left side lets it
compares : {src : List ℕ} (c : Setting src) (st : List Frame) (lv : PendingOperators) (md : OperandMode) (u : Operand) (p : Spot) {k : TokenKind} {o : RelOp} → ReadsRelOp k o → StandsAt c st lv md u → u.is_if ≡ false → edge c.symbol st ≡ follow_set.Whole →
    may_compare (relation_shape lv.relation) o ≡ true → run c (Some (state st lv md)) (one k p) ≡ comparison_beginning src st lv lv.relation (add_at src lv u) o (at p)
compares {src = src} c st lv md u p {o = o} r h f e l =
    compare_runs c st lv md u p r h ∙ ap (λ q. had src st lv u q (operator.Compare o) (at p)) (follow_set_at_edge c st u f ∙ e) ∙ ap (λ b. cond b (comparison_beginning src st lv lv.relation (add_at src lv u) o (at p)) None) l

may_go_on : (r : Option (PendingChain Add RelOp)) (o : RelOp) → may_compare (relation_shape (common_left r)) o ≡ true
may_go_on None o = refl
may_go_on (Some p) o = refl

pub one_adds : {src : List ℕ} (c : Setting src) (st : List Frame) (lv : PendingOperators) (pl : OperandPlace) (ts : List Lexeme) (x : Add) →
    AddAt c st (at_relation lv None None None) pl ts (λ q. made_add q ≡ closed ts x) → CommonAt c st lv pl ts (λ q. q ≡ chain ts (placed src ts x) [])
one_adds {src = src} c st lv pl ts x h = record { r = None; s = h.s; m = h.m; md = h.md; last = h.last; is = ap (λ y. marked_chain src None y) h.is; free = h.free; at_it = h.at_it; goes = h.goes }

pub more_adds : {src : List ℕ} (c : Setting src) (st : List Frame) (lv : PendingOperators) (pl : OperandPlace) (ts us : List Lexeme) (k : TokenKind) (o : RelOp) (p : Spot) (x : Cell Add) (y : Add) (xs : List (RelOp × Cell Add)) → edge c.symbol st ≡ follow_set.Whole →
    CommonAt c st lv pl ts (λ q. q ≡ chain ts x xs) → ReadsRelOp k o → ((w : PendingOperators) → AddAt c st w place.Operand us (λ q. made_add q ≡ closed us y)) →
    CommonAt c st lv pl (ts ++ one k p ++ us) (λ q. q ≡ chain (ts ++ one k p ++ us) x (xs ++ (o, placed src us y) ∷ []))
more_adds {src = src} c st lv pl ts us k o p x y xs e h r g =
    let begun : Option (PendingChain Add RelOp) = Some (pending (chain ts x xs) o (at p)) in
    let w = g (at_relation lv (common_left begun) None None) in
    let lv' = at_relation lv (common_left h.r) h.s h.m in
    record {
      r = begun;
      s = w.s;
      m = w.m;
      md = w.md;
      last = w.last;
      is = ap (λ z. marked_chain src begun z) w.is ∙ marked_more src ts us k p x o y xs;
      free = w.free;
      at_it = w.at_it;
      goes = three c (begin_at st (at_relation lv None None None) pl) _ (begin_at st (at_relation lv (common_left begun) None None) place.Operand) _ ts (one k p) us h.goes
          (compares c st lv' h.md h.last p r h.at_it h.free e (may_go_on h.r o) ∙ compares_so src st lv' h.r (add_at src lv' h.last) o (at p)
          ∙ ap (λ q. begin_at st (at_relation lv (Some (left.Common (pending q o (at p)))) None None) place.Operand) h.is) w.goes;
    }

commonly : (src : List ℕ) (r : Option (PendingChain Add RelOp)) (x : Spanned Add) → relation_with_sum src (common_left r) x ≡ made_common (marked_chain src r x)
commonly src None x = refl
commonly src (Some p) x = refl

pub commons : {src : List ℕ} (c : Setting src) (st : List Frame) (lv : PendingOperators) (pl : OperandPlace) (ts : List Lexeme) (x : Cell Add) (xs : List (RelOp × Cell Add)) → edge c.symbol st ≡ follow_set.Whole →
    CommonAt c st lv pl ts (λ q. q ≡ chain ts x xs) → RelationAt c st lv pl ts (common_of x xs)
commons {src = src} c st lv pl ts x xs e h = record {
  r = common_left h.r;
  s = h.s;
  m = h.m;
  md = h.md;
  last = h.last;
  is = commonly src h.r (made_add (marked_chain src h.s (made_mult (marked_chain src h.m (unary_at src h.last))))) ∙ ap (λ q. made_common q) h.is;
  joins = whole_joins c st h.last h.free e;
  at_it = h.at_it;
  goes = h.goes;
}

-- right sides

abbrev pub side_kind : SideWord → TokenKind
side_kind side.Has = kind.Has
side_kind side.Like = kind.Like
side_kind side.Is = kind.Is

abbrev pub side_tree : SideWord → Cell Add → Cell Add → Relation
side_tree side.Has x y = has_of x y
side_tree side.Like x y = like_of x y
side_tree side.Is x y = is_of x y None

-- a left side and the word behind it
abbrev pub left_with : List ℕ → SideWord → List Lexeme → Add → Spot → PendingRelation
left_with src s ts x p = side_of s (before src (closed ts x) (at p))

side_runs : {src : List ℕ} (c : Setting src) (st : List Frame) (lv : PendingOperators) (md : OperandMode) (u : Operand) (p : Spot) (s : SideWord) → StandsAt c st lv md u →
    run c (Some (state st lv md)) (one (side_kind s) p) ≡ had src st lv u (follow_set_at c.symbol st u) (operator.Side s) (at p)
side_runs c st lv md u p side.Has h = met c st lv md u kind.Has p h refl
side_runs c st lv md u p side.Like h = met c st lv md u kind.Like p h refl
side_runs c st lv md u p side.Is h = met c st lv md u kind.Is p h refl

-- a sum and the word behind it: the right side begins
pub side_begins : {src : List ℕ} (c : Setting src) (st : List Frame) (lv : PendingOperators) (pl : OperandPlace) (ts : List Lexeme) (x : Add) (s : SideWord) (p : Spot) → edge c.symbol st ≡ follow_set.Whole →
    AddAt c st (at_relation lv None None None) pl ts (λ q. made_add q ≡ closed ts x) →
    run c (begin_at st (at_relation lv None None None) pl) (ts ++ one (side_kind s) p) ≡ begin_at st (at_relation lv (Some (left_with src s ts x p)) None None) (side_place s)
side_begins {src = src} c st lv pl ts x s p e h =
    let lv' = at_relation lv None h.s h.m in
    two c (begin_at st (at_relation lv None None None) pl) _ _ ts (one (side_kind s) p) h.goes
    (side_runs c st lv' h.md h.last p s h.at_it ∙ ap (λ q. had src st lv' h.last q (operator.Side s) (at p)) (follow_set_at_edge c st h.last h.free ∙ e)
    ∙ ap (λ y. (side_beginning src st lv' None y s (at p))) h.is)

side_closed : (src : List ℕ) (ts us : List Lexeme) (x y : Add) (s : SideWord) (p : Spot) →
    relation_with_sum src (Some (left_with src s ts x p)) (closed us y) ≡ closed (ts ++ one (side_kind s) p ++ us) (side_tree s (placed src ts x) (placed src us y))
side_closed src ts us x y side.Has p = ap (λ q. spanned_tree q (has_of (placed src ts x) (placed src us y))) (chain_extent ts us kind.Has p)
side_closed src ts us x y side.Like p = ap (λ q. spanned_tree q (like_of (placed src ts x) (placed src us y))) (chain_extent ts us kind.Like p)
side_closed src ts us x y side.Is p = ap (λ q. spanned_tree q (is_of (placed src ts x) (placed src us y) None)) (chain_extent ts us kind.Is p)

pub sides : {src : List ℕ} (c : Setting src) (st : List Frame) (lv : PendingOperators) (pl : OperandPlace) (ts us : List Lexeme) (x y : Add) (s : SideWord) (p : Spot) → edge c.symbol st ≡ follow_set.Whole →
    AddAt c st (at_relation lv None None None) pl ts (λ q. made_add q ≡ closed ts x) → ((w : PendingOperators) → AddAt c st w (side_place s) us (λ q. made_add q ≡ closed us y)) →
    RelationAt c st lv pl (ts ++ one (side_kind s) p ++ us) (side_tree s (placed src ts x) (placed src us y))
sides {src = src} c st lv pl ts us x y s p e h g =
    let begun : Option PendingRelation = Some (left_with src s ts x p) in
    let w = g (at_relation lv begun None None) in
    record {
      r = begun;
      s = w.s;
      m = w.m;
      md = w.md;
      last = w.last;
      is = ap (λ z. relation_with_sum src begun z) w.is ∙ side_closed src ts us x y s p;
      joins = whole_joins c st w.last w.free e;
      at_it = w.at_it;
      goes = two c (begin_at st (at_relation lv None None None) pl) (begin_at st (at_relation lv begun None None) (side_place s)) _ (ts ++ one (side_kind s) p) us (side_begins c st lv pl ts x s p e h) w.goes;
    }

-- `has` and the word `if`: accesses alone go on behind it

abbrev lone_sum : List ℕ → Option Extent → Member → Add
lone_sum src e x = add_of (node_at src e (mult_of (node_at src e (unary_of None (node_at src e x))) [])) []

pub has_ifs : {src : List ℕ} (c : Setting src) (st : List Frame) (lv : PendingOperators) (pl : OperandPlace) (ts us : List Lexeme) (x : Add) (xs : List (Cell MemAccess)) (p q : Spot) → edge c.symbol st ≡ follow_set.Whole →
    AddAt c st (at_relation lv None None None) pl ts (λ q. made_add q ≡ closed ts x) →
    ((w : PendingOperators) (md : OperandMode) → StandsAt c st w md (if_operand src (Some (at q))) → AccessesAt c st w md no_signs (placed src (one kind.If q) (if_name src q)) (Some (at q)) true us xs) →
    RelationAt c st lv pl (ts ++ one kind.Has p ++ (one kind.If q ++ us))
    (has_of (placed src ts x) (placed src (one kind.If q ++ us) (lone_add src (one kind.If q ++ us) (member_of (placed src (one kind.If q) (if_name src q)) xs))))
has_ifs {src = src} c st lv pl ts us x xs p q e h g =
    let begun : Option PendingRelation = Some (left_with src side.Has ts x p) in
    let lv' = at_relation lv begun None None in
    let i = if_runs c st lv' place.Has q in
    let w = g lv' (mode.Word place.Has no_signs i.last) (if_stands c st lv' q i) in
    let x' : Member = member_of (placed src (one kind.If q) (if_name src q)) xs in
    record {
      r = begun;
      s = None;
      m = None;
      md = w.after;
      last = operand_with no_signs (placed src (one kind.If q) (if_name src q)) xs (joint_extent (Some (at q)) (extent us)) true;
      is = ap (λ z. relation_with_sum src begun (spanned_tree z (lone_sum src z x'))) (sym (extent-append (one kind.If q) us)) ∙ side_closed src ts (one kind.If q ++ us) x (lone_add src (one kind.If q ++ us) x') side.Has p;
      joins = an_if;
      at_it = w.at_it;
      goes = two c (begin_at st (at_relation lv None None None) pl) (begin_at st lv' place.Has) _ (ts ++ one kind.Has p) (one kind.If q ++ us) (side_begins c st lv pl ts x side.Has p e h)
          (two c (begin_at st lv' place.Has) _ _ (one kind.If q) us i.goes w.goes);
    }

-- `is` and a type, and `in`

pub is_ins : {src : List ℕ} (c : Setting src) (st : List Frame) (lv : PendingOperators) (pl : OperandPlace) (ts us vs : List Lexeme) (x y z : Add) (p q : Spot) → edge c.symbol st ≡ follow_set.Whole →
    AddAt c st (at_relation lv None None None) pl ts (λ q. made_add q ≡ closed ts x) → ((w : PendingOperators) → AddAt c st w place.Operand us (λ q. made_add q ≡ closed us y)) →
    ((w : PendingOperators) → AddAt c st w place.Operand vs (λ q. made_add q ≡ closed vs z)) →
    RelationAt c st lv pl (ts ++ one kind.Is p ++ us ++ one kind.In q ++ vs) (is_of (placed src ts x) (placed src us y) (Some (placed src vs z)))
is_ins {src = src} c st lv pl ts us vs x y z p q e h g k =
    let first : Option PendingRelation = Some (left_with src side.Is ts x p) in
    let i = g (at_relation lv first None None) in
    let lv' = at_relation lv first i.s i.m in
    let so_far : List Lexeme = ts ++ one kind.Is p ++ us in
    let begun : Option PendingRelation = Some (left.IsIn (placed src ts x) (placed src us y) (joint_extent (joint_extent (joint_extent (extent ts) (Some (at p))) (extent us)) (Some (at q)))) in
    let w = k (at_relation lv begun None None) in
    record {
      r = begun;
      s = w.s;
      m = w.m;
      md = w.md;
      last = w.last;
      is = ap (λ o. relation_with_sum src begun o) w.is
          ∙ ap (λ o. spanned_tree (joint_extent (joint_extent o (Some (at q))) (extent vs)) (is_of (placed src ts x) (placed src us y) (Some (placed src vs z)))) (chain_extent ts us kind.Is p)
          ∙ ap (λ o. spanned_tree o (is_of (placed src ts x) (placed src us y) (Some (placed src vs z)))) (chain_extent so_far vs kind.In q);
      joins = whole_joins c st w.last w.free e;
      at_it = w.at_it;
      goes = three c (begin_at st (at_relation lv None None None) pl) (Some (state st lv' i.md)) (begin_at st (at_relation lv begun None None) place.Operand) _ so_far (one kind.In q) vs
          (two c (begin_at st (at_relation lv None None None) pl) (begin_at st (at_relation lv first None None) place.Operand) _ (ts ++ one kind.Is p) us (side_begins c st lv pl ts x side.Is p e h) i.goes)
          (compares c st lv' i.md i.last q within i.at_it i.free e refl ∙ ap (λ o. (comparison_beginning src st lv' first o rel.In (at q))) i.is) w.goes;
    }
