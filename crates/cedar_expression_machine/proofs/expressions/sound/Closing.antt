-- Levels that have read some tokens, closed with an operand: the tree is one of the grammar.
use Rattle.std.proofs.Common.{◌≡◌, ℕ, List, [], ◌∷◌, ◌++◌, Option, Some, None, sym, ap, subst, append_assoc}
use Rattle.std.proofs.lemmas.List.{append-nil}
use Rattle.cedar_lexer.specs.Token.{Lexeme}
use Rattle.cedar_lexer.specs.declared.token.TokenKind.{TokenKind}
use Rattle.cedar_lexer.specs.declared.token.TokenKind.TheVariants as kind
use Rattle.cedar_expressions.specs.declared.operators.AddOp.{AddOp}
use Rattle.cedar_syntax.specs.declared.cst.Expr.{Expr}
use Rattle.cedar_syntax.specs.declared.cst.Or.{Or}
use Rattle.cedar_syntax.specs.declared.cst.And.{And}
use Rattle.cedar_syntax.specs.declared.cst.RelOp.{RelOp}
use Rattle.cedar_syntax.specs.declared.cst.Relation.{Relation}
use Rattle.cedar_syntax.specs.declared.cst.Add.{Add}
use Rattle.cedar_syntax.specs.declared.cst.MultOp.{MultOp}
use Rattle.cedar_syntax.specs.declared.cst.Mult.{Mult}
use Rattle.cedar_syntax.specs.declared.cst.NegOp.{NegOp}
use Rattle.cedar_syntax.specs.declared.cst.Unary.{Unary}
use Rattle.cedar_syntax.specs.declared.cst.Member.{Member}
use Rattle.cedar_expression_machine.specs.declared.expression.state.Spanned.{Spanned}
use Rattle.cedar_expression_machine.specs.declared.expression.state.PendingChain.{PendingChain}
use Rattle.cedar_expression_machine.specs.declared.expression.state.Branch.{Branch}
use Rattle.cedar_expression_machine.specs.declared.expression.state.PendingRelation.{PendingRelation}
use Rattle.cedar_expression_machine.specs.declared.expression.state.PendingRelation.TheVariants as left
use Rattle.cedar_expression_machine.specs.declared.expression.state.PendingOperators.{PendingOperators}
use Rattle.cedar_expression_machine.specs.declared.expression.state.Operand.{Operand}
use Rattle.cedar_grammar.specs.declared.reading.extent.Extent.{Extent}
use Rattle.cedar_grammar.specs.grammar.Place.{joint_extent, extent, placed}
use Rattle.cedar_syntax.specs.tokens.Tokens.{Spot, one}
use Rattle.cedar_syntax.specs.trees.Trees.{Cell, if_of, unary_of}
use Rattle.cedar_grammar.specs.grammar.LooseExpressions.{ReadsRelOp, ReadsAddOp, ReadsMultOp, ReadsExpr, or_expr, if_expr, ReadsOr, or, ReadsAnds, one_and, more_and, ReadsAnd, and, ReadsRelations, one_relation, more_relation, ReadsRelation, common, has, has_if, like, is, is_in, ReadsAdds, one_add, more_add, ReadsAdd, add, ReadsMults, one_mult, more_mult, ReadsMult, mult, ReadsUnaries, one_unary, more_unary, ReadsUnary, plain, banged, dashed, member}
use Rattle.cedar_expression_machine.specs.machines.Closing.{spanned_tree, Plain, Marked, plain_chain, marked_chain, onward, pending, unary_at, made_mult, made_add, made_common, relation_with_sum, made_and, made_or, made_expr, with_branches, add_at, whole, levels_of, fresh}
use Rattle.cedar_expression_machine.specs.machines.Having.{before}
use Rattle.cedar_expression_machine.proofs.expressions.Basics.{extent-append, chain_extent}
use Rattle.cedar_expression_machine.proofs.expressions.sound.Begun.{at, closed, chain, Reading, reads, Chained, chained, BegunMult, no_mult, begun_mult, BegunAdd, no_add, begun_add, BegunRelation, no_left, comparing, having_field, being_like, being, being_in, BegunAnd, no_and, begun_and, BegunOr, no_or, begun_or, BegunBranches, no_branch, branch, BegunSum, in_sum, BegunLevels, levels, BegunHas, has_begun, no_sign, begun_bangs, begun_dashes, BegunOperand, begun_operand, BegunIf, begun_if}

pub linked_more : {T : Type 0} (src : List ℕ) (ts us : List Lexeme) (k : TokenKind) (p : Spot) (x : Cell T) (y : T) (xs : List (Cell T)) →
    plain_chain src (Some (onward (chain ts x xs) (at p))) (closed us y) ≡ chain (ts ++ one k p ++ us) x (xs ++ placed src us y ∷ [])
linked_more src ts us k p x y xs = ap (λ q. record { initial = x; extended = xs ++ placed src us y ∷ []; extent = q }) (chain_extent ts us k p)

pub marked_more : {T O : Type 0} (src : List ℕ) (ts us : List Lexeme) (k : TokenKind) (p : Spot) (x : Cell T) (o : O) (y : T) (xs : List (O × Cell T)) →
    marked_chain src (Some (pending (chain ts x xs) o (at p))) (closed us y) ≡ chain (ts ++ one k p ++ us) x (xs ++ (o, placed src us y) ∷ [])
marked_more src ts us k p x o y xs = ap (λ q. record { initial = x; extended = xs ++ (o, placed src us y) ∷ []; extent = q }) (chain_extent ts us k p)

-- a tree elsewhere than where its tokens are
pub at_extent : {T : Type 0} {R : List Lexeme → T → Type 0} {ts : List Lexeme} {x : T} (e : Option Extent) → extent ts ≡ e → R ts x → Reading R ts (spanned_tree e x)
at_extent {R = R} {ts = ts} {x = x} e q r = subst (λ z. Reading R ts (spanned_tree z x)) q (reads r)

-- a level and one more operand

pub mult_link : {src : List ℕ} {ts us : List Lexeme} {m : Option (PendingChain Unary MultOp)} {x : Spanned Unary} → BegunMult src ts m → Reading (ReadsUnary src) us x →
    Chained (ReadsUnaries src) (ts ++ us) (marked_chain src m x)
mult_link no_mult (reads r) = chained (one_unary r)
mult_link {src = src} (begun_mult {ts = ts} {k = k} {o = o} {x = x} {xs = xs} p b w) (reads {ts = us} {x = y} r) =
    subst (λ c. Chained (ReadsUnaries src) (ts ++ one k p ++ us) c) (sym (marked_more src ts us k p x o y xs)) (chained (more_unary p b w r))

pub mult_close : {src : List ℕ} {ts : List Lexeme} {c : Marked Unary MultOp} → Chained (ReadsUnaries src) ts c → Reading (ReadsMult src) ts (made_mult c)
mult_close (chained r) = reads (mult r)

pub mult_onward : {src : List ℕ} {ts : List Lexeme} {c : Marked Unary MultOp} {k : TokenKind} {o : MultOp} (p : Spot) → Chained (ReadsUnaries src) ts c → ReadsMultOp k o →
    BegunMult src (ts ++ one k p) (Some (pending c o (at p)))
mult_onward p (chained r) w = begun_mult p r w

pub add_link : {src : List ℕ} {ts us : List Lexeme} {s : Option (PendingChain Mult AddOp)} {x : Spanned Mult} → BegunAdd src ts s → Reading (ReadsMult src) us x →
    Chained (ReadsMults src) (ts ++ us) (marked_chain src s x)
add_link no_add (reads r) = chained (one_mult r)
add_link {src = src} (begun_add {ts = ts} {k = k} {o = o} {x = x} {xs = xs} p b w) (reads {ts = us} {x = y} r) =
    subst (λ c. Chained (ReadsMults src) (ts ++ one k p ++ us) c) (sym (marked_more src ts us k p x o y xs)) (chained (more_mult p b w r))

pub add_close : {src : List ℕ} {ts : List Lexeme} {c : Marked Mult AddOp} → Chained (ReadsMults src) ts c → Reading (ReadsAdd src) ts (made_add c)
add_close (chained r) = reads (add r)

pub add_onward : {src : List ℕ} {ts : List Lexeme} {c : Marked Mult AddOp} {k : TokenKind} {o : AddOp} (p : Spot) → Chained (ReadsMults src) ts c → ReadsAddOp k o →
    BegunAdd src (ts ++ one k p) (Some (pending c o (at p)))
add_onward p (chained r) w = begun_add p r w

-- relations

abbrev Compared : List ℕ → List Lexeme → Option (PendingChain Add RelOp) → Type 0
Compared src ts q = (us : List Lexeme) (x : Spanned Add) → Reading (ReadsAdd src) us x → Chained (ReadsAdds src) (ts ++ us) (marked_chain src q x)

pub compare_first : {src : List ℕ} → Compared src [] None
compare_first us x (reads r) = chained (one_add r)

pub compare_more : {src : List ℕ} {ts : List Lexeme} {k : TokenKind} {o : RelOp} {x : Cell Add} {xs : List (RelOp × Cell Add)} (p : Spot) → ReadsAdds src ts x xs → ReadsRelOp k o →
    Compared src (ts ++ one k p) (Some (pending (chain ts x xs) o (at p)))
compare_more {src = src} {ts = ts} {k = k} {o = o} {x = x} {xs = xs} p b w us z (reads {x = y} r) =
    subst (λ c. Chained (ReadsAdds src) (ts ++ one k p ++ us) c) (sym (marked_more src ts us k p x o y xs)) (chained (more_add p b w r))

pub common_close : {src : List ℕ} {ts : List Lexeme} {c : Marked Add RelOp} → Chained (ReadsAdds src) ts c → Reading (ReadsRelation src) ts (made_common c)
common_close (chained r) = reads (common r)

pub compare_onward : {src : List ℕ} {ts : List Lexeme} {c : Marked Add RelOp} {k : TokenKind} {o : RelOp} (p : Spot) → Chained (ReadsAdds src) ts c → ReadsRelOp k o →
    BegunRelation src (ts ++ one k p) (Some (left.Common (pending c o (at p))))
compare_onward p (chained r) w = comparing p r w

pub relation_close : {src : List ℕ} {ts us : List Lexeme} {q : Option PendingRelation} {x : Spanned Add} → BegunRelation src ts q → Reading (ReadsAdd src) us x → Reading (ReadsRelation src) (ts ++ us) (relation_with_sum src q x)
relation_close no_left r = common_close (compare_first _ _ r)
relation_close (comparing p b w) r = common_close (compare_more p b w _ _ r)
relation_close (having_field {ts = ts} p b) (reads {ts = us} r) = at_extent _ (sym (chain_extent ts us kind.Has p)) (has p b r)
relation_close (being_like {ts = ts} p b) (reads {ts = us} r) = at_extent _ (sym (chain_extent ts us kind.Like p)) (like p b r)
relation_close (being {ts = ts} p b) (reads {ts = us} r) = at_extent _ (sym (chain_extent ts us kind.Is p)) (is p b r)
relation_close (being_in {ts = ts} {us = us} p q b c) (reads {ts = vs} r) = at_extent _ (extent-append (ts ++ one kind.Is p ++ us ++ one kind.In q) vs) (is_in p q b c r)

pub and_link : {src : List ℕ} {ts us : List Lexeme} {a : Option (Plain Relation)} {x : Spanned Relation} → BegunAnd src ts a → Reading (ReadsRelation src) us x →
    Chained (ReadsRelations src) (ts ++ us) (plain_chain src a x)
and_link no_and (reads r) = chained (one_relation r)
and_link {src = src} (begun_and {ts = ts} {x = x} {xs = xs} p b) (reads {ts = us} {x = y} r) =
    subst (λ c. Chained (ReadsRelations src) (ts ++ one kind.AndAnd p ++ us) c) (sym (linked_more src ts us kind.AndAnd p x y xs)) (chained (more_relation p b r))

pub and_close : {src : List ℕ} {ts : List Lexeme} {c : Plain Relation} → Chained (ReadsRelations src) ts c → Reading (ReadsAnd src) ts (made_and c)
and_close (chained r) = reads (and r)

pub and_onward : {src : List ℕ} {ts : List Lexeme} {c : Plain Relation} (p : Spot) → Chained (ReadsRelations src) ts c → BegunAnd src (ts ++ one kind.AndAnd p) (Some (onward c (at p)))
and_onward p (chained r) = begun_and p r

pub or_link : {src : List ℕ} {ts us : List Lexeme} {o : Option (Plain And)} {x : Spanned And} → BegunOr src ts o → Reading (ReadsAnd src) us x →
    Chained (ReadsAnds src) (ts ++ us) (plain_chain src o x)
or_link no_or (reads r) = chained (one_and r)
or_link {src = src} (begun_or {ts = ts} {x = x} {xs = xs} p b) (reads {ts = us} {x = y} r) =
    subst (λ c. Chained (ReadsAnds src) (ts ++ one kind.OrOr p ++ us) c) (sym (linked_more src ts us kind.OrOr p x y xs)) (chained (more_and p b r))

pub or_close : {src : List ℕ} {ts : List Lexeme} {c : Plain And} → Chained (ReadsAnds src) ts c → Reading (ReadsOr src) ts (made_or c)
or_close (chained r) = reads (or r)

pub or_onward : {src : List ℕ} {ts : List Lexeme} {c : Plain And} (p : Spot) → Chained (ReadsAnds src) ts c → BegunOr src (ts ++ one kind.OrOr p) (Some (onward c (at p)))
or_onward p (chained r) = begun_or p r

pub expr_close : {src : List ℕ} {ts : List Lexeme} {x : Spanned Or} → Reading (ReadsOr src) ts x → Reading (ReadsExpr src) ts (made_expr src x)
expr_close (reads r) = reads (or_expr r)

pub branches_close : {src : List ℕ} {ts us : List Lexeme} {bs : List Branch} {x : Spanned Expr} → BegunBranches src ts bs → Reading (ReadsExpr src) us x → Reading (ReadsExpr src) (ts ++ us) (with_branches src bs x)
branches_close no_branch r = r
branches_close {src = src} (branch {ts = ts} {us = us} {vs = vs} {bs = bs} {c = c} {x = x} l m n b g y) (reads {ts = ws} {x = z} r) =
    let whole_if : List Lexeme = one kind.If l ++ us ++ one kind.Then m ++ vs ++ one kind.Else n in
    subst (λ w. Reading (ReadsExpr src) w (with_branches src bs (spanned_tree (joint_extent (extent whole_if) (extent ws)) (if_of (placed src us c) (placed src vs x) (placed src ws z)))))
    (simp append_assoc)
    (branches_close b (at_extent _ (extent-append whole_if ws) (if_expr l m n g y r)))

-- an operand

abbrev signed_at : List ℕ → List Lexeme → List Lexeme → Option NegOp → Member → Spanned Unary
signed_at src ts us o x = spanned_tree (joint_extent (extent ts) (extent us)) (unary_of o (placed src us x))

pub operand_close : {src : List ℕ} {ts : List Lexeme} {m : Operand} → BegunOperand src ts m → Reading (ReadsUnary src) ts (unary_at src m)
operand_close (begun_operand no_sign r a) = reads (plain (member r a))
operand_close (begun_operand {us = us} {vs = vs} (begun_bangs {ts = ts} b) r a) = at_extent _ (extent-append ts (us ++ vs)) (banged b (member r a))
operand_close (begun_operand {us = us} {vs = vs} (begun_dashes {ts = ts} b) r a) = at_extent _ (extent-append ts (us ++ vs)) (dashed b (member r a))

pub sum_close : {src : List ℕ} {ts us : List Lexeme} {lv : PendingOperators} {m : Operand} → BegunSum src ts lv → BegunOperand src us m → Reading (ReadsAdd src) (ts ++ us) (add_at src lv m)
sum_close {src = src} {m = q} (in_sum {s = s} {m = m} f g) u =
    subst (λ w. Reading (ReadsAdd src) w (add_at src (levels_of [] None None None s m) q)) (simp append_assoc) (add_close (add_link f (mult_close (mult_link g (operand_close u)))))

-- the word `if` right of `has`, with its accesses
if_relation : {src : List ℕ} {ts us : List Lexeme} {x : Add} {m : Operand} (p : Spot) → ReadsAdd src ts x → BegunIf src us m →
    Reading (ReadsRelation src) ((ts ++ one kind.Has p) ++ us) (relation_with_sum src (Some (left.Has (before src (closed ts x) (at p)))) (add_at src (fresh []) m))
if_relation {ts = ts} p b (begun_if {vs = vs} q a) = at_extent _ (sym (chain_extent ts (one kind.If q ++ vs) kind.Has p)) (has_if p q b a)

pub whole_close : {src : List ℕ} {ts us : List Lexeme} {lv : PendingOperators} {m : Operand} → BegunLevels src ts lv → BegunOperand src us m → Reading (ReadsExpr src) (ts ++ us) (whole src lv m)
whole_close {src = src} {m = q} (levels {bs = bs} {o = o} {a = a} {r = r} {s = s} {m = m} b c d e f g) u =
    subst (λ w. Reading (ReadsExpr src) w (whole src (levels_of bs o a r s m) q)) (simp append_assoc)
    (branches_close b (expr_close (or_close (or_link c (and_close (and_link d (relation_close e (add_close (add_link f (mult_close (mult_link g (operand_close u))))))))))))

pub if_close : {src : List ℕ} {ts us : List Lexeme} {lv : PendingOperators} {m : Operand} → BegunHas src ts lv → BegunIf src us m → Reading (ReadsExpr src) (ts ++ us) (whole src lv m)
if_close {src = src} {m = q} (has_begun {ws = ws} {bs = bs} {o = o} {a = a} {x = x} p b c d e) u =
    subst (λ w. Reading (ReadsExpr src) w (whole src (levels_of bs o a (Some (left.Has (before src (closed ws x) (at p)))) None None) q)) (simp append_assoc)
    (branches_close b (expr_close (or_close (or_link c (and_close (and_link d (if_relation p e u)))))))

-- levels, read as wider ones

pub has_levels : {src : List ℕ} {ts : List Lexeme} {lv : PendingOperators} → BegunHas src ts lv → BegunLevels src ts lv
has_levels {src = src} (has_begun {ts = ts} {us = us} {vs = vs} {ws = ws} {bs = bs} {o = o} {a = a} {x = x} p b c d e) =
    subst (λ w. BegunLevels src w (levels_of bs o a (Some (left.Has (before src (closed ws x) (at p)))) None None)) (simp (append-nil, append_assoc))
    (levels b c d (having_field p e) no_add no_mult)

pub sum_levels : {src : List ℕ} {ts : List Lexeme} {lv : PendingOperators} → BegunSum src ts lv → BegunLevels src ts lv
sum_levels (in_sum f g) = levels no_branch no_or no_and no_left f g

pub fresh_levels : {src : List ℕ} {ts : List Lexeme} {bs : List Branch} → BegunBranches src ts bs → BegunLevels src ts (fresh bs)
fresh_levels {src = src} {ts = ts} {bs = bs} b = subst (λ w. BegunLevels src w (fresh bs)) (append-nil ts) (levels b no_or no_and no_left no_add no_mult)
