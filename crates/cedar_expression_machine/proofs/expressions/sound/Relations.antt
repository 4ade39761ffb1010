-- A relation operator behind an operand, or a word that has one right side.
use Rattle.std.specs.Prelude.{cond}
use Rattle.std.proofs.Common.{◌≡◌, ℕ, List, ◌++◌, Option, Some, None, sym, ◌∙◌, ap, subst, append_assoc}
use Rattle.cedar_lexer.specs.Token.{Lexeme}
use Rattle.cedar_lexer.specs.declared.token.TokenKind.{TokenKind}
use Rattle.cedar_lexer.specs.declared.token.TokenKind.TheVariants as kind
use Rattle.cedar_expressions.specs.declared.operators.AddOp.{AddOp}
use Rattle.cedar_syntax.specs.declared.cst.And.{And}
use Rattle.cedar_syntax.specs.declared.cst.RelOp.{RelOp}
use Rattle.cedar_syntax.specs.declared.cst.Relation.{Relation}
use Rattle.cedar_syntax.specs.declared.cst.Add.{Add}
use Rattle.cedar_syntax.specs.declared.cst.MultOp.{MultOp}
use Rattle.cedar_syntax.specs.declared.cst.Mult.{Mult}
use Rattle.cedar_syntax.specs.declared.cst.Unary.{Unary}
use Rattle.cedar_grammar.specs.declared.reading.class.SideWord.TheVariants as side
use Rattle.cedar_grammar.specs.declared.reading.class.FollowClass.TheVariants as operator
use Rattle.cedar_expression_machine.specs.machines.Named.{NameOrEntity}
use Rattle.cedar_expression_machine.specs.declared.words.state.WordsState.{WordsState}
use Rattle.cedar_expression_machine.specs.declared.words.state.WordsAct.{WordsAct}
use Rattle.cedar_expression_machine.specs.declared.expression.state.Spanned.{Spanned}
use Rattle.cedar_expression_machine.specs.declared.expression.state.PendingChain.{PendingChain}
use Rattle.cedar_expression_machine.specs.declared.expression.state.Branch.{Branch}
use Rattle.cedar_expression_machine.specs.declared.expression.state.PendingRelation.{PendingRelation}
use Rattle.cedar_expression_machine.specs.declared.expression.state.PendingRelation.TheVariants as left
use Rattle.cedar_expression_machine.specs.declared.expression.state.PendingOperators.{PendingOperators}
use Rattle.cedar_expression_machine.specs.declared.expression.state.Operand.{Operand}
use Rattle.cedar_expression_machine.specs.declared.expression.state.Frame.{Frame}
use Rattle.cedar_expression_machine.specs.declared.expression.state.OperandPlace.TheVariants as place
use Rattle.cedar_expression_machine.specs.declared.expression.state.StartSymbol.{StartSymbol}
use Rattle.cedar_expression_machine.specs.declared.expression.state.FollowSet.{FollowSet}
use Rattle.cedar_expression_machine.specs.declared.expression.state.FollowSet.TheVariants as follow_set
use Rattle.cedar_grammar.specs.grammar.Place.{joint_extent, placed}
use Rattle.cedar_syntax.specs.tokens.Tokens.{Spot, one}
use Rattle.cedar_grammar.specs.grammar.LooseExpressions.{ReadsRelOp, within, ReadsAdds, ReadsAdd}
use Rattle.cedar_expression_machine.specs.machines.Closing.{Plain, Marked, marked_chain, pending, unary_at, made_mult, made_add, levels_of}
use Rattle.cedar_grammar.specs.machines.Machine.{Reader}
use Rattle.cedar_expression_machine.specs.machines.ExpressionStates.{state, wants}
use Rattle.cedar_expression_machine.specs.machines.ExpressionPlans.{edge, may_compare}
use Rattle.cedar_expression_machine.specs.machines.ExpressionShapes.{typed}
use Rattle.cedar_expression_machine.specs.machines.Having.{left_beginning, before, is_within, side_place}
use Rattle.cedar_expression_machine.proofs.expressions.Basics.{extent-append, chain_extent}
use Rattle.cedar_expression_machine.proofs.expressions.Stepping.{had}
use Rattle.cedar_expression_machine.proofs.expressions.sound.Begun.{at, closed, Reading, reads, Chained, BegunMult, BegunAdd, no_left, comparing, having_field, being_like, being, being_in, BegunAnd, BegunOr, BegunBranches, BegunLevels, levels, has_begun, BegunOperand, begun_operand, begun_if, whole_longer, sum_longer, if_longer, Holds, holds, holds_primary, BegunStack, at_has, Begun, is_wanting}
use Rattle.cedar_expression_machine.proofs.expressions.sound.Closing.{mult_link, mult_close, add_link, add_close, compare_first, compare_more, compare_onward, operand_close}
use Rattle.cedar_expression_machine.proofs.expressions.sound.Operators.{After, guarded, moved, after_moved, unsigned_whole, goes_on, left_levels}

-- a relation's left side, and an operand wanted behind it
left_wants : {src : List ℕ} {names : Reader WordsState WordsAct NameOrEntity} {w : StartSymbol} {ts us : List Lexeme} {st : List Frame} {lv : PendingOperators} → edge w st ≡ follow_set.Whole → BegunStack src w ts st → BegunLevels src us lv →
    Begun src names w (ts ++ us) (state st lv (wants place.Operand))
left_wants e a b = goes_on follow_set.Whole e a (unsigned_whole b)

-- the sum that a relation's last operand ends
last_sum : {src : List ℕ} {ps qs vs : List Lexeme} {s : Option (PendingChain Mult AddOp)} {m : Option (PendingChain Unary MultOp)} {q : Operand} → BegunAdd src ps s → BegunMult src qs m → BegunOperand src vs q →
    Reading (ReadsAdd src) (ps ++ (qs ++ vs)) (made_add (marked_chain src s (made_mult (marked_chain src m (unary_at src q)))))
last_sum f g u = add_close (add_link f (mult_close (mult_link g (operand_close u))))

compare_goes : {src : List ℕ} {names : Reader WordsState WordsAct NameOrEntity} {w : StartSymbol} {ts us vs ws ps : List Lexeme} {st : List Frame} {bs : List Branch} {o : Option (Plain And)} {a : Option (Plain Relation)} {c : Marked Add RelOp} {k : TokenKind} {q : RelOp} (p : Spot) →
    edge w st ≡ follow_set.Whole → BegunStack src w ts st → BegunBranches src us bs → BegunOr src vs o → BegunAnd src ws a → Chained (ReadsAdds src) ps c → ReadsRelOp k q →
    Begun src names w (ts ++ (us ++ (vs ++ (ws ++ (ps ++ one k p))))) (state st (levels_of bs o a (Some (left.Common (pending c q (at p)))) None None) (wants place.Operand))
compare_goes p e a b c d f k = left_wants e a (left_levels b c d (compare_onward p f k))

-- which operator stands behind `is` and its type
within_goes : {src : List ℕ} {w : StartSymbol} {ts us vs ws ps qs : List Lexeme} {st : List Frame} {bs : List Branch} {o : Option (Plain And)} {a : Option (Plain Relation)} {x y : Add} {k : TokenKind} {q : RelOp} (i p : Spot) (l : Option PendingRelation) (s : Option (PendingChain Mult AddOp)) (m : Option (PendingChain Unary MultOp)) →
    edge w st ≡ follow_set.Whole → BegunStack src w ts st → BegunBranches src us bs → BegunOr src vs o → BegunAnd src ws a → ReadsAdd src ps x → ReadsAdd src qs y → ReadsRelOp k q → (names : Reader WordsState WordsAct NameOrEntity) →
    After src names w (ts ++ (us ++ (vs ++ (ws ++ (ps ++ one kind.Is i ++ qs ++ one k p))))) (is_within src st (levels_of bs o a l s m) (before src (closed ps x) (at i)) (closed qs y) q (at p))
within_goes {src = src} {w = w} {ts = ts} {us = us} {vs = vs} {ws = ws} {ps = ps} {qs = qs} {st = st} {bs = bs} {o = o} {a = n} {x = x} {y = y} i p l s m e a b c d f g within names =
    subst (λ q. Begun src names w (ts ++ (us ++ (vs ++ (ws ++ (ps ++ one kind.Is i ++ qs ++ one kind.In p))))) (state st (levels_of bs o n (Some (left.IsIn (placed src ps x) (placed src qs y) q)) None None) (wants place.Operand)))
    (extent-append (ps ++ one kind.Is i ++ qs) (one kind.In p) ∙ ap (λ q. joint_extent q (Some (at p))) (sym (chain_extent ps qs kind.Is i)))
    (left_wants e a (left_levels b c d (being_in i p f g)))
within_goes i p l s m e a b c d f g _ names = tt

is_goes : {src : List ℕ} {w : StartSymbol} {ts us vs ws ps qs all : List Lexeme} {st : List Frame} {bs : List Branch} {o : Option (Plain And)} {a : Option (Plain Relation)} {x : Add} {y : Spanned Add} {k : TokenKind} {q : RelOp} (i p : Spot) (l : Option PendingRelation) (s : Option (PendingChain Mult AddOp)) (m : Option (PendingChain Unary MultOp)) →
    edge w st ≡ follow_set.Whole → BegunStack src w ts st → BegunBranches src us bs → BegunOr src vs o → BegunAnd src ws a → ReadsAdd src ps x → Reading (ReadsAdd src) qs y →
    ts ++ (us ++ (vs ++ (ws ++ (ps ++ one kind.Is i ++ qs ++ one k p)))) ≡ all → ReadsRelOp k q → (names : Reader WordsState WordsAct NameOrEntity) →
    After src names w all (is_within src st (levels_of bs o a l s m) (before src (closed ps x) (at i)) y q (at p))
is_goes {src = src} {w = w} {ps = ps} {st = st} {bs = bs} {o = o} {a = n} {x = x} {q = q} i p l s m e a b c d h (reads {ts = qs} {x = y} g) t k names =
    after_moved src names w (is_within src st (levels_of bs o n l s m) (before src (closed ps x) (at i)) (closed qs y) q (at p)) t (within_goes i p l s m e a b c d h g k names)

pub compare_begun : {src : List ℕ} {w : StartSymbol} {ts us : List Lexeme} {st : List Frame} {r : FollowSet} {lv : PendingOperators} {m : Operand} {k : TokenKind} {q : RelOp} (p : Spot) →
    edge w st ≡ r → BegunStack src w ts st → Holds src r us lv m → ReadsRelOp k q → (names : Reader WordsState WordsAct NameOrEntity) → After src names w (ts ++ (us ++ one k p)) (had src st lv m (cond m.is_if follow_set.If r) (operator.Compare q) (at p))
compare_begun p e a (holds (whole_longer (levels b c d no_left f g) (begun_operand x y z))) k names =
    moved (simp append_assoc) (compare_goes p e a b c d (compare_first _ _ (last_sum f g (begun_operand x y z))) k)
compare_begun p e a (holds (whole_longer (levels b c d (comparing i h j) f g) (begun_operand x y z))) k names =
    moved (simp append_assoc) (compare_goes p e a b c d (compare_more i h j _ _ (last_sum f g (begun_operand x y z))) k)
compare_begun p e a (holds (whole_longer (levels b c d (having_field i h) f g) (begun_operand x y z))) k names = tt
compare_begun p e a (holds (whole_longer (levels b c d (being_like i h) f g) (begun_operand x y z))) k names = tt
compare_begun {src = src} {w = w} {q = q} p e a (holds (whole_longer (levels {s = s} {m = m} b c d (being {ts = ws} {x = v} i h) f g) (begun_operand x y z))) k names =
    guarded src names w _ (may_compare typed q) _ (is_goes i p (Some (left.Is (before src (closed ws v) (at i)))) s m e a b c d h (last_sum f g (begun_operand x y z)) (simp append_assoc) k names)
compare_begun p e a (holds (whole_longer (levels b c d (being_in i j h l) f g) (begun_operand x y z))) k names = tt
compare_begun p e a (holds (sum_longer b (begun_operand x y z))) k names = tt
compare_begun p e a (holds (if_longer b (begun_if q c))) k names = tt
compare_begun p e a (holds_primary b) k names = tt

-- a word with one right side

side_goes : {src : List ℕ} {ps : List Lexeme} {x : Spanned Add} (P : Spanned Add → Type 0) → Reading (ReadsAdd src) ps x → ((y : Add) → ReadsAdd src ps y → P (closed ps y)) → P x
side_goes P (reads {x = x} r) f = f x r

pub has_begun_at : {src : List ℕ} {w : StartSymbol} {ts us : List Lexeme} {st : List Frame} {r : FollowSet} {lv : PendingOperators} {m : Operand} (p : Spot) →
    edge w st ≡ r → BegunStack src w ts st → Holds src r us lv m → (names : Reader WordsState WordsAct NameOrEntity) → After src names w (ts ++ (us ++ one kind.Has p)) (had src st lv m (cond m.is_if follow_set.If r) (operator.Side side.Has) (at p))
has_begun_at {src = src} {w = w} {ts = ts} {st = st} p e a (holds (whole_longer (levels {ts = ts0} {us = ts1} {vs = ts2} {ps = ts4} {qs = ts5} {bs = bs} {o = o} {a = n} b c d no_left f g) (begun_operand {ts = ts6} {us = ts7} {vs = ts8} x y z))) names =
    moved (simp append_assoc) (side_goes (λ v. Begun src names w (ts ++ (ts0 ++ (ts1 ++ (ts2 ++ ((ts4 ++ (ts5 ++ (ts6 ++ (ts7 ++ ts8)))) ++ one kind.Has p))))) (left_beginning st (levels_of bs o n None None None) (left.Has (before src v (at p))) (side_place side.Has))) (last_sum f g (begun_operand x y z)) (λ y h. is_wanting a (at_has e (has_begun p b c d h))))
has_begun_at p e a (holds (whole_longer (levels b c d (comparing i h j) f g) (begun_operand x y z))) names = tt
has_begun_at p e a (holds (whole_longer (levels b c d (having_field i h) f g) (begun_operand x y z))) names = tt
has_begun_at p e a (holds (whole_longer (levels b c d (being_like i h) f g) (begun_operand x y z))) names = tt
has_begun_at p e a (holds (whole_longer (levels b c d (being i h) f g) (begun_operand x y z))) names = tt
has_begun_at p e a (holds (whole_longer (levels b c d (being_in i j h l) f g) (begun_operand x y z))) names = tt
has_begun_at p e a (holds (sum_longer b (begun_operand x y z))) names = tt
has_begun_at p e a (holds (if_longer b (begun_if q c))) names = tt
has_begun_at p e a (holds_primary b) names = tt

pub like_begun_at : {src : List ℕ} {w : StartSymbol} {ts us : List Lexeme} {st : List Frame} {r : FollowSet} {lv : PendingOperators} {m : Operand} (p : Spot) →
    edge w st ≡ r → BegunStack src w ts st → Holds src r us lv m → (names : Reader WordsState WordsAct NameOrEntity) → After src names w (ts ++ (us ++ one kind.Like p)) (had src st lv m (cond m.is_if follow_set.If r) (operator.Side side.Like) (at p))
like_begun_at {src = src} {w = w} {ts = ts} {st = st} p e a (holds (whole_longer (levels {ts = ts0} {us = ts1} {vs = ts2} {ps = ts4} {qs = ts5} {bs = bs} {o = o} {a = n} b c d no_left f g) (begun_operand {ts = ts6} {us = ts7} {vs = ts8} x y z))) names =
    moved (simp append_assoc) (side_goes (λ v. Begun src names w (ts ++ (ts0 ++ (ts1 ++ (ts2 ++ ((ts4 ++ (ts5 ++ (ts6 ++ (ts7 ++ ts8)))) ++ one kind.Like p))))) (left_beginning st (levels_of bs o n None None None) (left.Like (before src v (at p))) (side_place side.Like))) (last_sum f g (begun_operand x y z)) (λ y h. left_wants e a (left_levels b c d (being_like p h))))
like_begun_at p e a (holds (whole_longer (levels b c d (comparing i h j) f g) (begun_operand x y z))) names = tt
like_begun_at p e a (holds (whole_longer (levels b c d (having_field i h) f g) (begun_operand x y z))) names = tt
like_begun_at p e a (holds (whole_longer (levels b c d (being_like i h) f g) (begun_operand x y z))) names = tt
like_begun_at p e a (holds (whole_longer (levels b c d (being i h) f g) (begun_operand x y z))) names = tt
like_begun_at p e a (holds (whole_longer (levels b c d (being_in i j h l) f g) (begun_operand x y z))) names = tt
like_begun_at p e a (holds (sum_longer b (begun_operand x y z))) names = tt
like_begun_at p e a (holds (if_longer b (begun_if q c))) names = tt
like_begun_at p e a (holds_primary b) names = tt

pub is_begun_at : {src : List ℕ} {w : StartSymbol} {ts us : List Lexeme} {st : List Frame} {r : FollowSet} {lv : PendingOperators} {m : Operand} (p : Spot) →
    edge w st ≡ r → BegunStack src w ts st → Holds src r us lv m → (names : Reader WordsState WordsAct NameOrEntity) → After src names w (ts ++ (us ++ one kind.Is p)) (had src st lv m (cond m.is_if follow_set.If r) (operator.Side side.Is) (at p))
is_begun_at {src = src} {w = w} {ts = ts} {st = st} p e a (holds (whole_longer (levels {ts = ts0} {us = ts1} {vs = ts2} {ps = ts4} {qs = ts5} {bs = bs} {o = o} {a = n} b c d no_left f g) (begun_operand {ts = ts6} {us = ts7} {vs = ts8} x y z))) names =
    moved (simp append_assoc) (side_goes (λ v. Begun src names w (ts ++ (ts0 ++ (ts1 ++ (ts2 ++ ((ts4 ++ (ts5 ++ (ts6 ++ (ts7 ++ ts8)))) ++ one kind.Is p))))) (left_beginning st (levels_of bs o n None None None) (left.Is (before src v (at p))) (side_place side.Is))) (last_sum f g (begun_operand x y z)) (λ y h. left_wants e a (left_levels b c d (being p h))))
is_begun_at p e a (holds (whole_longer (levels b c d (comparing i h j) f g) (begun_operand x y z))) names = tt
is_begun_at p e a (holds (whole_longer (levels b c d (having_field i h) f g) (begun_operand x y z))) names = tt
is_begun_at p e a (holds (whole_longer (levels b c d (being_like i h) f g) (begun_operand x y z))) names = tt
is_begun_at p e a (holds (whole_longer (levels b c d (being i h) f g) (begun_operand x y z))) names = tt
is_begun_at p e a (holds (whole_longer (levels b c d (being_in i j h l) f g) (begun_operand x y z))) names = tt
is_begun_at p e a (holds (sum_longer b (begun_operand x y z))) names = tt
is_begun_at p e a (holds (if_longer b (begun_if q c))) names = tt
is_begun_at p e a (holds_primary b) names = tt
