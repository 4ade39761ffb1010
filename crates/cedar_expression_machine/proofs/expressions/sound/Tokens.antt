-- One token more where an operand is wanted, and behind one.
use Rattle.std.specs.Prelude.{cond}
use Rattle.std.proofs.Common.{◌≡◌, ℕ, ◌+◌, List, ◌++◌, Option, Some, None, Bool, true, false, refl, sym, subst, append_assoc, IfSome}
use Rattle.cedar_lexer.specs.Token.{Lexeme}
use Rattle.cedar_lexer.specs.declared.token.TokenKind.{TokenKind}
use Rattle.cedar_lexer.specs.declared.token.TokenKind.TheVariants as kind
use Rattle.cedar_syntax.specs.declared.cst.NegOp.{NegOp}
use Rattle.cedar_grammar.specs.declared.reading.class.Sign.{Sign}
use Rattle.cedar_grammar.specs.declared.reading.class.Sign.TheVariants as sign
use Rattle.cedar_grammar.specs.declared.reading.class.FollowClass.TheVariants as operator
use Rattle.cedar_grammar.specs.declared.reading.class.Closing.TheVariants as closing
use Rattle.cedar_grammar.specs.declared.reading.class.AccessStart.{AccessStart}
use Rattle.cedar_grammar.specs.declared.reading.class.AccessStart.TheVariants as opens
use Rattle.cedar_expression_machine.specs.machines.Named.{NameOrEntity}
use Rattle.cedar_expression_machine.specs.declared.words.state.WordsState.{WordsState}
use Rattle.cedar_expression_machine.specs.declared.words.state.WordsAct.{WordsAct}
use Rattle.cedar_expression_machine.specs.declared.expression.state.StartAct.TheVariants as begin
use Rattle.cedar_expression_machine.specs.declared.expression.state.PendingOperators.{PendingOperators}
use Rattle.cedar_expression_machine.specs.declared.expression.state.Signs.{Signs}
use Rattle.cedar_expression_machine.specs.declared.expression.state.Operand.{Operand}
use Rattle.cedar_expression_machine.specs.declared.expression.state.Frame.{Frame}
use Rattle.cedar_expression_machine.specs.declared.expression.state.OperandPlace.{OperandPlace}
use Rattle.cedar_expression_machine.specs.declared.expression.state.State.{State}
use Rattle.cedar_expression_machine.specs.declared.expression.state.StartSymbol.{StartSymbol}
use Rattle.cedar_expression_machine.specs.declared.expression.state.FollowSet.{FollowSet}
use Rattle.cedar_expression_machine.specs.declared.expression.state.FollowSet.TheVariants as follow_set
use Rattle.cedar_grammar.specs.declared.reading.extent.Extent.{Extent}
use Rattle.cedar_grammar.specs.grammar.Place.{joint_extent, extent}
use Rattle.cedar_syntax.specs.tokens.Tokens.{Spot, one, fits}
use Rattle.cedar_syntax.specs.trees.Trees.{bangs_of, dashes_of}
use Rattle.cedar_grammar.specs.grammar.LooseExpressions.{less, less_eq, greater_eq, greater, not_eq, equal, within, single_eq, plus, minus, times, divide, modulo, one_sign, more_signs, principal_slot, resource_slot, other_slot, literally, slotted}
use Rattle.cedar_grammar.specs.grammar.LooseWords.{number, string}
use Rattle.cedar_expression_machine.specs.machines.Closing.{signs_of}
use Rattle.cedar_grammar.specs.machines.Machine.{Reader, machine_of, Comes, option_image}
use Rattle.cedar_grammar.specs.machines.Classes.{follow_class, with_sign}
use Rattle.cedar_expression_machine.specs.machines.ExpressionPlans.{edge, list_may_end, stack_may_end, may_sign, sign_may_stand, operand_plan}
use Rattle.cedar_expression_machine.specs.machines.ExpressionShapes.{stack_shape, op_sign}
use Rattle.cedar_expression_machine.specs.machines.Wanting.{after_signs, sign_reading, word_held, first_words, number_reading, begin_act}
use Rattle.cedar_expression_machine.specs.machines.Having.{access_beginning}
use Rattle.cedar_expression_machine.proofs.expressions.Stepping.{planned, had}
use Rattle.cedar_expression_machine.proofs.expressions.Basics.{extent-append, bang_more, dash_more, bang_dash, dash_bang}
use Rattle.cedar_expression_machine.proofs.expressions.sound.Begun.{at, no_branch, BegunSigns, no_sign, begun_bangs, begun_dashes, begun_operand, begun_if, Opens, opens_whole, opens_sum, Longer, whole_longer, sum_longer, if_longer, Holds, holds, holds_primary, no_expr_yet, no_init_yet, BegunStack, in_paren, in_set, in_call, in_index, in_key, Wants, at_expr, at_item, at_key, at_has, at_operand, at_primary, Begun, is_wanting, is_worded, is_dotted}
use Rattle.cedar_expression_machine.proofs.expressions.sound.Closing.{has_levels, fresh_levels}
use Rattle.cedar_expression_machine.proofs.expressions.sound.Operators.{After, guarded, moved, unsigned_whole, wants_leads, is_primary_had, opens_in, opens_item, opens_key, multiply_begun, sum_begun, and_begun, or_begun}
use Rattle.cedar_expression_machine.proofs.expressions.sound.Relations.{compare_begun, has_begun_at, like_begun_at, is_begun_at}
use Rattle.cedar_expression_machine.proofs.expressions.sound.Brackets.{list_ended, holds_whole, items_begun, call_begun, keys_begun, close_paren_begun, close_bracket_begun, close_brace_begun, comma_begun, colon_begun, then_begun, else_begun}

-- accesses

back : {src : List ℕ} {r : FollowSet} {us : List Lexeme} {lv : PendingOperators} {m : Operand} (w : StartSymbol) (st : List Frame) → edge w st ≡ r → Longer src r us lv m → Longer src (edge w st) us lv m
back {src = src} {us = us} {lv = lv} {m = m} w st e h = subst (λ q. Longer src q us lv m) (sym e) h

abbrev AccessGoes : List ℕ → Reader WordsState WordsAct NameOrEntity → StartSymbol → List Lexeme → List Lexeme → List Frame → PendingOperators → Operand → AccessStart → TokenKind → Spot → Type 0
AccessGoes src names w ts us st lv m a k p = Begun src names w (ts ++ (us ++ one k p)) (access_beginning st lv m a (at p))

dot_goes : {src : List ℕ} {w : StartSymbol} {ts us : List Lexeme} {st : List Frame} {lv : PendingOperators} {m : Operand} (p : Spot) → BegunStack src w ts st → Longer src (edge w st) us lv m → (names : Reader WordsState WordsAct NameOrEntity) →
    AccessGoes src names w ts us st lv m opens.Dot kind.Dot p
dot_goes p a h names = is_dotted p a h

call_goes : {src : List ℕ} {w : StartSymbol} {ts us : List Lexeme} {st : List Frame} {lv : PendingOperators} {m : Operand} (p : Spot) → BegunStack src w ts st → Longer src (edge w st) us lv m → (names : Reader WordsState WordsAct NameOrEntity) →
    AccessGoes src names w ts us st lv m opens.Paren kind.OpenParen p
call_goes p a h names = opens_item (in_call p a h no_expr_yet)

index_goes : {src : List ℕ} {w : StartSymbol} {ts us : List Lexeme} {st : List Frame} {lv : PendingOperators} {m : Operand} (p : Spot) → BegunStack src w ts st → Longer src (edge w st) us lv m → (names : Reader WordsState WordsAct NameOrEntity) →
    AccessGoes src names w ts us st lv m opens.Bracket kind.OpenBracket p
index_goes p a h names = opens_in (in_index p a h)

access_had_begun : {src : List ℕ} {us : List Lexeme} {r : FollowSet} {lv : PendingOperators} {m : Operand} (w : StartSymbol) (ts : List Lexeme) (st : List Frame) (a : AccessStart) (k : TokenKind) (p : Spot) → edge w st ≡ r → (names : Reader WordsState WordsAct NameOrEntity) →
    (Longer src (edge w st) us lv m → AccessGoes src names w ts us st lv m a k p) → Holds src r us lv m → After src names w (ts ++ (us ++ one k p)) (had src st lv m (cond m.is_if follow_set.If r) (operator.Access a) (at p))
access_had_begun w ts st a k p e names go (holds (whole_longer b (begun_operand x y z))) = go (back w st e (whole_longer b (begun_operand x y z)))
access_had_begun w ts st a k p e names go (holds (sum_longer b (begun_operand x y z))) = go (back w st e (sum_longer b (begun_operand x y z)))
access_had_begun w ts st a k p e names go (holds (if_longer b (begun_if q c))) = go (back w st e (if_longer b (begun_if q c)))
access_had_begun w ts st a k p e names go (holds_primary b) = tt

-- one token more behind an operand
pub had_begun : {src : List ℕ} {w : StartSymbol} {ts us : List Lexeme} {st : List Frame} {r : FollowSet} {lv : PendingOperators} {m : Operand} → edge w st ≡ r → BegunStack src w ts st → Holds src r us lv m →
    (k : TokenKind) (p : Spot) (names : Reader WordsState WordsAct NameOrEntity) → After src names w (ts ++ (us ++ one k p)) (had src st lv m (cond m.is_if follow_set.If r) (follow_class k) (at p))
had_begun {w = w} {ts = ts} {st = st} e a h kind.Dot p names = access_had_begun w ts st opens.Dot kind.Dot p e names (λ l. dot_goes p a l names) h
had_begun {w = w} {ts = ts} {st = st} e a h kind.OpenParen p names = access_had_begun w ts st opens.Paren kind.OpenParen p e names (λ l. call_goes p a l names) h
had_begun {w = w} {ts = ts} {st = st} e a h kind.OpenBracket p names = access_had_begun w ts st opens.Bracket kind.OpenBracket p e names (λ l. index_goes p a l names) h
had_begun e a h kind.Star p names = multiply_begun p e a h times names
had_begun e a h kind.Slash p names = multiply_begun p e a h divide names
had_begun e a h kind.Percent p names = multiply_begun p e a h modulo names
had_begun e a h kind.Plus p names = sum_begun p e a h plus names
had_begun e a h kind.Minus p names = sum_begun p e a h minus names
had_begun e a h kind.Less p names = compare_begun p e a h less names
had_begun e a h kind.LessEq p names = compare_begun p e a h less_eq names
had_begun e a h kind.GreaterEq p names = compare_begun p e a h greater_eq names
had_begun e a h kind.Greater p names = compare_begun p e a h greater names
had_begun e a h kind.NotEq p names = compare_begun p e a h not_eq names
had_begun e a h kind.EqEq p names = compare_begun p e a h equal names
had_begun e a h kind.In p names = compare_begun p e a h within names
had_begun e a h kind.Eq p names = compare_begun p e a h single_eq names
had_begun e a h kind.Has p names = has_begun_at p e a h names
had_begun e a h kind.Like p names = like_begun_at p e a h names
had_begun e a h kind.Is p names = is_begun_at p e a h names
had_begun e a h kind.AndAnd p names = and_begun p e a h names
had_begun e a h kind.OrOr p names = or_begun p e a h names
had_begun {src = src} {w = w} {st = st} e a h kind.CloseParen p names = guarded src names w _ (stack_may_end (stack_shape st) closing.Paren) _ (close_paren_begun p a (holds_whole h) names)
had_begun {src = src} {w = w} {st = st} e a h kind.CloseBracket p names = guarded src names w _ (stack_may_end (stack_shape st) closing.Bracket) _ (close_bracket_begun p a (holds_whole h) names)
had_begun {src = src} {w = w} {st = st} e a h kind.CloseBrace p names = guarded src names w _ (stack_may_end (stack_shape st) closing.Brace) _ (close_brace_begun p a (holds_whole h) names)
had_begun {src = src} {w = w} {st = st} e a h kind.Comma p names = guarded src names w _ (stack_may_end (stack_shape st) closing.Comma) _ (comma_begun p a (holds_whole h) names)
had_begun {src = src} {w = w} {st = st} e a h kind.Colon p names = guarded src names w _ (stack_may_end (stack_shape st) closing.Colon) _ (colon_begun p a (holds_whole h) names)
had_begun {src = src} {w = w} {st = st} e a h kind.Then p names = guarded src names w _ (stack_may_end (stack_shape st) closing.Then) _ (then_begun p a (holds_whole h) names)
had_begun {src = src} {w = w} {st = st} e a h kind.Else p names = guarded src names w _ (stack_may_end (stack_shape st) closing.Else) _ (else_begun p a (holds_whole h) names)
had_begun e a h _ p names = tt

-- signs

abbrev MoreSigns : List Lexeme → Signs → TokenKind → Sign → Spot → Type 0
MoreSigns ts sg k s p = IfSome (with_sign sg.op s) (λ o. BegunSigns (ts ++ one k p) (signs_of (Some o) (joint_extent sg.extent (Some (at p)))))

bang_signs : {ts : List Lexeme} {sg : Signs} → BegunSigns ts sg → (p : Spot) → MoreSigns ts sg kind.Bang sign.Bang p
bang_signs no_sign p = begun_bangs (one_sign p)
bang_signs (begun_bangs {ts = ts} {n = n} r) p =
    subst (λ o. IfSome o (λ o. BegunSigns (ts ++ one kind.Bang p) (signs_of (Some o) (joint_extent (extent ts) (Some (at p)))))) (sym (bang_more n))
    (subst (λ q. BegunSigns (ts ++ one kind.Bang p) (signs_of (Some (bangs_of (n + 1))) q)) (extent-append ts (one kind.Bang p)) (begun_bangs (more_signs p r)))
bang_signs (begun_dashes {ts = ts} {n = n} r) p =
    subst (λ o. IfSome o (λ o. BegunSigns (ts ++ one kind.Bang p) (signs_of (Some o) (joint_extent (extent ts) (Some (at p)))))) (sym (dash_bang n)) tt

dash_signs : {ts : List Lexeme} {sg : Signs} → BegunSigns ts sg → (p : Spot) → MoreSigns ts sg kind.Minus sign.Dash p
dash_signs no_sign p = begun_dashes (one_sign p)
dash_signs (begun_dashes {ts = ts} {n = n} r) p =
    subst (λ o. IfSome o (λ o. BegunSigns (ts ++ one kind.Minus p) (signs_of (Some o) (joint_extent (extent ts) (Some (at p)))))) (sym (dash_more n))
    (subst (λ q. BegunSigns (ts ++ one kind.Minus p) (signs_of (Some (dashes_of (n + 1))) q)) (extent-append ts (one kind.Minus p)) (begun_dashes (more_signs p r)))
dash_signs (begun_bangs {ts = ts} {n = n} r) p =
    subst (λ o. IfSome o (λ o. BegunSigns (ts ++ one kind.Minus p) (signs_of (Some o) (joint_extent (extent ts) (Some (at p)))))) (sym (bang_dash n)) tt

after_sign : {src : List ℕ} {w : StartSymbol} {ts : List Lexeme} {st : List Frame} {lv : PendingOperators} (us vs : List Lexeme) (k : TokenKind) (r : FollowSet) (p : Spot) (l : Option Extent) (o : Option NegOp) → edge w st ≡ r → BegunStack src w ts st →
    ((sg : Signs) → BegunSigns (vs ++ one k p) sg → Opens src r (us ++ (vs ++ one k p)) lv sg) →
    IfSome o (λ o. BegunSigns (vs ++ one k p) (signs_of (Some o) (joint_extent l (Some (at p))))) → (names : Reader WordsState WordsAct NameOrEntity) → After src names w (ts ++ ((us ++ vs) ++ one k p)) (after_signs st lv l o (at p))
after_sign us vs k r p l None e a f h names = tt
after_sign {src = src} {lv = lv} us vs k r p l (Some o) e a f h names =
    moved (simp append_assoc) (is_wanting a (at_operand (subst (λ q. Opens src q (us ++ (vs ++ one k p)) lv (signs_of (Some o) (joint_extent l (Some (at p))))) (sym e) (f (signs_of (Some o) (joint_extent l (Some (at p)))) h))))

opens_bang : {src : List ℕ} {w : StartSymbol} {ts us : List Lexeme} {st : List Frame} {lv : PendingOperators} {r : FollowSet} {sg : Signs} (p : Spot) → edge w st ≡ r → BegunStack src w ts st → Opens src r us lv sg → (names : Reader WordsState WordsAct NameOrEntity) →
    After src names w (ts ++ (us ++ one kind.Bang p)) (after_signs st lv sg.extent (with_sign sg.op sign.Bang) (at p))
opens_bang {sg = sg} p e a (opens_whole {ts = us} {us = vs} b c) names = after_sign us vs kind.Bang follow_set.Whole p sg.extent (with_sign sg.op sign.Bang) e a (λ sg h. opens_whole b h) (bang_signs c p) names
opens_bang {sg = sg} p e a (opens_sum {ts = us} {us = vs} b c) names = after_sign us vs kind.Bang follow_set.Sum p sg.extent (with_sign sg.op sign.Bang) e a (λ sg h. opens_sum b h) (bang_signs c p) names

opens_dash : {src : List ℕ} {w : StartSymbol} {ts us : List Lexeme} {st : List Frame} {lv : PendingOperators} {r : FollowSet} {sg : Signs} (p : Spot) → edge w st ≡ r → BegunStack src w ts st → Opens src r us lv sg → (names : Reader WordsState WordsAct NameOrEntity) →
    After src names w (ts ++ (us ++ one kind.Minus p)) (after_signs st lv sg.extent (with_sign sg.op sign.Dash) (at p))
opens_dash {sg = sg} p e a (opens_whole {ts = us} {us = vs} b c) names = after_sign us vs kind.Minus follow_set.Whole p sg.extent (with_sign sg.op sign.Dash) e a (λ sg h. opens_whole b h) (dash_signs c p) names
opens_dash {sg = sg} p e a (opens_sum {ts = us} {us = vs} b c) names = after_sign us vs kind.Minus follow_set.Sum p sg.extent (with_sign sg.op sign.Dash) e a (λ sg h. opens_sum b h) (dash_signs c p) names

-- where its plan has it
abbrev sign_read : List Frame → PendingOperators → OperandPlace → Signs → Sign → Extent → Option State
sign_read st lv pl sg s e = cond (sign_may_stand pl (op_sign sg.op) s) (sign_reading st lv sg s e) None

bang_begun : {src : List ℕ} {w : StartSymbol} {ts us : List Lexeme} {st : List Frame} {lv : PendingOperators} {pl : OperandPlace} {sg : Signs} (p : Spot) → BegunStack src w ts st → Wants src w us st lv pl sg → (names : Reader WordsState WordsAct NameOrEntity) →
    After src names w (ts ++ (us ++ one kind.Bang p)) (sign_read st lv pl sg sign.Bang (at p))
bang_begun p a (at_expr e b) names = opens_bang p e a (unsigned_whole (fresh_levels b)) names
bang_begun p a at_item names = opens_bang p refl a (unsigned_whole (fresh_levels no_branch)) names
bang_begun p a at_key names = opens_bang p refl a (unsigned_whole (fresh_levels no_branch)) names
bang_begun p a (at_has e b) names = opens_bang p e a (unsigned_whole (has_levels b)) names
bang_begun {src = src} {w = w} {sg = sg} p a (at_operand o) names = guarded src names w _ (may_sign (op_sign sg.op) sign.Bang) _ (opens_bang p refl a o names)
bang_begun p a (at_primary e) names = tt

dash_begun : {src : List ℕ} {w : StartSymbol} {ts us : List Lexeme} {st : List Frame} {lv : PendingOperators} {pl : OperandPlace} {sg : Signs} (p : Spot) → BegunStack src w ts st → Wants src w us st lv pl sg → (names : Reader WordsState WordsAct NameOrEntity) →
    After src names w (ts ++ (us ++ one kind.Minus p)) (sign_read st lv pl sg sign.Dash (at p))
dash_begun p a (at_expr e b) names = opens_dash p e a (unsigned_whole (fresh_levels b)) names
dash_begun p a at_item names = opens_dash p refl a (unsigned_whole (fresh_levels no_branch)) names
dash_begun p a at_key names = opens_dash p refl a (unsigned_whole (fresh_levels no_branch)) names
dash_begun p a (at_has e b) names = opens_dash p e a (unsigned_whole (has_levels b)) names
dash_begun {src = src} {w = w} {sg = sg} p a (at_operand o) names = guarded src names w _ (may_sign (op_sign sg.op) sign.Dash) _ (opens_dash p refl a o names)
dash_begun p a (at_primary e) names = tt

-- a list that ends before an item

end_paren : {src : List ℕ} {w : StartSymbol} {ts us : List Lexeme} {st : List Frame} {lv : PendingOperators} {pl : OperandPlace} {sg : Signs} (p : Spot) → BegunStack src w ts st → Wants src w us st lv pl sg → (names : Reader WordsState WordsAct NameOrEntity) →
    After src names w (ts ++ (us ++ one kind.CloseParen p)) (list_ended src st pl closing.Paren (at p))
end_paren p a at_item names = call_begun p a names
end_paren p a (at_expr e b) names = tt
end_paren p a at_key names = tt
end_paren p a (at_has e b) names = tt
end_paren p a (at_operand o) names = tt
end_paren p a (at_primary e) names = tt

end_bracket : {src : List ℕ} {w : StartSymbol} {ts us : List Lexeme} {st : List Frame} {lv : PendingOperators} {pl : OperandPlace} {sg : Signs} (p : Spot) → BegunStack src w ts st → Wants src w us st lv pl sg → (names : Reader WordsState WordsAct NameOrEntity) →
    After src names w (ts ++ (us ++ one kind.CloseBracket p)) (list_ended src st pl closing.Bracket (at p))
end_bracket p a at_item names = items_begun p a names
end_bracket p a (at_expr e b) names = tt
end_bracket p a at_key names = tt
end_bracket p a (at_has e b) names = tt
end_bracket p a (at_operand o) names = tt
end_bracket p a (at_primary e) names = tt

end_brace : {src : List ℕ} {w : StartSymbol} {ts us : List Lexeme} {st : List Frame} {lv : PendingOperators} {pl : OperandPlace} {sg : Signs} (p : Spot) → BegunStack src w ts st → Wants src w us st lv pl sg → (names : Reader WordsState WordsAct NameOrEntity) →
    After src names w (ts ++ (us ++ one kind.CloseBrace p)) (list_ended src st pl closing.Brace (at p))
end_brace p a at_key names = keys_begun p a names
end_brace p a (at_expr e b) names = tt
end_brace p a at_item names = tt
end_brace p a (at_has e b) names = tt
end_brace p a (at_operand o) names = tt
end_brace p a (at_primary e) names = tt

-- one token more where an operand is wanted

abbrev pub token : TokenKind → Spot → Lexeme
token k p = record { kind = k; start = p.start; end = p.end; text = p.text }

abbrev number_token : Spot → Lexeme
number_token p = token kind.Number p

-- where it is planned
if_planned : {A : Type 0} (src : List ℕ) (names : Reader WordsState WordsAct NameOrEntity) (w : StartSymbol) (ts : List Lexeme) (b : Bool) (a : A) (f : A → Option State) → After src names w ts (cond b (f a) None) → After src names w ts (planned (cond b (Some a) None) f)
if_planned src names w ts true a f h = h
if_planned src names w ts false a f h = tt

abbrev pub wanting : List ℕ → Reader WordsState WordsAct NameOrEntity → List Frame → PendingOperators → OperandPlace → Signs → Lexeme → Option State
wanting src names st lv pl sg t = planned (operand_plan (stack_shape st) pl (op_sign sg.op) t.kind) (λ b. begin_act src names st lv pl sg b t)

-- the machine of words begins with this token
begun_word : {src : List ℕ} {w : StartSymbol} {ts us : List Lexeme} {st : List Frame} {lv : PendingOperators} {pl : OperandPlace} {sg : Signs} (names : Reader WordsState WordsAct NameOrEntity) (vs : List Lexeme) (o : Option WordsState) → ((s : WordsState) → o ≡ Some s → Comes (machine_of src names) vs s) →
    BegunStack src w ts st → Wants src w us st lv pl sg → After src names w (ts ++ (us ++ vs)) (option_image (λ v. word_held st lv pl sg v) o)
begun_word names vs (Some s) f a b = is_worded vs a b (f s refl)
begun_word names vs None f a b = tt

number_begun : {src : List ℕ} {w : StartSymbol} {ts us : List Lexeme} {st : List Frame} {lv : PendingOperators} {pl : OperandPlace} {sg : Signs} (p : Spot) → BegunStack src w ts st → Wants src w us st lv pl sg → (names : Reader WordsState WordsAct NameOrEntity) →
    After src names w (ts ++ (us ++ one kind.Number p)) (number_reading src st lv sg (fits p.text) (number_token p))
number_begun {src = src} {w = w} {ts = ts} {us = us} {st = st} {lv = lv} {pl = pl} {sg = sg} p a b names = go (fits p.text) refl
  where
    go : (t : Bool) → fits p.text ≡ t → After src names w (ts ++ (us ++ one kind.Number p)) (number_reading src st lv sg t (number_token p))
    go true e = is_primary_had a (wants_leads b) (literally (number p e))
    go false e = tt

pub wanted_begun : {src : List ℕ} {w : StartSymbol} {ts us : List Lexeme} {st : List Frame} {lv : PendingOperators} {pl : OperandPlace} {sg : Signs} → BegunStack src w ts st → Wants src w us st lv pl sg →
    (names : Reader WordsState WordsAct NameOrEntity) (k : TokenKind) (p : Spot) → ((s : WordsState) → first_words src names (token k p) ≡ Some s → Comes (machine_of src names) (one k p) s) →
    After src names w (ts ++ (us ++ one k p)) (wanting src names st lv pl sg (token k p))
wanted_begun a b names kind.True p f = begun_word names (one kind.True p) (first_words _ names (token kind.True p)) f a b
wanted_begun a b names kind.False p f = begun_word names (one kind.False p) (first_words _ names (token kind.False p)) f a b
wanted_begun a b names kind.If p f = begun_word names (one kind.If p) (first_words _ names (token kind.If p)) f a b
wanted_begun a b names kind.Permit p f = begun_word names (one kind.Permit p) (first_words _ names (token kind.Permit p)) f a b
wanted_begun a b names kind.Forbid p f = begun_word names (one kind.Forbid p) (first_words _ names (token kind.Forbid p)) f a b
wanted_begun a b names kind.When p f = begun_word names (one kind.When p) (first_words _ names (token kind.When p)) f a b
wanted_begun a b names kind.Unless p f = begun_word names (one kind.Unless p) (first_words _ names (token kind.Unless p)) f a b
wanted_begun a b names kind.In p f = begun_word names (one kind.In p) (first_words _ names (token kind.In p)) f a b
wanted_begun a b names kind.Has p f = begun_word names (one kind.Has p) (first_words _ names (token kind.Has p)) f a b
wanted_begun a b names kind.Like p f = begun_word names (one kind.Like p) (first_words _ names (token kind.Like p)) f a b
wanted_begun a b names kind.Is p f = begun_word names (one kind.Is p) (first_words _ names (token kind.Is p)) f a b
wanted_begun a b names kind.Then p f = begun_word names (one kind.Then p) (first_words _ names (token kind.Then p)) f a b
wanted_begun a b names kind.Else p f = begun_word names (one kind.Else p) (first_words _ names (token kind.Else p)) f a b
wanted_begun a b names kind.Principal p f = begun_word names (one kind.Principal p) (first_words _ names (token kind.Principal p)) f a b
wanted_begun a b names kind.Action p f = begun_word names (one kind.Action p) (first_words _ names (token kind.Action p)) f a b
wanted_begun a b names kind.Resource p f = begun_word names (one kind.Resource p) (first_words _ names (token kind.Resource p)) f a b
wanted_begun a b names kind.Context p f = begun_word names (one kind.Context p) (first_words _ names (token kind.Context p)) f a b
wanted_begun a b names kind.Identifier p f = begun_word names (one kind.Identifier p) (first_words _ names (token kind.Identifier p)) f a b
wanted_begun a b names kind.Number p f = number_begun p a b names
wanted_begun a b names kind.StringLit p f = is_primary_had a (wants_leads b) (literally (string p))
wanted_begun a b names kind.PrincipalSlot p f = is_primary_had a (wants_leads b) (slotted p principal_slot)
wanted_begun a b names kind.ResourceSlot p f = is_primary_had a (wants_leads b) (slotted p resource_slot)
wanted_begun a b names kind.OtherSlot p f = is_primary_had a (wants_leads b) (slotted p other_slot)
wanted_begun {src = src} {w = w} {st = st} {lv = lv} {pl = pl} {sg = sg} a b names kind.Bang p f = if_planned src names w _ (sign_may_stand pl (op_sign sg.op) sign.Bang) (begin.Sign sign.Bang) (λ g. begin_act src names st lv pl sg g (token kind.Bang p)) (bang_begun p a b names)
wanted_begun {src = src} {w = w} {st = st} {lv = lv} {pl = pl} {sg = sg} a b names kind.Minus p f = if_planned src names w _ (sign_may_stand pl (op_sign sg.op) sign.Dash) (begin.Sign sign.Dash) (λ g. begin_act src names st lv pl sg g (token kind.Minus p)) (dash_begun p a b names)
wanted_begun a b names kind.OpenParen p f = opens_in (in_paren p a (wants_leads b))
wanted_begun a b names kind.OpenBracket p f = opens_item (in_set p a (wants_leads b) no_expr_yet)
wanted_begun a b names kind.OpenBrace p f = opens_key (in_key p a (wants_leads b) no_init_yet)
wanted_begun {src = src} {w = w} {st = st} {lv = lv} {pl = pl} {sg = sg} a b names kind.CloseParen p f = if_planned src names w _ (list_may_end (stack_shape st) pl closing.Paren) (begin.Ends closing.Paren) (λ g. begin_act src names st lv pl sg g (token kind.CloseParen p)) (end_paren p a b names)
wanted_begun {src = src} {w = w} {st = st} {lv = lv} {pl = pl} {sg = sg} a b names kind.CloseBracket p f = if_planned src names w _ (list_may_end (stack_shape st) pl closing.Bracket) (begin.Ends closing.Bracket) (λ g. begin_act src names st lv pl sg g (token kind.CloseBracket p)) (end_bracket p a b names)
wanted_begun {src = src} {w = w} {st = st} {lv = lv} {pl = pl} {sg = sg} a b names kind.CloseBrace p f = if_planned src names w _ (list_may_end (stack_shape st) pl closing.Brace) (begin.Ends closing.Brace) (λ g. begin_act src names st lv pl sg g (token kind.CloseBrace p)) (end_brace p a b names)
wanted_begun a b names _ p f = tt
