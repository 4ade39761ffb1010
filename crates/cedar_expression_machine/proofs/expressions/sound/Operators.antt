-- One operator more behind an operand.
use Rattle.std.specs.Prelude.{cond}
use Rattle.std.proofs.Common.{◌≡◌, ℕ, List, [], ◌∷◌, ◌++◌, Option, Some, None, Bool, true, false, refl, sym, subst, append_assoc, IfSome}
use Rattle.std.proofs.lemmas.List.{append-nil}
use Rattle.cedar_lexer.specs.Token.{Lexeme}
use Rattle.cedar_lexer.specs.declared.token.TokenKind.{TokenKind}
use Rattle.cedar_lexer.specs.declared.token.TokenKind.TheVariants as kind
use Rattle.cedar_expressions.specs.declared.operators.AddOp.{AddOp}
use Rattle.cedar_syntax.specs.declared.cst.And.{And}
use Rattle.cedar_syntax.specs.declared.cst.Relation.{Relation}
use Rattle.cedar_syntax.specs.declared.cst.Add.{Add}
use Rattle.cedar_syntax.specs.declared.cst.MultOp.{MultOp}
use Rattle.cedar_syntax.specs.declared.cst.Primary.{Primary}
use Rattle.cedar_grammar.specs.declared.reading.class.FollowClass.TheVariants as operator
use Rattle.cedar_expression_machine.specs.machines.Named.{NameOrEntity}
use Rattle.cedar_expression_machine.specs.declared.words.state.WordsState.{WordsState}
use Rattle.cedar_expression_machine.specs.declared.words.state.WordsAct.{WordsAct}
use Rattle.cedar_expression_machine.specs.declared.expression.state.Branch.{Branch}
use Rattle.cedar_expression_machine.specs.declared.expression.state.PendingRelation.{PendingRelation}
use Rattle.cedar_expression_machine.specs.declared.expression.state.PendingRelation.TheVariants as left
use Rattle.cedar_expression_machine.specs.declared.expression.state.PendingOperators.{PendingOperators}
use Rattle.cedar_expression_machine.specs.declared.expression.state.Signs.{Signs}
use Rattle.cedar_expression_machine.specs.declared.expression.state.Operand.{Operand}
use Rattle.cedar_expression_machine.specs.declared.expression.state.Frame.{Frame}
use Rattle.cedar_expression_machine.specs.declared.expression.state.OperandPlace.{OperandPlace}
use Rattle.cedar_expression_machine.specs.declared.expression.state.OperandPlace.TheVariants as place
use Rattle.cedar_expression_machine.specs.declared.expression.state.State.{State}
use Rattle.cedar_expression_machine.specs.declared.expression.state.StartSymbol.{StartSymbol}
use Rattle.cedar_expression_machine.specs.declared.expression.state.FollowSet.{FollowSet}
use Rattle.cedar_expression_machine.specs.declared.expression.state.FollowSet.TheVariants as follow_set
use Rattle.cedar_grammar.specs.grammar.Place.{extent, placed}
use Rattle.cedar_syntax.specs.tokens.Tokens.{Spot, one}
use Rattle.cedar_grammar.specs.grammar.LooseExpressions.{ReadsAddOp, ReadsMultOp, ReadsRelation, has_if, ReadsAdd, no_access, ReadsPrimary}
use Rattle.cedar_expression_machine.specs.machines.Closing.{Plain, plain_chain, marked_chain, onward, pending, unary_at, made_mult, relation_with_sum, add_at, relation_at, and_at, levels_of, fresh, no_signs, operand_with, operand_of}
use Rattle.cedar_grammar.specs.machines.Machine.{Reader}
use Rattle.cedar_expression_machine.specs.machines.ExpressionStates.{opening, going_on, has_primary}
use Rattle.cedar_expression_machine.specs.machines.ExpressionPlans.{edge}
use Rattle.cedar_expression_machine.specs.machines.Having.{product_beginning, sum_beginning, before, conjunction_beginning, disjunction_beginning}
use Rattle.cedar_expression_machine.proofs.expressions.Basics.{chain_extent}
use Rattle.cedar_expression_machine.proofs.expressions.Stepping.{had}
use Rattle.cedar_expression_machine.proofs.expressions.sound.Begun.{at, closed, Reading, no_mult, no_add, BegunRelation, no_left, BegunAnd, no_and, BegunOr, BegunBranches, no_branch, BegunSum, in_sum, BegunLevels, levels, BegunHas, has_begun, BegunSigns, no_sign, BegunOperand, begun_operand, BegunIf, begun_if, Opens, opens_whole, opens_sum, Leads, leads, leads_primary, whole_longer, sum_longer, if_longer, Holds, holds, holds_primary, BegunStack, Wants, at_expr, at_item, at_key, at_has, at_operand, at_primary, Begun, is_wanting, is_had}
use Rattle.cedar_expression_machine.proofs.expressions.sound.Closing.{at_extent, mult_link, mult_close, mult_onward, add_link, add_close, add_onward, relation_close, and_link, and_close, and_onward, or_link, or_onward, operand_close, has_levels, fresh_levels}

abbrev pub After : List ℕ → Reader WordsState WordsAct NameOrEntity → StartSymbol → List Lexeme → Option State → Type 0
After src names w ts o = IfSome o (λ s. Begun src names w ts s)

pub moved : {src : List ℕ} {names : Reader WordsState WordsAct NameOrEntity} {w : StartSymbol} {ts us : List Lexeme} {s : State} → ts ≡ us → Begun src names w ts s → Begun src names w us s
moved {src = src} {names = names} {w = w} {s = s} e h = subst (λ q. Begun src names w q s) e h

pub after_moved : (src : List ℕ) (names : Reader WordsState WordsAct NameOrEntity) (w : StartSymbol) {ts us : List Lexeme} (o : Option State) → ts ≡ us → After src names w ts o → After src names w us o
after_moved src names w o e h = subst (λ q. After src names w q o) e h

-- what is done only where it is planned
pub guarded : (src : List ℕ) (names : Reader WordsState WordsAct NameOrEntity) (w : StartSymbol) (ts : List Lexeme) (b : Bool) (o : Option State) → After src names w ts o → After src names w ts (cond b o None)
guarded src names w ts true o h = h
guarded src names w ts false o h = tt

-- an operand without accesses
pub begun_alone : {src : List ℕ} {ts us : List Lexeme} {sg : Signs} {x : Primary} → BegunSigns ts sg → ReadsPrimary src us x → BegunOperand src (ts ++ us) (operand_of src sg (closed us x))
begun_alone {src = src} {ts = ts} {us = us} {sg = sg} {x = x} b r =
    subst (λ q. BegunOperand src (ts ++ q) (operand_with sg (placed src us x) [] (extent q) false)) (append-nil us) (begun_operand b r no_access)

-- what stands before an operand, and the operand
pub leads_to : {src : List ℕ} {r : FollowSet} {ts us : List Lexeme} {lv : PendingOperators} {sg : Signs} {x : Primary} → Leads src r ts lv sg → ReadsPrimary src us x → Holds src r (ts ++ us) lv (operand_of src sg (closed us x))
leads_to {src = src} {us = us} {lv = lv} {sg = sg} {x = x} (leads (opens_whole {ts = ts} {us = vs} b c)) p =
    subst (λ q. Holds src follow_set.Whole q lv (operand_of src sg (closed us x))) (sym (append_assoc ts vs us)) (holds (whole_longer b (begun_alone c p)))
leads_to {src = src} {us = us} {lv = lv} {sg = sg} {x = x} (leads (opens_sum {ts = ts} {us = vs} b c)) p =
    subst (λ q. Holds src follow_set.Sum q lv (operand_of src sg (closed us x))) (sym (append_assoc ts vs us)) (holds (sum_longer b (begun_alone c p)))
leads_to leads_primary p = holds_primary p

pub unsigned_whole : {src : List ℕ} {ts : List Lexeme} {lv : PendingOperators} → BegunLevels src ts lv → Opens src follow_set.Whole ts lv no_signs
unsigned_whole {src = src} {ts = ts} {lv = lv} b = subst (λ q. Opens src follow_set.Whole q lv no_signs) (append-nil ts) (opens_whole b no_sign)

pub unsigned_sum : {src : List ℕ} {ts : List Lexeme} {lv : PendingOperators} → BegunSum src ts lv → Opens src follow_set.Sum ts lv no_signs
unsigned_sum {src = src} {ts = ts} {lv = lv} b = subst (λ q. Opens src follow_set.Sum q lv no_signs) (append-nil ts) (opens_sum b no_sign)

pub wants_leads : {src : List ℕ} {w : StartSymbol} {us : List Lexeme} {st : List Frame} {lv : PendingOperators} {p : OperandPlace} {sg : Signs} → Wants src w us st lv p sg → Leads src (edge w st) us lv sg
wants_leads {src = src} {us = us} (at_expr {bs = bs} e b) = subst (λ r. Leads src r us (fresh bs) no_signs) (sym e) (leads (unsigned_whole (fresh_levels b)))
wants_leads at_item = leads (unsigned_whole (fresh_levels no_branch))
wants_leads at_key = leads (unsigned_whole (fresh_levels no_branch))
wants_leads {src = src} {us = us} {lv = lv} (at_has e b) = subst (λ r. Leads src r us lv no_signs) (sym e) (leads (unsigned_whole (has_levels b)))
wants_leads (at_operand o) = leads o
wants_leads {src = src} (at_primary e) = subst (λ r. Leads src r [] (fresh []) no_signs) (sym e) leads_primary

-- states

pub is_primary_had : {src : List ℕ} {names : Reader WordsState WordsAct NameOrEntity} {w : StartSymbol} {ts us vs : List Lexeme} {st : List Frame} {lv : PendingOperators} {sg : Signs} {x : Primary} →
    BegunStack src w ts st → Leads src (edge w st) us lv sg → ReadsPrimary src vs x → Begun src names w (ts ++ (us ++ vs)) (has_primary src st lv sg (closed vs x))
is_primary_had a b r = is_had a (leads_to b r)

pub opens_expr : {src : List ℕ} {names : Reader WordsState WordsAct NameOrEntity} {w : StartSymbol} {ts us : List Lexeme} {st : List Frame} {bs : List Branch} → edge w st ≡ follow_set.Whole → BegunStack src w ts st → BegunBranches src us bs →
    Begun src names w (ts ++ us) (opening st bs place.Expr)
opens_expr e a b = is_wanting a (at_expr e b)

pub opens_in : {src : List ℕ} {names : Reader WordsState WordsAct NameOrEntity} {w : StartSymbol} {ts : List Lexeme} {f : Frame} {st : List Frame} → BegunStack src w ts (f ∷ st) → Begun src names w ts (opening (f ∷ st) [] place.Expr)
opens_in {ts = ts} a = moved (append-nil ts) (opens_expr refl a no_branch)

pub opens_item : {src : List ℕ} {names : Reader WordsState WordsAct NameOrEntity} {w : StartSymbol} {ts : List Lexeme} {f : Frame} {st : List Frame} → BegunStack src w ts (f ∷ st) → Begun src names w ts (opening (f ∷ st) [] place.Item)
opens_item {ts = ts} a = moved (append-nil ts) (is_wanting a at_item)

pub opens_key : {src : List ℕ} {names : Reader WordsState WordsAct NameOrEntity} {w : StartSymbol} {ts : List Lexeme} {f : Frame} {st : List Frame} → BegunStack src w ts (f ∷ st) → Begun src names w ts (opening (f ∷ st) [] place.Key)
opens_key {ts = ts} a = moved (append-nil ts) (is_wanting a at_key)

pub goes_on : {src : List ℕ} {names : Reader WordsState WordsAct NameOrEntity} {w : StartSymbol} {ts us : List Lexeme} {st : List Frame} {lv : PendingOperators} (r : FollowSet) → edge w st ≡ r → BegunStack src w ts st → Opens src r us lv no_signs →
    Begun src names w (ts ++ us) (going_on st lv)
goes_on {src = src} {us = us} {lv = lv} r e a o = is_wanting a (at_operand (subst (λ q. Opens src q us lv no_signs) (sym e) o))

-- operators behind an operand

multiply_levels : {src : List ℕ} {us vs : List Lexeme} {lv : PendingOperators} {m : Operand} {k : TokenKind} {o : MultOp} (p : Spot) → BegunLevels src us lv → BegunOperand src vs m → ReadsMultOp k o →
    BegunLevels src ((us ++ vs) ++ one k p) (product_beginning src [] lv m o (at p)).levels
multiply_levels {src = src} {m = q} {o = w} p (levels {bs = bs} {o = o} {a = a} {r = r} {s = s} {m = m} b c d e f g) u k =
    subst (λ z. BegunLevels src z (levels_of bs o a r s (Some (pending (marked_chain src m (unary_at src q)) w (at p))))) (simp append_assoc)
    (levels b c d e f (mult_onward p (mult_link g (operand_close u)) k))

multiply_sum : {src : List ℕ} {us vs : List Lexeme} {lv : PendingOperators} {m : Operand} {k : TokenKind} {o : MultOp} (p : Spot) → BegunSum src us lv → BegunOperand src vs m → ReadsMultOp k o →
    BegunSum src ((us ++ vs) ++ one k p) (product_beginning src [] lv m o (at p)).levels
multiply_sum {src = src} {m = q} {o = w} p (in_sum {s = s} {m = m} f g) u k =
    subst (λ z. BegunSum src z (levels_of [] None None None s (Some (pending (marked_chain src m (unary_at src q)) w (at p))))) (simp append_assoc)
    (in_sum f (mult_onward p (mult_link g (operand_close u)) k))

sum_levels_more : {src : List ℕ} {us vs : List Lexeme} {lv : PendingOperators} {m : Operand} {k : TokenKind} {o : AddOp} (p : Spot) → BegunLevels src us lv → BegunOperand src vs m → ReadsAddOp k o →
    BegunLevels src ((us ++ vs) ++ one k p) (sum_beginning src [] lv m o (at p)).levels
sum_levels_more {src = src} {m = q} {o = w} p (levels {bs = bs} {o = o} {a = a} {r = r} {s = s} {m = m} b c d e f g) u k =
    subst (λ z. BegunLevels src z (levels_of bs o a r (Some (pending (marked_chain src s (made_mult (marked_chain src m (unary_at src q)))) w (at p))) None)) (simp (append-nil, append_assoc))
    (levels b c d e (add_onward p (add_link f (mult_close (mult_link g (operand_close u)))) k) no_mult)

sum_more : {src : List ℕ} {us vs : List Lexeme} {lv : PendingOperators} {m : Operand} {k : TokenKind} {o : AddOp} (p : Spot) → BegunSum src us lv → BegunOperand src vs m → ReadsAddOp k o →
    BegunSum src ((us ++ vs) ++ one k p) (sum_beginning src [] lv m o (at p)).levels
sum_more {src = src} {m = q} {o = w} p (in_sum {s = s} {m = m} f g) u k =
    subst (λ z. BegunSum src z (levels_of [] None None None (Some (pending (marked_chain src s (made_mult (marked_chain src m (unary_at src q)))) w (at p))) None)) (simp (append-nil, append_assoc))
    (in_sum (add_onward p (add_link f (mult_close (mult_link g (operand_close u)))) k) no_mult)

-- what a relation's left side becomes
pub left_levels : {src : List ℕ} {ts us vs ws : List Lexeme} {bs : List Branch} {o : Option (Plain And)} {a : Option (Plain Relation)} {l : PendingRelation} →
    BegunBranches src ts bs → BegunOr src us o → BegunAnd src vs a → BegunRelation src ws (Some l) → BegunLevels src (ts ++ (us ++ (vs ++ ws))) (levels_of bs o a (Some l) None None)
left_levels {src = src} {ts = ts} {us = us} {vs = vs} {ws = ws} {bs = bs} {o = o} {a = a} {l = l} b c d e =
    subst (λ z. BegunLevels src z (levels_of bs o a (Some l) None None)) (simp append-nil) (levels b c d e no_add no_mult)

and_levels : {src : List ℕ} {us vs : List Lexeme} {lv : PendingOperators} {m : Operand} (p : Spot) → BegunLevels src us lv → BegunOperand src vs m →
    BegunLevels src ((us ++ vs) ++ one kind.AndAnd p) (conjunction_beginning src [] lv m (at p)).levels
and_levels {src = src} {m = q} p (levels {bs = bs} {o = o} {a = a} {r = r} {s = s} {m = m} b c d e f g) u =
    subst (λ z. BegunLevels src z (levels_of bs o (Some (onward (plain_chain src a (relation_at src (levels_of bs o a r s m) q)) (at p))) None None None)) (simp (append-nil, append_assoc))
    (levels b c (and_onward p (and_link d (relation_close e (add_close (add_link f (mult_close (mult_link g (operand_close u)))))))) no_left no_add no_mult)

or_levels : {src : List ℕ} {us vs : List Lexeme} {lv : PendingOperators} {m : Operand} (p : Spot) → BegunLevels src us lv → BegunOperand src vs m →
    BegunLevels src ((us ++ vs) ++ one kind.OrOr p) (disjunction_beginning src [] lv m (at p)).levels
or_levels {src = src} {m = q} p (levels {bs = bs} {o = o} {a = a} {r = r} {s = s} {m = m} b c d e f g) u =
    subst (λ z. BegunLevels src z (levels_of bs (Some (onward (plain_chain src o (and_at src (levels_of bs o a r s m) q)) (at p))) None None None None)) (simp (append-nil, append_assoc))
    (levels b (or_onward p (or_link c (and_close (and_link d (relation_close e (add_close (add_link f (mult_close (mult_link g (operand_close u)))))))))) no_and no_left no_add no_mult)

-- the same behind `if` right of `has`: the relation ends with it

pub if_relation_close : {src : List ℕ} {ts us : List Lexeme} {x : Add} {m : Operand} (p : Spot) → ReadsAdd src ts x → BegunIf src us m →
    Reading (ReadsRelation src) ((ts ++ one kind.Has p) ++ us) (relation_with_sum src (Some (left.Has (before src (closed ts x) (at p)))) (add_at src (fresh []) m))
if_relation_close {ts = ts} p b (begun_if {vs = vs} q a) = at_extent _ (sym (chain_extent ts (one kind.If q ++ vs) kind.Has p)) (has_if p q b a)

if_and_levels : {src : List ℕ} {us vs : List Lexeme} {lv : PendingOperators} {m : Operand} (p : Spot) → BegunHas src us lv → BegunIf src vs m →
    BegunLevels src ((us ++ vs) ++ one kind.AndAnd p) (conjunction_beginning src [] lv m (at p)).levels
if_and_levels {src = src} {m = q} p (has_begun {ws = ws} {bs = bs} {o = o} {a = a} {x = x} i b c d e) u =
    subst (λ z. BegunLevels src z (levels_of bs o (Some (onward (plain_chain src a (relation_at src (levels_of bs o a (Some (left.Has (before src (closed ws x) (at i)))) None None) q)) (at p))) None None None)) (simp (append-nil, append_assoc))
    (levels b c (and_onward p (and_link d (if_relation_close i e u))) no_left no_add no_mult)

if_or_levels : {src : List ℕ} {us vs : List Lexeme} {lv : PendingOperators} {m : Operand} (p : Spot) → BegunHas src us lv → BegunIf src vs m →
    BegunLevels src ((us ++ vs) ++ one kind.OrOr p) (disjunction_beginning src [] lv m (at p)).levels
if_or_levels {src = src} {m = q} p (has_begun {ws = ws} {bs = bs} {o = o} {a = a} {x = x} i b c d e) u =
    subst (λ z. BegunLevels src z (levels_of bs (Some (onward (plain_chain src o (and_at src (levels_of bs o a (Some (left.Has (before src (closed ws x) (at i)))) None None) q)) (at p))) None None None None)) (simp (append-nil, append_assoc))
    (levels b (or_onward p (or_link c (and_close (and_link d (if_relation_close i e u))))) no_and no_left no_add no_mult)

-- one token more: an operator

pub multiply_begun : {src : List ℕ} {w : StartSymbol} {ts us : List Lexeme} {st : List Frame} {r : FollowSet} {lv : PendingOperators} {m : Operand} {k : TokenKind} {o : MultOp} (p : Spot) →
    edge w st ≡ r → BegunStack src w ts st → Holds src r us lv m → ReadsMultOp k o → (names : Reader WordsState WordsAct NameOrEntity) → After src names w (ts ++ (us ++ one k p)) (had src st lv m (cond m.is_if follow_set.If r) (operator.Multiply o) (at p))
multiply_begun p e a (holds (whole_longer b (begun_operand x y z))) k names = goes_on follow_set.Whole e a (unsigned_whole (multiply_levels p b (begun_operand x y z) k))
multiply_begun p e a (holds (sum_longer b (begun_operand x y z))) k names = goes_on follow_set.Sum e a (unsigned_sum (multiply_sum p b (begun_operand x y z) k))
multiply_begun p e a (holds (if_longer b (begun_if q c))) k names = tt
multiply_begun p e a (holds_primary b) k names = tt

pub sum_begun : {src : List ℕ} {w : StartSymbol} {ts us : List Lexeme} {st : List Frame} {r : FollowSet} {lv : PendingOperators} {m : Operand} {k : TokenKind} {o : AddOp} (p : Spot) →
    edge w st ≡ r → BegunStack src w ts st → Holds src r us lv m → ReadsAddOp k o → (names : Reader WordsState WordsAct NameOrEntity) → After src names w (ts ++ (us ++ one k p)) (had src st lv m (cond m.is_if follow_set.If r) (operator.Sum o) (at p))
sum_begun p e a (holds (whole_longer b (begun_operand x y z))) k names = goes_on follow_set.Whole e a (unsigned_whole (sum_levels_more p b (begun_operand x y z) k))
sum_begun p e a (holds (sum_longer b (begun_operand x y z))) k names = goes_on follow_set.Sum e a (unsigned_sum (sum_more p b (begun_operand x y z) k))
sum_begun p e a (holds (if_longer b (begun_if q c))) k names = tt
sum_begun p e a (holds_primary b) k names = tt

pub and_begun : {src : List ℕ} {w : StartSymbol} {ts us : List Lexeme} {st : List Frame} {r : FollowSet} {lv : PendingOperators} {m : Operand} (p : Spot) →
    edge w st ≡ r → BegunStack src w ts st → Holds src r us lv m → (names : Reader WordsState WordsAct NameOrEntity) → After src names w (ts ++ (us ++ one kind.AndAnd p)) (had src st lv m (cond m.is_if follow_set.If r) operator.And (at p))
and_begun p e a (holds (whole_longer b (begun_operand x y z))) names = goes_on follow_set.Whole e a (unsigned_whole (and_levels p b (begun_operand x y z)))
and_begun p e a (holds (sum_longer b (begun_operand x y z))) names = tt
and_begun p e a (holds (if_longer b (begun_if q c))) names = goes_on follow_set.Whole e a (unsigned_whole (if_and_levels p b (begun_if q c)))
and_begun p e a (holds_primary b) names = tt

pub or_begun : {src : List ℕ} {w : StartSymbol} {ts us : List Lexeme} {st : List Frame} {r : FollowSet} {lv : PendingOperators} {m : Operand} (p : Spot) →
    edge w st ≡ r → BegunStack src w ts st → Holds src r us lv m → (names : Reader WordsState WordsAct NameOrEntity) → After src names w (ts ++ (us ++ one kind.OrOr p)) (had src st lv m (cond m.is_if follow_set.If r) operator.Or (at p))
or_begun p e a (holds (whole_longer b (begun_operand x y z))) names = goes_on follow_set.Whole e a (unsigned_whole (or_levels p b (begun_operand x y z)))
or_begun p e a (holds (sum_longer b (begun_operand x y z))) names = tt
or_begun p e a (holds (if_longer b (begun_if q c))) names = goes_on follow_set.Whole e a (unsigned_whole (if_or_levels p b (begun_if q c)))
or_begun p e a (holds_primary b) names = tt
