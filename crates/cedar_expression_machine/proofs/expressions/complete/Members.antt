-- Accesses, and the signs before an operand.
use Rattle.std.proofs.Common.{◌≡◌, ℕ, ◌+◌, List, [], ◌∷◌, ◌++◌, Option, Some, None, Bool, false, refl, sym, ◌∙◌, ap, subst, true}
use Rattle.std.specs.Prelude.{cond, nat_le}
use Rattle.cedar_lexer.specs.Token.{Lexeme}
use Rattle.cedar_lexer.specs.declared.token.TokenKind.{TokenKind}
use Rattle.cedar_lexer.specs.declared.token.TokenKind.TheVariants as kind
use Rattle.cedar_syntax.specs.declared.cst.NegOp.{NegOp}
use Rattle.cedar_syntax.specs.declared.cst.Unary.{Unary}
use Rattle.cedar_syntax.specs.declared.cst.Member.{Member}
use Rattle.cedar_syntax.specs.declared.cst.MemAccess.{MemAccess}
use Rattle.cedar_syntax.specs.declared.cst.MemAccess.TheVariants as access
use Rattle.cedar_syntax.specs.declared.cst.Primary.{Primary}
use Rattle.cedar_syntax.specs.declared.cst.Ident.{Ident}
use Rattle.cedar_grammar.specs.declared.reading.class.Sign.{Sign}
use Rattle.cedar_grammar.specs.declared.reading.class.Sign.TheVariants as sign
use Rattle.cedar_grammar.specs.declared.reading.class.AccessStart.{AccessStart}
use Rattle.cedar_grammar.specs.declared.reading.class.AccessStart.TheVariants as opens
use Rattle.cedar_expression_machine.specs.declared.expression.state.PendingOperators.{PendingOperators}
use Rattle.cedar_expression_machine.specs.declared.expression.state.Signs.{Signs}
use Rattle.cedar_expression_machine.specs.declared.expression.state.Operand.{Operand}
use Rattle.cedar_expression_machine.specs.declared.expression.state.Frame.{Frame}
use Rattle.cedar_expression_machine.specs.declared.expression.state.OperandPlace.{OperandPlace}
use Rattle.cedar_expression_machine.specs.declared.expression.state.OperandPlace.TheVariants as place
use Rattle.cedar_expression_machine.specs.declared.expression.state.OperandMode.{OperandMode}
use Rattle.cedar_expression_machine.specs.declared.expression.state.OperandMode.TheVariants as mode
use Rattle.cedar_expression_machine.specs.declared.expression.state.FollowSet.{FollowSet}
use Rattle.cedar_expression_machine.specs.declared.expression.state.FollowSet.TheVariants as follow_set
use Rattle.cedar_grammar.specs.declared.reading.extent.Extent.{Extent}
use Rattle.cedar_grammar.specs.grammar.Place.{joint_extent, extent, node_at, placed, extent_of}
use Rattle.cedar_syntax.specs.tokens.Tokens.{Spot, one, any_of}
use Rattle.cedar_syntax.specs.trees.Trees.{Cell, unary_of, member_of, bangs_of, dashes_of}
use Rattle.cedar_grammar.specs.grammar.LooseWords.{ReadsAny, any}
use Rattle.cedar_grammar.specs.grammar.LooseExpressions.{ReadsSigns, one_sign, more_signs}
use Rattle.cedar_expression_machine.specs.machines.Closing.{spanned_tree, unary_at, signs_of, no_signs, operand_with, with_access}
use Rattle.cedar_expression_machine.specs.machines.ExpressionStates.{state, wants, has_operand, around}
use Rattle.cedar_expression_machine.specs.machines.ExpressionPlans.{edge, may_sign, sign_may_stand}
use Rattle.cedar_grammar.specs.machines.Classes.{with_sign}
use Rattle.cedar_expression_machine.specs.machines.Wanting.{after_signs}
use Rattle.cedar_expression_machine.specs.machines.Having.{access_beginning, field_reading}
use Rattle.cedar_grammar.specs.declared.reading.class.FollowClass.TheVariants as operator
use Rattle.cedar_syntax.specs.declared.cst.NegOp.TheVariants as neg
use Rattle.cedar_expression_machine.specs.declared.expression.state.Act.TheVariants as act
use Rattle.cedar_expression_machine.specs.declared.expression.state.StartAct.TheVariants as begin
use Rattle.cedar_syntax.specs.tokens.Signs.{sign_limit}
use Rattle.cedar_grammar.specs.machines.Machine.{is_some, option_image}
use Rattle.cedar_expression_machine.specs.machines.ExpressionShapes.{op_sign}
use Rattle.cedar_expression_machine.specs.machines.Expressions.{want_act, dot_act}
use Rattle.cedar_grammar.proofs.machines.SingleTokens.{same_any}
use Rattle.cedar_expression_machine.proofs.expressions.Stepping.{Names, planned, had}
use Rattle.cedar_expression_machine.proofs.expressions.complete.Runs.{follow_set_at, token, join-assoc, join-none, extent-append, at, bang_more, dash_more, Setting, run, two, StandsAt, stands, met, Accesses, if_accessed, sum_accessed, all_accessed, is_alone}
use Rattle.cedar_expression_machine.proofs.expressions.complete.Words.{closed, PrimaryAt}

-- an operand without accesses, and some accesses behind it
pub record AccessesAt {src : List ℕ} (c : Setting src) (st : List Frame) (lv : PendingOperators) (md : OperandMode) (sg : Signs) (x : Cell Primary) (e : Option Extent) (b : Bool) (ts : List Lexeme) (xs : List (Cell MemAccess)) : Type 0 where
  pub after : OperandMode
  pub at_it : StandsAt c st lv after (operand_with sg x xs (joint_extent e (extent ts)) b)
  pub goes : run c (Some (state st lv md)) ts ≡ Some (state st lv after)

pub no_accesses : {src : List ℕ} (c : Setting src) (st : List Frame) (lv : PendingOperators) (md : OperandMode) (sg : Signs) (x : Cell Primary) (e : Option Extent) (b : Bool) → StandsAt c st lv md (operand_with sg x [] e b) →
    AccessesAt c st lv md sg x e b [] []
no_accesses c st lv md sg x e b h = record { after = md; at_it = subst (λ q. StandsAt c st lv md (operand_with sg x [] q b)) (sym (join-none e)) h; goes = refl }

-- one access, behind any operand that it may stand behind
abbrev pub AccessRuns : {src : List ℕ} → Setting src → List Lexeme → MemAccess → Type 0
AccessRuns {src = src} c ts y = (st : List Frame) (lv : PendingOperators) (md : OperandMode) (m : Operand) → StandsAt c st lv md m → Accesses (follow_set_at c.symbol st m) →
    run c (Some (state st lv md)) ts ≡ Some (has_operand st lv (with_access src m (closed ts y)))

pub more_accesses : {src : List ℕ} (c : Setting src) (st : List Frame) (lv : PendingOperators) (md : OperandMode) (sg : Signs) (x : Cell Primary) (e : Option Extent) (b : Bool) (ts us : List Lexeme) (xs : List (Cell MemAccess)) (y : MemAccess) →
    Accesses (cond b follow_set.If (edge c.symbol st)) → AccessesAt c st lv md sg x e b ts xs → AccessRuns c us y → AccessesAt c st lv md sg x e b (ts ++ us) (xs ++ placed src us y ∷ [])
more_accesses {src = src} c st lv md sg x e b ts us xs y a h g =
    let m : Operand = operand_with sg x (xs ++ placed src us y ∷ []) (joint_extent e (extent (ts ++ us))) b in
    record {
      after = mode.Have m None;
      at_it = stands c st lv m;
      goes = two c (Some (state st lv md)) _ _ ts us h.goes (g st lv h.after (operand_with sg x xs (joint_extent e (extent ts)) b) h.at_it a)
          ∙ ap (λ q. Some (has_operand st lv (operand_with sg x (xs ++ placed src us y ∷ []) q b))) (join-assoc e (extent ts) (extent us) ∙ ap (λ q. joint_extent e q) (sym (extent-append ts us)));
    }

pub begins_access : (src : List ℕ) (st : List Frame) (lv : PendingOperators) (m : Operand) (a : AccessStart) (e : Extent) {r : FollowSet} → Accesses r → had src st lv m r (operator.Access a) e ≡ Some (access_beginning st lv m a e)
begins_access src st lv m a e if_accessed = refl
begins_access src st lv m a e sum_accessed = refl
begins_access src st lv m a e all_accessed = refl

field_by : (src : List ℕ) (st : List Frame) (lv : PendingOperators) (m : Operand) (d : Extent) (t : Lexeme) (o : Option Ident) → is_some o ≡ true → planned (option_image (λ i. act.Field) o) (λ a. dot_act src st lv m d a t) ≡ field_reading src st lv m d (any_of t.kind t.text) (extent_of t)
field_by src st lv m d t (Some i) e = refl
field_by src st lv m d t None e = absurd (cc)

field_step : (src : List ℕ) (st : List Frame) (lv : PendingOperators) (m : Operand) (d : Extent) (t : Lexeme) (i : Ident) → any_of t.kind t.text ≡ Some i →
    planned (option_image (λ i. act.Field) (any_of t.kind [])) (λ a. dot_act src st lv m d a t) ≡ field_reading src st lv m d (Some i) (extent_of t)
field_step src st lv m d t i e = field_by src st lv m d t (any_of t.kind []) (same_any t.kind t.text ∙ ap (λ o. is_some o) e) ∙ ap (λ o. field_reading src st lv m d o (extent_of t)) e

pub field_runs : {src : List ℕ} (c : Setting src) {ts : List Lexeme} {i : Ident} (p : Spot) → ReadsAny ts i → AccessRuns c (one kind.Dot p ++ ts) (access.Field (placed src ts i))
field_runs {src = src} c p (any {k = k} {i = i} q e) st lv md m h a =
    two c (Some (state st lv md)) (Some (state st lv (mode.Have m (Some (at p))))) _ (one kind.Dot p) (one k q) (met c st lv md m kind.Dot p h refl ∙ begins_access src st lv m opens.Dot (at p) a)
    (field_step src st lv m (at p) (token k q) i e)

-- from an open bracket to its end
pub around_is : (ts : List Lexeme) (j k : TokenKind) (l m : Spot) → around (at l) (at m) ≡ extent (one j l ++ ts ++ one k m)
around_is ts j k l m = inside (extent ts) ∙ sym (extent-append (one j l ++ ts) (one k m) ∙ ap (λ q. joint_extent q (Some (at m))) (extent-append (one j l) ts))
  where
    inside : (e : Option Extent) → around (at l) (at m) ≡ joint_extent (joint_extent (Some (at l)) e) (Some (at m))
    inside None = refl
    inside (Some a) = refl

-- a member: a primary and its accesses

pub record MemberAt {src : List ℕ} (c : Setting src) (st : List Frame) (lv : PendingOperators) (pl : OperandPlace) (sg : Signs) (ts : List Lexeme) (x : Member) : Type 0 where
  pub md : OperandMode
  pub last : Operand
  pub is : unary_at src last ≡ spanned_tree (joint_extent sg.extent (extent ts)) (unary_of sg.op (placed src ts x))
  pub free : last.is_if ≡ false
  pub at_it : StandsAt c st lv md last
  pub goes : run c (Some (state st lv (mode.Want pl sg))) ts ≡ Some (state st lv md)

pub members : {src : List ℕ} (c : Setting src) (st : List Frame) (lv : PendingOperators) (pl : OperandPlace) (sg : Signs) (ts us : List Lexeme) (x : Primary) (xs : List (Cell MemAccess)) (h : PrimaryAt c st lv pl sg ts x) →
    AccessesAt c st lv h.md sg (placed src ts x) (extent ts) false us xs → MemberAt c st lv pl sg (ts ++ us) (member_of (placed src ts x) xs)
members {src = src} c st lv pl sg ts us x xs h g = record {
  md = g.after;
  last = operand_with sg (placed src ts x) xs (joint_extent (extent ts) (extent us)) false;
  is = ap (λ q. spanned_tree (joint_extent sg.extent q) (unary_of sg.op (node_at src q (member_of (placed src ts x) xs)))) (sym (extent-append ts us));
  free = refl;
  at_it = g.at_it;
  goes = two c (Some (state st lv (mode.Want pl sg))) _ _ ts us h.goes g.goes;
}

-- signs

sign_by : (src : List ℕ) (names : Names) (st : List Frame) (lv : PendingOperators) (sg : Signs) (s : Sign) (t : Lexeme) (pl : OperandPlace) (b : Bool) → b ≡ true →
    planned (option_image (λ b. act.Begin b) (cond b (Some (begin.Sign s)) None)) (λ a. want_act src names st lv pl sg a t) ≡ after_signs st lv sg.extent (with_sign sg.op s) (extent_of t)
sign_by src names st lv sg s t pl true e = refl
sign_by src names st lv sg s t pl false e = absurd (cc)

sign_stands : (pl : OperandPlace) (q : Option Sign) (s : Sign) → is_alone pl ≡ false → may_sign q s ≡ true → sign_may_stand pl q s ≡ true
sign_stands place.Expr q s e f = f
sign_stands place.Item q s e f = f
sign_stands place.Key q s e f = f
sign_stands place.Has q s e f = f
sign_stands place.Operand q s e f = f
sign_stands place.Primary q s e f = absurd (cc)

sign_taken : (src : List ℕ) (names : Names) (st : List Frame) (lv : PendingOperators) (sg : Signs) (s : Sign) (t : Lexeme) (pl : OperandPlace) → is_alone pl ≡ false → may_sign (op_sign sg.op) s ≡ true →
    planned (option_image (λ b. act.Begin b) (cond (sign_may_stand pl (op_sign sg.op) s) (Some (begin.Sign s)) None)) (λ a. want_act src names st lv pl sg a t) ≡ after_signs st lv sg.extent (with_sign sg.op s) (extent_of t)
sign_taken src names st lv sg s t pl e f = sign_by src names st lv sg s t pl (sign_may_stand pl (op_sign sg.op) s) (sign_stands pl (op_sign sg.op) s e f)

bangs_may : (n : ℕ) → may_sign (op_sign (Some (bangs_of n))) sign.Bang ≡ true
bangs_may n = go (nat_le n sign_limit)
  where
    go : (a : Bool) → may_sign (op_sign (Some (cond a (neg.Bang n) neg.OverBang))) sign.Bang ≡ true
    go true = refl
    go false = refl

dashes_may : (n : ℕ) → may_sign (op_sign (Some (dashes_of n))) sign.Dash ≡ true
dashes_may n = go (nat_le n sign_limit)
  where
    go : (a : Bool) → may_sign (op_sign (Some (cond a (neg.Dash n) neg.OverDash))) sign.Dash ≡ true
    go true = refl
    go false = refl

abbrev pub SignsAt : {src : List ℕ} → Setting src → List Frame → PendingOperators → OperandPlace → List Lexeme → NegOp → Type 0
SignsAt c st lv pl ts o = run c (Some (state st lv (wants pl))) ts ≡ Some (state st lv (mode.Want place.Operand (signs_of (Some o) (extent ts))))

after_sign : (st : List Frame) (lv : PendingOperators) (ts : List Lexeme) (k : TokenKind) (p : Spot) (q : Option NegOp) (o : NegOp) → q ≡ Some o →
    (after_signs st lv (extent ts) q (at p)) ≡ Some (state st lv (mode.Want place.Operand (signs_of (Some o) (extent (ts ++ one k p)))))
after_sign st lv ts k p q o e =
    ap (λ w. (after_signs st lv (extent ts) w (at p))) e ∙ ap (λ w. Some (state st lv (mode.Want place.Operand (signs_of (Some o) w)))) (sym (extent-append ts (one k p)))

pub bangs_run : {src : List ℕ} (c : Setting src) {ts : List Lexeme} {n : ℕ} → ReadsSigns kind.Bang ts n → (st : List Frame) (lv : PendingOperators) (pl : OperandPlace) → is_alone pl ≡ false → SignsAt c st lv pl ts (bangs_of n)
bangs_run {src = src} c (one_sign p) st lv pl e = sign_taken src c.names st lv no_signs sign.Bang (token kind.Bang p) pl e refl
bangs_run {src = src} c (more_signs {ts = ts} {n = n} p r) st lv pl e =
    two c (Some (state st lv (wants pl))) _ _ ts (one kind.Bang p) (bangs_run c r st lv pl e)
    (sign_taken src c.names st lv (signs_of (Some (bangs_of n)) (extent ts)) sign.Bang (token kind.Bang p) place.Operand refl (bangs_may n) ∙ after_sign st lv ts kind.Bang p _ (bangs_of (n + 1)) (bang_more n))

pub dashes_run : {src : List ℕ} (c : Setting src) {ts : List Lexeme} {n : ℕ} → ReadsSigns kind.Minus ts n → (st : List Frame) (lv : PendingOperators) (pl : OperandPlace) → is_alone pl ≡ false → SignsAt c st lv pl ts (dashes_of n)
dashes_run {src = src} c (one_sign p) st lv pl e = sign_taken src c.names st lv no_signs sign.Dash (token kind.Minus p) pl e refl
dashes_run {src = src} c (more_signs {ts = ts} {n = n} p r) st lv pl e =
    two c (Some (state st lv (wants pl))) _ _ ts (one kind.Minus p) (dashes_run c r st lv pl e)
    (sign_taken src c.names st lv (signs_of (Some (dashes_of n)) (extent ts)) sign.Dash (token kind.Minus p) place.Operand refl (dashes_may n) ∙ after_sign st lv ts kind.Minus p _ (dashes_of (n + 1)) (dash_more n))

-- an operand with its signs

pub record UnaryAt {src : List ℕ} (c : Setting src) (st : List Frame) (lv : PendingOperators) (pl : OperandPlace) (ts : List Lexeme) (x : Unary) : Type 0 where
  pub md : OperandMode
  pub last : Operand
  pub is : unary_at src last ≡ closed ts x
  pub free : last.is_if ≡ false
  pub at_it : StandsAt c st lv md last
  pub goes : run c (Some (state st lv (wants pl))) ts ≡ Some (state st lv md)

pub plains : {src : List ℕ} (c : Setting src) (st : List Frame) (lv : PendingOperators) (pl : OperandPlace) (ts : List Lexeme) (x : Member) → MemberAt c st lv pl no_signs ts x → UnaryAt c st lv pl ts (unary_of None (placed src ts x))
plains c st lv pl ts x h = record { md = h.md; last = h.last; is = h.is; free = h.free; at_it = h.at_it; goes = h.goes }

pub signeds : {src : List ℕ} (c : Setting src) (st : List Frame) (lv : PendingOperators) (pl : OperandPlace) (ts us : List Lexeme) (o : NegOp) (x : Member) → SignsAt c st lv pl ts o → MemberAt c st lv place.Operand (signs_of (Some o) (extent ts)) us x →
    UnaryAt c st lv pl (ts ++ us) (unary_of (Some o) (placed src us x))
signeds {src = src} c st lv pl ts us o x e h = record {
  md = h.md;
  last = h.last;
  is = h.is ∙ ap (λ q. spanned_tree q (unary_of (Some o) (placed src us x))) (sym (extent-append ts us));
  free = h.free;
  at_it = h.at_it;
  goes = two c (Some (state st lv (wants pl))) _ _ ts us e h.goes;
}
