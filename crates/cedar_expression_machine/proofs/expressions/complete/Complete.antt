-- The machine, run over tokens that have a tree, comes to that tree.
use Rattle.std.proofs.Common.{◌≡◌, ℕ, List, [], ◌∷◌, Option, Some, None, Bool, true, false, refl, sym, ◌∙◌, ap, subst}
use Rattle.std.specs.Prelude.{cond}
use Rattle.cedar_lexer.specs.Token.{Lexeme}
use Rattle.cedar_lexer.specs.declared.token.TokenKind.{TokenKind}
use Rattle.cedar_lexer.specs.declared.token.TokenKind.TheVariants as kind
use Rattle.cedar_expressions.specs.declared.operators.AddOp.{AddOp}
use Rattle.cedar_syntax.specs.declared.cst.Expr.{Expr}
use Rattle.cedar_syntax.specs.declared.cst.Or.{Or}
use Rattle.cedar_syntax.specs.declared.cst.And.{And}
use Rattle.cedar_syntax.specs.declared.cst.RelOp.{RelOp}
use Rattle.cedar_syntax.specs.declared.cst.Relation.{Relation}
use Rattle.cedar_syntax.specs.declared.cst.Add.{Add}
use Rattle.cedar_syntax.specs.declared.cst.MultOp.{MultOp}
use Rattle.cedar_syntax.specs.declared.cst.Mult.{Mult}
use Rattle.cedar_syntax.specs.declared.cst.Unary.{Unary}
use Rattle.cedar_syntax.specs.declared.cst.Member.{Member}
use Rattle.cedar_syntax.specs.declared.cst.MemAccess.{MemAccess}
use Rattle.cedar_syntax.specs.declared.cst.Primary.{Primary}
use Rattle.cedar_syntax.specs.declared.cst.RecInit.{RecInit}
use Rattle.cedar_grammar.specs.declared.reading.class.SideWord.TheVariants as side
use Rattle.cedar_expression_machine.specs.machines.Named.{NameOrEntity, IsWords}
use Rattle.cedar_expression_machine.specs.declared.words.state.WordsState.{WordsState}
use Rattle.cedar_expression_machine.specs.declared.expression.state.Branch.{Branch}
use Rattle.cedar_expression_machine.specs.declared.expression.state.PendingOperators.{PendingOperators}
use Rattle.cedar_expression_machine.specs.declared.expression.state.Signs.{Signs}
use Rattle.cedar_expression_machine.specs.declared.expression.state.Record.{Record}
use Rattle.cedar_expression_machine.specs.declared.expression.state.Frame.{Frame}
use Rattle.cedar_expression_machine.specs.declared.expression.state.Frame.TheVariants as frame
use Rattle.cedar_expression_machine.specs.declared.expression.state.OperandPlace.{OperandPlace}
use Rattle.cedar_expression_machine.specs.declared.expression.state.OperandPlace.TheVariants as place
use Rattle.cedar_expression_machine.specs.declared.expression.state.OperandMode.{OperandMode}
use Rattle.cedar_expression_machine.specs.declared.expression.state.State.{State}
use Rattle.cedar_expression_machine.specs.declared.expression.state.StartSymbol.TheVariants as form
use Rattle.cedar_expression_machine.specs.declared.expression.state.FollowSet.TheVariants as follow_set
use Rattle.cedar_grammar.specs.declared.reading.extent.Extent.{Extent}
use Rattle.cedar_grammar.specs.grammar.Place.{extent, placed}
use Rattle.cedar_syntax.specs.tokens.Tokens.{Spot, one}
use Rattle.cedar_syntax.specs.trees.Trees.{Cell, bangs_of, dashes_of}
use Rattle.cedar_grammar.specs.grammar.LooseExpressions.{if_name, ReadsExpr, or_expr, if_expr, ReadsOr, or, ReadsAnds, one_and, more_and, ReadsAnd, and, ReadsRelations, one_relation, more_relation, ReadsRelation, common, has, has_if, like, is, is_in, ReadsAdds, one_add, more_add, ReadsAdd, add, ReadsMults, one_mult, more_mult, ReadsMult, mult, ReadsUnaries, one_unary, more_unary, ReadsUnary, plain, banged, dashed, ReadsMember, member, ReadsAccesses, no_access, more_access, ReadsAccess, field, call, index, ReadsPrimary, literally, referred, named, slotted, paren, set, in_braces, ReadsExprs, no_expr, exprs, exprs_comma, ReadsExprItems, one_expr, more_exprs, ReadsRecInits, no_init, inits, inits_comma, ReadsInitItems, one_init, more_inits, ReadsRecInit, rec_init, if_init}
use Rattle.cedar_grammar.specs.machines.Machine.{Machine, machine_of, answer_state, steps, RunsTo, option_image}
use Rattle.cedar_expression_machine.specs.machines.Closing.{made_mult, made_add, made_and, made_or, whole, add_at, fresh, no_signs, signs_of, operand_with, spanned_tree}
use Rattle.cedar_expression_machine.specs.machines.ExpressionStates.{state, opening}
use Rattle.cedar_expression_machine.specs.machines.ExpressionPlans.{edge}
use Rattle.cedar_expression_machine.specs.machines.Expressions.{expr_at_end, sum_at_end, primary_at_end, expression_reader, sum_reader, primary_reader}
use Rattle.cedar_expression_machine.specs.machines.ExpressionShapes.{WordOutline}
use Rattle.cedar_expression_machine.proofs.expressions.Held.{Held}
use Rattle.cedar_expression_machine.proofs.expressions.Stepping.{Names, takes_so}
use Rattle.cedar_expression_machine.proofs.expressions.complete.If.{no_key, with_key}
use Rattle.cedar_expression_machine.proofs.expressions.complete.Runs.{at, Setting, steps_to, run, StandsAt, Sums, a_sum, a_whole, Accesses, if_accessed, sums_accessed, is_alone, is_first, not_alone}
use Rattle.cedar_expression_machine.proofs.expressions.complete.Words.{closed, PrimaryAt, literal_runs, slot_runs, name_runs, ref_runs}
use Rattle.cedar_expression_machine.proofs.expressions.complete.Members.{AccessesAt, no_accesses, AccessRuns, more_accesses, field_runs, MemberAt, members, bangs_run, dashes_run, UnaryAt, plains, signeds}
use Rattle.cedar_expression_machine.proofs.expressions.complete.Sums.{chain, at_add, MultAt, AddAt, one_unaries, more_unaries, one_mults, more_mults, mult_made, add_made}
use Rattle.cedar_expression_machine.proofs.expressions.complete.Relations.{CommonAt, RelationAt, one_adds, more_adds, commons, sides, has_ifs, is_ins}
use Rattle.cedar_expression_machine.proofs.expressions.complete.OperatorLevels.{AndAt, OrAt, ExprAt, one_relations, more_relations, and_made, one_ands, more_ands, or_made, or_exprs, if_exprs}
use Rattle.cedar_expression_machine.proofs.expressions.complete.Brackets.{paren_runs, paren_frame, index_runs, IsList, ItemsAt, one_exprs, further_exprs, ListRuns, items_close, comma_closes, set_list, set_runs, call_list, call_runs, PairAt, pairs, if_pairs, PairsAt, one_pairs, further_pairs, RecordRuns, no_pairs_close, pairs_close, pairs_comma_close, pairs_so_far, braces_run}

-- within brackets an operand goes on as a whole expression's
abbrev Whole : {src : List ℕ} → Setting src → List Frame → Type 0
Whole c st = edge c.symbol st ≡ follow_set.Whole

whole_sums : {src : List ℕ} (c : Setting src) (st : List Frame) → Whole c st → Sums (edge c.symbol st)
whole_sums c st e = subst (λ r. Sums r) (sym e) a_whole

mutual
  pub expr_runs : {src : List ℕ} (c : Setting src) {ts : List Lexeme} {x : Expr} → ReadsExpr src ts x → (st : List Frame) (bs : List Branch) (pl : OperandPlace) → is_first pl ≡ true → Whole c st → ExprAt c st bs pl ts x
  expr_runs c (or_expr {ts = ts} {x = x} r) st bs pl f e = or_exprs c st bs pl ts x (or_runs c r st (fresh bs) pl (not_alone pl f) e)
  expr_runs c (if_expr {ts = ts} {us = us} {vs = vs} {c = x} {x = y} {y = z} l m n r s t) st bs pl f e =
      if_exprs c st bs pl ts us vs l m n x y z f (λ g. expr_runs c r (g ∷ st) [] place.Expr refl refl) (λ g. expr_runs c s (g ∷ st) [] place.Expr refl refl) (λ b. expr_runs c t st (b ∷ bs) place.Expr refl e)

  or_runs : {src : List ℕ} (c : Setting src) {ts : List Lexeme} {x : Or} → ReadsOr src ts x → (st : List Frame) (lv : PendingOperators) (pl : OperandPlace) → is_alone pl ≡ false → Whole c st → OrAt c st lv pl ts (λ q. made_or q ≡ closed ts x)
  or_runs c (or {ts = ts} {x = x} {xs = xs} r) st lv pl f e = or_made c st lv pl ts x xs (ands_run c r st lv pl f e)

  ands_run : {src : List ℕ} (c : Setting src) {ts : List Lexeme} {x : Cell And} {xs : List (Cell And)} → ReadsAnds src ts x xs → (st : List Frame) (lv : PendingOperators) (pl : OperandPlace) → is_alone pl ≡ false → Whole c st → OrAt c st lv pl ts (λ q. q ≡ chain ts x xs)
  ands_run c (one_and {ts = ts} {x = x} r) st lv pl f e = one_ands c st lv pl ts x (and_runs c r st _ pl f e)
  ands_run c (more_and {ts = ts} {us = us} {x = x} {y = y} {xs = xs} p r s) st lv pl f e = more_ands c st lv pl ts us p x y xs (ands_run c r st lv pl f e) (λ w. and_runs c s st w place.Operand refl e)

  and_runs : {src : List ℕ} (c : Setting src) {ts : List Lexeme} {x : And} → ReadsAnd src ts x → (st : List Frame) (lv : PendingOperators) (pl : OperandPlace) → is_alone pl ≡ false → Whole c st → AndAt c st lv pl ts (λ q. made_and q ≡ closed ts x)
  and_runs c (and {ts = ts} {x = x} {xs = xs} r) st lv pl f e = and_made c st lv pl ts x xs (relations_run c r st lv pl f e)

  relations_run : {src : List ℕ} (c : Setting src) {ts : List Lexeme} {x : Cell Relation} {xs : List (Cell Relation)} → ReadsRelations src ts x xs → (st : List Frame) (lv : PendingOperators) (pl : OperandPlace) → is_alone pl ≡ false → Whole c st → AndAt c st lv pl ts (λ q. q ≡ chain ts x xs)
  relations_run c (one_relation {ts = ts} {x = x} r) st lv pl f e = one_relations c st lv pl ts x (relation_runs c r st _ pl f e)
  relations_run c (more_relation {ts = ts} {us = us} {x = x} {y = y} {xs = xs} p r s) st lv pl f e = more_relations c st lv pl ts us p x y xs (relations_run c r st lv pl f e) (λ w. relation_runs c s st w place.Operand refl e)

  relation_runs : {src : List ℕ} (c : Setting src) {ts : List Lexeme} {x : Relation} → ReadsRelation src ts x → (st : List Frame) (lv : PendingOperators) (pl : OperandPlace) → is_alone pl ≡ false → Whole c st → RelationAt c st lv pl ts x
  relation_runs c (common {ts = ts} {x = x} {xs = xs} r) st lv pl f e = commons c st lv pl ts x xs e (adds_run c r st lv pl f e)
  relation_runs c (has {ts = ts} {us = us} {x = x} {y = y} p r s) st lv pl f e = sides c st lv pl ts us x y side.Has p e (add_runs c r st _ pl f (whole_sums c st e)) (λ w. add_runs c s st w place.Has refl (whole_sums c st e))
  relation_runs {src = src} c (has_if {ts = ts} {us = us} {x = x} {xs = xs} p q r s) st lv pl f e =
      has_ifs c st lv pl ts us x xs p q e (add_runs c r st _ pl f (whole_sums c st e)) (λ w md h. accesses_run c s st w md no_signs (placed src (one kind.If q) (if_name src q)) (Some (at q)) true if_accessed h)
  relation_runs c (like {ts = ts} {us = us} {x = x} {y = y} p r s) st lv pl f e = sides c st lv pl ts us x y side.Like p e (add_runs c r st _ pl f (whole_sums c st e)) (λ w. add_runs c s st w place.Operand refl (whole_sums c st e))
  relation_runs c (is {ts = ts} {us = us} {x = x} {y = y} p r s) st lv pl f e = sides c st lv pl ts us x y side.Is p e (add_runs c r st _ pl f (whole_sums c st e)) (λ w. add_runs c s st w place.Operand refl (whole_sums c st e))
  relation_runs c (is_in {ts = ts} {us = us} {vs = vs} {x = x} {y = y} {z = z} p q r s t) st lv pl f e =
      is_ins c st lv pl ts us vs x y z p q e (add_runs c r st _ pl f (whole_sums c st e)) (λ w. add_runs c s st w place.Operand refl (whole_sums c st e)) (λ w. add_runs c t st w place.Operand refl (whole_sums c st e))

  adds_run : {src : List ℕ} (c : Setting src) {ts : List Lexeme} {x : Cell Add} {xs : List (RelOp × Cell Add)} → ReadsAdds src ts x xs → (st : List Frame) (lv : PendingOperators) (pl : OperandPlace) → is_alone pl ≡ false → Whole c st → CommonAt c st lv pl ts (λ q. q ≡ chain ts x xs)
  adds_run c (one_add {ts = ts} {x = x} r) st lv pl f e = one_adds c st lv pl ts x (add_runs c r st _ pl f (whole_sums c st e))
  adds_run c (more_add {ts = ts} {us = us} {k = k} {o = o} {x = x} {y = y} {xs = xs} p r q s) st lv pl f e = more_adds c st lv pl ts us k o p x y xs e (adds_run c r st lv pl f e) q (λ w. add_runs c s st w place.Operand refl (whole_sums c st e))

  add_runs : {src : List ℕ} (c : Setting src) {ts : List Lexeme} {x : Add} → ReadsAdd src ts x → (st : List Frame) (lv : PendingOperators) (pl : OperandPlace) → is_alone pl ≡ false → Sums (edge c.symbol st) → AddAt c st lv pl ts (λ q. made_add q ≡ closed ts x)
  add_runs c (add {ts = ts} {x = x} {xs = xs} r) st lv pl f e = add_made c st lv pl ts x xs (mults_run c r st lv pl f e)

  mults_run : {src : List ℕ} (c : Setting src) {ts : List Lexeme} {x : Cell Mult} {xs : List (AddOp × Cell Mult)} → ReadsMults src ts x xs → (st : List Frame) (lv : PendingOperators) (pl : OperandPlace) → is_alone pl ≡ false → Sums (edge c.symbol st) → AddAt c st lv pl ts (λ q. q ≡ chain ts x xs)
  mults_run c (one_mult {ts = ts} {x = x} r) st lv pl f e = one_mults c st lv pl ts x (mult_runs c r st _ pl f e)
  mults_run c (more_mult {ts = ts} {us = us} {k = k} {o = o} {x = x} {y = y} {xs = xs} p r q s) st lv pl f e = more_mults c st lv pl ts us k o p x y xs e (mults_run c r st lv pl f e) q (λ w. mult_runs c s st w place.Operand refl e)

  mult_runs : {src : List ℕ} (c : Setting src) {ts : List Lexeme} {x : Mult} → ReadsMult src ts x → (st : List Frame) (lv : PendingOperators) (pl : OperandPlace) → is_alone pl ≡ false → Sums (edge c.symbol st) → MultAt c st lv pl ts (λ q. made_mult q ≡ closed ts x)
  mult_runs c (mult {ts = ts} {x = x} {xs = xs} r) st lv pl f e = mult_made c st lv pl ts x xs (unaries_run c r st lv pl f e)

  unaries_run : {src : List ℕ} (c : Setting src) {ts : List Lexeme} {x : Cell Unary} {xs : List (MultOp × Cell Unary)} → ReadsUnaries src ts x xs → (st : List Frame) (lv : PendingOperators) (pl : OperandPlace) → is_alone pl ≡ false → Sums (edge c.symbol st) → MultAt c st lv pl ts (λ q. q ≡ chain ts x xs)
  unaries_run c (one_unary {ts = ts} {x = x} r) st lv pl f e = one_unaries c st lv pl ts x (unary_runs c r st _ pl f e)
  unaries_run c (more_unary {ts = ts} {us = us} {k = k} {o = o} {x = x} {y = y} {xs = xs} p r q s) st lv pl f e = more_unaries c st lv pl ts us k o p x y xs e (unaries_run c r st lv pl f e) q (λ w. unary_runs c s st w place.Operand refl e)

  unary_runs : {src : List ℕ} (c : Setting src) {ts : List Lexeme} {x : Unary} → ReadsUnary src ts x → (st : List Frame) (lv : PendingOperators) (pl : OperandPlace) → is_alone pl ≡ false → Sums (edge c.symbol st) → UnaryAt c st lv pl ts x
  unary_runs c (plain {ts = ts} {x = x} r) st lv pl f e = plains c st lv pl ts x (member_runs c r st lv pl no_signs e)
  unary_runs c (banged {ts = ts} {us = us} {n = n} {x = x} b r) st lv pl f e =
      signeds c st lv pl ts us (bangs_of n) x (bangs_run c b st lv pl f) (member_runs c r st lv place.Operand (signs_of (Some (bangs_of n)) (extent ts)) e)
  unary_runs c (dashed {ts = ts} {us = us} {n = n} {x = x} b r) st lv pl f e =
      signeds c st lv pl ts us (dashes_of n) x (dashes_run c b st lv pl f) (member_runs c r st lv place.Operand (signs_of (Some (dashes_of n)) (extent ts)) e)

  member_runs : {src : List ℕ} (c : Setting src) {ts : List Lexeme} {x : Member} → ReadsMember src ts x → (st : List Frame) (lv : PendingOperators) (pl : OperandPlace) (sg : Signs) → Sums (edge c.symbol st) → MemberAt c st lv pl sg ts x
  member_runs {src = src} c (member {ts = ts} {us = us} {x = x} {xs = xs} r s) st lv pl sg e =
      let h = primary_runs c r st lv pl sg in
      members c st lv pl sg ts us x xs h (accesses_run c s st lv h.md sg (placed src ts x) (extent ts) false (sums_accessed e) h.at_it)

  accesses_run : {src : List ℕ} (c : Setting src) {ts : List Lexeme} {xs : List (Cell MemAccess)} → ReadsAccesses src ts xs → (st : List Frame) (lv : PendingOperators) (md : OperandMode) (sg : Signs) (x : Cell Primary) (o : Option Extent) (b : Bool) →
      Accesses (cond b follow_set.If (edge c.symbol st)) → StandsAt c st lv md (operand_with sg x [] o b) → AccessesAt c st lv md sg x o b ts xs
  accesses_run c no_access st lv md sg x o b a h = no_accesses c st lv md sg x o b h
  accesses_run c (more_access {ts = ts} {us = us} {xs = xs} {x = y} r s) st lv md sg x o b a h = more_accesses c st lv md sg x o b ts us xs y a (accesses_run c r st lv md sg x o b a h) (access_runs c s)

  access_runs : {src : List ℕ} (c : Setting src) {ts : List Lexeme} {x : MemAccess} → ReadsAccess src ts x → AccessRuns c ts x
  access_runs c (field p r) = field_runs c p r
  access_runs c (call {ts = ts} {xs = xs} l m r) = call_runs c ts l m xs (λ st lv u. exprs_run c r st _ _ _ (call_list c st lv u l))
  access_runs c (index {ts = ts} {x = x} l m r) = index_runs c ts l m x (λ g st. expr_runs c r (g ∷ st) [] place.Expr refl refl)

  primary_runs : {src : List ℕ} (c : Setting src) {ts : List Lexeme} {x : Primary} → ReadsPrimary src ts x → (st : List Frame) (lv : PendingOperators) (pl : OperandPlace) (sg : Signs) → PrimaryAt c st lv pl sg ts x
  primary_runs c (literally r) st lv pl sg = literal_runs c r st lv pl sg
  primary_runs c (referred r) st lv pl sg = ref_runs c r st lv pl sg
  primary_runs c (named r) st lv pl sg = name_runs c r st lv pl sg
  primary_runs c (slotted p r) st lv pl sg = slot_runs c p r st lv pl sg
  primary_runs c (paren {ts = ts} {x = x} l m r) st lv pl sg = paren_runs c st lv pl sg ts l m x (expr_runs c r ((paren_frame lv sg l) ∷ st) [] place.Expr refl refl)
  primary_runs c (set {ts = ts} {xs = xs} l m r) st lv pl sg = set_runs c st lv pl sg ts l m xs (exprs_run c r st _ _ _ (set_list c st lv sg l))
  primary_runs c (in_braces {ts = ts} {xs = xs} l m r) st lv pl sg = braces_run c st lv pl sg ts l m xs (inits_run c r st lv sg l)

  exprs_run : {src : List ℕ} (c : Setting src) {ts : List Lexeme} {xs : List (Cell Expr)} → ReadsExprs src ts xs → (st : List Frame) (g : List (Cell Expr) → Frame) (k : TokenKind) (done : List (Cell Expr) → Extent → State) → IsList c st g k done → ListRuns c st g k done ts xs
  exprs_run c no_expr st g k done i = λ p. i.empty [] p
  exprs_run c (exprs {ts = ts} {xs = xs} r) st g k done i = items_close c st g k done ts xs i (items_run c r st g k done i)
  exprs_run c (exprs_comma {ts = ts} {xs = xs} q r) st g k done i = comma_closes c st g k done ts xs q i (items_run c r st g k done i)

  items_run : {src : List ℕ} (c : Setting src) {ts : List Lexeme} {xs : List (Cell Expr)} → ReadsExprItems src ts xs → (st : List Frame) (g : List (Cell Expr) → Frame) (k : TokenKind) (done : List (Cell Expr) → Extent → State) → IsList c st g k done → ItemsAt c st g ts xs
  items_run c (one_expr {ts = ts} {x = x} r) st g k done i = one_exprs c st g ts x (expr_runs c r ((g []) ∷ st) [] place.Item refl refl)
  items_run c (more_exprs {ts = ts} {us = us} {xs = xs} {y = y} p r s) st g k done i = further_exprs c st g k done ts us xs y p i (items_run c r st g k done i) (expr_runs c s ((g xs) ∷ st) [] place.Item refl refl)

  inits_run : {src : List ℕ} (c : Setting src) {ts : List Lexeme} {xs : List (Cell RecInit)} → ReadsRecInits src ts xs → (st : List Frame) (lv : PendingOperators) (sg : Signs) (l : Spot) → RecordRuns c st lv sg l ts xs
  inits_run c no_init st lv sg l = no_pairs_close c st lv sg l
  inits_run c (inits {ts = ts} {xs = xs} r) st lv sg l = pairs_close c st lv sg l ts xs (pairs_run c r st lv sg l)
  inits_run c (inits_comma {ts = ts} {xs = xs} q r) st lv sg l = pairs_comma_close c st lv sg l ts xs q (pairs_run c r st lv sg l)

  pairs_run : {src : List ℕ} (c : Setting src) {ts : List Lexeme} {xs : List (Cell RecInit)} → ReadsInitItems src ts xs → (st : List Frame) (lv : PendingOperators) (sg : Signs) (l : Spot) → PairsAt c st lv sg l ts xs
  pairs_run c (one_init {ts = ts} {x = x} r) st lv sg l = one_pairs c st lv sg l ts x (pair_runs c r st (pairs_so_far lv sg l []))
  pairs_run c (more_inits {ts = ts} {us = us} {xs = xs} {y = y} p r s) st lv sg l = further_pairs c st lv sg l ts us xs y p (pairs_run c r st lv sg l) (pair_runs c s st (pairs_so_far lv sg l xs))

  pair_runs : {src : List ℕ} (c : Setting src) {ts : List Lexeme} {x : RecInit} → ReadsRecInit src ts x → (st : List Frame) (f : Record) → PairAt c st f ts x
  pair_runs c (rec_init {ts = ts} {us = us} {x = x} {y = y} p r s) st f = pairs c st f ts us x y p (expr_runs c r (frame.Record (no_key f) ∷ st) [] place.Key refl refl) (expr_runs c s (frame.Record (with_key f _) ∷ st) [] place.Expr refl refl)
  pair_runs c (if_init {ts = ts} {y = y} p q r) st f = if_pairs c st f ts y p q (λ k. expr_runs c r (frame.Record (with_key f k) ∷ st) [] place.Expr refl refl)

-- the three machines

abbrev pub expression_setting : {W K : Type 0} (src : List ℕ) (names : Names) (n : WordOutline W K) (f : WordsState → W) (g : NameOrEntity → K) → Held src names n f g → IsWords (machine_of src names) → Setting src
expression_setting {W = W} {K = K} src names n f g h i = record { W = W; K = K; symbol = form.Expr; names = names; outline = n; shape = f; kind = g; held = h; words = i }

abbrev pub sum_setting : {W K : Type 0} (src : List ℕ) (names : Names) (n : WordOutline W K) (f : WordsState → W) (g : NameOrEntity → K) → Held src names n f g → IsWords (machine_of src names) → Setting src
sum_setting {W = W} {K = K} src names n f g h i = record { W = W; K = K; symbol = form.Sum; names = names; outline = n; shape = f; kind = g; held = h; words = i }

abbrev pub primary_setting : {W K : Type 0} (src : List ℕ) (names : Names) (n : WordOutline W K) (f : WordsState → W) (g : NameOrEntity → K) → Held src names n f g → IsWords (machine_of src names) → Setting src
primary_setting {W = W} {K = K} src names n f g h i = record { W = W; K = K; symbol = form.Primary; names = names; outline = n; shape = f; kind = g; held = h; words = i }

-- each takes a token as the run does
abbrev pub GoesAs : {T : Type 0} {src : List ℕ} → Setting src → Machine Lexeme State T → Type 0
GoesAs c m = (s : State) (t : Lexeme) → answer_state (m.step s t) ≡ steps_to c s t

pub goes_as : {T : Type 0} {src : List ℕ} (c : Setting src) (m : Machine Lexeme State T) → GoesAs c m → (s : Option State) (ts : List Lexeme) → steps m s ts ≡ run c s ts
goes_as c m g s [] = refl
goes_as c m g None (t ∷ ts) = goes_as c m g None ts
goes_as c m g (Some s) (t ∷ ts) = goes_as c m g (answer_state (m.step s t)) ts ∙ ap (λ o. run c o ts) (g s t)

pub expressions_complete : {W K : Type 0} (src : List ℕ) (names : Names) (n : WordOutline W K) (f : WordsState → W) (g : NameOrEntity → K) → Held src names n f g → IsWords (machine_of src names) → (ts : List Lexeme) (x : Expr) → ReadsExpr src ts x → RunsTo (machine_of src (expression_reader names n f)) ts (spanned_tree (extent ts) x)
expressions_complete src names n f g d i ts x r =
    let c = expression_setting src names n f g d i in
    let h = expr_runs c r [] [] place.Expr refl refl in
    record {
      last = state [] h.levels h.md;
      goes = goes_as c (machine_of src (expression_reader names n f)) (takes_so form.Expr src names n f (λ src s. expr_at_end src names s)) (Some (opening [] [] place.Expr)) ts ∙ h.goes;
      ends = ap (λ o. option_image (λ m. whole src h.levels m) o) h.at_it.ends ∙ ap (λ y. Some y) h.is;
    }

pub sums_complete : {W K : Type 0} (src : List ℕ) (names : Names) (n : WordOutline W K) (f : WordsState → W) (g : NameOrEntity → K) → Held src names n f g → IsWords (machine_of src names) → (ts : List Lexeme) (x : Add) → ReadsAdd src ts x → RunsTo (machine_of src (sum_reader names n f)) ts (spanned_tree (extent ts) x)
sums_complete src names n f g d i ts x r =
    let c = sum_setting src names n f g d i in
    let h = add_runs c r [] (fresh []) place.Operand refl a_sum in
    record {
      last = state [] (at_add (fresh []) h.s h.m) h.md;
      goes = goes_as c (machine_of src (sum_reader names n f)) (takes_so form.Sum src names n f (λ src s. sum_at_end src names s)) (Some (opening [] [] place.Operand)) ts ∙ h.goes;
      ends = ap (λ o. option_image (λ m. add_at src (at_add (fresh []) h.s h.m) m) o) h.at_it.ends ∙ ap (λ y. Some y) h.is;
    }

pub primaries_complete : {W K : Type 0} (src : List ℕ) (names : Names) (n : WordOutline W K) (f : WordsState → W) (g : NameOrEntity → K) → Held src names n f g → IsWords (machine_of src names) → (ts : List Lexeme) (x : Primary) → ReadsPrimary src ts x → RunsTo (machine_of src (primary_reader names n f)) ts (placed src ts x)
primaries_complete src names n f g d i ts x r =
    let c = primary_setting src names n f g d i in
    let h = primary_runs c r [] (fresh []) place.Primary no_signs in
    record {
      last = state [] (fresh []) h.md;
      goes = goes_as c (machine_of src (primary_reader names n f)) (takes_so form.Primary src names n f (λ src s. primary_at_end src names s)) (Some (opening [] [] place.Primary)) ts ∙ h.goes;
      ends = ap (λ o. option_image (λ m. m.member.item) o) h.at_it.ends;
    }
