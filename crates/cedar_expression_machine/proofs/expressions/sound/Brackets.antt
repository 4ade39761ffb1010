-- What ends an expression in brackets, or a list.
use Rattle.std.specs.Prelude.{cond}
use Rattle.std.proofs.Common.{◌≡◌, ℕ, List, [], ◌∷◌, ◌++◌, Option, Some, None, true, false, refl, sym, ◌∙◌, ap, subst, append_assoc}
use Rattle.cedar_lexer.specs.Token.{Lexeme}
use Rattle.cedar_lexer.specs.declared.token.TokenKind.{TokenKind}
use Rattle.cedar_lexer.specs.declared.token.TokenKind.TheVariants as kind
use Rattle.cedar_syntax.specs.declared.cst.Expr.{Expr}
use Rattle.cedar_syntax.specs.declared.cst.MemAccess.{MemAccess}
use Rattle.cedar_syntax.specs.declared.cst.Primary.{Primary}
use Rattle.cedar_syntax.specs.declared.cst.Primary.TheVariants as primary
use Rattle.cedar_syntax.specs.declared.cst.RecInit.{RecInit}
use Rattle.cedar_grammar.specs.declared.reading.class.Closing.{Closing}
use Rattle.cedar_grammar.specs.declared.reading.class.Closing.TheVariants as closing
use Rattle.cedar_expression_machine.specs.machines.Named.{NameOrEntity}
use Rattle.cedar_expression_machine.specs.declared.words.state.WordsState.{WordsState}
use Rattle.cedar_expression_machine.specs.declared.words.state.WordsAct.{WordsAct}
use Rattle.cedar_expression_machine.specs.declared.expression.state.Spanned.{Spanned}
use Rattle.cedar_expression_machine.specs.declared.expression.state.PendingOperators.{PendingOperators}
use Rattle.cedar_expression_machine.specs.declared.expression.state.Signs.{Signs}
use Rattle.cedar_expression_machine.specs.declared.expression.state.Operand.{Operand}
use Rattle.cedar_expression_machine.specs.declared.expression.state.Frame.{Frame}
use Rattle.cedar_expression_machine.specs.declared.expression.state.Frame.TheVariants as frame
use Rattle.cedar_expression_machine.specs.declared.expression.state.OperandPlace.{OperandPlace}
use Rattle.cedar_expression_machine.specs.declared.expression.state.OperandPlace.TheVariants as place
use Rattle.cedar_expression_machine.specs.declared.expression.state.State.{State}
use Rattle.cedar_expression_machine.specs.declared.expression.state.StartSymbol.{StartSymbol}
use Rattle.cedar_expression_machine.specs.declared.expression.state.FollowSet.{FollowSet}
use Rattle.cedar_expression_machine.specs.declared.expression.state.FollowSet.TheVariants as follow_set
use Rattle.cedar_grammar.specs.declared.reading.extent.Extent.{Extent}
use Rattle.cedar_grammar.specs.grammar.Place.{joint_extent, extent, placed, node_at}
use Rattle.cedar_syntax.specs.tokens.Tokens.{Spot, one}
use Rattle.cedar_syntax.specs.trees.Trees.{Cell, rec_init_of}
use Rattle.cedar_grammar.specs.grammar.LooseExpressions.{if_name, ReadsExpr, more_access, ReadsAccess, call, index, ReadsPrimary, paren, set, in_braces, ReadsExprs, no_expr, exprs, exprs_comma, ReadsExprItems, one_expr, more_exprs, ReadsRecInits, no_init, inits, inits_comma, ReadsInitItems, one_init, more_inits, ReadsRecInit, rec_init, if_init}
use Rattle.cedar_expression_machine.specs.machines.Closing.{spanned_tree, whole, no_signs, operand_with, with_access}
use Rattle.cedar_grammar.specs.machines.Machine.{Reader}
use Rattle.cedar_expression_machine.specs.machines.ExpressionStates.{opening, has_operand, has_primary, around}
use Rattle.cedar_expression_machine.specs.machines.ExpressionPlans.{edge, list_may_end}
use Rattle.cedar_expression_machine.specs.machines.ExpressionShapes.{stack_shape}
use Rattle.cedar_expression_machine.specs.machines.Wanting.{record_with, list_ending}
use Rattle.cedar_expression_machine.specs.machines.Having.{frame_ending}
use Rattle.cedar_expression_machine.proofs.expressions.Basics.{extent-append}
use Rattle.cedar_expression_machine.proofs.expressions.sound.Begun.{at, closed, Reading, reads, no_branch, branch, no_sign, BegunOperand, begun_operand, BegunIf, begun_if, Leads, Longer, whole_longer, sum_longer, if_longer, Holds, holds, holds_primary, BegunExprs, no_expr_yet, exprs_then, BegunInits, no_init_yet, inits_then, BegunKey, expr_key, lone_if_key, BegunStack, bottom, in_paren, in_set, in_call, in_index, in_key, in_value, in_guard, in_then, Begun, is_had}
use Rattle.cedar_expression_machine.proofs.expressions.sound.Closing.{whole_close, if_close, sum_levels, fresh_levels}
use Rattle.cedar_expression_machine.proofs.expressions.sound.Operators.{After, moved, begun_alone, is_primary_had, opens_expr, opens_in, opens_item, opens_key}

-- the extent of what stands in brackets
pub around_extent : (k j : TokenKind) (ts : List Lexeme) (l m : Spot) → extent (one k l ++ ts ++ one j m) ≡ around (at l) (at m)
around_extent k j ts l m = extent-append (one k l ++ ts) (one j m) ∙ ends (extent ts)
  where
    ends : (e : Option Extent) → joint_extent (joint_extent (Some (at l)) e) (Some (at m)) ≡ Some record { start = l.start; end = m.end }
    ends None = refl
    ends (Some e) = refl

-- an expression that its last operand ends
pub holds_whole : {src : List ℕ} {r : FollowSet} {us : List Lexeme} {lv : PendingOperators} {m : Operand} → Holds src r us lv m → Reading (ReadsExpr src) us (whole src lv m)
holds_whole (holds (whole_longer b c)) = whole_close b c
holds_whole (holds (sum_longer b c)) = whole_close (sum_levels b) c
holds_whole (holds (if_longer b c)) = if_close b c
holds_whole (holds_primary r) = whole_close (fresh_levels no_branch) (begun_alone no_sign r)

-- what is read in brackets is a primary
primary_ends : {src : List ℕ} {names : Reader WordsState WordsAct NameOrEntity} {w : StartSymbol} {ts us : List Lexeme} {st : List Frame} {lv : PendingOperators} {sg : Signs} {x : Primary} (vs : List Lexeme) (k j : TokenKind) (l m : Spot) →
    BegunStack src w ts st → Leads src (edge w st) us lv sg → ReadsPrimary src (one k l ++ vs ++ one j m) x →
    Begun src names w (ts ++ (us ++ (one k l ++ vs ++ one j m))) (has_primary src st lv sg (spanned_tree (around (at l) (at m)) x))
primary_ends {src = src} {names = names} {w = w} {ts = ts} {us = us} {st = st} {lv = lv} {sg = sg} {x = x} vs k j l m a b r =
    subst (λ q. Begun src names w (ts ++ (us ++ (one k l ++ vs ++ one j m))) (has_primary src st lv sg (spanned_tree q x))) (around_extent k j vs l m) (is_primary_had a b r)

-- one access more

operand_more : {src : List ℕ} {us vs : List Lexeme} {m : Operand} {x : MemAccess} → BegunOperand src us m → ReadsAccess src vs x → BegunOperand src (us ++ vs) (with_access src m (closed vs x))
operand_more {src = src} {vs = ws} {x = y} (begun_operand {ts = ts} {us = us} {vs = vs} {sg = sg} {x = x} {xs = xs} b r a) c =
    subst (λ q. BegunOperand src q (operand_with sg (placed src us x) (xs ++ placed src ws y ∷ []) (joint_extent (extent (us ++ vs)) (extent ws)) false)) (simp append_assoc)
    (subst (λ q. BegunOperand src (ts ++ (us ++ (vs ++ ws))) (operand_with sg (placed src us x) (xs ++ placed src ws y ∷ []) q false)) (ap (λ q. extent q) (sym (append_assoc us vs ws)) ∙ extent-append (us ++ vs) ws)
    (begun_operand b r (more_access a c)))

if_more : {src : List ℕ} {us vs : List Lexeme} {m : Operand} {x : MemAccess} → BegunIf src us m → ReadsAccess src vs x → BegunIf src (us ++ vs) (with_access src m (closed vs x))
if_more {src = src} {vs = ws} {x = y} (begun_if {vs = vs} {xs = xs} q a) c =
    subst (λ z. BegunIf src (one kind.If q ++ (vs ++ ws)) (operand_with no_signs (placed src (one kind.If q) (if_name src q)) (xs ++ placed src ws y ∷ []) z true)) (extent-append (one kind.If q ++ vs) ws) (begun_if q (more_access a c))

longer_more : {src : List ℕ} {r : FollowSet} {us vs : List Lexeme} {lv : PendingOperators} {m : Operand} {x : MemAccess} → Longer src r us lv m → ReadsAccess src vs x → Longer src r (us ++ vs) lv (with_access src m (closed vs x))
longer_more {src = src} {vs = vs} {lv = lv} {m = m} {x = x} (whole_longer {ts = ts} {us = us} b c) a =
    subst (λ q. Longer src follow_set.Whole q lv (with_access src m (closed vs x))) (sym (append_assoc ts us vs)) (whole_longer b (operand_more c a))
longer_more {src = src} {vs = vs} {lv = lv} {m = m} {x = x} (sum_longer {ts = ts} {us = us} b c) a =
    subst (λ q. Longer src follow_set.Sum q lv (with_access src m (closed vs x))) (sym (append_assoc ts us vs)) (sum_longer b (operand_more c a))
longer_more {src = src} {vs = vs} {lv = lv} {m = m} {x = x} (if_longer {ts = ts} {us = us} b c) a =
    subst (λ q. Longer src follow_set.Whole q lv (with_access src m (closed vs x))) (sym (append_assoc ts us vs)) (if_longer b (if_more c a))

-- an access has ended
pub access_ends : {src : List ℕ} {names : Reader WordsState WordsAct NameOrEntity} {w : StartSymbol} {ts us vs : List Lexeme} {st : List Frame} {lv : PendingOperators} {m : Operand} {x : MemAccess} (e : Option Extent) →
    extent vs ≡ e → BegunStack src w ts st → Longer src (edge w st) us lv m → ReadsAccess src vs x → Begun src names w (ts ++ (us ++ vs)) (has_operand st lv (with_access src m (spanned_tree e x)))
access_ends {src = src} {names = names} {w = w} {ts = ts} {us = us} {vs = vs} {st = st} {lv = lv} {m = m} {x = x} e q a b r =
    subst (λ z. Begun src names w (ts ++ (us ++ vs)) (has_operand st lv (with_access src m (spanned_tree z x)))) q (is_had a (holds (longer_more b r)))

-- items, and one more

exprs_more : {src : List ℕ} {vs ws : List Lexeme} {xs : List (Cell Expr)} {x : Expr} → BegunExprs src vs xs → ReadsExpr src ws x → ReadsExprItems src (vs ++ ws) (xs ++ placed src ws x ∷ [])
exprs_more no_expr_yet r = one_expr r
exprs_more (exprs_then p h) r = more_exprs p h r

inits_more : {src : List ℕ} {vs ws : List Lexeme} {xs : List (Cell RecInit)} {x : RecInit} → BegunInits src vs xs → ReadsRecInit src ws x → ReadsInitItems src (vs ++ ws) (xs ++ placed src ws x ∷ [])
inits_more no_init_yet r = one_init r
inits_more (inits_then p h) r = more_inits p h r

exprs_so_far : {src : List ℕ} {vs : List Lexeme} {xs : List (Cell Expr)} → BegunExprs src vs xs → ReadsExprs src vs xs
exprs_so_far no_expr_yet = no_expr
exprs_so_far (exprs_then p h) = exprs_comma p h

inits_so_far : {src : List ℕ} {vs : List Lexeme} {xs : List (Cell RecInit)} → BegunInits src vs xs → ReadsRecInits src vs xs
inits_so_far no_init_yet = no_init
inits_so_far (inits_then p h) = inits_comma p h

key_value : {src : List ℕ} {ws us : List Lexeme} {x : Cell Expr} {y : Expr} → BegunKey src ws x → ReadsExpr src us y → ReadsRecInit src (ws ++ us) (rec_init_of x (placed src us y))
key_value (expr_key p r) s = rec_init p r s
key_value (lone_if_key p q) s = if_init p q s

-- a list that ends before an item, where its plan has it

abbrev pub list_ended : List ℕ → List Frame → OperandPlace → Closing → Extent → Option State
list_ended src st pl c m = cond (list_may_end (stack_shape st) pl c) (list_ending src st m) None

pub items_begun : {src : List ℕ} {w : StartSymbol} {ts : List Lexeme} {st : List Frame} (m : Spot) → BegunStack src w ts st → (n : Reader WordsState WordsAct NameOrEntity) →
    After src n w (ts ++ one kind.CloseBracket m) (list_ended src st place.Item closing.Bracket (at m))
items_begun m (in_set {vs = vs} l a b c) n = moved (simp append_assoc) (primary_ends vs kind.OpenBracket kind.CloseBracket l m a b (set l m (exprs_so_far c)))
items_begun m bottom n = tt
items_begun m (in_paren l a b) n = tt
items_begun m (in_call l a b c) n = tt
items_begun m (in_index l a b) n = tt
items_begun m (in_key l a b c) n = tt
items_begun m (in_value l a b c d) n = tt
items_begun m (in_guard l e a b) n = tt
items_begun m (in_then l k e a b c) n = tt

pub call_begun : {src : List ℕ} {w : StartSymbol} {ts : List Lexeme} {st : List Frame} (m : Spot) → BegunStack src w ts st → (n : Reader WordsState WordsAct NameOrEntity) →
    After src n w (ts ++ one kind.CloseParen m) (list_ended src st place.Item closing.Paren (at m))
call_begun m (in_call {vs = vs} l a b c) n = moved (simp append_assoc) (access_ends {vs = one kind.OpenParen l ++ vs ++ one kind.CloseParen m} _ (around_extent kind.OpenParen kind.CloseParen vs l m) a b (call l m (exprs_so_far c)))
call_begun m bottom n = tt
call_begun m (in_paren l a b) n = tt
call_begun m (in_set l a b c) n = tt
call_begun m (in_index l a b) n = tt
call_begun m (in_key l a b c) n = tt
call_begun m (in_value l a b c d) n = tt
call_begun m (in_guard l e a b) n = tt
call_begun m (in_then l k e a b c) n = tt

pub keys_begun : {src : List ℕ} {w : StartSymbol} {ts : List Lexeme} {st : List Frame} (m : Spot) → BegunStack src w ts st → (n : Reader WordsState WordsAct NameOrEntity) →
    After src n w (ts ++ one kind.CloseBrace m) (list_ended src st place.Key closing.Brace (at m))
keys_begun m (in_key {vs = vs} l a b c) n = moved (simp append_assoc) (primary_ends vs kind.OpenBrace kind.CloseBrace l m a b (in_braces l m (inits_so_far c)))
keys_begun m bottom n = tt
keys_begun m (in_paren l a b) n = tt
keys_begun m (in_set l a b c) n = tt
keys_begun m (in_call l a b c) n = tt
keys_begun m (in_index l a b) n = tt
keys_begun m (in_value l a b c d) n = tt
keys_begun m (in_guard l e a b) n = tt
keys_begun m (in_then l k e a b c) n = tt

-- what ends an expression in brackets

pub close_paren_begun : {src : List ℕ} {w : StartSymbol} {ts us : List Lexeme} {st : List Frame} {x : Spanned Expr} (m : Spot) → BegunStack src w ts st → Reading (ReadsExpr src) us x → (n : Reader WordsState WordsAct NameOrEntity) →
    After src n w (ts ++ (us ++ one kind.CloseParen m)) (frame_ending src st x closing.Paren (at m))
close_paren_begun m (in_paren l a b) (reads {ts = us} r) n = moved (simp append_assoc) (primary_ends us kind.OpenParen kind.CloseParen l m a b (paren l m r))
close_paren_begun m (in_call {vs = vs} l a b c) (reads {ts = us} r) n =
    moved (simp append_assoc) (access_ends {vs = one kind.OpenParen l ++ (vs ++ us) ++ one kind.CloseParen m} _ (around_extent kind.OpenParen kind.CloseParen (vs ++ us) l m) a b (call l m (exprs (exprs_more c r))))
close_paren_begun m bottom r n = tt
close_paren_begun m (in_set l a b c) r n = tt
close_paren_begun m (in_index l a b) r n = tt
close_paren_begun m (in_key l a b c) r n = tt
close_paren_begun m (in_value l a b c d) r n = tt
close_paren_begun m (in_guard l e a b) r n = tt
close_paren_begun m (in_then l k e a b c) r n = tt

pub close_bracket_begun : {src : List ℕ} {w : StartSymbol} {ts us : List Lexeme} {st : List Frame} {x : Spanned Expr} (m : Spot) → BegunStack src w ts st → Reading (ReadsExpr src) us x → (n : Reader WordsState WordsAct NameOrEntity) →
    After src n w (ts ++ (us ++ one kind.CloseBracket m)) (frame_ending src st x closing.Bracket (at m))
close_bracket_begun m (in_set {vs = vs} l a b c) (reads {ts = us} r) n = moved (simp append_assoc) (primary_ends (vs ++ us) kind.OpenBracket kind.CloseBracket l m a b (set l m (exprs (exprs_more c r))))
close_bracket_begun m (in_index l a b) (reads {ts = us} r) n =
    moved (simp append_assoc) (access_ends {vs = one kind.OpenBracket l ++ us ++ one kind.CloseBracket m} _ (around_extent kind.OpenBracket kind.CloseBracket us l m) a b (index l m r))
close_bracket_begun m bottom r n = tt
close_bracket_begun m (in_paren l a b) r n = tt
close_bracket_begun m (in_call l a b c) r n = tt
close_bracket_begun m (in_key l a b c) r n = tt
close_bracket_begun m (in_value l a b c d) r n = tt
close_bracket_begun m (in_guard l e a b) r n = tt
close_bracket_begun m (in_then l k e a b c) r n = tt

-- a pair of a record
pair_made : (src : List ℕ) (ws us : List Lexeme) (x : Cell Expr) (y : Expr) (xs : List (Cell RecInit)) →
    xs ++ node_at src (joint_extent (extent ws) (extent us)) (rec_init_of x (placed src us y)) ∷ [] ≡ xs ++ placed src (ws ++ us) (rec_init_of x (placed src us y)) ∷ []
pair_made src ws us x y xs = ap (λ q. xs ++ node_at src q (rec_init_of x (placed src us y)) ∷ []) (sym (extent-append ws us))

pub close_brace_begun : {src : List ℕ} {w : StartSymbol} {ts us : List Lexeme} {st : List Frame} {x : Spanned Expr} (m : Spot) → BegunStack src w ts st → Reading (ReadsExpr src) us x → (n : Reader WordsState WordsAct NameOrEntity) →
    After src n w (ts ++ (us ++ one kind.CloseBrace m)) (frame_ending src st x closing.Brace (at m))
close_brace_begun {src = src} {w = w} m (in_value {ts = ts} {us = ps} {vs = vs} {ws = ws} {st = st} {lv = lv} {sg = sg} {xs = xs} {x = x} l a b c d) (reads {ts = us} {x = y} r) n =
    moved (simp append_assoc) (subst (λ q. Begun src n w (ts ++ (ps ++ (one kind.OpenBrace l ++ (vs ++ (ws ++ us)) ++ one kind.CloseBrace m))) (has_primary src st lv sg (spanned_tree (around (at l) (at m)) (primary.RInits q))))
    (sym (pair_made src ws us x y xs)) (primary_ends (vs ++ (ws ++ us)) kind.OpenBrace kind.CloseBrace l m a b (in_braces l m (inits (inits_more c (key_value d r))))))
close_brace_begun m bottom r n = tt
close_brace_begun m (in_paren l a b) r n = tt
close_brace_begun m (in_set l a b c) r n = tt
close_brace_begun m (in_call l a b c) r n = tt
close_brace_begun m (in_index l a b) r n = tt
close_brace_begun m (in_key l a b c) r n = tt
close_brace_begun m (in_guard l e a b) r n = tt
close_brace_begun m (in_then l k e a b c) r n = tt

pub comma_begun : {src : List ℕ} {w : StartSymbol} {ts us : List Lexeme} {st : List Frame} {x : Spanned Expr} (m : Spot) → BegunStack src w ts st → Reading (ReadsExpr src) us x → (n : Reader WordsState WordsAct NameOrEntity) →
    After src n w (ts ++ (us ++ one kind.Comma m)) (frame_ending src st x closing.Comma (at m))
comma_begun m (in_set l a b c) (reads r) n = moved (simp append_assoc) (opens_item (in_set l a b (exprs_then m (exprs_more c r))))
comma_begun m (in_call l a b c) (reads r) n = moved (simp append_assoc) (opens_item (in_call l a b (exprs_then m (exprs_more c r))))
comma_begun {src = src} {w = w} m (in_value {ts = ts} {us = ps} {vs = vs} {ws = ws} {st = st} {lv = lv} {sg = sg} {xs = xs} {x = x} l a b c d) (reads {ts = us} {x = y} r) n =
    moved (simp append_assoc) (subst (λ q. Begun src n w (ts ++ (ps ++ (one kind.OpenBrace l ++ ((vs ++ (ws ++ us)) ++ one kind.Comma m)))) (opening (frame.Record (record_with lv sg (at l) q None) ∷ st) [] place.Key))
    (sym (pair_made src ws us x y xs)) (opens_key (in_key l a b (inits_then m (inits_more c (key_value d r))))))
comma_begun m bottom r n = tt
comma_begun m (in_paren l a b) r n = tt
comma_begun m (in_index l a b) r n = tt
comma_begun m (in_key l a b c) r n = tt
comma_begun m (in_guard l e a b) r n = tt
comma_begun m (in_then l k e a b c) r n = tt

pub colon_begun : {src : List ℕ} {w : StartSymbol} {ts us : List Lexeme} {st : List Frame} {x : Spanned Expr} (m : Spot) → BegunStack src w ts st → Reading (ReadsExpr src) us x → (n : Reader WordsState WordsAct NameOrEntity) →
    After src n w (ts ++ (us ++ one kind.Colon m)) (frame_ending src st x closing.Colon (at m))
colon_begun {src = src} {w = w} m (in_key {ts = ts} {us = ps} {vs = vs} {st = st} {lv = lv} {sg = sg} {xs = xs} l a b c) (reads {ts = us} {x = x} r) n =
    moved (simp append_assoc) (subst (λ q. Begun src n w (ts ++ (ps ++ (one kind.OpenBrace l ++ (vs ++ (us ++ one kind.Colon m))))) (opening (frame.Record (record_with lv sg (at l) xs (Some record { node = placed src us x; extent = q })) ∷ st) [] place.Expr))
    (extent-append us (one kind.Colon m)) (opens_in (in_value l a b c (expr_key m r))))
colon_begun m bottom r n = tt
colon_begun m (in_paren l a b) r n = tt
colon_begun m (in_set l a b c) r n = tt
colon_begun m (in_call l a b c) r n = tt
colon_begun m (in_index l a b) r n = tt
colon_begun m (in_value l a b c d) r n = tt
colon_begun m (in_guard l e a b) r n = tt
colon_begun m (in_then l k e a b c) r n = tt

pub then_begun : {src : List ℕ} {w : StartSymbol} {ts us : List Lexeme} {st : List Frame} {x : Spanned Expr} (m : Spot) → BegunStack src w ts st → Reading (ReadsExpr src) us x → (n : Reader WordsState WordsAct NameOrEntity) →
    After src n w (ts ++ (us ++ one kind.Then m)) (frame_ending src st x closing.Then (at m))
then_begun {src = src} {w = w} m (in_guard {ts = ts} {us = ps} {st = st} {bs = bs} l e a b) (reads {ts = us} {x = x} r) n =
    moved (simp append_assoc) (subst (λ q. Begun src n w (ts ++ (ps ++ (one kind.If l ++ us ++ one kind.Then m))) (opening (frame.Then record { branches = bs; guard = placed src us x; extent = q } ∷ st) [] place.Expr))
    (extent-append (one kind.If l ++ us) (one kind.Then m) ∙ ap (λ q. joint_extent q (Some (at m))) (extent-append (one kind.If l) us)) (opens_in (in_then l m e a b r)))
then_begun m bottom r n = tt
then_begun m (in_paren l a b) r n = tt
then_begun m (in_set l a b c) r n = tt
then_begun m (in_call l a b c) r n = tt
then_begun m (in_index l a b) r n = tt
then_begun m (in_key l a b c) r n = tt
then_begun m (in_value l a b c d) r n = tt
then_begun m (in_then l k e a b c) r n = tt

pub else_begun : {src : List ℕ} {w : StartSymbol} {ts us : List Lexeme} {st : List Frame} {x : Spanned Expr} (m : Spot) → BegunStack src w ts st → Reading (ReadsExpr src) us x → (n : Reader WordsState WordsAct NameOrEntity) →
    After src n w (ts ++ (us ++ one kind.Else m)) (frame_ending src st x closing.Else (at m))
else_begun {src = src} {w = w} j (in_then {ts = ts} {us = ps} {vs = vs} {st = st} {bs = bs} {c = g} l m e a b c) (reads {ts = us} {x = x} r) n =
    moved (simp append_assoc) (subst (λ q. Begun src n w (ts ++ (ps ++ (one kind.If l ++ vs ++ one kind.Then m ++ us ++ one kind.Else j))) (opening st (record { guard = placed src vs g; yes = placed src us x; extent = q } ∷ bs) place.Expr))
    (extent-append (one kind.If l ++ vs ++ one kind.Then m ++ us) (one kind.Else j) ∙ ap (λ q. joint_extent q (Some (at j))) (extent-append (one kind.If l ++ vs ++ one kind.Then m) us)) (opens_expr e a (branch l m j b c r)))
else_begun m bottom r n = tt
else_begun m (in_paren l a b) r n = tt
else_begun m (in_set l a b c) r n = tt
else_begun m (in_call l a b c) r n = tt
else_begun m (in_index l a b) r n = tt
else_begun m (in_key l a b c) r n = tt
else_begun m (in_value l a b c d) r n = tt
else_begun m (in_guard l e a b) r n = tt
