-- The parts that a policy holds: names, sums and expressions as nodes, what ends each, and their
-- outlines.
use Rattle.std.proofs.Common.{◌≡◌, ℕ, List, [], ◌∷◌, Option, Some, None, Bool, true, false, refl, sym, ◌∙◌, ap, subst}
use Rattle.cedar_lexer.specs.Token.{Lexeme}
use Rattle.cedar_lexer.specs.declared.token.TokenKind.{TokenKind}
use Rattle.cedar_lexer.specs.declared.token.TokenKind.TheVariants as kind
use Rattle.cedar_syntax.specs.declared.cst.RelOp.{RelOp}
use Rattle.cedar_syntax.specs.declared.cst.Add.{Add}
use Rattle.cedar_syntax.specs.declared.cst.Name.{Name}
use Rattle.cedar_expression_machine.specs.declared.expression.state.Act.TheVariants as act
use Rattle.cedar_expression_machine.specs.declared.expression.state.OperandPlace.{OperandPlace}
use Rattle.cedar_expression_machine.specs.declared.expression.state.OperandPlace.TheVariants as place
use Rattle.cedar_expression_machine.specs.declared.expression.state.StartSymbol.{StartSymbol}
use Rattle.cedar_expression_machine.specs.declared.expression.state.StartSymbol.TheVariants as form
use Rattle.cedar_grammar.specs.grammar.Grammar.{IsNodeOf, Rule}
use Rattle.cedar_grammar.specs.grammar.LooseWords.{ReadsName}
use Rattle.cedar_grammar.specs.grammar.LooseExpressions.{ReadsRelOp, less, less_eq, greater_eq, greater, not_eq, equal, within, single_eq, ReadsExpr, ReadsAdd}
use Rattle.cedar_syntax.specs.trees.Trees.{Cell}
use Rattle.cedar_grammar.specs.machines.Machine.{refused, IsParser, IsOutside, is_some, option_image, ends_with}
use Rattle.cedar_policy_machine.specs.machines.Following.{IsParting, comma, close_paren, FollowsSum, operator, parting, FollowsName, is_word, as_sum}
use Rattle.cedar_expression_machine.specs.machines.Closing.{node_of}
use Rattle.cedar_expression_machine.specs.machines.ExpressionPlans.{behind_plan, reduce_plan, or_else, ended_words_plan, if_ends, words_can_end, ends, mode_plan}
use Rattle.cedar_expression_machine.specs.machines.ExpressionShapes.{RelationShape, free, comparing, sided_once, typed, FrameShape, ModeShape}
use Rattle.cedar_expression_machine.specs.machines.ExpressionShapes as shaped
use Rattle.cedar_expression_machine.specs.machines.NamedShapes.{named_outline, is_if_alone}
use Rattle.cedar_policy_machine.specs.machines.Placing.{AsNode, as_node}
use Rattle.cedar_text.specs.machines.PolicyParts.{policy_parts, policy_part_outlines}
use Rattle.cedar_expression_machine.specs.machines.WholeExpressions.{StateShape, state_shape, whole_outline, whole_expression_reader, whole_expressions, whole_sums}
use Rattle.cedar_expression_machine.specs.machines.Words.{names}
use Rattle.cedar_expression_machine.specs.machines.WordShapes.{WordsShape, WordsKind, path_shape}
use Rattle.cedar_grammar.proofs.ExpressionTokens.{expr_some}
use Rattle.cedar_grammar.proofs.Lying.{Some_of}
use Rattle.cedar_grammar.proofs.WordPlaces.{start_is, name_path, path_some}
use Rattle.cedar_grammar.proofs.machines.Laws.{some_is}
use Rattle.cedar_grammar.proofs.machines.Readers.{leaves_none}
use Rattle.cedar_expression_machine.proofs.expressions.sound.Begun.{Reading, reads}
use Rattle.cedar_expression_machine.proofs.machines.Keeping.{Kept, parser_as}
use Rattle.cedar_expression_machine.proofs.machines.Names.{names_parser}
use Rattle.cedar_policy_machine.proofs.machines.PartOutlines.{PartsOutlined}
use Rattle.cedar_grammar.proofs.machines.Rightly.{ends_by, ends_at_kind}
use Rattle.cedar_policy_machine.proofs.machines.Scope.{PartParsers}
use Rattle.cedar_expression_machine.proofs.machines.WholeExpressions.{whole_expressions_parser, whole_expressions_outlined, sum_images_parser, whole_sums_outlined}
use Rattle.cedar_expression_machine.proofs.machines.WordShapes.{names_outlined}
use Rattle.cedar_expression_machine.proofs.machines.WordsParser.{unplanned_shape, unplanned_name}

-- ---- trees as nodes

node_as : {T : Type 0} {R : Rule T} (src : List ℕ) (ts : List Lexeme) (y : Cell T) → ((x : T) → R src ts x → Some_of ts) → IsNodeOf R src ts y → AsNode src (R src) ts y
node_as {R = R} src ts y s h = subst (λ y. AsNode src (R src) ts y) (sym (h.is ∙ start_is src ts h.tree (s h.tree h.reads))) (as_node h.reads)

as_whole : {T : Type 0} {R : Rule T} (src : List ℕ) (ts : List Lexeme) (y : Cell T) → ((ts : List Lexeme) (x : T) → R src ts x → Some_of ts) → AsNode src (R src) ts y → IsNodeOf R src ts y
as_whole src _ _ s (as_node {ts = ts} {x = x} r) = record { tree = x; reads = r; is = sym (start_is src ts x (s ts x r)) }

name_some : (src : List ℕ) (ts : List Lexeme) (x : Name) → ReadsName src ts x → Some_of ts
name_some src ts x r = path_some (name_path r)

names_as_nodes : (src : List ℕ) → IsParser (names src) (AsNode src (ReadsName src))
names_as_nodes src = parser_as (λ ts y h. as_whole {R = ReadsName} src ts y (name_some src) h) (λ ts y h. node_as {R = ReadsName} src ts y (name_some src ts) h) (names_parser src)

expressions_as_nodes : (src : List ℕ) → IsParser (whole_expressions src) (AsNode src (ReadsExpr src))
expressions_as_nodes src = parser_as (λ ts y h. as_whole {R = ReadsExpr} src ts y (λ ts x r. expr_some r) h) (λ ts y h. node_as {R = ReadsExpr} src ts y (λ x r. expr_some r) h) (whole_expressions_parser src)

abbrev SumImage : List ℕ → List Lexeme → Cell Add → Type 0
SumImage src ts y = Kept (Reading (ReadsAdd src)) (λ x. Some (node_of src x)) ts y

sum_image : (src : List ℕ) (ts : List Lexeme) (y : Cell Add) → AsNode src (ReadsAdd src) ts y → SumImage src ts y
sum_image src _ _ (as_node r) = record { tree = _; reads = reads r; is = refl }

sum_node : (src : List ℕ) (ts : List Lexeme) (y : Cell Add) → SumImage src ts y → AsNode src (ReadsAdd src) ts y
sum_node src ts y k = go k.reads k.is
  where
    go : {x : _} → Reading (ReadsAdd src) ts x → Some (node_of src x) ≡ Some y → AsNode src (ReadsAdd src) ts y
    go (reads r) e = subst (λ y. AsNode src (ReadsAdd src) ts y) (some_is e) (as_node r)

sums_as_nodes : (src : List ℕ) → IsParser (whole_sums src) (AsNode src (ReadsAdd src))
sums_as_nodes src = parser_as (λ ts y h. sum_image src ts y h) (λ ts y k. sum_node src ts y k) (sum_images_parser src)

-- ---- what ends a part

-- no operator is planned with such a kind behind an operand alone
abbrev Behind : StartSymbol → TokenKind → Type 0
Behind w k = (l : RelationShape) (b : Bool) → behind_plan w [] l b k ≡ None

abbrev NoColons : TokenKind → Type 0
NoColons k = k ≡ kind.ColonColon → ⊥

-- behind words that have ended
words_stay : (w : StartSymbol) (k : TokenKind) → Behind w k → (l : RelationShape) (p : OperandPlace) (b : Bool) → if_ends p b ≡ true → ended_words_plan w [] l p (Some b) k ≡ None
words_stay w k h l p false e = ap (λ o. reduce_plan o) (h l false)
words_stay w k h l place.Has true e = ap (λ o. reduce_plan o) (h l true)
words_stay w k h l place.Expr true e = absurd (cc)
words_stay w k h l place.Item true e = absurd (cc)
words_stay w k h l place.Key true e = absurd (cc)
words_stay w k h l place.Operand true e = absurd (cc)
words_stay w k h l place.Primary true e = absurd (cc)

named_stay : (w : StartSymbol) (k : TokenKind) → Behind w k → NoColons k → (l : RelationShape) (p : OperandPlace) (s : WordsShape) (o : Option WordsKind) → named_outline.outline.finish s ≡ o → words_can_end named_outline p o ≡ true →
    mode_plan w named_outline [] l (shaped.worded p s) k ≡ None
named_stay w k h n l p s None f e = absurd (cc)
named_stay w k h n l p s (Some x) f e =
    ap (λ o. or_else (option_image (λ a. act.Words a) o) (ended_words_plan w [] l p (option_image is_if_alone (named_outline.outline.finish s)) k)) (unplanned_shape s k n (ap (λ o. is_some o) f))
    ∙ ap (λ o. ended_words_plan w [] l p (option_image is_if_alone o) k) f ∙ words_stay w k h l p (is_if_alone x) e

mode_stays : (w : StartSymbol) (k : TokenKind) → Behind w k → NoColons k → (l : RelationShape) (m : ModeShape WordsShape) → ends named_outline [] m ≡ true → mode_plan w named_outline [] l m k ≡ None
mode_stays w k h n l (shaped.wants p q) e = absurd (cc)
mode_stays w k h n l (shaped.worded p s) e = named_stay w k h n l p s (named_outline.outline.finish s) refl e
mode_stays w k h n l (shaped.dotted b) e = absurd (cc)
mode_stays w k h n l (shaped.had_shape b) e = ap (λ o. option_image (λ x. act.Follow x) o) (h l b)

ended_true : (b : Bool) → is_some (ends_with b) ≡ true → b ≡ true
ended_true true e = refl
ended_true false e = absurd (cc)

stack_stays : (w : StartSymbol) (k : TokenKind) → Behind w k → NoColons k → (st : List FrameShape) (l : RelationShape) (m : ModeShape WordsShape) → ends named_outline st m ≡ true → mode_plan w named_outline st l m k ≡ None
stack_stays w k h n [] l m e = mode_stays w k h n l m e
stack_stays w k h n (f ∷ st) l m e = absurd (cc)

whole_stays : (w : StartSymbol) (k : TokenKind) → Behind w k → NoColons k → (u : StateShape) → is_some ((whole_outline w).finish u) ≡ true → (whole_outline w).plan u k ≡ None
whole_stays w k h n u e = stack_stays w k h n u.stack u.left_side u.mode (ended_true (ends named_outline u.stack u.mode) e)

-- ---- which kinds do

parting_colons : {k : TokenKind} → IsParting k → NoColons k
parting_colons comma e = cc
parting_colons close_paren e = cc

operator_colons : {k : TokenKind} {o : RelOp} → ReadsRelOp k o → NoColons k
operator_colons less e = cc
operator_colons less_eq e = cc
operator_colons greater_eq e = cc
operator_colons greater e = cc
operator_colons not_eq e = cc
operator_colons equal e = cc
operator_colons within e = cc
operator_colons single_eq e = cc

sum_colons : {k : TokenKind} → FollowsSum k → NoColons k
sum_colons (operator o r) = operator_colons r
sum_colons (parting p) = parting_colons p

name_colons : {k : TokenKind} → FollowsName k → NoColons k
name_colons is_word e = cc
name_colons (as_sum h) e = sum_colons h e

-- no operator of relations stands behind a sum alone, and no closing token in no bracket

operator_behind : {k : TokenKind} {o : RelOp} → ReadsRelOp k o → Behind form.Sum k
operator_behind less l true = refl
operator_behind less l false = refl
operator_behind less_eq l true = refl
operator_behind less_eq l false = refl
operator_behind greater_eq l true = refl
operator_behind greater_eq l false = refl
operator_behind greater l true = refl
operator_behind greater l false = refl
operator_behind not_eq l true = refl
operator_behind not_eq l false = refl
operator_behind equal l true = refl
operator_behind equal l false = refl
operator_behind within l true = refl
operator_behind within l false = refl
operator_behind single_eq l true = refl
operator_behind single_eq l false = refl

parting_behind : (w : StartSymbol) {k : TokenKind} → IsParting k → Behind w k
parting_behind w comma l b = refl
parting_behind w close_paren l b = refl

sum_behind : {k : TokenKind} → FollowsSum k → Behind form.Sum k
sum_behind (operator o r) = operator_behind r
sum_behind (parting p) = parting_behind form.Sum p

-- ---- the parts of a policy

pub part_parsers : (src : List ℕ) → PartParsers src policy_parts
part_parsers src = record {
  name = names_as_nodes src;
  sum = sums_as_nodes src;
  expression = expressions_as_nodes src;
  name_right = ends_by (names_outlined src);
  sum_right = ends_by (whole_sums_outlined src);
  expression_right = ends_by (whole_expressions_outlined src);
  behind_name = λ k h. ends_at_kind (names_outlined src) k (λ u e. unplanned_name u k (name_colons h) e);
  behind_sum = λ k h. ends_at_kind (whole_sums_outlined src) k (whole_stays form.Sum k (sum_behind h) (sum_colons h));
  behind_expression = λ k h. ends_at_kind (whole_expressions_outlined src) k (whole_stays form.Expr k (parting_behind form.Expr h) (parting_colons h));
}

-- a closing brace neither begins an expression nor goes on with one
brace_refused : (src : List ℕ) (t : Lexeme) → t.kind ≡ kind.CloseBrace → (whole_expressions src).step (whole_expressions src).start t ≡ refused
brace_refused src t e = leaves_none src whole_expression_reader whole_expression_reader.start t (ap (λ k. whole_expression_reader.plan whole_expression_reader.start k) e) refl

pub body_outside : (src : List ℕ) → IsOutside (whole_expressions src) kind.CloseBrace
body_outside src = record {
  behind = λ s x t p e. ends_at_kind (whole_expressions_outlined src) kind.CloseBrace (whole_stays form.Expr kind.CloseBrace (λ l b. refl) (λ e. apart e)) s x t p e;
  before = brace_refused src;
}
  where
    apart : kind.CloseBrace ≡ kind.ColonColon → ⊥
    apart e = cc

pub parts_outlined : (src : List ℕ) → PartsOutlined src policy_parts policy_part_outlines path_shape (λ s. state_shape s) (λ s. state_shape s)
parts_outlined src = record { name = names_outlined src; sum = whole_sums_outlined src; expression = whole_expressions_outlined src }
