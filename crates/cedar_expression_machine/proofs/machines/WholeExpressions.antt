-- Expressions and primaries as whole texts, and expressions and sums in a policy: their machines
-- read by the rules of the grammar.
use Rattle.cedar_expression_machine.proofs.expressions.shapes.Done.{BeginWithIdents}
use Rattle.std.specs.Prelude.{cond}
use Rattle.std.proofs.Common.{◌≡◌, ℕ, List, [], Some, None, Bool, true, false, refl, sym, ◌∙◌, ap, subst}
use Rattle.cedar_lexer.specs.Token.{Lexeme}
use Rattle.cedar_syntax.specs.declared.cst.Expr.{Expr}
use Rattle.cedar_syntax.specs.declared.cst.Primary.{Primary}
use Rattle.cedar_grammar.specs.grammar.Grammar.{IsNodeOf}
use Rattle.cedar_grammar.specs.grammar.LooseExpressions.{ReadsExpr, ReadsAdd, ReadsPrimary}
use Rattle.cedar_syntax.specs.tokens.Tokens.{any_of}
use Rattle.cedar_syntax.specs.trees.Trees.{Cell}
use Rattle.cedar_expression_machine.specs.machines.Closing.{node_of}
use Rattle.cedar_grammar.specs.machines.Machine.{machine_of, IsParser, outline_machine, IsOutline, Shapes, is_some, no_tree}
use Rattle.cedar_grammar.specs.machines.Judged.{ReadsBy}
use Rattle.cedar_expression_machine.specs.declared.expression.state.StartSymbol.TheVariants as form
use Rattle.cedar_expression_machine.specs.declared.words.state.WordsAct.{WordsAct}
use Rattle.cedar_expression_machine.specs.declared.words.state.WordsAct.TheVariants as words_acts
use Rattle.cedar_expression_machine.specs.declared.words.state.PathAct.TheVariants as path_acts
use Rattle.cedar_expression_machine.specs.machines.Expressions.{expression_reader, sum_reader}
use Rattle.cedar_expression_machine.specs.machines.Named.{named_reader}
use Rattle.cedar_expression_machine.specs.machines.NamedShapes.{named_outline}
use Rattle.cedar_expression_machine.specs.machines.WholeExpressions.{state_shape, whole_outline, whole_expression_reader, whole_sum_reader, whole_primary_reader, whole_expressions, whole_primaries}
use Rattle.cedar_expression_machine.specs.machines.WordShapes.{words_shape}
use Rattle.cedar_grammar.proofs.WordPlaces.{start_is}
use Rattle.cedar_grammar.proofs.ExpressionTokens.{expr_some, primary_some}
use Rattle.cedar_grammar.proofs.machines.Laws.{some_is}
use Rattle.cedar_grammar.proofs.machines.Readers.{shaped_by, reads_by}
use Rattle.cedar_expression_machine.proofs.expressions.Parsers.{expressions_parser, sums_parser, primaries_parser}
use Rattle.cedar_expression_machine.proofs.expressions.Held.{Held}
use Rattle.cedar_expression_machine.proofs.expressions.shapes.Outlined.{expressions_outlined, sums_outlined, primaries_outlined}
use Rattle.cedar_expression_machine.proofs.expressions.sound.Begun.{Reading, reads}
use Rattle.cedar_expression_machine.proofs.expressions.sound.Whole.{AloneAt, alone_reads}
use Rattle.cedar_expression_machine.proofs.machines.Images.{image_parser, image_outlined}
use Rattle.cedar_expression_machine.proofs.machines.Keeping.{Kept, parser_as}
use Rattle.cedar_expression_machine.proofs.machines.Named.{named_parser, named_are_words, named_outlined, named_kind, named_ifs}

-- the words that expressions hold
pub words_held : (src : List ℕ) → Held src named_reader named_outline words_shape named_kind
words_held src = record { parser = named_parser src; outlined = named_outlined src; ifs = named_ifs }

planned_where : (a : WordsAct) (b : Bool) → is_some (cond b (Some a) None) ≡ b
planned_where a true = refl
planned_where a false = refl

-- each identifier begins some
words_begin : BeginWithIdents named_reader
words_begin k = planned_where (words_acts.Path path_acts.First) (is_some (any_of k []))

-- ---- expressions

abbrev Image : List ℕ → List Lexeme → Cell Expr → Type 0
Image src ts y = Kept (Reading (ReadsExpr src)) (λ x. Some (node_of src x)) ts y

expr_image : {src : List ℕ} {ts : List Lexeme} {y : Cell Expr} → IsNodeOf ReadsExpr src ts y → Image src ts y
expr_image {src = src} {ts = ts} h = record { tree = _; reads = reads h.reads; is = ap (λ y. Some y) (sym (h.is ∙ start_is src ts h.tree (expr_some h.reads))) }

expr_node : {src : List ℕ} {ts : List Lexeme} {y : Cell Expr} → Image src ts y → IsNodeOf ReadsExpr src ts y
expr_node {src = src} {ts = ts} {y = y} k = go k.reads k.is
  where
    go : {x : _} → Reading (ReadsExpr src) ts x → Some (node_of src x) ≡ Some y → IsNodeOf ReadsExpr src ts y
    go (reads {x = x} r) e = record { tree = x; reads = r; is = sym (some_is e) ∙ sym (start_is src ts x (expr_some r)) }

expressions_planned : (src : List ℕ) → IsOutline src (expression_reader named_reader named_outline words_shape) (whole_outline form.Expr) (λ s. state_shape s) no_tree
expressions_planned src = expressions_outlined (words_held src) words_begin

pub whole_expressions_parser : (src : List ℕ) → IsParser (whole_expressions src) (IsNodeOf ReadsExpr src)
whole_expressions_parser src =
    parser_as (λ ts y h. expr_image h) (λ ts y k. expr_node k)
    (image_parser src (λ src x. node_of src x) (expression_reader named_reader named_outline words_shape) (Reading (ReadsExpr src))
    (expressions_parser src named_reader named_outline words_shape named_kind (words_held src) (named_are_words src) (expressions_planned src)))

pub whole_expressions_outlined : (src : List ℕ) → IsOutline src whole_expression_reader (whole_outline form.Expr) (λ s. state_shape s) no_tree
whole_expressions_outlined src = image_outlined (λ src x. node_of src x) (expressions_planned src)

pub whole_expressions_shaped : (src : List ℕ) → Shapes (whole_expressions src) (outline_machine (whole_outline form.Expr)) (λ s. state_shape s) no_tree
whole_expressions_shaped src = shaped_by (whole_expressions_outlined src)

pub expressions_read : (src : List ℕ) → ReadsBy src whole_expression_reader (IsNodeOf ReadsExpr src)
expressions_read src = reads_by (whole_expressions_outlined src) (whole_expressions_parser src)

-- ---- sums, in a policy

sums_planned : (src : List ℕ) → IsOutline src (sum_reader named_reader named_outline words_shape) (whole_outline form.Sum) (λ s. state_shape s) no_tree
sums_planned src = sums_outlined (words_held src) words_begin

pub sum_images_parser : (src : List ℕ) → IsParser (machine_of src whole_sum_reader) (Kept (Reading (ReadsAdd src)) (λ x. Some (node_of src x)))
sum_images_parser src =
    image_parser src (λ src x. node_of src x) (sum_reader named_reader named_outline words_shape) (Reading (ReadsAdd src))
    (sums_parser src named_reader named_outline words_shape named_kind (words_held src) (named_are_words src) (sums_planned src))

pub whole_sums_outlined : (src : List ℕ) → IsOutline src whole_sum_reader (whole_outline form.Sum) (λ s. state_shape s) no_tree
whole_sums_outlined src = image_outlined (λ src x. node_of src x) (sums_planned src)

-- ---- primaries

primary_alone : {src : List ℕ} {ts : List Lexeme} {y : Cell Primary} → IsNodeOf ReadsPrimary src ts y → AloneAt src ts y
primary_alone {src = src} {ts = ts} h = subst (λ y. AloneAt src ts y) (sym (h.is ∙ start_is src ts h.tree (primary_some h.reads))) (alone_reads h.reads)

alone_node : {src : List ℕ} {ts : List Lexeme} {y : Cell Primary} → AloneAt src ts y → IsNodeOf ReadsPrimary src ts y
alone_node {src = src} {ts = ts} (alone_reads {x = x} r) = record { tree = x; reads = r; is = sym (start_is src ts x (primary_some r)) }

pub whole_primaries_outlined : (src : List ℕ) → IsOutline src whole_primary_reader (whole_outline form.Primary) (λ s. state_shape s) no_tree
whole_primaries_outlined src = primaries_outlined (words_held src) words_begin

pub whole_primaries_parser : (src : List ℕ) → IsParser (whole_primaries src) (IsNodeOf ReadsPrimary src)
whole_primaries_parser src =
    parser_as (λ ts y h. primary_alone h) (λ ts y a. alone_node a)
    (primaries_parser src named_reader named_outline words_shape named_kind (words_held src) (named_are_words src) (whole_primaries_outlined src))

pub whole_primaries_shaped : (src : List ℕ) → Shapes (whole_primaries src) (outline_machine (whole_outline form.Primary)) (λ s. state_shape s) no_tree
whole_primaries_shaped src = shaped_by (whole_primaries_outlined src)

pub primaries_read : (src : List ℕ) → ReadsBy src whole_primary_reader (IsNodeOf ReadsPrimary src)
primaries_read src = reads_by (whole_primaries_outlined src) (whole_primaries_parser src)
