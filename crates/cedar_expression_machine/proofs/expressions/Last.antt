-- Words that have ended at the end of a tree are its last operand.
use Rattle.std.proofs.Common.{◌≡◌, ℕ, refl, sym, ap, ◌∙◌, Bool, true, cond, IsTrue, List, [], ◌∷◌, Some, None}
use Rattle.cedar_syntax.specs.trees.Trees.{Cell}
use Rattle.cedar_syntax.specs.declared.cst.Ident.{Ident}
use Rattle.cedar_syntax.specs.declared.cst.Ident.TheVariants as ident
use Rattle.cedar_expression_machine.specs.declared.words.state.PathState.TheVariants as path
use Rattle.cedar_expression_machine.specs.declared.words.state.Word.{Word}
use Rattle.cedar_expression_machine.specs.declared.words.state.Words.TheVariants as tree
use Rattle.cedar_expression_machine.specs.declared.words.state.WordsState.TheVariants as words
use Rattle.cedar_expression_machine.specs.declared.expression.state.Frame.{Frame}
use Rattle.cedar_expression_machine.specs.declared.expression.state.PendingOperators.{PendingOperators}
use Rattle.cedar_expression_machine.specs.declared.expression.state.OperandMode.{OperandMode}
use Rattle.cedar_expression_machine.specs.declared.expression.state.OperandMode.TheVariants as mode
use Rattle.cedar_expression_machine.specs.declared.expression.state.Operand.{Operand}
use Rattle.cedar_expression_machine.specs.declared.expression.state.OperandPlace.{OperandPlace}
use Rattle.cedar_expression_machine.specs.declared.expression.state.Signs.{Signs}
use Rattle.cedar_expression_machine.specs.declared.expression.state.State.{State}
use Rattle.cedar_expression_machine.specs.machines.ExpressionModes.{words_reduced}
use Rattle.cedar_expression_machine.specs.machines.ExpressionPlans.{ends, if_ends}
use Rattle.cedar_expression_machine.specs.machines.ExpressionShapes.{mode_shape, stack_shape}
use Rattle.cedar_expression_machine.specs.machines.ExpressionStates.{has_operand}
use Rattle.cedar_expression_machine.specs.machines.Expressions.{single_word_is_if, single_word, last_operand, named_at_end, named_is_if, named_operand, word_alone}
use Rattle.cedar_expression_machine.specs.machines.Named.{NameOrEntity, named_reader, words_tree}
use Rattle.cedar_expression_machine.specs.machines.NamedShapes.{is_condition, named_outline}
use Rattle.cedar_expression_machine.specs.machines.WordShapes.{ident_kind, kind_among, words_shape}
use Rattle.cedar_expression_machine.specs.machines.Words.{word_node}

-- a path is the word `if` alone for its shape as for its tree
same_word : (i : Ident) → is_condition (ident_kind i) ≡ single_word_is_if (word_alone (Some i))
same_word ident.True = refl
same_word ident.False = refl
same_word ident.If = refl
same_word _ = refl

same_if : (src : List ℕ) (xs : List (Cell Ident)) (w : Word) →
    is_condition (kind_among xs w.ident) ≡ single_word_is_if (single_word xs (word_node src w))
same_if src [] w = same_word w.ident
same_if src (x ∷ xs) w = refl

ended_so : (src : List ℕ) (lv : PendingOperators) (p : OperandPlace) (sg : Signs) (x : NameOrEntity) (q : State) →
    if_ends p (named_is_if x) ≡ true → Some q ≡ Some (has_operand [] lv (named_operand src sg x)) →
    (o : Operand) × (named_at_end src p sg x ≡ Some o) × (q.mode ≡ mode.Have o None) × (q.levels ≡ lv)
ended_so src lv p sg x q h e =
    let o = named_operand src sg x in
    let i : q ≡ has_operand [] lv o = cc in
    (o, ap (λ (b : Bool). cond b (Some o) None) h, ap (λ (s : State). s.mode) i, ap (λ (s : State). s.levels) i)

pub reduced_last : (src : List ℕ) (st : List Frame) (lv : PendingOperators) (m : OperandMode) (q : State) →
    IsTrue (ends named_outline (stack_shape st) (mode_shape words_shape m)) →
    Some q ≡ words_reduced src st lv m →
    (o : Operand) × (last_operand src named_reader st m ≡ Some o) × (q.mode ≡ mode.Have o None) × (q.levels ≡ lv)
reduced_last src (f ∷ st) lv m q h e = cc
reduced_last src [] lv (mode.Want p sg) q h e = cc
reduced_last src [] lv (mode.Have m d) q h e = cc
reduced_last src [] lv (mode.Word p sg (words.Path path.Start)) q h e = cc
reduced_last src [] lv (mode.Word p sg (words.Path (path.Have x))) q h e =
    ended_so src lv p sg (words_tree src (tree.Path x)) q
    (ap (λ (b : Bool). if_ends p b) (sym (same_if src x.before x.last)) ∙ h) e
reduced_last src [] lv (mode.Word p sg (words.Path (path.Behind x))) q h e = cc
reduced_last src [] lv (mode.Word p sg (words.Inits x)) q h e = cc
reduced_last src [] lv (mode.Word p sg (words.Entity x)) q h e =
    ended_so src lv p sg (words_tree src (tree.Entity x)) q h e
