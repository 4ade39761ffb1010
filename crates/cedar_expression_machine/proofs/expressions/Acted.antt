-- What the code makes of a state of the machine of expressions is what the act is.
use Rattle.std.proofs.Common.{◌≡◌, ℕ, refl, sym, ap, ◌∙◌, subst, Bool, true, false, ◌&&◌, IsTrue, List, [], ◌∷◌, Option, Some, None, Result, Ok, Err, IfOk, OnOk}
use Rattle.cedar_lexer.specs.Token.{Lexeme}
use Rattle.cedar_lexer.specs.declared.token.TokenKind.{TokenKind}
use Rattle.cedar_lexer.specs.declared.token.TokenKind.TheVariants as kind
use Rattle.cedar_grammar.specs.grammar.Place.{extent_of, joint_extent}
use Rattle.cedar_syntax.specs.tokens.Tokens.{any_of}
use Rattle.cedar_syntax.specs.trees.Trees.{Cell}
use Rattle.cedar_syntax.specs.declared.cst.Add.{Add}
use Rattle.cedar_syntax.specs.declared.cst.Expr.{Expr}
use Rattle.cedar_syntax.specs.declared.cst.Ident.{Ident}
use Rattle.cedar_syntax.specs.declared.cst.Ident.TheVariants as ident
use Rattle.cedar_syntax.specs.declared.cst.MemAccess.TheVariants as access
use Rattle.cedar_syntax.specs.declared.cst.RelOp.{RelOp}
use Rattle.cedar_syntax.specs.declared.cst.RelOp.TheVariants as rel
use Rattle.cedar_grammar.specs.declared.reading.class.Closing.TheVariants as closing
use Rattle.cedar_grammar.specs.declared.reading.class.FollowClass.{FollowClass}
use Rattle.cedar_grammar.specs.declared.reading.class.FollowClass.TheVariants as operator
use Rattle.cedar_grammar.specs.declared.reading.extent.Extent.{Extent}
use Rattle.cedar_grammar.specs.machines.Machine.{option_image}
use Rattle.cedar_expression_machine.specs.declared.words.state.PathState.TheVariants as path
use Rattle.cedar_expression_machine.specs.declared.words.state.WordsState.TheVariants as words
use Rattle.cedar_expression_machine.specs.declared.expression.state.Act.{Act}
use Rattle.cedar_expression_machine.specs.declared.expression.state.Act.TheVariants as act
use Rattle.cedar_expression_machine.specs.declared.expression.state.StartAct.{StartAct}
use Rattle.cedar_expression_machine.specs.declared.expression.state.Frame.{Frame}
use Rattle.cedar_expression_machine.specs.declared.expression.state.Frame.TheVariants as frame
use Rattle.cedar_expression_machine.specs.declared.expression.state.PendingRelation.{PendingRelation}
use Rattle.cedar_expression_machine.specs.declared.expression.state.PendingRelation.TheVariants as left
use Rattle.cedar_expression_machine.specs.declared.expression.state.PendingOperators.{PendingOperators}
use Rattle.cedar_expression_machine.specs.declared.expression.state.OperandMode.{OperandMode}
use Rattle.cedar_expression_machine.specs.declared.expression.state.OperandMode.TheVariants as mode
use Rattle.cedar_expression_machine.specs.declared.expression.state.Operand.{Operand}
use Rattle.cedar_expression_machine.specs.declared.expression.state.OperandPlace.TheVariants as place
use Rattle.cedar_expression_machine.specs.declared.expression.state.Spanned.{Spanned}
use Rattle.cedar_expression_machine.specs.declared.expression.state.FollowSet.{FollowSet}
use Rattle.cedar_expression_machine.specs.declared.expression.state.Signs.{Signs}
use Rattle.cedar_expression_machine.specs.declared.expression.state.State.{State}
use Rattle.cedar_expression_machine.specs.machines.Closing.{add_at, if_key, node_of, spanned_tree, with_access}
use Rattle.cedar_expression_machine.specs.machines.ExpressionModes.{HasEndedWords, HasPath, HasRecord, IsBegun, IsFollowed, followed, operand_followed, reduced, words_extent, words_reduced}
use Rattle.cedar_expression_machine.specs.machines.ExpressionPlans.{begin_plan, has_relation, may_compare, may_follow, stack_may_end}
use Rattle.cedar_expression_machine.specs.machines.ExpressionShapes.{relation_shape, stack_shape, typed}
use Rattle.cedar_expression_machine.specs.machines.ExpressionStates.{has_operand, opening, state, wants}
use Rattle.cedar_expression_machine.specs.machines.Expressions.{expression_act, if_key_reading, mode_act, named_operand, with_words}
use Rattle.cedar_expression_machine.specs.machines.Having.{comparison_beginning, field_reading, follow_act, is_within, left_beginning, value_beginning}
use Rattle.cedar_expression_machine.specs.machines.Named.{NameOrEntity, named_reader}
use Rattle.cedar_grammar.specs.machines.SingleTokens.{token_node}
use Rattle.cedar_expression_machine.proofs.expressions.PlannedActs.{guard_begun}

-- words that have ended are the operand behind which a token stands
pub reduced_followed : (src : List ℕ) (st : List Frame) (lv : PendingOperators) (sg : Signs) (o : FollowClass)
    (e : Extent) (x : Option NameOrEntity) (s q : State) →
    Some s ≡ option_image (λ y. has_operand st lv (named_operand src sg y)) x →
    Some q ≡ followed src s o e →
    Some q ≡ with_words x (λ y. follow_act src st lv (named_operand src sg y) o e)
reduced_followed src st lv sg o e None s q h f = cc
reduced_followed src st lv sg o e (Some y) s q h f =
    let i : s ≡ has_operand st lv (named_operand src sg y) = cc in
    f ∙ ap (λ (z : State). followed src z o e) i

-- an identifier's kind tells that it is one
any_some : (k : TokenKind) (text : List ℕ) (i : Ident) → any_of k [] ≡ Some i →
    (j : Ident) × (any_of k text ≡ Some j)
any_some kind.Identifier text i e = (ident.Ident text, refl)
any_some k text i e = (i, e)

-- the identifier behind `.`
pub field_read : (src : List ℕ) (st : List Frame) (lv : PendingOperators) (q : OperandMode) (m n : Operand)
    (d : Extent) (dot e : Option Extent) (t : Lexeme) (i : Ident) (x : Cell Ident) →
    q ≡ mode.Have m dot → dot ≡ Some d → any_of t.kind [] ≡ Some i →
    e ≡ joint_extent dot (Some (extent_of t)) →
    ((j : Ident) → any_of t.kind t.text ≡ Some j → x ≡ token_node src t j) →
    n ≡ with_access src m (spanned_tree e (access.Field x)) →
    Some (state st lv (mode.Have n None)) ≡ mode_act src named_reader st lv q act.Field t
field_read src st lv q m n d dot e t i x hq hd hi he hx hn =
    let a = any_some t.kind t.text i hi in
    let g : e ≡ joint_extent (Some d) (Some (extent_of t)) =
    he ∙ ap (λ (y : Option Extent). joint_extent y (Some (extent_of t))) hd in
    let h : n ≡ with_access src m (spanned_tree (joint_extent (Some d) (Some (extent_of t)))
    (access.Field (token_node src t a.0))) =
    hn ∙ ap (λ (y : Option Extent). with_access src m (spanned_tree y (access.Field x))) g
    ∙ ap (λ (y : Cell Ident). with_access src m
    (spanned_tree (joint_extent (Some d) (Some (extent_of t))) (access.Field y))) (hx a.0 a.1) in
    ap (λ (y : Operand). Some (state st lv (mode.Have y None))) h
    ∙ sym (ap (λ (o : Option Ident). field_reading src st lv m d o (extent_of t)) a.1)
    ∙ sym (ap (λ (y : OperandMode). mode_act src named_reader st lv y act.Field t)
    (hq ∙ ap (λ (y : Option Extent). mode.Have m y) hd))

-- `in` behind `is` and its type

and_right : (a b : Bool) → IsTrue (a && b) → IsTrue b
and_right true b h = h
and_right false b h = cc

typed_in : (o : RelOp) → IsTrue (may_compare typed o) → rel.In ≡ o
typed_in rel.In h = refl
typed_in o h = cc

pub on_ok : {A E P Q : Type 0} (r : Result A E) → (P → Q) → OnOk r P → OnOk r Q
on_ok (Ok x) f h = f h
on_ok (Err e) f h = h

pub within_followed : (src : List ℕ) (s : State) (m : Operand) (y : Spanned (Cell Add)) (r : FollowSet)
    (o : RelOp) (e : Extent) → s.mode ≡ mode.Have m None → s.levels.relation ≡ Some (left.Is y) →
    IsTrue (may_follow (stack_shape s.stack) (relation_shape s.levels.relation) r (operator.Compare o)) →
    Some (left_beginning s.stack s.levels (left.IsIn y.tree (node_of src (add_at src s.levels m))
    (joint_extent (joint_extent y.extent (add_at src s.levels m).extent) (Some e))) place.Operand)
    ≡ followed src s (operator.Compare o) e
within_followed src s m y r o e hm hl h =
    let x = add_at src s.levels m in
    let t : IsTrue (may_compare (relation_shape s.levels.relation) o) =
    and_right (has_relation r) (may_compare (relation_shape s.levels.relation) o) h in
    let u : rel.In ≡ o =
    typed_in o (subst (λ (l : Option PendingRelation). IsTrue (may_compare (relation_shape l) o)) hl t) in
    ap (λ (z : RelOp). is_within src s.stack s.levels y x z e) u
    ∙ sym (ap (λ (l : Option PendingRelation). comparison_beginning src s.stack s.levels l x o e) hl)
    ∙ sym (ap (λ (q : OperandMode). operand_followed src s.stack s.levels q (operator.Compare o) e) hm)

-- ---- the acts whose parts are made one after the other

-- words have become the operand that they are
reduced_as : (src : List ℕ) (st : List Frame) (lv : PendingOperators) (sg : Signs) (x : Option NameOrEntity)
    (q : State) → Some q ≡ option_image (λ y. has_operand st lv (named_operand src sg y)) x →
    (m : Operand) × (q ≡ has_operand st lv m)
reduced_as src st lv sg None q h = cc
reduced_as src st lv sg (Some y) q h = (named_operand src sg y, cc)

module _ (src : List ℕ) (s q : State) (h : HasEndedWords s.mode) (e : Some q ≡ reduced src s) where
  reduced_so : Some q ≡
      option_image (λ y. has_operand s.stack s.levels (named_operand src h.1 y)) (named_reader.finish src h.2)
  reduced_so = e ∙ ap (λ (m : OperandMode). words_reduced src s.stack s.levels m) h.3

  -- so a token may stand behind it that may stand behind the words
  pub follows_words : (o : FollowClass) →
      ((r : FollowSet) × IsTrue (may_follow (stack_shape s.stack) (relation_shape s.levels.relation) r o)) →
      IsFollowed q o
  follows_words o r =
      let i = reduced_as src s.stack s.levels h.1 (named_reader.finish src h.2) q reduced_so in
      subst (λ (x : State). IsFollowed x o) (sym i.1) (i.0, refl, r.0, r.1)

  pub words_followed : (z : State) (a : Act) (o : FollowClass) (t : Lexeme) → a ≡ act.Reduce o →
      Some z ≡ followed src q o (extent_of t) → Some z ≡ expression_act src named_reader s a t
  words_followed z a o t ha hf =
      reduced_followed src s.stack s.levels h.1 o (extent_of t) (named_reader.finish src h.2) q z reduced_so hf
      ∙ sym (ap (λ (m : OperandMode). mode_act src named_reader s.stack s.levels m (act.Reduce o) t) h.3)
      ∙ sym (ap (λ (b : Act). mode_act src named_reader s.stack s.levels s.mode b t) ha)

-- `if`, and the first token of its guard
abbrev guarded : State → OperandMode → State
guarded s m = opening (frame.Guard record { branches = s.levels.branches; opened = words_extent m } ∷ s.stack)
    [] place.Expr

pub guard_begins : (s q : State) (k : TokenKind) (b : StartAct) → q ≡ guarded s s.mode →
    begin_plan k ≡ Some b → IsBegun q k b
guard_begins s q k b h e = subst (λ (x : State). IsBegun x k b) (sym h)
    (guard_begun (frame.Guard record { branches = s.levels.branches; opened = words_extent s.mode } ∷ s.stack) k b e)

pub guard_acted : (src : List ℕ) (s q : State) (a : Act) (b : StartAct) (t : Lexeme) (o : Option State) →
    HasPath s.mode → a ≡ act.Guard b → q ≡ guarded s s.mode →
    o ≡ expression_act src named_reader q (act.Begin b) t → o ≡ expression_act src named_reader s a t
guard_acted src s q a b t o h ha hq ho =
    ho ∙ ap (λ (x : State). expression_act src named_reader x (act.Begin b) t)
    (hq ∙ ap (λ (m : OperandMode). guarded s m) h.3)
    ∙ sym (ap (λ (m : OperandMode). mode_act src named_reader s.stack s.levels m (act.Guard b) t) h.3)
    ∙ sym (ap (λ (x : Act). mode_act src named_reader s.stack s.levels s.mode x t) ha)

-- `if` as a key, and its colon
pub key_acted : (src : List ℕ) (s : State) (x : Cell Expr) (t : Lexeme) → HasPath s.mode →
    (h : HasRecord s.stack) → x ≡ if_key src (words_extent s.mode) →
    Some (value_beginning h.1 h.0 x (words_extent s.mode) (extent_of t))
    ≡ expression_act src named_reader s act.Key t
key_acted src s x t p h e =
    let E = words_extent (mode.Word p.0 p.1 (words.Path (path.Have p.2))) in
    ap (λ (y : Cell Expr). Some (value_beginning h.1 h.0 y (words_extent s.mode) (extent_of t))) e
    ∙ ap (λ (m : OperandMode). Some (value_beginning h.1 h.0 (if_key src (words_extent m)) (words_extent m) (extent_of t))) p.3
    ∙ sym (ap (λ (st : List Frame). if_key_reading src st E (extent_of t)) h.2)
    ∙ sym (ap (λ (m : OperandMode). mode_act src named_reader s.stack s.levels m act.Key t) p.3)

-- behind an operand
pub follow_acted : (src : List ℕ) (s : State) (m : Operand) (a : Act) (o : FollowClass) (t : Lexeme) →
    s.mode ≡ mode.Have m None → a ≡ act.Follow o →
    followed src s o (extent_of t) ≡ expression_act src named_reader s a t
follow_acted src s m a o t h ha =
    ap (λ (q : OperandMode). operand_followed src s.stack s.levels q o (extent_of t)) h
    ∙ sym (ap (λ (q : OperandMode). mode_act src named_reader s.stack s.levels q (act.Follow o) t) h)
    ∙ sym (ap (λ (x : Act). mode_act src named_reader s.stack s.levels s.mode x t) ha)

-- a value and its colon stand in a record
pub colon_record : (st : List Frame) → IsTrue (stack_may_end (stack_shape st) closing.Colon) → HasRecord st
colon_record [] h = cc
colon_record (frame.Record f ∷ st) h = (f, st, refl)
colon_record (_ ∷ st) h = cc

-- the state behind `in` is the one that is begun there
pub within_begun : (src : List ℕ) (s t : State) (lv : PendingOperators) (m : Operand) (y : Spanned (Cell Add))
    (x : Spanned Add) (e : Extent) → t ≡ state s.stack s.levels (wants place.Operand) →
    lv ≡ record t.levels { add = None; mult = None } → x ≡ add_at src t.levels m →
    state t.stack (record lv {
      relation = Some (left.IsIn y.tree (node_of src x)
          (joint_extent (joint_extent y.extent x.extent) (Some e)));
    }) t.mode
    ≡ left_beginning s.stack s.levels (left.IsIn y.tree (node_of src (add_at src s.levels m))
    (joint_extent (joint_extent y.extent (add_at src s.levels m).extent) (Some e))) place.Operand
within_begun src s t lv m y x e ht hl hx =
    let F : State → PendingOperators → Spanned Add → State = λ u l z. state u.stack (record l {
      relation = Some
          (left.IsIn y.tree (node_of src z) (joint_extent (joint_extent y.extent z.extent) (Some e)));
    }) u.mode in
    ap (λ (z : Spanned Add). F t lv z) hx
    ∙ ap (λ (l : PendingOperators). F t l (add_at src t.levels m)) hl
    ∙ ap (λ (u : State). F u (record u.levels { add = None; mult = None }) (add_at src u.levels m)) ht

pub if_ok : {A E : Type 0} {P Q : A → Type 0} (r : Result A E) → ((x : A) → P x → Q x) → IfOk r P → IfOk r Q
if_ok (Ok x) f h = f x h
if_ok (Err e) f h = h
