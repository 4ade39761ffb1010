-- What the plan of an act says of a state of the machine of expressions: where it stands, and what
-- is begun there.
use Rattle.std.proofs.Common.{◌≡◌, refl, subst, Bool, true, false, IsTrue, List, [], ◌∷◌, Option, Some, None}
use Rattle.cedar_lexer.specs.declared.token.TokenKind.{TokenKind}
use Rattle.cedar_lexer.specs.declared.token.TokenKind.TheVariants as kind
use Rattle.cedar_grammar.specs.declared.reading.class.FollowClass.{FollowClass}
use Rattle.cedar_grammar.specs.machines.Classes.{follow_class}
use Rattle.cedar_grammar.specs.machines.Machine.{option_image}
use Rattle.cedar_expression_machine.specs.declared.words.state.WordsAct.{WordsAct}
use Rattle.cedar_expression_machine.specs.declared.expression.state.Act.{Act}
use Rattle.cedar_expression_machine.specs.declared.expression.state.Act.TheVariants as act
use Rattle.cedar_expression_machine.specs.declared.expression.state.StartAct.{StartAct}
use Rattle.cedar_expression_machine.specs.declared.expression.state.OperandPlace.{OperandPlace}
use Rattle.cedar_expression_machine.specs.declared.expression.state.OperandPlace.TheVariants as place
use Rattle.cedar_expression_machine.specs.declared.expression.state.FollowSet.{FollowSet}
use Rattle.cedar_expression_machine.specs.declared.expression.state.StartSymbol.{StartSymbol}
use Rattle.cedar_expression_machine.specs.machines.ExpressionPlans.{behind_plan, begin_plan, colon_key_plan, ended_words_plan, guard_plan, if_follows, if_plan, key_plan, may_follow, or_else, follow_set_of, reduce_plan, word_plan}
use Rattle.cedar_expression_machine.specs.machines.ExpressionShapes.{FrameShape, in_record, RelationShape, WordOutline}

-- what an option's image is the image of
pub image_of : {A B : Type 0} (g : A → B) (o : Option A) (y : B) → option_image g o ≡ Some y →
    (x : A) × (o ≡ Some x) × (g x ≡ y)
image_of g None y e = cc
image_of g (Some x) y e = (x, refl, cc)

-- ---- behind an operand

if_followed : (b : Bool) (x o : FollowClass) → if_follows b x ≡ Some o → IsTrue b × (x ≡ o)
if_followed true x o e = (refl, cc)
if_followed false x o e = cc

pub is_behind : (w : StartSymbol) (st : List FrameShape) (l : RelationShape) (b : Bool) (k : TokenKind)
    (o : FollowClass) → behind_plan w st l b k ≡ Some o → (r : FollowSet) × IsTrue (may_follow st l r o)
is_behind w st l b k o e =
    let r = follow_set_of w st b in
    let h = if_followed (may_follow st l r (follow_class k)) (follow_class k) o e in
    (r, subst (λ (x : FollowClass). IsTrue (may_follow st l r x)) h.1 h.0)

-- ---- behind words: what is done with a token of a kind

pub data PlannedBehindWords {W K : Type 0} (w : StartSymbol) (n : WordOutline W K) (st : List FrameShape)
    (l : RelationShape) (s : W) (k : TokenKind) : Act → Type 0 where
  -- they go on
  on : {a : WordsAct} → n.outline.plan s k ≡ Some a → PlannedBehindWords w n st l s k (act.Words a)
  -- they have ended: as an operand, as `if` before a guard, as `if` before the colon of a key
  reduced : {b : Bool} {o : FollowClass} → option_image n.is_if (n.outline.finish s) ≡ Some b →
      behind_plan w st l b k ≡ Some o → PlannedBehindWords w n st l s k (act.Reduce o)
  guarded : {b : StartAct} → option_image n.is_if (n.outline.finish s) ≡ Some true →
      begin_plan k ≡ Some b → PlannedBehindWords w n st l s k (act.Guard b)
  keyed : option_image n.is_if (n.outline.finish s) ≡ Some true → colon_key_plan st ≡ Some act.Key →
      PlannedBehindWords w n st l s k act.Key

module _ {W K : Type 0} (w : StartSymbol) (n : WordOutline W K) (st : List FrameShape) (l : RelationShape)
    (s : W) where
  as_reduced : (k : TokenKind) (b : Bool) (a : Act) →
      option_image n.is_if (n.outline.finish s) ≡ Some b →
      reduce_plan (behind_plan w st l b k) ≡ Some a → PlannedBehindWords w n st l s k a
  as_reduced k b a h e =
      let i = image_of (λ x. act.Reduce x) (behind_plan w st l b k) a e in
      subst (λ (x : Act). PlannedBehindWords w n st l s k x) i.2 (reduced h i.1)

  as_guarded : (k : TokenKind) (a : Act) → option_image n.is_if (n.outline.finish s) ≡ Some true →
      guard_plan k ≡ Some a → PlannedBehindWords w n st l s k a
  as_guarded k a h e =
      let i = image_of (λ x. act.Guard x) (begin_plan k) a e in
      subst (λ (x : Act). PlannedBehindWords w n st l s k x) i.2 (guarded h i.1)

  colon_keyed : (f : List FrameShape) (a : Act) → colon_key_plan f ≡ Some a →
      (colon_key_plan f ≡ Some act.Key) × (act.Key ≡ a)
  colon_keyed [] a e = cc
  colon_keyed (in_record x false ∷ f) a e = (refl, cc)
  colon_keyed (_ ∷ f) a e = cc

  as_keyed : (k : TokenKind) (a : Act) → option_image n.is_if (n.outline.finish s) ≡ Some true →
      key_plan st k ≡ Some a → PlannedBehindWords w n st l s k a
  as_keyed kind.Colon a h e =
      let i = colon_keyed st a e in
      subst (λ (x : Act). PlannedBehindWords w n st l s kind.Colon x) i.1 (keyed h i.0)
  as_keyed k a h e = as_guarded k a h e

  as_if : (p : OperandPlace) (k : TokenKind) (a : Act) →
      option_image n.is_if (n.outline.finish s) ≡ Some true → if_plan w st l p k ≡ Some a →
      PlannedBehindWords w n st l s k a
  as_if place.Expr k a h e = as_guarded k a h e
  as_if place.Item k a h e = as_guarded k a h e
  as_if place.Key k a h e = as_keyed k a h e
  as_if place.Has k a h e = as_reduced k true a h e
  as_if place.Operand k a h e = cc
  as_if place.Primary k a h e = cc

  as_ended : (p : OperandPlace) (k : TokenKind) (a : Act) (o : Option Bool) →
      option_image n.is_if (n.outline.finish s) ≡ o → ended_words_plan w st l p o k ≡ Some a →
      PlannedBehindWords w n st l s k a
  as_ended p k a None h e = cc
  as_ended p k a (Some true) h e = as_if p k a h e
  as_ended p k a (Some false) h e = as_reduced k false a h e

  on_or_ended : (p : OperandPlace) (k : TokenKind) (a : Act) (o : Option WordsAct) →
      n.outline.plan s k ≡ o →
      or_else (option_image (λ x. act.Words x) o)
      (ended_words_plan w st l p (option_image n.is_if (n.outline.finish s)) k) ≡ Some a →
      PlannedBehindWords w n st l s k a
  on_or_ended p k a (Some x) h e =
      let i : act.Words x ≡ a = cc in
      subst (λ (y : Act). PlannedBehindWords w n st l s k y) i (on h)
  on_or_ended p k a None h e =
      as_ended p k a (option_image n.is_if (n.outline.finish s)) refl e

  pub planned_behind_words : (p : OperandPlace) (k : TokenKind) (a : Act) →
      word_plan w n st l p s k ≡ Some a → PlannedBehindWords w n st l s k a
  planned_behind_words p k a e = on_or_ended p k a (n.outline.plan s k) refl e
