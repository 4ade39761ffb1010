-- What of the states of placed trees and of sequences decides which kinds may come next.
use Rattle.std.specs.Prelude.{Option, Some, None}
use Rattle.cedar_lexer.specs.declared.token.TokenKind.{TokenKind}
use Rattle.cedar_policy_machine.specs.declared.sequence.SpannedState.{SpannedState}
use Rattle.cedar_policy_machine.specs.declared.sequence.Sequence.{Sequence}
use Rattle.cedar_policy_machine.specs.declared.sequence.SequenceAct.{SequenceAct}
use Rattle.cedar_policy_machine.specs.declared.sequence.SequenceAct.TheVariants as act
use Rattle.cedar_grammar.specs.machines.Machine.{Outline, option_image, is_some}
use Rattle.cedar_policy_machine.specs.machines.Sequences.{many_plan, list_plan}

abbrev pub spanned_shape : {S U : Type 0} → (S → U) → SpannedState S → U
spanned_shape f s = f s.state

-- the shape of the item that is begun, if there is one
abbrev pub sequence_shape : {S T U : Type 0} → (S → U) → Sequence S T → Option U
sequence_shape f s = option_image f s.begun

abbrev pub sequence_shape_end : {U : Type 0} → (U → Option (Unit {0})) → Option U →
    Option (Unit {0})
sequence_shape_end finish None = Some tt
sequence_shape_end finish (Some u) = finish u

abbrev pub sequence_shape_act : {U A : Type 0} → Outline U A (Unit {0}) → Option U →
    SequenceAct A → TokenKind → Option U
sequence_shape_act n b (act.On a) k = option_image (λ u. n.act u a k) b
sequence_shape_act n b (act.First a) k = Some (n.act n.start a k)
sequence_shape_act n b (act.Next a) k = Some (n.act n.start a k)
sequence_shape_act n b act.Comma k = None

abbrev pub many_outline : {U A : Type 0} → Outline U A (Unit {0}) →
    Outline (Option U) (SequenceAct A) (Unit {0})
many_outline n = record {
  start = None;
  plan =
      λ b k. many_plan (λ k. n.plan n.start k) n.plan (λ u. is_some (n.finish u)) b k;
  act = λ b a k. sequence_shape_act n b a k;
  finish = λ b. sequence_shape_end n.finish b;
}

abbrev pub list_outline : {U A : Type 0} → Outline U A (Unit {0}) →
    Outline (Option U) (SequenceAct A) (Unit {0})
list_outline n = record {
  start = None;
  plan =
      λ b k. list_plan (λ k. n.plan n.start k) n.plan (λ u. is_some (n.finish u)) b k;
  act = λ b a k. sequence_shape_act n b a k;
  finish = λ b. sequence_shape_end n.finish b;
}
