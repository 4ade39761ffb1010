-- How items are read that stand one behind the other, or are separated by commas, over any reader
-- of one item (`ReadsMany` in `LoosePolicies`, `ReadsList` in `LooseWords`).
use Rattle.std.specs.Prelude.{◌≡◌, ℕ, Bool, true, false, List, [], ◌∷◌, ◌++◌, IsTrue, Option, Some, None}
use Rattle.cedar_lexer.specs.Token.{Lexeme}
use Rattle.cedar_lexer.specs.declared.token.TokenKind.{TokenKind}
use Rattle.cedar_lexer.specs.declared.token.TokenKind.TheVariants as kind
use Rattle.cedar_policy_machine.specs.declared.sequence.Sequence.{Sequence}
use Rattle.cedar_policy_machine.specs.declared.sequence.SequenceAct.{SequenceAct}
use Rattle.cedar_policy_machine.specs.declared.sequence.SequenceAct.TheVariants as act
use Rattle.cedar_grammar.specs.machines.Machine.{Machine, Reader, machine_of, option_image}

abbrev pub sequence : {S T : Type 0} → List T → Option S → Sequence S T
sequence xs b = record { done = xs; begun = b }

-- ---- plans, for any plans of items; `first` plans a first token of one

-- the begun item's own token, or, where that item can end, the next one's first
abbrev pub begun_many_plan : {A : Type 0} → Option A → Bool → Option A → Option (SequenceAct A)
begun_many_plan (Some a) b first = Some (act.On a)
begun_many_plan None true first = option_image (λ a. act.Next a) first
begun_many_plan None false first = None

abbrev pub many_plan : {S A : Type 0} → (TokenKind → Option A) → (S → TokenKind → Option A) →
    (S → Bool) → Option S → TokenKind → Option (SequenceAct A)
many_plan first on ends None k = option_image (λ a. act.First a) (first k)
many_plan first on ends (Some s) k = begun_many_plan (on s k) (ends s) (first k)

abbrev pub comma_plan : {A : Type 0} → TokenKind → Option (SequenceAct A)
comma_plan kind.Comma = Some act.Comma
comma_plan _ = None

-- the begun item's own token, or, where that item can end, a comma
abbrev pub begun_list_plan : {A : Type 0} → Option A → Bool → TokenKind → Option (SequenceAct A)
begun_list_plan (Some a) b k = Some (act.On a)
begun_list_plan None true k = comma_plan k
begun_list_plan None false k = None

abbrev pub list_plan : {S A : Type 0} → (TokenKind → Option A) → (S → TokenKind → Option A) →
    (S → Bool) → Option S → TokenKind → Option (SequenceAct A)
list_plan first on ends None k = option_image (λ a. act.First a) (first k)
list_plan first on ends (Some s) k = begun_list_plan (on s k) (ends s) k

-- ---- the items

-- the items and one more, if there is one
abbrev pub items_with_last : {T : Type 0} → List T → Option T → Option (List T)
items_with_last xs None = None
items_with_last xs (Some x) = Some (xs ++ x ∷ [])

abbrev pub sequence_end : {S T : Type 0} → (S → Option T) → List T → Option S → Option (List T)
sequence_end finish xs None = Some xs
sequence_end finish xs (Some s) = items_with_last xs (finish s)

-- they can end where none is begun, or the begun one can
abbrev pub sequence_ends : {S : Type 0} → (S → Bool) → Option S → Bool
sequence_ends ends None = true
sequence_ends ends (Some s) = ends s

-- ---- acts; of a sequence where one isn't planned nothing is said

-- behind these items stands a begun one
abbrev pub item_begun : {S T : Type 0} → List T → Option S → Option (Sequence S T)
item_begun xs o = option_image (λ s. sequence xs (Some s)) o

-- a token of the begun item
abbrev pub item_going : {S A T : Type 0} → Reader S A T → List ℕ → List T → Option S → A →
    Lexeme → Option (Sequence S T)
item_going r src xs None a t = None
item_going r src xs (Some s) a t = item_begun xs (r.act src s a t)

-- an item begins behind others that have ended
abbrev pub next_item : {S T : Type 0} → Option (List T) → Option S → Option (Sequence S T)
next_item None o = None
next_item (Some xs) o = item_begun xs o

-- the items have ended
abbrev pub items_ended : {S T : Type 0} → Option (List T) → Option (Sequence S T)
items_ended o = option_image (λ xs. sequence xs None) o

-- `ended` are the items where they have ended
abbrev pub item_act : {S A T : Type 0} → Reader S A T → List ℕ → List T → Option S →
    Option (List T) → SequenceAct A → Lexeme → Option (Sequence S T)
item_act r src xs b ended (act.On a) t = item_going r src xs b a t
item_act r src xs b ended (act.First a) t = item_begun xs (r.act src r.start a t)
item_act r src xs b ended (act.Next a) t = next_item ended (r.act src r.start a t)
item_act r src xs b ended act.Comma t = items_ended ended

abbrev pub sequence_act : {S A T : Type 0} → Reader S A T → List ℕ → Sequence S T →
    SequenceAct A → Lexeme → Option (Sequence S T)
sequence_act r src s a t =
    item_act r src s.done s.begun (sequence_end (r.finish src) s.done s.begun) a t

-- ---- items that stand one behind the other, none or more

abbrev pub many_reader : {S A T : Type 0} → Reader S A T →
    Reader (Sequence S T) (SequenceAct A) (List T)
many_reader r = record {
  start = sequence [] None;
  plan = λ s k. many_plan (λ k. r.plan r.start k) r.plan r.ends s.begun k;
  act = λ src s a t. sequence_act r src s a t;
  ends = λ s. sequence_ends r.ends s.begun;
  finish = λ src s. sequence_end (r.finish src) s.done s.begun;
}

abbrev pub many : {S A T : Type 0} → List ℕ → Reader S A T →
    Machine Lexeme (Sequence S T) (List T)
many src r = machine_of src (many_reader r)

-- ---- items separated by commas, none or more, with possibly one comma behind the last

abbrev pub list_reader : {S A T : Type 0} → Reader S A T →
    Reader (Sequence S T) (SequenceAct A) (List T)
list_reader r = record {
  start = sequence [] None;
  plan = λ s k. list_plan (λ k. r.plan r.start k) r.plan r.ends s.begun k;
  act = λ src s a t. sequence_act r src s a t;
  ends = λ s. sequence_ends r.ends s.begun;
  finish = λ src s. sequence_end (r.finish src) s.done s.begun;
}

abbrev pub comma_list : {S A T : Type 0} → List ℕ → Reader S A T →
    Machine Lexeme (Sequence S T) (List T)
comma_list src r = machine_of src (list_reader r)

-- ---- what the code asks of a sequence

-- an item is begun, and this is planned with a token of this kind
abbrev pub IsItemPlan : {S A : Type 0} → (S → TokenKind → Option A) → Option S → TokenKind → A →
    Type 0
IsItemPlan on None k a = ⊥
IsItemPlan on (Some s) k a = on s k ≡ Some a

-- the act is planned there with a token of this kind, one behind the other or behind a comma
abbrev pub IsSequencePlan : {S A T : Type 0} → Reader S A T → Option S → TokenKind →
    SequenceAct A → Type 0
IsSequencePlan r b k (act.On a) = IsItemPlan r.plan b k a
IsSequencePlan r b k (act.First a) = (b ≡ None) × (r.plan r.start k ≡ Some a)
IsSequencePlan r b k (act.Next a) = IsTrue (sequence_ends r.ends b) × (r.plan r.start k ≡ Some a)
IsSequencePlan r b k act.Comma = (k ≡ kind.Comma) × IsTrue (sequence_ends r.ends b)
