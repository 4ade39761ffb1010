-- What the parsers of one policy and of policies tell: all faults of their texts.
use Rattle.std.specs.Prelude.{◌↔◌}
use Rattle.std.proofs.Common.{◌≡◌, ℕ, List, [], ◌∷◌, Option, refl, sym, ◌∙◌, ap, subst}
use Rattle.cedar_lexer.specs.Token.{Lexeme}
use Rattle.cedar_syntax.specs.declared.cst.Policy.{Policy}
use Rattle.cedar_syntax.specs.declared.cst.Policies.{Policies}
use Rattle.cedar_syntax.specs.declared.err.faults.ParseError.{ParseError}
use Rattle.cedar_grammar.specs.declared.reading.expected.ClosersOnly.TheVariants as narrowing
use Rattle.cedar_grammar.specs.declared.reading.recovery.RecoveryWay.TheVariants as way
use Rattle.cedar_policy_machine.specs.declared.sequence.SpannedState.{SpannedState}
use Rattle.cedar_policy_machine.specs.declared.sequence.SequenceAct.{SequenceAct}
use Rattle.cedar_grammar.specs.faults.FirstFault.{large_at}
use Rattle.cedar_grammar.specs.grammar.Grammar.{IsNodeOf}
use Rattle.cedar_grammar.specs.grammar.LoosePolicies.{ReadsMany, ReadsPolicy, ReadsPolicies}
use Rattle.cedar_grammar.specs.faults.MendedFaults.{fault_of, Unallowed, IsLarge, PoliciesBefore, NothingBefore}
use Rattle.cedar_grammar.specs.grammar.Place.{placed}
use Rattle.cedar_syntax.specs.trees.Trees.{Cell}
use Rattle.cedar_grammar.specs.machines.Machine.{IsParser, Reader, machine_of, allowed_by, outline_machine}
use Rattle.cedar_policy_machine.specs.machines.Placing.{policies_node, AsNode, as_node, placing_reader, mapped_reader}
use Rattle.cedar_grammar.specs.machines.Judged.{ReadsBy}
use Rattle.cedar_grammar.specs.machines.Mending.{refused_fault, recovers_of}
use Rattle.cedar_policy_machine.specs.machines.Policies.{SpannedPolicy, PoliciesState, OneAct, one_policy_reader, all_policies_reader, policy_machine, one_policy_outline, one_policy_shape, all_policies_outline, all_policies_shape, policy_way, begun_policy_way, policy_closing, policy_ending, text_closing, text_ending}
use Rattle.cedar_policy_machine.specs.machines.PartOutlines.{PartOutlines}
use Rattle.cedar_grammar.specs.machines.Recovery.{Recovers}
use Rattle.cedar_policy_machine.specs.machines.Scope.{PartReaders}
use Rattle.cedar_grammar.proofs.machines.Laws.{some_is, none_some}
use Rattle.cedar_grammar.proofs.machines.Readers.{shaped_by, reads_by, same_fault}
use Rattle.cedar_policy_machine.proofs.machines.Lifted.{lifted}
use Rattle.cedar_policy_machine.proofs.machines.Mapped.{IsWrapped, mapped_parser, mapped_right, mapped_outlined, placed_holds, policies_nodes, nodes_policies}
use Rattle.cedar_policy_machine.proofs.machines.MendedClauses.{Mends}
use Rattle.cedar_policy_machine.proofs.machines.Stopped.{tells_apart}
use Rattle.cedar_policy_machine.proofs.machines.Placing.{node_parser, placed_right}
use Rattle.cedar_policy_machine.proofs.machines.Policies.{Grounds, one_policy_right, one_policy_parser, one_policy_outlined, all_policies_right, all_policies_parser, all_policies_outlined}
use Rattle.cedar_policy_machine.proofs.machines.PolicyRecovery.{one_recovers, all_recover}
use Rattle.cedar_policy_machine.proofs.machines.PartOutlines.{PartsOutlined}
use Rattle.cedar_policy_machine.proofs.machines.SequenceShapes.{IsOutlineBy, nodes_outlined}
use Rattle.cedar_policy_machine.proofs.machines.Telling.{tells_exactly}

large_exactly : (src : List ℕ) (t : Lexeme) (x : ParseError) → IsLarge src t x ↔ (fault_of src (large_at src t) ≡ x)
large_exactly src t x = (λ e. sym e, λ e. sym e)

-- ---- policies as a whole text, whose state is held in an `H`

abbrev pub whole_reader : {N S E A B C H : Type 0} → (H → SpannedState (PoliciesState N S E)) → (SpannedState (PoliciesState N S E) → H) → PartReaders N S E A B C → Reader H (SequenceAct (OneAct A B C)) (Cell Policies)
whole_reader out into m = mapped_reader out into (λ src x. policies_node src x) (placing_reader (all_policies_reader m))

abbrev pub whole_recovers : {N S E A B C H : Type 0} → List ℕ → (H → SpannedState (PoliciesState N S E)) → (SpannedState (PoliciesState N S E) → H) → PartReaders N S E A B C → Recovers H ParseError
whole_recovers src out into m =
    recovers_of (allowed_by (whole_reader out into m)) (λ h. begun_policy_way (out h).state.begun) (λ h. into (text_closing (out h))) (λ h. into (text_ending (out h))) fault_of src

abbrev tell_all : {N S E A B C : Type 0} → List ℕ → PartReaders N S E A B C → PoliciesState N S E → ℕ → Option Lexeme → ParseError
tell_all src m s l o = refused_fault fault_of (allowed_by (all_policies_reader m) s) src l o

pub whole_parser : {N S E A B C H : Type 0} (src : List ℕ) (out : H → SpannedState (PoliciesState N S E)) (into : SpannedState (PoliciesState N S E) → H) → IsWrapped out into → (m : PartReaders N S E A B C) → Grounds src m → IsParser (machine_of src (whole_reader out into m)) (IsNodeOf ReadsPolicies src)
whole_parser src out into w m d =
    mapped_parser src out into (λ src x. policies_node src x) (placing_reader (all_policies_reader m)) w (AsNode src (ReadsMany src (ReadsPolicy src))) (IsNodeOf ReadsPolicies src)
    (node_parser src (all_policies_reader m) (ReadsMany src (ReadsPolicy src)) (all_policies_parser src m d)) (policies_nodes src) (nodes_policies src)

pub whole_outlined : {N S E A B C H L M F : Type 0} (src : List ℕ) (out : H → SpannedState (PoliciesState N S E)) (into : SpannedState (PoliciesState N S E) → H) → IsWrapped out into → (m : PartReaders N S E A B C) (n : PartOutlines L M F A B C) (f : N → L) (g : S → M) (h : E → F) → PartsOutlined src m n f g h →
    IsOutlineBy src (whole_reader out into m) (all_policies_outline n) (λ s. all_policies_shape f g h (out s).state)
whole_outlined src out into w m n f g h i =
    mapped_outlined src out into (λ src x. policies_node src x) (placing_reader (all_policies_reader m)) w (all_policies_outline n) (λ s. all_policies_shape f g h s.state)
    (nodes_outlined src (all_policies_reader m) (all_policies_outline n) (all_policies_shape f g h) (all_policies_outlined src m n f g h i))

pub policies_read : {N S E A B C H L M F : Type 0} (src : List ℕ) (out : H → SpannedState (PoliciesState N S E)) (into : SpannedState (PoliciesState N S E) → H) → IsWrapped out into → (m : PartReaders N S E A B C) (n : PartOutlines L M F A B C) (f : N → L) (g : S → M) (h : E → F) → Grounds src m →
    PartsOutlined src m n f g h → ReadsBy src (whole_reader out into m) (IsNodeOf ReadsPolicies src)
policies_read src out into w m n f g h d i = reads_by (whole_outlined src out into w m n f g h i) (whole_parser src out into w m d)

pub whole_mends : {N S E A B C H L M F : Type 0} (src : List ℕ) (out : H → SpannedState (PoliciesState N S E)) (into : SpannedState (PoliciesState N S E) → H) → IsWrapped out into → (m : PartReaders N S E A B C) (n : PartOutlines L M F A B C) (f : N → L) (g : S → M) (h : E → F) → Grounds src m →
    PartsOutlined src m n f g h → Mends ReadsPolicies PoliciesBefore src (whole_reader out into m) (whole_recovers src out into m) (outline_machine (all_policies_outline n)) (λ s. all_policies_shape f g h (out s).state)
whole_mends src out into w m n f g h d i = record {
  right = mapped_right src out into (λ src x. policies_node src x) (placing_reader (all_policies_reader m)) (placed_right src (all_policies_reader m) (all_policies_right src m));
  apart = tells_apart (allowed_by (whole_reader out into m)) (λ h. begun_policy_way (out h).state.begun) (λ h. into (text_closing (out h))) (λ h. into (text_ending (out h))) src;
  mended =
      lifted (Unallowed (IsNodeOf ReadsPolicies src) narrowing.Tokens src) (IsLarge src) (λ s. (out s).state)
      (all_recover src m n f g h d i (tell_all src m) (λ t. fault_of src (large_at src t)) (Unallowed (ReadsMany src (ReadsPolicy src)) narrowing.Tokens src) (IsLarge src)
      (λ s q l o e. same_fault (all_policies_outlined src m n f g h i) fault_of s q e src l o)
      (λ ts s o x c. tells_exactly (reads_by (all_policies_outlined src m n f g h i) (all_policies_parser src m d)) ts s o x c)
      (large_exactly src))
      (placed_holds src out into (λ src x. policies_node src x) (all_policies_reader m) w)
      record { ways = λ q. refl; closes = λ q. ap (λ s. s.state) (w.there (text_closing (out q))); ends = λ q. ap (λ s. s.state) (w.there (text_ending (out q))) }
      (whole_parser src out into w m d) (shaped_by (whole_outlined src out into w m n f g h i))
      (λ s q l o e. same_fault (whole_outlined src out into w m n f g h i) fault_of s q e src l o)
      (λ ts q o x c. tells_exactly (policies_read src out into w m n f g h d i) ts q o x c)
      (large_exactly src);
}

-- ---- one policy

abbrev pub one_recovering : {N S E A B C : Type 0} → List ℕ → PartReaders N S E A B C → Recovers (SpannedPolicy N S E) ParseError
one_recovering src m = recovers_of (allowed_by (one_policy_reader m)) (λ s. policy_way way.Stop s.state) (λ s. policy_closing s) (λ s. policy_ending s) fault_of src

abbrev tell_one : {N S E A B C : Type 0} → List ℕ → PartReaders N S E A B C → SpannedPolicy N S E → ℕ → Option Lexeme → ParseError
tell_one src m s l o = refused_fault fault_of (allowed_by (one_policy_reader m) s) src l o

one_not_empty : {N S E A B C : Type 0} (src : List ℕ) (m : PartReaders N S E A B C) → Grounds src m → (p : Policy) → ReadsPolicy src [] p → ⊥
one_not_empty src m d p r =
    let k = (one_policy_parser src m d).complete [] (placed src [] p) (as_node r) in
    none_some refl (ap (λ s. (policy_machine src m).finish s) (some_is k.goes) ∙ k.ends)

to_one : {N S E A B C : Type 0} (src : List ℕ) (m : PartReaders N S E A B C) → Grounds src m → (ts : List Lexeme) (x : Cell Policy) → AsNode src (ReadsPolicy src) ts x → IsNodeOf ReadsPolicy src ts x
to_one src m d [] x (as_node {x = p} r) = absurd (one_not_empty src m d p r)
to_one src m d (t ∷ ts) x (as_node {x = p} r) = record { tree = p; reads = r; is = refl }

of_one : {N S E A B C : Type 0} (src : List ℕ) (m : PartReaders N S E A B C) → Grounds src m → (ts : List Lexeme) (x : Cell Policy) → IsNodeOf ReadsPolicy src ts x → AsNode src (ReadsPolicy src) ts x
of_one src m d [] x h = absurd (one_not_empty src m d h.tree h.reads)
of_one src m d (t ∷ ts) x h = subst (λ x. AsNode src (ReadsPolicy src) (t ∷ ts) x) (sym h.is) (as_node h.reads)

pub one_parser : {N S E A B C : Type 0} (src : List ℕ) (m : PartReaders N S E A B C) → Grounds src m → IsParser (policy_machine src m) (IsNodeOf ReadsPolicy src)
one_parser src m d = let e = one_policy_parser src m d in record {
  complete = λ ts x r. e.complete ts x (of_one src m d ts x r);
  sound = λ ts s x c h. to_one src m d ts x (e.sound ts s x c h);
  viable = e.viable;
  answers = e.answers;
}

pub policy_is_read : {N S E A B C L M F : Type 0} (src : List ℕ) (m : PartReaders N S E A B C) (n : PartOutlines L M F A B C) (f : N → L) (g : S → M) (h : E → F) → Grounds src m → PartsOutlined src m n f g h → ReadsBy src (one_policy_reader m) (IsNodeOf ReadsPolicy src)
policy_is_read src m n f g h d i = reads_by (one_policy_outlined src m n f g h i) (one_parser src m d)

pub one_mends : {N S E A B C L M F : Type 0} (src : List ℕ) (m : PartReaders N S E A B C) (n : PartOutlines L M F A B C) (f : N → L) (g : S → M) (h : E → F) → Grounds src m → PartsOutlined src m n f g h →
    Mends ReadsPolicy NothingBefore src (one_policy_reader m) (one_recovering src m) (outline_machine (one_policy_outline n)) (λ s. one_policy_shape f g h s)
one_mends src m n f g h d i = record {
  right = one_policy_right src m;
  apart = tells_apart (allowed_by (one_policy_reader m)) (λ s. policy_way way.Stop s.state) (λ s. policy_closing s) (λ s. policy_ending s) src;
  mended =
      lifted (Unallowed (IsNodeOf ReadsPolicy src) narrowing.Tokens src) (IsLarge src) (λ s. s)
      (one_recovers src m n f g h d i (tell_one src m) (λ t. fault_of src (large_at src t)) (Unallowed (AsNode src (ReadsPolicy src)) narrowing.Tokens src) (IsLarge src)
      (λ s q l o e. same_fault (one_policy_outlined src m n f g h i) fault_of s q e src l o)
      (λ ts s o x c. tells_exactly (reads_by (one_policy_outlined src m n f g h i) (one_policy_parser src m d)) ts s o x c)
      (large_exactly src))
      record { down = λ ts q c. c; up = λ ts s c. (s, c, refl) }
      record { ways = λ q. refl; closes = λ q. refl; ends = λ q. refl }
      (one_parser src m d) (shaped_by (one_policy_outlined src m n f g h i))
      (λ s q l o e. same_fault (one_policy_outlined src m n f g h i) fault_of s q e src l o)
      (λ ts q o x c. tells_exactly (policy_is_read src m n f g h d i) ts q o x c)
      (large_exactly src);
}
