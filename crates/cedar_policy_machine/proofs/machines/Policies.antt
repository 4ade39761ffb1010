-- The parsers and outlines of one policy and of policies, from those of names, sums, expressions.
use Rattle.std.proofs.Common.{◌≡◌, ℕ, List, refl, sym, ap, subst}
use Rattle.cedar_lexer.specs.declared.token.TokenKind.{TokenKind}
use Rattle.cedar_lexer.specs.declared.token.TokenKind.TheVariants as kind
use Rattle.cedar_grammar.specs.grammar.LoosePolicies.{ReadsMany, ReadsAnnotation, ReadsVariableDef, ReadsCond, ReadsPolicy}
use Rattle.cedar_grammar.specs.machines.Machine.{ended, IsParser, IsOutside, Shapes, machine_of, outline_machine, no_tree}
use Rattle.cedar_grammar.specs.machines.Marks.{mark_of}
use Rattle.cedar_policy_machine.specs.machines.Placing.{AsNode, placing, placing_reader}
use Rattle.cedar_policy_machine.specs.machines.Following.{IsParting, comma, close_paren}
use Rattle.cedar_policy_machine.specs.machines.Annotation.{annotation_reader, annotation_shape}
use Rattle.cedar_policy_machine.specs.machines.Scope.{PartReaders, element_reader}
use Rattle.cedar_policy_machine.specs.machines.Condition.{condition_reader}
use Rattle.cedar_policy_machine.specs.machines.Policy.{policy_reader}
use Rattle.cedar_policy_machine.specs.machines.SequenceShapes.{spanned_shape, sequence_shape}
use Rattle.cedar_policy_machine.specs.machines.PartOutlines.{annotation_outline, PartOutlines, element_shape, element_outline, condition_shape, condition_outline}
use Rattle.cedar_policy_machine.specs.machines.Policies.{sections, one_policy_reader, all_policies_reader, policy_machine, policies_machine, section_outlines, one_policy_outline, all_policies_outline, one_policy_shape, all_policies_shape}
use Rattle.cedar_grammar.proofs.machines.Readers.{shaped_by}
use Rattle.cedar_grammar.proofs.machines.Ending.{Begins, IsWord, IsKind}
use Rattle.cedar_grammar.proofs.machines.Rightly.{EndsRightly}
use Rattle.cedar_policy_machine.proofs.machines.Placing.{node_parser, placed_right, placed_not_empty, placed_ends, placed_refuses, placed_ends_itself}
use Rattle.cedar_policy_machine.proofs.machines.Sequences.{behind_item, many_parser, listed_parser, many_ends, listed_ends}
use Rattle.cedar_policy_machine.proofs.machines.Annotation.{annotation_parser, annotation_right, annotation_ends_itself, annotation_ends_at_words, annotation_refuses_words}
use Rattle.cedar_policy_machine.proofs.machines.Scope.{PartParsers, element_parser, element_right, IsBehindElement, element_ends_at, element_refuses}
use Rattle.cedar_policy_machine.proofs.machines.Condition.{condition_parser, condition_right, condition_ends_at, condition_refuses}
use Rattle.cedar_policy_machine.proofs.machines.PartOutlines.{annotations_outlined, PartsOutlined, elements_outlined, conditions_outlined}
use Rattle.cedar_policy_machine.proofs.machines.Policy.{SectionParsers, policy_parser, policy_ends}
use Rattle.cedar_policy_machine.proofs.machines.SequenceShapes.{IsOutlineBy, nodes_outlined, many_right, list_right, many_outlined, list_outlined}
use Rattle.cedar_policy_machine.proofs.machines.PolicyShapes.{policy_outlined, policy_right}

-- what the parts show of themselves
pub record Grounds {N S E A B C : Type 0} (src : List ℕ) (m : PartReaders N S E A B C) : Type 0 where
  pub parts : PartParsers src m
  pub behind_body : IsOutside (machine_of src m.expression) kind.CloseBrace

-- a closing parenthesis is no comma
paren_ends : {S T : Type 0} (xs : List T) (k : TokenKind) → k ≡ kind.CloseParen → behind_item {S = S} xs (mark_of k) ≡ ended xs
paren_ends {S = S} xs k e = ap (λ k. behind_item {S = S} xs (mark_of k)) e

pub conditions_right : {N S E A B C : Type 0} (src : List ℕ) (m : PartReaders N S E A B C) → EndsRightly src (placing_reader (condition_reader m.expression))
conditions_right src m = placed_right src (condition_reader m.expression) (condition_right src m.expression)

pub one_condition_parser : {N S E A B C : Type 0} (src : List ℕ) (m : PartReaders N S E A B C) → Grounds src m → IsParser (placing src (condition_reader m.expression)) (AsNode src (ReadsCond src))
one_condition_parser src m g = node_parser src (condition_reader m.expression) (ReadsCond src) (condition_parser src m.expression g.parts.expression g.behind_body g.parts.expression_right)

pub section_parsers : {N S E A B C : Type 0} (src : List ℕ) (m : PartReaders N S E A B C) → Grounds src m → SectionParsers src (sections m)
section_parsers src m g =
    let a : EndsRightly src (placing_reader annotation_reader) = placed_right src annotation_reader (annotation_right src) in
    let v : EndsRightly src (placing_reader (element_reader m)) = placed_right src (element_reader m) (element_right src m g.parts.name_right g.parts.sum_right g.parts.expression_right) in
    let c : EndsRightly src (placing_reader (condition_reader m.expression)) = conditions_right src m in
    record {
      annotations = many_parser src (placing_reader annotation_reader) (ReadsAnnotation src) (node_parser src annotation_reader (ReadsAnnotation src) (annotation_parser src)) a (placed_not_empty src annotation_reader refl) (placed_ends_itself src annotation_reader (annotation_ends_itself src));
      scope = listed_parser src (placing_reader (element_reader m)) (ReadsVariableDef src) (node_parser src (element_reader m) (ReadsVariableDef src) (element_parser src m g.parts)) v (placed_not_empty src (element_reader m) refl)
          (λ s x t p e. placed_ends src (element_reader m) IsBehindElement (element_ends_at src m g.parts) s x t (subst (λ k. IsParting k) (sym p) comma) e);
      conditions = many_parser src (placing_reader (condition_reader m.expression)) (ReadsCond src) (one_condition_parser src m g) c (placed_not_empty src (condition_reader m.expression) refl)
          (placed_ends src (condition_reader m.expression) (Begins (placing src (condition_reader m.expression))) (condition_ends_at src m.expression (Begins (placing src (condition_reader m.expression)))));
      annotations_right = many_right src (placing_reader annotation_reader) a;
      scope_right = list_right src (placing_reader (element_reader m)) v;
      conditions_right = many_right src (placing_reader (condition_reader m.expression)) c;
      at_words = many_ends src (placing_reader annotation_reader) a (placed_ends src annotation_reader IsWord (annotation_ends_at_words src)) (placed_refuses src annotation_reader IsWord (annotation_refuses_words src));
      at_paren = listed_ends src (placing_reader (element_reader m)) v
          (λ s x t p e. placed_ends src (element_reader m) IsBehindElement (element_ends_at src m g.parts) s x t (subst (λ k. IsParting k) (sym p) close_paren) e)
          (λ t p. placed_refuses src (element_reader m) IsBehindElement (element_refuses src m) t (subst (λ k. IsParting k) (sym p) close_paren))
          (λ t p xs. paren_ends xs t.kind p);
      at_semicolon = many_ends src (placing_reader (condition_reader m.expression)) c (placed_ends src (condition_reader m.expression) (IsKind kind.Semicolon) (condition_ends_at src m.expression (IsKind kind.Semicolon)))
          (placed_refuses src (condition_reader m.expression) (IsKind kind.Semicolon) (condition_refuses src m.expression));
    }

pub one_policy_right : {N S E A B C : Type 0} (src : List ℕ) (m : PartReaders N S E A B C) → EndsRightly src (one_policy_reader m)
one_policy_right src m = placed_right src (policy_reader (sections m)) (policy_right src (sections m))

pub all_policies_right : {N S E A B C : Type 0} (src : List ℕ) (m : PartReaders N S E A B C) → EndsRightly src (all_policies_reader m)
all_policies_right src m = many_right src (one_policy_reader m) (one_policy_right src m)

pub one_policy_parser : {N S E A B C : Type 0} (src : List ℕ) (m : PartReaders N S E A B C) → Grounds src m → IsParser (policy_machine src m) (AsNode src (ReadsPolicy src))
one_policy_parser src m g = node_parser src (policy_reader (sections m)) (ReadsPolicy src) (policy_parser src (sections m) (section_parsers src m g))

pub all_policies_parser : {N S E A B C : Type 0} (src : List ℕ) (m : PartReaders N S E A B C) → Grounds src m → IsParser (policies_machine src m) (ReadsMany src (ReadsPolicy src))
all_policies_parser src m g =
    let p = policy_reader (sections m) in
    many_parser src (one_policy_reader m) (ReadsPolicy src) (one_policy_parser src m g) (one_policy_right src m) (placed_not_empty src p refl) (placed_ends src p (Begins (placing src p)) (policy_ends src (sections m) (Begins (placing src p))))

-- outlines

pub one_policy_outlined : {N S E A B C L M F : Type 0} (src : List ℕ) (m : PartReaders N S E A B C) (n : PartOutlines L M F A B C) (f : N → L) (g : S → M) (h : E → F) → PartsOutlined src m n f g h →
    IsOutlineBy src (one_policy_reader m) (one_policy_outline n) (one_policy_shape f g h)
one_policy_outlined src m n f g h i =
    nodes_outlined src (policy_reader (sections m)) (one_policy_outline n) _
    (policy_outlined src (sections m) (section_outlines n) (sequence_shape (spanned_shape annotation_shape)) (sequence_shape (spanned_shape (element_shape f g h))) (sequence_shape (spanned_shape (condition_shape h))) record {
      annotations = many_outlined src (placing_reader annotation_reader) annotation_outline (spanned_shape annotation_shape) (nodes_outlined src annotation_reader annotation_outline annotation_shape (annotations_outlined src));
      scope = list_outlined src (placing_reader (element_reader m)) (element_outline n) (spanned_shape (element_shape f g h)) (nodes_outlined src (element_reader m) (element_outline n) (element_shape f g h) (elements_outlined src m n f g h i));
      conditions = many_outlined src (placing_reader (condition_reader m.expression)) (condition_outline n.expression) (spanned_shape (condition_shape h))
          (nodes_outlined src (condition_reader m.expression) (condition_outline n.expression) (condition_shape h) (conditions_outlined src m.expression n.expression h i.expression));
    })

pub all_policies_outlined : {N S E A B C L M F : Type 0} (src : List ℕ) (m : PartReaders N S E A B C) (n : PartOutlines L M F A B C) (f : N → L) (g : S → M) (h : E → F) → PartsOutlined src m n f g h →
    IsOutlineBy src (all_policies_reader m) (all_policies_outline n) (all_policies_shape f g h)
all_policies_outlined src m n f g h i = many_outlined src (one_policy_reader m) (one_policy_outline n) (one_policy_shape f g h) (one_policy_outlined src m n f g h i)

pub one_policy_shaped : {N S E A B C L M F : Type 0} (src : List ℕ) (m : PartReaders N S E A B C) (n : PartOutlines L M F A B C) (f : N → L) (g : S → M) (h : E → F) → PartsOutlined src m n f g h →
    Shapes (policy_machine src m) (outline_machine (one_policy_outline n)) (one_policy_shape f g h) no_tree
one_policy_shaped src m n f g h i = shaped_by (one_policy_outlined src m n f g h i)

pub all_policies_shaped : {N S E A B C L M F : Type 0} (src : List ℕ) (m : PartReaders N S E A B C) (n : PartOutlines L M F A B C) (f : N → L) (g : S → M) (h : E → F) → PartsOutlined src m n f g h →
    Shapes (policies_machine src m) (outline_machine (all_policies_outline n)) (all_policies_shape f g h) no_tree
all_policies_shaped src m n f g h i = shaped_by (all_policies_outlined src m n f g h i)
