-- One policy and policies can be recovered in place.
use Rattle.std.specs.Prelude.{◌↔◌}
use Rattle.std.proofs.Common.{◌≡◌, ℕ, List, [], ◌∷◌, ◌++◌, Option, Some, None, Bool, true, false, refl, sym, ◌∙◌, ap, subst, append_assoc}
use Rattle.std.proofs.lemmas.List.{append-nil}
use Rattle.cedar_lexer.specs.Token.{Lexeme}
use Rattle.cedar_lexer.specs.declared.token.TokenKind.TheVariants as kind
use Rattle.cedar_syntax.specs.declared.cst.Ident.{Ident}
use Rattle.cedar_syntax.specs.declared.cst.Ident.TheVariants as ident
use Rattle.cedar_syntax.specs.declared.cst.Cond.{Cond}
use Rattle.cedar_syntax.specs.declared.cst.Policy.{Policy}
use Rattle.cedar_grammar.specs.declared.reading.extent.Extent.{Extent}
use Rattle.cedar_policy_machine.specs.declared.condition.ConditionState.{ConditionState}
use Rattle.cedar_policy_machine.specs.declared.condition.ConditionPart.{ConditionPart}
use Rattle.cedar_policy_machine.specs.declared.condition.ConditionPart.TheVariants as part
use Rattle.cedar_policy_machine.specs.declared.policy.Section.{Section}
use Rattle.cedar_policy_machine.specs.declared.policy.Section.TheVariants as section
use Rattle.cedar_grammar.specs.declared.reading.recovery.RecoveryWay.{RecoveryWay}
use Rattle.cedar_grammar.specs.declared.reading.recovery.RecoveryWay.TheVariants as way
use Rattle.cedar_policy_machine.specs.declared.sequence.SpannedState.{SpannedState}
use Rattle.cedar_syntax.specs.tokens.Tokens.{Spot, one}
use Rattle.cedar_grammar.specs.grammar.Place.{placed}
use Rattle.cedar_syntax.specs.trees.Trees.{Cell}
use Rattle.cedar_grammar.specs.grammar.LooseWords.{any, no_item}
use Rattle.cedar_grammar.specs.grammar.LoosePolicies.{ReadsMany, none, ReadsPolicy}
use Rattle.cedar_grammar.specs.grammar.LoosePolicies as loose
use Rattle.cedar_grammar.specs.grammar.Sentences.{HasTree}
use Rattle.cedar_grammar.specs.faults.Mended.{InBraces, in_braces, EndsInBraces, BegunPolicy, stub_token, short_policy}
use Rattle.cedar_grammar.specs.machines.Machine.{Machine, Answer, next, ended, refused, too_large, answer_state, steps, Comes, option_image, outline_machine}
use Rattle.cedar_policy_machine.specs.machines.Placing.{AsNode, as_node, spanned_state, node_if}
use Rattle.cedar_policy_machine.specs.machines.Sequences.{many}
use Rattle.cedar_policy_machine.specs.machines.Annotation.{annotation_shape}
use Rattle.cedar_policy_machine.specs.machines.Scope.{PartReaders}
use Rattle.cedar_policy_machine.specs.machines.PartOutlines.{PartOutlines, element_shape, condition_part_shape, condition_shape}
use Rattle.cedar_policy_machine.specs.machines.Policy.{policy_state, finished_policy, policy_finish, policy_reader, policies}
use Rattle.cedar_policy_machine.specs.machines.SequenceShapes.{spanned_shape, sequence_shape}
use Rattle.cedar_policy_machine.specs.machines.PolicyShapes.{in_head, has_effect, in_parens, behind_parens, whole_policy, section_shape}
use Rattle.cedar_policy_machine.specs.machines.Policies.{AnnotationsState, ScopeState, ConditionsState, OnePolicy, SpannedPolicy, PoliciesState, sections, one_policy_reader, policy_machine, policies_machine, OnePolicyShape, one_policy_outline, all_policies_outline, one_policy_shape, all_policies_shape, condition_way, begun_condition_way, section_way, policy_way, begun_policy_way, closed_part, condition_closing, closed_policy, policy_closing, policies_closing, policy_recovers, policies_recover}
use Rattle.cedar_grammar.proofs.machines.Laws.{some_is, none_some, false_true, then_steps, rest_of_run, comes}
use Rattle.cedar_grammar.proofs.machines.Holding.{snoc_assoc, entered}
use Rattle.cedar_grammar.proofs.machines.Ending.{Begins}
use Rattle.cedar_policy_machine.proofs.machines.Placing.{spanned_answer, placed_told, placed_ends}
use Rattle.cedar_policy_machine.proofs.machines.Sequences.{item_at, many_holds, many_next, many_more, ManyRead, is_between, is_begun, many_read}
use Rattle.cedar_policy_machine.proofs.machines.Policy.{policy_ends as ends_policy}
use Rattle.cedar_policy_machine.proofs.machines.PartOutlines.{PartsOutlined}
use Rattle.cedar_policy_machine.proofs.machines.Policies.{Grounds, one_policy_right, one_policy_parser, all_policies_parser, one_policy_shaped, all_policies_shaped}
use Rattle.cedar_policy_machine.proofs.machines.Opened.{in_body, IsClosed, closed, behind_brace, OpenTokens, opened_by}
use Rattle.cedar_policy_machine.proofs.machines.Recovery.{end_from, Split, Comparable, Recoverable}

-- how a fault is left is told by the shape

abbrev condition_shape_way : {E : Type 0} → Option (ConditionPart E) → RecoveryWay
condition_shape_way None = way.ToEnd
condition_shape_way (Some u) = condition_way u

abbrev shape_way : {N S E : Type 0} → RecoveryWay → OnePolicyShape N S E → RecoveryWay
shape_way w (in_head u v c) = way.ToEnd
shape_way w (has_effect v c) = way.ToEnd
shape_way w (in_parens v c) = way.ToEnd
shape_way w (behind_parens c) = condition_shape_way c
shape_way w whole_policy = w

part_way_by : {E F : Type 0} (h : E → F) (p : ConditionPart E) → condition_way p ≡ condition_way (condition_part_shape h p)
part_way_by h part.Start = refl
part_way_by h part.Word = refl
part_way_by h part.Opened = refl
part_way_by h (part.Body s) = refl
part_way_by h (part.Closed x) = refl

condition_way_by : {E F : Type 0} (h : E → F) (b : Option (SpannedState (ConditionState E))) → begun_condition_way b ≡ condition_shape_way (option_image (spanned_shape (condition_shape h)) b)
condition_way_by h None = refl
condition_way_by h (Some s) = part_way_by h s.state.part

way_by_shape : {N S E L M F : Type 0} (f : N → L) (g : S → M) (h : E → F) (w : RecoveryWay) (s : SpannedPolicy N S E) → policy_way w s.state ≡ shape_way w (one_policy_shape f g h s)
way_by_shape {N = N} {S = S} {E = E} {L = L} {M = M} {F = F} f g h w s = go s.state.section s.state
  where
    go : (n : Section) (s : OnePolicy N S E) → section_way w n s ≡ shape_way {N = L} {S = M} {E = F} w (section_shape (sequence_shape (spanned_shape annotation_shape)) (sequence_shape (spanned_shape (element_shape f g h))) (sequence_shape (spanned_shape (condition_shape h))) n s)
    go section.Annotations s = refl
    go section.Effect s = refl
    go section.Scope s = refl
    go section.Conditions s = condition_way_by h s.conditions.begun
    go section.Closed s = refl

abbrev closed_condition_shape : {E : Type 0} → Option (ConditionPart E) → Option (ConditionPart E)
closed_condition_shape None = None
closed_condition_shape (Some u) = Some (closed_part u)

abbrev closed_shape : {N S E : Type 0} → OnePolicyShape N S E → OnePolicyShape N S E
closed_shape (in_head u v c) = in_head u v c
closed_shape (has_effect v c) = has_effect v c
closed_shape (in_parens v c) = in_parens v c
closed_shape (behind_parens c) = behind_parens (closed_condition_shape c)
closed_shape whole_policy = whole_policy

part_closed_by : {E F : Type 0} (h : E → F) (p : ConditionPart E) → condition_part_shape h (closed_part p) ≡ closed_part (condition_part_shape h p)
part_closed_by h part.Start = refl
part_closed_by h part.Word = refl
part_closed_by h part.Opened = refl
part_closed_by h (part.Body s) = refl
part_closed_by h (part.Closed x) = refl

condition_closed_by : {E F : Type 0} (h : E → F) (zs : List (Cell Cond)) (b : Option (SpannedState (ConditionState E))) →
    sequence_shape (spanned_shape (condition_shape h)) (condition_closing zs b) ≡ closed_condition_shape (option_image (spanned_shape (condition_shape h)) b)
condition_closed_by h zs None = refl
condition_closed_by h zs (Some s) = ap (λ u. Some u) (part_closed_by h s.state.part)

closed_by_shape : {N S E L M F : Type 0} (f : N → L) (g : S → M) (h : E → F) (e : Option Extent) (s : OnePolicy N S E) → one_policy_shape f g h (spanned_state e (closed_policy s)) ≡ closed_shape (one_policy_shape f g h (spanned_state e s))
closed_by_shape {N = N} {S = S} {E = E} f g h e s = go s.section s.annotations s.effect s.scope s.conditions
  where
    go : (n : Section) (a : AnnotationsState) (i : Cell Ident) (v : ScopeState N S E) (c : ConditionsState E) →
        one_policy_shape f g h (spanned_state e (closed_policy (policy_state n a i v c))) ≡ closed_shape (one_policy_shape f g h (spanned_state e (policy_state n a i v c)))
    go section.Annotations a i v c = refl
    go section.Effect a i v c = refl
    go section.Scope a i v c = refl
    go section.Conditions a i v c = ap (λ u. behind_parens u) (condition_closed_by h c.done c.begun)
    go section.Closed a i v c = refl

-- in braces, closing leads behind a condition

part_closed : {F : Type 0} (u : ConditionPart F) → condition_way u ≡ way.ToBrace → closed_part u ≡ part.Closed None
part_closed part.Start e = absurd (cc)
part_closed part.Word e = absurd (cc)
part_closed part.Opened e = refl
part_closed (part.Body s) e = refl
part_closed (part.Closed x) e = absurd (cc)

closed_in_braces : {L M F : Type 0} (w : RecoveryWay) (u : OnePolicyShape L M F) → (w ≡ way.ToBrace → ⊥) → shape_way w u ≡ way.ToBrace → closed_shape u ≡ behind_parens (Some (part.Closed None))
closed_in_braces w (in_head u v c) h e = absurd (cc)
closed_in_braces w (has_effect v c) h e = absurd (cc)
closed_in_braces w (in_parens v c) h e = absurd (cc)
closed_in_braces w (behind_parens None) h e = absurd (cc)
closed_in_braces w (behind_parens (Some u)) h e = ap (λ u. behind_parens (Some u)) (part_closed u e)
closed_in_braces w whole_policy h e = absurd (h e)

close_shape : {N S E L M F : Type 0} (f : N → L) (g : S → M) (h : E → F) (w : RecoveryWay) (s : SpannedPolicy N S E) → (w ≡ way.ToBrace → ⊥) → policy_way w s.state ≡ way.ToBrace → one_policy_shape f g h (policy_closing s) ≡ behind_parens (Some (part.Closed None))
close_shape f g h w s n e = closed_by_shape f g h s.extent s.state ∙ closed_in_braces w (one_policy_shape f g h s) n (sym (way_by_shape f g h w s) ∙ e)

closed_shape_is : {N S E L M F : Type 0} (f : N → L) (g : S → M) (h : E → F) (e : Option Extent) {s : OnePolicy N S E} → IsClosed s → one_policy_shape f g h (spanned_state e s) ≡ behind_parens (Some (part.Closed None))
closed_shape_is f g h e (closed xs i ys zs d w x) = refl

to_end_apart : way.ToEnd ≡ way.ToBrace → ⊥
to_end_apart e = cc

stop_apart : way.Stop ≡ way.ToBrace → ⊥
stop_apart e = cc

-- whole policies, and begun ones

abbrev spare : Spot
spare = record { start = 0; end = 0; text = [] }

short_reads : (src : List ℕ) (e : Spot) → HasTree (ReadsPolicy src) (short_policy e)
short_reads src e = (_, loose.policy spare spare e none (any {k = kind.Identifier} {i = ident.Ident []} spare refl) no_item none)

node_tree : {T : Type 0} {src : List ℕ} {R : List Lexeme → T → Type 0} {ts : List Lexeme} {c : Cell T} → AsNode src R ts c → HasTree R ts
node_tree (as_node {x = x} r) = (x, r)

-- a state that can't end has begun a policy
begun_by : {N S E A B C : Type 0} (src : List ℕ) (m : PartReaders N S E A B C) → Grounds src m → (us : List Lexeme) (q : SpannedPolicy N S E) → Comes (policy_machine src m) us q → (policy_machine src m).finish q ≡ None → BegunPolicy src us
begun_by {N = N} {S = S} {E = E} src m g us q c e =
    let d = one_policy_parser src m g in
    let v = d.viable q in
    go v.more v.last v.tree v.goes v.ends
  where
    go : (ts : List Lexeme) (last : SpannedPolicy N S E) (x : Cell Policy) → steps (policy_machine src m) (Some q) ts ≡ Some last → (policy_machine src m).finish last ≡ Some x → BegunPolicy src us
    go [] last x h f = absurd (none_some e (ap (λ q. (policy_machine src m).finish q) (some_is h) ∙ f))
    go (t ∷ ts) last x h f =
        let d = one_policy_parser src m g in
        let r = node_tree (d.sound (us ++ t ∷ ts) last x (then_steps (policy_machine src m) (Some (policy_machine src m).start) (Some q) (Some last) us (t ∷ ts) c h) f) in
        (t, (ts, subst (λ us. HasTree (ReadsPolicy src) us) (sym (snoc_assoc us t ts)) r))

none_begun : (src : List ℕ) → BegunPolicy src []
none_begun src = (record { kind = kind.Identifier; start = 0; end = 0; text = [] }, (stub_token kind.OpenParen ++ stub_token kind.CloseParen ++ stub_token kind.Semicolon, short_reads src spare))

-- a machine's state behind tokens is one
same_state : {S T : Type 0} (m : Machine Lexeme S T) (ts : List Lexeme) (s q : S) → Comes m ts s → Comes m ts q → s ≡ q
same_state m ts s q c d = some_is (sym c ∙ d)

-- one policy

abbrev pub Nothing : List Lexeme → Type 0
Nothing ts = ts ≡ []

-- no condition is left by stopping
never_part : {E : Type 0} (p : ConditionPart E) → condition_way p ≡ way.Stop → ⊥
never_part part.Start e = cc
never_part part.Word e = cc
never_part part.Opened e = cc
never_part (part.Body s) e = cc
never_part (part.Closed x) e = cc

never_condition : {E : Type 0} (b : Option (SpannedState (ConditionState E))) → begun_condition_way b ≡ way.Stop → ⊥
never_condition None e = cc
never_condition (Some s) e = never_part s.state.part e

-- a policy is whole where it is left by stopping
stopped_whole : {N S E A B C : Type 0} (src : List ℕ) (m : PartReaders N S E A B C) (s : OnePolicy N S E) → policy_way way.Stop s ≡ way.Stop → (t : Lexeme) → answer_state ((policies src (sections m)).step s t) ≡ None
stopped_whole {N = N} {S = S} {E = E} src m s e t = go s.section s.annotations s.effect s.scope s.conditions e
  where
    go : (n : Section) (a : AnnotationsState) (i : Cell Ident) (v : ScopeState N S E) (c : ConditionsState E) → policy_way way.Stop (policy_state n a i v c) ≡ way.Stop → answer_state ((policies src (sections m)).step (policy_state n a i v c) t) ≡ None
    go section.Annotations a i v c e = absurd (cc)
    go section.Effect a i v c e = absurd (cc)
    go section.Scope a i v c e = absurd (cc)
    go section.Conditions a i v c e = absurd (never_condition c.begun e)
    go section.Closed a i v c e = refl

-- and begun where it is not
not_stopped : {N S E : Type 0} (s : OnePolicy N S E) → (policy_way way.Stop s ≡ way.Stop → ⊥) → policy_finish s ≡ None
not_stopped {N = N} {S = S} {E = E} s e = go s.section s e
  where
    go : (n : Section) (s : OnePolicy N S E) → (section_way way.Stop n s ≡ way.Stop → ⊥) → finished_policy n s ≡ None
    go section.Annotations s e = refl
    go section.Effect s e = refl
    go section.Scope s e = refl
    go section.Conditions s e = refl
    go section.Closed s e = absurd (e refl)

whole_shape : {N S E L M F : Type 0} (f : N → L) (g : S → M) (h : E → F) (src : List ℕ) (s : SpannedPolicy N S E) (x : Cell Policy) → node_if src s.extent (policy_finish s.state) ≡ Some x → one_policy_shape f g h s ≡ whole_policy
whole_shape {N = N} {S = S} {E = E} {L = L} {M = M} {F = F} f g h src s x e = go s.state.section s.state e
  where
    go : (n : Section) (q : OnePolicy N S E) → node_if src s.extent (finished_policy n q) ≡ Some x →
        ◌≡◌ {A = OnePolicyShape L M F} (section_shape (sequence_shape (spanned_shape annotation_shape)) (sequence_shape (spanned_shape (element_shape f g h))) (sequence_shape (spanned_shape (condition_shape h))) n q) whole_policy
    go section.Annotations q e = absurd (cc)
    go section.Effect q e = absurd (cc)
    go section.Scope q e = absurd (cc)
    go section.Conditions q e = absurd (cc)
    go section.Closed q e = refl

taken_span : {S T : Type 0} (src : List ℕ) (e : Option Extent) (t : Lexeme) (a : Answer S T) → answer_state a ≡ None → answer_state (spanned_answer src e t a) ≡ None
taken_span src e t (next s) h = absurd (cc)
taken_span src e t (ended x) h = refl
taken_span src e t refused h = refl
taken_span src e t too_large h = refl

alone_inside : {src : List ℕ} (ts : List Lexeme) → OpenTokens src ts → EndsInBraces src Nothing ts
alone_inside ts o = record { opened = o.before ++ o.word ++ one kind.OpenBrace o.brace; within = o.body; is = o.is; braces = in_braces [] o.before o.brace refl o.stands o.reads o.starts }

-- what is in braces, as a run has it
alone_braces : {N S E A B C : Type 0} (src : List ℕ) (m : PartReaders N S E A B C) → Grounds src m → (us vs : List Lexeme) (s : SpannedPolicy N S E) → InBraces src Nothing us vs → Comes (policy_machine src m) (us ++ vs) s → policy_way way.Stop s.state ≡ way.ToBrace
alone_braces src m d us vs s (in_braces ts es {ws = ws} l z o a b) c =
    let n = policy_machine src m in
    let k = in_body src m d vs l o a b in
    ap (λ s. policy_way way.Stop s.state) (same_state n (es ++ ws ++ one kind.OpenBrace l ++ vs) s k.state (subst (λ ts. Comes n (ts ++ es ++ ws ++ one kind.OpenBrace l ++ vs) s) z c) k.comes) ∙ k.is way.Stop

alone_not_begun : {N S E A B C : Type 0} (src : List ℕ) (m : PartReaders N S E A B C) → Grounds src m → (ts us : List Lexeme) (s : SpannedPolicy N S E) → ts ≡ [] → BegunPolicy src us → Comes (policy_machine src m) (ts ++ us) s → policy_way way.Stop s.state ≡ way.Stop → ⊥
alone_not_begun src m d ts us s z p c e =
    let n = policy_machine src m in
    let k = comes (one_policy_parser src m d) (us ++ p.0 ∷ []) (p.1.0, (placed src ((us ++ p.0 ∷ []) ++ p.1.0) p.1.1.0, as_node p.1.1.1)) in
    none_some (ap (λ a. answer_state a) (placed_told src (policy_reader (sections m)) s p.0) ∙ taken_span src s.extent p.0 ((policies src (sections m)).step s.state p.0) (stopped_whole src m s.state e p.0)) (rest_of_run n us (p.0 ∷ []) s (Some k.0) (subst (λ ts. Comes n (ts ++ us) s) z c) k.1)

alone_closes : {N S E A B C L M F : Type 0} (f : N → L) (g : S → M) (h : E → F) (src : List ℕ) (m : PartReaders N S E A B C) → Grounds src m → (us vs : List Lexeme) (s : SpannedPolicy N S E) (e : Spot) → InBraces src Nothing us vs → Comes (policy_machine src m) (us ++ vs) s →
    Comparable (policy_machine src m) (one_policy_shape f g h) (us ++ one kind.CloseBrace e) (one_policy_shape f g h (policy_closing s))
alone_closes f g h src m d us vs s e (in_braces ts es {ws = ws} l z o a b) c =
    let k = behind_brace src m d l e o a in
    let w = alone_braces src m d us vs s (in_braces ts es l z o a b) c in
    record {
      state = k.state;
      comes = subst (λ ts. Comes (policy_machine src m) (ts ++ es ++ ws ++ one kind.OpenBrace l ++ one kind.CloseBrace e) k.state) (sym z) k.comes;
      alike = close_shape f g h way.Stop s stop_apart w ∙ sym (closed_shape_is f g h k.state.extent k.is);
    }

pub one_recovers : {N S E A B C L M F X : Type 0} (src : List ℕ) (m : PartReaders N S E A B C) (n : PartOutlines L M F A B C) (f : N → L) (g : S → M) (h : E → F) → Grounds src m → PartsOutlined src m n f g h →
    (tell : SpannedPolicy N S E → ℕ → Option Lexeme → X) (large : Lexeme → X) (U : List Lexeme → Option Lexeme → X → Type 0) (L : Lexeme → X → Type 0) →
    ((s q : SpannedPolicy N S E) (l : ℕ) (o : Option Lexeme) → one_policy_shape f g h s ≡ one_policy_shape f g h q → tell s l o ≡ tell q l o) →
    ((ts : List Lexeme) (s : SpannedPolicy N S E) (o : Option Lexeme) (x : X) → Comes (policy_machine src m) ts s → U ts o x ↔ (tell s (end_from 0 ts) o ≡ x)) → ((t : Lexeme) (x : X) → L t x ↔ (large t ≡ x)) →
    Recoverable src (policy_machine src m) (AsNode src (ReadsPolicy src)) Nothing U L (policy_recovers tell large) (outline_machine (one_policy_outline n)) (one_policy_shape f g h)
one_recovers src m n f g h d i tell large U L a b c = record {
  parser = one_policy_parser src m d;
  shaped = one_policy_shaped src m n f g h i;
  by_shape = record {
    ways = λ s q e. way_by_shape f g h way.Stop s ∙ ap (λ u. shape_way way.Stop u) e ∙ sym (way_by_shape f g h way.Stop q);
    closes = λ s q e. closed_by_shape f g h s.extent s.state ∙ ap (λ u. closed_shape u) e ∙ sym (closed_by_shape f g h q.extent q.state);
    ends = λ s q e. refl;
    tells = a;
  };
  tells = b;
  larges = c;
  inside = λ ts s e w. alone_inside ts (opened_by src m d way.Stop stop_apart ts s e w);
  braces = alone_braces src m d;
  begun = λ ts s e w. record { whole = []; part = ts; is = refl; stands = refl; begun = begun_by src m d ts s e (ap (λ o. node_if src s.extent o) (not_stopped s.state w)) };
  not_begun = alone_not_begun src m d;
  closes = alone_closes f g h src m d;
  ends = λ ts us s e z p w. let r = short_reads src e in let k = (one_policy_parser src m d).complete _ _ (as_node r.1) in
      record { state = k.last; comes = subst (λ ts. Comes (policy_machine src m) (ts ++ short_policy e) k.last) (sym z) k.goes; alike = sym (whole_shape f g h src k.last _ k.ends) };
}

-- policies

abbrev pub WholePolicies : List ℕ → List Lexeme → Type 0
WholePolicies src ts = HasTree (ReadsMany src (ReadsPolicy src)) ts

-- behind policies, a run of one more
another : {N S E A B C : Type 0} (src : List ℕ) (m : PartReaders N S E A B C) → Grounds src m → (ts us : List Lexeme) (xs : List (Cell Policy)) (q : SpannedPolicy N S E) → ReadsMany src (ReadsPolicy src) ts xs → Comes (policy_machine src m) us q →
    ((policy_machine src m).start ≡ q → ⊥) → Comes (policies_machine src m) (ts ++ us) (item_at xs q)
another src m d ts [] xs q r c h = absurd (h (some_is c))
another src m d ts (t ∷ us) xs q r c h =
    let n = policy_machine src m in
    let p = one_policy_reader m in
    let o = one_policy_right src m in
    let k = (all_policies_parser src m d).complete ts xs r in
    then_steps (many src p) (Some (many src p).start) (Some k.last) _ ts (t ∷ us) k.goes
    (entered n (many src p) (λ q. item_at xs q) (many_holds src p o xs) k.last t (λ s w. many_next src p o (placed_ends src (policy_reader (sections m)) (Begins n) (ends_policy src (sections m) (Begins n))) k.last xs k.ends t s w) us q c)

start_way : {N S E A B C : Type 0} (src : List ℕ) (m : PartReaders N S E A B C) (q : SpannedPolicy N S E) → policy_way way.ToEnd q.state ≡ way.ToBrace → (policy_machine src m).start ≡ q → ⊥
start_way src m q e h = to_end_apart (ap (λ s. policy_way way.ToEnd s.state) h ∙ e)

abbrev section_at_start : Section → Bool
section_at_start section.Annotations = true
section_at_start section.Effect = false
section_at_start section.Scope = false
section_at_start section.Conditions = false
section_at_start section.Closed = false

closed_later : {N S E : Type 0} {s : OnePolicy N S E} → IsClosed s → section_at_start s.section ≡ false
closed_later (closed xs i ys zs d w x) = refl

start_closed : {N S E A B C : Type 0} (src : List ℕ) (m : PartReaders N S E A B C) (q : SpannedPolicy N S E) → IsClosed q.state → (policy_machine src m).start ≡ q → ⊥
start_closed src m q e h = false_true (closed_later e) (ap (λ s. section_at_start s.state.section) (sym h))

start_whole : {N S E A B C : Type 0} (src : List ℕ) (m : PartReaders N S E A B C) (q : SpannedPolicy N S E) (x : Cell Policy) → (policy_machine src m).finish q ≡ Some x → (policy_machine src m).start ≡ q → ⊥
start_whole src m q x e h = none_some refl (ap (λ q. (policy_machine src m).finish q) h ∙ e)

-- what is in braces

all_in_braces : {N S E A B C : Type 0} (src : List ℕ) (m : PartReaders N S E A B C) → Grounds src m → (us vs : List Lexeme) (s : PoliciesState N S E) → InBraces src (WholePolicies src) us vs → Comes (policies_machine src m) (us ++ vs) s →
    begun_policy_way s.begun ≡ way.ToBrace
all_in_braces src m d us vs s (in_braces ts es {ws = ws} l p o a b) c =
    let k = in_body src m d vs l o a b in
    let r = another src m d ts (es ++ ws ++ one kind.OpenBrace l ++ vs) p.0 k.state p.1 k.comes (start_way src m k.state (k.is way.ToEnd)) in
    ap (λ s. begun_policy_way s.begun) (same_state (policies_machine src m) (ts ++ es ++ ws ++ one kind.OpenBrace l ++ vs) s (item_at p.0 k.state) c
    (subst (λ ts. Comes (policies_machine src m) ts (item_at p.0 k.state)) (assoc ts es ws (one kind.OpenBrace l) vs) r)) ∙ k.is way.ToEnd
  where
    assoc : (ts us ws l vs : List Lexeme) → ts ++ (us ++ ws ++ l ++ vs) ≡ ts ++ us ++ ws ++ l ++ vs
    assoc ts us ws l vs = simp append_assoc

all_close_shape : {N S E L M F : Type 0} (f : N → L) (g : S → M) (h : E → F) (xs : List (Cell Policy)) (b : Option (SpannedPolicy N S E)) → begun_policy_way b ≡ way.ToBrace →
    all_policies_shape f g h (policies_closing xs b) ≡ Some (behind_parens (Some (part.Closed None)))
all_close_shape f g h xs None e = absurd (cc)
all_close_shape f g h xs (Some s) e = ap (λ u. Some u) (close_shape f g h way.ToEnd s to_end_apart e)

all_closes : {N S E A B C L M F : Type 0} (f : N → L) (g : S → M) (h : E → F) (src : List ℕ) (m : PartReaders N S E A B C) → Grounds src m → (us vs : List Lexeme) (s : PoliciesState N S E) (e : Spot) → InBraces src (WholePolicies src) us vs →
    Comes (policies_machine src m) (us ++ vs) s → Comparable (policies_machine src m) (all_policies_shape f g h) (us ++ one kind.CloseBrace e) (all_policies_shape f g h (policies_closing s.done s.begun))
all_closes f g h src m d us vs s e (in_braces ts es {ws = ws} l p o a b) c =
    let k = behind_brace src m d l e o a in
    let r = another src m d ts (es ++ ws ++ one kind.OpenBrace l ++ one kind.CloseBrace e) p.0 k.state p.1 k.comes (start_closed src m k.state k.is) in
    record {
      state = item_at p.0 k.state;
      comes = subst (λ ts. Comes (policies_machine src m) ts (item_at p.0 k.state)) (assoc ts es ws (one kind.OpenBrace l) (one kind.CloseBrace e)) r;
      alike = all_close_shape f g h s.done s.begun (all_in_braces src m d us vs s (in_braces ts es l p o a b) c) ∙ ap (λ u. Some u) (sym (closed_shape_is f g h k.state.extent k.is));
    }
  where
    assoc : (ts us ws l vs : List Lexeme) → ts ++ (us ++ ws ++ l ++ vs) ≡ ts ++ us ++ ws ++ l ++ vs
    assoc ts us ws l vs = simp append_assoc

all_inside : {N S E A B C : Type 0} (src : List ℕ) (m : PartReaders N S E A B C) → Grounds src m → {ts : List Lexeme} {s : PoliciesState N S E} → ManyRead src (policy_machine src m) (ReadsPolicy src) ts s → begun_policy_way s.begun ≡ way.ToBrace →
    EndsInBraces src (WholePolicies src) ts
all_inside src m d (is_between r) e = absurd (cc)
all_inside src m d (is_begun {ts = ts} us {xs = xs} {s = q} r c) e =
    let o = opened_by src m d way.ToEnd to_end_apart us q c e in
    record {
      opened = ts ++ o.before ++ o.word ++ one kind.OpenBrace o.brace;
      within = o.body;
      is = assoc ts o.before o.word (one kind.OpenBrace o.brace) o.body ∙ ap (λ us. ts ++ us) o.is;
      braces = in_braces ts o.before o.brace (xs, r) o.stands o.reads o.starts;
    }
  where
    assoc : (ts us ws l vs : List Lexeme) → ts ++ us ++ ws ++ l ++ vs ≡ ts ++ (us ++ ws ++ l ++ vs)
    assoc ts us ws l vs = simp append_assoc

all_split : {N S E A B C : Type 0} (src : List ℕ) (m : PartReaders N S E A B C) → Grounds src m → {ts : List Lexeme} {s : PoliciesState N S E} → ManyRead src (policy_machine src m) (ReadsPolicy src) ts s → Split src (WholePolicies src) ts
all_split src m d (is_between {ts = ts} {xs = xs} r) = record { whole = ts; part = []; is = append-nil ts; stands = (xs, r); begun = none_begun src }
all_split src m d (is_begun {ts = ts} us {xs = xs} {s = q} r c) = by_end ((policy_machine src m).finish q) refl
  where
    by_end : (o : Option (Cell Policy)) → (policy_machine src m).finish q ≡ o → Split src (WholePolicies src) (ts ++ us)
    by_end None e = record { whole = ts; part = us; is = refl; stands = (xs, r); begun = begun_by src m d us q c e }
    by_end (Some x) e = record { whole = ts ++ us; part = []; is = append-nil (ts ++ us); stands = (xs ++ x ∷ [], many_more r ((one_policy_parser src m d).sound us q x c e)); begun = none_begun src }

never_stops : {N S E : Type 0} (b : Option (SpannedPolicy N S E)) → begun_policy_way b ≡ way.Stop → ⊥
never_stops None e = absurd (cc)
never_stops {N = N} {S = S} {E = E} (Some s) e = go s.state.section s.state e
  where
    go : (n : Section) (s : OnePolicy N S E) → section_way way.ToEnd n s ≡ way.Stop → ⊥
    go section.Annotations s e = cc
    go section.Effect s e = cc
    go section.Scope s e = cc
    go section.Conditions s e = never_condition s.conditions.begun e
    go section.Closed s e = cc

all_ends : {N S E A B C L M F : Type 0} (f : N → L) (g : S → M) (h : E → F) (src : List ℕ) (m : PartReaders N S E A B C) → Grounds src m → (ts : List Lexeme) (e : Spot) → WholePolicies src ts →
    Comparable (policies_machine src m) (all_policies_shape f g h) (ts ++ short_policy e) (Some whole_policy)
all_ends f g h src m d ts e w =
    let r = short_reads src e in
    let k = (one_policy_parser src m d).complete (short_policy e) (placed src (short_policy e) r.0) (as_node r.1) in
    record {
      state = item_at w.0 k.last;
      comes = another src m d ts (short_policy e) w.0 k.last w.1 k.goes (start_whole src m k.last (placed src (short_policy e) r.0) k.ends);
      alike = ap (λ u. Some u) (sym (whole_shape f g h src k.last (placed src (short_policy e) r.0) k.ends));
    }

all_ways : {N S E L M F : Type 0} (f : N → L) (g : S → M) (h : E → F) (b c : Option (SpannedPolicy N S E)) → option_image (one_policy_shape f g h) b ≡ option_image (one_policy_shape f g h) c → begun_policy_way b ≡ begun_policy_way c
all_ways f g h None None e = refl
all_ways f g h None (Some q) e = absurd (cc)
all_ways f g h (Some s) None e = absurd (cc)
all_ways f g h (Some s) (Some q) e = way_by_shape f g h way.ToEnd s ∙ ap (λ u. shape_way way.ToEnd u) (some_is e) ∙ sym (way_by_shape f g h way.ToEnd q)

all_closing : {N S E L M F : Type 0} (f : N → L) (g : S → M) (h : E → F) (xs ys : List (Cell Policy)) (b c : Option (SpannedPolicy N S E)) → option_image (one_policy_shape f g h) b ≡ option_image (one_policy_shape f g h) c →
    all_policies_shape f g h (policies_closing xs b) ≡ all_policies_shape f g h (policies_closing ys c)
all_closing f g h xs ys None None e = refl
all_closing f g h xs ys None (Some q) e = absurd (cc)
all_closing f g h xs ys (Some s) None e = absurd (cc)
all_closing f g h xs ys (Some s) (Some q) e = ap (λ u. Some u) (closed_by_shape f g h s.extent s.state ∙ ap (λ u. closed_shape u) (some_is e) ∙ sym (closed_by_shape f g h q.extent q.state))

pub all_recover : {N S E A B C L M F X : Type 0} (src : List ℕ) (m : PartReaders N S E A B C) (n : PartOutlines L M F A B C) (f : N → L) (g : S → M) (h : E → F) → Grounds src m → PartsOutlined src m n f g h →
    (tell : PoliciesState N S E → ℕ → Option Lexeme → X) (large : Lexeme → X) (U : List Lexeme → Option Lexeme → X → Type 0) (L : Lexeme → X → Type 0) →
    ((s q : PoliciesState N S E) (l : ℕ) (o : Option Lexeme) → all_policies_shape f g h s ≡ all_policies_shape f g h q → tell s l o ≡ tell q l o) →
    ((ts : List Lexeme) (s : PoliciesState N S E) (o : Option Lexeme) (x : X) → Comes (policies_machine src m) ts s → U ts o x ↔ (tell s (end_from 0 ts) o ≡ x)) → ((t : Lexeme) (x : X) → L t x ↔ (large t ≡ x)) →
    Recoverable src (policies_machine src m) (ReadsMany src (ReadsPolicy src)) (WholePolicies src) U L (policies_recover tell large) (outline_machine (all_policies_outline n)) (all_policies_shape f g h)
all_recover src m n f g h d i tell large U L a b c = record {
  parser = all_policies_parser src m d;
  shaped = all_policies_shaped src m n f g h i;
  by_shape = record {
    ways = λ s q e. all_ways f g h s.begun q.begun e;
    closes = λ s q e. all_closing f g h s.done q.done s.begun q.begun e;
    ends = λ s q e. refl;
    tells = a;
  };
  tells = b;
  larges = c;
  inside = λ ts s e w. all_inside src m d (many_read src (one_policy_reader m) (ReadsPolicy src) (one_policy_parser src m d) (one_policy_right src m) ts s e) w;
  braces = λ us vs s e w. all_in_braces src m d us vs s e w;
  begun = λ ts s e w. all_split src m d (many_read src (one_policy_reader m) (ReadsPolicy src) (one_policy_parser src m d) (one_policy_right src m) ts s e);
  not_begun = λ ts us s p q e w. never_stops s.begun w;
  closes = λ us vs s e p w. all_closes f g h src m d us vs s e p w;
  ends = λ ts us s e p q w. all_ends f g h src m d ts e p;
}
