-- A policy has a parser, since its parts have. Nothing here knows which readers those are.
use Rattle.std.specs.Prelude.{cond}
use Rattle.std.proofs.Common.{◌≡◌, ℕ, List, [], ◌∷◌, ◌++◌, Option, Some, None, Bool, true, false, refl, sym, ◌∙◌, ap, subst, append_assoc, IfSome}
use Rattle.std.proofs.lemmas.List.{append-nil}
use Rattle.cedar_lexer.specs.Token.{Lexeme}
use Rattle.cedar_lexer.specs.declared.token.TokenKind.{TokenKind}
use Rattle.cedar_lexer.specs.declared.token.TokenKind.TheVariants as kind
use Rattle.cedar_syntax.specs.declared.cst.Ident.{Ident}
use Rattle.cedar_syntax.specs.declared.cst.Ident.TheVariants as ident
use Rattle.cedar_syntax.specs.declared.cst.Annotation.{Annotation}
use Rattle.cedar_syntax.specs.declared.cst.VariableDef.{VariableDef}
use Rattle.cedar_syntax.specs.declared.cst.Cond.{Cond}
use Rattle.cedar_syntax.specs.declared.cst.Policy.{Policy}
use Rattle.cedar_grammar.specs.declared.reading.mark.Mark.{Mark}
use Rattle.cedar_grammar.specs.declared.reading.mark.Mark.TheVariants as mark
use Rattle.cedar_policy_machine.specs.declared.policy.Section.{Section}
use Rattle.cedar_policy_machine.specs.declared.policy.Section.TheVariants as section
use Rattle.cedar_policy_machine.specs.declared.policy.PolicyAct.{PolicyAct}
use Rattle.cedar_policy_machine.specs.declared.policy.PolicyAct.TheVariants as act
use Rattle.cedar_policy_machine.specs.declared.sequence.Sequence.{Sequence}
use Rattle.cedar_syntax.specs.tokens.Tokens.{Spot, one, any_of}
use Rattle.cedar_grammar.specs.grammar.Place.{placed}
use Rattle.cedar_syntax.specs.trees.Trees.{Cell, policy_of}
use Rattle.cedar_grammar.specs.grammar.LooseWords.{ReadsAny, any, ReadsList}
use Rattle.cedar_grammar.specs.grammar.LoosePolicies.{ReadsMany, ReadsAnnotation, ReadsVariableDef, ReadsCond, ReadsPolicy}
use Rattle.cedar_grammar.specs.grammar.LoosePolicies as loose
use Rattle.cedar_grammar.specs.machines.Machine.{Answer, next, ended, refused, too_large, answer_state, steps, Comes, RunsTo, Completed, AnswersRightly, IsParser, is_some, option_image, machine_of, done_answer, planned_answer}
use Rattle.cedar_grammar.specs.machines.Marks.{mark_of}
use Rattle.cedar_policy_machine.specs.machines.Annotation.{any_node}
use Rattle.cedar_policy_machine.specs.machines.Sequences.{sequence}
use Rattle.cedar_grammar.specs.machines.SingleTokens.{token_node}
use Rattle.cedar_policy_machine.specs.machines.Policy.{is_word, PolicyOf, policy_state, Sections, annotations_plan, open_plan, close_plan, scope_plan, shut_plan, conditions_plan, with_annotations, with_scope, with_conditions, behind_effect, behind_scope, behind_conditions, effect_read, policy_act, finished_policy, policy_finish, policies}
use Rattle.cedar_grammar.proofs.machines.Laws.{some_is, then_steps, some_token}
use Rattle.cedar_grammar.proofs.machines.Holding.{Holds, held, one_more, kept}
use Rattle.cedar_grammar.proofs.machines.Ending.{EndsAt, IsWord, IsKind, spot_of, token_at}
use Rattle.cedar_policy_machine.proofs.machines.PolicyShapes.{word_there}
use Rattle.cedar_grammar.proofs.machines.Rightly.{EndsRightly}
use Rattle.cedar_grammar.proofs.machines.Marked.{IsMarked, open_paren, close_paren, semicolon, marked, marked_fits, word_fits}

-- the parsers of the parts, and where they end
pub record SectionParsers {A V C X Y Z : Type 0} (src : List ℕ) (m : Sections A V C X Y Z) : Type 0 where
  pub annotations : IsParser (machine_of src m.annotations) (ReadsMany src (ReadsAnnotation src))
  pub scope : IsParser (machine_of src m.scope) (ReadsList src (ReadsVariableDef src))
  pub conditions : IsParser (machine_of src m.conditions) (ReadsMany src (ReadsCond src))
  pub annotations_right : EndsRightly src m.annotations
  pub scope_right : EndsRightly src m.scope
  pub conditions_right : EndsRightly src m.conditions
  pub at_words : EndsAt (machine_of src m.annotations) IsWord
  pub at_paren : EndsAt (machine_of src m.scope) (IsKind kind.CloseParen)
  pub at_semicolon : EndsAt (machine_of src m.conditions) (IsKind kind.Semicolon)

-- ---- a step, told by what the machines of the parts answer

abbrev PolicyAnswer : Type 0 → Type 0 → Type 0 → Type 0
PolicyAnswer A V C = Answer (PolicyOf A V C) Policy

abbrev at_effect : {A V C : Type 0} → PolicyOf A V C → List (Cell Annotation) → Option (Cell Ident) → PolicyAnswer A V C
at_effect s xs None = refused
at_effect s xs (Some i) = next (behind_effect s xs i)

abbrev in_annotations : {A V C : Type 0} → PolicyOf A V C → Option (Cell Ident) → Answer (Sequence A (Cell Annotation)) (List (Cell Annotation)) → PolicyAnswer A V C
in_annotations s w (next q) = next (with_annotations s q)
in_annotations s w (ended xs) = at_effect s xs w
in_annotations s w refused = refused
in_annotations s w too_large = too_large

abbrev opening : {A V C : Type 0} → PolicyOf A V C → Mark → PolicyAnswer A V C
opening s mark.OpenParen = next (policy_state section.Scope s.annotations s.effect s.scope s.conditions)
opening s _ = refused

abbrev closing : {A V C : Type 0} → PolicyOf A V C → List (Cell VariableDef) → Mark → PolicyAnswer A V C
closing s ys mark.CloseParen = next (behind_scope s ys)
closing s ys _ = refused

abbrev in_scope : {A V C : Type 0} → PolicyOf A V C → Mark → Answer (Sequence V (Cell VariableDef)) (List (Cell VariableDef)) → PolicyAnswer A V C
in_scope s c (next q) = next (with_scope s q)
in_scope s c (ended ys) = closing s ys c
in_scope s c refused = refused
in_scope s c too_large = too_large

abbrev shutting : {A V C : Type 0} → PolicyOf A V C → List (Cell Cond) → Mark → PolicyAnswer A V C
shutting s zs mark.Semicolon = next (behind_conditions s zs)
shutting s zs _ = refused

abbrev in_conditions : {A V C : Type 0} → PolicyOf A V C → Mark → Answer (Sequence C (Cell Cond)) (List (Cell Cond)) → PolicyAnswer A V C
in_conditions s c (next q) = next (with_conditions s q)
in_conditions s c (ended zs) = shutting s zs c
in_conditions s c refused = refused
in_conditions s c too_large = too_large

abbrev policy_step : {A V C X Y Z : Type 0} → List ℕ → Sections A V C X Y Z → Section → PolicyOf A V C → Lexeme → PolicyAnswer A V C
policy_step src m section.Annotations s t = in_annotations s (any_node src t) ((machine_of src m.annotations).step s.annotations t)
policy_step src m section.Effect s t = opening s (mark_of t.kind)
policy_step src m section.Scope s t = in_scope s (mark_of t.kind) ((machine_of src m.scope).step s.scope t)
policy_step src m section.Conditions s t = in_conditions s (mark_of t.kind) ((machine_of src m.conditions).step s.conditions t)
policy_step src m section.Closed s t = ended (policy_of s.annotations.done s.effect s.scope.done s.conditions.done)

-- `f` does the acts of a policy, `g` those of the part

effect_told : {A V C X Y Z : Type 0} (f : PolicyAct X Y Z → Option (PolicyOf A V C)) (s : PolicyOf A V C) (xs : List (Cell Annotation)) (c : Bool) (w : Option (Cell Ident)) → f act.Effect ≡ effect_read s (Some xs) w → c ≡ is_some w →
    planned_answer f None (cond c (Some act.Effect) None) ≡ at_effect s xs w
effect_told f s xs true (Some i) h e = ap (λ o. done_answer o) h
effect_told f s xs false None h e = refl
effect_told f s xs true None h e = absurd (cc)
effect_told f s xs false (Some i) h e = absurd (cc)

annotation_told : {A V C : Type 0} (s : PolicyOf A V C) (w : Option (Cell Ident)) (o : Option (Sequence A (Cell Annotation))) → done_answer (option_image (λ q. with_annotations s q) o) ≡ in_annotations s w (done_answer o)
annotation_told s w (Some q) = refl
annotation_told s w None = refl

annotations_told : {A V C X Y Z : Type 0} (f : PolicyAct X Y Z → Option (PolicyOf A V C)) (g : X → Option (Sequence A (Cell Annotation))) (s : PolicyOf A V C) (k : TokenKind) (p : Option X) (b : Bool) (o : Option (List (Cell Annotation))) (w : Option (Cell Ident)) →
    ((a : X) → f (act.Annotation a) ≡ option_image (λ q. with_annotations s q) (g a)) → f act.Effect ≡ effect_read s o w → b ≡ is_some o → is_word k ≡ is_some w → planned_answer f None (annotations_plan p b k) ≡ in_annotations s w (planned_answer g o p)
annotations_told f g s k (Some a) b o w h i e j = ap (λ o. done_answer o) (h a) ∙ annotation_told s w (g a)
annotations_told f g s k None true (Some xs) w h i e j = effect_told f s xs (is_word k) w i j
annotations_told f g s k None false None w h i e j = refl
annotations_told f g s k None true None w h i e j = absurd (cc)
annotations_told f g s k None false (Some xs) w h i e j = absurd (cc)

open_told : {A V C X Y Z : Type 0} (f : PolicyAct X Y Z → Option (PolicyOf A V C)) (s : PolicyOf A V C) (k : TokenKind) → f act.Open ≡ Some (policy_state section.Scope s.annotations s.effect s.scope s.conditions) → planned_answer f None (open_plan k) ≡ opening s (mark_of k)
open_told f s kind.OpenParen h = ap (λ o. done_answer o) h
open_told f s _ h = refl

close_told : {A V C X Y Z : Type 0} (f : PolicyAct X Y Z → Option (PolicyOf A V C)) (s : PolicyOf A V C) (ys : List (Cell VariableDef)) (k : TokenKind) → f act.Close ≡ Some (behind_scope s ys) → planned_answer f None (close_plan k) ≡ closing s ys (mark_of k)
close_told f s ys kind.CloseParen h = ap (λ o. done_answer o) h
close_told f s ys _ h = refl

element_told : {A V C : Type 0} (s : PolicyOf A V C) (c : Mark) (o : Option (Sequence V (Cell VariableDef))) → done_answer (option_image (λ q. with_scope s q) o) ≡ in_scope s c (done_answer o)
element_told s c (Some q) = refl
element_told s c None = refl

scope_told : {A V C X Y Z : Type 0} (f : PolicyAct X Y Z → Option (PolicyOf A V C)) (g : Y → Option (Sequence V (Cell VariableDef))) (s : PolicyOf A V C) (k : TokenKind) (p : Option Y) (b : Bool) (o : Option (List (Cell VariableDef))) →
    ((a : Y) → f (act.Element a) ≡ option_image (λ q. with_scope s q) (g a)) → f act.Close ≡ option_image (λ ys. behind_scope s ys) o → b ≡ is_some o → planned_answer f None (scope_plan p b k) ≡ in_scope s (mark_of k) (planned_answer g o p)
scope_told f g s k (Some a) b o h i e = ap (λ o. done_answer o) (h a) ∙ element_told s (mark_of k) (g a)
scope_told f g s k None true (Some ys) h i e = close_told f s ys k i
scope_told f g s k None false None h i e = refl
scope_told f g s k None true None h i e = absurd (cc)
scope_told f g s k None false (Some ys) h i e = absurd (cc)

shut_told : {A V C X Y Z : Type 0} (f : PolicyAct X Y Z → Option (PolicyOf A V C)) (s : PolicyOf A V C) (zs : List (Cell Cond)) (k : TokenKind) → f act.Shut ≡ Some (behind_conditions s zs) → planned_answer f None (shut_plan k) ≡ shutting s zs (mark_of k)
shut_told f s zs kind.Semicolon h = ap (λ o. done_answer o) h
shut_told f s zs _ h = refl

condition_told : {A V C : Type 0} (s : PolicyOf A V C) (c : Mark) (o : Option (Sequence C (Cell Cond))) → done_answer (option_image (λ q. with_conditions s q) o) ≡ in_conditions s c (done_answer o)
condition_told s c (Some q) = refl
condition_told s c None = refl

conditions_told : {A V C X Y Z : Type 0} (f : PolicyAct X Y Z → Option (PolicyOf A V C)) (g : Z → Option (Sequence C (Cell Cond))) (s : PolicyOf A V C) (k : TokenKind) (p : Option Z) (b : Bool) (o : Option (List (Cell Cond))) →
    ((a : Z) → f (act.Condition a) ≡ option_image (λ q. with_conditions s q) (g a)) → f act.Shut ≡ option_image (λ zs. behind_conditions s zs) o → b ≡ is_some o → planned_answer f None (conditions_plan p b k) ≡ in_conditions s (mark_of k) (planned_answer g o p)
conditions_told f g s k (Some a) b o h i e = ap (λ o. done_answer o) (h a) ∙ condition_told s (mark_of k) (g a)
conditions_told f g s k None true (Some zs) h i e = shut_told f s zs k i
conditions_told f g s k None false None h i e = refl
conditions_told f g s k None true None h i e = absurd (cc)
conditions_told f g s k None false (Some zs) h i e = absurd (cc)

pub policy_told : {A V C X Y Z : Type 0} (src : List ℕ) (m : Sections A V C X Y Z) → SectionParsers src m → (s : PolicyOf A V C) (t : Lexeme) → (policies src m).step s t ≡ policy_step src m s.section s t
policy_told {A = A} {V = V} {C = C} src m d s t = go s.section s.annotations s.effect s.scope s.conditions
  where
    go : (n : Section) (a : Sequence A (Cell Annotation)) (i : Cell Ident) (v : Sequence V (Cell VariableDef)) (c : Sequence C (Cell Cond)) → (policies src m).step (policy_state n a i v c) t ≡ policy_step src m n (policy_state n a i v c) t
    go section.Annotations a i v c =
        annotations_told (λ w. policy_act m src (policy_state section.Annotations a i v c) w t) (λ w. m.annotations.act src a w t) (policy_state section.Annotations a i v c) t.kind (m.annotations.plan a t.kind) (m.annotations.ends a) (m.annotations.finish src a) (any_node src t)
        (λ w. refl) refl (d.annotations_right a) (word_there src t)
    go section.Effect a i v c = open_told (λ w. policy_act m src (policy_state section.Effect a i v c) w t) (policy_state section.Effect a i v c) t.kind refl
    go section.Scope a i v c =
        scope_told (λ w. policy_act m src (policy_state section.Scope a i v c) w t) (λ w. m.scope.act src v w t) (policy_state section.Scope a i v c) t.kind (m.scope.plan v t.kind) (m.scope.ends v) (m.scope.finish src v) (λ w. refl) refl (d.scope_right v)
    go section.Conditions a i v c =
        conditions_told (λ w. policy_act m src (policy_state section.Conditions a i v c) w t) (λ w. m.conditions.act src c w t) (policy_state section.Conditions a i v c) t.kind (m.conditions.plan c t.kind) (m.conditions.ends c) (m.conditions.finish src c) (λ w. refl) refl (d.conditions_right c)
    go section.Closed a i v c = refl

-- ---- states

abbrev no_ident : Cell Ident
no_ident = record { node = None; loc = None }

-- behind the scope
abbrev pub conditions_at : {A V C : Type 0} → List (Cell Annotation) → Cell Ident → List (Cell VariableDef) → Sequence C (Cell Cond) → PolicyOf A V C
conditions_at xs i ys c = policy_state section.Conditions (sequence xs None) i (sequence ys None) c

abbrev pub closed_at : {A V C : Type 0} → List (Cell Annotation) → Cell Ident → List (Cell VariableDef) → List (Cell Cond) → PolicyOf A V C
closed_at xs i ys zs = policy_state section.Closed (sequence xs None) i (sequence ys None) (sequence zs None)

holds_annotations : {A V C X Y Z : Type 0} (src : List ℕ) (m : Sections A V C X Y Z) → SectionParsers src m → (i : Cell Ident) (v : Sequence V (Cell VariableDef)) (c : Sequence C (Cell Cond)) → Holds (machine_of src m.annotations) (policies src m) (λ q. policy_state section.Annotations q i v c)
holds_annotations src m d i v c s q t e = policy_told src m d (policy_state section.Annotations s i v c) t ∙ ap (λ a. in_annotations (policy_state section.Annotations s i v c) (any_node src t) a) e

holds_scope : {A V C X Y Z : Type 0} (src : List ℕ) (m : Sections A V C X Y Z) → SectionParsers src m → (a : Sequence A (Cell Annotation)) (i : Cell Ident) (c : Sequence C (Cell Cond)) → Holds (machine_of src m.scope) (policies src m) (λ q. policy_state section.Scope a i q c)
holds_scope src m d a i c s q t e = policy_told src m d (policy_state section.Scope a i s c) t ∙ ap (λ w. in_scope (policy_state section.Scope a i s c) (mark_of t.kind) w) e

pub holds_conditions : {A V C X Y Z : Type 0} (src : List ℕ) (m : Sections A V C X Y Z) → SectionParsers src m → (a : Sequence A (Cell Annotation)) (i : Cell Ident) (v : Sequence V (Cell VariableDef)) → Holds (machine_of src m.conditions) (policies src m) (λ q. policy_state section.Conditions a i v q)
holds_conditions src m d a i v s q t e = policy_told src m d (policy_state section.Conditions a i v s) t ∙ ap (λ w. in_conditions (policy_state section.Conditions a i v s) (mark_of t.kind) w) e

-- one token that the policy itself takes

takes_effect : {A V C X Y Z : Type 0} (src : List ℕ) (m : Sections A V C X Y Z) → SectionParsers src m → (q : Sequence A (Cell Annotation)) (i : Cell Ident) (v : Sequence V (Cell VariableDef)) (c : Sequence C (Cell Cond)) (xs : List (Cell Annotation)) (t : Lexeme) (j : Ident) → m.annotations.finish src q ≡ Some xs → any_of t.kind t.text ≡ Some j →
    (policies src m).step (policy_state section.Annotations q i v c) t ≡ next (policy_state section.Effect (sequence xs None) (token_node src t j) v c)
takes_effect src m d q i v c xs t j e w =
    let s : _ = policy_state section.Annotations q i v c in
    policy_told src m d s t ∙ ap (λ a. in_annotations s (any_node src t) a) (d.at_words q xs t (j, w) e) ∙ ap (λ o. at_effect s xs (option_image (λ i. token_node src t i) o)) w

takes_open : {A V C X Y Z : Type 0} (src : List ℕ) (m : Sections A V C X Y Z) → SectionParsers src m → (a : Sequence A (Cell Annotation)) (i : Cell Ident) (v : Sequence V (Cell VariableDef)) (c : Sequence C (Cell Cond)) (p : Spot) →
    (policies src m).step (policy_state section.Effect a i v c) (token_at kind.OpenParen p) ≡ next (policy_state section.Scope a i v c)
takes_open src m d a i v c p = policy_told src m d (policy_state section.Effect a i v c) (token_at kind.OpenParen p)

takes_close : {A V C X Y Z : Type 0} (src : List ℕ) (m : Sections A V C X Y Z) → SectionParsers src m → (a : Sequence A (Cell Annotation)) (i : Cell Ident) (q : Sequence V (Cell VariableDef)) (c : Sequence C (Cell Cond)) (ys : List (Cell VariableDef)) (p : Spot) → m.scope.finish src q ≡ Some ys →
    (policies src m).step (policy_state section.Scope a i q c) (token_at kind.CloseParen p) ≡ next (policy_state section.Conditions a i (sequence ys None) c)
takes_close src m d a i q c ys p e =
    policy_told src m d (policy_state section.Scope a i q c) (token_at kind.CloseParen p) ∙ ap (λ w. in_scope (policy_state section.Scope a i q c) mark.CloseParen w) (d.at_paren q ys (token_at kind.CloseParen p) refl e)

takes_shut : {A V C X Y Z : Type 0} (src : List ℕ) (m : Sections A V C X Y Z) → SectionParsers src m → (a : Sequence A (Cell Annotation)) (i : Cell Ident) (v : Sequence V (Cell VariableDef)) (q : Sequence C (Cell Cond)) (zs : List (Cell Cond)) (p : Spot) → m.conditions.finish src q ≡ Some zs →
    (policies src m).step (policy_state section.Conditions a i v q) (token_at kind.Semicolon p) ≡ next (policy_state section.Closed a i v (sequence zs None))
takes_shut src m d a i v q zs p e =
    policy_told src m d (policy_state section.Conditions a i v q) (token_at kind.Semicolon p) ∙ ap (λ w. in_conditions (policy_state section.Conditions a i v q) mark.Semicolon w) (d.at_semicolon q zs (token_at kind.Semicolon p) refl e)

-- ---- complete, part by part

effect_runs : {A V C X Y Z : Type 0} (src : List ℕ) (m : Sections A V C X Y Z) → SectionParsers src m → {ts us : List Lexeme} {xs : List (Cell Annotation)} {i : Ident} → ReadsMany src (ReadsAnnotation src) ts xs → ReadsAny us i →
    Comes (policies src m) (ts ++ us) (policy_state section.Effect (sequence xs None) (placed src us i) m.scope.start m.conditions.start)
effect_runs src m d {ts = ts} {xs = xs} r (any {k = k} {i = i} q e) =
    let c = d.annotations.complete ts xs r in
    then_steps (policies src m) (Some (policies src m).start) (Some (policy_state section.Annotations c.last no_ident m.scope.start m.conditions.start)) _ ts (one k q)
    (held (machine_of src m.annotations) (policies src m) (λ q. policy_state section.Annotations q no_ident m.scope.start m.conditions.start) (holds_annotations src m d no_ident m.scope.start m.conditions.start) ts m.annotations.start c.last c.goes)
    (ap (λ a. answer_state a) (takes_effect src m d c.last no_ident m.scope.start m.conditions.start xs (token_at k q) i c.ends e))

scope_runs : {A V C X Y Z : Type 0} (src : List ℕ) (m : Sections A V C X Y Z) → SectionParsers src m → (ts : List Lexeme) {vs : List Lexeme} {a : Sequence A (Cell Annotation)} {i : Cell Ident} {ys : List (Cell VariableDef)} (l e : Spot) → Comes (policies src m) ts (policy_state section.Effect a i m.scope.start m.conditions.start) →
    ReadsList src (ReadsVariableDef src) vs ys → Comes (policies src m) (ts ++ one kind.OpenParen l ++ vs ++ one kind.CloseParen e) (policy_state section.Conditions a i (sequence ys None) m.conditions.start)
scope_runs src m d ts {vs = vs} {a = a} {i = i} {ys = ys} l e f r =
    let c = d.scope.complete vs ys r in
    let s = Some (policies src m).start in
    then_steps (policies src m) s (Some (policy_state section.Scope a i c.last m.conditions.start)) _ (ts ++ one kind.OpenParen l ++ vs) (one kind.CloseParen e)
    (then_steps (policies src m) s (Some (policy_state section.Scope a i m.scope.start m.conditions.start)) _ (ts ++ one kind.OpenParen l) vs
    (then_steps (policies src m) s (Some (policy_state section.Effect a i m.scope.start m.conditions.start)) _ ts (one kind.OpenParen l) f (ap (λ a. answer_state a) (takes_open src m d a i m.scope.start m.conditions.start l)))
    (held (machine_of src m.scope) (policies src m) (λ q. policy_state section.Scope a i q m.conditions.start) (holds_scope src m d a i m.conditions.start) vs m.scope.start c.last c.goes))
    (ap (λ a. answer_state a) (takes_close src m d a i c.last m.conditions.start ys e c.ends))

-- behind the scope
pub head_runs : {A V C X Y Z : Type 0} (src : List ℕ) (m : Sections A V C X Y Z) → SectionParsers src m → {ts us vs : List Lexeme} {xs : List (Cell Annotation)} {i : Ident} {ys : List (Cell VariableDef)} (l e : Spot) →
    ReadsMany src (ReadsAnnotation src) ts xs → ReadsAny us i → ReadsList src (ReadsVariableDef src) vs ys →
    Comes (policies src m) (ts ++ us ++ one kind.OpenParen l ++ vs ++ one kind.CloseParen e) (conditions_at xs (placed src us i) ys m.conditions.start)
head_runs src m d {ts = ts} {us = us} l e r w v = scope_runs src m d (ts ++ us) l e (effect_runs src m d r w) v

conditions_run : {A V C X Y Z : Type 0} (src : List ℕ) (m : Sections A V C X Y Z) → SectionParsers src m → (ts : List Lexeme) {ws : List Lexeme} {xs : List (Cell Annotation)} {i : Cell Ident} {ys : List (Cell VariableDef)} {zs : List (Cell Cond)} (e : Spot) →
    Comes (policies src m) ts (conditions_at xs i ys m.conditions.start) → ReadsMany src (ReadsCond src) ws zs → Comes (policies src m) (ts ++ ws ++ one kind.Semicolon e) (closed_at xs i ys zs)
conditions_run src m d ts {ws = ws} {xs = xs} {i = i} {ys = ys} {zs = zs} e f r =
    let c = d.conditions.complete ws zs r in
    let s = Some (policies src m).start in
    then_steps (policies src m) s (Some (conditions_at xs i ys c.last)) _ (ts ++ ws) (one kind.Semicolon e)
    (then_steps (policies src m) s (Some (conditions_at xs i ys m.conditions.start)) _ ts ws f
    (held (machine_of src m.conditions) (policies src m) (λ q. conditions_at xs i ys q) (holds_conditions src m d (sequence xs None) i (sequence ys None)) ws m.conditions.start c.last c.goes))
    (ap (λ a. answer_state a) (takes_shut src m d (sequence xs None) i (sequence ys None) c.last zs e c.ends))

policy_complete : {A V C X Y Z : Type 0} (src : List ℕ) (m : Sections A V C X Y Z) → SectionParsers src m → {ts : List Lexeme} {p : Policy} → ReadsPolicy src ts p → RunsTo (policies src m) ts p
policy_complete src m d (loose.policy {ts = ts} {us = us} {vs = vs} {xs = xs} {i = i} {ys = ys} {zs = zs} l n e r w v c) =
    record { last = closed_at xs (placed src us i) ys zs; goes = conditions_run src m d (ts ++ us ++ one kind.OpenParen l ++ vs ++ one kind.CloseParen n) e (head_runs src m d l n r w v) c; ends = refl }

-- ---- sound

pub data PolicyRead {A V C X Y Z : Type 0} (src : List ℕ) (m : Sections A V C X Y Z) : List Lexeme → PolicyOf A V C → Type 0 where
  is_annotated : {ts : List Lexeme} {s : Sequence A (Cell Annotation)} → Comes (machine_of src m.annotations) ts s → PolicyRead src m ts (policy_state section.Annotations s no_ident m.scope.start m.conditions.start)
  is_effect : {ts us : List Lexeme} {xs : List (Cell Annotation)} {i : Ident} → ReadsMany src (ReadsAnnotation src) ts xs → ReadsAny us i → PolicyRead src m (ts ++ us) (policy_state section.Effect (sequence xs None) (placed src us i) m.scope.start m.conditions.start)
  is_scope : {ts us : List Lexeme} {xs : List (Cell Annotation)} {i : Ident} {s : Sequence V (Cell VariableDef)} (l : Spot) (vs : List Lexeme) → ReadsMany src (ReadsAnnotation src) ts xs → ReadsAny us i → Comes (machine_of src m.scope) vs s →
      PolicyRead src m (ts ++ us ++ one kind.OpenParen l ++ vs) (policy_state section.Scope (sequence xs None) (placed src us i) s m.conditions.start)
  is_conditions : {ts us vs : List Lexeme} {xs : List (Cell Annotation)} {i : Ident} {ys : List (Cell VariableDef)} {s : Sequence C (Cell Cond)} (l e : Spot) (ws : List Lexeme) → ReadsMany src (ReadsAnnotation src) ts xs → ReadsAny us i → ReadsList src (ReadsVariableDef src) vs ys →
      Comes (machine_of src m.conditions) ws s → PolicyRead src m (ts ++ us ++ one kind.OpenParen l ++ vs ++ one kind.CloseParen e ++ ws) (conditions_at xs (placed src us i) ys s)
  is_closed : {ts : List Lexeme} {xs : List (Cell Annotation)} {i : Cell Ident} {ys : List (Cell VariableDef)} {zs : List (Cell Cond)} → ReadsPolicy src ts (policy_of xs i ys zs) → PolicyRead src m ts (closed_at xs i ys zs)

abbrev After : {A V C X Y Z : Type 0} → List ℕ → Sections A V C X Y Z → List Lexeme → Answer (PolicyOf A V C) Policy → Type 0
After src m ts a = IfSome (answer_state a) (λ s. PolicyRead src m ts s)

snoc : (ts us : List Lexeme) (t : Lexeme) → ts ++ (us ++ t ∷ []) ≡ ts ++ us ++ t ∷ []
snoc ts us t = simp append_assoc

effect_after : {A V C X Y Z : Type 0} (src : List ℕ) (m : Sections A V C X Y Z) {ts : List Lexeme} {xs : List (Cell Annotation)} (q : Sequence A (Cell Annotation)) → ReadsMany src (ReadsAnnotation src) ts xs → (t : Lexeme) (o : Option Ident) → any_of t.kind t.text ≡ o →
    After src m (ts ++ t ∷ []) (at_effect (policy_state section.Annotations q no_ident m.scope.start m.conditions.start) xs (option_image (λ i. token_node src t i) o))
effect_after src m q r t None e = tt
effect_after src m q r t (Some i) e = is_effect r (any (spot_of t) e)

annotated_after : {A V C X Y Z : Type 0} (src : List ℕ) (m : Sections A V C X Y Z) → SectionParsers src m → (ts : List Lexeme) (s : Sequence A (Cell Annotation)) → Comes (machine_of src m.annotations) ts s → (t : Lexeme) (a : Answer (Sequence A (Cell Annotation)) (List (Cell Annotation))) →
    (machine_of src m.annotations).step s t ≡ a → AnswersRightly t a (m.annotations.finish src s) → After src m (ts ++ t ∷ []) (in_annotations (policy_state section.Annotations s no_ident m.scope.start m.conditions.start) (any_node src t) a)
annotated_after src m d ts s c t (next q) e h = is_annotated (one_more (machine_of src m.annotations) ts s q t c e)
annotated_after src m d ts s c t (ended xs) e h = effect_after src m s (d.annotations.sound ts s xs c h) t (any_of t.kind t.text) refl
annotated_after src m d ts s c t refused e h = tt
annotated_after src m d ts s c t too_large e h = tt

open_after : {A V C X Y Z : Type 0} (src : List ℕ) (m : Sections A V C X Y Z) {ts us : List Lexeme} {xs : List (Cell Annotation)} {i : Ident} → ReadsMany src (ReadsAnnotation src) ts xs → ReadsAny us i → (c : Mark) (k : TokenKind) (p : Spot) → IsMarked c k →
    After src m (ts ++ us ++ one k p) (opening (policy_state section.Effect (sequence xs None) (placed src us i) m.scope.start m.conditions.start) c)
open_after src m {ts = ts} {us = us} {xs = xs} {i = i} r w mark.OpenParen k p open_paren =
    subst (λ ts'. PolicyRead src m ts' (policy_state section.Scope (sequence xs None) (placed src us i) m.scope.start m.conditions.start)) (append-nil (ts ++ us ++ one kind.OpenParen p)) (is_scope p [] r w refl)
open_after src m r w _ k p h = tt

close_after : {A V C X Y Z : Type 0} (src : List ℕ) (m : Sections A V C X Y Z) {ts us vs : List Lexeme} {xs : List (Cell Annotation)} {i : Ident} {ys : List (Cell VariableDef)} (l : Spot) (q : Sequence V (Cell VariableDef)) → ReadsMany src (ReadsAnnotation src) ts xs → ReadsAny us i →
    ReadsList src (ReadsVariableDef src) vs ys → (c : Mark) (k : TokenKind) (p : Spot) → IsMarked c k →
    After src m (ts ++ us ++ one kind.OpenParen l ++ vs ++ one k p) (closing (policy_state section.Scope (sequence xs None) (placed src us i) q m.conditions.start) ys c)
close_after src m {ts = ts} {us = us} {vs = vs} {xs = xs} {i = i} {ys = ys} l q r w v mark.CloseParen k p close_paren =
    subst (λ ts'. PolicyRead src m ts' (conditions_at xs (placed src us i) ys m.conditions.start)) (append-nil (ts ++ us ++ one kind.OpenParen l ++ vs ++ one kind.CloseParen p)) (is_conditions l p [] r w v refl)
close_after src m l q r w v _ k p h = tt

scope_after : {A V C X Y Z : Type 0} (src : List ℕ) (m : Sections A V C X Y Z) → SectionParsers src m → {ts us : List Lexeme} {xs : List (Cell Annotation)} {i : Ident} {s : Sequence V (Cell VariableDef)} (l : Spot) (vs : List Lexeme) → ReadsMany src (ReadsAnnotation src) ts xs → ReadsAny us i →
    Comes (machine_of src m.scope) vs s → (t : Lexeme) (a : Answer (Sequence V (Cell VariableDef)) (List (Cell VariableDef))) → (machine_of src m.scope).step s t ≡ a → AnswersRightly t a (m.scope.finish src s) →
    After src m (ts ++ us ++ one kind.OpenParen l ++ vs ++ t ∷ []) (in_scope (policy_state section.Scope (sequence xs None) (placed src us i) s m.conditions.start) (mark_of t.kind) a)
scope_after src m d {ts = ts} {us = us} {xs = xs} {i = i} {s = s} l vs r w c t (next q) e h =
    subst (λ ts'. PolicyRead src m ts' (policy_state section.Scope (sequence xs None) (placed src us i) q m.conditions.start)) (snoc (ts ++ us ++ one kind.OpenParen l) vs t) (is_scope l (vs ++ t ∷ []) r w (one_more (machine_of src m.scope) vs s q t c e))
scope_after src m d {s = s} l vs r w c t (ended ys) e h = close_after src m l s r w (d.scope.sound vs s ys c h) (mark_of t.kind) t.kind (spot_of t) (marked t.kind)
scope_after src m d l vs r w c t refused e h = tt
scope_after src m d l vs r w c t too_large e h = tt

shut_after : {A V C X Y Z : Type 0} (src : List ℕ) (m : Sections A V C X Y Z) {ts us vs ws : List Lexeme} {xs : List (Cell Annotation)} {i : Ident} {ys : List (Cell VariableDef)} {zs : List (Cell Cond)} (l e : Spot) (q : Sequence C (Cell Cond)) → ReadsMany src (ReadsAnnotation src) ts xs → ReadsAny us i →
    ReadsList src (ReadsVariableDef src) vs ys → ReadsMany src (ReadsCond src) ws zs → (c : Mark) (k : TokenKind) (p : Spot) → IsMarked c k →
    After src m (ts ++ us ++ one kind.OpenParen l ++ vs ++ one kind.CloseParen e ++ ws ++ one k p) (shutting (conditions_at xs (placed src us i) ys q) zs c)
shut_after src m l e q r w v z mark.Semicolon k p semicolon = is_closed (loose.policy l e p r w v z)
shut_after src m l e q r w v z _ k p h = tt

conditions_after : {A V C X Y Z : Type 0} (src : List ℕ) (m : Sections A V C X Y Z) → SectionParsers src m → {ts us vs : List Lexeme} {xs : List (Cell Annotation)} {i : Ident} {ys : List (Cell VariableDef)} {s : Sequence C (Cell Cond)} (l e : Spot) (ws : List Lexeme) →
    ReadsMany src (ReadsAnnotation src) ts xs → ReadsAny us i → ReadsList src (ReadsVariableDef src) vs ys → Comes (machine_of src m.conditions) ws s → (t : Lexeme) (a : Answer (Sequence C (Cell Cond)) (List (Cell Cond))) → (machine_of src m.conditions).step s t ≡ a →
    AnswersRightly t a (m.conditions.finish src s) → After src m (ts ++ us ++ one kind.OpenParen l ++ vs ++ one kind.CloseParen e ++ ws ++ t ∷ []) (in_conditions (conditions_at xs (placed src us i) ys s) (mark_of t.kind) a)
conditions_after src m d {ts = ts} {us = us} {vs = vs} {xs = xs} {i = i} {ys = ys} {s = s} l e ws r w v c t (next q) f h =
    subst (λ ts'. PolicyRead src m ts' (conditions_at xs (placed src us i) ys q)) (snoc (ts ++ us ++ one kind.OpenParen l ++ vs ++ one kind.CloseParen e) ws t) (is_conditions l e (ws ++ t ∷ []) r w v (one_more (machine_of src m.conditions) ws s q t c f))
conditions_after src m d {s = s} l e ws r w v c t (ended zs) f h = shut_after src m l e s r w v (d.conditions.sound ws s zs c h) (mark_of t.kind) t.kind (spot_of t) (marked t.kind)
conditions_after src m d l e ws r w v c t refused f h = tt
conditions_after src m d l e ws r w v c t too_large f h = tt

policy_stays : {A V C X Y Z : Type 0} (src : List ℕ) (m : Sections A V C X Y Z) → SectionParsers src m → (ts : List Lexeme) (s : PolicyOf A V C) (t : Lexeme) → PolicyRead src m ts s → After src m (ts ++ t ∷ []) (policy_step src m s.section s t)
policy_stays src m d ts s t (is_annotated {s = q} c) = annotated_after src m d ts q c t ((machine_of src m.annotations).step q t) refl (d.annotations.answers q t)
policy_stays src m d ts s t (is_effect r w) = open_after src m r w (mark_of t.kind) t.kind (spot_of t) (marked t.kind)
policy_stays src m d ts s t (is_scope {s = q} l vs r w c) = scope_after src m d l vs r w c t ((machine_of src m.scope).step q t) refl (d.scope.answers q t)
policy_stays src m d ts s t (is_conditions {s = q} l e ws r w v c) = conditions_after src m d l e ws r w v c t ((machine_of src m.conditions).step q t) refl (d.conditions.answers q t)
policy_stays src m d ts s t (is_closed r) = tt

policy_keeps : {A V C X Y Z : Type 0} (src : List ℕ) (m : Sections A V C X Y Z) → SectionParsers src m → (ts : List Lexeme) (s : PolicyOf A V C) (t : Lexeme) → PolicyRead src m ts s → After src m (ts ++ t ∷ []) ((policies src m).step s t)
policy_keeps src m d ts s t h = subst (λ a. After src m (ts ++ t ∷ []) a) (sym (policy_told src m d s t)) (policy_stays src m d ts s t h)

pub policy_read : {A V C X Y Z : Type 0} (src : List ℕ) (m : Sections A V C X Y Z) → SectionParsers src m → (ts : List Lexeme) (s : PolicyOf A V C) → Comes (policies src m) ts s → PolicyRead src m ts s
policy_read src m d ts s f = kept (policies src m) (λ ts s. PolicyRead src m ts s) (is_annotated refl) (λ ts s t h. policy_keeps src m d ts s t h) ts s f

policy_sound : {A V C X Y Z : Type 0} (src : List ℕ) (m : Sections A V C X Y Z) {ts : List Lexeme} {s : PolicyOf A V C} (p : Policy) → PolicyRead src m ts s → policy_finish s ≡ Some p → ReadsPolicy src ts p
policy_sound src m p (is_annotated c) e = absurd (cc)
policy_sound src m p (is_effect r w) e = absurd (cc)
policy_sound src m p (is_scope l vs r w c) e = absurd (cc)
policy_sound src m p (is_conditions l e ws r w v c) f = absurd (cc)
policy_sound src m {ts = ts} p (is_closed r) e = subst (λ p. ReadsPolicy src ts p) (some_is e) r

-- ---- viable

conditions_completed : {A V C X Y Z : Type 0} (src : List ℕ) (m : Sections A V C X Y Z) → SectionParsers src m → (a : Sequence A (Cell Annotation)) (i : Cell Ident) (v : Sequence V (Cell VariableDef)) (s : Sequence C (Cell Cond)) → Completed (policies src m) (policy_state section.Conditions a i v s)
conditions_completed src m d a i v s =
    let c = d.conditions.viable s in
    record {
      more = c.more ++ some_token kind.Semicolon ∷ [];
      last = policy_state section.Closed a i v (sequence c.tree None);
      tree = policy_of a.done i v.done c.tree;
      goes = then_steps (policies src m) (Some (policy_state section.Conditions a i v s)) (Some (policy_state section.Conditions a i v c.last)) _ c.more (some_token kind.Semicolon ∷ [])
          (held (machine_of src m.conditions) (policies src m) (λ q. policy_state section.Conditions a i v q) (holds_conditions src m d a i v) c.more s c.last c.goes) (ap (λ a. answer_state a) (takes_shut src m d a i v c.last c.tree (spot_of (some_token kind.Semicolon)) c.ends));
      ends = refl;
    }

scope_completed : {A V C X Y Z : Type 0} (src : List ℕ) (m : Sections A V C X Y Z) → SectionParsers src m → (a : Sequence A (Cell Annotation)) (i : Cell Ident) (s : Sequence V (Cell VariableDef)) (c : Sequence C (Cell Cond)) → Completed (policies src m) (policy_state section.Scope a i s c)
scope_completed src m d a i s z =
    let c = d.scope.viable s in
    let h = conditions_completed src m d a i (sequence c.tree None) z in
    record {
      more = c.more ++ some_token kind.CloseParen ∷ h.more;
      last = h.last;
      tree = h.tree;
      goes = then_steps (policies src m) (Some (policy_state section.Scope a i s z)) (Some (policy_state section.Scope a i c.last z)) _ c.more (some_token kind.CloseParen ∷ h.more)
          (held (machine_of src m.scope) (policies src m) (λ q. policy_state section.Scope a i q z) (holds_scope src m d a i z) c.more s c.last c.goes)
          (ap (λ a. steps (policies src m) (answer_state a) h.more) (takes_close src m d a i c.last z c.tree (spot_of (some_token kind.CloseParen)) c.ends) ∙ h.goes);
      ends = h.ends;
    }

effect_completed : {A V C X Y Z : Type 0} (src : List ℕ) (m : Sections A V C X Y Z) → SectionParsers src m → (a : Sequence A (Cell Annotation)) (i : Cell Ident) (v : Sequence V (Cell VariableDef)) (c : Sequence C (Cell Cond)) → Completed (policies src m) (policy_state section.Effect a i v c)
effect_completed src m d a i v c =
    let h = scope_completed src m d a i v c in
    record {
      more = some_token kind.OpenParen ∷ h.more;
      last = h.last;
      tree = h.tree;
      goes = ap (λ a. steps (policies src m) (answer_state a) h.more) (takes_open src m d a i v c (spot_of (some_token kind.OpenParen))) ∙ h.goes;
      ends = h.ends;
    }

annotated_completed : {A V C X Y Z : Type 0} (src : List ℕ) (m : Sections A V C X Y Z) → SectionParsers src m → (s : Sequence A (Cell Annotation)) (i : Cell Ident) (v : Sequence V (Cell VariableDef)) (c : Sequence C (Cell Cond)) → Completed (policies src m) (policy_state section.Annotations s i v c)
annotated_completed src m d s i v z =
    let c = d.annotations.viable s in
    let h = effect_completed src m d (sequence c.tree None) (token_node src (some_token kind.Identifier) (ident.Ident [])) v z in
    record {
      more = c.more ++ some_token kind.Identifier ∷ h.more;
      last = h.last;
      tree = h.tree;
      goes = then_steps (policies src m) (Some (policy_state section.Annotations s i v z)) (Some (policy_state section.Annotations c.last i v z)) _ c.more (some_token kind.Identifier ∷ h.more)
          (held (machine_of src m.annotations) (policies src m) (λ q. policy_state section.Annotations q i v z) (holds_annotations src m d i v z) c.more s c.last c.goes)
          (ap (λ a. steps (policies src m) (answer_state a) h.more) (takes_effect src m d c.last i v z c.tree (some_token kind.Identifier) (ident.Ident []) c.ends refl) ∙ h.goes);
      ends = h.ends;
    }

policy_viable : {A V C X Y Z : Type 0} (src : List ℕ) (m : Sections A V C X Y Z) → SectionParsers src m → (s : PolicyOf A V C) → Completed (policies src m) s
policy_viable {A = A} {V = V} {C = C} src m d s = go s.section s.annotations s.effect s.scope s.conditions
  where
    go : (n : Section) (a : Sequence A (Cell Annotation)) (i : Cell Ident) (v : Sequence V (Cell VariableDef)) (c : Sequence C (Cell Cond)) → Completed (policies src m) (policy_state n a i v c)
    go section.Annotations a i v c = annotated_completed src m d a i v c
    go section.Effect a i v c = effect_completed src m d a i v c
    go section.Scope a i v c = scope_completed src m d a i v c
    go section.Conditions a i v c = conditions_completed src m d a i v c
    go section.Closed a i v c = record { more = []; last = policy_state section.Closed a i v c; tree = policy_of a.done i v.done c.done; goes = refl; ends = refl }

-- ---- answers rightly

effect_answers : {A V C : Type 0} (src : List ℕ) (s : PolicyOf A V C) (xs : List (Cell Annotation)) (t : Lexeme) (o : Option Ident) → any_of t.kind t.text ≡ o → AnswersRightly t (at_effect s xs (option_image (λ i. token_node src t i) o)) None
effect_answers src s xs t None e = refl
effect_answers src s xs t (Some i) e = word_fits t i e

annotated_answers : {A V C : Type 0} (src : List ℕ) (s : PolicyOf A V C) (t : Lexeme) (a : Answer (Sequence A (Cell Annotation)) (List (Cell Annotation))) (o : Option (List (Cell Annotation))) → AnswersRightly t a o → AnswersRightly t (in_annotations s (any_node src t) a) None
annotated_answers src s t (next q) o h = h
annotated_answers src s t (ended xs) o h = effect_answers src s xs t (any_of t.kind t.text) refl
annotated_answers src s t refused o h = refl
annotated_answers src s t too_large o h = h

open_answers : {A V C : Type 0} (s : PolicyOf A V C) (t : Lexeme) (c : Mark) → mark_of t.kind ≡ c → AnswersRightly t (opening s c) None
open_answers s t mark.OpenParen h = marked_fits t mark.OpenParen h refl
open_answers s t _ h = refl

close_answers : {A V C : Type 0} (s : PolicyOf A V C) (ys : List (Cell VariableDef)) (t : Lexeme) (c : Mark) → mark_of t.kind ≡ c → AnswersRightly t (closing s ys c) None
close_answers s ys t mark.CloseParen h = marked_fits t mark.CloseParen h refl
close_answers s ys t _ h = refl

scope_answers : {A V C : Type 0} (s : PolicyOf A V C) (t : Lexeme) (a : Answer (Sequence V (Cell VariableDef)) (List (Cell VariableDef))) (o : Option (List (Cell VariableDef))) → AnswersRightly t a o → AnswersRightly t (in_scope s (mark_of t.kind) a) None
scope_answers s t (next q) o h = h
scope_answers s t (ended ys) o h = close_answers s ys t (mark_of t.kind) refl
scope_answers s t refused o h = refl
scope_answers s t too_large o h = h

shut_answers : {A V C : Type 0} (s : PolicyOf A V C) (zs : List (Cell Cond)) (t : Lexeme) (c : Mark) → mark_of t.kind ≡ c → AnswersRightly t (shutting s zs c) None
shut_answers s zs t mark.Semicolon h = marked_fits t mark.Semicolon h refl
shut_answers s zs t _ h = refl

conditions_answers : {A V C : Type 0} (s : PolicyOf A V C) (t : Lexeme) (a : Answer (Sequence C (Cell Cond)) (List (Cell Cond))) (o : Option (List (Cell Cond))) → AnswersRightly t a o → AnswersRightly t (in_conditions s (mark_of t.kind) a) None
conditions_answers s t (next q) o h = h
conditions_answers s t (ended zs) o h = shut_answers s zs t (mark_of t.kind) refl
conditions_answers s t refused o h = refl
conditions_answers s t too_large o h = h

step_answers : {A V C X Y Z : Type 0} (src : List ℕ) (m : Sections A V C X Y Z) → SectionParsers src m → (n : Section) (s : PolicyOf A V C) (t : Lexeme) → AnswersRightly t (policy_step src m n s t) (finished_policy n s)
step_answers src m d section.Annotations s t = annotated_answers src s t ((machine_of src m.annotations).step s.annotations t) (m.annotations.finish src s.annotations) (d.annotations.answers s.annotations t)
step_answers src m d section.Effect s t = open_answers s t (mark_of t.kind) refl
step_answers src m d section.Scope s t = scope_answers s t ((machine_of src m.scope).step s.scope t) (m.scope.finish src s.scope) (d.scope.answers s.scope t)
step_answers src m d section.Conditions s t = conditions_answers s t ((machine_of src m.conditions).step s.conditions t) (m.conditions.finish src s.conditions) (d.conditions.answers s.conditions t)
step_answers src m d section.Closed s t = refl

pub policy_parser : {A V C X Y Z : Type 0} (src : List ℕ) (m : Sections A V C X Y Z) → SectionParsers src m → IsParser (policies src m) (ReadsPolicy src)
policy_parser src m d = record {
  complete = λ ts p r. policy_complete src m d r;
  sound = λ ts s p f e. policy_sound src m p (policy_read src m d ts s f) e;
  viable = policy_viable src m d;
  answers = λ s t. subst (λ a. AnswersRightly t a (policy_finish s)) (sym (policy_told src m d s t)) (step_answers src m d s.section s t);
}

-- ---- where one ends

pub policy_ends : {A V C X Y Z : Type 0} (src : List ℕ) (m : Sections A V C X Y Z) (P : Lexeme → Type 0) → EndsAt (policies src m) P
policy_ends {A = A} {V = V} {C = C} src m P s p t h e = go s.section s.annotations s.effect s.scope s.conditions e
  where
    go : (n : Section) (a : Sequence A (Cell Annotation)) (i : Cell Ident) (v : Sequence V (Cell VariableDef)) (c : Sequence C (Cell Cond)) → finished_policy n (policy_state n a i v c) ≡ Some p → (policies src m).step (policy_state n a i v c) t ≡ ended p
    go section.Annotations a i v c e = absurd (cc)
    go section.Effect a i v c e = absurd (cc)
    go section.Scope a i v c e = absurd (cc)
    go section.Conditions a i v c e = absurd (cc)
    go section.Closed a i v c e = ap (λ p. ended p) (some_is e)
