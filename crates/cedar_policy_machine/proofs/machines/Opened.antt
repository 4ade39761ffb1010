-- In a condition's braces: the states of one policy there, and the tokens that lead to them.
use Rattle.std.proofs.Common.{◌≡◌, ℕ, List, [], ◌∷◌, ◌++◌, Option, Some, None, refl, sym, ◌∙◌, ap, subst, append_assoc}
use Rattle.std.proofs.lemmas.List.{append-nil}
use Rattle.cedar_lexer.specs.Token.{Lexeme}
use Rattle.cedar_lexer.specs.declared.token.TokenKind.TheVariants as kind
use Rattle.cedar_syntax.specs.declared.cst.Expr.{Expr}
use Rattle.cedar_syntax.specs.declared.cst.Ident.{Ident}
use Rattle.cedar_syntax.specs.declared.cst.Annotation.{Annotation}
use Rattle.cedar_syntax.specs.declared.cst.VariableDef.{VariableDef}
use Rattle.cedar_syntax.specs.declared.cst.Cond.{Cond}
use Rattle.cedar_grammar.specs.declared.reading.extent.Extent.{Extent}
use Rattle.cedar_policy_machine.specs.declared.condition.ConditionState.{ConditionState}
use Rattle.cedar_policy_machine.specs.declared.condition.ConditionPart.TheVariants as part
use Rattle.cedar_grammar.specs.declared.reading.recovery.RecoveryWay.{RecoveryWay}
use Rattle.cedar_grammar.specs.declared.reading.recovery.RecoveryWay.TheVariants as way
use Rattle.cedar_policy_machine.specs.declared.sequence.SpannedState.{SpannedState}
use Rattle.cedar_syntax.specs.tokens.Tokens.{Spot, one}
use Rattle.cedar_grammar.specs.grammar.Place.{joint_extent, extent, placed}
use Rattle.cedar_syntax.specs.trees.Trees.{Cell}
use Rattle.cedar_grammar.specs.grammar.LooseWords.{ReadsAny, any}
use Rattle.cedar_grammar.specs.grammar.LooseExpressions.{ReadsExpr}
use Rattle.cedar_grammar.specs.grammar.LoosePolicies.{ReadsBody, no_body, body, ReadsCond}
use Rattle.cedar_grammar.specs.faults.Mended.{OpenPolicy, open_policy}
use Rattle.cedar_grammar.specs.grammar.Sentences.{HasTree, Starts}
use Rattle.cedar_grammar.specs.machines.Machine.{Machine, answer_state, steps, Comes, IsParser, Reader, machine_of}
use Rattle.cedar_policy_machine.specs.machines.Placing.{AsNode, as_node, spanned_state, placing_reader, placing}
use Rattle.cedar_policy_machine.specs.machines.Sequences.{sequence, many}
use Rattle.cedar_policy_machine.specs.machines.Scope.{PartReaders}
use Rattle.cedar_policy_machine.specs.machines.Condition.{condition_state, condition_reader, conditions}
use Rattle.cedar_policy_machine.specs.machines.Policy.{policy_reader, policies}
use Rattle.cedar_policy_machine.specs.machines.Policies.{ConditionsState, OnePolicy, SpannedPolicy, sections, policy_machine, condition_way, begun_condition_way, policy_way}
use Rattle.cedar_grammar.proofs.machines.Laws.{then_steps, starts_from, comes}
use Rattle.cedar_grammar.proofs.machines.Holding.{held, entered}
use Rattle.cedar_grammar.proofs.machines.Ending.{Begins, token_at}
use Rattle.cedar_grammar.proofs.machines.Rightly.{EndsRightly}
use Rattle.cedar_policy_machine.proofs.machines.Placing.{forth, back, placed_right, placed_ends}
use Rattle.cedar_policy_machine.proofs.machines.Sequences.{item_at, many_holds, many_next, ManyRead, is_between, is_begun, many_read}
use Rattle.cedar_policy_machine.proofs.machines.Condition.{holds_body, enters_body, body_runs, opened, ConditionRead, is_start, is_word, is_opened, is_body, is_closed, condition_read, condition_right, condition_ends_at}
use Rattle.cedar_policy_machine.proofs.machines.Policy.{SectionParsers, conditions_at, holds_conditions, head_runs, PolicyRead, is_annotated, is_effect, is_scope, is_conditions, policy_read}
use Rattle.cedar_policy_machine.proofs.machines.Policy as read
use Rattle.cedar_policy_machine.proofs.machines.Policies.{Grounds, section_parsers, conditions_right, one_condition_parser}

-- one condition

abbrev pub one_condition : {E C : Type 0} → List ℕ → Reader E C (Cell Expr) → Machine Lexeme (SpannedState (ConditionState E)) (Cell Cond)
one_condition src e = placing src (condition_reader e)

-- in braces: where a condition may stand, its word and brace have been read
record Braces {E C : Type 0} (src : List ℕ) (m : Reader E C (Cell Expr)) (last : ConditionsState E) (zs : List (Cell Cond)) (ws : List Lexeme) (l : Spot) (i : Cell Ident) : Type 0 where
  span : Option Extent
  goes : steps (many src (placing_reader (condition_reader m))) (Some last) (ws ++ one kind.OpenBrace l) ≡ Some (item_at zs (spanned_state span (condition_state i part.Opened)))

braces_run : {E C : Type 0} (src : List ℕ) (m : Reader E C (Cell Expr)) (last : ConditionsState E) (zs : List (Cell Cond)) → (many src (placing_reader (condition_reader m))).finish last ≡ Some zs → {ws : List Lexeme} {i : Ident} (l : Spot) → ReadsAny ws i →
    Braces src m last zs ws l (placed src ws i)
braces_run src m last zs e l (any {k = k} {i = i} q w) =
    let n = one_condition src m in
    let p = placing_reader (condition_reader m) in
    let r : EndsRightly src (placing_reader (condition_reader m)) = placed_right src (condition_reader m) (condition_right src m) in
    let t = token_at k q in
    record {
      span = extent (one k q ++ one kind.OpenBrace l);
      goes = entered n (many src p) (λ s. item_at zs s) (many_holds src p r zs) last t
          (λ s h. many_next src p r (placed_ends src (condition_reader m) (Begins n) (condition_ends_at src m (Begins n))) last zs e t s h)
          (one kind.OpenBrace l) (spanned_state (extent (one k q ++ one kind.OpenBrace l)) (condition_state (placed src (one k q) i) part.Opened))
          (forth src (condition_reader m) None (conditions src m).start (condition_state (placed src (one k q) i) part.Opened) (one k q ++ one kind.OpenBrace l) (opened src m l (any q w)));
    }

-- what stands in them
record BodyBegun {E C : Type 0} (src : List ℕ) (m : Reader E C (Cell Expr)) (i : Cell Ident) (vs : List Lexeme) : Type 0 where
  state : ConditionState E
  goes : steps (conditions src m) (Some (condition_state i part.Opened)) vs ≡ Some state
  is : condition_way state.part ≡ way.ToBrace

expression_starts : {src : List ℕ} (t : Lexeme) (ts more us : List Lexeme) {x : Option (Cell Expr)} → ReadsBody src us x → us ≡ (t ∷ ts) ++ more → Starts (AsNode src (ReadsExpr src)) (t ∷ ts)
expression_starts t ts more us no_body e = absurd (nothing e)
  where
    nothing : {t : Lexeme} {ts : List Lexeme} → [] ≡ t ∷ ts → ⊥
    nothing e = cc
expression_starts {src = src} t ts more us (body {x = x} r) e = (more, (placed src ((t ∷ ts) ++ more) x, as_node (subst (λ us. ReadsExpr src us x) e r)))

body_begun : {E C : Type 0} (src : List ℕ) (m : Reader E C (Cell Expr)) → IsParser (machine_of src m) (AsNode src (ReadsExpr src)) → (i : Cell Ident) (vs : List Lexeme) → Starts (ReadsBody src) vs → BodyBegun src m i vs
body_begun src m d i [] h = record { state = condition_state i part.Opened; goes = refl; is = refl }
body_begun src m d i (t ∷ ts) h =
    let c = comes d (t ∷ ts) (expression_starts t ts h.0 ((t ∷ ts) ++ h.0) h.1.1 refl) in
    record { state = condition_state i (part.Body c.0); goes = entered (machine_of src m) (conditions src m) (λ q. condition_state i (part.Body q)) (holds_body src m i) (condition_state i part.Opened) t (λ q w. enters_body src m i t q w) ts c.0 c.1; is = refl }

-- one policy

-- a state of one policy that holds the state of a condition
abbrev pub with_condition : {N S E : Type 0} → List (Cell Annotation) → Cell Ident → List (Cell VariableDef) → List (Cell Cond) → Option Extent → ConditionState E → OnePolicy N S E
with_condition xs i ys zs e c = conditions_at xs i ys (item_at zs (spanned_state e c))

-- behind an open policy, a word and a brace
record PolicyBraces {N S E A B C : Type 0} (src : List ℕ) (m : PartReaders N S E A B C) (ts : List Lexeme) (w : Cell Ident) : Type 0 where
  xs : List (Cell Annotation)
  effect : Cell Ident
  ys : List (Cell VariableDef)
  zs : List (Cell Cond)
  span : Option Extent
  goes : Comes (policies src (sections m)) ts (with_condition xs effect ys zs span (condition_state w part.Opened))

policy_braces : {N S E A B C : Type 0} (src : List ℕ) (m : PartReaders N S E A B C) → Grounds src m → {ts us : List Lexeme} {i : Ident} (l : Spot) → OpenPolicy src ts → ReadsAny us i → PolicyBraces src m (ts ++ us ++ one kind.OpenBrace l) (placed src us i)
policy_braces src m g {us = es} {i = j} l (open_policy {ts = ts} {us = us} {vs = vs} {ws = ws} {xs = xs} {i = i} {ys = ys} {zs = zs} p q r w v c) a =
    let d = section_parsers src m g in
    let n = policies src (sections m) in
    let s = machine_of src (sections m).conditions in
    let h = d.conditions.complete ws zs c in
    let b = braces_run src m.expression h.last zs h.ends l a in
    let before = ts ++ us ++ one kind.OpenParen p ++ vs ++ one kind.CloseParen q in
    record {
      xs = xs;
      effect = placed src us i;
      ys = ys;
      zs = zs;
      span = b.span;
      goes = subst (λ ts. Comes n ts (with_condition xs (placed src us i) ys zs b.span (condition_state (placed src es j) part.Opened))) (assoc (before ++ ws) es (one kind.OpenBrace l))
          (then_steps n (Some n.start) (Some (conditions_at xs (placed src us i) ys h.last)) _ (before ++ ws) (es ++ one kind.OpenBrace l)
          (then_steps n (Some n.start) _ _ before ws (head_runs src (sections m) d p q r w v)
          (held s n (λ q. conditions_at xs (placed src us i) ys q) (holds_conditions src (sections m) d (sequence xs None) (placed src us i) (sequence ys None)) ws s.start h.last h.goes))
          (held s n (λ q. conditions_at xs (placed src us i) ys q) (holds_conditions src (sections m) d (sequence xs None) (placed src us i) (sequence ys None)) (es ++ one kind.OpenBrace l) h.last (item_at zs (spanned_state b.span (condition_state (placed src es j) part.Opened))) b.goes));
    }
  where
    assoc : (ts us vs : List Lexeme) → ts ++ (us ++ vs) ≡ ts ++ us ++ vs
    assoc ts us vs = sym (append_assoc ts us vs)

-- what the condition takes there, the policy takes
lifted : {N S E A B C : Type 0} (src : List ℕ) (m : PartReaders N S E A B C) → Grounds src m → (xs : List (Cell Annotation)) (i : Cell Ident) (ys : List (Cell VariableDef)) (zs : List (Cell Cond)) (e : Option Extent) (ts : List Lexeme) (s q : ConditionState E) →
    steps (conditions src m.expression) (Some s) ts ≡ Some q → steps (policies src (sections m)) (Some (with_condition xs i ys zs e s)) ts ≡ Some (with_condition xs i ys zs (joint_extent e (extent ts)) q)
lifted src m g xs i ys zs e ts s q h =
    let n = one_condition src m.expression in
    let p = placing_reader (condition_reader m.expression) in
    held (machine_of src (sections m).conditions) (policies src (sections m)) (λ q. conditions_at xs i ys q) (holds_conditions src (sections m) (section_parsers src m g) (sequence xs None) i (sequence ys None)) ts (item_at zs (spanned_state e s)) (item_at zs (spanned_state (joint_extent e (extent ts)) q))
    (held n (many src p) (λ s. item_at zs s) (many_holds src p (conditions_right src m) zs) ts (spanned_state e s) (spanned_state (joint_extent e (extent ts)) q) (forth src (condition_reader m.expression) e s q ts h))

-- the state of one policy, as a node
pub record At {N S E A B C : Type 0} (src : List ℕ) (m : PartReaders N S E A B C) (ts : List Lexeme) (P : OnePolicy N S E → Type 0) : Type 0 where
  pub state : SpannedPolicy N S E
  pub comes : Comes (policy_machine src m) ts state
  pub is : P state.state

placed_at : {N S E A B C : Type 0} (src : List ℕ) (m : PartReaders N S E A B C) (ts : List Lexeme) (s : OnePolicy N S E) (P : OnePolicy N S E → Type 0) → Comes (policies src (sections m)) ts s → P s → At src m ts P
placed_at src m ts s P c p = record { state = spanned_state (extent ts) s; comes = forth src (policy_reader (sections m)) None (policies src (sections m)).start s ts c; is = p }

-- with a beginning of a body in braces
pub in_body : {N S E A B C : Type 0} (src : List ℕ) (m : PartReaders N S E A B C) → Grounds src m → {ts us : List Lexeme} {i : Ident} (vs : List Lexeme) (l : Spot) → OpenPolicy src ts → ReadsAny us i → Starts (ReadsBody src) vs →
    At src m (ts ++ us ++ one kind.OpenBrace l ++ vs) (λ s. (w : RecoveryWay) → policy_way w s ≡ way.ToBrace)
in_body src m g {ts = ts} {us = us} {i = i} vs l o a h =
    let b = policy_braces src m g l o a in
    let c = body_begun src m.expression g.parts.expression (placed src us i) vs h in
    let n = policies src (sections m) in
    placed_at src m (ts ++ us ++ one kind.OpenBrace l ++ vs) (with_condition b.xs b.effect b.ys b.zs (joint_extent b.span (extent vs)) c.state) (λ s. (w : RecoveryWay) → policy_way w s ≡ way.ToBrace)
    (then_steps n (Some n.start) _ _ (ts ++ us ++ one kind.OpenBrace l) vs b.goes (lifted src m g b.xs b.effect b.ys b.zs b.span vs (condition_state (placed src us i) part.Opened) c.state c.goes)) (λ w. c.is)

-- what follows the closing brace
pub data IsClosed {N S E : Type 0} : OnePolicy N S E → Type 0 where
  closed : (xs : List (Cell Annotation)) (i : Cell Ident) (ys : List (Cell VariableDef)) (zs : List (Cell Cond)) (e : Option Extent) (w : Cell Ident) (x : Option (Cell Expr)) → IsClosed (with_condition xs i ys zs e (condition_state w (part.Closed x)))

-- with an empty body
pub behind_brace : {N S E A B C : Type 0} (src : List ℕ) (m : PartReaders N S E A B C) → Grounds src m → {ts us : List Lexeme} {i : Ident} (l e : Spot) → OpenPolicy src ts → ReadsAny us i →
    At src m (ts ++ us ++ one kind.OpenBrace l ++ one kind.CloseBrace e) (λ s. IsClosed s)
behind_brace src m g {ts = ts} {us = us} {i = i} l e o a =
    let b = policy_braces src m g l o a in
    let c = body_runs src m.expression g.parts.expression g.behind_body g.parts.expression_right (placed src us i) no_body in
    let n = policies src (sections m) in
    let vs = one kind.CloseBrace e in
    placed_at src m (ts ++ us ++ one kind.OpenBrace l ++ vs) (with_condition b.xs b.effect b.ys b.zs (joint_extent b.span (extent vs)) (condition_state (placed src us i) (part.Closed None))) (λ s. IsClosed s)
    (then_steps n (Some n.start) _ _ (ts ++ us ++ one kind.OpenBrace l) vs b.goes
    (lifted src m g b.xs b.effect b.ys b.zs b.span vs (condition_state (placed src us i) part.Opened) (condition_state (placed src us i) (part.Closed None)) (then_steps (conditions src m.expression) (Some (condition_state (placed src us i) part.Opened)) _ _ [] vs c.goes (ap (λ a. answer_state a) (c.closes e)))))
    (closed b.xs b.effect b.ys b.zs (joint_extent b.span (extent vs)) (placed src us i) None)

-- and back: the tokens that end in braces

pub record OpenTokens (src : List ℕ) (ts : List Lexeme) : Type 0 where
  pub before : List Lexeme
  pub word : List Lexeme
  pub ident : Ident
  pub brace : Spot
  pub body : List Lexeme
  pub stands : OpenPolicy src before
  pub reads : ReadsAny word ident
  pub starts : Starts (ReadsBody src) body
  pub is : before ++ word ++ one kind.OpenBrace brace ++ body ≡ ts

body_of : {E C : Type 0} (src : List ℕ) (m : Reader E C (Cell Expr)) → IsParser (machine_of src m) (AsNode src (ReadsExpr src)) → (ts : List Lexeme) (s : E) → Comes (machine_of src m) ts s → Starts (ReadsBody src) ts
body_of src m d ts s c = let h = starts_from d ts s c in (h.0, some (ts ++ h.0) h.1.0 h.1.1)
  where
    some : (us : List Lexeme) (x : Cell Expr) → AsNode src (ReadsExpr src) us x → HasTree (ReadsBody src) us
    some us x (as_node {x = y} r) = (_, body r)

-- the tokens of a condition that is open
record OpenCondition (src : List ℕ) (ts : List Lexeme) : Type 0 where
  word : List Lexeme
  ident : Ident
  brace : Spot
  body : List Lexeme
  reads : ReadsAny word ident
  starts : Starts (ReadsBody src) body
  is : word ++ one kind.OpenBrace brace ++ body ≡ ts

condition_open : {E C : Type 0} (src : List ℕ) (m : Reader E C (Cell Expr)) → IsParser (machine_of src m) (AsNode src (ReadsExpr src)) → {ts : List Lexeme} {s : ConditionState E} → ConditionRead src m ts s → condition_way s.part ≡ way.ToBrace → OpenCondition src ts
condition_open src m d is_start e = absurd (cc)
condition_open src m d (is_word a) e = absurd (cc)
condition_open src m d (is_opened {ts = ts} {i = i} l a) e = record { word = ts; ident = i; brace = l; body = []; reads = a; starts = ([], (None, no_body)); is = append-nil (ts ++ one kind.OpenBrace l) }
condition_open src m d (is_body {ts = ts} {i = i} {s = s} l us a c) e = record { word = ts; ident = i; brace = l; body = us; reads = a; starts = body_of src m d us s c; is = refl }
condition_open src m d (is_closed l n us a r) e = absurd (cc)

open_tokens : {N S E A B C : Type 0} (src : List ℕ) (m : PartReaders N S E A B C) → Grounds src m → (w : RecoveryWay) → (w ≡ way.ToBrace → ⊥) → {ts : List Lexeme} {s : OnePolicy N S E} → PolicyRead src (sections m) ts s → policy_way w s ≡ way.ToBrace → OpenTokens src ts
open_tokens src m g w h (is_annotated c) e = absurd (cc)
open_tokens src m g w h (is_effect r a) e = absurd (cc)
open_tokens src m g w h (is_scope l vs r a c) e = absurd (cc)
open_tokens {E = E} src m g w h (is_conditions {ts = ts} {us = us} {vs = vs} {s = s} l p ws r a v c) e =
    from_read (many_read src (placing_reader (condition_reader m.expression)) (ReadsCond src) (one_condition_parser src m g) (conditions_right src m) ws s c) e
  where
    before : List Lexeme
    before = ts ++ us ++ one kind.OpenParen l ++ vs ++ one kind.CloseParen p

    assoc : (ts us vs ws as_body : List Lexeme) → ts ++ us ++ vs ++ ws ++ as_body ≡ ts ++ (us ++ (vs ++ ws ++ as_body))
    assoc ts us vs ws as_body = simp append_assoc

    from_read : {ws : List Lexeme} {s : ConditionsState E} → ManyRead src (one_condition src m.expression) (ReadsCond src) ws s → begun_condition_way s.begun ≡ way.ToBrace → OpenTokens src (before ++ ws)
    from_read (is_between z) e = absurd (cc)
    from_read (is_begun {ts = cs} us {s = q} z c) e =
        let b = back src (condition_reader m.expression) None (conditions src m.expression).start us q c in
        let o = condition_open src m.expression g.parts.expression (condition_read src m.expression g.parts.expression g.parts.expression_right us q.state b.goes) e in
        record {
          before = before ++ cs;
          word = o.word;
          ident = o.ident;
          brace = o.brace;
          body = o.body;
          stands = open_policy l p r a v z;
          reads = o.reads;
          starts = o.starts;
          is = assoc before cs o.word (one kind.OpenBrace o.brace) o.body ∙ ap (λ us. before ++ (cs ++ us)) o.is;
        }
open_tokens src m g w h (read.is_closed r) e = absurd (h e)

pub opened_by : {N S E A B C : Type 0} (src : List ℕ) (m : PartReaders N S E A B C) → Grounds src m → (w : RecoveryWay) → (w ≡ way.ToBrace → ⊥) → (ts : List Lexeme) (s : SpannedPolicy N S E) → Comes (policy_machine src m) ts s → policy_way w s.state ≡ way.ToBrace → OpenTokens src ts
opened_by src m g w h ts s c e =
    let b = back src (policy_reader (sections m)) None (policies src (sections m)).start ts s c in
    open_tokens src m g w h (policy_read src (sections m) (section_parsers src m g) ts s.state b.goes) e
