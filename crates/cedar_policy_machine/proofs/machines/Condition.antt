-- The machine of conditions is a parser, since the machine of expressions is one that it
-- holds. Nothing here knows which machine that is.
use Rattle.std.proofs.Common.{◌≡◌, ℕ, List, [], ◌∷◌, ◌++◌, Option, Some, None, Bool, true, false, refl, sym, ◌∙◌, ap, subst, append_assoc, IfSome}
use Rattle.std.proofs.lemmas.List.{append-nil}
use Rattle.cedar_lexer.specs.Token.{Lexeme}
use Rattle.cedar_lexer.specs.declared.token.TokenKind.{TokenKind}
use Rattle.cedar_lexer.specs.declared.token.TokenKind.TheVariants as kind
use Rattle.cedar_syntax.specs.declared.cst.Expr.{Expr}
use Rattle.cedar_syntax.specs.declared.cst.Ident.{Ident}
use Rattle.cedar_syntax.specs.declared.cst.Ident.TheVariants as ident
use Rattle.cedar_syntax.specs.declared.cst.Cond.{Cond}
use Rattle.cedar_policy_machine.specs.declared.condition.ConditionState.{ConditionState}
use Rattle.cedar_policy_machine.specs.declared.condition.ConditionPart.{ConditionPart}
use Rattle.cedar_policy_machine.specs.declared.condition.ConditionPart.TheVariants as part
use Rattle.cedar_policy_machine.specs.declared.condition.ConditionAct.{ConditionAct}
use Rattle.cedar_policy_machine.specs.declared.condition.ConditionAct.TheVariants as act
use Rattle.cedar_syntax.specs.tokens.Tokens.{Spot, one, any_of}
use Rattle.cedar_grammar.specs.grammar.Place.{placed}
use Rattle.cedar_syntax.specs.trees.Trees.{Cell, cond_of}
use Rattle.cedar_grammar.specs.grammar.LooseWords.{ReadsAny, any}
use Rattle.cedar_grammar.specs.grammar.LooseExpressions.{ReadsExpr}
use Rattle.cedar_grammar.specs.grammar.LoosePolicies.{ReadsBody, no_body, body, ReadsCond, cond}
use Rattle.cedar_grammar.specs.machines.Machine.{Answer, next, ended, refused, answer_state, steps, Comes, RunsTo, Completed, IsParser, IsOutside, Reader, machine_of, IsDone, option_image, is_some}
use Rattle.cedar_policy_machine.specs.machines.Placing.{AsNode, as_node}
use Rattle.cedar_grammar.specs.machines.SingleTokens.{token_node, if_any}
use Rattle.cedar_policy_machine.specs.machines.Condition.{condition_state, brace_plan, empty_plan, opened_plan, close_plan, body_plan, condition_plan, body_going, condition_act, condition_ends, finished_condition, condition_finish, condition_reader, conditions}
use Rattle.cedar_grammar.proofs.machines.ByActs.{keeps}
use Rattle.cedar_grammar.proofs.machines.Laws.{some_is, then_steps, some_token}
use Rattle.cedar_grammar.proofs.machines.Holding.{Holds, held, entered, one_more}
use Rattle.cedar_grammar.proofs.machines.Readers.{takes, taken_by, ended_by, refused_by, leaves_tree, leaves_none}
use Rattle.cedar_grammar.proofs.machines.Ending.{EndsAt, Refuses, IsKind, spot_of, token_at}
use Rattle.cedar_policy_machine.proofs.machines.Annotation.{word_node_is, word_made, word_kept, word_does}
use Rattle.cedar_grammar.proofs.machines.Rightly.{EndsRightly, DoesRightly, can_end, has_tree, does_by, answers_from, image_done, image_kept}
use Rattle.cedar_grammar.proofs.machines.SingleTokens.{planned_any, any_case}

-- ---- what the condition does while its body goes on, and behind it

pub holds_body : {E C : Type 0} (src : List ℕ) (e : Reader E C (Cell Expr)) (i : Cell Ident) → Holds (machine_of src e) (conditions src e) (λ q. condition_state i (part.Body q))
holds_body src e i q r t w =
    let h = taken_by src e q r t w in
    takes src (condition_reader e) (condition_state i (part.Body q)) (condition_state i (part.Body r)) (act.Body h.what) t (ap (λ o. body_plan o (e.ends q) t.kind) h.planned) (ap (λ o. body_going (condition_state i (part.Body q)) o) h.made)

pub enters_body : {E C : Type 0} (src : List ℕ) (e : Reader E C (Cell Expr)) (i : Cell Ident) (t : Lexeme) (q : E) → (machine_of src e).step e.start t ≡ next q → (conditions src e).step (condition_state i part.Opened) t ≡ next (condition_state i (part.Body q))
enters_body src e i t q w =
    let h = taken_by src e e.start q t w in
    takes src (condition_reader e) (condition_state i part.Opened) (condition_state i (part.Body q)) (act.First h.what) t (ap (λ o. opened_plan o t.kind) h.planned) (ap (λ o. body_going (condition_state i part.Opened) o) h.made)

closes_body : {E C : Type 0} (src : List ℕ) (e : Reader E C (Cell Expr)) → IsOutside (machine_of src e) kind.CloseBrace → EndsRightly src e → (i : Cell Ident) (q : E) (x : Cell Expr) (p : Spot) → e.finish src q ≡ Some x →
    (conditions src e).step (condition_state i (part.Body q)) (token_at kind.CloseBrace p) ≡ next (condition_state i (part.Closed (Some x)))
closes_body src e o r i q x p w =
    takes src (condition_reader e) (condition_state i (part.Body q)) (condition_state i (part.Closed (Some x))) act.Close (token_at kind.CloseBrace p)
    (ap (λ o. body_plan o (e.ends q) kind.CloseBrace) (ended_by src e q (token_at kind.CloseBrace p) x (o.behind q x (token_at kind.CloseBrace p) refl w)).0 ∙ ap (λ b. body_plan None b kind.CloseBrace) (can_end src e r q x w))
    (ap (λ o. Some (condition_state i (part.Closed o))) w)

closes_empty : {E C : Type 0} (src : List ℕ) (e : Reader E C (Cell Expr)) → IsOutside (machine_of src e) kind.CloseBrace → (i : Cell Ident) (p : Spot) →
    (conditions src e).step (condition_state i part.Opened) (token_at kind.CloseBrace p) ≡ next (condition_state i (part.Closed None))
closes_empty src e o i p =
    takes src (condition_reader e) (condition_state i part.Opened) (condition_state i (part.Closed None)) act.CloseEmpty (token_at kind.CloseBrace p)
    (ap (λ o. opened_plan o kind.CloseBrace) (refused_by src e e.start (token_at kind.CloseBrace p) (o.before (token_at kind.CloseBrace p) refl)).0) refl

-- ---- complete

-- in braces, where they can be closed
pub record BodyAt {E C : Type 0} (src : List ℕ) (e : Reader E C (Cell Expr)) (i : Cell Ident) (us : List Lexeme) (x : Option (Cell Expr)) : Type 0 where
  pub last : ConditionState E
  pub goes : steps (conditions src e) (Some (condition_state i part.Opened)) us ≡ Some last
  pub closes : (p : Spot) → (conditions src e).step last (token_at kind.CloseBrace p) ≡ next (condition_state i (part.Closed x))

some_body : {E C : Type 0} (src : List ℕ) (e : Reader E C (Cell Expr)) → IsOutside (machine_of src e) kind.CloseBrace → EndsRightly src e → (i : Cell Ident) (us : List Lexeme) (x : Cell Expr) → RunsTo (machine_of src e) us x → BodyAt src e i us (Some x)
some_body src e o r i [] x h =
    let p : Spot = record { start = 0; end = 1; text = [] } in
    let t = token_at kind.CloseBrace p in
    absurd (apart ((machine_of src e).step e.start t) x (o.before t refl) (o.behind e.start x t refl (ap (λ s. e.finish src s) (some_is h.goes) ∙ h.ends)))
  where
    apart : {S T : Type 0} (a : Answer S T) (x : T) → a ≡ refused → a ≡ ended x → ⊥
    apart a x e f = cc
some_body src e o r i (t ∷ us) x h = record {
  last = condition_state i (part.Body h.last);
  goes = entered (machine_of src e) (conditions src e) (λ q. condition_state i (part.Body q)) (holds_body src e i) (condition_state i part.Opened) t (λ q w. enters_body src e i t q w) us h.last h.goes;
  closes = λ p. closes_body src e o r i h.last x p h.ends;
}

pub body_runs : {E C : Type 0} (src : List ℕ) (e : Reader E C (Cell Expr)) → IsParser (machine_of src e) (AsNode src (ReadsExpr src)) → IsOutside (machine_of src e) kind.CloseBrace → EndsRightly src e → (i : Cell Ident) {us : List Lexeme} {x : Option (Cell Expr)} →
    ReadsBody src us x → BodyAt src e i us x
body_runs src e d o r i no_body = record { last = condition_state i part.Opened; goes = refl; closes = λ p. closes_empty src e o i p }
body_runs src e d o r i (body {ts = us} {x = x} w) = some_body src e o r i us (placed src us x) (d.complete us (placed src us x) (as_node w))

-- a word
word_runs : {E C : Type 0} (src : List ℕ) (e : Reader E C (Cell Expr)) (k : TokenKind) (q : Spot) (i : Ident) → any_of k q.text ≡ Some i → (conditions src e).step (condition_reader e).start (token_at k q) ≡ next (condition_state (placed src (one k q) i) part.Word)
word_runs src e k q i w =
    takes src (condition_reader e) (condition_reader e).start (condition_state (placed src (one k q) i) part.Word) act.Word (token_at k q) (planned_any k q.text act.Word i w)
    (ap (λ o. option_image (λ i. condition_state i part.Word) o) (word_node_is src (token_at k q) i w))

-- behind a word and `{`
pub opened : {E C : Type 0} (src : List ℕ) (e : Reader E C (Cell Expr)) {ts : List Lexeme} {i : Ident} (l : Spot) → ReadsAny ts i → Comes (conditions src e) (ts ++ one kind.OpenBrace l) (condition_state (placed src ts i) part.Opened)
opened src e l (any {k = k} {i = i} q w) = ap (λ a. steps (conditions src e) (answer_state a) (one kind.OpenBrace l)) (word_runs src e k q i w)

condition_complete : {E C : Type 0} (src : List ℕ) (e : Reader E C (Cell Expr)) → IsParser (machine_of src e) (AsNode src (ReadsExpr src)) → IsOutside (machine_of src e) kind.CloseBrace → EndsRightly src e → {ts : List Lexeme} {c : Cond} → ReadsCond src ts c → RunsTo (conditions src e) ts c
condition_complete src e d o r (cond {ts = ts} {us = us} {i = i} {x = x} l b w v) =
    let h = body_runs src e d o r (placed src ts i) v in
    record {
      last = condition_state (placed src ts i) (part.Closed x);
      goes = then_steps (conditions src e) (Some (condition_reader e).start) (Some h.last) _ (ts ++ one kind.OpenBrace l ++ us) (one kind.CloseBrace b)
          (then_steps (conditions src e) (Some (condition_reader e).start) _ _ (ts ++ one kind.OpenBrace l) us (opened src e l w) h.goes) (ap (λ a. answer_state a) (h.closes b));
      ends = refl;
    }

-- ---- what is planned

pub data ConditionPlanned {E C : Type 0} (e : Reader E C (Cell Expr)) : ConditionPart E → TokenKind → ConditionAct C → Type 0 where
  words : {k : TokenKind} → if_any {A = ConditionAct C} k act.Word ≡ Some act.Word → ConditionPlanned e part.Start k act.Word
  brace : ConditionPlanned e part.Word kind.OpenBrace act.Open
  first_goes : {k : TokenKind} {a : C} → e.plan e.start k ≡ Some a → ConditionPlanned e part.Opened k (act.First a)
  empty : ConditionPlanned e part.Opened kind.CloseBrace act.CloseEmpty
  body_goes : {k : TokenKind} {s : E} {a : C} → e.plan s k ≡ Some a → ConditionPlanned e (part.Body s) k (act.Body a)
  body_ends : {s : E} → e.ends s ≡ true → ConditionPlanned e (part.Body s) kind.CloseBrace act.Close

brace_planned : {E C : Type 0} (e : Reader E C (Cell Expr)) (k : TokenKind) (a : ConditionAct C) → brace_plan k ≡ Some a → ConditionPlanned e part.Word k a
brace_planned e kind.OpenBrace a w = subst (λ a. ConditionPlanned e part.Word kind.OpenBrace a) (some_is w) brace
brace_planned e _ a w = absurd (cc)

empty_planned : {E C : Type 0} (e : Reader E C (Cell Expr)) (k : TokenKind) (a : ConditionAct C) → empty_plan k ≡ Some a → ConditionPlanned e part.Opened k a
empty_planned e kind.CloseBrace a w = subst (λ a. ConditionPlanned e part.Opened kind.CloseBrace a) (some_is w) empty
empty_planned e _ a w = absurd (cc)

close_planned : {E C : Type 0} (e : Reader E C (Cell Expr)) (s : E) (k : TokenKind) (a : ConditionAct C) → e.ends s ≡ true → close_plan k ≡ Some a → ConditionPlanned e (part.Body s) k a
close_planned e s kind.CloseBrace a h w = subst (λ a. ConditionPlanned e (part.Body s) kind.CloseBrace a) (some_is w) (body_ends h)
close_planned e s _ a h w = absurd (cc)

opened_planned : {E C : Type 0} (e : Reader E C (Cell Expr)) (k : TokenKind) (a : ConditionAct C) (o : Option C) → e.plan e.start k ≡ o → opened_plan o k ≡ Some a → ConditionPlanned e part.Opened k a
opened_planned e k a (Some c) f w = subst (λ a. ConditionPlanned e part.Opened k a) (some_is w) (first_goes f)
opened_planned e k a None f w = empty_planned e k a w

body_planned : {E C : Type 0} (e : Reader E C (Cell Expr)) (s : E) (k : TokenKind) (a : ConditionAct C) (o : Option C) (b : Bool) → e.plan s k ≡ o → e.ends s ≡ b → body_plan o b k ≡ Some a → ConditionPlanned e (part.Body s) k a
body_planned e s k a (Some c) b f g w = subst (λ a. ConditionPlanned e (part.Body s) k a) (some_is w) (body_goes f)
body_planned e s k a None true f g w = close_planned e s k a g w
body_planned e s k a None false f g w = absurd (cc)

pub condition_planned : {E C : Type 0} (e : Reader E C (Cell Expr)) (u : ConditionPart E) (k : TokenKind) (a : ConditionAct C) → condition_plan (λ k. e.plan e.start k) e.plan e.ends u k ≡ Some a → ConditionPlanned e u k a
condition_planned e part.Start k a w = any_case (λ a. ConditionPlanned e part.Start k a) k [] act.Word a w (λ i g. words (planned_any k [] act.Word i g))
condition_planned e part.Word k a w = brace_planned e k a w
condition_planned e part.Opened k a w = opened_planned e k a (e.plan e.start k) refl w
condition_planned e (part.Body s) k a w = body_planned e s k a (e.plan s k) (e.ends s) refl refl w
condition_planned e (part.Closed x) k a w = absurd (cc)

-- what the word makes

words_planned : {E C : Type 0} (e : Reader E C (Cell Expr)) (u : ConditionPart E) (k : TokenKind) → ConditionPlanned e u k act.Word → if_any {A = ConditionAct C} k act.Word ≡ Some act.Word
words_planned e u k (words h) = h

pub condition_word_made : {E C : Type 0} (src : List ℕ) (e : Reader E C (Cell Expr)) (s : ConditionState E) (a : ConditionAct C) (t : Lexeme) (x : Cell Ident) → a ≡ act.Word → condition_plan (λ k. e.plan e.start k) e.plan e.ends s.part t.kind ≡ Some a →
    ((i : Ident) → any_of t.kind t.text ≡ Some i → x ≡ token_node src t i) → Some (condition_state x part.Word) ≡ condition_act e src s a t
condition_word_made {C = C} src e s a t x f p h =
    let w : if_any {A = ConditionAct C} t.kind act.Word ≡ Some act.Word = words_planned e s.part t.kind (condition_planned e s.part t.kind act.Word (p ∙ ap (λ a. Some a) f)) in
    subst (λ a. Some (condition_state x part.Word) ≡ condition_act e src s a t) (sym f) (ap (λ o. option_image (λ i. condition_state i part.Word) o) (sym (word_made src t act.Word act.Word x w h)))

-- ---- sound

pub data ConditionRead {E C : Type 0} (src : List ℕ) (e : Reader E C (Cell Expr)) : List Lexeme → ConditionState E → Type 0 where
  is_start : ConditionRead src e [] (condition_reader e).start
  is_word : {ts : List Lexeme} {i : Ident} → ReadsAny ts i → ConditionRead src e ts (condition_state (placed src ts i) part.Word)
  is_opened : {ts : List Lexeme} {i : Ident} (l : Spot) → ReadsAny ts i → ConditionRead src e (ts ++ one kind.OpenBrace l) (condition_state (placed src ts i) part.Opened)
  is_body : {ts : List Lexeme} {i : Ident} {s : E} (l : Spot) (us : List Lexeme) → ReadsAny ts i → Comes (machine_of src e) us s → ConditionRead src e (ts ++ one kind.OpenBrace l ++ us) (condition_state (placed src ts i) (part.Body s))
  is_closed : {ts : List Lexeme} {i : Ident} {x : Option (Cell Expr)} (l b : Spot) (us : List Lexeme) → ReadsAny ts i → ReadsBody src us x →
      ConditionRead src e (ts ++ one kind.OpenBrace l ++ us ++ one kind.CloseBrace b) (condition_state (placed src ts i) (part.Closed x))

body_of : {src : List ℕ} {us : List Lexeme} {x : Cell Expr} → AsNode src (ReadsExpr src) us x → ReadsBody src us (Some x)
body_of (as_node r) = body r

snoc : (ts us : List Lexeme) (t : Lexeme) → ts ++ (us ++ t ∷ []) ≡ ts ++ us ++ t ∷ []
snoc ts us t = simp append_assoc

one_kept : {E C : Type 0} (src : List ℕ) (e : Reader E C (Cell Expr)) → IsParser (machine_of src e) (AsNode src (ReadsExpr src)) → EndsRightly src e → (ts : List Lexeme) (s : ConditionState E) (k : TokenKind) (a : ConditionAct C) (p : Spot) →
    ConditionRead src e ts s → ConditionPlanned e s.part k a → IfSome (condition_act e src s a (token_at k p)) (λ q. ConditionRead src e (ts ++ one k p) q)
one_kept src e d r ts s k a p is_start (words h) = word_kept src (token_at k p) (λ i. condition_state i part.Word) (λ q. ConditionRead src e (one k p) q) (λ i w. is_word (any p w))
one_kept src e d r ts s k a p (is_word w) brace = is_opened p w
one_kept src e d r ts s k a p (is_opened {ts = us} {i = i} l w) (first_goes {a = c} h) =
    image_kept (λ q. condition_state (placed src us i) (part.Body q)) (λ q. ConditionRead src e (us ++ one kind.OpenBrace l ++ one k p) q) (e.act src e.start c (token_at k p))
    (λ q f. is_body l (one k p) w (ap (λ a. answer_state a) (takes src e e.start q c (token_at k p) h f)))
one_kept src e d r ts s k a p (is_opened {ts = us} {i = i} l w) empty =
    subst (λ us'. ConditionRead src e (us' ++ one kind.CloseBrace p) (condition_state (placed src us i) (part.Closed None))) (append-nil (us ++ one kind.OpenBrace l)) (is_closed l p [] w no_body)
one_kept src e d r ts s k a p (is_body {ts = vs} {i = i} {s = q} l us w c) (body_goes {a = b} h) =
    image_kept (λ q. condition_state (placed src vs i) (part.Body q)) (λ q. ConditionRead src e (vs ++ one kind.OpenBrace l ++ us ++ one k p) q) (e.act src q b (token_at k p))
    (λ v f. subst (λ us'. ConditionRead src e us' (condition_state (placed src vs i) (part.Body v))) (snoc (vs ++ one kind.OpenBrace l) us (token_at k p))
    (is_body l (us ++ one k p) w (one_more (machine_of src e) us q v (token_at k p) c (takes src e q v b (token_at k p) h f))))
one_kept src e d r ts s k a p (is_body {ts = vs} {i = i} {s = q} l us w c) (body_ends g) =
    let f = has_tree src e r q g in
    subst (λ x. ConditionRead src e (vs ++ one kind.OpenBrace l ++ us ++ one kind.CloseBrace p) (condition_state (placed src vs i) (part.Closed x))) (sym f.1) (is_closed l p us w (body_of (d.sound us q f.0 c f.1)))
one_kept src e d r ts s k a p (is_closed l b us w v) h = elim h [ ]

pub condition_read : {E C : Type 0} (src : List ℕ) (e : Reader E C (Cell Expr)) → IsParser (machine_of src e) (AsNode src (ReadsExpr src)) → EndsRightly src e → (ts : List Lexeme) (s : ConditionState E) → Comes (conditions src e) ts s → ConditionRead src e ts s
condition_read src e d r =
    keeps src (condition_reader e) (λ ts s. ConditionRead src e ts s) is_start (λ ts s t a w g. one_kept src e d r ts s t.kind a (spot_of t) w (condition_planned e s.part t.kind a g))

condition_sound : {E C : Type 0} {src : List ℕ} {e : Reader E C (Cell Expr)} {ts : List Lexeme} {s : ConditionState E} (x : Cond) → ConditionRead src e ts s → condition_finish s ≡ Some x → ReadsCond src ts x
condition_sound x is_start w = absurd (cc)
condition_sound x (is_word v) w = absurd (cc)
condition_sound x (is_opened l v) w = absurd (cc)
condition_sound x (is_body l us v c) w = absurd (cc)
condition_sound {src = src} x (is_closed {ts = ts} l b us v r) w = subst (λ x. ReadsCond src (ts ++ one kind.OpenBrace l ++ us ++ one kind.CloseBrace b) x) (some_is w) (cond l b v r)

-- ---- viable

abbrev some_brace : Spot
some_brace = spot_of (some_token kind.CloseBrace)

viable_at : {E C : Type 0} (src : List ℕ) (e : Reader E C (Cell Expr)) → IsParser (machine_of src e) (AsNode src (ReadsExpr src)) → IsOutside (machine_of src e) kind.CloseBrace → EndsRightly src e → (i : Cell Ident) (u : ConditionPart E) → Completed (conditions src e) (condition_state i u)
viable_at src e d o r i part.Start =
    let w = token_node src (some_token kind.Identifier) (ident.Ident []) in
    record { more = some_token kind.Identifier ∷ some_token kind.OpenBrace ∷ some_token kind.CloseBrace ∷ []; last = condition_state w (part.Closed None); tree = cond_of w None; goes = ap (λ a. answer_state a) (closes_empty src e o w some_brace); ends = refl }
viable_at src e d o r i part.Word =
    record { more = some_token kind.OpenBrace ∷ some_token kind.CloseBrace ∷ []; last = condition_state i (part.Closed None); tree = cond_of i None; goes = ap (λ a. answer_state a) (closes_empty src e o i some_brace); ends = refl }
viable_at src e d o r i part.Opened =
    record { more = some_token kind.CloseBrace ∷ []; last = condition_state i (part.Closed None); tree = cond_of i None; goes = ap (λ a. answer_state a) (closes_empty src e o i some_brace); ends = refl }
viable_at src e d o r i (part.Body q) =
    let c = d.viable q in
    record {
      more = c.more ++ some_token kind.CloseBrace ∷ [];
      last = condition_state i (part.Closed (Some c.tree));
      tree = cond_of i (Some c.tree);
      goes = then_steps (conditions src e) (Some (condition_state i (part.Body q))) (Some (condition_state i (part.Body c.last))) _ c.more (some_token kind.CloseBrace ∷ [])
          (held (machine_of src e) (conditions src e) (λ q. condition_state i (part.Body q)) (holds_body src e i) c.more q c.last c.goes) (ap (λ a. answer_state a) (closes_body src e o r i c.last c.tree some_brace c.ends));
      ends = refl;
    }
viable_at src e d o r i (part.Closed x) = record { more = []; last = condition_state i (part.Closed x); tree = cond_of i x; goes = refl; ends = refl }

-- ---- answers

right_at : {E : Type 0} (i : Cell Ident) (u : ConditionPart E) → condition_ends u ≡ is_some (finished_condition i u)
right_at i part.Start = refl
right_at i part.Word = refl
right_at i part.Opened = refl
right_at i (part.Body s) = refl
right_at i (part.Closed x) = refl

pub condition_right : {E C : Type 0} (src : List ℕ) (e : Reader E C (Cell Expr)) → EndsRightly src (condition_reader e)
condition_right src e s = right_at s.word s.part

does_at : {E C : Type 0} (src : List ℕ) (e : Reader E C (Cell Expr)) → DoesRightly src e → (i : Cell Ident) (u : ConditionPart E) (k : TokenKind) (a : ConditionAct C) (p : Spot) → ConditionPlanned e u k a → IsDone (token_at k p) (condition_act e src (condition_state i u) a (token_at k p))
does_at src e d i u k a p (words h) = word_does src (token_at k p) (λ i. condition_state i part.Word) act.Word act.Word h
does_at src e d i u k a p brace = λ w. absurd (cc)
does_at src e d i u k a p (first_goes {a = c} h) = image_done (λ q. condition_state i (part.Body q)) (token_at k p) (e.act src e.start c (token_at k p)) (d e.start c (token_at k p) h)
does_at src e d i u k a p empty = λ w. absurd (cc)
does_at src e d i u k a p (body_goes {s = q} {a = c} h) = image_done (λ q. condition_state i (part.Body q)) (token_at k p) (e.act src q c (token_at k p)) (d q c (token_at k p) h)
does_at src e d i u k a p (body_ends g) = λ w. absurd (cc)

pub condition_does : {E C : Type 0} (src : List ℕ) (e : Reader E C (Cell Expr)) → DoesRightly src e → DoesRightly src (condition_reader e)
condition_does src e d s a t w = does_at src e d s.word s.part t.kind a (spot_of t) (condition_planned e s.part t.kind a w)

pub condition_parser : {E C : Type 0} (src : List ℕ) (e : Reader E C (Cell Expr)) → IsParser (machine_of src e) (AsNode src (ReadsExpr src)) → IsOutside (machine_of src e) kind.CloseBrace → EndsRightly src e → IsParser (conditions src e) (ReadsCond src)
condition_parser src e d o r = record {
  complete = λ ts c w. condition_complete src e d o r w;
  sound = λ ts s c f w. condition_sound c (condition_read src e d r ts s f) w;
  viable = λ s. viable_at src e d o r s.word s.part;
  answers = answers_from src (condition_reader e) (condition_does src e (does_by src e d.answers));
}

-- ---- where one ends

ended_at : {E C : Type 0} (e : Reader E C (Cell Expr)) (i : Cell Ident) (u : ConditionPart E) (c : Cond) (k : TokenKind) → finished_condition i u ≡ Some c → condition_plan (λ k. e.plan e.start k) e.plan e.ends u k ≡ None
ended_at e i part.Start c k w = absurd (cc)
ended_at e i part.Word c k w = absurd (cc)
ended_at e i part.Opened c k w = absurd (cc)
ended_at e i (part.Body s) c k w = absurd (cc)
ended_at e i (part.Closed x) c k w = refl

pub condition_ends_at : {E C : Type 0} (src : List ℕ) (e : Reader E C (Cell Expr)) (P : Lexeme → Type 0) → EndsAt (conditions src e) P
condition_ends_at src e P s c t p w = leaves_tree src (condition_reader e) s t c (ended_at e s.word s.part c t.kind w) w

pub condition_refuses : {E C : Type 0} (src : List ℕ) (e : Reader E C (Cell Expr)) → Refuses (conditions src e) (IsKind kind.Semicolon)
condition_refuses {C = C} src e t w = leaves_none src (condition_reader e) (condition_reader e).start t (ap (λ k. if_any {A = ConditionAct C} k act.Word) w) refl
