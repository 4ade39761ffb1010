-- Whether tokens have a tree depends on their kinds alone, where the numbers among them fit. So
-- each sentence of a rule whose machine has shapes stands in a text.
use Rattle.std.proofs.Common.{◌≡◌, ℕ, List, [], ◌∷◌, Option, Some, None, true, refl, sym, ◌∙◌, ap, subst, arith}
use Rattle.cedar_lexer.specs.Token.{Lexeme}
use Rattle.cedar_lexer.specs.declared.token.TokenKind.{TokenKind}
use Rattle.cedar_lexer.specs.declared.token.TokenKind.TheVariants as kind
use Rattle.cedar_grammar.specs.grammar.Grammar.{Rule, IsNodeOf}
use Rattle.cedar_grammar.specs.grammar.Place.{placed_or_start}
use Rattle.cedar_grammar.specs.grammar.Sentences.{kinds, HasTree}
use Rattle.cedar_syntax.specs.tokens.Tokens.{fits}
use Rattle.cedar_syntax.specs.trees.Trees.{Cell}
use Rattle.cedar_grammar.specs.machines.Machine.{Answer, next, ended, refused, too_large, Machine, answer_state, steps, Comes, AnswersRightly, IsParser, is_some, IsShape, Shapes}
use Rattle.cedar_grammar.proofs.machines.Laws.{some_is, none_some, false_true, steps-none, steps_shaped, ends_alike}
use Rattle.cedar_text.specs.StandsInText.{StandsInText}
use Rattle.cedar_text.proofs.KindTexts.{NumbersFit, text_of, text_utf8, tokens_from, text_laid, kinds_are, all_fit}

-- the state to which tokens bring a machine, where their kinds bring its shapes to this one
record ComesAs {S T U : Type 0} (m : Machine Lexeme S T) (f : S → U) (s : S) (ts : List Lexeme) (u : U) : Type 0 where
  last : S
  goes : steps m (Some s) ts ≡ Some last
  alike : f last ≡ u

one_step : {S T U V : Type 0} (m : Machine Lexeme S T) (n : Machine TokenKind U V) (f : S → U) (g : T → V) (s : S) (t : Lexeme) (ts : List Lexeme) (u : U) (a : Answer S T) (c : Answer U V) (o : Option T) →
    m.step s t ≡ a → IsShape f g a c → AnswersRightly t a o → (t.kind ≡ kind.Number → fits t.text ≡ true) → ((r : S) → steps n (Some (f r)) (kinds ts) ≡ Some u → ComesAs m f r ts u) →
    steps n (answer_state c) (kinds ts) ≡ Some u → ComesAs m f s (t ∷ ts) u
one_step m n f g s t ts u (next r) c o h w v fit more e =
    let k = more r (sym (ap (λ c. steps n (answer_state c) (kinds ts)) w) ∙ e) in
    record { last = k.last; goes = ap (λ a. steps m (answer_state a) ts) h ∙ k.goes; alike = k.alike }
one_step m n f g s t ts u (ended x) c o h w v fit more e = absurd (none_some (steps-none n (kinds ts)) (sym (ap (λ c. steps n (answer_state c) (kinds ts)) w) ∙ e))
one_step m n f g s t ts u refused c o h w v fit more e = absurd (none_some (steps-none n (kinds ts)) (sym (ap (λ c. steps n (answer_state c) (kinds ts)) w) ∙ e))
one_step m n f g s t ts u too_large c o h w v fit more e = absurd (false_true v.1 (fit v.0))

-- tokens whose kinds the shapes take, and whose numbers fit, are taken
comes_as : {S T U V : Type 0} {m : Machine Lexeme S T} {n : Machine TokenKind U V} {R : List Lexeme → T → Type 0} (f : S → U) (g : T → V) → IsParser m R → Shapes m n f g → (ts : List Lexeme) (s : S) (u : U) → NumbersFit ts →
    steps n (Some (f s)) (kinds ts) ≡ Some u → ComesAs m f s ts u
comes_as f g d i [] s u fit e = record { last = s; goes = refl; alike = some_is e }
comes_as {m = m} {n = n} f g d i (t ∷ ts) s u fit e =
    one_step m n f g s t ts u (m.step s t) (n.step (f s) t.kind) (m.finish s) refl (i.steps s t) (d.answers s t) fit.0 (λ r h. comes_as f g d i ts r u fit.1 h) e

-- where shapes end with tokens, so does each machine of these shapes
pub record Ends {U V : Type 0} (n : Machine TokenKind U V) (ks : List TokenKind) : Type 0 where
  pub last : U
  pub goes : Comes n ks last
  pub ends : is_some (n.finish last) ≡ true

pub shapes_end : {S T U V : Type 0} {m : Machine Lexeme S T} {n : Machine TokenKind U V} {R : List Lexeme → T → Type 0} (f : S → U) (g : T → V) → IsParser m R → Shapes m n f g → (ts : List Lexeme) (x : T) → R ts x → Ends n (kinds ts)
shapes_end {m = m} {n = n} f g d i ts x h =
    let r = d.complete ts x h in
    record {
      last = f r.last;
      goes = ap (λ u. steps n (Some u) (kinds ts)) (sym i.starts) ∙ steps_shaped f g i ts m.start r.last r.goes;
      ends = ends_alike f g i r.last ∙ ap (λ o. is_some o) r.ends;
    }

tree_at : {S T : Type 0} {m : Machine Lexeme S T} {R : List Lexeme → T → Type 0} → IsParser m R → (ts : List Lexeme) (s : S) (o : Option T) → Comes m ts s → m.finish s ≡ o → is_some o ≡ true → HasTree R ts
tree_at d ts s (Some x) c h e = (x, d.sound ts s x c h)
tree_at d ts s None c h e = absurd (cc)

pub has_tree : {S T U V : Type 0} {m : Machine Lexeme S T} {n : Machine TokenKind U V} {R : List Lexeme → T → Type 0} (f : S → U) (g : T → V) → IsParser m R → Shapes m n f g → (ts : List Lexeme) → NumbersFit ts → Ends n (kinds ts) → HasTree R ts
has_tree {m = m} {n = n} f g d i ts fit h =
    let c = comes_as f g d i ts m.start h.last fit (ap (λ u. steps n (Some u) (kinds ts)) i.starts ∙ h.goes) in
    tree_at d ts c.last (m.finish c.last) c.goes refl (sym (ends_alike f g i c.last) ∙ ap (λ u. is_some (n.finish u)) c.alike ∙ h.ends)

-- each sentence of a rule stands in a text, where the rule's machines have the same shapes for
-- each source
pub stands : {S T U V : Type 0} {R : Rule T} (m : List ℕ → Machine Lexeme S (Cell T)) (n : Machine TokenKind U V) (f : S → U) (g : Cell T → V) → ((src : List ℕ) → IsParser (m src) (IsNodeOf R src)) →
    ((src : List ℕ) → Shapes (m src) n f g) → StandsInText R
stands {R = R} m n f g d i src ks h =
    let text = text_of ks in
    let ts = tokens_from 0 ks in
    let e : Ends n (kinds h.tokens) = shapes_end f g (d src) (i src) h.tokens (placed_or_start src h.tokens h.tree) record { tree = h.tree; reads = h.reads; is = refl } in
    let k = has_tree f g (d text) (i text) ts (all_fit 0 ks) (subst (Ends n) (h.spelled ∙ sym (kinds_are 0 ks)) e) in
    record { text = text; utf8 = text_utf8 ks; tokens = ts; cut = text_laid text ks 0 refl (omega arith); spelled = kinds_are 0 ks; tree = (k.1.tree, k.1.reads) }
