-- A machine that only puts the tree of another in another way is recovered as that one is.
use Rattle.std.specs.Prelude.{◌↔◌}
use Rattle.std.proofs.Common.{◌≡◌, ℕ, List, ◌++◌, Option, sym, ◌∙◌, ap}
use Rattle.cedar_lexer.specs.Token.{Lexeme}
use Rattle.cedar_lexer.specs.declared.token.TokenKind.{TokenKind}
use Rattle.cedar_grammar.specs.machines.Machine.{Machine, Comes, IsParser, Shapes, no_tree}
use Rattle.cedar_grammar.specs.machines.Recovery.{Recovers}
use Rattle.cedar_policy_machine.proofs.machines.Recovery.{end_from, Comparable, Recoverable}

-- the machine above holds a state of the one below, and comes to it by the same tokens
pub record Holds {S T H Z : Type 0} (m : Machine Lexeme S T) (u : Machine Lexeme H Z) (held : H → S) : Type 0 where
  pub down : (ts : List Lexeme) (q : H) → Comes u ts q → Comes m ts (held q)
  pub up : (ts : List Lexeme) (s : S) → Comes m ts s → (q : H) × Comes u ts q × (held q ≡ s)

-- and it is left as that is
pub record LeftAs {S H F G : Type 0} (r : Recovers S F) (v : Recovers H G) (held : H → S) : Type 0 where
  pub ways : (q : H) → v.way q ≡ r.way (held q)
  pub closes : (q : H) → held (v.close q) ≡ r.close (held q)
  pub ends : (q : H) → held (v.end q) ≡ r.end (held q)

comparable_so : {S T H Z V : Type 0} {m : Machine Lexeme S T} {u : Machine Lexeme H Z} {held : H → S} (f : S → V) → Holds m u held → {ts : List Lexeme} {v w : V} → v ≡ w → Comparable m f ts v → Comparable u (λ q. f (held q)) ts w
comparable_so f h {ts = ts} e c =
    let q = h.up ts c.state c.comes in
    record { state = q.0; comes = q.1; alike = sym e ∙ (c.alike ∙ ap f (sym q.2)) }

pub lifted : {S T H Z F G V : Type 0} {src : List ℕ} {m : Machine Lexeme S T} {u : Machine Lexeme H Z} {R : List Lexeme → T → Type 0} {Q : List Lexeme → Z → Type 0} {W : List Lexeme → Type 0} {U : List Lexeme → Option Lexeme → F → Type 0} {L : Lexeme → F → Type 0}
    {r : Recovers S F} {v : Recovers H G} {n : Machine TokenKind V (Unit {0})} {f : S → V} (A : List Lexeme → Option Lexeme → G → Type 0) (B : Lexeme → G → Type 0) (held : H → S) →
    Recoverable src m R W U L r n f → Holds m u held → LeftAs r v held → IsParser u Q → Shapes u n (λ q. f (held q)) no_tree →
    ((s q : H) (l : ℕ) (o : Option Lexeme) → f (held s) ≡ f (held q) → v.tell s l o ≡ v.tell q l o) →
    ((ts : List Lexeme) (q : H) (o : Option Lexeme) (x : G) → Comes u ts q → A ts o x ↔ (v.tell q (end_from 0 ts) o ≡ x)) → ((t : Lexeme) (x : G) → B t x ↔ (v.large t ≡ x)) →
    Recoverable src u Q W A B v n (λ q. f (held q))
lifted {f = f} A B held d h k parser shaped a b c = record {
  parser = parser;
  shaped = shaped;
  by_shape = record {
    ways = λ s q e. k.ways s ∙ (d.by_shape.ways (held s) (held q) e ∙ sym (k.ways q));
    closes = λ s q e. ap f (k.closes s) ∙ (d.by_shape.closes (held s) (held q) e ∙ ap f (sym (k.closes q)));
    ends = λ s q e. ap f (k.ends s) ∙ (d.by_shape.ends (held s) (held q) e ∙ ap f (sym (k.ends q)));
    tells = a;
  };
  tells = b;
  larges = c;
  inside = λ ts q e w. d.inside ts (held q) (h.down ts q e) (sym (k.ways q) ∙ w);
  braces = λ us vs q i e. k.ways q ∙ d.braces us vs (held q) i (h.down (us ++ vs) q e);
  begun = λ ts q e w. d.begun ts (held q) (h.down ts q e) (λ i. w (k.ways q ∙ i));
  not_begun = λ ts us q w i e j. d.not_begun ts us (held q) w i (h.down (ts ++ us) q e) (sym (k.ways q) ∙ j);
  closes = λ us vs q e i g. comparable_so f h (ap f (sym (k.closes q))) (d.closes us vs (held q) e i (h.down (us ++ vs) q g));
  ends = λ ts us q e w i g. comparable_so f h (ap f (sym (k.ends q))) (d.ends ts us (held q) e w i (h.down (ts ++ us) q g));
}
