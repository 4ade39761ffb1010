-- Words that are written behind others.
use Rattle.std.proofs.Common.{◌≡◌, List, [], ◌∷◌, ◌++◌, refl, sym, ap, ◌∙◌, subst, append_assoc, append-nil}
use Rattle.std.specs.String.{string_bytes}
use Rattle.cedar_lexer.specs.Words.{TokenText}
use Rattle.cedar_writer.specs.declared.output.Output.{Output}
use Rattle.cedar_writer.specs.Spacing.{Edge, gap, edge_behind, text_behind}
use Rattle.cedar_writer.specs.machines.Lines.{edge_of}
use Rattle.cedar_writer.specs.machines.Outputs.{edge_seen, Adds}

text_append : (e : Edge) (ws vs : List TokenText) → text_behind e (ws ++ vs) ≡ text_behind e ws ++ text_behind (edge_of e ws) vs
text_append e [] vs = refl
text_append e (w ∷ ws) vs =
    ap (λ t. gap e w ++ (w.text ++ t)) (text_append (edge_behind e w) ws vs)
    ∙ ap (λ t. gap e w ++ t) (sym (append_assoc w.text (text_behind (edge_behind e w) ws) (text_behind (edge_of (edge_behind e w) ws) vs)))
    ∙ sym (append_assoc (gap e w) (w.text ++ text_behind (edge_behind e w) ws) (text_behind (edge_of (edge_behind e w) ws) vs))

edge_append : (e : Edge) (ws vs : List TokenText) → edge_of e (ws ++ vs) ≡ edge_of (edge_of e ws) vs
edge_append e [] vs = refl
edge_append e (w ∷ ws) vs = edge_append (edge_behind e w) ws vs

pub nothing_added : (a : Output) → Adds a a []
nothing_added a = record { text = sym (append-nil (string_bytes a.text)); edge = refl }

pub both_added : (a b c : Output) (ws vs : List TokenText) → Adds a b ws → Adds b c vs → Adds a c (ws ++ vs)
both_added a b c ws vs h k =
    let e = edge_seen a in
    let there : text_behind (edge_seen b) vs ≡ text_behind (edge_of e ws) vs = ap (λ x. text_behind x vs) h.edge in
    record {
      text = k.text ∙ ap (λ t. t ++ text_behind (edge_seen b) vs) h.text ∙ append_assoc (string_bytes a.text) (text_behind e ws) (text_behind (edge_seen b) vs)
          ∙ ap (λ t. string_bytes a.text ++ (text_behind e ws ++ t)) there ∙ ap (λ t. string_bytes a.text ++ t) (sym (text_append e ws vs));
      edge = k.edge ∙ ap (λ x. edge_of x vs) h.edge ∙ sym (edge_append e ws vs);
    }

-- the same words, told otherwise
pub same_added : (a b : Output) (ws vs : List TokenText) → ws ≡ vs → Adds a b ws → Adds a b vs
same_added a b ws vs e h = subst (Adds a b) e h

-- words, and words behind them
pub then : {a b c : Output} {ws vs : List TokenText} → Adds a b ws → Adds b c vs → Adds a c (ws ++ vs)
then {a = a} {b = b} {c = c} {ws = ws} {vs = vs} h k = both_added a b c ws vs h k

-- no word, and words behind it
pub first_added : {a b c : Output} {vs : List TokenText} → Adds a b [] → Adds b c vs → Adds a c vs
first_added {a = a} {b = b} {c = c} {vs = vs} h k = both_added a b c [] vs h k
