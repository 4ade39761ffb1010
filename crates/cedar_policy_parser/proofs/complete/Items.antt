-- Lists of expressions and of a record's entries, and the primaries in brackets.
use Rattle.std.proofs.Common.{◌≡◌, ℕ, false, List, [], ◌∷◌, ◌++◌, map, Option, Ok, Err, refl, sym, ap, ◌∙◌}
use Rattle.std.specs.Map.{keys_of}
use Rattle.cedar_lexer.specs.Token.{Lexeme}
use Rattle.cedar_lexer.specs.declared.token.TokenKind.TheVariants as kind
use Rattle.cedar_expressions.specs.Keys.{repeats_key}
use Rattle.cedar_expressions.specs.Value as v
use Rattle.cedar_expressions.specs.Value.{Value, values, fields}
use Rattle.cedar_syntax.specs.declared.loc.Loc.{Loc}
use Rattle.cedar_syntax.specs.declared.cst.Primary.TheVariants as primary
use Rattle.cedar_syntax.specs.trees.Forms.{parts_of, listed_init}
use Rattle.cedar_syntax.specs.trees.Located.{Located}
use Rattle.cedar_syntax.specs.trees.Tree.{Operator, beside}
use Rattle.cedar_grammar.specs.grammar.LooseExpressions as l
use Rattle.cedar_grammar.specs.grammar.Place.{placed}
use Rattle.cedar_syntax.specs.tokens.Tokens.{Spot, one}
use Rattle.cedar_syntax.specs.trees.Trees.{rec_init_of}
use Rattle.cedar_conversion.specs.outcome.Conversion.{Part, operands, pairs_outcome, pair_outcome, set_value_outcome, record_outcome, expression_at}
use Rattle.cedar_conversion.specs.strict.Extensions.{Extensions}
use Rattle.cedar_conversion.specs.outcome.Held.{Held, as_expression, as_attribute}
use Rattle.cedar_conversion.specs.outcome.Outcome.{Outcome, both, next}
use Rattle.cedar_conversion.specs.strict.StrictWords.{IsKey}
use Rattle.cedar_conversion.proofs.Inverted.{ok_is, value_from}
use Rattle.cedar_conversion.proofs.Loops.{map_snoc}
use Rattle.cedar_policy_parser.proofs.Made.{gives_set, gives_braces, gives_paren, gives_entry}
use Rattle.cedar_policy_parser.proofs.complete.Lone.{key_read}
use Rattle.cedar_policy_parser.proofs.complete.Reads.{ExprAs, ExprRead, PrimaryRead, ItemsRead, ListRead, EntryRead, PairsRead, EntriesRead, under, bodies-under}
use Rattle.cedar_policy_parser.proofs.sound.Items.{with_more, first_of}

-- ---- lists of expressions

pub no_list : {e : Extensions} {src : List ℕ} → ListRead e src [] []
unfolding operands
no_list = record { cells = []; reads = l.no_expr; give = λ p. refl }

pub list_read : {e : Extensions} {src : List ℕ} {ts : List Lexeme} {bs : List Value} → ItemsRead e src ts bs → ListRead e src ts bs
list_read h = record { cells = h.cells; reads = l.exprs h.reads; give = h.give }

pub list_comma : {e : Extensions} {src : List ℕ} {ts : List Lexeme} {bs : List Value} (p : Spot) → ItemsRead e src ts bs → ListRead e src (ts ++ one kind.Comma p) bs
list_comma p h = record { cells = h.cells; reads = l.exprs_comma p h.reads; give = h.give }

-- ---- entries

entry_gives : (o : Outcome Held) (x : Outcome Value) (key : List ℕ) (a : Value) → next o as_attribute ≡ Ok key → x ≡ Ok a → next o (λ h. both (as_attribute h) x) ≡ Ok (key, a)
entry_gives (Ok h) x key a i k = rw (i, k) refl
entry_gives (Err fs) x key a i k = cc

entry_tree : {e : Extensions} {src : List ℕ} {ts us : List Lexeme} {key : List ℕ} {a : Value} (p : Spot) → ExprAs e src ts as_attribute key → ExprRead e src us a → EntryRead e src (ts ++ one kind.Colon p ++ us) (key, a)
entry_tree {e = e} {src = src} {ts = ts} {us = us} {key = key} {a = a} p f g = record {
  tree = rec_init_of (placed src ts f.tree) (placed src us g.tree);
  reads = l.rec_init p f.reads g.reads;
  gives = λ q. gives_entry e q (placed src ts f.tree) (placed src us g.tree) ∙ entry_gives _ _ key a (f.gives (placed src ts f.tree).loc) (g.gives (placed src us g.tree).loc);
}

pub entry_read : {e : Extensions} {src : List ℕ} {ts us : List Lexeme} {key : List ℕ} {a : Value} (p : Spot) → IsKey ts key → ExprRead e src us a → EntryRead e src (ts ++ one kind.Colon p ++ us) (key, a)
entry_read {e = e} {src = src} p k g = entry_tree p (key_read e src k) g

pairs_more : (e : Extensions) (ps : List (Operator × Located)) (p : Operator × Located) (zs : List (List ℕ × Value)) (a : List ℕ × Value) → pairs_outcome e (parts_of ps) ≡ Ok zs → pair_outcome e p.1 ≡ Ok a → pairs_outcome e (parts_of (ps ++ p ∷ [])) ≡ Ok (zs ++ a ∷ [])
unfolding pairs_outcome
pairs_more e [] p zs a h k = with_more (pair_outcome e p.1) (Ok []) a [] k refl ∙ ap (λ xs. Ok (xs ++ a ∷ [])) (ok_is h)
pairs_more e (q ∷ ps) p zs a h k =
    let d = first_of (pair_outcome e q.1) (pairs_outcome e (parts_of ps)) zs h in
    with_more (pair_outcome e q.1) (pairs_outcome e (parts_of (ps ++ p ∷ []))) d.0 (d.1 ++ a ∷ []) d.2 (pairs_more e ps p d.1 a d.3 k) ∙ ap (λ xs. Ok (xs ++ a ∷ [])) (sym d.4)

pub one_pair : {e : Extensions} {src : List ℕ} {ts : List Lexeme} {f : List ℕ × Value} → EntryRead e src ts f → PairsRead e src ts (f ∷ [])
unfolding pairs_outcome
one_pair {e = e} {src = src} {ts = ts} {f = f} n = record {
  cells = placed src ts n.tree ∷ [];
  reads = l.one_init n.reads;
  give = pairs_more e [] (listed_init (placed src ts n.tree)) [] f refl (n.gives (placed src ts n.tree).loc);
}

pub more_pairs : {e : Extensions} {src : List ℕ} {ts us : List Lexeme} {f : List ℕ × Value} {fs : List (List ℕ × Value)} (p : Spot) → PairsRead e src ts fs → EntryRead e src us f → PairsRead e src (ts ++ one kind.Comma p ++ us) (fs ++ f ∷ [])
more_pairs {e = e} {src = src} {us = us} {f = f} {fs = fs} p h n = record {
  cells = h.cells ++ placed src us n.tree ∷ [];
  reads = l.more_inits p h.reads n.reads;
  give = ap (λ ys. pairs_outcome e (parts_of ys)) (map_snoc listed_init h.cells (placed src us n.tree)) ∙ pairs_more e (map listed_init h.cells) (listed_init (placed src us n.tree)) fs f h.give (n.gives (placed src us n.tree).loc);
}

pub no_entries : {e : Extensions} {src : List ℕ} → EntriesRead e src [] []
unfolding pairs_outcome
no_entries = record { cells = []; reads = l.no_init; give = refl }

pub entries_read : {e : Extensions} {src : List ℕ} {ts : List Lexeme} {fs : List (List ℕ × Value)} → PairsRead e src ts fs → EntriesRead e src ts fs
entries_read h = record { cells = h.cells; reads = l.inits h.reads; give = h.give }

pub entries_comma : {e : Extensions} {src : List ℕ} {ts : List Lexeme} {fs : List (List ℕ × Value)} (p : Spot) → PairsRead e src ts fs → EntriesRead e src (ts ++ one kind.Comma p) fs
entries_comma p h = record { cells = h.cells; reads = l.inits_comma p h.reads; give = h.give }

-- ---- brackets

set_gives : (p : Option Loc) (o : Outcome (List Part)) (bs : List Value) → o ≡ Ok (under beside bs) → next (next o (set_value_outcome p)) as_expression ≡ Ok (v.set (values bs))
set_gives p o bs h = rw (h, bodies-under beside bs) refl

pub set_read : {e : Extensions} {src : List ℕ} {ts : List Lexeme} {bs : List Value} (i o : Spot) → ListRead e src ts bs → PrimaryRead e src (one kind.OpenBracket i ++ ts ++ one kind.CloseBracket o) (v.set (values bs))
set_read {e = e} {bs = bs} i o h = record {
  tree = primary.EList h.cells;
  reads = l.set i o h.reads;
  gives = λ p. value_from _ _ _ (gives_set e p h.cells) (set_gives p _ bs (h.give p));
}

record_gives : (p : Option Loc) (o : Outcome (List (List ℕ × Value))) (fs : List (List ℕ × Value)) → o ≡ Ok fs → repeats_key (keys_of fs) ≡ false → next (next o (record_outcome p)) as_expression ≡ Ok (v.«record» (fields fs))
record_gives p o fs h k = rw (h, k) refl

pub braces_read : {e : Extensions} {src : List ℕ} {ts : List Lexeme} {fs : List (List ℕ × Value)} (i o : Spot) → EntriesRead e src ts fs → repeats_key (keys_of fs) ≡ false → PrimaryRead e src (one kind.OpenBrace i ++ ts ++ one kind.CloseBrace o) (v.«record» (fields fs))
braces_read {e = e} {fs = fs} i o h k = record {
  tree = primary.RInits h.cells;
  reads = l.in_braces i o h.reads;
  gives = λ p. value_from _ _ _ (gives_braces e p h.cells) (record_gives p _ fs h.give k);
}

inner_gives : (p : Option Loc) (x : Outcome Value) (a : Value) → x ≡ Ok a → next (next x (expression_at p)) as_expression ≡ Ok a
inner_gives p x a h = rw h refl

pub paren_read : {e : Extensions} {src : List ℕ} {ts : List Lexeme} {a : Value} (i o : Spot) → ExprRead e src ts a → PrimaryRead e src (one kind.OpenParen i ++ ts ++ one kind.CloseParen o) a
paren_read {e = e} {src = src} {ts = ts} {a = a} i o h = record {
  tree = primary.Expr (placed src ts h.tree);
  reads = l.paren i o h.reads;
  gives = λ p. value_from _ _ _ (gives_paren e p (placed src ts h.tree)) (inner_gives _ _ a (h.gives (placed src ts h.tree).loc));
}
