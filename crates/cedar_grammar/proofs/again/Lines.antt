-- The same of policies in lines: a line feed behind each.
use Rattle.std.proofs.Common.{◌≡◌, ℕ, ◌+◌, List, [], ◌∷◌, ◌++◌, Option, Some, None, refl, sym, ap, ap₂, ◌∙◌, subst, append_assoc, append-nil, arith, drop}
use Rattle.std.specs.Prelude.{option_map, length}
use Rattle.cedar_lexer.specs.Cut.{Layout, nothing, skip, Cuts}
use Rattle.cedar_lexer.specs.Token.{Lexeme}
use Rattle.cedar_syntax.specs.declared.cst.Policies.{Policies}
use Rattle.cedar_syntax.specs.declared.cst.Policy.{Policy}
use Rattle.cedar_grammar.specs.grammar.Grammar.{IsTreeOf}
use Rattle.cedar_grammar.specs.grammar.LoosePolicies.{ReadsPolicy, ReadsPolicies, ReadsMany}
use Rattle.cedar_grammar.specs.grammar.Place.{placed_or_start, placed}
use Rattle.cedar_syntax.specs.printing.Printed.{tokens_text, printed}
use Rattle.cedar_syntax.specs.trees.Tree.{Tree}
use Rattle.cedar_syntax.specs.trees.Trees.{Cell, policies_of}
use Rattle.cedar_syntax.specs.trees.Unplaced.{policy_tree, or_missing}
use Rattle.cedar_lexer.specs.Words.{TokenText, words_of, texts_of, AreSpelled}
use Rattle.cedar_grammar.specs.printing.SameWords.{Again}
use Rattle.cedar_grammar.proofs.again.Rereading.{AllSpelled, PrintsAgain, ReadAs, beside_as, halves, words-append}
use Rattle.cedar_syntax.specs.trees.UnlocatedTrees.{BarePolicy, bare_cell, bare_cells, unlocated_policy, unlocated_policies, bare_tree}
use Rattle.cedar_grammar.specs.printing.PrintLaw.{SameUpToPlaces, HasSameTree, node_text}
use Rattle.cedar_grammar.specs.faults.FirstFault.{HasOneTree}
use Rattle.cedar_lexer.proofs.Spaced.{tokens_from, words_are, behind, some_laid, feed_at}
use Rattle.std.proofs.lemmas.List.{length-append, map-append}
use Rattle.cedar_lexer.proofs.Cuts.{laid_on}
use Rattle.cedar_grammar.specs.grammar.LoosePolicies as l
use Rattle.cedar_grammar.specs.printing.Formatted.{lines_text, formatted_in, formatted}
use Rattle.cedar_lexer.proofs.Ends.{broken, feed_breaks}
use Rattle.cedar_grammar.proofs.again.Law.{all_spelled, one_cut, policy_prints, same_policy}
use Rattle.cedar_grammar.proofs.again.PolicyParts.{ManyRule}
use Rattle.cedar_grammar.proofs.again.Cases.{there}

-- one line more
pub lines_snoc : (xs : List (Cell Policy)) (p : Cell Policy) → lines_text (xs ++ p ∷ []) ≡ lines_text xs ++ (node_text policy_tree p ++ (10 ∷ []))
lines_snoc [] p = refl
lines_snoc (x ∷ xs) p = ap (λ t. node_text policy_tree x ++ (10 ∷ t)) (lines_snoc xs p) ∙ sym (append_assoc (node_text policy_tree x) (10 ∷ lines_text xs) (node_text policy_tree p ++ (10 ∷ [])))

-- what is laid out of policies in lines, and what its words are read as
record Lines (xs : List (Cell Policy)) : Type 0 where
  words : List TokenText
  again : ReadAs (ManyRule ReadsPolicy) (bare_cells unlocated_policy) (bare_cells unlocated_policy xs) words
  laid : (source : List ℕ) (i : ℕ) (rest : List ℕ) → drop i source ≡ lines_text xs ++ rest → (us : List Lexeme) × Layout source i us (i + length (lines_text xs)) × (words_of us ≡ words)

no_lines : Lines []
no_lines = record { words = []; again = λ src us e. empty src us e; laid = λ source i rest e. ([], subst (Layout source i []) (omega arith) nothing, refl) }
  where
    empty : (src : List ℕ) (us : List Lexeme) → words_of us ≡ [] → Again (ManyRule ReadsPolicy) (bare_cells unlocated_policy) [] src us
    empty src [] e = record { tree = []; reads = l.none; same = refl }
    empty src (u ∷ us) e = absurd (cc)

line_laid : (source : List ℕ) (i : ℕ) (rest before : List ℕ) (ws vs : List TokenText) (us : List Lexeme) → AreSpelled ws → drop i source ≡ before ++ (tokens_text (texts_of ws) ++ (10 ∷ rest)) → Layout source i us (i + length before) → words_of us ≡ vs
    → (ts : List Lexeme) × Layout source i ts (i + length (before ++ (tokens_text (texts_of ws) ++ (10 ∷ [])))) × (words_of ts ≡ vs ++ ws)
line_laid source i rest before ws vs us s stands laid e =
    let text = tokens_text (texts_of ws) in
    let j = i + length before in
    let here : drop j source ≡ text ++ (10 ∷ rest) = behind source i before (text ++ (10 ∷ rest)) stands in
    let line = some_laid source ws j (10 ∷ rest) s (λ k. broken 10 rest feed_breaks) here in
    let feed = feed_at source (j + length text) rest (behind source j text (10 ∷ rest) here) in
    let far : j + length text + 1 ≡ i + length (before ++ (text ++ (10 ∷ []))) = omega (arith, length-append before (text ++ (10 ∷ [])), length-append text (10 ∷ [])) in (
      us ++ tokens_from j ws,
      subst (Layout source i (us ++ tokens_from j ws)) far (laid_on laid (subst (λ ts. Layout source j ts (j + length text + 1)) (append-nil (tokens_from j ws)) (laid_on line (skip feed nothing)))),
      words-append us (tokens_from j ws) ∙ ap₂ (λ (a b : List TokenText). a ++ b) e (words_are j ws),
    )

more_lines : (src : List ℕ) (us : List Lexeme) (xs : List (Cell Policy)) (y : Policy) → Lines xs → PrintsAgain ReadsPolicy unlocated_policy policy_tree y → Lines (xs ++ placed src us y ∷ [])
more_lines src us xs y h k =
    let text = tokens_text (texts_of k.words) in
    let printed_is : text ≡ node_text policy_tree (placed src us y) = ap tokens_text k.prints in
    let whole : lines_text (xs ++ placed src us y ∷ []) ≡ lines_text xs ++ (text ++ (10 ∷ [])) = lines_snoc xs (placed src us y) ∙ ap (λ t. lines_text xs ++ (t ++ (10 ∷ []))) (sym printed_is) in
    record {
      words = h.words ++ k.words;
      again = subst (λ cs. ReadAs (ManyRule ReadsPolicy) (bare_cells unlocated_policy) cs (h.words ++ k.words)) (sym (map-append (bare_cell unlocated_policy) xs (placed src us y ∷ [])))
          (beside_as {R = ManyRule ReadsPolicy} {S = ReadsPolicy} {T = ManyRule ReadsPolicy} {bx = bare_cells unlocated_policy} {by = unlocated_policy} {bz = bare_cells unlocated_policy} {c = bare_cells unlocated_policy xs ++ there (unlocated_policy y) ∷ []} (λ src ts us a b. record {
            tree = a.tree ++ placed src us b.tree ∷ [];
            reads = l.more a.reads b.reads;
            same = map-append (bare_cell unlocated_policy) a.tree (placed src us b.tree ∷ []) ∙ ap₂ (λ ds d. ds ++ there d ∷ []) a.same b.same;
          }) h.again k.again);
      laid = λ source i rest e.
          let split : drop i source ≡ lines_text xs ++ (text ++ (10 ∷ rest)) = e ∙ ap (λ t. t ++ rest) whole ∙ append_assoc (lines_text xs) (text ++ (10 ∷ [])) rest ∙ ap (λ t. lines_text xs ++ t) (append_assoc text (10 ∷ []) rest) in
          let a = h.laid source i (text ++ (10 ∷ rest)) split in
          let b = line_laid source i rest (lines_text xs) k.words h.words a.0 k.spelled split a.1 a.2 in
          (b.0, subst (λ t. Layout source i b.0 (i + length t)) (sym whole) b.1, b.2);
    }

lines_again : {src : List ℕ} {ts : List Lexeme} {xs : List (Cell Policy)} → ReadsMany src (ReadsPolicy src) ts xs → AllSpelled ts → Lines xs
lines_again l.none s = no_lines
lines_again {src = src} (l.more {ts = ts} {us = us} {xs = xs} {y = y} r q) s = more_lines src us xs y (lines_again r (halves ts us s).0) (policy_prints src us y q (halves ts us s).1)

-- the formatted text has this tree up to places
formatted_tree : (text : List ℕ) (ts : List Lexeme) (x : Policies) → ReadsPolicies text ts x → AllSpelled ts → (us : List Lexeme) × (y : Policies) × Cuts (lines_text x.0) us × ReadsPolicies (lines_text x.0) us y × (unlocated_policies y ≡ unlocated_policies x)
formatted_tree text ts _ (l.policies {xs = xs} r) s =
    let h = lines_again r s in
    let target = lines_text xs in
    let a = h.laid target 0 [] (sym (append-nil target)) in
    let b = h.again target a.0 a.2 in
    (a.0, policies_of b.tree, subst (Layout target 0 a.0) (omega arith) a.1, l.policies b.reads, b.same)

placed_same : (src own : List ℕ) (us ts : List Lexeme) (y x : Policies) → unlocated_policies y ≡ unlocated_policies x → SameUpToPlaces unlocated_policies (placed_or_start src us y) (placed_or_start own ts x)
placed_same src own [] [] y x e = ap Some e
placed_same src own [] (v ∷ vs) y x e = ap Some e
placed_same src own (u ∷ us) [] y x e = ap Some e
placed_same src own (u ∷ us) (v ∷ vs) y x e = ap Some e

formatted_is : (text : List ℕ) (ts : List Lexeme) (x : Policies) → formatted (placed_or_start text ts x) ≡ lines_text x.0
formatted_is text [] x = refl
formatted_is text (t ∷ ts) x = refl

pub formatted_again : HasOneTree ReadsPolicies → (text : List ℕ) (node : Cell Policies) → IsTreeOf ReadsPolicies text node → HasSameTree ReadsPolicies unlocated_policies node (formatted node)
formatted_again one text node g =
    let ts = g.tokens in
    let x = g.stands.tree in
    let f = formatted_tree text ts x g.stands.reads (all_spelled g.cut) in
    let target = lines_text x.0 in
    subst (λ n. HasSameTree ReadsPolicies unlocated_policies n (formatted n)) (sym g.stands.is)
    (subst (HasSameTree ReadsPolicies unlocated_policies (placed_or_start text ts x)) (sym (formatted_is text ts x)) record {
      again = placed_or_start target f.0 f.1;
      stands = record { tokens = f.0; cut = f.2; stands = record { tree = f.1; reads = f.3; is = refl } };
      same = placed_same target text f.0 ts f.1 x f.4;
      only = λ other o.
          let same : o.tokens ≡ f.0 = one_cut target o.tokens f.0 o.cut f.2 in
          let tree : o.stands.tree ≡ f.1 = one target f.0 o.stands.tree f.1 (subst (λ vs. ReadsPolicies target vs o.stands.tree) same o.stands.reads) f.3 in
          o.stands.is ∙ ap₂ (λ (vs : List Lexeme) (z : Policies). placed_or_start target vs z) same tree;
    })

-- and is the formatted text of that
same_line : (x y : Cell Policy) → bare_cell unlocated_policy x ≡ bare_cell unlocated_policy y → node_text policy_tree x ≡ node_text policy_tree y
same_line x y e = ap (λ (o : Option Tree). tokens_text (printed (or_missing o))) (sym (own x.node) ∙ ap (λ (c : Cell BarePolicy). option_map bare_tree c.node) e ∙ own y.node)
  where
    own : (o : Option Policy) → option_map bare_tree (option_map unlocated_policy o) ≡ option_map policy_tree o
    own None = refl
    own (Some p) = ap Some (same_policy p)

same_lines : (xs ys : List (Cell Policy)) → bare_cells unlocated_policy xs ≡ bare_cells unlocated_policy ys → lines_text xs ≡ lines_text ys
same_lines [] [] e = refl
same_lines [] (y ∷ ys) e = absurd (cc)
same_lines (x ∷ xs) [] e = absurd (cc)
same_lines (x ∷ xs) (y ∷ ys) e = ap₂ (λ (a b : List ℕ). a ++ (10 ∷ b)) (same_line x y (head_is e)) (same_lines xs ys (tail_is e))
  where
    head_is : {c d : Cell BarePolicy} {cs ds : List (Cell BarePolicy)} → c ∷ cs ≡ d ∷ ds → c ≡ d
    head_is e = cc

    tail_is : {c d : Cell BarePolicy} {cs ds : List (Cell BarePolicy)} → c ∷ cs ≡ d ∷ ds → cs ≡ ds
    tail_is e = cc

pub formatted_stays : (x y : Cell Policies) → SameUpToPlaces unlocated_policies x y → formatted x ≡ formatted y
formatted_stays x y e = go x.node y.node e
  where
    go : (o q : Option Policies) → option_map unlocated_policies o ≡ option_map unlocated_policies q → formatted_in o ≡ formatted_in q
    go None None e = refl
    go None (Some q) e = absurd (cc)
    go (Some o) None e = absurd (cc)
    go (Some o) (Some q) e = same_lines o.0 q.0 (some_is e)
      where
        some_is : {c d : List (Cell BarePolicy)} → Some c ≡ Some d → c ≡ d
        some_is e = cc
