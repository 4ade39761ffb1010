-- Policies that are read are read again from their printed words.
use Rattle.std.proofs.Common.{◌≡◌, ℕ, List, [], ◌∷◌, ◌++◌, codes, refl, ap, ap₂, ◌∙◌, append_assoc}
use Rattle.cedar_lexer.specs.Token.{Lexeme}
use Rattle.cedar_lexer.specs.declared.token.TokenKind.TheVariants as kind
use Rattle.cedar_syntax.specs.declared.cst.Ident.{Ident}
use Rattle.cedar_grammar.specs.grammar.LooseWords.{ReadsList, ReadsAny}
use Rattle.cedar_grammar.specs.grammar.Place.{placed}
use Rattle.cedar_syntax.specs.printing.Printed.{Texts, printed, ident_texts, option_texts}
use Rattle.cedar_syntax.specs.tokens.Tokens.{Spot, one}
use Rattle.cedar_syntax.specs.trees.Trees.{Cell, policy_of, policies_of}
use Rattle.cedar_lexer.specs.Words.{open_word, close_word, TokenText}
use Rattle.cedar_grammar.proofs.again.Rereading.{AllSpelled, texts-append, both_spelled, halves, left_of, right_of, same_as, infix_as, beside_as, Reworded, suffix_as}
use Rattle.cedar_syntax.specs.trees.Unlocated.{unlocated_node}
use Rattle.cedar_grammar.proofs.again.Expressions.{word}
use Rattle.cedar_grammar.proofs.again.Cases.{there}
use Rattle.cedar_syntax.specs.trees.UnlocatedTrees.{bare_cells, unlocated_annotation, BareElement, unlocated_element, BareCondition, unlocated_clause, BarePolicy, unlocated_policy, unlocated_policies, element_tree, clause_tree, bare_tree}
use Rattle.cedar_grammar.proofs.again.Leaves.{AnyOf, any_again}
use Rattle.cedar_syntax.specs.declared.cst.Annotation.{Annotation}
use Rattle.cedar_syntax.specs.declared.cst.Cond.{Cond}
use Rattle.cedar_syntax.specs.declared.cst.Policies.{Policies}
use Rattle.cedar_syntax.specs.declared.cst.Policy.{Policy}
use Rattle.cedar_syntax.specs.declared.cst.VariableDef.{VariableDef}
use Rattle.cedar_grammar.specs.grammar.LoosePolicies as l
use Rattle.cedar_grammar.specs.grammar.LoosePolicies.{ReadsMany, ReadsAnnotation, ReadsTypeName, ReadsEntityType, ReadsConstraint, ReadsVariableDef, ReadsBody, ReadsCond, ReadsPolicy, ReadsPolicies}
use Rattle.cedar_syntax.specs.trees.Unplaced.{annotation_tree}
use Rattle.cedar_grammar.proofs.again.Lists.{cells_print, ListRule, list_again}
use Rattle.cedar_grammar.proofs.again.PolicyParts.{many_print, ManyOf, many_again, annotation_again, element_again, clause_again}

-- ---- policies

abbrev AnnotationsOf : List (Cell Annotation) → Type 0
AnnotationsOf cs = ManyOf ReadsAnnotation unlocated_annotation annotation_tree cs

pub record Begun : Type 0 where
  pub annotations : List (Cell Annotation)
  pub effect : Cell Ident

pub record Scoped : Type 0 where
  pub head : Begun
  pub elements : List (Cell VariableDef)

pub record Conditioned : Type 0 where
  pub front : Scoped
  pub conditions : List (Cell Cond)

pub data ReadsHead (src : List ℕ) : List Lexeme → Begun → Type 0 where
  head : {ts us : List Lexeme} {xs : List (Cell Annotation)} {i : Ident} → ReadsMany src (ReadsAnnotation src) ts xs → ReadsAny us i → ReadsHead src (ts ++ us) (record { annotations = xs; effect = placed src us i })

pub data ReadsScoped (src : List ℕ) : List Lexeme → Scoped → Type 0 where
  scoped : {ts vs : List Lexeme} {h : Begun} {ys : List (Cell VariableDef)} (p : Spot) → ReadsHead src ts h → ReadsList src (ReadsVariableDef src) vs ys → ReadsScoped src (ts ++ one kind.OpenParen p ++ vs) (record { head = h; elements = ys })

pub data ReadsConditioned (src : List ℕ) : List Lexeme → Conditioned → Type 0 where
  conditioned : {ts ws : List Lexeme} {f : Scoped} {zs : List (Cell Cond)} (p : Spot) → ReadsScoped src ts f → ReadsMany src (ReadsCond src) ws zs → ReadsConditioned src (ts ++ one kind.CloseParen p ++ ws) (record { front = f; conditions = zs })

abbrev pub policy_from : Conditioned → Policy
policy_from c = policy_of c.front.head.annotations c.front.head.effect c.front.elements c.conditions

pub conditioned_read : {src : List ℕ} {ts : List Lexeme} {c : Conditioned} (e : Spot) → ReadsConditioned src ts c → ReadsPolicy src (ts ++ one kind.Semicolon e) (policy_from c)
conditioned_read e (conditioned m (scoped p (head r q) y) z) = l.policy p m e r q y z

-- the content of a node that is there
abbrev pub bare_head : Begun → List (Cell Annotation) × Cell Ident
bare_head h = (bare_cells unlocated_annotation h.annotations, unlocated_node h.effect)

abbrev pub Head : Type 0
Head = List (Cell Annotation) × Cell Ident

abbrev head_print : Head → Texts
head_print h = many_print annotation_tree h.0 ++ option_texts ident_texts h.1.node

head_again : (cs : List (Cell Annotation)) (i : Ident) → AnnotationsOf cs → AnyOf i → Reworded ReadsHead bare_head head_print (cs, there i)
head_again cs i h k = record {
  words = h.words ++ k.words;
  spelled = both_spelled h.words k.words h.spelled k.spelled;
  prints = texts-append h.words k.words ∙ ap₂ (λ (xs ys : Texts). xs ++ ys) h.prints k.prints;
  again = beside_as {bz = bare_head} {c = (cs, there i)} (λ src ts us x y. record { tree = record { annotations = x.tree; effect = placed src us y.tree }; reads = head x.reads y.reads; same = ap₂ (λ (c : List (Cell Annotation)) (j : Ident). (c, there j)) x.same y.same }) h.again k.again;
}

abbrev pub Front : Type 0
Front = Head × List (Cell BareElement)

abbrev pub bare_scoped : Scoped → Front
bare_scoped f = (bare_head f.head, bare_cells unlocated_element f.elements)

abbrev scoped_print : Front → Texts
scoped_print f = head_print f.0 ++ (codes "(" ∷ cells_print element_tree f.1)

scoped_again : (h : Head) (es : List (Cell BareElement)) → Reworded ReadsHead bare_head head_print h → Reworded (ListRule ReadsVariableDef) (bare_cells unlocated_element) (cells_print element_tree) es → Reworded ReadsScoped bare_scoped scoped_print (h, es)
scoped_again h es a k = record {
  words = a.words ++ (open_word ∷ k.words);
  spelled = both_spelled a.words (open_word ∷ k.words) a.spelled (refl, k.spelled);
  prints = texts-append a.words (open_word ∷ k.words) ∙ ap₂ (λ (xs ys : Texts). xs ++ (codes "(" ∷ ys)) a.prints k.prints;
  again = infix_as {bz = bare_scoped} {c = (h, es)} open_word (λ src ts us p e x y. record { tree = record { head = x.tree; elements = y.tree }; reads = scoped p x.reads y.reads; same = ap₂ (λ (c : Head) (d : List (Cell BareElement)). (c, d)) x.same y.same }) a.again k.again;
}

abbrev pub Whole : Type 0
Whole = Front × List (Cell BareCondition)

abbrev pub bare_conditioned : Conditioned → Whole
bare_conditioned c = (bare_scoped c.front, bare_cells unlocated_clause c.conditions)

abbrev conditioned_print : Whole → Texts
conditioned_print w = scoped_print w.0 ++ (codes ")" ∷ many_print clause_tree w.1)

conditioned_again : (f : Front) (cs : List (Cell BareCondition)) → Reworded ReadsScoped bare_scoped scoped_print f → ManyOf ReadsCond unlocated_clause clause_tree cs → Reworded ReadsConditioned bare_conditioned conditioned_print (f, cs)
conditioned_again f cs a k = record {
  words = a.words ++ (close_word ∷ k.words);
  spelled = both_spelled a.words (close_word ∷ k.words) a.spelled (refl, k.spelled);
  prints = texts-append a.words (close_word ∷ k.words) ∙ ap₂ (λ (xs ys : Texts). xs ++ (codes ")" ∷ ys)) a.prints k.prints;
  again = infix_as {bz = bare_conditioned} {c = (f, cs)} close_word (λ src ts us p e x y. record { tree = record { front = x.tree; conditions = y.tree }; reads = conditioned p x.reads y.reads; same = ap₂ (λ (c : Front) (d : List (Cell BareCondition)). (c, d)) x.same y.same }) a.again k.again;
}

abbrev pub bare_from : Whole → BarePolicy
bare_from w = record { annotations = w.0.0.0; effect = w.0.0.1; elements = w.0.1; clauses = w.1 }

whole_prints : (w : Whole) → conditioned_print w ++ (codes ";" ∷ []) ≡ printed (bare_tree (bare_from w))
unfolding printed
whole_prints w =
    let a = many_print annotation_tree w.0.0.0 in
    let e = option_texts ident_texts w.0.0.1.node in
    let v = cells_print element_tree w.0.1 in
    let c = many_print clause_tree w.1 in
    append_assoc ((a ++ e) ++ (codes "(" ∷ v)) (codes ")" ∷ c) (codes ";" ∷ [])
    ∙ append_assoc (a ++ e) (codes "(" ∷ v) (codes ")" ∷ (c ++ (codes ";" ∷ [])))
    ∙ append_assoc a e (codes "(" ∷ (v ++ (codes ")" ∷ (c ++ (codes ";" ∷ [])))))

abbrev PolicyOf : BarePolicy → Type 0
PolicyOf b = Reworded ReadsPolicy unlocated_policy (λ c. printed (bare_tree c)) b

abbrev end_word : TokenText
end_word = word kind.Semicolon (codes ";")

policy_case : (w : Whole) → Reworded ReadsConditioned bare_conditioned conditioned_print w → PolicyOf (bare_from w)
policy_case w h = record {
  words = h.words ++ (end_word ∷ []);
  spelled = both_spelled h.words (end_word ∷ []) h.spelled (refl, tt);
  prints = texts-append h.words (end_word ∷ []) ∙ ap (λ xs. xs ++ (codes ";" ∷ [])) h.prints ∙ whole_prints w;
  again = suffix_as {bz = unlocated_policy} {c = bare_from w} end_word (λ src ts p e x. record { tree = policy_from x.tree; reads = conditioned_read p x.reads; same = ap bare_from x.same }) h.again;
}

pub policy_again : (src : List ℕ) (ts : List Lexeme) (x : Policy) → ReadsPolicy src ts x → AllSpelled ts → PolicyOf (unlocated_policy x)
policy_again src _ _ (l.policy {ts = ts} {us = us} {vs = vs} {ws = ws} {xs = xs} {i = i} {ys = ys} {zs = zs} p m e r q y z) s =
    let a = (halves (ts ++ us ++ one kind.OpenParen p ++ vs ++ one kind.CloseParen m ++ ws) (one kind.Semicolon e) s).0 in
    let b = left_of (ts ++ us ++ one kind.OpenParen p ++ vs) ws kind.CloseParen m a in
    let c = halves ts us (left_of (ts ++ us) vs kind.OpenParen p b) in
    let h = head_again (bare_cells unlocated_annotation xs) i (many_again ReadsAnnotation unlocated_annotation annotation_tree (annotation_again src) r c.0) (any_again q c.1) in
    let f = scoped_again (bare_cells unlocated_annotation xs, there i) (bare_cells unlocated_element ys) h (list_again ReadsVariableDef unlocated_element element_tree (element_again src) y (right_of (ts ++ us) vs kind.OpenParen p b)) in
    let g = conditioned_again ((bare_cells unlocated_annotation xs, there i), bare_cells unlocated_element ys) (bare_cells unlocated_clause zs) f (many_again ReadsCond unlocated_clause clause_tree (clause_again src) z (right_of (ts ++ us ++ one kind.OpenParen p ++ vs) ws kind.CloseParen m a)) in
    policy_case (((bare_cells unlocated_annotation xs, there i), bare_cells unlocated_element ys), bare_cells unlocated_clause zs) g

pub policies_again : {src : List ℕ} {ts : List Lexeme} {x : Policies} → ReadsPolicies src ts x → AllSpelled ts → Reworded ReadsPolicies unlocated_policies (many_print bare_tree) (unlocated_policies x)
policies_again {src = src} (l.policies {xs = xs} r) s =
    let h = many_again ReadsPolicy unlocated_policy bare_tree (policy_again src) r s in
    record {
      words = h.words;
      spelled = h.spelled;
      prints = h.prints;
      again = same_as {by = unlocated_policies} {b = bare_cells unlocated_policy xs} (λ src ts y. record { tree = policies_of y.tree; reads = l.policies y.reads; same = y.same }) h.again;
    }
