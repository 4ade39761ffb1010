-- What tokens are read as by the rules of policies, others with the same words are read as too.
use Rattle.std.proofs.Common.{ℕ, List, [], ◌∷◌, ◌++◌, Option, Some, None, refl, sym, ap, ap₂, ◌∙◌}
use Rattle.std.proofs.lemmas.List.{map-append}
use Rattle.cedar_lexer.specs.Token.{Lexeme}
use Rattle.cedar_lexer.specs.declared.token.TokenKind.TheVariants as kind
use Rattle.cedar_syntax.specs.declared.cst.Add.{Add}
use Rattle.cedar_syntax.specs.declared.cst.Annotation.{Annotation}
use Rattle.cedar_syntax.specs.declared.cst.Cond.{Cond}
use Rattle.cedar_syntax.specs.declared.cst.Expr.{Expr}
use Rattle.cedar_syntax.specs.declared.cst.Ident.{Ident}
use Rattle.cedar_syntax.specs.declared.cst.Name.{Name}
use Rattle.cedar_syntax.specs.declared.cst.Policies.{Policies}
use Rattle.cedar_syntax.specs.declared.cst.Policy.{Policy}
use Rattle.cedar_syntax.specs.declared.cst.RelOp.{RelOp}
use Rattle.cedar_syntax.specs.declared.cst.Str.TheVariants as str
use Rattle.cedar_syntax.specs.declared.cst.VariableDef.{VariableDef}
use Rattle.cedar_grammar.specs.grammar.Grammar.{Rule}
use Rattle.cedar_grammar.specs.grammar.LoosePolicies as l
use Rattle.cedar_grammar.specs.grammar.LoosePolicies.{ReadsMany, ReadsAnnotation, ReadsTypeName, ReadsEntityType, ReadsConstraint, ReadsVariableDef, ReadsBody, ReadsCond, ReadsPolicy, ReadsPolicies}
use Rattle.cedar_grammar.specs.grammar.LooseWords.{ReadsAny}
use Rattle.cedar_grammar.specs.grammar.Place.{placed}
use Rattle.cedar_syntax.specs.tokens.Tokens.{Spot, one, between_quotes}
use Rattle.cedar_syntax.specs.trees.Trees.{Cell, annotation_of, variable_def_of, cond_of, policies_of}
use Rattle.cedar_syntax.specs.trees.Located.{Form}
use Rattle.cedar_syntax.specs.trees.Unlocated.{unlocated_node, unlocated_name}
use Rattle.cedar_syntax.specs.trees.UnlocatedTrees.{bare_cell, bare_cells, unlocated_expr, unlocated_add, unlocated_annotation, BareElement, unlocated_element, BareCondition, unlocated_clause, unlocated_policy, unlocated_policies}
use Rattle.cedar_grammar.proofs.again.Rereading.{same_as, prefix_as}
use Rattle.cedar_grammar.proofs.again.Cases.{there}
use Rattle.cedar_grammar.proofs.again.PolicyParts.{ManyRule, key_read, keyed_read, Keyed, bare_keyed, bare_type, bare_entity, bare_against, BareEnds, bare_ends, BareSides, sides_rule, bare_sides, sides_read, element_of, bare_body, begun_read, begun_rule, bare_begun, clause_of, ReadsKey, key, ReadsKeyed, keyed, ReadsEnds, ends, sides, begun}
use Rattle.cedar_grammar.proofs.again.Policies.{ReadsHead, head, ReadsScoped, scoped, ReadsConditioned, conditioned, policy_from, conditioned_read, bare_head, Head, Front, bare_scoped, Whole, bare_conditioned, bare_from}
use Rattle.cedar_grammar.proofs.again.SameWords.{at_spot, Same, infix_same, beside_same, suffix_same, nothing_same, any_same, name_same, EachSame, list_same, id_same}
use Rattle.cedar_grammar.proofs.again.SameExpressions.{expr_same, add_same}

-- ---- items one behind the other

many_same : {X F : Type 0} (R : Rule X) (bare : X → F) {src : List ℕ} → EachSame R bare src → {ts : List Lexeme} {xs : List (Cell X)} → ReadsMany src (R src) ts xs → Same (ManyRule R) (bare_cells bare) (bare_cells bare xs) ts
many_same R bare each l.none = nothing_same {T = ManyRule R} {bz = bare_cells bare} {c = []} (λ src. record { tree = []; reads = l.none; same = refl })
many_same {F = F} R bare {src = src} each (l.more {ts = ts} {us = us} {xs = xs} {y = y} r q) =
    beside_same {T = ManyRule R} {bz = bare_cells bare} {c = bare_cells bare (xs ++ placed src us y ∷ [])} ts us (λ other vs ws a b. record {
      tree = a.tree ++ placed other ws b.tree ∷ [];
      reads = l.more a.reads b.reads;
      same = map-append (bare_cell bare) a.tree (placed other ws b.tree ∷ []) ∙ ap₂ (λ (ds : List (Cell F)) (d : F). ds ++ there d ∷ []) a.same b.same ∙ sym (map-append (bare_cell bare) xs (placed src us y ∷ []));
    }) (many_same R bare each r) (each us y q)

-- ---- annotations

abbrev bare_ident : Cell Ident → Cell Ident
bare_ident c = unlocated_node c

key_same : {ts : List Lexeme} {i : Ident} (p : Spot) → ReadsAny ts i → Same ReadsKey bare_ident (there i) (one kind.At p ++ ts)
key_same {i = i} p r = prefix_as {T = ReadsKey} {bz = bare_ident} {c = there i} (at_spot kind.At p) (λ src us q e a. record { tree = placed src us a.tree; reads = key q a.reads; same = ap there a.same }) (any_same r)

annotation_same : (src : List ℕ) (ts : List Lexeme) (x : Annotation) → ReadsAnnotation src ts x → Same ReadsAnnotation unlocated_annotation (unlocated_annotation x) ts
annotation_same src _ _ (l.key_alone {ts = ts} {i = i} p r) =
    same_as {S = ReadsAnnotation} {by = unlocated_annotation} {b = annotation_of (there i) None} (λ src ts a. record { tree = annotation_of a.tree None; reads = key_read a.reads; same = ap (λ c. annotation_of c None) a.same }) (key_same p r)
annotation_same src _ _ (l.with_value {ts = ts} {i = i} p o q m r) =
    let raw = between_quotes q.text in
    suffix_same {T = ReadsAnnotation} {bz = unlocated_annotation} {c = annotation_of (there i) (Some (there (str.String raw)))} kind.CloseParen m (one kind.At p ++ ts ++ one kind.OpenParen o ++ one kind.StringLit q)
    (λ src us n e a. record { tree = annotation_of a.tree.0 (Some a.tree.1); reads = keyed_read n a.reads; same = ap (λ (c : Keyed). annotation_of c.0 (Some c.1)) a.same })
    (infix_same {T = ReadsKeyed} {bz = bare_keyed} {c = (there i, there (str.String raw))} kind.OpenParen o (one kind.At p ++ ts) (one kind.StringLit q)
    (λ src vs ws n e a b. record { tree = (a.tree, placed src ws (str.String b.tree)); reads = keyed n a.reads b.reads; same = ap₂ (λ (c : Cell Ident) (v : List ℕ). (c, there (str.String v))) a.same b.same }) (key_same p r) (id_same q))

-- ---- elements of the scope

type_same : {src : List ℕ} {ts : List Lexeme} {o : Option (Cell Name)} → ReadsTypeName src ts o → Same ReadsTypeName bare_type (bare_type o) ts
type_same l.no_type_name = nothing_same {T = ReadsTypeName} {bz = bare_type} {c = None} (λ src. record { tree = None; reads = l.no_type_name; same = refl })
type_same (l.type_name {x = x} p r) =
    prefix_as {T = ReadsTypeName} {bz = bare_type} {c = Some (there (unlocated_name x))} (at_spot kind.Colon p) (λ src us q e a. record { tree = Some (placed src us a.tree); reads = l.type_name q a.reads; same = ap (λ n. Some (there n)) a.same }) (name_same r)

entity_same : {src : List ℕ} {ts : List Lexeme} {o : Option (Cell Add)} → ReadsEntityType src ts o → Same ReadsEntityType bare_entity (bare_entity o) ts
entity_same l.no_entity_type = nothing_same {T = ReadsEntityType} {bz = bare_entity} {c = None} (λ src. record { tree = None; reads = l.no_entity_type; same = refl })
entity_same (l.entity_type {x = x} p r) =
    prefix_as {T = ReadsEntityType} {bz = bare_entity} {c = Some (there (unlocated_add x))} (at_spot kind.Is p) (λ src us q e a. record { tree = Some (placed src us a.tree); reads = l.entity_type q a.reads; same = ap (λ n. Some (there n)) a.same }) (add_same r)

against_same : {src : List ℕ} {ts : List Lexeme} {o : Option (RelOp × Cell Expr)} → ReadsConstraint src ts o → Same ReadsConstraint bare_against (bare_against o) ts
against_same l.no_constraint = nothing_same {T = ReadsConstraint} {bz = bare_against} {c = None} (λ src. record { tree = None; reads = l.no_constraint; same = refl })
against_same (l.constraint {k = k} {o = o} {x = x} p i r) =
    prefix_as {T = ReadsConstraint} {bz = bare_against} {c = Some (o, there (unlocated_expr x))} (at_spot k p) (λ src us q e a. record { tree = Some (o, placed src us a.tree); reads = l.constraint q i a.reads; same = ap (λ n. Some (o, there n)) a.same }) (expr_same r)

element_same : (src : List ℕ) (ts : List Lexeme) (x : VariableDef) → ReadsVariableDef src ts x → Same ReadsVariableDef unlocated_element (unlocated_element x) ts
element_same src _ _ (l.variable_def {ts = ts} {us = us} {vs = vs} {ws = ws} {i = i} {x = x} {y = y} {z = z} r q p c) =
    let b : BareSides = record { name = bare_type x; ends = (bare_entity y, bare_against z) } in
    beside_same {T = ReadsVariableDef} {bz = unlocated_element} {c = element_of i b} ts (us ++ (vs ++ ws))
    (λ src ts us a b. record { tree = variable_def_of (placed src ts a.tree) b.tree.name b.tree.ends.0 b.tree.ends.1; reads = sides_read a.reads b.reads; same = ap₂ element_of a.same b.same }) (any_same r)
    (beside_same {T = sides_rule} {bz = bare_sides} {c = b} us (vs ++ ws)
    (λ src ts us a b. record { tree = record { name = a.tree; ends = b.tree }; reads = sides a.reads b.reads; same = ap₂ (λ (c : Option (Cell Name)) (d : BareEnds). record { name = c; ends = d }) a.same b.same }) (type_same q)
    (beside_same {T = ReadsEnds} {bz = bare_ends} {c = (bare_entity y, bare_against z)} vs ws
    (λ src ts us a b. record { tree = (a.tree, b.tree); reads = ends a.reads b.reads; same = ap₂ (λ (c : Option (Cell Form)) (d : Option (RelOp × Cell Form)). (c, d)) a.same b.same }) (entity_same p) (against_same c)))

-- ---- conditions

body_same : {src : List ℕ} {ts : List Lexeme} {o : Option (Cell Expr)} → ReadsBody src ts o → Same ReadsBody bare_body (bare_body o) ts
body_same l.no_body = nothing_same {T = ReadsBody} {bz = bare_body} {c = None} (λ src. record { tree = None; reads = l.no_body; same = refl })
body_same (l.body {x = x} r) = same_as {S = ReadsBody} {by = bare_body} {b = Some (there (unlocated_expr x))} (λ src us a. record { tree = Some (placed src us a.tree); reads = l.body a.reads; same = ap (λ n. Some (there n)) a.same }) (expr_same r)

clause_same : (src : List ℕ) (ts : List Lexeme) (x : Cond) → ReadsCond src ts x → Same ReadsCond unlocated_clause (unlocated_clause x) ts
clause_same src _ _ (l.cond {ts = ts} {us = us} {i = i} {x = x} p m r q) =
    suffix_same {T = ReadsCond} {bz = unlocated_clause} {c = clause_of i (bare_body x)} kind.CloseBrace m (ts ++ one kind.OpenBrace p ++ us) (λ src us n e a. record { tree = cond_of a.tree.0 a.tree.1; reads = begun_read n a.reads; same = a.same })
    (infix_same {T = begun_rule} {bz = bare_begun} {c = clause_of i (bare_body x)} kind.OpenBrace p ts us (λ src vs ws n e a b. record { tree = (placed src vs a.tree, b.tree); reads = begun n a.reads b.reads; same = ap₂ clause_of a.same b.same }) (any_same r) (body_same q))

-- ---- policies

pub policy_same : (src : List ℕ) (ts : List Lexeme) (x : Policy) → ReadsPolicy src ts x → Same ReadsPolicy unlocated_policy (unlocated_policy x) ts
policy_same src _ _ (l.policy {ts = ts} {us = us} {vs = vs} {ws = ws} {xs = xs} {i = i} {ys = ys} {zs = zs} p m e r q y z) =
    let h : Head = (bare_cells unlocated_annotation xs, there i) in
    let f : Front = (h, bare_cells unlocated_element ys) in
    let w : Whole = (f, bare_cells unlocated_clause zs) in
    let heads = beside_same {T = ReadsHead} {bz = bare_head} {c = h} ts us
    (λ src ts us a b. record { tree = record { annotations = a.tree; effect = placed src us b.tree }; reads = head a.reads b.reads; same = ap₂ (λ (c : List (Cell Annotation)) (j : Ident). (c, there j)) a.same b.same })
    (many_same ReadsAnnotation unlocated_annotation (annotation_same src) r) (any_same q) in
    let fronts = infix_same {T = ReadsScoped} {bz = bare_scoped} {c = f} kind.OpenParen p (ts ++ us) vs
    (λ src ts us n e a b. record { tree = record { head = a.tree; elements = b.tree }; reads = scoped n a.reads b.reads; same = ap₂ (λ (c : Head) (d : List (Cell BareElement)). (c, d)) a.same b.same })
    heads (list_same ReadsVariableDef unlocated_element (element_same src) y) in
    let wholes = infix_same {T = ReadsConditioned} {bz = bare_conditioned} {c = w} kind.CloseParen m (ts ++ us ++ one kind.OpenParen p ++ vs) ws
    (λ src ts us n e a b. record { tree = record { front = a.tree; conditions = b.tree }; reads = conditioned n a.reads b.reads; same = ap₂ (λ (c : Front) (d : List (Cell BareCondition)). (c, d)) a.same b.same })
    fronts (many_same ReadsCond unlocated_clause (clause_same src) z) in
    suffix_same {T = ReadsPolicy} {bz = unlocated_policy} {c = bare_from w} kind.Semicolon e (ts ++ us ++ one kind.OpenParen p ++ vs ++ one kind.CloseParen m ++ ws)
    (λ src ts n e a. record { tree = policy_from a.tree; reads = conditioned_read n a.reads; same = ap bare_from a.same }) wholes

pub policies_same : {src : List ℕ} {ts : List Lexeme} {x : Policies} → ReadsPolicies src ts x → Same ReadsPolicies unlocated_policies (unlocated_policies x) ts
policies_same {src = src} (l.policies {xs = xs} r) =
    same_as {S = ReadsPolicies} {by = unlocated_policies} {b = bare_cells unlocated_policy xs} (λ src us a. record { tree = policies_of a.tree; reads = l.policies a.reads; same = a.same }) (many_same ReadsPolicy unlocated_policy (policy_same src) r)
