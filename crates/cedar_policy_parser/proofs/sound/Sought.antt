-- Right of `has`: what is converted there is what is sought.
use Rattle.std.proofs.Common.{◌≡◌, ◌<◌, ℕ, zero, suc, Bool, true, false, cond, nat_le, List, [], ◌∷◌, ◌++◌, append_assoc, append-nil, map, Option, Some, None, Ok, Err, refl, sym, ap, ◌∙◌, arith}
use Rattle.cedar_expressions.specs.Written.{var_text}
use Rattle.cedar_lexer.specs.Token.{Lexeme}
use Rattle.cedar_lexer.specs.declared.token.TokenKind.{TokenKind}
use Rattle.cedar_lexer.specs.declared.token.TokenKind.TheVariants as kind
use Rattle.cedar_expressions.specs.declared.operators.AddOp.{AddOp}
use Rattle.cedar_syntax.specs.declared.loc.Loc.{Loc}
use Rattle.cedar_syntax.specs.declared.cst.Add.{Add}
use Rattle.cedar_syntax.specs.declared.cst.Mult.{Mult}
use Rattle.cedar_syntax.specs.declared.cst.MultOp.{MultOp}
use Rattle.cedar_syntax.specs.declared.cst.NegOp.{NegOp}
use Rattle.cedar_syntax.specs.declared.cst.NegOp.TheVariants as sign
use Rattle.cedar_syntax.specs.declared.cst.Unary.{Unary}
use Rattle.cedar_syntax.specs.declared.cst.Member.{Member}
use Rattle.cedar_syntax.specs.declared.cst.MemAccess.{MemAccess}
use Rattle.cedar_syntax.specs.declared.cst.Primary.{Primary}
use Rattle.cedar_syntax.specs.declared.cst.Expr.TheViews.{out-roll-Add, out-roll-Mult, out-roll-Unary}
use Rattle.cedar_syntax.specs.trees.Forms.{located, parts_of, add_form, mult_form, unary_form, member_form, primary_form, access_form, add_operand, mult_operand, listed_access}
use Rattle.cedar_syntax.specs.trees.Located as f
use Rattle.cedar_syntax.specs.trees.Located.{Located, Form, Parts, at}
use Rattle.cedar_syntax.specs.trees.Tree.{Level, Operator, sum, product}
use Rattle.cedar_syntax.proofs.FormLevels.{add_out, mult_out, unary_out, member_out, access_field, access_call, access_index, primary_literal, primary_ref, primary_name, primary_slot, primary_expr, primary_list, primary_inits}
use Rattle.cedar_grammar.specs.grammar.Place.{placed}
use Rattle.cedar_grammar.specs.grammar.LooseExpressions as l
use Rattle.cedar_grammar.specs.grammar.LooseExpressions.{ReadsAdd, ReadsMults, ReadsMult, ReadsUnaries, ReadsUnary, ReadsMember, ReadsPrimary, ReadsAccesses, ReadsAccess, ReadsSigns}
use Rattle.cedar_syntax.specs.tokens.Tokens.{Spot, one}
use Rattle.cedar_syntax.specs.trees.Trees.{Cell, add_of, mult_of, unary_of, member_of, bangs_of, dashes_of}
use Rattle.cedar_syntax.specs.tokens.Signs.{sign_limit}
use Rattle.cedar_conversion.specs.strict.Extensions.{Extensions}
use Rattle.cedar_conversion.specs.parts.HasSide.{Attributes, right_side, right_form, begins_with, beginning_outcome, attributes_of, behind_first, fields_of, field_of, field_form, string_alone, no_sign}
use Rattle.cedar_conversion.specs.outcome.Held.{Held, expression, variable, bare_name, bare_truth, bare_string, unqualified, as_string}
use Rattle.cedar_conversion.specs.parts.Leaves.{name_leaf}
use Rattle.cedar_conversion.specs.parts.Literals.{literal_outcome}
use Rattle.cedar_conversion.specs.outcome.Detail.{nothing}
use Rattle.cedar_conversion.specs.outcome.Outcome.{Outcome, NamedFault, fault_outcome, invalid_has_rhs}
use Rattle.cedar_conversion.specs.strict.Strict as m
use Rattle.cedar_conversion.specs.strict.StrictWords as w
use Rattle.cedar_conversion.specs.strict.StrictWords.{IsIdentifier, AreAttributes, IsSought}
use Rattle.cedar_conversion.proofs.Inverted.{ok_is, next_ok}
use Rattle.cedar_conversion.proofs.Loops.{map_snoc}
use Rattle.cedar_policy_parser.proofs.sound.Bare.{HeldAs, held_word, unqualified_word, held_string}
use Rattle.cedar_policy_parser.proofs.sound.Leaves.{literal_held, name_held}
use Rattle.cedar_policy_parser.proofs.sound.Words.{unreserved_meant}

-- ---- the fields behind the first attribute

more_fields : (q : Operator × Located) (ps : List (Operator × Located)) (id : List ℕ) (ids : List (List ℕ)) → field_of q.1 ≡ Ok id → fields_of (parts_of ps) ≡ Ok ids → fields_of (parts_of (q ∷ ps)) ≡ Ok (id ∷ ids)
more_fields q ps id ids h k = rw (h, k) refl

fields_snoc : (ps : List (Operator × Located)) (p : Operator × Located) (zs : List (List ℕ)) → fields_of (parts_of (ps ++ p ∷ [])) ≡ Ok zs
    → (ids : List (List ℕ)) × (id : List ℕ) × (fields_of (parts_of ps) ≡ Ok ids) × (field_of p.1 ≡ Ok id) × (zs ≡ ids ++ id ∷ [])
fields_snoc [] p zs h =
    let a = next_ok (field_of p.1) _ zs h in
    ([], a.0, refl, a.1, sym (ok_is a.2))
fields_snoc (q ∷ ps) p zs h =
    let a = next_ok (field_of q.1) _ zs h in
    let b = next_ok (fields_of (parts_of (ps ++ p ∷ []))) _ zs a.2 in
    let c = fields_snoc ps p b.0 b.1 in
    (a.0 ∷ c.0, c.1, more_fields q ps a.0 c.0 a.1 c.2, c.3, sym (ok_is b.2) ∙ ap (λ ys. a.0 ∷ ys) c.4)

field_at : (p : Option Loc) (t u : Form) → t ≡ u → field_of (at p t) ≡ field_form p u
field_at p t u h = ap (field_form p) h

-- an access that is a field
field_meant : {src : List ℕ} {us : List Lexeme} {x : MemAccess} (id : List ℕ) → ReadsAccess src us x → field_of (located access_form (placed src us x)) ≡ Ok id → (p : Spot) × (vs : List Lexeme) × (us ≡ one kind.Dot p ++ vs) × IsIdentifier vs id
field_meant {src = src} id (l.field {ts = ts} {i = i} p r) h = (p, ts, refl, unreserved_meant src id r (sym (field_at _ _ _ (access_field (placed src ts i))) ∙ h))
field_meant id (l.call {xs = xs} a b r) h = let no = sym (field_at _ _ _ (access_call xs)) ∙ h in cc
field_meant {src = src} id (l.index {ts = ts} {x = x} a b r) h = let no = sym (field_at _ _ _ (access_index (placed src ts x))) ∙ h in cc

attributes_at : {ts us : List Lexeme} (id : List ℕ) (xs ys : List (List ℕ)) → us ≡ ts → ys ≡ xs → AreAttributes us id ys → AreAttributes ts id xs
attributes_at id xs ys h k i = rw (← h, ← k) i

fields_meant : {src : List ℕ} {ts us : List Lexeme} {xs : List (Cell MemAccess)} (first : List ℕ) (ids : List (List ℕ)) → IsIdentifier ts first → ReadsAccesses src us xs → fields_of (parts_of (map listed_access xs)) ≡ Ok ids → AreAttributes (ts ++ us) first ids
fields_meant {ts = ts} first ids i l.no_access h = attributes_at first ids [] (sym (append-nil ts)) (ok_is h) (w.one_attribute i)
fields_meant {src = src} {ts = ts} first ids i (l.more_access {ts = us} {us = vs} {xs = xs} {x = x} r s) h =
    let d = fields_snoc (map listed_access xs) (listed_access (placed src vs x)) ids (ap (λ zs. fields_of (parts_of zs)) (sym (map_snoc listed_access xs (placed src vs x))) ∙ h) in
    let g = field_meant d.1 s d.3 in
    let same : ts ++ us ++ one kind.Dot g.0 ++ g.1 ≡ ts ++ (us ++ vs) = append_assoc (ts ++ us) (one kind.Dot g.0) g.1 ∙ append_assoc ts us (one kind.Dot g.0 ++ g.1) ∙ ap (λ zs. ts ++ (us ++ zs)) (sym g.2) in
    attributes_at first ids (d.0 ++ d.1 ∷ []) same (sym d.4) (w.more_attributes g.0 (fields_meant first d.0 i r d.2) g.3)

-- ---- what begins the right side

sought_as : {ts : List Lexeme} (r q : Attributes) → q ≡ r → IsSought ts q.0 q.1 → IsSought ts r.0 r.1
sought_as r q h i = rw (← h) i

behind_meant : {src : List ℕ} {ts us : List Lexeme} {xs : List (Cell MemAccess)} (first : List ℕ) (r : Attributes) → IsIdentifier ts first → ReadsAccesses src us xs → behind_first (parts_of (map listed_access xs)) first ≡ Ok r → IsSought (ts ++ us) r.0 r.1
behind_meant {xs = xs} first r i q h =
    let d = next_ok (fields_of (parts_of (map listed_access xs))) _ r h in
    sought_as r (first, d.0) (ok_is d.2) (w.attributes (fields_meant first d.0 i q d.1))

sought_at : {ts us : List Lexeme} {id : List ℕ} {ids : List (List ℕ)} → us ≡ ts → IsSought us id ids → IsSought ts id ids
sought_at h i = rw (← h) i

alone_only : (whole place : Option Loc) (raw : List ℕ) (ps : List (Operator × Located)) (p : Operator × Located) (r : Attributes) → string_alone whole place raw (parts_of (ps ++ p ∷ [])) ≡ Ok r → ⊥
alone_only whole place raw [] p r h = cc
alone_only whole place raw (q ∷ ps) p r h = cc

-- a string stands alone
string_sought : {src : List ℕ} {ts us : List Lexeme} {xs : List (Cell MemAccess)} (e : Extensions) (whole place : Option Loc) (raw : List ℕ) (r : Attributes) → HeldAs e m.primary ts (bare_string place raw) → ReadsAccesses src us xs
    → string_alone whole place raw (parts_of (map listed_access xs)) ≡ Ok r → IsSought (ts ++ us) r.0 r.1
string_sought {ts = ts} e whole place raw r i l.no_access h =
    let d = next_ok (as_string (bare_string place raw)) _ r h in
    sought_at (sym (append-nil ts)) (sought_as r (d.0, []) (ok_is d.2) (w.text (held_string e m.primary (bare_string place raw) d.0 i d.1)))
string_sought {src = src} e whole place raw r i (l.more_access {us = vs} {xs = xs} {x = x} q s) h =
    absurd (alone_only whole place raw (map listed_access xs) (listed_access (placed src vs x)) r (ap (λ zs. string_alone whole place raw (parts_of zs)) (sym (map_snoc listed_access xs (placed src vs x))) ∙ h))

-- what a literal or a name that begins the right side makes of it
attributes_meant : {src : List ℕ} (ts : List Lexeme) {us : List Lexeme} {xs : List (Cell MemAccess)} (e : Extensions) (whole : Option Loc) (h : Held) (r : Attributes) → HeldAs e m.primary ts h → ReadsAccesses src us xs
    → attributes_of whole (parts_of (map listed_access xs)) h ≡ Ok r → IsSought (ts ++ us) r.0 r.1
attributes_meant ts e whole (expression place x) r i q k = cc
attributes_meant ts e whole (variable place x) r i q k = behind_meant (var_text x) r (held_word e m.primary place x i) q k
attributes_meant ts e whole (bare_name place name) r i q k =
    let d = next_ok (unqualified place name.path name.id) _ r k in
    behind_meant d.0 r (unqualified_word place name.path name.id d.0 i.0 d.1) q d.2
attributes_meant ts e whole (bare_truth place b) r i q k = cc
attributes_meant ts e whole (bare_string place raw) r i q k = string_sought e whole place raw r i q k

-- ---- through one part and no sign to the member

pub begins_at : (whole : Option Loc) (ps : Parts) (p : Option Loc) (t u : Form) → t ≡ u → begins_with whole ps (at p t) ≡ beginning_outcome whole ps p u
begins_at whole ps p t u h = ap (beginning_outcome whole ps p) h

never : {Y : Type 0} (fs : List NamedFault) (y : Y) (o : Outcome Y) → o ≡ Err fs → o ≡ Ok y → ⊥
never fs y (Ok z) h k = cc
never fs y (Err gs) h k = cc

-- a table that holds nothing: what stands right of `has` looks at none
no_extensions : Extensions
no_extensions = record { functions = λ name. false; methods = λ id. false }

begun_meant : {src : List ℕ} {ts us : List Lexeme} {x : Primary} {xs : List (Cell MemAccess)} (whole place : Option Loc) (r : Attributes) → ReadsPrimary src ts x → ReadsAccesses src us xs
    → begins_with whole (parts_of (map listed_access xs)) (at place (primary_form x)) ≡ Ok r → IsSought (ts ++ us) r.0 r.1
begun_meant {src = src} {xs = ys} whole place r (l.literally {ts = ts} {x = x} p) q h =
    let d = next_ok (literal_outcome (placed src ts x).loc (Some x)) _ r (sym (begins_at whole (parts_of (map listed_access ys)) place _ _ (primary_literal (placed src ts x))) ∙ h) in
    attributes_meant ts no_extensions whole d.0 r (literal_held no_extensions (placed src ts x).loc d.0 p d.1) q d.2
begun_meant {src = src} {xs = ys} whole place r (l.named {ts = ts} {x = x} p) q h =
    let d = next_ok (name_leaf place (placed src ts x)) _ r (sym (begins_at whole (parts_of (map listed_access ys)) place _ _ (primary_name (placed src ts x))) ∙ h) in
    attributes_meant ts no_extensions whole d.0 r (name_held no_extensions place d.0 p d.1) q d.2
begun_meant {src = src} {xs = ys} whole place r (l.referred {ts = ts} {x = x} p) q h = absurd (never ((invalid_has_rhs, place, nothing) ∷ []) r _ (begins_at whole (parts_of (map listed_access ys)) place _ _ (primary_ref (placed src ts x))) h)
begun_meant {src = src} {xs = ys} whole place r (l.slotted {k = k} {x = x} p i) q h = absurd (never ((invalid_has_rhs, place, nothing) ∷ []) r _ (begins_at whole (parts_of (map listed_access ys)) place _ _ (primary_slot (placed src (one k p) x))) h)
begun_meant {src = src} {xs = ys} whole place r (l.paren {ts = ts} {x = x} a b p) q h = absurd (never ((invalid_has_rhs, place, nothing) ∷ []) r _ (begins_at whole (parts_of (map listed_access ys)) place _ _ (primary_expr (placed src ts x))) h)
begun_meant {xs = ys} whole place r (l.set {xs = xs} a b p) q h = absurd (never ((invalid_has_rhs, place, nothing) ∷ []) r _ (begins_at whole (parts_of (map listed_access ys)) place _ _ (primary_list xs)) h)
begun_meant {xs = ys} whole place r (l.in_braces {xs = xs} a b p) q h = absurd (never ((invalid_has_rhs, place, nothing) ∷ []) r _ (begins_at whole (parts_of (map listed_access ys)) place _ _ (primary_inits xs)) h)

right_at : (whole p : Option Loc) (t u : Form) → t ≡ u → right_side whole (at p t) ≡ right_form whole u
unfolding right_side
right_at whole p t u h = ap (right_form whole) h

pub right_member : (whole p : Option Loc) (x : Cell Primary) (xs : List (Cell MemAccess)) → right_side whole (at p (member_form (member_of x xs))) ≡ begins_with whole (parts_of (map listed_access xs)) (located primary_form x)
unfolding right_form
right_member whole p x xs = right_at whole p _ _ (member_out (member_of x xs))

pub right_unary : (whole p : Option Loc) (o : Option NegOp) (x : Cell Member) → right_side whole (at p (unary_form (unary_of o x))) ≡ cond (no_sign o) (right_side whole (located member_form x)) (fault_outcome invalid_has_rhs whole)
unfolding right_form
right_unary whole p o x = right_at whole p _ _ (unary_out (unary_of o x) ∙ ap (λ d. f.unary d.op (located member_form d.item)) (out-roll-Unary record { op = o; item = x }))

pub right_mult : (whole p : Option Loc) (x : Cell Unary) (xs : List (MultOp × Cell Unary)) → right_side whole (at p (mult_form (mult_of x xs))) ≡ right_form whole (f.chain product (located unary_form x) (parts_of (map mult_operand xs)))
right_mult whole p x xs = right_at whole p _ _ (mult_out (mult_of x xs) ∙ ap (λ d. f.chain product (located unary_form d.initial) (parts_of (map mult_operand d.extended))) (out-roll-Mult record { initial = x; extended = xs }))

pub right_add : (whole p : Option Loc) (x : Cell Mult) (xs : List (AddOp × Cell Mult)) → right_side whole (at p (add_form (add_of x xs))) ≡ right_form whole (f.chain sum (located mult_form x) (parts_of (map add_operand xs)))
right_add whole p x xs = right_at whole p _ _ (add_out (add_of x xs) ∙ ap (λ d. f.chain sum (located mult_form d.initial) (parts_of (map add_operand d.extended))) (out-roll-Add record { initial = x; extended = xs }))

-- one part alone
right_alone : (whole : Option Loc) (level : Level) (n : Located) (ps : Parts) (r : Attributes) → right_form whole (f.chain level n ps) ≡ Ok r → (ps ≡ f.none) × (right_side whole n ≡ Ok r)
unfolding right_form
right_alone whole level n f.none r h = (refl, h)
right_alone whole level n (f.more op x ps) r h = cc

some_parts : (ps : List (Operator × Located)) (p : Operator × Located) → parts_of (ps ++ p ∷ []) ≡ f.none → ⊥
some_parts [] p h = cc
some_parts (q ∷ ps) p h = cc

some_behind : {X : Type 0} (g : X → Operator × Located) (xs : List X) (x : X) → parts_of (map g (xs ++ x ∷ [])) ≡ f.none → ⊥
some_behind g xs x h = some_parts (map g xs) (g x) (ap parts_of (sym (map_snoc g xs x)) ∙ h)

member_sought : {src : List ℕ} {ts : List Lexeme} {x : Member} (whole place : Option Loc) (r : Attributes) → ReadsMember src ts x → right_side whole (at place (member_form x)) ≡ Ok r → IsSought ts r.0 r.1
member_sought {src = src} whole place r (l.member {ts = ts} {x = x} {xs = xs} p q) h = begun_meant whole _ r p q (sym (right_member whole place (placed src ts x) xs) ∙ h)

signs_some : {k : TokenKind} {ts : List Lexeme} {n : ℕ} → ReadsSigns k ts n → 0 < n
signs_some (l.one_sign p) = omega arith
signs_some (l.more_signs p r) = omega arith

bang_sign : (n : ℕ) (b : Bool) → no_sign (Some (cond b (sign.Bang (suc n)) sign.OverBang)) ≡ false
bang_sign n true = refl
bang_sign n false = refl

dash_sign : (n : ℕ) (b : Bool) → no_sign (Some (cond b (sign.Dash (suc n)) sign.OverDash)) ≡ false
dash_sign n true = refl
dash_sign n false = refl

bangs_sign : (n : ℕ) → 0 < n → no_sign (Some (bangs_of n)) ≡ false
bangs_sign zero h = absurd (omega arith)
bangs_sign (suc n) h = bang_sign n (nat_le (suc n) sign_limit)

dashes_sign : (n : ℕ) → 0 < n → no_sign (Some (dashes_of n)) ≡ false
dashes_sign zero h = absurd (omega arith)
dashes_sign (suc n) h = dash_sign n (nat_le (suc n) sign_limit)

signed_none : (b : Bool) (o : Outcome Attributes) (whole : Option Loc) (r : Attributes) → b ≡ false → cond b o (fault_outcome invalid_has_rhs whole) ≡ Ok r → ⊥
signed_none true o whole r e h = cc
signed_none false o whole r e h = cc

unary_sought : {src : List ℕ} {ts : List Lexeme} {x : Unary} (whole place : Option Loc) (r : Attributes) → ReadsUnary src ts x → right_side whole (at place (unary_form x)) ≡ Ok r → IsSought ts r.0 r.1
unary_sought {src = src} whole place r (l.plain {ts = ts} {x = x} p) h = member_sought whole (placed src ts x).loc r p (sym (right_unary whole place None (placed src ts x)) ∙ h)
unary_sought {src = src} whole place r (l.banged {us = us} {n = n} {x = x} s p) h = absurd (signed_none _ _ whole r (bangs_sign n (signs_some s)) (sym (right_unary whole place (Some (bangs_of n)) (placed src us x)) ∙ h))
unary_sought {src = src} whole place r (l.dashed {us = us} {n = n} {x = x} s p) h = absurd (signed_none _ _ whole r (dashes_sign n (signs_some s)) (sym (right_unary whole place (Some (dashes_of n)) (placed src us x)) ∙ h))

unaries_sought : {src : List ℕ} {ts : List Lexeme} {x : Cell Unary} {xs : List (MultOp × Cell Unary)} (whole : Option Loc) (r : Attributes) → ReadsUnaries src ts x xs → parts_of (map mult_operand xs) ≡ f.none → right_side whole (located unary_form x) ≡ Ok r → IsSought ts r.0 r.1
unaries_sought {src = src} whole r (l.one_unary {ts = ts} {x = x} p) none h = unary_sought whole (placed src ts x).loc r p h
unaries_sought {src = src} whole r (l.more_unary {us = us} {o = o} {y = y} {xs = xs} p q s t) none h = absurd (some_behind mult_operand xs (o, placed src us y) none)

mult_sought : {src : List ℕ} {ts : List Lexeme} {x : Mult} (whole place : Option Loc) (r : Attributes) → ReadsMult src ts x → right_side whole (at place (mult_form x)) ≡ Ok r → IsSought ts r.0 r.1
mult_sought whole place r (l.mult {x = x} {xs = xs} p) h =
    let d = right_alone whole product (located unary_form x) (parts_of (map mult_operand xs)) r (sym (right_mult whole place x xs) ∙ h) in
    unaries_sought whole r p d.0 d.1

mults_sought : {src : List ℕ} {ts : List Lexeme} {x : Cell Mult} {xs : List (AddOp × Cell Mult)} (whole : Option Loc) (r : Attributes) → ReadsMults src ts x xs → parts_of (map add_operand xs) ≡ f.none → right_side whole (located mult_form x) ≡ Ok r → IsSought ts r.0 r.1
mults_sought {src = src} whole r (l.one_mult {ts = ts} {x = x} p) none h = mult_sought whole (placed src ts x).loc r p h
mults_sought {src = src} whole r (l.more_mult {us = us} {o = o} {y = y} {xs = xs} p q s t) none h = absurd (some_behind add_operand xs (o, placed src us y) none)

-- the right side
pub add_sought : {src : List ℕ} {ts : List Lexeme} {x : Add} (whole place : Option Loc) (r : Attributes) → ReadsAdd src ts x → right_side whole (at place (add_form x)) ≡ Ok r → IsSought ts r.0 r.1
add_sought whole place r (l.add {x = x} {xs = xs} p) h =
    let d = right_alone whole sum (located mult_form x) (parts_of (map add_operand xs)) r (sym (right_add whole place x xs) ∙ h) in
    mults_sought whole r p d.0 d.1
