-- The fields behind `has` that a loop has still to go over.
use Rattle.std.proofs.Common.{◌≡◌, ◌<◌, ◌≤◌, ◌+◌, ℕ, List, [], ◌∷◌, ◌++◌, append_assoc, append-nil, map, drop, length, get_or, Ok, Err, refl, sym, ap, ◌∙◌}
use Rattle.cedar_syntax.specs.declared.node.Node.{Node}
use Rattle.cedar_syntax.specs.declared.loc.Loc.{Loc}
use Rattle.cedar_syntax.specs.declared.cst.Expr.{Expr}
use Rattle.cedar_syntax.specs.declared.cst.Ident.{Ident}
use Rattle.cedar_syntax.specs.declared.cst.MemAccess.{MemAccess}
use Rattle.cedar_syntax.specs.declared.cst.MemAccess.TheVariants as accesses
use Rattle.cedar_syntax.specs.declared.err.faults.Failure.{Failure}
use Rattle.cedar_syntax.specs.trees.Forms.{access_form, listed_access, located, parts_of}
use Rattle.cedar_syntax.specs.trees.Located.{Form}
use Rattle.cedar_syntax.proofs.FormLevels.{access_field, access_call, access_index}
use Rattle.std.specs.Prelude.{Option, Some}
use Rattle.cedar_conversion.specs.parts.HasSide.{field_form, field_of, fields_of, string_alone}
use Rattle.cedar_conversion.specs.outcome.Outcome.{Outcome, fault_outcome, next, invalid_has_rhs}
use Rattle.cedar_conversion.specs.parts.Names.{unreserved_ident}
use Rattle.cedar_conversion.specs.outcome.Seen.{Refuses}
use Rattle.cedar_conversion.proofs.Loops.{drop_next, drop_whole}
use Rattle.cedar_conversion.proofs.Outcomes.{refused_next}

abbrev pub Cells : Type 0
Cells = List (Node (Option MemAccess))

-- what these accesses give behind identifiers that are already given
abbrev pub behind_given : List (List ℕ) → Cells → Outcome (List (List ℕ))
behind_given ids xs = next (fields_of (parts_of (map listed_access xs))) (λ rest. Ok (ids ++ rest))

abbrev pub fields_left : Cells → ℕ → List (List ℕ) → Outcome (List (List ℕ))
fields_left xs i ids = behind_given ids (drop i xs)

behind_none : (o : Outcome (List (List ℕ))) → next o (λ rest. Ok ([] ++ rest)) ≡ o
behind_none (Ok rest) = refl
behind_none (Err fs) = refl

pub all_left : (xs : Cells) → fields_left xs 0 [] ≡ fields_of (parts_of (map listed_access xs))
all_left xs = behind_none (fields_of (parts_of (map listed_access xs)))

one_given : (o : Outcome (List ℕ)) (p : Outcome (List (List ℕ))) (id : List ℕ) (ids : List (List ℕ)) → o ≡ Ok id
    → next (next o (λ first. next p (λ rest. Ok (first ∷ rest)))) (λ rest. Ok (ids ++ rest)) ≡ next p (λ rest. Ok ((ids ++ id ∷ []) ++ rest))
one_given o (Ok rest) id ids h = rw h (ap Ok (sym (append_assoc ids (id ∷ []) rest)))
one_given o (Err fs) id ids h = rw h refl

pub field_given : (xs : Cells) (i : ℕ) (x : Node (Option MemAccess)) (ids : List (List ℕ)) (id : List ℕ) → i < length xs → x ≡ get_or xs i x → field_of (located access_form x) ≡ Ok id
    → fields_left xs i ids ≡ fields_left xs (i + 1) (ids ++ id ∷ [])
field_given xs i x ids id h k g =
    ap (behind_given ids) (drop_next xs i x h k)
    ∙ one_given (field_of (located access_form x)) (fields_of (parts_of (map listed_access (drop (i + 1) xs)))) id ids g

pub field_refused : (f : Failure) (xs : Cells) (i : ℕ) (x : Node (Option MemAccess)) (ids : List (List ℕ)) → i < length xs → x ≡ get_or xs i x → Refuses f (field_of (located access_form x))
    → Refuses f (fields_left xs i ids)
field_refused f xs i x ids h k r = rw (drop_next xs i x h k) (refused_next f _ _ (refused_next f (field_of (located access_form x)) _ r))

pub none_left : (xs : Cells) (i : ℕ) (ids : List (List ℕ)) → length xs ≤ i → fields_left xs i ids ≡ Ok ids
none_left xs i ids h = ap (behind_given ids) (drop_whole xs i h) ∙ ap Ok (append-nil ids)

-- ---- one access, and a string before accesses

field_at : (n : Node (Option MemAccess)) (d : MemAccess) (t : Form) → n.node ≡ Some d → access_form d ≡ t → field_of (located access_form n) ≡ field_form n.loc t
field_at n d t h k = rw h (ap (λ u. field_form n.loc u) k)

pub is_field : (n : Node (Option MemAccess)) (d : MemAccess) (a : Node (Option Ident)) → n.node ≡ Some d → d ≡ accesses.Field a → field_of (located access_form n) ≡ unreserved_ident a
is_field n d a h k = field_at n d _ h (ap access_form k ∙ access_field a)

pub is_call : (n : Node (Option MemAccess)) (d : MemAccess) (a : List (Node (Option Expr))) → n.node ≡ Some d → d ≡ accesses.Call a → field_of (located access_form n) ≡ fault_outcome invalid_has_rhs n.loc
is_call n d a h k = field_at n d _ h (ap access_form k ∙ access_call a)

pub is_index : (n : Node (Option MemAccess)) (d : MemAccess) (a : Node (Option Expr)) → n.node ≡ Some d → d ≡ accesses.Index a → field_of (located access_form n) ≡ fault_outcome invalid_has_rhs n.loc
is_index n d a h k = field_at n d _ h (ap access_form k ∙ access_index a)

pub not_alone : (whole place : Option Loc) (raw : List ℕ) (xs : Cells) → (xs ≡ [] → ⊥) → string_alone whole place raw (parts_of (map listed_access xs)) ≡ fault_outcome invalid_has_rhs whole
not_alone whole place raw [] h = absurd (h refl)
not_alone whole place raw (x ∷ xs) h = refl
