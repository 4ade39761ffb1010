-- The list of expected kinds, by what a state allows.
use Rattle.std.specs.Prelude.{IsTrue, ◌↔◌, ◌||◌, ◌&&◌, cond, ◌⊎◌}
use Rattle.std.proofs.Common.{◌≡◌, List, [], ◌∷◌, Option, Some, Bool, true, false, refl, ap, inl, inr}
use Rattle.cedar_lexer.specs.Token.{Lexeme}
use Rattle.cedar_lexer.specs.declared.token.TokenKind.{TokenKind}
use Rattle.cedar_lexer.specs.declared.token.TokenKind.TheVariants as kind
use Rattle.cedar_grammar.specs.declared.reading.expected.ClosersOnly.{ClosersOnly}
use Rattle.cedar_grammar.specs.faults.Expected.{by_name, is_closer, can_narrow, IsNarrowed, Picks, no_kind, picked, passed, IsIn, here, there, IsExpected, all_allowed, closers}
use Rattle.cedar_grammar.specs.grammar.Sentences.{Allowed}
use Rattle.cedar_grammar.specs.machines.Judged.{any_closer, is_narrowed, picks, picked_kinds, wanted_kinds}
use Rattle.cedar_grammar.proofs.machines.Laws.{false_true}

-- a state allows just these kinds, and perhaps the end
abbrev pub Decides : {T : Type 0} → (List Lexeme → T → Type 0) → List TokenKind → (Option TokenKind → Bool) → Type 0
Decides R ks p = (k : TokenKind) → IsTrue (p (Some k)) ↔ Allowed R ks (Some k)

both : (a b : Bool) → (a && b) ≡ true → (a ≡ true) × (b ≡ true)
both true b e = (refl, e)
both false b e = absurd (cc)

and_true : (a b : Bool) → a ≡ true → b ≡ true → (a && b) ≡ true
and_true true b e f = f
and_true false b e f = absurd (cc)

either : (a b : Bool) → (a || b) ≡ true → (a ≡ true) ⊎ (b ≡ true)
either true b e = inl refl
either false b e = inr e

or_left : (a b : Bool) → a ≡ true → (a || b) ≡ true
or_left true b e = refl
or_left false b e = absurd (cc)

or_right : (a b : Bool) → b ≡ true → (a || b) ≡ true
or_right true b e = refl
or_right false b e = e

-- ---- picking

pick_one : (P : TokenKind → Type 0) (k : TokenKind) (ks us : List TokenKind) (c : Bool) → (c ≡ true → P k) → (c ≡ false → ¬ (P k)) → Picks P ks us → Picks P (k ∷ ks) (cond c (k ∷ us) us)
pick_one P k ks us true y n h = picked (y refl) h
pick_one P k ks us false y n h = passed (n refl) h

pick_all : (P : TokenKind → Type 0) (b : Bool) (p : Option TokenKind → Bool) → ((k : TokenKind) → picks b p k ≡ true → P k) → ((k : TokenKind) → picks b p k ≡ false → ¬ (P k)) → (ks : List TokenKind) → Picks P ks (picked_kinds b p ks)
pick_all P b p y n [] = no_kind
pick_all P b p y n (k ∷ ks) = pick_one P k ks (picked_kinds b p ks) (picks b p k) (y k) (n k) (pick_all P b p y n ks)

pub one_pick : {P : TokenKind → Type 0} {ks us vs : List TokenKind} → Picks P ks us → Picks P ks vs → us ≡ vs
one_pick no_kind no_kind = refl
one_pick (picked {k = k} p h) (picked q g) = ap (λ us. k ∷ us) (one_pick h g)
one_pick (picked p h) (passed q g) = absurd (q p)
one_pick (passed p h) (picked q g) = absurd (p q)
one_pick (passed p h) (passed q g) = one_pick h g

-- ---- narrowing

some_closer : (p : TokenKind → Bool) (ks : List TokenKind) → any_closer p ks ≡ true → (k : TokenKind) × (is_closer k ≡ true) × (p k ≡ true)
some_closer p [] e = absurd (cc)
some_closer p (k ∷ ks) e = go (λ h. some_closer p ks h) (either (is_closer k && p k) (any_closer p ks) e)
  where
    go : (any_closer p ks ≡ true → (k : TokenKind) × (is_closer k ≡ true) × (p k ≡ true)) → ((is_closer k && p k) ≡ true) ⊎ (any_closer p ks ≡ true) → (k : TokenKind) × (is_closer k ≡ true) × (p k ≡ true)
    go more (inl h) = let b = both (is_closer k) (p k) h in (k, b.0, b.1)
    go more (inr h) = more h

-- each kind stands in the table

ten : {k a b c d e f g h i j : TokenKind} {ks : List TokenKind} → IsIn k ks → IsIn k (a ∷ b ∷ c ∷ d ∷ e ∷ f ∷ g ∷ h ∷ i ∷ j ∷ ks)
ten h = there (there (there (there (there (there (there (there (there (there h)))))))))

pub each_kind : (k : TokenKind) → IsIn k by_name
each_kind kind.Bang = here
each_kind kind.NotEq = there here
each_kind kind.Percent = there (there here)
each_kind kind.AndAnd = there (there (there here))
each_kind kind.OpenParen = there (there (there (there here)))
each_kind kind.CloseParen = there (there (there (there (there here))))
each_kind kind.Star = there (there (there (there (there (there here)))))
each_kind kind.Plus = there (there (there (there (there (there (there here))))))
each_kind kind.Comma = there (there (there (there (there (there (there (there here)))))))
each_kind kind.Minus = there (there (there (there (there (there (there (there (there here))))))))
each_kind kind.Dot = ten here
each_kind kind.Slash = ten (there here)
each_kind kind.Colon = ten (there (there here))
each_kind kind.ColonColon = ten (there (there (there here)))
each_kind kind.Semicolon = ten (there (there (there (there here))))
each_kind kind.Less = ten (there (there (there (there (there here)))))
each_kind kind.LessEq = ten (there (there (there (there (there (there here))))))
each_kind kind.Eq = ten (there (there (there (there (there (there (there here)))))))
each_kind kind.EqEq = ten (there (there (there (there (there (there (there (there here))))))))
each_kind kind.Greater = ten (there (there (there (there (there (there (there (there (there here)))))))))
each_kind kind.GreaterEq = ten (ten here)
each_kind kind.At = ten (ten (there here))
each_kind kind.OpenBracket = ten (ten (there (there here)))
each_kind kind.CloseBracket = ten (ten (there (there (there here))))
each_kind kind.OpenBrace = ten (ten (there (there (there (there here)))))
each_kind kind.OrOr = ten (ten (there (there (there (there (there here))))))
each_kind kind.CloseBrace = ten (ten (there (there (there (there (there (there here)))))))
each_kind kind.Action = ten (ten (there (there (there (there (there (there (there here))))))))
each_kind kind.Context = ten (ten (there (there (there (there (there (there (there (there here)))))))))
each_kind kind.Else = ten (ten (there (there (there (there (there (there (there (there (there here))))))))))
each_kind kind.False = ten (ten (ten here))
each_kind kind.Forbid = ten (ten (ten (there here)))
each_kind kind.Has = ten (ten (ten (there (there here))))
each_kind kind.Identifier = ten (ten (ten (there (there (there here)))))
each_kind kind.If = ten (ten (ten (there (there (there (there here))))))
each_kind kind.In = ten (ten (ten (there (there (there (there (there here)))))))
each_kind kind.Is = ten (ten (ten (there (there (there (there (there (there here))))))))
each_kind kind.Like = ten (ten (ten (there (there (there (there (there (there (there here)))))))))
each_kind kind.Number = ten (ten (ten (there (there (there (there (there (there (there (there here))))))))))
each_kind kind.OtherSlot = ten (ten (ten (there (there (there (there (there (there (there (there (there here)))))))))))
each_kind kind.Permit = ten (ten (ten (ten here)))
each_kind kind.Principal = ten (ten (ten (ten (there here))))
each_kind kind.PrincipalSlot = ten (ten (ten (ten (there (there here)))))
each_kind kind.Resource = ten (ten (ten (ten (there (there (there here))))))
each_kind kind.ResourceSlot = ten (ten (ten (ten (there (there (there (there here)))))))
each_kind kind.StringLit = ten (ten (ten (ten (there (there (there (there (there here))))))))
each_kind kind.Then = ten (ten (ten (ten (there (there (there (there (there (there here)))))))))
each_kind kind.True = ten (ten (ten (ten (there (there (there (there (there (there (there here))))))))))
each_kind kind.Unless = ten (ten (ten (ten (there (there (there (there (there (there (there (there here)))))))))))
each_kind kind.When = ten (ten (ten (ten (there (there (there (there (there (there (there (there (there here))))))))))))

closer_there : (p : TokenKind → Bool) (k : TokenKind) {ks : List TokenKind} → IsIn k ks → is_closer k ≡ true → p k ≡ true → any_closer p ks ≡ true
closer_there p k (here {ks = ks}) c e = or_left (is_closer k && p k) (any_closer p ks) (and_true (is_closer k) (p k) c e)
closer_there p k (there {j = j} {ks = ks} h) c e = or_right (is_closer j && p j) (any_closer p ks) (closer_there p k h c e)

narrowed_so : {T : Type 0} (R : List Lexeme → T → Type 0) (ks : List TokenKind) (p : Option TokenKind → Bool) (n : ClosersOnly) (after : Option TokenKind) → Decides R ks p → is_narrowed p n after ≡ true → IsNarrowed R n ks after
narrowed_so R ks p n after d e =
    let a = both (can_narrow n after) _ e in
    let b = both (p (Some kind.Star) || p (Some kind.AndAnd)) (any_closer (λ k. p (Some k)) by_name) a.1 in
    let c = some_closer (λ k. p (Some k)) by_name b.1 in
    record { may = a.0; operand = go (either (p (Some kind.Star)) (p (Some kind.AndAnd)) b.0); closer = (c.0, c.1, (d c.0).0 c.2) }
  where
    go : (p (Some kind.Star) ≡ true) ⊎ (p (Some kind.AndAnd) ≡ true) → Allowed R ks (Some kind.Star) ⊎ Allowed R ks (Some kind.AndAnd)
    go (inl h) = inl ((d kind.Star).0 h)
    go (inr h) = inr ((d kind.AndAnd).0 h)

so_narrowed : {T : Type 0} (R : List Lexeme → T → Type 0) (ks : List TokenKind) (p : Option TokenKind → Bool) (n : ClosersOnly) (after : Option TokenKind) → Decides R ks p → IsNarrowed R n ks after → is_narrowed p n after ≡ true
so_narrowed R ks p n after d h =
    and_true (can_narrow n after) _ h.may
    (and_true (p (Some kind.Star) || p (Some kind.AndAnd)) (any_closer (λ k. p (Some k)) by_name) (go h.operand) (closer_there (λ k. p (Some k)) h.closer.0 (each_kind h.closer.0) h.closer.1 ((d h.closer.0).1 h.closer.2)))
  where
    go : Allowed R ks (Some kind.Star) ⊎ Allowed R ks (Some kind.AndAnd) → (p (Some kind.Star) || p (Some kind.AndAnd)) ≡ true
    go (inl w) = or_left (p (Some kind.Star)) (p (Some kind.AndAnd)) ((d kind.Star).1 w)
    go (inr w) = or_right (p (Some kind.Star)) (p (Some kind.AndAnd)) ((d kind.AndAnd).1 w)

-- ---- what is expected

expected_as : {T : Type 0} (R : List Lexeme → T → Type 0) (ks : List TokenKind) (p : Option TokenKind → Bool) (n : ClosersOnly) (after : Option TokenKind) (b : Bool) → Decides R ks p → is_narrowed p n after ≡ b → IsExpected R n ks after (picked_kinds b p by_name)
expected_as R ks p n after true d e =
    closers (narrowed_so R ks p n after d e)
    (pick_all (λ k. IsTrue (is_closer k) × Allowed R ks (Some k)) true p (λ k h. let w = both (is_closer k) (p (Some k)) h in (w.0, (d k).0 w.1)) (λ k h w. false_true h (and_true (is_closer k) (p (Some k)) w.0 ((d k).1 w.1))) by_name)
expected_as R ks p n after false d e =
    all_allowed (λ h. false_true e (so_narrowed R ks p n after d h)) (pick_all (λ k. Allowed R ks (Some k)) false p (λ k h. (d k).0 h) (λ k h w. false_true h ((d k).1 w)) by_name)

pub expected_is : {T : Type 0} (R : List Lexeme → T → Type 0) (ks : List TokenKind) (p : Option TokenKind → Bool) (n : ClosersOnly) (after : Option TokenKind) → Decides R ks p → IsExpected R n ks after (wanted_kinds p n after)
expected_is R ks p n after d = expected_as R ks p n after (is_narrowed p n after) d refl

-- at most one list is expected
pub one_list : {T : Type 0} {R : List Lexeme → T → Type 0} {n : ClosersOnly} {ks : List TokenKind} {after : Option TokenKind} {us vs : List TokenKind} → IsExpected R n ks after us → IsExpected R n ks after vs → us ≡ vs
one_list (all_allowed h a) (all_allowed k b) = one_pick a b
one_list (all_allowed h a) (closers k b) = absurd (h k)
one_list (closers h a) (all_allowed k b) = absurd (k h)
one_list (closers h a) (closers k b) = one_pick a b
