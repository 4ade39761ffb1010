use Rattle.std.proofs.Common.{◌≡◌, ◌<◌, ◌≤◌, ◌-◌, ℕ, suc, false, List, [], length, take, drop, slice_index_or, sym, ap, ◌∙◌, subst, arith}
use Rattle.std.specs.Char.{is_ascii_digit}
use Rattle.cedar_policy_store.specs.IdOrder.{trailing_digits, stem}
use Rattle.cedar_policy_store.proofs.Numbers.{AreDigits, all_digits, begins_behind}
use Rattle.cedar_policy_store.proofs.id_order.word_length.Goals as goal

-- the digits begin behind a byte that is none
behind : (text : List ℕ) (n : ℕ) → 0 < n → n ≤ length text → is_ascii_digit (slice_index_or text (n - 1) 0) ≡ false → AreDigits (drop n text) → (take n text ≡ stem text) × (drop n text ≡ trailing_digits text)
behind text n h l e p =
    let own : n ≡ suc (n - 1) = omega (arith, h) in
    let t = begins_behind text (n - 1) 0 (omega (arith, h, l)) e (subst (λ m. AreDigits (drop m text)) own p) in
    (ap (λ m. take m text) own ∙ t.0, ap (λ m. drop m text) own ∙ t.1)

nothing_before : (text : List ℕ) (n : ℕ) → n ≤ 0 → AreDigits (drop n text) → (stem text ≡ []) × (trailing_digits text ≡ text)
nothing_before text n l p =
    let none : n ≡ 0 = omega (arith, l) in
    all_digits text (subst (λ m. AreDigits (drop m text)) none p)

pub returns-then-not-is_ascii_digit-clause-before : goal.returns-then-not-is_ascii_digit-clause-before
returns-then-not-is_ascii_digit-clause-before c = (behind c.args.text.now c.loop-length.length c.loop-length-test.true c.loop-length.invariant.0 (sym c.is_ascii_digit.ensures.value ∙ c.if-not-is_ascii_digit.true) c.loop-length.invariant.1).0

pub returns-then-not-is_ascii_digit-clause-behind : goal.returns-then-not-is_ascii_digit-clause-behind
returns-then-not-is_ascii_digit-clause-behind c = (behind c.args.text.now c.loop-length.length c.loop-length-test.true c.loop-length.invariant.0 (sym c.is_ascii_digit.ensures.value ∙ c.if-not-is_ascii_digit.true) c.loop-length.invariant.1).1

pub returns-clause-before : goal.returns-clause-before
returns-clause-before c = sym (nothing_before c.args.text.now c.loop-length.length (omega (arith, c.loop-length-test.false)) c.loop-length.invariant.1).0

pub returns-clause-behind : goal.returns-clause-behind
returns-clause-behind c = sym (nothing_before c.args.text.now c.loop-length.length (omega (arith, c.loop-length-test.false)) c.loop-length.invariant.1).1
