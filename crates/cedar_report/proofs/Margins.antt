-- Where lines begin policies, byte by byte.
use Rattle.std.proofs.Common.{◌≡◌, ◌≤◌, ◌<◌, ℕ, ◌+◌, List, [], ◌∷◌, ◌++◌, Bool, true, false, length, take, drop, get_or, refl, sym, ap, ◌∙◌, arith, ⊎_elim}
use Rattle.std.specs.Prelude.{◌&&◌, ◌||◌, if◌then◌else◌, nat_lt}
use Rattle.std.specs.Char.{is_ascii_whitespace}
use Rattle.std.specs.List.{list_all}
use Rattle.std.proofs.Math.Bool.{and-true, and_assoc}
use Rattle.std.proofs.lemmas.Bool.{lt-ltb, ltb-true, cases_lt, false≢true}
use Rattle.std.proofs.lemmas.List.Folds.{list_all-append}
use Rattle.std.proofs.lemmas.List.Sums.{fold_more}
use Rattle.cedar_syntax.specs.places.Position.{is_line_feed, line_with, last_line, line_behind}
use Rattle.cedar_report.specs.Behind.{begins_policy, is_in_margin, begins_behind}
use Rattle.cedar_report.proofs.SpotSteps.{line_more}

-- the bytes from one up to another: whether the other stands in a margin, and that no line begins
-- a policy before it
pub record Passed (text : List ℕ) (from at : ℕ) (is_margin : Bool) : Type 0 where
  pub order : line_behind (take from text) ≤ line_behind (take at text)
  pub margin : is_margin ≡ is_in_margin text from at
  pub onward : is_margin ≡ true → from < at
  pub none : (k : ℕ) → from ≤ k → k < at → begins_behind text from k ≡ false

false_of : (b : Bool) → ¬ (b ≡ true) → b ≡ false
false_of true h = absurd (h refl)
false_of false h = refl

not_less : (n : ℕ) → nat_lt n n ≡ false
not_less n = false_of (nat_lt n n) (λ e. absurd (omega (arith, ltb-true n n e)))

pub nothing_passed : (text : List ℕ) (from : ℕ) → Passed text from from false
nothing_passed text from = record {
  order = omega arith;
  margin = sym (ap (λ b. b && list_all is_ascii_whitespace (last_line (take from text))) (not_less (line_behind (take from text))));
  onward = λ e. absurd (false≢true e);
  none = λ k l m. absurd (omega arith);
}

-- the margin behind one byte more
margin_with : (feed : Bool) (first n m : ℕ) (line : List ℕ) (byte : ℕ) → first ≤ n → m ≡ n + (if feed then 1 else 0)
    → (feed || ((nat_lt first n && list_all is_ascii_whitespace line) && is_ascii_whitespace byte)) ≡ (nat_lt first m && list_all is_ascii_whitespace (if feed then [] else line ++ byte ∷ []))
margin_with true first n m line byte l e = sym (ap (λ b. b && true) (lt-ltb first m (omega arith)))
margin_with false first n m line byte l e =
    let same : m ≡ n = omega arith in
    rw same (and_assoc (nat_lt first n) (list_all is_ascii_whitespace line) (is_ascii_whitespace byte)
    ∙ ap (λ b. nat_lt first n && b) (ap (λ b. list_all is_ascii_whitespace line && b) (sym (and-true (is_ascii_whitespace byte))) ∙ sym (list_all-append is_ascii_whitespace line (byte ∷ []))))

pub one_passed : (text : List ℕ) (from at : ℕ) (before now : Bool) (byte : ℕ) → Passed text from at before → from ≤ at → at < length text → byte ≡ get_or text at 0
    → (before && begins_policy (drop at text)) ≡ false → now ≡ (is_line_feed byte || (before && is_ascii_whitespace byte)) → Passed text from (at + 1) now
one_passed text from at before now byte p o l e b m =
    let first = line_behind (take from text) in
    let line : line_behind (take (at + 1) text) ≡ line_behind (take at text) + (if is_line_feed (get_or text at 0) then 1 else 0) = sym (line_more text at (line_behind (take at text)) (line_behind (take at text) + (if is_line_feed (get_or text at 0) then 1 else 0)) l refl refl) in
    let margin : now ≡ is_in_margin text from (at + 1) =
    m ∙ ap (λ x. is_line_feed x || (before && is_ascii_whitespace x)) e ∙ ap (λ x. is_line_feed (get_or text at 0) || (x && is_ascii_whitespace (get_or text at 0))) p.margin
    ∙ margin_with (is_line_feed (get_or text at 0)) first (line_behind (take at text)) (line_behind (take (at + 1) text)) (last_line (take at text)) (get_or text at 0) p.order line
    ∙ ap (λ x. nat_lt first (line_behind (take (at + 1) text)) && list_all is_ascii_whitespace x) (sym (fold_more line_with [] text at 0 l)) in
    record {
      order = omega (arith, line, p.order);
      margin = margin;
      onward = λ h. omega arith;
      none = λ k f t. ⊎_elim (λ s. p.none k f s) (λ s.
          let same : k ≡ at = omega arith in
          rw same (ap (λ x. x && begins_policy (drop at text)) (sym p.margin) ∙ b)) (cases_lt k at);
    }

-- the byte at which one begins
pub begins_there : (text : List ℕ) (from at : ℕ) (is_margin : Bool) → Passed text from at is_margin → (is_margin && begins_policy (drop at text)) ≡ true → begins_behind text from at ≡ true
begins_there text from at is_margin p b = ap (λ x. x && begins_policy (drop at text)) (sym p.margin) ∙ b
