-- What stands between words, read from left to right.
use Rattle.std.proofs.Common.{◌≡◌, ℕ, zero, suc, Bool, true, false, cond, List, [], ◌∷◌, ◌++◌, replicate, refl, sym, ap, ap₂, ◌∙◌, subst, inl, inr}
use Rattle.std.specs.Prelude.{◌==◌, not}
use Rattle.std.specs.List.{AllPass, take_while}
use Rattle.std.proofs.lemmas.Bool.{cases_Bool, eqb-true, not-true}
use Rattle.std.proofs.lemmas.List.Elements.{All-head, All-tail, All-cons}
use Rattle.std.proofs.lemmas.List.Sums.{take_while-cons}
use Rattle.cedar_lexer.specs.Cut.{is_line_end, is_in_line, EndsLine}
use Rattle.cedar_layout.specs.Pieces.{SpacedItem, Item, beside, below, trimmed, before_trimmed, is_blank_byte, comment_here, Standing, inside, outside, one_feed_more, behind_byte, behind_bytes, is_behind_blank, comment_piece, comments_in, are_many}
use Rattle.cedar_layout.specs.Laid.{Separator, nothing, space, line, separator_text, is_blank_line, Before, start, behind_word, behind_comment, may_stand, IsCommentText}

-- ---- bytes one after the other

pub behind_join : (s : Standing) (a b : List ℕ) → behind_bytes s (a ++ b) ≡ behind_bytes (behind_bytes s a) b
behind_join s [] b = refl
behind_join s (x ∷ a) b = behind_join (behind_byte s x) a b

-- where bytes end inside a comment, a line ends behind them
abbrev pub Closes : Standing → List ℕ → Type 0
Closes inside b = EndsLine b
Closes (outside near feeds) b = Unit {0}

line_ends_here : (b : List ℕ) → EndsLine b → take_while is_in_line b ≡ []
line_ends_here [] e = refl
line_ends_here (x ∷ b) e = take_while-cons is_in_line x b ∙ ap (λ q. cond (not q) (x ∷ take_while is_in_line b) []) e

comment_line : (a b : List ℕ) → Closes (behind_bytes inside a) b → take_while is_in_line (a ++ b) ≡ take_while is_in_line a
comment_line [] b c = line_ends_here b c
comment_line (x ∷ a) b c = elim (cases_Bool (is_line_end x)) [
  | inl end ↦ take_while-cons is_in_line x (a ++ b) ∙ (ap (λ q. cond (not q) (x ∷ take_while is_in_line (a ++ b)) []) end
      ∙ sym (take_while-cons is_in_line x a ∙ ap (λ q. cond (not q) (x ∷ take_while is_in_line a) []) end))
  | inr on ↦
      let next : Closes (behind_bytes inside a) b = subst (λ q. Closes (behind_bytes (cond q (outside false (cond (x == 10) 1 0)) inside) a) b) on c in
      take_while-cons is_in_line x (a ++ b) ∙ (ap (λ t. cond (is_in_line x) (x ∷ t) []) (comment_line a b next) ∙ sym (take_while-cons is_in_line x a))
]

pub comments_join : (s : Standing) (a b : List ℕ) → Closes (behind_bytes s a) b → comments_in s (a ++ b) ≡ comments_in s a ++ comments_in (behind_bytes s a) b
comments_join inside [] b c = refl
comments_join (outside near feeds) [] b c = refl
comments_join inside (x ∷ a) b c = comments_join (behind_byte inside x) a b c
comments_join (outside near feeds) (x ∷ a) b c = elim (cases_Bool (x == 47)) [
  | inl slash ↦
      let inner : Closes (behind_bytes inside a) b = subst (λ q. Closes (behind_bytes (cond q inside (cond (x == 10) (outside false (one_feed_more feeds)) (outside near feeds))) a) b) slash c in
      let whole : Closes (behind_bytes inside (x ∷ a)) b = subst (λ y. Closes (behind_bytes inside (y ∷ a)) b) (sym (eq x slash)) inner in
      rw slash (ap₂ (λ (t : List ℕ) (ps : List SpacedItem). comment_piece near feeds (trimmed t) ∷ ps) (comment_line (x ∷ a) b whole) (comments_join inside a b inner))
  | inr other ↦ rw other (comments_join (cond (x == 10) (outside false (one_feed_more feeds)) (outside near feeds)) a b (subst (λ q. Closes (behind_bytes (cond q inside (cond (x == 10) (outside false (one_feed_more feeds)) (outside near feeds))) a) b) other c))
]
  where
    eq : (x : ℕ) → (x == 47) ≡ true → x ≡ 47
    eq x e = eqb-true x 47 e

-- ---- a separator

spaces_keep : (n : ℕ) (near : Bool) (feeds : ℕ) → behind_bytes (outside near feeds) (replicate n 32) ≡ outside near feeds
spaces_keep zero near feeds = refl
spaces_keep (suc n) near feeds = spaces_keep n near feeds

spaces_none : (n : ℕ) (near : Bool) (feeds : ℕ) → comments_in (outside near feeds) (replicate n 32) ≡ []
spaces_none zero near feeds = refl
spaces_none (suc n) near feeds = spaces_none n near feeds

-- whatever stands before, a separator holds no comment, and a word behind it has a blank line before
-- it exactly if the separator has one
pub separator_none : (s : Standing) (p : Separator) → comments_in s (separator_text p) ≡ []
separator_none inside nothing = refl
separator_none (outside near feeds) nothing = refl
separator_none inside space = refl
separator_none (outside near feeds) space = refl
separator_none inside (line true n) = spaces_none n false 2
separator_none inside (line false n) = spaces_none n false 1
separator_none (outside near feeds) (line true n) = spaces_none n false (one_feed_more (one_feed_more feeds))
separator_none (outside near feeds) (line false n) = spaces_none n false (one_feed_more feeds)

-- behind nothing yet, a word or a comment
abbrev pub standing_of : Before → Standing
standing_of start = outside false 0
standing_of (behind_word kind) = outside true 0
standing_of behind_comment = inside

pub separator_blank : (b : Before) (p : Separator) → is_behind_blank (behind_bytes (standing_of b) (separator_text p)) ≡ is_blank_line p
separator_blank start nothing = refl
separator_blank (behind_word kind) nothing = refl
separator_blank behind_comment nothing = refl
separator_blank start space = refl
separator_blank (behind_word kind) space = refl
separator_blank behind_comment space = refl
separator_blank start (line true n) = ap is_behind_blank (spaces_keep n false 2)
separator_blank (behind_word kind) (line true n) = ap is_behind_blank (spaces_keep n false 2)
separator_blank behind_comment (line true n) = ap is_behind_blank (spaces_keep n false 2)
separator_blank start (line false n) = ap is_behind_blank (spaces_keep n false 1)
separator_blank (behind_word kind) (line false n) = ap is_behind_blank (spaces_keep n false 1)
separator_blank behind_comment (line false n) = ap is_behind_blank (spaces_keep n false 1)

-- ---- a comment

inside_none : (bs : List ℕ) → AllPass is_in_line bs → comments_in inside bs ≡ []
inside_none [] h = refl
inside_none (b ∷ bs) h = rw (in_line b (All-head (λ x. is_in_line x ≡ true) b bs h)) (inside_none bs (All-tail (λ x. is_in_line x ≡ true) b bs h))
  where
    in_line : (b : ℕ) → is_in_line b ≡ true → is_line_end b ≡ false
    in_line b h = not-true (is_line_end b) h

inside_stays : (bs : List ℕ) → AllPass is_in_line bs → behind_bytes inside bs ≡ inside
inside_stays [] h = refl
inside_stays (b ∷ bs) h = rw (in_line b (All-head (λ x. is_in_line x ≡ true) b bs h)) (inside_stays bs (All-tail (λ x. is_in_line x ≡ true) b bs h))
  where
    in_line : (b : ℕ) → is_in_line b ≡ true → is_line_end b ≡ false
    in_line b h = not-true (is_line_end b) h

whole_line : (bs : List ℕ) → AllPass is_in_line bs → take_while is_in_line bs ≡ bs
whole_line [] h = refl
whole_line (b ∷ bs) h = take_while-cons is_in_line b bs ∙ rw (All-head (λ x. is_in_line x ≡ true) b bs h) (ap (λ t. b ∷ t) (whole_line bs (All-tail (λ x. is_in_line x ≡ true) b bs h)))

pub slashes : (bytes : List ℕ) → AllPass is_in_line bytes → AllPass is_in_line (47 ∷ 47 ∷ bytes)
slashes bytes h = All-cons (λ x. is_in_line x ≡ true) 47 (47 ∷ bytes) refl (All-cons (λ x. is_in_line x ≡ true) 47 bytes refl h)

-- a line in front of what ends it
pub whole_before : (bs m : List ℕ) → AllPass is_in_line bs → EndsLine m → take_while is_in_line (bs ++ m) ≡ bs
whole_before [] m h e = line_ends_here m e
whole_before (b ∷ bs) m h e = take_while-cons is_in_line b (bs ++ m) ∙ rw (All-head (λ x. is_in_line x ≡ true) b bs h) (ap (λ t. b ∷ t) (whole_before bs m (All-tail (λ x. is_in_line x ≡ true) b bs h) e))

-- bytes of a comment's line are passed over
pub inside_passed : (bs m : List ℕ) → AllPass is_in_line bs → comments_in inside (bs ++ m) ≡ comments_in inside m
inside_passed [] m h = refl
inside_passed (b ∷ bs) m h = ap (λ q. comments_in (cond q (outside false (cond (b == 10) 1 0)) inside) (bs ++ m)) (in_line b (All-head (λ x. is_in_line x ≡ true) b bs h)) ∙ inside_passed bs m (All-tail (λ x. is_in_line x ≡ true) b bs h)
  where
    in_line : (b : ℕ) → is_in_line b ≡ true → is_line_end b ≡ false
    in_line b h = not-true (is_line_end b) h

pub comment_found : (near : Bool) (feeds : ℕ) (c : List ℕ) → IsCommentText c → comments_in (outside near feeds) c ≡ comment_piece near feeds c ∷ []
comment_found near feeds c (bytes, is, inner, trim) =
    subst (λ t. comments_in (outside near feeds) t ≡ comment_piece near feeds c ∷ []) (sym is)
    (ap₂ (λ (t : List ℕ) (ps : List SpacedItem). comment_piece near feeds t ∷ ps) (ap trimmed (whole_line (47 ∷ 47 ∷ bytes) (slashes bytes inner) ∙ sym is) ∙ trim) (inside_none bytes inner))

pub comment_stays : (near : Bool) (feeds : ℕ) (c : List ℕ) → IsCommentText c → behind_bytes (outside near feeds) c ≡ inside
comment_stays near feeds c (bytes, is, inner, trim) = subst (λ t. behind_bytes (outside near feeds) t ≡ inside) (sym is) (inside_stays bytes inner)

-- behind a separator, as it may stand there
pub record Met (s : Standing) (p : Separator) (c : List ℕ) (item : Item) : Type 0 where
  pub found : comments_in s (separator_text p ++ c) ≡ record { blank = is_blank_line p; item = item } ∷ []
  pub stays : behind_bytes s (separator_text p ++ c) ≡ inside

abbrev alone : Bool → Item → List SpacedItem
alone blank item = record { blank = blank; item = item } ∷ []

met : (s : Standing) (p : Separator) (near : Bool) (feeds : ℕ) (c : List ℕ) → IsCommentText c → behind_bytes s (separator_text p) ≡ outside near feeds → are_many feeds ≡ is_blank_line p → Met s p c (cond near (beside c) (below c))
met s p near feeds c t e blank = record {
  found = comments_join s (separator_text p) c (subst (λ q. Closes q c) (sym e) tt)
      ∙ (ap₂ (λ (a b : List SpacedItem). a ++ b) (separator_none s p) (ap (λ q. comments_in q c) e ∙ comment_found near feeds c t)
      ∙ ap (λ b. alone b (cond near (beside c) (below c))) blank);
  stays = behind_join s (separator_text p) c ∙ (ap (λ q. behind_bytes q c) e ∙ comment_stays near feeds c t);
}

pub below_met : (b : Before) (p : Separator) (c : List ℕ) → IsCommentText c → may_stand b p (below c) ≡ true → Met (standing_of b) p c (below c)
below_met start nothing c t m = met (outside false 0) nothing false 0 c t refl refl
below_met start space c t m = absurd (cc)
below_met start (line blank n) c t m = absurd (cc)
below_met (behind_word kind) nothing c t m = absurd (cc)
below_met (behind_word kind) space c t m = absurd (cc)
below_met (behind_word kind) (line true n) c t m = met (outside true 0) (line true n) false 2 c t (spaces_keep n false 2) refl
below_met (behind_word kind) (line false n) c t m = met (outside true 0) (line false n) false 1 c t (spaces_keep n false 1) refl
below_met behind_comment nothing c t m = absurd (cc)
below_met behind_comment space c t m = absurd (cc)
below_met behind_comment (line true n) c t m = met inside (line true n) false 2 c t (spaces_keep n false 2) refl
below_met behind_comment (line false n) c t m = met inside (line false n) false 1 c t (spaces_keep n false 1) refl

pub beside_met : (b : Before) (p : Separator) (c : List ℕ) → IsCommentText c → may_stand b p (beside c) ≡ true → Met (standing_of b) p c (beside c)
beside_met start nothing c t m = absurd (cc)
beside_met start space c t m = absurd (cc)
beside_met start (line blank n) c t m = absurd (cc)
beside_met (behind_word kind) nothing c t m = absurd (cc)
beside_met (behind_word kind) space c t m = met (outside true 0) space true 0 c t refl refl
beside_met (behind_word kind) (line blank n) c t m = absurd (cc)
beside_met behind_comment nothing c t m = absurd (cc)
beside_met behind_comment space c t m = absurd (cc)
beside_met behind_comment (line blank n) c t m = absurd (cc)

-- a line ends where a separator that may stand there follows a comment
pub separator_closes : (b : Before) (p : Separator) (item : Item) (rest : List ℕ) → may_stand b p item ≡ true → Closes (standing_of b) (separator_text p ++ rest)
separator_closes start p item rest m = tt
separator_closes (behind_word kind) p item rest m = tt
separator_closes behind_comment nothing item rest m = absurd (cc)
separator_closes behind_comment space item rest m = absurd (cc)
separator_closes behind_comment (line true n) item rest m = refl
separator_closes behind_comment (line false n) item rest m = refl

pub feed_closes : (s : Standing) (rest : List ℕ) → Closes s (10 ∷ rest)
feed_closes inside rest = refl
feed_closes (outside near feeds) rest = tt

pub feed_none : (s : Standing) → comments_in s (10 ∷ []) ≡ []
feed_none inside = refl
feed_none (outside near feeds) = refl

-- one byte read
pub comments_step : (s : Standing) (b : ℕ) (bs : List ℕ) → comments_in s (b ∷ bs) ≡ comment_here s b (b ∷ bs) ++ comments_in (behind_byte s b) bs
comments_step inside b bs = refl
comments_step (outside near feeds) b bs = elim (cases_Bool (b == 47)) [
  | inl slash ↦ rw slash refl
  | inr other ↦ rw other refl
]

-- ---- trimming from the end

pub trimmed_blank : (bs : List ℕ) (b : ℕ) → is_blank_byte b ≡ true → trimmed (bs ++ b ∷ []) ≡ trimmed bs
trimmed_blank [] b h = rw h refl
trimmed_blank (x ∷ bs) b h = ap (before_trimmed x) (trimmed_blank bs b h)

some_stays : (x : ℕ) (bs : List ℕ) (b : ℕ) → before_trimmed x (bs ++ b ∷ []) ≡ x ∷ (bs ++ b ∷ [])
some_stays x [] b = refl
some_stays x (c ∷ bs) b = refl

pub trimmed_visible : (bs : List ℕ) (b : ℕ) → is_blank_byte b ≡ false → trimmed (bs ++ b ∷ []) ≡ bs ++ b ∷ []
trimmed_visible [] b h = rw h refl
trimmed_visible (x ∷ bs) b h = ap (before_trimmed x) (trimmed_visible bs b h) ∙ some_stays x bs b
