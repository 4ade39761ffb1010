-- No line of a layout ends with white space, but within a word.
use Rattle.std.proofs.Common.{◌≡◌, ℕ, zero, suc, ◌+◌, Bool, true, false, List, [], ◌∷◌, ◌++◌, length, drop, replicate, refl, sym, ap, ◌∙◌, subst, arith, inl, inr, append_assoc}
use Rattle.std.specs.Prelude.{◌&&◌, ◌||◌, ◌==◌, ◌⊎◌, not}
use Rattle.std.specs.List.{AllPass}
use Rattle.std.proofs.lemmas.Bool.{cases_Bool, and_parts}
use Rattle.std.proofs.lemmas.List.{length-append}
use Rattle.std.proofs.lemmas.List.Elements.{All-head, All-tail}
use Rattle.cedar_lexer.specs.Cut.{is_in_line, Cuts}
use Rattle.cedar_lexer.specs.Token.{Lexeme}
use Rattle.cedar_lexer.proofs.Cuts.{one_end, nothing_at_end}
use Rattle.cedar_lexer.proofs.Spaced.{behind}
use Rattle.cedar_layout.specs.Ends.{ends_cleanly, EndCleanly}
use Rattle.cedar_layout.specs.Pieces.{SpacedItem, Item, word, beside, below, items_of, is_blank_byte, before_trimmed, trimmed, IsReadAs}
use Rattle.cedar_layout.specs.Laid.{Separator, nothing, space, line, separator_text, item_text, LaidItem, written_text, file_text, Before, start, then_behind, IsCommentText, IsWhole, MayStand}
use Rattle.cedar_layout.specs.Layouts.{LayoutRule, laid_items, laid_out}
use Rattle.cedar_layout.proofs.Kept.{laid_stand}
use Rattle.cedar_layout.proofs.Rereading.{tokens_at, with_token, range_at, laid_cut}
use Rattle.cedar_layout.proofs.Stood.{read_stands}

-- ---- bytes one after the other

abbrev blank_behind : Bool → List ℕ → Bool
blank_behind q [] = q
blank_behind q (b ∷ bs) = blank_behind (is_blank_byte b) bs

-- clean, and no blank byte stands last
record Clean (q : Bool) (bs : List ℕ) : Type 0 where
  clean : ends_cleanly q bs ≡ true
  last : blank_behind q bs ≡ false

both_true : (a b : Bool) → a ≡ true → b ≡ true → a && b ≡ true
both_true true b p q = q
both_true false b p q = absurd (cc)

clean_join : (q : Bool) (a b : List ℕ) → ends_cleanly q a ≡ true → ends_cleanly (blank_behind q a) b ≡ true → ends_cleanly q (a ++ b) ≡ true
clean_join q [] b p h = h
clean_join q (x ∷ a) b p h = let e = and_parts _ _ p in both_true _ _ e.0 (clean_join (is_blank_byte x) a b e.1 h)

blank_join : (q : Bool) (a b : List ℕ) → blank_behind q (a ++ b) ≡ blank_behind (blank_behind q a) b
blank_join q [] b = refl
blank_join q (x ∷ a) b = blank_join (is_blank_byte x) a b

spaces_clean : (q : Bool) (n : ℕ) → ends_cleanly q (replicate n 32) ≡ true
spaces_clean q zero = refl
spaces_clean true (suc n) = spaces_clean true n
spaces_clean false (suc n) = spaces_clean true n

separator_clean : (p : Separator) → ends_cleanly false (separator_text p) ≡ true
separator_clean nothing = refl
separator_clean space = refl
separator_clean (line true n) = spaces_clean false n
separator_clean (line false n) = spaces_clean false n

-- ---- a comment

no_feed : (q : Bool) (b : ℕ) → is_in_line b ≡ true → not (q && b == 10) ≡ true
no_feed true b h = not-first (b == 10) (b == 13) h
  where
    not-first : (x y : Bool) → not (x || y) ≡ true → not x ≡ true
    not-first true y h = h
    not-first false y h = refl
no_feed false b h = refl

line_clean : (q : Bool) (bs : List ℕ) → AllPass is_in_line bs → ends_cleanly q bs ≡ true
line_clean q [] h = refl
line_clean q (b ∷ bs) h = both_true _ _ (no_feed q b (All-head (λ x. is_in_line x ≡ true) b bs h)) (line_clean (is_blank_byte b) bs (All-tail (λ x. is_in_line x ≡ true) b bs h))

last_at : (q : Bool) (b : ℕ) (t : List ℕ) → ((t ≡ []) ⊎ ((q : Bool) → blank_behind q t ≡ false)) → (before_trimmed b t ≡ []) ⊎ ((q : Bool) → blank_behind q (before_trimmed b t) ≡ false)
last_at q b [] h = elim (cases_Bool (is_blank_byte b)) [
  | inl blank ↦ inl (rw blank refl)
  | inr other ↦ inr (λ q. rw other other)
]
last_at q b (c ∷ cs) (inl none) = absurd (cc)
last_at q b (c ∷ cs) (inr h) = inr (λ q. h (is_blank_byte b))

trimmed_last : (bs : List ℕ) → (trimmed bs ≡ []) ⊎ ((q : Bool) → blank_behind q (trimmed bs) ≡ false)
trimmed_last [] = inl refl
trimmed_last (b ∷ bs) = last_at false b (trimmed bs) (trimmed_last bs)

comment_last : (q : Bool) (c : List ℕ) → IsCommentText c → blank_behind q c ≡ false
comment_last q c (bytes, is, inner, trim) = elim (trimmed_last c) [
  | inl none ↦ absurd (some bytes (sym is ∙ (sym trim ∙ none)))
  | inr h ↦ subst (λ t. blank_behind q t ≡ false) trim (h q)
]
  where
    some : (bytes : List ℕ) → 47 ∷ 47 ∷ bytes ≡ [] → ⊥
    some bytes e = cc

comment_clean : (q : Bool) (c : List ℕ) → IsCommentText c → ends_cleanly q c ≡ true
comment_clean true c (bytes, is, inner, trim) = subst (λ t. ends_cleanly true t ≡ true) (sym is) (line_clean false bytes inner)
comment_clean false c (bytes, is, inner, trim) = subst (λ t. ends_cleanly false t ≡ true) (sym is) (line_clean false bytes inner)

-- ---- all items

piece_clean : (front : List ℕ) (p : Separator) → Clean false front → ends_cleanly false (front ++ separator_text p) ≡ true
piece_clean front p h = clean_join false front (separator_text p) h.clean (subst (λ q. ends_cleanly q (separator_text p) ≡ true) (sym h.last) (separator_clean p))

comment_joins : (front : List ℕ) (p : Separator) (c : List ℕ) → Clean false front → IsCommentText c → Clean false (front ++ (separator_text p ++ c))
comment_joins front p c h t =
    let s = separator_text p in
    let all : (front ++ s) ++ c ≡ front ++ (s ++ c) = append_assoc front s c in
    record {
      clean = subst (λ x. ends_cleanly false x ≡ true) all (clean_join false (front ++ s) c (piece_clean front p h) (comment_clean (blank_behind false (front ++ s)) c t));
      last = subst (λ x. blank_behind false x ≡ false) all (blank_join false (front ++ s) c ∙ comment_last (blank_behind false (front ++ s)) c t);
    }

none_clean : Clean false []
none_clean = record { clean = refl; last = refl }

-- a comment, and then what stands behind it
comment_on : (source : List ℕ) (p : Separator) (c : List ℕ) (ls : List LaidItem) (place i : ℕ) (front : List ℕ) → IsCommentText c → (b : Before) → MayStand b ls
    → drop place source ≡ front ++ (separator_text p ++ (c ++ written_text ls)) → i ≡ place + length front → Clean false front
    → ((b : Before) (place i : ℕ) (front : List ℕ) → MayStand b ls → drop place source ≡ front ++ written_text ls → i ≡ place + length front → Clean false front → EndCleanly source place (tokens_at i ls))
    → EndCleanly source place (tokens_at (i + length (separator_text p) + length c) ls)
comment_on source p c ls place i front t b m stands e h more =
    let s = separator_text p in
    let both : drop place source ≡ (front ++ (s ++ c)) ++ written_text ls = stands ∙ (ap (λ x. front ++ x) (sym (append_assoc s c (written_text ls))) ∙ sym (append_assoc front (s ++ c) (written_text ls))) in
    let far : i + length s + length c ≡ place + length (front ++ (s ++ c)) = omega (arith, e, length-append front (s ++ c), length-append s c) in
    more b place (i + length s + length c) (front ++ (s ++ c)) m both far (comment_joins front p c h t)

item_clean : (source : List ℕ) (p : Separator) (item : Item) (ls : List LaidItem) (place i : ℕ) (front : List ℕ) → IsWhole item → MayStand (then_behind item) ls
    → drop place source ≡ front ++ (separator_text p ++ (item_text item ++ written_text ls)) → i ≡ place + length front → Clean false front
    → ((b : Before) (place i : ℕ) (front : List ℕ) → MayStand b ls → drop place source ≡ front ++ written_text ls → i ≡ place + length front → Clean false front → EndCleanly source place (tokens_at i ls))
    → EndCleanly source place (with_token (i + length (separator_text p)) item (tokens_at (i + length (separator_text p) + length (item_text item)) ls))
item_clean source p (word w) ls place i front whole m stands e h more =
    let s = separator_text p in
    let j = i + length s in
    let rest = w.text ++ written_text ls in
    let both : drop place source ≡ (front ++ s) ++ rest = stands ∙ sym (append_assoc front s rest) in
    let far : j ≡ place + length (front ++ s) = omega (arith, e, length-append front s) in
    let there : drop j source ≡ rest = ap (λ x. drop x source) far ∙ behind source place (front ++ s) rest both in
    let next : drop (j + length w.text) source ≡ written_text ls = behind source j w.text (written_text ls) there in (
      subst (λ x. ends_cleanly false x ≡ true) (sym (range_at source place j (front ++ s) rest both far)) (piece_clean front p h),
      more (then_behind (word w)) (j + length w.text) (j + length w.text) [] m next (omega arith) none_clean,
    )
item_clean source p (beside c) ls place i front whole m stands e h more = comment_on source p c ls place i front whole (then_behind (beside c)) m stands e h more
item_clean source p (below c) ls place i front whole m stands e h more = comment_on source p c ls place i front whole (then_behind (below c)) m stands e h more

all_clean : (source : List ℕ) (ls : List LaidItem) (b : Before) (place i : ℕ) (front : List ℕ) → MayStand b ls → drop place source ≡ front ++ written_text ls → i ≡ place + length front → Clean false front → EndCleanly source place (tokens_at i ls)
all_clean source [] b place i front m stands e h =
    subst (λ x. ends_cleanly false x ≡ true) (sym stands) (clean_join false front (10 ∷ []) h.clean (subst (λ q. ends_cleanly q (10 ∷ []) ≡ true) (sym h.last) refl))
all_clean source (l ∷ ls) b place i front m stands e h = item_clean source l.separator l.item ls place i front m.0 m.2 stands e h (all_clean source ls)

items_clean : (ls : List LaidItem) → MayStand start ls → EndCleanly (file_text ls) 0 (tokens_at 0 ls)
items_clean [] m = refl
items_clean (l ∷ ls) m = all_clean (file_text (l ∷ ls)) (l ∷ ls) start 0 0 [] m refl refl none_clean

pub layout_clean : (layout : LayoutRule) (source : List ℕ) (ps : List SpacedItem) (us : List Lexeme) → IsReadAs source ps → Cuts (laid_out layout ps) us → EndCleanly (laid_out layout ps) 0 us
layout_clean layout source ps us r cut =
    let out = laid_out layout ps in
    let ls = laid_items start (layout (items_of ps)) ps in
    let m = laid_stand start (layout (items_of ps)) ps (read_stands source ps r) in
    subst (EndCleanly out 0) (one_end (laid_cut ls m) (nothing_at_end out) cut (nothing_at_end out)).0 (items_clean ls m)

-- ---- a line feed at the end

written_ends : (ls : List LaidItem) → (front : List ℕ) × (written_text ls ≡ front ++ (10 ∷ []))
written_ends [] = ([], refl)
written_ends (l ∷ ls) =
    let h = written_ends ls in
    let s = separator_text l.separator in
    let t = item_text l.item in (
      s ++ (t ++ h.0),
      ap (λ x. s ++ (t ++ x)) h.1 ∙ (ap (λ x. s ++ x) (sym (append_assoc t h.0 (10 ∷ []))) ∙ sym (append_assoc s (t ++ h.0) (10 ∷ []))),
    )

file_ends : (ls : List LaidItem) → (file_text ls ≡ []) ⊎ ((front : List ℕ) × (file_text ls ≡ front ++ (10 ∷ [])))
file_ends [] = inl refl
file_ends (l ∷ ls) = inr (written_ends (l ∷ ls))

pub layout_ends : (layout : LayoutRule) (ps : List SpacedItem) → (laid_out layout ps ≡ []) ⊎ ((front : List ℕ) × (laid_out layout ps ≡ front ++ (10 ∷ [])))
layout_ends layout ps = file_ends (laid_items start (layout (items_of ps)) ps)
