-- The items that a text is read as are whole, and stand where they may.
use Rattle.std.proofs.Common.{◌≡◌, ℕ, ◌-◌, ◌<◌, ◌≤◌, Bool, true, false, cond, List, [], ◌∷◌, ◌++◌, length, take, drop, refl, sym, ap, ◌∙◌, subst, arith, inl, inr, append_assoc, append-nil}
use Rattle.std.specs.Prelude.{◌==◌, ◌⊎◌, slice_range}
use Rattle.std.specs.Char.{encode_utf8, is_whitespace}
use Rattle.std.specs.List.{All, AllPass, take_while}
use Rattle.std.proofs.lemmas.Bool.{cases_lt, cases_Bool, eqb-true}
use Rattle.std.proofs.lemmas.Bool.Decides.{nat_tests}
use Rattle.std.proofs.lemmas.List.{drop_all, take_at}
use Rattle.std.proofs.lemmas.List.Elements.{All-head, All-tail, All-cons}
use Rattle.std.proofs.lemmas.Str.{encode_ascii, length-encode, len_utf8_bounds}
use Rattle.cedar_lexer.specs.Cut.{is_line_end, is_in_line, EndsLine, IsSkip, space, comment, Layout, nothing, skip}
use Rattle.cedar_lexer.specs.Token.{Lexeme}
use Rattle.cedar_lexer.specs.Words.{TokenText, written, words_of}
use Rattle.cedar_lexer.proofs.Bytes.{encode_high}
use Rattle.cedar_lexer.proofs.Joints.{laid_bytes, laid_end, laid_stands, behind}
use Rattle.cedar_lexer.proofs.Padded.{up_to}
use Rattle.cedar_layout.specs.Pieces.{SpacedItem, Item, word, beside, below, items_of, is_blank_byte, before_trimmed, trimmed, Standing, inside, outside, one_feed_more, behind_byte, behind_bytes, comments_in, word_piece, pieces_behind, IsReadAs}
use Rattle.cedar_layout.specs.Laid.{Before, start, behind_word, behind_comment, then_behind, IsCommentText, IsWhole, may_come_behind, MayFollow, words_in}
use Rattle.cedar_layout.proofs.GapBytes as gap

-- ---- trimming

again_at : (b : ℕ) (t : List ℕ) → trimmed t ≡ t → trimmed (before_trimmed b t) ≡ before_trimmed b t
again_at b [] h = elim (cases_Bool (is_blank_byte b)) [
  | inl blank ↦ rw blank refl
  | inr other ↦ rw other (rw other refl)
]
again_at b (c ∷ cs) h = ap (before_trimmed b) h

trimmed_again : (bs : List ℕ) → trimmed (trimmed bs) ≡ trimmed bs
trimmed_again [] = refl
trimmed_again (b ∷ bs) = again_at b (trimmed bs) (trimmed_again bs)

kept_passes : (p : ℕ → Bool) (b : ℕ) (t : List ℕ) → p b ≡ true → AllPass p t → AllPass p (before_trimmed b t)
kept_passes p b [] h a = elim (cases_Bool (is_blank_byte b)) [
  | inl blank ↦ rw blank a
  | inr other ↦ rw other (All-cons (λ x. p x ≡ true) b [] h a)
]
kept_passes p b (c ∷ cs) h a = All-cons (λ x. p x ≡ true) b (c ∷ cs) h a

trimmed_passes : (p : ℕ → Bool) (bs : List ℕ) → AllPass p bs → AllPass p (trimmed bs)
trimmed_passes p [] a = a
trimmed_passes p (b ∷ bs) a = kept_passes p b (trimmed bs) (All-head (λ x. p x ≡ true) b bs a) (trimmed_passes p bs (All-tail (λ x. p x ≡ true) b bs a))

two_slashes : (t : List ℕ) → before_trimmed 47 (before_trimmed 47 t) ≡ 47 ∷ 47 ∷ t
two_slashes [] = refl
two_slashes (c ∷ cs) = refl

comment_whole : (bytes : List ℕ) → AllPass is_in_line bytes → IsCommentText (trimmed (47 ∷ 47 ∷ bytes))
comment_whole bytes a = (trimmed bytes, two_slashes (trimmed bytes), trimmed_passes is_in_line bytes a, trimmed_again (47 ∷ 47 ∷ bytes))

-- ---- one skip

-- bytes past ASCII neither begin a comment nor end a line
high_passed : (near : Bool) (feeds : ℕ) (hs m : List ℕ) → All (λ b. 128 ≤ b) hs → comments_in (outside near feeds) (hs ++ m) ≡ comments_in (outside near feeds) m
high_passed near feeds [] m a = refl
high_passed near feeds (h ∷ hs) m a =
    let big : 128 ≤ h = All-head (λ b. 128 ≤ b) h hs a in
    rw (no_slash h big, no_feed h big) (high_passed near feeds hs m (All-tail (λ b. 128 ≤ b) h hs a))
  where
    no_slash : (h : ℕ) → 128 ≤ h → (h == 47) ≡ false
    no_slash h big = grind (arith, nat_tests)

    no_feed : (h : ℕ) → 128 ≤ h → (h == 10) ≡ false
    no_feed h big = grind (arith, nat_tests)

white_no_slash : (c : ℕ) → is_whitespace c ≡ true → (c == 47) ≡ false
white_no_slash c w = elim (cases_Bool (c == 47)) [
  | inl is ↦ absurd (slash_dark (subst (λ x. is_whitespace x ≡ true) (eqb-true c 47 is) w))
  | inr other ↦ other
]
  where
    slash_dark : is_whitespace 47 ≡ true → ⊥
    slash_dark e = cc

-- a line ends here only by one of the two bytes
high_no_line : (hs m : List ℕ) → 0 < length hs → All (λ b. 128 ≤ b) hs → EndsLine (hs ++ m) → ⊥
high_no_line [] m some a e = absurd (omega (arith, some))
high_no_line (h ∷ hs) m some a e = dark h (All-head (λ b. 128 ≤ b) h hs a) e
  where
    dark : (h : ℕ) → 128 ≤ h → is_line_end h ≡ true → ⊥
    dark h big e = grind (arith, nat_tests)

-- where a front of bytes is not empty, its line ends where that of all does
pub front_line : (m rest : List ℕ) → EndsLine (m ++ rest) → EndsLine m
front_line [] rest e = tt
front_line (b ∷ m) rest e = e

-- ---- what stands between two words

abbrev pub IsBehindWord : Before → Type 0
IsBehindWord start = ⊥
IsBehindWord (behind_word kind) = Unit {0}
IsBehindWord behind_comment = ⊥

abbrev pub Agrees : Standing → Before → Type 0
Agrees inside b = Unit {0}
Agrees (outside true feeds) b = IsBehindWord b
Agrees (outside false feeds) b = Unit {0}

abbrev pub Fits : Standing → List ℕ → Type 0
Fits inside bs = EndsLine bs
Fits (outside near feeds) bs = Unit {0}

follows : (near : Bool) (feeds : ℕ) (b : Before) (c : List ℕ) → Agrees (outside near feeds) b → may_come_behind b (cond near (beside c) (below c)) ≡ true
follows true feeds start c a = absurd a
follows true feeds (behind_word kind) c a = refl
follows true feeds behind_comment c a = absurd a
follows false feeds start c a = refl
follows false feeds (behind_word kind) c a = refl
follows false feeds behind_comment c a = refl

comment_is : (near : Bool) (c : List ℕ) → IsCommentText c → IsWhole (cond near (beside c) (below c))
comment_is true c t = t
comment_is false c t = t

comment_then : (near : Bool) (c : List ℕ) → then_behind (cond near (beside c) (below c)) ≡ behind_comment
comment_then true c = refl
comment_then false c = refl

-- items behind a comment that begins here
begun : (near : Bool) (feeds : ℕ) (b : Before) (bytes m : List ℕ) (rest : List Item) → Agrees (outside near feeds) b → AllPass is_in_line bytes → EndsLine m → MayFollow behind_comment (items_of (comments_in inside m) ++ rest)
    → MayFollow b (items_of (comments_in (outside near feeds) (47 ∷ 47 ∷ bytes ++ m)) ++ rest)
begun near feeds b bytes m rest a inner ends more =
    let text = trimmed (take_while is_in_line (47 ∷ 47 ∷ bytes ++ m)) in
    let is : take_while is_in_line (47 ∷ 47 ∷ bytes ++ m) ≡ 47 ∷ 47 ∷ bytes = gap.whole_before (47 ∷ 47 ∷ bytes) m (gap.slashes bytes inner) ends in
    let whole : IsCommentText text = subst (λ t. IsCommentText (trimmed t)) (sym is) (comment_whole bytes inner) in
    let on : comments_in inside (47 ∷ bytes ++ m) ≡ comments_in inside m = gap.inside_passed (47 ∷ bytes) m (All-cons (λ x. is_in_line x ≡ true) 47 bytes refl inner) in (
      comment_is near text whole,
      follows near feeds b text a,
      subst (λ q. MayFollow q (items_of (comments_in inside (47 ∷ bytes ++ m)) ++ rest)) (sym (comment_then near text))
          (subst (λ ps. MayFollow behind_comment (items_of ps ++ rest)) (sym on) more),
    )

-- behind one character of white space the same comments follow
pub record Passed (s : Standing) (text m tail : List ℕ) : Type 0 where
  pub behind : Standing
  pub fits_from : Fits behind (m ++ tail)
  pub same : comments_in s (text ++ m) ≡ comments_in behind m
  pub agrees : (b : Before) → Agrees s b → Agrees behind b

pub white_passed : (s : Standing) (c : ℕ) (m tail : List ℕ) → is_whitespace c ≡ true → Fits s (encode_utf8 c ++ (m ++ tail)) → Passed s (encode_utf8 c) m tail
white_passed inside c m tail w fits_from = elim (cases_lt c 128) [
  | inl low ↦
      let ends : is_line_end c ≡ true = subst (λ t. EndsLine (t ++ (m ++ tail))) (encode_ascii c low) fits_from in
      record {
        behind = outside false (cond (c == 10) 1 0);
        fits_from = tt;
        same = ap (λ t. comments_in inside (t ++ m)) (encode_ascii c low) ∙ ended ends;
        agrees = λ b a. tt;
      }
  | inr high ↦ absurd (high_no_line (encode_utf8 c) (m ++ tail) (omega (arith, length-encode c, len_utf8_bounds c)) (encode_high c high) fits_from)
]
  where
    ended : is_line_end c ≡ true → comments_in inside (c ∷ m) ≡ comments_in (outside false (cond (c == 10) 1 0)) m
    ended e = rw e refl
white_passed (outside near feeds) c m tail w fits_from = elim (cases_lt c 128) [
  | inl low ↦ stepped low (cases_Bool (c == 10))
  | inr high ↦ record {
    behind = outside near feeds;
    fits_from = tt;
    same = high_passed near feeds (encode_utf8 c) m (encode_high c high);
    agrees = λ b a. a;
  }
]
  where
    fed : (c == 10) ≡ true → comments_in (outside near feeds) (c ∷ m) ≡ comments_in (outside false (one_feed_more feeds)) m
    fed feed = rw (white_no_slash c w, feed) refl

    passed : (c == 10) ≡ false → comments_in (outside near feeds) (c ∷ m) ≡ comments_in (outside near feeds) m
    passed other = rw (white_no_slash c w, other) refl

    stepped : c < 128 → ((c == 10) ≡ true) ⊎ ((c == 10) ≡ false) → Passed (outside near feeds) (encode_utf8 c) m tail
    stepped low (inl feed) = record {
      behind = outside false (one_feed_more feeds);
      fits_from = tt;
      same = ap (λ t. comments_in (outside near feeds) (t ++ m)) (encode_ascii c low) ∙ fed feed;
      agrees = λ b a. tt;
    }
    stepped low (inr other) = record {
      behind = outside near feeds;
      fits_from = tt;
      same = ap (λ t. comments_in (outside near feeds) (t ++ m)) (encode_ascii c low) ∙ passed other;
      agrees = λ b a. a;
    }

skip_stands : {text after : List ℕ} (m tail : List ℕ) (s : Standing) (b : Before) (rest : List Item) → Agrees s b → IsSkip text after → after ≡ m ++ tail → Fits s (text ++ (m ++ tail))
    → ((s : Standing) (b : Before) → Agrees s b → Fits s (m ++ tail) → MayFollow b (items_of (comments_in s m) ++ rest))
    → MayFollow b (items_of (comments_in s (text ++ m)) ++ rest)
skip_stands m tail s b rest a (space c w) e fits_from more =
    let p = white_passed s c m tail w fits_from in
    subst (λ ps. MayFollow b (items_of ps ++ rest)) (sym p.same) (more p.behind b (p.agrees b a) p.fits_from)
skip_stands m tail inside b rest a (comment bytes inner ends) e fits_from more = absurd (no_slash fits_from)
  where
    no_slash : is_line_end 47 ≡ true → ⊥
    no_slash e = cc
skip_stands m tail (outside near feeds) b rest a (comment bytes inner ends) e fits_from more =
    let line : EndsLine (m ++ tail) = subst EndsLine e ends in
    begun near feeds b bytes m rest a inner (front_line m tail line) (more inside behind_comment tt line)

-- skips between two words: the comments among them are whole, and the first alone may stand on the
-- line of the word before
gap_stands : {source : List ℕ} {i j : ℕ} (l : Layout source i [] j) (s : Standing) (b : Before) (rest : List Item) → Agrees s b → Fits s (laid_bytes l ++ drop j source) → ((b : Before) → MayFollow b rest)
    → MayFollow b (items_of (comments_in s (laid_bytes l)) ++ rest)
unfolding laid_bytes
gap_stands nothing inside b rest a fits_from more = more b
gap_stands nothing (outside near feeds) b rest a fits_from more = more b
gap_stands {source = source} {j = k} (skip {i = i} {j = j} p l) s b rest a fits_from more =
    let after : p.after ≡ laid_bytes l ++ drop k source = sym (behind source i j p.text p.after p.stands p.ends) ∙ laid_stands l in
    skip_stands (laid_bytes l) (drop k source) s b rest a p.skips after (subst (Fits s) (append_assoc p.text (laid_bytes l) (drop k source)) fits_from)
    (λ s b a fits_from. gap_stands l s b rest a fits_from more)

-- ---- a whole text

pub items_join : (ps qs : List SpacedItem) → items_of (ps ++ qs) ≡ items_of ps ++ items_of qs
items_join [] qs = refl
items_join (p ∷ ps) qs = ap (λ is. p.item ∷ is) (items_join ps qs)

pub gap_is : {source : List ℕ} {i j : ℕ} (l : Layout source i [] j) → slice_range source i j ≡ laid_bytes l
gap_is {source = source} {i = i} {j = j} l = ap (take (j - i)) (laid_stands l) ∙ take_at (laid_bytes l) (drop j source) (j - i) (omega (arith, laid_end l))

pieces_stand : (source : List ℕ) (ts : List Lexeme) (near : Bool) (place : ℕ) (b : Before) → Agrees (outside near 0) b → Layout source place ts (length source) → MayFollow b (items_of (pieces_behind source near place ts))
pieces_stand source [] near place b a l =
    let o = outside near 0 in
    let bytes : drop place source ≡ laid_bytes l = laid_stands l ∙ (ap (λ t. laid_bytes l ++ t) (drop_all (length source) source (omega arith)) ∙ append-nil (laid_bytes l)) in
    subst (λ t. MayFollow b (items_of (comments_in o t))) (sym bytes)
    (subst (MayFollow b) (append-nil (items_of (comments_in o (laid_bytes l)))) (gap_stands l o b [] a tt (λ b. tt)))
pieces_stand source (t ∷ ts) near place b a l =
    let o = outside near 0 in
    let h = up_to l [] t ts refl in
    let g = slice_range source place t.start in
    let more = pieces_stand source ts true t.end (behind_word t.kind) tt h.behind in
    let p = word_piece (behind_bytes o g) t in
    subst (MayFollow b) (sym (items_join (comments_in o g) (p ∷ pieces_behind source true t.end ts)))
    (subst (λ x. MayFollow b (items_of (comments_in o x) ++ (word (written t) ∷ items_of (pieces_behind source true t.end ts)))) (sym (gap_is h.laid))
    (gap_stands h.laid o b (word (written t) ∷ items_of (pieces_behind source true t.end ts)) a tt (λ b. (h.here.spelled.spells, refl, more))))

pub read_stands : (source : List ℕ) (ps : List SpacedItem) → IsReadAs source ps → MayFollow start (items_of ps)
read_stands source ps (ts, cut, is) = subst (λ qs. MayFollow start (items_of qs)) (sym is) (pieces_stand source ts false 0 start tt cut)

-- ---- its words

no_words : (s : Standing) (bs : List ℕ) (rest : List Item) → words_in (items_of (comments_in s bs) ++ rest) ≡ words_in rest
no_words inside [] rest = refl
no_words (outside near feeds) [] rest = refl
no_words inside (b ∷ bs) rest = no_words (behind_byte inside b) bs rest
no_words (outside near feeds) (b ∷ bs) rest = elim (cases_Bool (b == 47)) [
  | inl slash ↦ rw slash (skipped near (trimmed (take_while is_in_line (b ∷ bs))) (items_of (comments_in inside bs) ++ rest) (words_in rest) (no_words inside bs rest))
  | inr other ↦ rw other (no_words (cond (b == 10) (outside false (one_feed_more feeds)) (outside near feeds)) bs rest)
]
  where
    skipped : (near : Bool) (c : List ℕ) (is : List Item) (ws : List TokenText) → words_in is ≡ ws → words_in (cond near (beside c) (below c) ∷ is) ≡ ws
    skipped true c is ws e = e
    skipped false c is ws e = e

words_from : (source : List ℕ) (ts : List Lexeme) (near : Bool) (place : ℕ) → words_in (items_of (pieces_behind source near place ts)) ≡ words_of ts
words_from source [] near place = ap words_in (sym (append-nil (items_of (comments_in (outside near 0) (drop place source))))) ∙ no_words (outside near 0) (drop place source) []
words_from source (t ∷ ts) near place =
    let o = outside near 0 in
    let g = slice_range source place t.start in
    let p = word_piece (behind_bytes o g) t in
    ap words_in (items_join (comments_in o g) (p ∷ pieces_behind source true t.end ts))
    ∙ (no_words o g (word (written t) ∷ items_of (pieces_behind source true t.end ts)) ∙ ap (λ ws. written t ∷ ws) (words_from source ts true t.end))

pub words_read : (source : List ℕ) (ts : List Lexeme) (ps : List SpacedItem) → ps ≡ pieces_behind source false 0 ts → words_in (items_of ps) ≡ words_of ts
words_read source ts ps is = ap (λ qs. words_in (items_of qs)) is ∙ words_from source ts false 0
