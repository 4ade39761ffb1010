-- The pieces of a text are its tokens and, of the skips between them, the comments.
use Rattle.std.proofs.Common.{◌≡◌, ℕ, Bool, true, false, cond, List, [], ◌∷◌, ◌++◌, length, drop, refl, sym, ap, ap₂, ◌∙◌, subst, arith, append_assoc, append-nil}
use Rattle.std.specs.Prelude.{slice_range}
use Rattle.std.specs.List.{AllPass, take_while}
use Rattle.std.proofs.lemmas.List.{drop_all}
use Rattle.std.proofs.lemmas.List.Elements.{All-cons}
use Rattle.cedar_lexer.specs.Cut.{is_line_end, is_in_line, EndsLine, IsSkip, space, comment, IsSkipAt, Layout, nothing, skip, token, Cuts}
use Rattle.cedar_lexer.specs.Token.{Lexeme}
use Rattle.cedar_lexer.specs.Words.{written}
use Rattle.cedar_lexer.proofs.Cuts.{one_end, nothing_at_end}
use Rattle.cedar_lexer.proofs.Joints.{laid_bytes, laid_stands, behind}
use Rattle.cedar_layout.specs.Entries.{Entry, token_text, comment_text, skip_entries, entries_of, entry_of, entries_in}
use Rattle.cedar_layout.specs.Pieces.{SpacedItem, beside, below, items_of, trimmed, Standing, inside, outside, behind_bytes, comments_in, word_piece, pieces_behind, IsReadAs}
use Rattle.cedar_layout.specs.Layouts.{LayoutRule as Decisions, laid_out}
use Rattle.cedar_layout.proofs.GapBytes as gap
use Rattle.cedar_layout.proofs.Kept.{pieces_again, read_again, same_items}
use Rattle.cedar_layout.proofs.Stood.{Fits, front_line, white_passed, gap_is}

abbrev found : List SpacedItem → List Entry
found ps = entries_in (items_of ps)

-- ---- one skip

comment_entry : (near : Bool) (c : List ℕ) → entry_of (cond near (beside c) (below c)) ≡ comment_text c
comment_entry true c = refl
comment_entry false c = refl

begun : (near : Bool) (feeds : ℕ) (bytes m : List ℕ) → AllPass is_in_line bytes → EndsLine m → found (comments_in (outside near feeds) (47 ∷ 47 ∷ bytes ++ m)) ≡ comment_text (trimmed (47 ∷ 47 ∷ bytes)) ∷ found (comments_in inside m)
begun near feeds bytes m inner ends =
    let text = trimmed (take_while is_in_line (47 ∷ 47 ∷ bytes ++ m)) in
    let is : take_while is_in_line (47 ∷ 47 ∷ bytes ++ m) ≡ 47 ∷ 47 ∷ bytes = gap.whole_before (47 ∷ 47 ∷ bytes) m (gap.slashes bytes inner) ends in
    let on : comments_in inside (47 ∷ bytes ++ m) ≡ comments_in inside m = gap.inside_passed (47 ∷ bytes) m (All-cons (λ x. is_in_line x ≡ true) 47 bytes refl inner) in
    ap₂ (λ (e : Entry) (es : List Entry). e ∷ es) (comment_entry near text ∙ ap (λ t. comment_text (trimmed t)) is) (ap found on)

skip_found : {text after : List ℕ} (m tail : List ℕ) (s : Standing) (k : IsSkip text after) (es : List Entry) → after ≡ m ++ tail → Fits s (text ++ (m ++ tail)) → ((s : Standing) → Fits s (m ++ tail) → found (comments_in s m) ≡ es)
    → found (comments_in s (text ++ m)) ≡ skip_entries k ++ es
unfolding skip_entries
skip_found m tail s (space c w) es e fits_from more =
    let p = white_passed s c m tail w fits_from in
    ap found p.same ∙ more p.behind p.fits_from
skip_found m tail inside (comment bytes inner ends) es e fits_from more = absurd (no_slash fits_from)
  where
    no_slash : is_line_end 47 ≡ true → ⊥
    no_slash e = cc
skip_found m tail (outside near feeds) (comment bytes inner ends) es e fits_from more =
    let line : EndsLine (m ++ tail) = subst EndsLine e ends in
    begun near feeds bytes m inner (front_line m tail line) ∙ ap (λ xs. comment_text (trimmed (47 ∷ 47 ∷ bytes)) ∷ xs) (more inside line)

-- ---- what stands between two words

gap_found : {source : List ℕ} {i j : ℕ} (l : Layout source i [] j) (s : Standing) → Fits s (laid_bytes l ++ drop j source) → found (comments_in s (laid_bytes l)) ≡ entries_of l
unfolding laid_bytes entries_of
gap_found nothing inside fits_from = refl
gap_found nothing (outside near feeds) fits_from = refl
gap_found {source = source} {j = k} (skip {i = i} {j = j} p l) s fits_from =
    let after : p.after ≡ laid_bytes l ++ drop k source = sym (behind source i j p.text p.after p.stands p.ends) ∙ laid_stands l in
    skip_found (laid_bytes l) (drop k source) s p.skips (entries_of l) after (subst (Fits s) (append_assoc p.text (laid_bytes l) (drop k source)) fits_from) (gap_found l)

-- one skip more
with_skip : {source : List ℕ} {i j k : ℕ} → Layout source i [] j → IsSkipAt source j k → Layout source i [] k
with_skip nothing s = skip s nothing
with_skip (skip p l) s = skip p (with_skip l s)

one_feed_more : {source : List ℕ} {i j k : ℕ} (l : Layout source i [] j) (s : IsSkipAt source j k) → entries_of (with_skip l s) ≡ entries_of l ++ skip_entries s.skips
unfolding entries_of with_skip
one_feed_more nothing s = append-nil (skip_entries s.skips)
one_feed_more (skip p l) s = ap (λ es. skip_entries p.skips ++ es) (one_feed_more l s) ∙ sym (append_assoc (skip_entries p.skips) (entries_of l) (skip_entries s.skips))

-- ---- a whole text

word_found : (cs ps : List SpacedItem) (w : SpacedItem) → found (cs ++ (w ∷ ps)) ≡ found cs ++ (entry_of w.item ∷ found ps)
word_found [] ps w = refl
word_found (c ∷ cs) ps w = ap (λ es. entry_of c.item ∷ es) (word_found cs ps w)

-- behind skips that are laid from a place on
all_found : {source : List ℕ} {ts : List Lexeme} {place i k : ℕ} (near : Bool) (g : Layout source place [] i) (l : Layout source i ts k) → k ≡ length source → found (pieces_behind source near place ts) ≡ entries_of g ++ entries_of l
unfolding entries_of
all_found {source = source} {place = place} {i = i} near g nothing e =
    let o = outside near 0 in
    let bytes : drop place source ≡ laid_bytes g = laid_stands g ∙ (ap (λ t. laid_bytes g ++ t) (drop_all i source (omega (arith, e))) ∙ append-nil (laid_bytes g)) in
    ap (λ t. found (comments_in o t)) bytes ∙ (gap_found g o tt ∙ sym (append-nil (entries_of g)))
all_found near g (skip s l) e =
    all_found near (with_skip g s) l e ∙ (ap (λ es. es ++ entries_of l) (one_feed_more g s) ∙ append_assoc (entries_of g) (skip_entries s.skips) (entries_of l))
all_found {source = source} {place = place} {i = i} near g (token {t = t} {ts = ts} s l) e =
    let o = outside near 0 in
    let here : slice_range source place t.start ≡ laid_bytes g = ap (slice_range source place) s.starts ∙ gap_is g in
    let w = word_piece (behind_bytes o (slice_range source place t.start)) t in
    word_found (comments_in o (slice_range source place t.start)) (pieces_behind source true t.end ts) w
    ∙ ap₂ (λ (xs ys : List Entry). xs ++ (token_text (written t) ∷ ys)) (ap (λ b. found (comments_in o b)) here ∙ gap_found g o tt) (all_found true nothing l e)

pub cut_found : (source : List ℕ) (ts : List Lexeme) (ps : List SpacedItem) (cut : Cuts source ts) → IsReadAs source ps → entries_in (items_of ps) ≡ entries_of cut
unfolding entries_of
cut_found source ts ps cut (us, other, is) =
    ap found is
    ∙ (ap (λ xs. found (pieces_behind source false 0 xs)) (one_end other (nothing_at_end source) cut (nothing_at_end source)).0 ∙ all_found false nothing cut refl)

-- ---- a text laid out

pub keeps_entries : (layout : Decisions) (source : List ℕ) (ps : List SpacedItem) → IsReadAs source ps → (ts us : List Lexeme) (cut : Cuts source ts) (again : Cuts (laid_out layout ps) us) → entries_of again ≡ entries_of cut
keeps_entries layout source ps r ts us cut again =
    sym (cut_found (laid_out layout ps) us (pieces_again layout ps) again (read_again layout source ps r))
    ∙ (ap entries_in (same_items layout ps) ∙ cut_found source ts ps cut r)
