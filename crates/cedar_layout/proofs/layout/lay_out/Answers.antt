-- The text is what the style makes of its pieces, so the laws of all layouts hold of it.
use Rattle.std.proofs.Common.{◌≡◌, ℕ, ◌<◌, ◌^◌, length, List, [], ◌∷◌, ◌++◌, sym, ap, ◌∙◌, subst, rules}
use Rattle.std.specs.Prelude.{◌⊎◌}
use Rattle.cedar_lexer.specs.Cut.{Cuts}
use Rattle.cedar_lexer.specs.Token.{Lexeme}
use Rattle.cedar_layout.specs.Ends.{EndCleanly}
use Rattle.cedar_layout.specs.Entries.{entries_of}
use Rattle.cedar_layout.specs.Layouts.{laid_out}
use Rattle.cedar_layout.specs.Pieces.{IsReadAs, items_of}
use Rattle.cedar_layout.specs.Read.{pieces_now}
use Rattle.cedar_layout.specs.Style.{style}
use Rattle.cedar_layout.proofs.Clean.{layout_clean, layout_ends}
use Rattle.cedar_layout.proofs.Found.{keeps_entries}
use Rattle.cedar_layout.specs.Widths.{KeepsWidth}
use Rattle.cedar_layout.proofs.LineWidths.{keeps_width}
use Rattle.cedar_layout.proofs.Kept.{keeps_words, keeps_items, read_again, stays_laid_out, one_reading}
use Rattle.cedar_layout.proofs.layout.lay_out.Goals as goal

pub returns-clause-laid : goal.returns-clause-laid
returns-clause-laid c = (pieces_now c.in_ok-pieces.pieces.items, c.in_ok-pieces.ensures.reads, c.in_ok-out.ensures ∙ ap (λ ps. laid_out (style c.args.options.now) (pieces_now ps)) c.deref.ensures.value)

pub returns-clause-cuts : goal.returns-clause-cuts
returns-clause-cuts c =
    let mine = pieces_now c.in_ok-pieces.pieces.items in
    let read = read_again (style c.args.options.now) c.args.text.now mine c.in_ok-pieces.ensures.reads in
    subst (λ t. (us : List Lexeme) × Cuts t us) (sym (c.in_ok-out.ensures ∙ ap (λ ps. laid_out (style c.args.options.now) (pieces_now ps)) c.deref.ensures.value)) (read.0, read.1)

pub returns-clause-words : goal.returns-clause-words
returns-clause-words c = λ ts us cut again.
    keeps_words (style c.args.options.now) c.args.text.now (pieces_now c.in_ok-pieces.pieces.items) ts us c.in_ok-pieces.ensures.reads cut (subst (λ t. Cuts t us) (c.in_ok-out.ensures ∙ ap (λ ps. laid_out (style c.args.options.now) (pieces_now ps)) c.deref.ensures.value) again)

pub returns-clause-entries : goal.returns-clause-entries
returns-clause-entries c =
    let mine = pieces_now c.in_ok-pieces.pieces.items in
    subst (λ t. (ts us : List Lexeme) (cut : Cuts c.args.text.now ts) (again : Cuts t us) → entries_of again ≡ entries_of cut)
    (sym (c.in_ok-out.ensures ∙ ap (λ ps. laid_out (style c.args.options.now) (pieces_now ps)) c.deref.ensures.value))
    (keeps_entries (style c.args.options.now) c.args.text.now mine c.in_ok-pieces.ensures.reads)

pub returns-clause-items : goal.returns-clause-items
returns-clause-items c = λ ps qs r s.
    let mine = pieces_now c.in_ok-pieces.pieces.items in
    keeps_items (style c.args.options.now) c.args.text.now mine qs c.in_ok-pieces.ensures.reads (subst (λ t. IsReadAs t qs) (c.in_ok-out.ensures ∙ ap (λ ps. laid_out (style c.args.options.now) (pieces_now ps)) c.deref.ensures.value) s)
    ∙ ap items_of (one_reading c.args.text.now mine ps c.in_ok-pieces.ensures.reads r)

pub returns-clause-stays : goal.returns-clause-stays
returns-clause-stays c = λ qs s.
    let mine = pieces_now c.in_ok-pieces.pieces.items in
    stays_laid_out (style c.args.options.now) c.args.text.now mine qs c.in_ok-pieces.ensures.reads (subst (λ t. IsReadAs t qs) (c.in_ok-out.ensures ∙ ap (λ ps. laid_out (style c.args.options.now) (pieces_now ps)) c.deref.ensures.value) s) ∙ sym (c.in_ok-out.ensures ∙ ap (λ ps. laid_out (style c.args.options.now) (pieces_now ps)) c.deref.ensures.value)

pub returns-clause-clean : goal.returns-clause-clean
returns-clause-clean c =
    let mine = pieces_now c.in_ok-pieces.pieces.items in
    subst (λ t. (us : List Lexeme) → Cuts t us → EndCleanly t 0 us) (sym (c.in_ok-out.ensures ∙ ap (λ ps. laid_out (style c.args.options.now) (pieces_now ps)) c.deref.ensures.value))
    (λ us cut. layout_clean (style c.args.options.now) c.args.text.now mine us c.in_ok-pieces.ensures.reads cut)

pub returns-clause-ended : goal.returns-clause-ended
returns-clause-ended c =
    let mine = pieces_now c.in_ok-pieces.pieces.items in
    subst (λ t. (t ≡ []) ⊎ ((front : List ℕ) × (t ≡ front ++ (10 ∷ [])))) (sym (c.in_ok-out.ensures ∙ ap (λ ps. laid_out (style c.args.options.now) (pieces_now ps)) c.deref.ensures.value))
    (layout_ends (style c.args.options.now) mine)

pub returns-clause-width : goal.returns-clause-width
returns-clause-width c =
    let mine = pieces_now c.in_ok-pieces.pieces.items in
    let small : length c.args.text.now < 2 ^ 63 = search rules in
    let mine_keeps = keeps_width c.args.options.now c.args.text.now mine c.in_ok-pieces.ensures.reads small in
    λ ps r. subst (λ t. KeepsWidth c.args.options.now.width ps t) (sym (c.in_ok-out.ensures ∙ ap (λ ps. laid_out (style c.args.options.now) (pieces_now ps)) c.deref.ensures.value))
    (subst (λ qs. KeepsWidth c.args.options.now.width qs (laid_out (style c.args.options.now) mine)) (one_reading c.args.text.now mine ps c.in_ok-pieces.ensures.reads r) mine_keeps)
