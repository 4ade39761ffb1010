-- What is known of the gap between two words, by the open brackets.
use Rattle.std.proofs.Common.{◌≡◌, ℕ, Bool, true, false, cond, List, [], ◌∷◌, refl, Option, Some, None}
use Rattle.std.specs.Prelude.{◌&&◌, ◌||◌, not}
use Rattle.std.proofs.lemmas.Bool.{and_parts}
use Rattle.cedar_lexer.specs.declared.token.TokenKind.{TokenKind}
use Rattle.cedar_layout.specs.declared.brackets.Bracket.{Bracket}
use Rattle.cedar_layout.specs.declared.brackets.Bracket.TheVariants.{Annotation, Body, Sole, Short, Inner}
use Rattle.cedar_layout.specs.declared.decisions.BlankRule.{BlankRule}
use Rattle.cedar_layout.specs.declared.decisions.BlankRule.TheVariants.{Always}
use Rattle.cedar_layout.specs.declared.frames.Frame.{Frame}
use Rattle.cedar_layout.specs.declared.gaps.Gap.{Gap}
use Rattle.cedar_layout.specs.declared.levels.Level.{Level}
use Rattle.cedar_layout.specs.declared.levels.Level.TheVariants.{Listed, Packed, Fixed}
use Rattle.cedar_layout.specs.declared.measures.Measure.{Measure}
use Rattle.cedar_layout.specs.declared.options.LayoutOptions.{LayoutOptions}
use Rattle.cedar_layout.specs.declared.spots.Spot.{Spot}
use Rattle.cedar_layout.specs.Brackets.{is_at_sign, innermost_of, without_first}
use Rattle.cedar_layout.specs.Gaps.{gap_at, outer_rule, outer_gap, comma_level, held_gap, flat_gap, word_gap, line_gap, end_gap, holds_next, holds_back}
use Rattle.cedar_layout.specs.Kinds.{opens, closes, is_lettered, ends_operand, is_semicolon, is_at, is_paren, is_comma}
use Rattle.cedar_layout.specs.Levels.{level_apart, level_joined}
use Rattle.cedar_layout.specs.Style.{without_frame, line_frames}
use Rattle.cedar_layout.specs.Widths.{may_end_line}

pub not_true : (b : Bool) → b ≡ true → b ≡ false → ⊥
not_true b e f = cc

-- ---- what is known of a gap

each : (P : Gap → Type 0) (b : Bool) (x y : Gap) → (b ≡ true → P x) → P y → P (cond b x y)
each P true x y f g = f refl
each P false x y f g = g

each_flat : (P : Gap → Type 0) (leads led : Bool) (before : Option TokenKind) (last next : TokenKind) → ((spaced : Bool) (l : Level) → P (word_gap spaced l)) → P (flat_gap leads led before last next)
each_flat P leads led before last next of_word =
    let apart = word_gap true (level_apart (leads && ends_operand last) led last next) in
    each P (holds_next before last) (word_gap false Fixed) (cond (holds_back last next) (word_gap false (level_joined last next)) apart) (λ e. of_word false Fixed)
    (each P (holds_back last next) (word_gap false (level_joined last next)) apart (λ e. of_word false (level_joined last next)) (of_word true (level_apart (leads && ends_operand last) led last next)))

each_held : (P : Gap → Type 0) (spaced : Bool) (level : Level) (leads led : Bool) (before : Option TokenKind) (last next : TokenKind) → ((spaced : Bool) (l : Level) → P (word_gap spaced l)) → ((opens last && closes next) ≡ true → P (end_gap false Fixed true)) → P (end_gap spaced Listed (closes next)) → P (held_gap spaced level leads led before last next)
each_held P spaced level leads led before last next of_word empty end =
    let flat = flat_gap leads led before last next in
    let leading = cond (leads && is_comma next) (word_gap false Listed) flat in
    let rest = cond (is_comma last) (word_gap true (comma_level led level)) leading in
    each P (opens last && closes next) (end_gap false Fixed true) (cond (opens last || closes next) (end_gap spaced Listed (closes next)) rest) empty
    (each P (opens last || closes next) (end_gap spaced Listed (closes next)) rest (λ e. end)
    (each P (is_comma last) (word_gap true (comma_level led level)) leading (λ e. of_word true (comma_level led level))
    (each P (leads && is_comma next) (word_gap false Listed) flat (λ e. of_word false Listed) (each_flat P leads led before last next of_word))))

each_outer : (P : Gap → Type 0) (before : Option TokenKind) (last next : TokenKind) → ((rule : BlankRule) → P (line_gap rule)) → ((spaced : Bool) → P (word_gap spaced Fixed)) → P (outer_gap before last next)
each_outer P before last next begun of_word =
    let joined = word_gap (flat_gap false false before last next).spaced Fixed in
    let named = cond (is_paren next && is_lettered last && not (is_at_sign before)) (word_gap true Fixed) joined in
    each P (is_semicolon last) (line_gap Always) (cond (not (is_at last) && (is_at next || is_lettered next)) (line_gap (outer_rule next)) named) (λ e. begun Always)
    (each P (not (is_at last) && (is_at next || is_lettered next)) (line_gap (outer_rule next)) named (λ e. begun (outer_rule next))
    (each P (is_paren next && is_lettered last && not (is_at_sign before)) (word_gap true Fixed) joined (λ e. of_word true) (of_word (flat_gap false false before last next).spaced)))

outer_fixed : (leads led : Bool) (before last : Option TokenKind) (kind : TokenKind) (text : List ℕ) → may_end_line (gap_at None leads led before last kind text).level ≡ false
outer_fixed leads led before None kind text = refl
outer_fixed leads led before (Some last) kind text = each_outer (λ g. may_end_line g.level ≡ false) before last kind (λ rule. refl) (λ spaced. refl)

held_no_line : (spaced : Bool) (level : Level) (leads led : Bool) (before : Option TokenKind) (last next : TokenKind) → (held_gap spaced level leads led before last next).begins_line ≡ false
held_no_line spaced level leads led before last next = each_held (λ g. g.begins_line ≡ false) spaced level leads led before last next (λ s l. refl) (λ e. refl) refl

inner_no_line : (bracket : Bracket) (leads led : Bool) (before last : Option TokenKind) (kind : TokenKind) (text : List ℕ) → (gap_at (Some bracket) leads led before last kind text).begins_line ≡ false
inner_no_line bracket leads led before None kind text = refl
inner_no_line Annotation leads led before (Some last) kind text = refl
inner_no_line Body leads led before (Some last) kind text = held_no_line true Listed leads (led && not leads) before last kind
inner_no_line Sole leads led before (Some last) kind text = refl
inner_no_line Short leads led before (Some last) kind text = held_no_line false Packed leads (led && not leads) before last kind
inner_no_line Inner leads led before (Some last) kind text = held_no_line false Listed leads (led && not leads) before last kind

abbrev pub Closing : TokenKind → Gap → Type 0
Closing kind g = g.closing ≡ true → closes kind ≡ true

no_closing : (kind : TokenKind) → false ≡ true → closes kind ≡ true
no_closing kind e = absurd (not_true false e refl)

held_closing : (spaced : Bool) (level : Level) (leads led : Bool) (before : Option TokenKind) (last next : TokenKind) → Closing next (held_gap spaced level leads led before last next)
held_closing spaced level leads led before last next = each_held (Closing next) spaced level leads led before last next (λ s l. no_closing next) (λ e c. (and_parts (opens last) (closes next) e).1) (λ c. c)

outer_closing : (before : Option TokenKind) (last next : TokenKind) → Closing next (outer_gap before last next)
outer_closing before last next = each_outer (Closing next) before last next (λ rule. no_closing next) (λ spaced. no_closing next)

pub gap_closing : (bracket : Option Bracket) (leads led : Bool) (before last : Option TokenKind) (kind : TokenKind) (text : List ℕ) → Closing kind (gap_at bracket leads led before last kind text)
gap_closing bracket leads led before None kind text = no_closing kind
gap_closing None leads led before (Some last) kind text = outer_closing before last kind
gap_closing (Some Annotation) leads led before (Some last) kind text = λ c. c
gap_closing (Some Body) leads led before (Some last) kind text = held_closing true Listed leads (led && not leads) before last kind
gap_closing (Some Sole) leads led before (Some last) kind text = λ c. c
gap_closing (Some Short) leads led before (Some last) kind text = held_closing false Packed leads (led && not leads) before last kind
gap_closing (Some Inner) leads led before (Some last) kind text = held_closing false Listed leads (led && not leads) before last kind

-- in a bracket no gap begins a line whatever fits, in none a line ends at no gap of a level
abbrev pub Known : List Frame → Gap → Type 0
Known [] g = may_end_line g.level ≡ false
Known (f ∷ fs) g = g.begins_line ≡ false

abbrev pub AreAsMany : List Frame → List Bracket → Type 0
AreAsMany [] [] = Unit {0}
AreAsMany [] (b ∷ bs) = ⊥
AreAsMany (f ∷ fs) [] = ⊥
AreAsMany (f ∷ fs) (b ∷ bs) = AreAsMany fs bs

pub gap_known : (fs : List Frame) (bs : List Bracket) (leads led : Bool) (before last : Option TokenKind) (kind : TokenKind) (text : List ℕ) → AreAsMany fs bs → Known fs (gap_at (innermost_of bs) leads led before last kind text)
gap_known [] [] leads led before last kind text m = outer_fixed leads led before last kind text
gap_known [] (b ∷ bs) leads led before last kind text m = absurd m
gap_known (f ∷ fs) [] leads led before last kind text m = absurd m
gap_known (f ∷ fs) (b ∷ bs) leads led before last kind text m = inner_no_line b leads led before last kind text

as_many_left : (fs : List Frame) (bs : List Bracket) → AreAsMany fs bs → AreAsMany (without_frame fs) (without_first bs)
as_many_left [] [] m = tt
as_many_left [] (b ∷ bs) m = absurd m
as_many_left (f ∷ fs) [] m = absurd m
as_many_left (f ∷ fs) (b ∷ bs) m = m

pub as_many_behind : (ok ck : Bool) (fs : List Frame) (bs : List Bracket) (f : Frame) (b : Bracket) → AreAsMany fs bs → AreAsMany (cond ok (f ∷ fs) (cond ck (without_frame fs) fs)) (cond ok (b ∷ bs) (cond ck (without_first bs) bs))
as_many_behind true ck fs bs f b m = m
as_many_behind false true fs bs f b m = as_many_left fs bs m
as_many_behind false false fs bs f b m = m

pub as_many_begun : (o : LayoutOptions) (d : ℕ) (fs : List Frame) (bs : List Bracket) (s : Spot) (m : Measure) → AreAsMany fs bs → AreAsMany (line_frames o d fs s m) bs
as_many_begun o d [] bs s m h = h
as_many_begun o d (f ∷ fs) [] s m h = h
as_many_begun o d (f ∷ fs) (b ∷ bs) s m h = h

-- ---- a bracket's end

abbrev pub Ends : List Frame → TokenKind → Gap → Type 0
Ends [] kind g = Unit {0}
Ends (f ∷ fs) kind g = closes kind ≡ g.closing

each_way : (P : Gap → Type 0) (b : Bool) (x y : Gap) → (b ≡ true → P x) → (b ≡ false → P y) → P (cond b x y)
each_way P true x y f g = f refl
each_way P false x y f g = g refl

no_end : (a b : Bool) → a || b ≡ false → b ≡ false
no_end true b e = absurd (cc)
no_end false b e = e

held_ends : (spaced : Bool) (level : Level) (leads led : Bool) (before : Option TokenKind) (last next : TokenKind) → closes next ≡ (held_gap spaced level leads led before last next).closing
held_ends spaced level leads led before last next =
    let P : Gap → Type 0 = λ g. closes next ≡ g.closing in
    let flat = flat_gap leads led before last next in
    let leading = cond (leads && is_comma next) (word_gap false Listed) flat in
    let rest = cond (is_comma last) (word_gap true (comma_level led level)) leading in
    each_way P (opens last && closes next) (end_gap false Fixed true) (cond (opens last || closes next) (end_gap spaced Listed (closes next)) rest)
    (λ e. (and_parts (opens last) (closes next) e).1)
    (λ _. each_way P (opens last || closes next) (end_gap spaced Listed (closes next)) rest (λ e. refl)
    (λ e. let none = no_end (opens last) (closes next) e in
    each P (is_comma last) (word_gap true (comma_level led level)) leading (λ e. none)
    (each P (leads && is_comma next) (word_gap false Listed) flat (λ e. none) (each_flat P leads led before last next (λ s l. none)))))

inner_ends : (bracket : Bracket) (leads led : Bool) (before : Option TokenKind) (last kind : TokenKind) (text : List ℕ) → closes kind ≡ (gap_at (Some bracket) leads led before (Some last) kind text).closing
inner_ends Annotation leads led before last kind text = refl
inner_ends Body leads led before last kind text = held_ends true Listed leads (led && not leads) before last kind
inner_ends Sole leads led before last kind text = refl
inner_ends Short leads led before last kind text = held_ends false Packed leads (led && not leads) before last kind
inner_ends Inner leads led before last kind text = held_ends false Listed leads (led && not leads) before last kind

-- before the first word no bracket is open
abbrev pub NoneBefore : Option TokenKind → List Bracket → Type 0
NoneBefore None [] = Unit {0}
NoneBefore None (b ∷ bs) = ⊥
NoneBefore (Some last) bs = Unit {0}

pub gap_ends : (fs : List Frame) (bs : List Bracket) (leads led : Bool) (before last : Option TokenKind) (kind : TokenKind) (text : List ℕ) → AreAsMany fs bs → NoneBefore last bs → Ends fs kind (gap_at (innermost_of bs) leads led before last kind text)
gap_ends [] bs leads led before last kind text m h = tt
gap_ends (f ∷ fs) [] leads led before last kind text m h = absurd m
gap_ends (f ∷ fs) (b ∷ bs) leads led before None kind text m h = absurd h
gap_ends (f ∷ fs) (b ∷ bs) leads led before (Some last) kind text m h = inner_ends b leads led before last kind text
