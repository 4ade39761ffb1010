use Rattle.std.proofs.Common.{rules, ◌≡◌, ◌≤◌, ◌++◌, ◌∷◌, [], Bool, true, false, if◌then◌else◌, List, ℕ, length, arith, sym, ap, ◌∙◌, append-nil}
use Rattle.std.specs.Prelude.{Vec, Some}
use Rattle.std.specs.declared.alloc.Global.{Global}
use Rattle.std.specs.Str.{IsUtf8, chars}
use Rattle.cedar_expressions.specs.declared.atoms.PatternElem.{PatternElem}
use Rattle.cedar_expressions.specs.declared.atoms.PatternElem.TheVariants.{Char}
use Rattle.cedar_syntax.specs.declared.err.escape.EscapeError.{EscapeError}
use Rattle.cedar_syntax.specs.declared.err.escape.UnescapeError.{UnescapeError}
use Rattle.cedar_syntax.specs.declared.unescape.piece.PieceValue.{PieceValue}
use Rattle.cedar_syntax.specs.declared.unescape.piece.PieceValue.TheVariants.{Nothing, Character, Fault}
use Rattle.cedar_syntax.specs.strings.EscapeFaults.{found_faults, fault_between}
use Rattle.cedar_syntax.specs.strings.Pattern.{character_elem, elem_of, is_escaped_star, pattern_fault_of}
use Rattle.cedar_syntax.specs.strings.Piece.{Placed}
use Rattle.cedar_syntax.specs.strings.PieceAhead.{piece_ahead, first_of, first_piece, begins_escaped_star}
use Rattle.cedar_syntax.proofs.Answering.{answered, pattern_gives, pattern_tells, pattern_ok, pattern_err, pattern_succeeds, pattern_fails}
use Rattle.cedar_syntax.proofs.Layouts.{step, goes_on_as, placed_between, finish, first_of-some, escaped_star}
use Rattle.cedar_syntax.proofs.unescape.to_pattern.Goals as goal
use Rattle.cedar_syntax.proofs.unescape.to_pattern.Goals.{in-Nothing, in-Character+in_ok-push-in-Character, in-Fault+in_ok-push-in-Fault, in-Fault-2+in_ok-add-in-Fault-2}

gives_nothing : (p : Placed) (o : PieceValue) (t : List PatternElem) → o ≡ Nothing → t ++ elem_of p o ≡ t
gives_nothing p o t e = ap (λ (x : PieceValue). t ++ elem_of p x) e ∙ append-nil t

gives_character : (p : Placed) (o : PieceValue) (t : List PatternElem) (c : ℕ) → o ≡ Character c → t ++ elem_of p o ≡ t ++ character_elem c ∷ []
gives_character p o t c e = ap (λ (x : PieceValue). t ++ elem_of p x) e

gives_star : (p : Placed) (o : PieceValue) (t : List PatternElem) {k : EscapeError} → o ≡ Fault k → is_escaped_star p.text ≡ true → t ++ elem_of p o ≡ t ++ Char 42 ∷ []
gives_star p o t e h = ap (λ (x : PieceValue). t ++ elem_of p x) e ∙ ap (λ (b : Bool). t ++ (if b then Char 42 ∷ [] else [])) h

gives_fault : (p : Placed) (o : PieceValue) (t : List PatternElem) (k : EscapeError) → o ≡ Fault k → is_escaped_star p.text ≡ false → t ++ elem_of p o ≡ t
gives_fault p o t k e h = ap (λ (x : PieceValue). t ++ elem_of p x) e ∙ ap (λ (b : Bool). t ++ (if b then Char 42 ∷ [] else [])) h ∙ append-nil t

tells_nothing : (raw : List ℕ) (p : Placed) (o : PieceValue) (found : List UnescapeError) → o ≡ Nothing → found ++ pattern_fault_of raw p o ≡ found
tells_nothing raw p o found e = ap (λ (x : PieceValue). found ++ pattern_fault_of raw p x) e ∙ append-nil found

tells_character : (raw : List ℕ) (p : Placed) (o : PieceValue) (found : List UnescapeError) (c : ℕ) → o ≡ Character c → found ++ pattern_fault_of raw p o ≡ found
tells_character raw p o found c e = ap (λ (x : PieceValue). found ++ pattern_fault_of raw p x) e ∙ append-nil found

tells_star : (raw : List ℕ) (p : Placed) (o : PieceValue) (found : List UnescapeError) {k : EscapeError} → o ≡ Fault k → is_escaped_star p.text ≡ true → found ++ pattern_fault_of raw p o ≡ found
tells_star raw p o found {k} e h =
    ap (λ (x : PieceValue). found ++ pattern_fault_of raw p x) e ∙ ap (λ (b : Bool). found ++ (if b then [] else fault_between raw k p.start p.end ∷ [])) h ∙ append-nil found

tells_fault : (raw : List ℕ) (p : Placed) (o : PieceValue) (found : List UnescapeError) (k : EscapeError) → o ≡ Fault k → is_escaped_star p.text ≡ false → found ++ pattern_fault_of raw p o ≡ found ++ fault_between raw k p.start p.end ∷ []
tells_fault raw p o found k e h =
    ap (λ (x : PieceValue). found ++ pattern_fault_of raw p x) e ∙ ap (λ (b : Bool). found ++ (if b then [] else fault_between raw k p.start p.end ∷ [])) h

-- the piece read is `\*` just if the test says so
star_test : (text rest rest' : List ℕ) (first : ℕ) (after : List ℕ) (o : PieceValue) (t b : Bool) {k : EscapeError} → o ≡ Fault k → first_of (chars rest) ≡ Some (first, after) → chars rest ≡ text ++ chars rest' → piece_ahead o (chars rest') ≡ first_piece first after
    → t ≡ begins_escaped_star first (first_of after) → t ≡ b → is_escaped_star text ≡ b
star_test text rest rest' first after o t b {k} e f s r g h =
    escaped_star text (chars rest') first after k (sym (first_of-some (chars rest) first after f) ∙ s) (ap (λ (x : PieceValue). piece_ahead x (chars rest')) (sym e) ∙ r) ∙ sym g ∙ h

abbrev items_of : Vec PatternElem Global → List PatternElem
items_of pattern = pattern.items

pub overflow_sub-raw-in-Fault-2 : goal.overflow_sub-raw-in-Fault-2
overflow_sub-raw-in-Fault-2 c =
    let v : IsUtf8 c.first_piece-step.result.rest.now = search rules in
    let l = c.loop-first in
    let s = step pattern_gives (pattern_tells c.args.raw.now) c.args.raw.now l.rest.now c.first_piece-step.result.rest.now c.in-Some.first (chars c.in-Some.after.now) c.first_piece-step.result.outcome
    l.pattern.items (found_faults l.faults) l.invariant.0 v l.invariant.1 c.in-Some.ensures.read c.first_piece-step.ensures l.invariant.3 in
    omega (arith, s.shorter, l.invariant.1)

pub loop-first-smaller : goal.loop-first-smaller
loop-first-smaller c =
    let v : IsUtf8 c.first_piece-step.result.rest.now = search rules in
    let l = c.loop-first in
    let s = step pattern_gives (pattern_tells c.args.raw.now) c.args.raw.now l.rest.now c.first_piece-step.result.rest.now c.in-Some.first (chars c.in-Some.after.now) c.first_piece-step.result.outcome
    l.pattern.items (found_faults l.faults) l.invariant.0 v l.invariant.1 c.in-Some.ensures.read c.first_piece-step.ensures l.invariant.3 in
    s.shorter

pub loop-first-preserved : goal.loop-first-preserved
loop-first-preserved c =
    let v : IsUtf8 c.first_piece-step.result.rest.now = search rules in
    let l = c.loop-first in
    let raw = c.args.raw.now in
    let o = c.first_piece-step.result.outcome in
    let rest' = c.first_piece-step.result.rest.now in
    let after = chars c.in-Some.after.now in
    let s = step pattern_gives (pattern_tells raw) raw l.rest.now rest' c.in-Some.first after o
    l.pattern.items (found_faults l.faults) l.invariant.0 v l.invariant.1 c.in-Some.ensures.read c.first_piece-step.ensures l.invariant.3 in
    let fits : length rest' ≤ length raw = omega (arith, s.shorter, l.invariant.1) in
    let p = placed_between raw l.rest.now rest' s.text o in
    let on = goes_on_as pattern_gives (pattern_tells raw) raw rest' (l.pattern.items ++ elem_of p o) c.match-step.pattern.items (found_faults l.faults ++ pattern_fault_of raw p o) (found_faults c.match-step.faults) in
    elim c.match-step.branch [
      | in-Nothing w ↦ (v, fits, cc (l.invariant.2), on (gives_nothing p o l.pattern.items w.in-Nothing.is ∙ ap items_of (sym w.pattern-is)) (tells_nothing raw p o (found_faults l.faults) w.in-Nothing.is ∙ ap found_faults (sym w.faults-is)) s.goes_on)
      | in-Character+in_ok-push-in-Character w ↦
          (let elem : w.character_elem.result ≡ character_elem w.in-Character.c = w.character_elem.ensures in
          let pushed : w.push.new.self.items ≡ l.pattern.items ++ w.character_elem.result ∷ [] = w.in_ok-push-in-Character.ensures.items in
          (v, fits, cc (l.invariant.2), on (gives_character p o l.pattern.items w.in-Character.c w.in-Character.is ∙ ap (λ (e : PatternElem). l.pattern.items ++ e ∷ []) (sym elem) ∙ sym pushed ∙ ap items_of (sym w.pattern-is)) (tells_character raw p o (found_faults l.faults) w.in-Character.c w.in-Character.is ∙ ap found_faults (sym w.faults-is)) s.goes_on))
      | in-Fault+in_ok-push-in-Fault w ↦
          (let star : is_escaped_star s.text ≡ true = star_test s.text l.rest.now rest' c.in-Some.first after o w.begins_escaped_star.result true w.in-Fault.is c.in-Some.ensures.read s.stands c.first_piece-step.ensures w.begins_escaped_star.ensures w.if-begins_escaped_star.true in
          let pushed : w.push-in-Fault.new.self.items ≡ l.pattern.items ++ Char 42 ∷ [] = w.in_ok-push-in-Fault.ensures.items in
          (v, fits, cc (l.invariant.2), on (gives_star p o l.pattern.items w.in-Fault.is star ∙ sym pushed ∙ ap items_of (sym w.pattern-is)) (tells_star raw p o (found_faults l.faults) w.in-Fault.is star ∙ ap found_faults (sym w.faults-is)) s.goes_on))
      | in-Fault-2+in_ok-add-in-Fault-2 w ↦
          (let star : is_escaped_star s.text ≡ false = star_test s.text l.rest.now rest' c.in-Some.first after o w.begins_escaped_star.result false w.in-Fault-2.is c.in-Some.ensures.read s.stands c.first_piece-step.ensures w.begins_escaped_star.ensures w.if-begins_escaped_star.false in
          let added : found_faults w.add.new.self ≡ found_faults l.faults ++ fault_between l.faults.raw.now w.in-Fault-2.kind p.start p.end ∷ [] = w.in_ok-add-in-Fault-2.ensures.ok in
          let kept : w.add.new.self.raw.now ≡ l.faults.raw.now = w.in_ok-add-in-Fault-2.ensures.raw in
          let there : found_faults l.faults ++ fault_between raw w.in-Fault-2.kind p.start p.end ∷ [] ≡ found_faults w.add.new.self = ap (λ (r : List ℕ). found_faults l.faults ++ fault_between r w.in-Fault-2.kind p.start p.end ∷ []) (sym l.invariant.2) ∙ sym added in
          (v, fits, cc (l.invariant.2), on (gives_fault p o l.pattern.items w.in-Fault-2.kind w.in-Fault-2.is star ∙ ap items_of (sym w.pattern-is)) (tells_fault raw p o (found_faults l.faults) w.in-Fault-2.kind w.in-Fault-2.is star ∙ there ∙ ap found_faults (sym w.faults-is)) s.goes_on))
    ]

pub returns-clause-pattern : goal.returns-clause-pattern
returns-clause-pattern c =
    let raw = c.args.raw.now in
    let l = c.loop-first in
    let w = finish pattern_gives (pattern_tells raw) raw l.rest.now l.pattern.items (found_faults l.faults) c.in_default.ensures.read.1 l.invariant.3 in
    pattern_ok items_of raw c.or.result (answered items_of pattern_gives (pattern_tells raw) raw l.pattern l.faults.found c.or.result c.or.ensures w)

pub returns-clause-told : goal.returns-clause-told
returns-clause-told c =
    let raw = c.args.raw.now in
    let l = c.loop-first in
    let w = finish pattern_gives (pattern_tells raw) raw l.rest.now l.pattern.items (found_faults l.faults) c.in_default.ensures.read.1 l.invariant.3 in
    pattern_err items_of raw c.or.result (answered items_of pattern_gives (pattern_tells raw) raw l.pattern l.faults.found c.or.result c.or.ensures w)

pub returns-clause-succeeds : goal.returns-clause-succeeds
returns-clause-succeeds c =
    let raw = c.args.raw.now in
    let l = c.loop-first in
    let w = finish pattern_gives (pattern_tells raw) raw l.rest.now l.pattern.items (found_faults l.faults) c.in_default.ensures.read.1 l.invariant.3 in
    pattern_succeeds items_of raw c.or.result (answered items_of pattern_gives (pattern_tells raw) raw l.pattern l.faults.found c.or.result c.or.ensures w)

pub returns-clause-fails : goal.returns-clause-fails
returns-clause-fails c =
    let raw = c.args.raw.now in
    let l = c.loop-first in
    let w = finish pattern_gives (pattern_tells raw) raw l.rest.now l.pattern.items (found_faults l.faults) c.in_default.ensures.read.1 l.invariant.3 in
    pattern_fails items_of raw c.or.result (answered items_of pattern_gives (pattern_tells raw) raw l.pattern l.faults.found c.or.result c.or.ensures w)
