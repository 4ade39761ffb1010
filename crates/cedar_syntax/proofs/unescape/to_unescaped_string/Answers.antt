use Rattle.std.proofs.Common.{rules, ◌≡◌, ◌≤◌, ◌++◌, ◌∷◌, [], List, ℕ, length, arith, string_bytes, sym, ap, ◌∙◌, append-nil}
use Rattle.std.specs.Char.{encode_utf8}
use Rattle.std.specs.Str.{IsUtf8, chars}
use Rattle.cedar_syntax.specs.declared.err.escape.EscapeError.{EscapeError}
use Rattle.cedar_syntax.specs.declared.err.escape.UnescapeError.{UnescapeError}
use Rattle.cedar_syntax.specs.declared.unescape.piece.PieceValue.{PieceValue}
use Rattle.cedar_syntax.specs.declared.unescape.piece.PieceValue.TheVariants.{Nothing, Character, Fault}
use Rattle.cedar_syntax.specs.strings.EscapeFaults.{found_faults, fault_between}
use Rattle.cedar_syntax.specs.strings.Piece.{Placed, unescaped_piece, piece_value_faults}
use Rattle.cedar_syntax.proofs.Layouts.{step, goes_on_as, placed_between, finish}
use Rattle.cedar_syntax.proofs.Answering.{answered, text_gives, text_tells, text_ok, text_err, text_succeeds, text_fails}
use Rattle.cedar_syntax.proofs.unescape.to_unescaped_string.Goals as goal
use Rattle.cedar_syntax.proofs.unescape.to_unescaped_string.Goals.{in-Nothing, in-Character+in_ok-push-in-Character, in-Fault+in_ok-add-in-Fault}

gives_nothing : (o : PieceValue) (t : List ℕ) → o ≡ Nothing → t ++ unescaped_piece o ≡ t
gives_nothing o t e = ap (λ (x : PieceValue). t ++ unescaped_piece x) e ∙ append-nil t

gives_character : (o : PieceValue) (t : List ℕ) (c : ℕ) → o ≡ Character c → t ++ unescaped_piece o ≡ t ++ encode_utf8 c
gives_character o t c e = ap (λ (x : PieceValue). t ++ unescaped_piece x) e

gives_fault : (o : PieceValue) (t : List ℕ) (k : EscapeError) → o ≡ Fault k → t ++ unescaped_piece o ≡ t
gives_fault o t k e = ap (λ (x : PieceValue). t ++ unescaped_piece x) e ∙ append-nil t

tells_nothing : (raw : List ℕ) (p : Placed) (o : PieceValue) (found : List UnescapeError) → o ≡ Nothing → found ++ piece_value_faults raw p o ≡ found
tells_nothing raw p o found e = ap (λ (x : PieceValue). found ++ piece_value_faults raw p x) e ∙ append-nil found

tells_character : (raw : List ℕ) (p : Placed) (o : PieceValue) (found : List UnescapeError) (c : ℕ) → o ≡ Character c → found ++ piece_value_faults raw p o ≡ found
tells_character raw p o found c e = ap (λ (x : PieceValue). found ++ piece_value_faults raw p x) e ∙ append-nil found

tells_fault : (raw : List ℕ) (p : Placed) (o : PieceValue) (found : List UnescapeError) (k : EscapeError) → o ≡ Fault k → found ++ piece_value_faults raw p o ≡ found ++ fault_between raw k p.start p.end ∷ []
tells_fault raw p o found k e = ap (λ (x : PieceValue). found ++ piece_value_faults raw p x) e

pub overflow_sub-raw-in-Fault : goal.overflow_sub-raw-in-Fault
overflow_sub-raw-in-Fault c =
    let v : IsUtf8 c.first_piece-step.result.rest.now = search rules in
    let l = c.loop-first in
    let s = step text_gives (text_tells c.args.raw.now) c.args.raw.now l.rest.now c.first_piece-step.result.rest.now c.in-Some.first (chars c.in-Some.after.now) c.first_piece-step.result.outcome
    (string_bytes l.text) (found_faults l.faults) l.invariant.0 v l.invariant.1 c.in-Some.ensures.read c.first_piece-step.ensures l.invariant.3 in
    omega (arith, s.shorter, l.invariant.1)

pub loop-first-smaller : goal.loop-first-smaller
loop-first-smaller c =
    let v : IsUtf8 c.first_piece-step.result.rest.now = search rules in
    let l = c.loop-first in
    let s = step text_gives (text_tells c.args.raw.now) c.args.raw.now l.rest.now c.first_piece-step.result.rest.now c.in-Some.first (chars c.in-Some.after.now) c.first_piece-step.result.outcome
    (string_bytes l.text) (found_faults l.faults) l.invariant.0 v l.invariant.1 c.in-Some.ensures.read c.first_piece-step.ensures l.invariant.3 in
    s.shorter

pub loop-first-preserved : goal.loop-first-preserved
loop-first-preserved c =
    let v : IsUtf8 c.first_piece-step.result.rest.now = search rules in
    let l = c.loop-first in
    let raw = c.args.raw.now in
    let o = c.first_piece-step.result.outcome in
    let rest' = c.first_piece-step.result.rest.now in
    let s = step text_gives (text_tells raw) raw l.rest.now rest' c.in-Some.first (chars c.in-Some.after.now) o
    (string_bytes l.text) (found_faults l.faults) l.invariant.0 v l.invariant.1 c.in-Some.ensures.read c.first_piece-step.ensures l.invariant.3 in
    let fits : length rest' ≤ length raw = omega (arith, s.shorter, l.invariant.1) in
    let p = placed_between raw l.rest.now rest' s.text o in
    let on = goes_on_as text_gives (text_tells raw) raw rest' (string_bytes l.text ++ unescaped_piece o) (string_bytes c.match-step.text) (found_faults l.faults ++ piece_value_faults raw p o) (found_faults c.match-step.faults) in
    elim c.match-step.branch [
      | in-Nothing w ↦ (v, fits, cc (l.invariant.2), on (gives_nothing o (string_bytes l.text) w.in-Nothing.is ∙ ap string_bytes (sym w.text-is)) (tells_nothing raw p o (found_faults l.faults) w.in-Nothing.is ∙ ap found_faults (sym w.faults-is)) s.goes_on)
      | in-Character+in_ok-push-in-Character w ↦
          (let pushed : string_bytes w.push.new.self ≡ string_bytes l.text ++ encode_utf8 w.in-Character.c = w.in_ok-push-in-Character.ensures.bytes in
          (v, fits, cc (l.invariant.2), on (gives_character o (string_bytes l.text) w.in-Character.c w.in-Character.is ∙ sym pushed ∙ ap string_bytes (sym w.text-is)) (tells_character raw p o (found_faults l.faults) w.in-Character.c w.in-Character.is ∙ ap found_faults (sym w.faults-is)) s.goes_on))
      | in-Fault+in_ok-add-in-Fault w ↦
          (let kept : w.add.new.self.raw.now ≡ l.faults.raw.now = w.in_ok-add-in-Fault.ensures.raw in
          let added : found_faults w.add.new.self ≡ found_faults l.faults ++ fault_between l.faults.raw.now w.in-Fault.kind p.start p.end ∷ [] = w.in_ok-add-in-Fault.ensures.ok in
          let there : found_faults l.faults ++ fault_between raw w.in-Fault.kind p.start p.end ∷ [] ≡ found_faults w.add.new.self = ap (λ (r : List ℕ). found_faults l.faults ++ fault_between r w.in-Fault.kind p.start p.end ∷ []) (sym l.invariant.2) ∙ sym added in
          (v, fits, cc (l.invariant.2), on (gives_fault o (string_bytes l.text) w.in-Fault.kind w.in-Fault.is ∙ ap string_bytes (sym w.text-is)) (tells_fault raw p o (found_faults l.faults) w.in-Fault.kind w.in-Fault.is ∙ there ∙ ap found_faults (sym w.faults-is)) s.goes_on))
    ]

pub returns-clause-unescaped : goal.returns-clause-unescaped
returns-clause-unescaped c =
    let raw = c.args.raw.now in
    let l = c.loop-first in
    let w = finish text_gives (text_tells raw) raw l.rest.now (string_bytes l.text) (found_faults l.faults) c.in_default.ensures.read.1 l.invariant.3 in
    text_ok string_bytes raw c.or.result (answered string_bytes text_gives (text_tells raw) raw l.text l.faults.found c.or.result c.or.ensures w)

pub returns-clause-told : goal.returns-clause-told
returns-clause-told c =
    let raw = c.args.raw.now in
    let l = c.loop-first in
    let w = finish text_gives (text_tells raw) raw l.rest.now (string_bytes l.text) (found_faults l.faults) c.in_default.ensures.read.1 l.invariant.3 in
    text_err string_bytes raw c.or.result (answered string_bytes text_gives (text_tells raw) raw l.text l.faults.found c.or.result c.or.ensures w)

pub returns-clause-succeeds : goal.returns-clause-succeeds
returns-clause-succeeds c =
    let raw = c.args.raw.now in
    let l = c.loop-first in
    let w = finish text_gives (text_tells raw) raw l.rest.now (string_bytes l.text) (found_faults l.faults) c.in_default.ensures.read.1 l.invariant.3 in
    text_succeeds string_bytes raw c.or.result (answered string_bytes text_gives (text_tells raw) raw l.text l.faults.found c.or.result c.or.ensures w)

pub returns-clause-fails : goal.returns-clause-fails
returns-clause-fails c =
    let raw = c.args.raw.now in
    let l = c.loop-first in
    let w = finish text_gives (text_tells raw) raw l.rest.now (string_bytes l.text) (found_faults l.faults) c.in_default.ensures.read.1 l.invariant.3 in
    text_fails string_bytes raw c.or.result (answered string_bytes text_gives (text_tells raw) raw l.text l.faults.found c.or.result c.or.ensures w)
