-- A number in a line: its first digit goes on as any other digit does.
use Rattle.std.proofs.Common.{◌≡◌, ℕ, ◌<◌, ◌^◌, Bool, true, false, cond, List, [], ◌∷◌, ◌++◌, refl, sym, ap, ◌∙◌, arith, append_assoc, append-nil}
use Rattle.std.specs.Prelude.{◌&&◌, ◌||◌, ◌==◌, not, slice_index}
use Rattle.std.specs.Char.{digit_value, is_ascii_digit}
use Rattle.std.specs.Fmt.{decimal}
use Rattle.std.specs.String.{string_bytes}
use Rattle.std.specs.Str.Parse.{IsNumeral}
use Rattle.std.proofs.lemmas.Bool.Decides.{nat_tests}
use Rattle.std.proofs.lemmas.Fmt.{decimal_is_IsNumeral}
use Rattle.std.proofs.lemmas.Str.Parse.{digit_from_value}
use Rattle.cedar_lexer.specs.declared.token.TokenKind.{TokenKind}
use Rattle.cedar_lexer.specs.declared.token.TokenKind.TheVariants as kind
use Rattle.cedar_lexer.specs.Spelling.{is_identifier_part}
use Rattle.cedar_writer.specs.declared.output.Output.{Output}
use Rattle.cedar_writer.specs.Spacing.{runs_on_with, is_joined, joins_behind, joins_before, space_behind}
use Rattle.cedar_writer.specs.WrittenWords.{number_words}
use Rattle.cedar_writer.specs.machines.Lines.{line_edge}
use Rattle.cedar_writer.specs.machines.Outputs.{edge_seen, Adds}

record Digit (b : ℕ) : Type 0 where
  digit : is_ascii_digit b ≡ true
  part : is_identifier_part b ≡ true
  colon : (b == 58) ≡ false
  equal : (b == 61) ≡ false
  slash : (b == 47) ≡ false

digit_here : (b : ℕ) → digit_value b < 10 → Digit b
digit_here b h =
    let r = digit_from_value b h in
    record {
      digit = grind (arith, nat_tests);
      part = grind (arith, nat_tests);
      colon = grind (arith, nat_tests);
      equal = grind (arith, nat_tests);
      slash = grind (arith, nat_tests);
    }

as_zero : (b : ℕ) → Digit b → (k : TokenKind) → runs_on_with k b ≡ runs_on_with k 48
as_zero b d kind.Number = d.digit
as_zero b d kind.Colon = d.colon
as_zero b d kind.Less = d.equal
as_zero b d kind.Greater = d.equal
as_zero b d kind.Eq = d.equal
as_zero b d kind.Bang = d.equal
as_zero b d kind.Slash = d.slash
as_zero b d kind.StringLit = refl
as_zero b d kind.At = refl
as_zero b d kind.Dot = refl
as_zero b d kind.Comma = refl
as_zero b d kind.Semicolon = refl
as_zero b d kind.ColonColon = refl
as_zero b d kind.OpenParen = refl
as_zero b d kind.CloseParen = refl
as_zero b d kind.OpenBrace = refl
as_zero b d kind.CloseBrace = refl
as_zero b d kind.OpenBracket = refl
as_zero b d kind.CloseBracket = refl
as_zero b d kind.EqEq = refl
as_zero b d kind.NotEq = refl
as_zero b d kind.LessEq = refl
as_zero b d kind.GreaterEq = refl
as_zero b d kind.OrOr = refl
as_zero b d kind.AndAnd = refl
as_zero b d kind.Plus = refl
as_zero b d kind.Minus = refl
as_zero b d kind.Star = refl
as_zero b d kind.Percent = refl
as_zero b d k = d.part

begins_as_zero : (text : List ℕ) → IsNumeral 10 text → (k : TokenKind) → runs_on_with k (slice_index text 0) ≡ runs_on_with k 48
begins_as_zero [] h k = absurd (omega (arith, h.0))
begins_as_zero (b ∷ bs) h k = as_zero b (digit_here b h.1.0) k

pub number_added : (a b : Output) (n : ℕ) (mid : List ℕ) → n < 2 ^ 64 → mid ≡ string_bytes a.text ++ cond (is_joined (edge_seen a) kind.Number 48) [] (space_behind a.last) → string_bytes b.text ≡ mid ++ decimal n → edge_seen b ≡ line_edge a.last kind.Number → Adds a b (number_words n)
number_added a b n mid h gap rest edge =
    let joined : Bool = joins_behind a.before a.last || joins_before a.before a.last kind.Number in
    let same : runs_on_with a.last (slice_index (decimal n) 0) ≡ runs_on_with a.last 48 = begins_as_zero (decimal n) (decimal_is_IsNumeral n h).0 a.last in
    let space : ℕ → List ℕ = λ c. cond (joined && not (runs_on_with a.last c)) [] (space_behind a.last) in
    let there : space 48 ≡ space (slice_index (decimal n) 0) = ap (λ q. cond (joined && not q) [] (space_behind a.last)) (sym same) in
    record {
      text = rest ∙ ap (λ t. t ++ decimal n) gap ∙ append_assoc (string_bytes a.text) (space 48) (decimal n)
          ∙ ap (λ t. string_bytes a.text ++ (t ++ decimal n)) there
          ∙ ap (λ t. string_bytes a.text ++ (space (slice_index (decimal n) 0) ++ t)) (sym (append-nil (decimal n)));
      edge = edge;
    }
