-- A skipping step is that of the parser that recovers.
use Rattle.std.specs.Prelude.{List}
use Rattle.std.proofs.Common.{◌≡◌, refl}
use Rattle.cedar_lexer.specs.Token.{Lexeme}
use Rattle.cedar_grammar.specs.declared.reading.mark.Mark.{Mark}
use Rattle.cedar_grammar.specs.declared.reading.mark.Mark.TheVariants as mark
use Rattle.cedar_grammar.specs.declared.reading.recovery.RecoveryWay.{RecoveryWay}
use Rattle.cedar_grammar.specs.declared.reading.recovery.RecoveryWay.TheVariants as way
use Rattle.cedar_grammar.specs.machines.Recovery.{Recovers, skip_step}
use Rattle.cedar_grammar.specs.machines.Skipping.{skip, behind_skip}

pub as_skipped : {S F : Type 0} (r : Recovers S F) (xs : List F) (w : RecoveryWay) (s : S) (x : F) (t : Lexeme) (k : Mark) →
    behind_skip xs w x t (skip r.close r.end w s k) ≡ skip_step r xs w s x t k
as_skipped r xs way.ToBrace s x t mark.At = refl
as_skipped r xs way.ToBrace s x t mark.OpenParen = refl
as_skipped r xs way.ToBrace s x t mark.CloseParen = refl
as_skipped r xs way.ToBrace s x t mark.OpenBrace = refl
as_skipped r xs way.ToBrace s x t mark.CloseBrace = refl
as_skipped r xs way.ToBrace s x t mark.Comma = refl
as_skipped r xs way.ToBrace s x t mark.Colon = refl
as_skipped r xs way.ToBrace s x t mark.Semicolon = refl
as_skipped r xs way.ToBrace s x t mark.Is = refl
as_skipped r xs way.ToBrace s x t mark.String = refl
as_skipped r xs way.ToBrace s x t mark.Other = refl
as_skipped r xs way.ToEnd s x t mark.At = refl
as_skipped r xs way.ToEnd s x t mark.OpenParen = refl
as_skipped r xs way.ToEnd s x t mark.CloseParen = refl
as_skipped r xs way.ToEnd s x t mark.OpenBrace = refl
as_skipped r xs way.ToEnd s x t mark.CloseBrace = refl
as_skipped r xs way.ToEnd s x t mark.Comma = refl
as_skipped r xs way.ToEnd s x t mark.Colon = refl
as_skipped r xs way.ToEnd s x t mark.Semicolon = refl
as_skipped r xs way.ToEnd s x t mark.Is = refl
as_skipped r xs way.ToEnd s x t mark.String = refl
as_skipped r xs way.ToEnd s x t mark.Other = refl
as_skipped r xs way.Stop s x t k = refl
