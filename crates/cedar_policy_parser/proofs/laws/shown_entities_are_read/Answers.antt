use Rattle.std.proofs.Common.{◌≡◌, List, ℕ, [], ◌∷◌, Option, Ok, refl}
use Rattle.cedar_lexer.specs.Token.{Lexeme}
use Rattle.cedar_expressions.specs.declared.entity.EntityUID.{EntityUID}
use Rattle.cedar_expressions.specs.Written.{entity_text}
use Rattle.cedar_syntax.specs.declared.cst.Ref.{Ref}
use Rattle.cedar_syntax.specs.declared.loc.Loc.{Loc}
use Rattle.cedar_grammar.specs.grammar.Place.{placed_or_start}
use Rattle.cedar_conversion.specs.parts.Entities.{entity_outcome, reference_outcome}
use Rattle.cedar_policy_parser.proofs.complete.Words.{entity_read}
use Rattle.cedar_policy_parser.proofs.laws.shown_entities_are_read.Goals as goal

-- the node of a whole text is its tree at some place
at_start : (src : List ℕ) (ts : List Lexeme) (x : Ref) (uid : EntityUID) → ((place : Option Loc) → reference_outcome place x ≡ Ok uid) → entity_outcome (placed_or_start src ts x) ≡ Ok uid
at_start src [] x uid f = f (placed_or_start src [] x).loc
at_start src (t ∷ ts) x uid f = f (placed_or_start src (t ∷ ts) x).loc

pub returns : goal.returns
returns c = λ uid h.
    let src = entity_text uid in
    let cut = c.entity_texts_stand.ensures.cut uid h in
    let d = entity_read src cut.2 in (
      placed_or_start src cut.0 d.tree,
      record { tokens = cut.0; cut = cut.1; stands = record { tree = d.tree; reads = d.reads; is = refl } },
      at_start src cut.0 d.tree uid d.gives,
    )
