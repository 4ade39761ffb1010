-- How an annotation is read: `@`, a key, and possibly a string in parentheses (`ReadsAnnotation`
-- of `LoosePolicies`).
use Rattle.std.specs.Prelude.{ℕ, List, Bool, true, false, Option, Some, None}
use Rattle.cedar_lexer.specs.Token.{Lexeme}
use Rattle.cedar_lexer.specs.declared.token.TokenKind.{TokenKind}
use Rattle.cedar_lexer.specs.declared.token.TokenKind.TheVariants as kind
use Rattle.cedar_syntax.specs.declared.cst.Ident.{Ident}
use Rattle.cedar_syntax.specs.declared.cst.Annotation.{Annotation}
use Rattle.cedar_policy_machine.specs.declared.annotation.AnnotationState.{AnnotationState}
use Rattle.cedar_policy_machine.specs.declared.annotation.AnnotationState.TheVariants as annotation
use Rattle.cedar_policy_machine.specs.declared.annotation.AnnotationAct.{AnnotationAct}
use Rattle.cedar_policy_machine.specs.declared.annotation.AnnotationAct.TheVariants as act
use Rattle.cedar_syntax.specs.tokens.Tokens.{any_of}
use Rattle.cedar_syntax.specs.trees.Trees.{Cell, annotation_of}
use Rattle.cedar_grammar.specs.machines.Machine.{Machine, Reader, machine_of, option_image}
use Rattle.cedar_grammar.specs.machines.SingleTokens.{token_node, string_node, if_any}

-- the identifier that a token is, at its bytes
abbrev pub any_node : List ℕ → Lexeme → Option (Cell Ident)
any_node src t = option_image (λ i. token_node src t i) (any_of t.kind t.text)

-- what of an annotation decides what may come next
pub data AnnotationShape : Type 0 where
  no_annotation : AnnotationShape
  behind_at : AnnotationShape
  has_key : AnnotationShape
  wants_value : AnnotationShape
  has_value : AnnotationShape
  whole_annotation : AnnotationShape

-- the shape of a state
abbrev pub annotation_shape : AnnotationState → AnnotationShape
annotation_shape annotation.Start = no_annotation
annotation_shape annotation.At = behind_at
annotation_shape (annotation.Key i) = has_key
annotation_shape (annotation.Open i) = wants_value
annotation_shape (annotation.Value i x) = has_value
annotation_shape (annotation.Closed i x) = whole_annotation

-- ---- plans

-- `@`
abbrev pub annotation_mark_plan : TokenKind → Option AnnotationAct
annotation_mark_plan kind.At = Some act.Mark
annotation_mark_plan _ = None

-- `(` behind the key
abbrev pub annotation_open_plan : TokenKind → Option AnnotationAct
annotation_open_plan kind.OpenParen = Some act.Open
annotation_open_plan _ = None

-- the string behind `(`
abbrev pub annotation_value_plan : TokenKind → Option AnnotationAct
annotation_value_plan kind.StringLit = Some act.Value
annotation_value_plan _ = None

-- `)` behind the string
abbrev pub annotation_close_plan : TokenKind → Option AnnotationAct
annotation_close_plan kind.CloseParen = Some act.Close
annotation_close_plan _ = None

-- by what the annotation has
abbrev pub annotation_plan : AnnotationShape → TokenKind → Option AnnotationAct
annotation_plan no_annotation k = annotation_mark_plan k
annotation_plan behind_at k = if_any k act.Key
annotation_plan has_key k = annotation_open_plan k
annotation_plan wants_value k = annotation_value_plan k
annotation_plan has_value k = annotation_close_plan k
annotation_plan whole_annotation k = None

-- ---- acts

-- behind the key, behind `(` and behind the string; of another state nothing is said
abbrev pub annotation_opening : AnnotationState → Option AnnotationState
annotation_opening (annotation.Key i) = Some (annotation.Open i)
annotation_opening _ = None

abbrev pub annotation_filling : List ℕ → AnnotationState → Lexeme → Option AnnotationState
annotation_filling src (annotation.Open i) t = Some (annotation.Value i (string_node src t))
annotation_filling src _ t = None

abbrev pub annotation_closing : AnnotationState → Option AnnotationState
annotation_closing (annotation.Value i x) = Some (annotation.Closed i x)
annotation_closing _ = None

-- what each act makes
abbrev pub annotation_act : List ℕ → AnnotationState → AnnotationAct → Lexeme →
    Option AnnotationState
annotation_act src s act.Mark t = Some annotation.At
annotation_act src s act.Key t = option_image (λ i. annotation.Key i) (any_node src t)
annotation_act src s act.Open t = annotation_opening s
annotation_act src s act.Value t = annotation_filling src s t
annotation_act src s act.Close t = annotation_closing s

-- ---- the tree, behind the key or `)`

abbrev pub annotation_ends : AnnotationShape → Bool
annotation_ends has_key = true
annotation_ends whole_annotation = true
annotation_ends _ = false

abbrev pub annotation_finish : AnnotationState → Option Annotation
annotation_finish annotation.Start = None
annotation_finish annotation.At = None
annotation_finish (annotation.Key i) = Some (annotation_of i None)
annotation_finish (annotation.Open i) = None
annotation_finish (annotation.Value i x) = None
annotation_finish (annotation.Closed i x) = Some (annotation_of i (Some x))

-- the reader, and its machine

abbrev pub annotation_reader : Reader AnnotationState AnnotationAct Annotation
annotation_reader = record {
  start = annotation.Start;
  plan = λ s k. annotation_plan (annotation_shape s) k;
  act = λ src s a t. annotation_act src s a t;
  ends = λ s. annotation_ends (annotation_shape s);
  finish = λ src s. annotation_finish s;
}

abbrev pub annotations : List ℕ → Machine Lexeme AnnotationState Annotation
annotations src = machine_of src annotation_reader
