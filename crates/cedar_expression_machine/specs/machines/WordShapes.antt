-- The shapes of paths and entity literals: what of a state decides which kinds of token may come
-- next. And the plans: what is done with a token, by its kind and the shape alone.
use Rattle.std.specs.Prelude.{Bool, true, false, List, [], ◌∷◌, Option, Some, None}
use Rattle.cedar_lexer.specs.declared.token.TokenKind.{TokenKind}
use Rattle.cedar_lexer.specs.declared.token.TokenKind.TheVariants as kind
use Rattle.cedar_syntax.specs.declared.cst.Ident.{Ident}
use Rattle.cedar_syntax.specs.declared.cst.Ident.TheVariants as ident
use Rattle.cedar_expression_machine.specs.declared.words.state.Path.{Path}
use Rattle.cedar_expression_machine.specs.declared.words.state.PathState.{PathState}
use Rattle.cedar_expression_machine.specs.declared.words.state.PathState.TheVariants as path
use Rattle.cedar_expression_machine.specs.declared.words.state.InitPlace.{InitPlace}
use Rattle.cedar_expression_machine.specs.declared.words.state.InitPlace.TheVariants as place
use Rattle.cedar_expression_machine.specs.declared.words.state.WordsState.{WordsState}
use Rattle.cedar_expression_machine.specs.declared.words.state.WordsState.TheVariants as state
use Rattle.cedar_expression_machine.specs.declared.words.state.Words.{Words}
use Rattle.cedar_expression_machine.specs.declared.words.state.Words.TheVariants as words
use Rattle.cedar_expression_machine.specs.declared.words.state.IdentState.{IdentState}
use Rattle.cedar_expression_machine.specs.declared.words.state.IdentState.TheVariants as one_ident
use Rattle.cedar_expression_machine.specs.declared.words.state.PathAct.{PathAct}
use Rattle.cedar_expression_machine.specs.declared.words.state.PathAct.TheVariants as path_acts
use Rattle.cedar_expression_machine.specs.declared.words.state.InitAct.{InitAct}
use Rattle.cedar_expression_machine.specs.declared.words.state.InitAct.TheVariants as init_acts
use Rattle.cedar_expression_machine.specs.declared.words.state.WordsAct.{WordsAct}
use Rattle.cedar_expression_machine.specs.declared.words.state.WordsAct.TheVariants as words_acts
use Rattle.cedar_syntax.specs.tokens.Tokens.{any_of}
use Rattle.cedar_syntax.specs.trees.Trees.{Cell}
use Rattle.cedar_grammar.specs.machines.Machine.{Machine, option_image, Outline, outline_machine}
use Rattle.cedar_grammar.specs.machines.SingleTokens.{if_any}
use Rattle.cedar_expression_machine.specs.machines.Keeping.{kept_outline}

-- ---- paths

-- what a path may be to what stands above it: `true` or `false` alone, `if` alone, or a name
pub data PathKind : Type 0 where
  truth : PathKind
  condition : PathKind
  a_name : PathKind

-- what one identifier alone is
abbrev pub ident_kind : Ident → PathKind
ident_kind ident.True = truth
ident_kind ident.False = truth
ident_kind ident.If = condition
ident_kind _ = a_name

abbrev pub kind_among : List (Cell Ident) → Ident → PathKind
kind_among [] i = ident_kind i
kind_among (x ∷ xs) i = a_name

abbrev pub path_kind : Path → PathKind
path_kind p = kind_among p.before p.last.ident

-- where a path stands
pub data PathShape : Type 0 where
  at_start : PathShape
  have : PathKind → PathShape
  behind_colons : PathShape

abbrev pub path_shape : PathState → PathShape
path_shape path.Start = at_start
path_shape (path.Have p) = have (path_kind p)
path_shape (path.Behind p) = behind_colons

-- behind an identifier
abbrev pub had_plan : {A : Type 0} → A → TokenKind → Option A
had_plan a kind.ColonColon = Some a
had_plan a _ = None

-- what is done with a kind, by where the path stands
abbrev pub path_plan : PathShape → TokenKind → Option PathAct
path_plan at_start k = if_any k path_acts.First
path_plan (have c) k = had_plan path_acts.Colons k
path_plan behind_colons k = if_any k path_acts.More

-- a first identifier; no other kind is one
abbrev pub first_shape : Option Ident → PathShape
first_shape (Some i) = have (ident_kind i)
first_shape None = at_start

-- and where it stands then
abbrev pub path_act_shape : PathAct → TokenKind → PathShape
path_act_shape path_acts.First k = first_shape (any_of k [])
path_act_shape path_acts.Colons k = behind_colons
path_act_shape path_acts.More k = have a_name

-- what the path is, where it can end
abbrev pub path_shape_end : PathShape → Option PathKind
path_shape_end at_start = None
path_shape_end (have c) = Some c
path_shape_end behind_colons = None

-- all of it together
abbrev pub path_outline : Outline PathShape PathAct PathKind
path_outline = record {
  start = at_start;
  plan = λ u k. path_plan u k;
  act = λ u a k. path_act_shape a k;
  finish = λ u. path_shape_end u;
}

abbrev pub path_shapes : Machine TokenKind PathShape PathKind
path_shapes = outline_machine path_outline

-- ---- paths and entity literals

-- where an entity literal's list in braces stands
pub data InitShape : Type 0 where
  item : InitShape
  key : InitShape
  value : InitShape
  behind_item : InitShape

abbrev pub init_shape : InitPlace → InitShape
init_shape place.Item = item
init_shape (place.Key w) = key
init_shape (place.Value w) = value
init_shape place.Behind = behind_item

-- where words stand: in a path, in braces, or behind an entity literal
pub data WordsShape : Type 0 where
  in_path : PathShape → WordsShape
  in_inits : InitShape → WordsShape
  behind_entity : WordsShape

abbrev pub words_shape : WordsState → WordsShape
words_shape (state.Path s) = in_path (path_shape s)
words_shape (state.Inits s) = in_inits (init_shape s.place)
words_shape (state.Entity e) = behind_entity

-- what words may be to what stands above them
pub data WordsKind : Type 0 where
  a_path : PathKind → WordsKind
  an_entity : WordsKind

abbrev pub words_kind : Words → WordsKind
words_kind (words.Path p) = a_path (path_kind p)
words_kind (words.Entity e) = an_entity

-- behind `::`: a string or a brace makes an entity literal, an identifier goes on
abbrev pub more_plan : TokenKind → Option WordsAct
more_plan kind.StringLit = Some words_acts.Eid
more_plan kind.OpenBrace = Some words_acts.Open
more_plan k = if_any k (words_acts.Path path_acts.More)

-- what is done with a kind, by where the words stand
abbrev pub path_words_plan : PathShape → TokenKind → Option WordsAct
path_words_plan at_start k = if_any k (words_acts.Path path_acts.First)
path_words_plan (have c) k = had_plan (words_acts.Path path_acts.Colons) k
path_words_plan behind_colons k = more_plan k

-- in braces: where an item may stand, behind its key, behind `:`, and behind an item
abbrev pub item_plan : TokenKind → Option InitAct
item_plan kind.CloseBrace = Some init_acts.Close
item_plan k = if_any k init_acts.Key

abbrev pub key_plan : TokenKind → Option InitAct
key_plan kind.Colon = Some init_acts.Colon
key_plan _ = None

abbrev pub value_plan : TokenKind → Option InitAct
value_plan kind.True = Some init_acts.True
value_plan kind.False = Some init_acts.False
value_plan kind.Number = Some init_acts.Number
value_plan kind.StringLit = Some init_acts.String
value_plan _ = None

abbrev pub item_had_plan : TokenKind → Option InitAct
item_had_plan kind.Comma = Some init_acts.Comma
item_had_plan kind.CloseBrace = Some init_acts.Close
item_had_plan _ = None

abbrev pub init_plan : InitShape → TokenKind → Option InitAct
init_plan item k = item_plan k
init_plan key k = key_plan k
init_plan value k = value_plan k
init_plan behind_item k = item_had_plan k

abbrev pub words_plan : WordsShape → TokenKind → Option WordsAct
words_plan (in_path s) k = path_words_plan s k
words_plan (in_inits s) k = option_image (λ a. words_acts.Init a) (init_plan s k)
words_plan behind_entity k = None

-- and where they stand then
abbrev pub init_act_shape : InitAct → WordsShape
init_act_shape init_acts.Key = in_inits key
init_act_shape init_acts.Colon = in_inits value
init_act_shape init_acts.Comma = in_inits item
init_act_shape init_acts.Close = behind_entity
init_act_shape _ = in_inits behind_item

abbrev pub words_act_shape : WordsAct → TokenKind → WordsShape
words_act_shape (words_acts.Path a) k = in_path (path_act_shape a k)
words_act_shape words_acts.Eid k = behind_entity
words_act_shape words_acts.Open k = in_inits item
words_act_shape (words_acts.Init a) k = init_act_shape a

-- what the words are, where they can end
abbrev pub words_shape_end : WordsShape → Option WordsKind
words_shape_end (in_path s) = option_image (λ c. a_path c) (path_shape_end s)
words_shape_end (in_inits s) = None
words_shape_end behind_entity = Some an_entity

-- all of it together
abbrev pub words_outline : Outline WordsShape WordsAct WordsKind
words_outline = record {
  start = in_path at_start;
  plan = λ u k. words_plan u k;
  act = λ u a k. words_act_shape a k;
  finish = λ u. words_shape_end u;
}

abbrev pub words_shapes : Machine TokenKind WordsShape WordsKind
words_shapes = outline_machine words_outline

-- ---- names, entity literals and identifiers alone

-- `true`, `false` and `if` alone are no names
abbrev pub name_kind : PathKind → Option (Unit {0})
name_kind truth = None
name_kind condition = None
name_kind a_name = Some tt

abbrev pub name_outline : Outline PathShape PathAct (Unit {0})
name_outline = kept_outline name_kind path_outline

abbrev pub name_shapes : Machine TokenKind PathShape (Unit {0})
name_shapes = outline_machine name_outline

-- a path alone is no entity literal
abbrev pub entity_kind : WordsKind → Option (Unit {0})
entity_kind (a_path c) = None
entity_kind an_entity = Some tt

abbrev pub ref_outline : Outline WordsShape WordsAct (Unit {0})
ref_outline = kept_outline entity_kind words_outline

abbrev pub ref_shapes : Machine TokenKind WordsShape (Unit {0})
ref_shapes = outline_machine ref_outline

-- whether the identifier has been read
abbrev pub ident_shape : IdentState → Bool
ident_shape one_ident.Start = false
ident_shape (one_ident.Have w) = true

abbrev pub ident_plan : Bool → TokenKind → Option (Unit {0})
ident_plan false k = if_any k tt
ident_plan true k = None

abbrev pub ident_shape_end : Bool → Option (Unit {0})
ident_shape_end false = None
ident_shape_end true = Some tt

abbrev pub ident_outline : Outline Bool (Unit {0}) (Unit {0})
ident_outline = record {
  start = false;
  plan = λ u k. ident_plan u k;
  act = λ u a k. true;
  finish = λ u. ident_shape_end u;
}

abbrev pub ident_shapes : Machine TokenKind Bool (Unit {0})
ident_shapes = outline_machine ident_outline
