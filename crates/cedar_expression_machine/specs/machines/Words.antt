-- How paths and entity literals are read, and the machines that read them. An identifier is read
-- as soon as it stands there; whether a path goes on, the next token tells.
use Rattle.std.specs.Prelude.{ℕ, Bool, true, false, List, [], ◌∷◌, ◌++◌, Option, Some, None, cond}
use Rattle.cedar_lexer.specs.Token.{Lexeme}
use Rattle.cedar_syntax.specs.declared.cst.Ident.{Ident}
use Rattle.cedar_syntax.specs.declared.cst.Name.{Name}
use Rattle.cedar_syntax.specs.declared.cst.Ref.{Ref}
use Rattle.cedar_syntax.specs.declared.cst.Ref.TheVariants as ref
use Rattle.cedar_syntax.specs.declared.cst.RefInit.{RefInit}
use Rattle.cedar_syntax.specs.declared.cst.Literal.{Literal}
use Rattle.cedar_syntax.specs.declared.cst.Literal.TheVariants as literal
use Rattle.cedar_grammar.specs.declared.reading.extent.Extent.{Extent}
use Rattle.cedar_expression_machine.specs.declared.words.state.Word.{Word}
use Rattle.cedar_expression_machine.specs.declared.words.state.Path.{Path}
use Rattle.cedar_expression_machine.specs.declared.words.state.PathState.{PathState}
use Rattle.cedar_expression_machine.specs.declared.words.state.PathState.TheVariants as path
use Rattle.cedar_expression_machine.specs.declared.words.state.Entity.{Entity}
use Rattle.cedar_expression_machine.specs.declared.words.state.InitPlace.{InitPlace}
use Rattle.cedar_expression_machine.specs.declared.words.state.InitPlace.TheVariants as place
use Rattle.cedar_expression_machine.specs.declared.words.state.OpenEntity.{OpenEntity}
use Rattle.cedar_expression_machine.specs.declared.words.state.WordsState.{WordsState}
use Rattle.cedar_expression_machine.specs.declared.words.state.WordsState.TheVariants as state
use Rattle.cedar_expression_machine.specs.declared.words.state.Words.{Words}
use Rattle.cedar_expression_machine.specs.declared.words.state.Words.TheVariants as words
use Rattle.cedar_expression_machine.specs.declared.words.state.IdentState.{IdentState}
use Rattle.cedar_expression_machine.specs.declared.words.state.IdentState.TheVariants as one_ident
use Rattle.cedar_expression_machine.specs.declared.words.state.PathAct.{PathAct}
use Rattle.cedar_expression_machine.specs.declared.words.state.PathAct.TheVariants as path_acts
use Rattle.cedar_expression_machine.specs.declared.words.state.InitAct.{InitAct}
use Rattle.cedar_expression_machine.specs.declared.words.state.InitAct.TheVariants as init_acts
use Rattle.cedar_expression_machine.specs.declared.words.state.WordsAct.{WordsAct}
use Rattle.cedar_expression_machine.specs.declared.words.state.WordsAct.TheVariants as words_acts
use Rattle.cedar_grammar.specs.grammar.Place.{extent_of, node_at}
use Rattle.cedar_syntax.specs.tokens.Tokens.{number_of, fits, any_of}
use Rattle.cedar_syntax.specs.trees.Trees.{Cell, name_of, ref_init_of}
use Rattle.cedar_grammar.specs.grammar.LooseWords.{is_common}
use Rattle.cedar_grammar.specs.machines.Machine.{Machine, is_some, option_image, Reader, machine_of}
use Rattle.cedar_grammar.specs.machines.SingleTokens.{string_node}
use Rattle.cedar_expression_machine.specs.machines.Keeping.{kept_reader}
use Rattle.cedar_expression_machine.specs.machines.WordShapes.{path_shape, path_plan, words_shape, words_plan, ident_shape, ident_plan}

-- ---- words and paths

-- an identifier at its bytes, and as a node
abbrev pub word_of : Ident → Extent → Word
word_of i e = record { ident = i; extent = e }

abbrev pub word_node : List ℕ → Word → Cell Ident
word_node src w = node_at src (Some w.extent) w.ident

-- one identifier alone
abbrev pub one_word_path : Word → Path
one_word_path w = record { before = []; start = w.extent.start; last = w }

-- a path with one identifier more
abbrev pub with_word : List ℕ → Path → Word → Path
with_word src p w =
    record { before = p.before ++ word_node src p.last ∷ []; start = p.start; last = w }

-- from its first identifier's start to its last one's end
abbrev pub path_extent : Path → Extent
path_extent p = record { start = p.start; end = p.last.extent.end }

-- an identifier where a path begins
abbrev pub path_begun : Option Ident → Extent → Option PathState
path_begun o e = option_image (λ i. path.Have (one_word_path (word_of i e))) o

-- `::` behind one
abbrev pub path_parted : PathState → Option PathState
path_parted (path.Have p) = Some (path.Behind p)
path_parted _ = None

-- an identifier behind `::`
abbrev pub path_longer : List ℕ → PathState → Option Ident → Extent → Option PathState
path_longer src (path.Behind p) o e =
    option_image (λ i. path.Have (with_word src p (word_of i e))) o
path_longer src _ o e = None

-- what each act makes of a path
abbrev pub path_act : List ℕ → PathState → PathAct → Lexeme → Option PathState
path_act src s path_acts.First t = path_begun (any_of t.kind t.text) (extent_of t)
path_act src s path_acts.Colons t = path_parted s
path_act src s path_acts.More t = path_longer src s (any_of t.kind t.text) (extent_of t)

-- a path may end behind each identifier
abbrev pub path_end : PathState → Option Path
path_end (path.Have p) = Some p
path_end _ = None

-- Path = Any ("::" Any)*
abbrev pub path_reader : Reader PathState PathAct Path
path_reader = record {
  start = path.Start;
  plan = λ s k. path_plan (path_shape s) k;
  act = λ src s a t. path_act src s a t;
  ends = λ s. is_some (path_end s);
  finish = λ src s. path_end s;
}

abbrev pub paths : List ℕ → Machine Lexeme PathState Path
paths src = machine_of src path_reader

-- ---- entity literals

-- a path as a name
abbrev pub path_node : List ℕ → Path → Cell Name
path_node src p = node_at src (Some (path_extent p)) (name_of p.before (word_node src p.last))

-- an entity literal at its bytes
abbrev pub entity_with_extent : List ℕ → Ref → Extent → Entity
entity_with_extent src x e = record { node = node_at src (Some e) x; extent = e }

-- a path and a string
abbrev pub uid_of : List ℕ → Path → Lexeme → Entity
uid_of src p t =
    entity_with_extent src (ref.Uid (path_node src p) (string_node src t))
    record { start = p.start; end = t.end }

-- an entity literal whose brace is open, with these items
abbrev pub open_entity : Cell Name → ℕ → List (Cell RefInit) → OpenEntity
open_entity x n ys = record { path = x; start = n; inits = ys }

-- a brace behind a path
abbrev pub opened : List ℕ → Path → OpenEntity
opened src p = open_entity (path_node src p) p.start []

-- and where its list stands
abbrev pub inits_at : OpenEntity → InitPlace → WordsState
inits_at b p = state.Inits record { begun = b; place = p }

-- the key of an item
abbrev pub inits_named : OpenEntity → Option Ident → Extent → Option WordsState
inits_named b o e = option_image (λ i. inits_at b (place.Key (word_of i e))) o

-- `:` behind it
abbrev pub inits_parted : OpenEntity → InitPlace → Option WordsState
inits_parted b (place.Key w) = Some (inits_at b (place.Value w))
inits_parted b _ = None

-- an item with this value
abbrev pub with_value : List ℕ → OpenEntity → Word → Literal → Extent → OpenEntity
with_value src b w v e =
    open_entity b.path b.start
    (b.inits ++
    node_at src (Some record { start = w.extent.start; end = e.end })
    (ref_init_of (word_node src w) (node_at src (Some e) v)) ∷ [])

-- a value behind `:`
abbrev pub inits_valued : List ℕ → OpenEntity → InitPlace → Literal → Extent → Option WordsState
inits_valued src b (place.Value w) v e = Some (inits_at (with_value src b w v e) place.Behind)
inits_valued src b _ v e = None

-- nothing, where 64 bits don't hold the number
abbrev pub number_valued : List ℕ → OpenEntity → InitPlace → Bool → Lexeme → Option WordsState
number_valued src b p true t =
    inits_valued src b p (literal.Num (number_of t.text)) (extent_of t)
number_valued src b p false t = None

-- a string as a value
abbrev pub string_literal : List ℕ → Lexeme → Literal
string_literal src t = literal.Str (string_node src t)

-- the closing brace
abbrev pub inits_closed : List ℕ → OpenEntity → Extent → WordsState
inits_closed src b e =
    state.Entity
    (entity_with_extent src (ref.Ref b.path b.inits) record { start = b.start; end = e.end })

-- what each act makes of an entity literal in its braces: List(RefInit), RefInit = Any ":" Literal
abbrev pub init_act : List ℕ → OpenEntity → InitPlace → InitAct → Lexeme → Option WordsState
init_act src b p init_acts.Key t = inits_named b (any_of t.kind t.text) (extent_of t)
init_act src b p init_acts.Colon t = inits_parted b p
init_act src b p init_acts.True t = inits_valued src b p literal.True (extent_of t)
init_act src b p init_acts.False t = inits_valued src b p literal.False (extent_of t)
init_act src b p init_acts.Number t = number_valued src b p (fits t.text) t
init_act src b p init_acts.String t = inits_valued src b p (string_literal src t) (extent_of t)
init_act src b p init_acts.Comma t = Some (inits_at b place.Item)
init_act src b p init_acts.Close t = Some (inits_closed src b (extent_of t))

-- ---- a path or an entity literal

-- the path goes on as itself
abbrev pub in_path : List ℕ → WordsState → PathAct → Lexeme → Option WordsState
in_path src (state.Path s) a t = option_image (λ s. state.Path s) (path_act src s a t)
in_path src _ a t = None

-- a string behind `::`
abbrev pub words_named : List ℕ → WordsState → Lexeme → Option WordsState
words_named src (state.Path (path.Behind p)) t = Some (state.Entity (uid_of src p t))
words_named src _ t = None

-- `{` behind `::`
abbrev pub words_opened : List ℕ → WordsState → Option WordsState
words_opened src (state.Path (path.Behind p)) = Some (inits_at (opened src p) place.Item)
words_opened src _ = None

-- a token in braces
abbrev pub in_inits : List ℕ → WordsState → InitAct → Lexeme → Option WordsState
in_inits src (state.Inits s) a t = init_act src s.begun s.place a t
in_inits src _ a t = None

-- what each act makes of a path or an entity literal
abbrev pub words_act : List ℕ → WordsState → WordsAct → Lexeme → Option WordsState
words_act src s (words_acts.Path a) t = in_path src s a t
words_act src s words_acts.Eid t = words_named src s t
words_act src s words_acts.Open t = words_opened src s
words_act src s (words_acts.Init a) t = in_inits src s a t

-- they may end as a path, and behind an entity literal
abbrev pub words_end : WordsState → Option Words
words_end (state.Path s) = option_image (λ p. words.Path p) (path_end s)
words_end (state.Inits s) = None
words_end (state.Entity e) = Some (words.Entity e)

-- Path, or Ref = Path "::" STRINGLIT | Path "::" "{" List(RefInit) "}"
abbrev pub words_reader : Reader WordsState WordsAct Words
words_reader = record {
  start = state.Path path.Start;
  plan = λ s k. words_plan (words_shape s) k;
  act = λ src s a t. words_act src s a t;
  ends = λ s. is_some (words_end s);
  finish = λ src s. words_end s;
}

abbrev pub words_machine : List ℕ → Machine Lexeme WordsState Words
words_machine src = machine_of src words_reader

-- ---- what a path or an entity literal is alone

-- `true`, `false` and `if` are no names
abbrev pub is_name_among : List (Cell Ident) → Ident → Bool
is_name_among [] i = is_common i
is_name_among (x ∷ xs) i = true

abbrev pub is_name : Path → Bool
is_name p = is_name_among p.before p.last.ident

abbrev pub path_as_name : List ℕ → Path → Option (Cell Name)
path_as_name src p = cond (is_name p) (Some (path_node src p)) None

-- Name = Common | Path of two or more
abbrev pub name_ends : PathState → Bool
name_ends (path.Have p) = is_name p
name_ends _ = false

abbrev pub name_reader : Reader PathState PathAct (Cell Name)
name_reader = kept_reader (λ src p. path_as_name src p) (λ s. name_ends s) path_reader

abbrev pub names : List ℕ → Machine Lexeme PathState (Cell Name)
names src = machine_of src name_reader

-- an entity literal alone
abbrev pub words_as_ref : Words → Option (Cell Ref)
words_as_ref (words.Path p) = None
words_as_ref (words.Entity e) = Some e.node

abbrev pub ref_ends : WordsState → Bool
ref_ends (state.Entity e) = true
ref_ends _ = false

abbrev pub ref_reader : Reader WordsState WordsAct (Cell Ref)
ref_reader = kept_reader (λ src x. words_as_ref x) (λ s. ref_ends s) words_reader

abbrev pub refs : List ℕ → Machine Lexeme WordsState (Cell Ref)
refs src = machine_of src ref_reader

-- ---- one identifier

-- Any, as a whole text
abbrev pub ident_act : Lexeme → Option IdentState
ident_act t = option_image (λ i. one_ident.Have (word_of i (extent_of t))) (any_of t.kind t.text)

abbrev pub ident_end : List ℕ → IdentState → Option (Cell Ident)
ident_end src one_ident.Start = None
ident_end src (one_ident.Have w) = Some (word_node src w)

abbrev pub ident_reader : Reader IdentState (Unit {0}) (Cell Ident)
ident_reader = record {
  start = one_ident.Start;
  plan = λ s k. ident_plan (ident_shape s) k;
  act = λ src s a t. ident_act t;
  ends = λ s. ident_shape s;
  finish = λ src s. ident_end src s;
}

abbrev pub idents : List ℕ → Machine Lexeme IdentState (Cell Ident)
idents src = machine_of src ident_reader
