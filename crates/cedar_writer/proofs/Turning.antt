-- The turns of the writer: each keeps the words, and what is free.
use Rattle.std.proofs.Common.{◌≡◌, ℕ, ◌<◌, List, [], ◌∷◌, ◌++◌, Result, Ok, Err, refl, sym, ap, ◌∙◌, subst, arith, append_assoc, append-nil}
use Rattle.std.proofs.lemmas.List.Concat.{flat_map-append}
use Rattle.cedar_lexer.specs.declared.token.TokenKind.{TokenKind}
use Rattle.cedar_expressions.specs.Value.{Value, Values, Terms, Fields}
use Rattle.cedar_conversion.specs.strict.Extensions.{Extensions}
use Rattle.cedar_conversion.specs.strict.Strict as s
use Rattle.cedar_conversion.specs.strict.Strict.{Sort}
use Rattle.cedar_syntax.specs.tokens.Signs.{sign_limit}
use Rattle.cedar_writer.specs.declared.output.Output.{Output}
use Rattle.cedar_writer.specs.declared.refusal.NotWritten.{NotWritten}
use Rattle.cedar_writer.specs.declared.refusal.NotWritten.TheVariants.{Memory, NotWritable}
use Rattle.cedar_writer.specs.Writing.{words, sort_of, fitted}
use Rattle.cedar_writer.specs.machines.Outputs.{Adds}
use Rattle.cedar_writer.specs.machines.Pending as p
use Rattle.cedar_writer.specs.machines.Pending.{Todo, todo_words, all_words, IsFree, AreFree, StandsIn, StandIn, todo_load, all_loads, placed_todo, negated_todo, behind_todo, terms_todo, pairs_todo}
use Rattle.cedar_writer.specs.machines.Stepping.{Stepped, Steps, Runs, WritesAll, WritesValue}
use Rattle.cedar_writer.specs.machines.Turns.{Turns, Stacks}
use Rattle.cedar_writer.proofs.Openings.{both_free, first_free, rest_free, all_loads-append, forth, back, placed_forth, placed_back, negated_forth, negated_back, behind_forth, behind_back, terms_forth, terms_back, pairs_behind_forth, pairs_behind_back, placed_light, negated_light, behind_light, terms_light, pairs_behind_light}
use Rattle.cedar_writer.specs.Parts.{itself}
use Rattle.cedar_writer.proofs.OpenedParts.{both_stand, placed_parts, negated_parts, behind_parts, terms_parts, pairs_parts}
use Rattle.cedar_writer.proofs.Steps.{placed_is, negated_is, behind_is, terms_is, pairs_behind_is, loose}
use Rattle.cedar_writer.proofs.WordsAdded.{nothing_added, both_added, same_added}

-- ---- one turn

pub text_stepped : (table : Extensions) (t : Todo) (a b : Output) (old : List Todo) → todo_load t ≡ 1 → IsFree table sign_limit t → Adds a b (todo_words table t) → Stepped table t a b old old
text_stepped table t a b old one free adds = record {
  done = todo_words table t;
  adds = adds;
  keeps = refl;
  forth = λ h. (free, h);
  back = λ i h. h;
  stands = λ w i h. h;
  lighter = omega (arith, one);
}

turned : (table : Extensions) (t : Todo) (items : List Todo) (a : Output) (old new : List Todo) → new ≡ items ++ old → all_words table items ≡ todo_words table t → (AreFree table sign_limit items → IsFree table sign_limit t) → (IsFree table sign_limit t → AreFree table sign_limit items) → ((whole : Value) → StandsIn whole t → StandIn whole items) → all_loads items < todo_load t → Stepped table t a a old new
turned table t items a old new is words f g parts light = record {
  done = [];
  adds = nothing_added a;
  keeps = ap (all_words table) is ∙ flat_map-append (todo_words table) items old ∙ ap (λ x. x ++ all_words table old) words;
  forth = λ h. let k : AreFree table sign_limit (items ++ old) = subst (AreFree table sign_limit) is h in (f (first_free table sign_limit items old k), rest_free table sign_limit items old k);
  back = λ i h. subst (AreFree table sign_limit) (sym is) (both_free table sign_limit items old (g i) h);
  stands = λ w i h. subst (StandIn w) (sym is) (both_stand w items old (parts w i) h);
  lighter = omega (arith, ap all_loads is, all_loads-append items old);
}

module _ {T : Type 0} (table : Extensions) (out : Output) (old new : List Todo) where
  pub operand_steps : (wanted : Sort) (a : Value) (r : Result T NotWritten) → Turns table (placed_todo table wanted a) a r old new → Steps table (p.operand wanted a) r out out old new
  operand_steps wanted a (Ok x) h =
      turned table (p.operand wanted a) (placed_todo table wanted a) out old new h.0 (placed_is table wanted a)
      (λ i. forth table sign_limit a h.1 (placed_forth table sign_limit wanted a i))
      (λ w. placed_back table sign_limit wanted a (back table sign_limit a w).1)
      (λ w i. placed_parts table wanted a w i)
      (placed_light table wanted a)
  operand_steps wanted a (Err Memory) h = tt
  operand_steps wanted a (Err (NotWritable k)) h = ((λ w. h.0 (back table sign_limit a w).0), (λ whole i. (a, i, h)))

  pub negated_steps : (a : Value) (r : Result T NotWritten) → Turns table (negated_todo table a) a r old new → Steps table (p.negated a) r out out old new
  negated_steps a (Ok x) h =
      turned table (p.negated a) (negated_todo table a) out old new h.0 (negated_is table a)
      (λ i. forth table sign_limit a h.1 (negated_forth table sign_limit a i))
      (λ w. negated_back table sign_limit a (back table sign_limit a w).1)
      (λ w i. negated_parts table a w i)
      (negated_light table a)
  negated_steps a (Err Memory) h = tt
  negated_steps a (Err (NotWritable k)) h = ((λ w. h.0 (back table sign_limit a w).0), (λ whole i. (a, i, h)))

  pub behind_steps : (k : TokenKind) (text : List ℕ) (wanted : Sort) (bs : Values) (r : Result T NotWritten) → Stacks (behind_todo k text wanted bs) r old new → Steps table (p.behind k text wanted bs) r out out old new
  behind_steps k text wanted bs (Ok x) h =
      turned table (p.behind k text wanted bs) (behind_todo k text wanted bs) out old new h (behind_is table k text wanted bs)
      (behind_forth table sign_limit k text wanted bs) (behind_back table sign_limit k text wanted bs) (behind_parts k text wanted bs) (behind_light k text wanted bs)
  behind_steps k text wanted bs (Err Memory) h = tt
  behind_steps k text wanted bs (Err (NotWritable j)) h = absurd h

  pub terms_steps : (ts : Terms) (r : Result T NotWritten) → Stacks (terms_todo ts) r old new → Steps table (p.terms_behind ts) r out out old new
  terms_steps ts (Ok x) h =
      turned table (p.terms_behind ts) (terms_todo ts) out old new h (terms_is table ts)
      (terms_forth table sign_limit ts) (terms_back table sign_limit ts) (terms_parts ts) (terms_light ts)
  terms_steps ts (Err Memory) h = tt
  terms_steps ts (Err (NotWritable j)) h = absurd h

  pub pairs_steps : (fs : Fields) (r : Result T NotWritten) → Stacks (pairs_todo fs) r old new → Steps table (p.pairs_behind fs) r out out old new
  pairs_steps fs (Ok x) h =
      turned table (p.pairs_behind fs) (pairs_todo fs) out old new h (pairs_behind_is table fs)
      (pairs_behind_forth table sign_limit fs) (pairs_behind_back table sign_limit fs) (pairs_parts fs) (pairs_behind_light fs)
  pairs_steps fs (Err Memory) h = tt
  pairs_steps fs (Err (NotWritable j)) h = absurd h

-- ---- all turns

pub runs_first : (table : Extensions) (all : List Todo) (a : Output) → Runs table all a a all
runs_first table all a = record { done = []; adds = nothing_added a; keeps = refl; forth = λ h. h; back = λ h. h; stands = λ w h. h }

pub runs_on : (table : Extensions) (all : List Todo) (a b c : Output) (t : Todo) (old new : List Todo) → Runs table all a b (t ∷ old) → Stepped table t b c old new → Runs table all a c new
runs_on table all a b c t old new r h = record {
  done = r.done ++ h.done;
  adds = both_added a b c r.done h.done r.adds h.adds;
  keeps = append_assoc r.done h.done (all_words table new) ∙ ap (λ x. r.done ++ x) h.keeps ∙ r.keeps;
  forth = λ i. let k = h.forth i in r.forth (k.0, k.1);
  back = λ i. let k = r.back i in h.back k.0 k.1;
  stands = λ w i. let k = r.stands w i in h.stands w k.0 k.1;
}

pub runs_out : (table : Extensions) (all : List Todo) (a b : Output) → Runs table all a b [] → Adds a b (all_words table all) × AreFree table sign_limit all
runs_out table all a b r = (same_added a b r.done (all_words table all) (sym (append-nil r.done) ∙ r.keeps) r.adds, r.forth tt)

pub runs_refused : (table : Extensions) (all : List Todo) (a b c : Output) (t : Todo) (old new : List Todo) (e : NotWritten) → Runs table all a b (t ∷ old) → Steps table t {T = Unit {0}} (Err e) b c old new → WritesAll table all {T = Unit {0}} (Err e) a c
runs_refused table all a b c t old new Memory r h = tt
runs_refused table all a b c t old new (NotWritable k) r h = ((λ i. h.0 (r.back i).0), (λ w i. h.1 w (r.stands w i).0))

-- ---- a value alone

pub value_written : {T : Type 0} (table : Extensions) (a : Value) (r : Result T NotWritten) (out out' : Output) → WritesAll table (p.operand s.expression a ∷ []) r out out' → WritesValue table a r out out'
value_written table a (Ok x) out out' h =
    (same_added out out' (fitted s.expression (sort_of a) (words table a) ++ []) (words table a) (append-nil (fitted s.expression (sort_of a) (words table a)) ∙ loose (sort_of a) (words table a)) h.0, h.1.0)
value_written table a (Err Memory) out out' h = tt
value_written table a (Err (NotWritable k)) out out' h = ((λ w. h.0 (w, tt)), h.1 a (itself, tt))
