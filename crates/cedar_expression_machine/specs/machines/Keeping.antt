-- A form that is read as another one, of which it keeps some trees alone: names, of the paths.
use Rattle.std.specs.Prelude.{ℕ, List, Bool, Option, Some, None}
use Rattle.cedar_grammar.specs.machines.Machine.{Reader, Outline}

-- the tree, where it is one of those
abbrev pub kept_end : {T U : Type 0} → (T → Option U) → Option T → Option U
kept_end f (Some x) = f x
kept_end f None = None

-- the tokens are read as the other form reads them; `ends` says whether a state's tree is kept
abbrev pub kept_reader : {S A T U : Type 0} → (List ℕ → T → Option U) → (S → Bool)
    → Reader S A T → Reader S A U
kept_reader f ends r = record {
  start = r.start;
  plan = r.plan;
  act = r.act;
  ends = ends;
  finish = λ src s. kept_end (f src) (r.finish src s);
}

-- and its outline
abbrev pub kept_outline : {U A V W : Type 0} → (V → Option W) → Outline U A V → Outline U A W
kept_outline f n = record {
  start = n.start;
  plan = n.plan;
  act = n.act;
  finish = λ u. kept_end f (n.finish u);
}
