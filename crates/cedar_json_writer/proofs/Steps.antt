-- What was written, and what is left of a whole, are the whole.
use Rattle.std.proofs.Common.{◌≡◌, ℕ, ◌+◌, ◌<◌, Bool, true, false, cond, List, [], ◌∷◌, ◌++◌, refl, ap, sym, ◌∙◌, append_assoc, append-nil, arith, Result, Ok, OnOk, subst}
use Rattle.std.proofs.lemmas.Result.{on_ok_weaker}
use Rattle.json.specs.Token.{Token}
use Rattle.json.specs.Written.{Written, Writes}
use Rattle.cedar_expressions.specs.Path.{Path, name_text}
use Rattle.cedar_json_writer.specs.declared.todo.Todo.{Todo}
use Rattle.cedar_json_writer.specs.FunctionKeys.{key_before, is_operator_key}
use Rattle.cedar_json_writer.specs.machines.Outputs.{Appends}
use Rattle.cedar_json_writer.specs.machines.Pending.{all_tokens, all_called, all_weights}

-- of a whole, some tokens are left
pub record Wrote (first out : Written) (all left : List Token) : Type 0 where
  pub before : out.before ≡ first.before
  pub tokens : out.tokens ++ left ≡ first.tokens ++ all

pub none_wrote : (out : Written) (all : List Token) → Wrote out out all all
none_wrote out all = record { before = refl; tokens = refl }

-- some more were written
pub wrote_more : (first out next : Written) (all left ts more : List Token) → left ≡ ts ++ more → Wrote first out all left → (next.before ≡ out.before) × (next.tokens ≡ out.tokens ++ ts) → Wrote first next all more
wrote_more first out next all left ts more e w h = record {
  before = h.0 ∙ w.before;
  tokens =
      ap (λ (us : List Token). us ++ more) h.1
      ∙ append_assoc out.tokens ts more
      ∙ ap (λ (us : List Token). out.tokens ++ us) (sym e)
      ∙ w.tokens;
}

-- all were written
pub wrote_all : (first out : Written) (all left : List Token) → left ≡ [] → Wrote first out all left → (out.before ≡ first.before) × (out.tokens ≡ first.tokens ++ all)
wrote_all first out all left e w = (w.before, sym (append-nil out.tokens) ∙ ap (λ (us : List Token). out.tokens ++ us) (sym e) ∙ w.tokens)

-- a last one is written
pub wrote_last : {E : Type 0} (r : Result (Unit {0}) E) (first out next : Written) (all left : List Token) (t : Token) → left ≡ t ∷ [] → Wrote first out all left → Writes r out next t → Appends r first next all
wrote_last r first out next all left t e w h =
    on_ok_weaker r (λ wrote. wrote_all first next all [] refl (wrote_more first out next all left (t ∷ []) [] e w (h.room.0, wrote))) h.ok

pub split : (b : Bool) (name : List ℕ) (others : List (List ℕ)) → cond b (name ∷ others) others ≡ cond b (name ∷ []) [] ++ others
split true name others = refl
split false name others = refl

-- the name of a function was written
pub name_written : {E : Type 0} (r : Result (Unit {0}) E) (out next : Written) (name : Path) (old : List Todo) → Appends r out next (Token.key (name_text name) ∷ []) → OnOk r ((next.before ≡ out.before) × (next.tokens ++ all_tokens old ≡ out.tokens ++ (Token.key (name_text name) ∷ all_tokens old)) × (all_weights old < 1 + all_weights old) × (key_before (name_text name) (all_called old) ≡ key_before (name_text name) [] ++ all_called old))
name_written r out next name old h =
    on_ok_weaker r (λ w. (w.0, ap (λ (ts : List Token). ts ++ all_tokens old) w.1 ∙ append_assoc out.tokens (Token.key (name_text name) ∷ []) (all_tokens old), omega arith, split (is_operator_key (name_text name)) (name_text name) (all_called old))) h

-- ---- one after another

abbrev pub Added : Written → Written → List Token → Type 0
Added a b ts = (b.before ≡ a.before) × (b.tokens ≡ a.tokens ++ ts)

pub written : {E : Type 0} {x : Unit {0}} (a b : Written) (t : Token) → Writes {E = E} (Ok x) a b t → Added a b (t ∷ [])
written a b t w = (w.room.0, w.ok)

pub in_turn : (a b c : Written) (ts us : List Token) → Added a b ts → Added b c us → Added a c (ts ++ us)
in_turn a b c ts us h g = (g.0 ∙ h.0, g.1 ∙ ap (λ (xs : List Token). xs ++ us) h.1 ∙ append_assoc a.tokens ts us)

pub finish : {E : Type 0} (r : Result (Unit {0}) E) (a b c : Written) (ts us : List Token) → Added a b ts → OnOk r (Added b c us) → OnOk r (Added a c (ts ++ us))
finish r a b c ts us h g = on_ok_weaker r (λ w. in_turn a b c ts us h w) g

pub finish_one : {E : Type 0} (r : Result (Unit {0}) E) (a b c : Written) (ts : List Token) (t : Token) → Added a b ts → Writes r b c t → OnOk r (Added a c (ts ++ t ∷ []))
finish_one r a b c ts t h w = on_ok_weaker r (λ e. in_turn a b c ts (t ∷ []) h (w.room.0, e)) w.ok

-- the same tokens in other words
pub same_added : {E : Type 0} (r : Result (Unit {0}) E) (a b : Written) (ts us : List Token) → ts ≡ us → OnOk r (Added a b ts) → OnOk r (Added a b us)
same_added r a b ts us e h = subst (λ (xs : List Token). OnOk r (Added a b xs)) e h
