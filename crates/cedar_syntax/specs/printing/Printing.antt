-- What it is to write tokens with one space between two, for the functions that do it.
use Rattle.std.specs.Prelude.{◌≡◌, ℕ, Bool, true, false, ◌&&◌, List, [], ◌∷◌, ◌++◌, Result, IfOk, Option, Some, None}
use Rattle.std.specs.Fmt.{HasWritten, IsPlainFormatter}
use Rattle.std.specs.declared.fmt.Formatter.{Formatter}
use Rattle.std.specs.declared.fmt.Error.{Error}
use Rattle.cedar_syntax.specs.declared.node.Node.{Node}
use Rattle.cedar_syntax.specs.printing.Printed.{Texts, spaced_tokens, tokens_text}

abbrev pub is_none : Texts → Bool
is_none [] = true
is_none (t ∷ ts) = false

-- what is written of ts where nothing was written before, or something was
abbrev pub text_from : Bool → Texts → List ℕ
text_from true ts = tokens_text ts
text_from false ts = spaced_tokens ts

-- g is f after writing ts, and `still` says whether still nothing was written
pub record HasPrinted {W : Type 0} (took : W → List ℕ → W → Type 0) (f : Formatter W)
    (fresh : Bool) (ts : Texts) (still : Bool) (g : Formatter W) : Type 0 where
  pub written : HasWritten took f (text_from fresh ts) g
  pub first : still ≡ (fresh && is_none ts)

-- if r is `Ok`, the tokens ts were written
abbrev pub Prints : {W : Type 0} → (W → List ℕ → W → Type 0) → Formatter W → Bool → Texts
    → Result Bool Error → Formatter W → Type 0
Prints took f fresh ts r g =
    IsPlainFormatter f → IfOk r (λ still. HasPrinted took f fresh ts still g)

-- each item behind the token `mark`
abbrev pub texts_behind_mark : {T : Type 0} → List ℕ → (T → Texts) → List T → Texts
texts_behind_mark mark f [] = []
texts_behind_mark mark f (x ∷ xs) = mark ∷ (f x ++ texts_behind_mark mark f xs)

-- items one behind another
abbrev pub in_row : {T : Type 0} → (T → Texts) → List T → Texts
in_row f [] = []
in_row f (x ∷ xs) = f x ++ in_row f xs

-- items with the token `mark` between two
abbrev pub between : {T : Type 0} → List ℕ → (T → Texts) → List T → Texts
between mark f [] = []
between mark f (x ∷ xs) = f x ++ texts_behind_mark mark f xs

-- what is there, behind the token `mark`
abbrev pub option_behind_mark : {T : Type 0} → List ℕ → (T → Texts) → Option T → Texts
option_behind_mark mark f None = []
option_behind_mark mark f (Some x) = mark ∷ f x

-- each item before the token `mark`
abbrev pub texts_before_mark : {T : Type 0} → List ℕ → (T → Texts) → List T → Texts
texts_before_mark mark f [] = []
texts_before_mark mark f (x ∷ xs) = (f x ++ (mark ∷ [])) ++ texts_before_mark mark f xs

abbrev pub node_texts : {T : Type 0} → (T → Texts) → Node T → Texts
node_texts f n = f n.node

abbrev pub pair_texts : {A B : Type 0} → (A → Texts) → (B → Texts) → A × B → Texts
pair_texts f g p = f p.0 ++ g p.1
