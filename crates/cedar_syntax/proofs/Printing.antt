-- Prints in a row make one.
use Rattle.std.proofs.Common.{◌≡◌, ℕ, Bool, true, false, ◌&&◌, List, [], ◌∷◌, ◌++◌, length, take, get_or, refl, ap, sym, ◌∙◌, subst, append_assoc, Result, Ok, Err, ◌<◌, ◌≤◌, ◌+◌, drop, arith}
use Rattle.std.proofs.lemmas.List.{take_more, append-nil}
use Rattle.std.specs.Fmt.{IsPlainFormatter}
use Rattle.std.proofs.Output.{has_written_append, has_written_of_eq, writes_in_calls_nil}
use Rattle.std.specs.declared.fmt.Formatter.{Formatter}
use Rattle.std.specs.declared.fmt.Error.{Error}
use Rattle.cedar_syntax.specs.printing.Printed.{Texts, spaced_tokens}
use Rattle.cedar_syntax.specs.printing.Printing.{is_none, text_from, HasPrinted, Prints, texts_behind_mark, in_row, between, texts_before_mark}

pub spaced-append : (xs ys : Texts) → spaced_tokens (xs ++ ys) ≡ spaced_tokens xs ++ spaced_tokens ys
spaced-append [] ys = refl
spaced-append (x ∷ xs) ys = ap (λ (l : List ℕ). 32 ∷ l) (ap (λ (l : List ℕ). x ++ l) (spaced-append xs ys) ∙ sym (append_assoc x (spaced_tokens xs) (spaced_tokens ys)))

pub text_from-append : (a : Bool) (xs ys : Texts) → text_from a (xs ++ ys) ≡ text_from a xs ++ text_from (a && is_none xs) ys
text_from-append true [] ys = refl
text_from-append true (x ∷ xs) ys = ap (λ (l : List ℕ). x ++ l) (spaced-append xs ys) ∙ sym (append_assoc x (spaced_tokens xs) (spaced_tokens ys))
text_from-append false xs ys = spaced-append xs ys

pub is_none-append : (a : Bool) (xs ys : Texts) → ((a && is_none xs) && is_none ys) ≡ (a && is_none (xs ++ ys))
is_none-append true [] ys = refl
is_none-append true (x ∷ xs) ys = refl
is_none-append false xs ys = refl

module _ {W : Type 0} (took : W → List ℕ → W → Type 0) where
  pub printed-append : {f g h : Formatter W} {a b c : Bool} (xs ys : Texts) → HasPrinted took f a xs b g → HasPrinted took g b ys c h → HasPrinted took f a (xs ++ ys) c h
  printed-append {f} {g} {h} {a} {b} {c} xs ys p q = record {
    written = has_written_of_eq took _ _ _ _ (ap (λ (z : Bool). text_from a xs ++ text_from z ys) p.first ∙ sym (text_from-append a xs ys)) (has_written_append took _ _ _ _ _ p.written q.written);
    first = q.first ∙ (ap (λ (z : Bool). z && is_none ys) p.first ∙ is_none-append a xs ys);
  }

  -- one print, then another that may fail
  pub prints-then : (f g h : Formatter W) (a b : Bool) (r : Result Bool Error) (xs ys : Texts) → Prints took f a xs (Ok b) g → Prints took g b ys r h → Prints took f a (xs ++ ys) r h
  prints-then f g h a b (Ok c) xs ys p q plain = let one = p plain in printed-append xs ys one (q one.written.plain)
  prints-then f g h a b (Err e) xs ys p q plain = tt

  pub printed-none : (f : Formatter W) (a : Bool) → IsPlainFormatter f → HasPrinted took f a [] a f
  printed-none f true plain = record { written = record { wrote = writes_in_calls_nil took _; plain = plain }; first = refl }
  printed-none f false plain = record { written = record { wrote = writes_in_calls_nil took _; plain = plain }; first = refl }

  -- two prints that succeeded
  pub after : {f g h : Formatter W} {a b c : Bool} {xs ys : Texts} → (IsPlainFormatter f → HasPrinted took f a xs b g) → (IsPlainFormatter g → HasPrinted took g b ys c h) → IsPlainFormatter f → HasPrinted took f a (xs ++ ys) c h
  after {xs = xs} {ys = ys} p q plain = let one = p plain in printed-append xs ys one (q one.written.plain)

  pub as_texts : {f g : Formatter W} {a b : Bool} {xs ys : Texts} → xs ≡ ys → (IsPlainFormatter f → HasPrinted took f a xs b g) → IsPlainFormatter f → HasPrinted took f a ys b g
  as_texts {f} {g} {a} {b} e p plain = subst (λ (ts : Texts). HasPrinted took f a ts b g) e (p plain)

  pub prints-of_eq : (f g : Formatter W) (a : Bool) (r : Result Bool Error) (xs ys : Texts) → xs ≡ ys → Prints took f a xs r g → Prints took f a ys r g
  prints-of_eq f g a r xs ys e = subst (λ (zs : Texts). Prints took f a zs r g) e

-- one item more
module _ {T : Type 0} (f : T → Texts) (mark : List ℕ) where
  pub marked-push : (xs : List T) (x : T) → texts_behind_mark mark f (xs ++ x ∷ []) ≡ texts_behind_mark mark f xs ++ ((mark ∷ []) ++ f x)
  marked-push [] x = ap (λ (l : Texts). mark ∷ l) (append-nil (f x))
  marked-push (y ∷ ys) x = ap (λ (l : Texts). mark ∷ l) (ap (λ (l : Texts). f y ++ l) (marked-push ys x) ∙ sym (append_assoc (f y) (texts_behind_mark mark f ys) ((mark ∷ []) ++ f x)))

  pub marked-take : (xs : List T) (i : ℕ) (x : T) → i < length xs → x ≡ get_or xs i x → texts_behind_mark mark f (take (i + 1) xs) ≡ texts_behind_mark mark f (take i xs) ++ ((mark ∷ []) ++ f x)
  marked-take xs i x h e = ap (texts_behind_mark mark f) (take_more xs i x h ∙ ap (λ (y : T). take i xs ++ y ∷ []) (sym e)) ∙ marked-push (take i xs) x

module _ {T : Type 0} (f : T → Texts) where
  pub in_row-push : (xs : List T) (x : T) → in_row f (xs ++ x ∷ []) ≡ in_row f xs ++ f x
  in_row-push [] x = append-nil (f x)
  in_row-push (y ∷ ys) x = ap (λ (l : Texts). f y ++ l) (in_row-push ys x) ∙ sym (append_assoc (f y) (in_row f ys) (f x))

  pub in_row-take : (xs : List T) (i : ℕ) (x : T) → i < length xs → x ≡ get_or xs i x → in_row f (take (i + 1) xs) ≡ in_row f (take i xs) ++ f x
  in_row-take xs i x h e = ap (in_row f) (take_more xs i x h ∙ ap (λ (y : T). take i xs ++ y ∷ []) (sym e)) ∙ in_row-push (take i xs) x

-- the first item, and each other behind the mark
pub between-first : {T : Type 0} (f : T → Texts) (mark : List ℕ) (xs : List T) (x : T) → 1 ≤ length xs → x ≡ get_or xs 0 x → f x ++ texts_behind_mark mark f (drop 1 xs) ≡ between mark f xs
between-first f mark [] x h e = absurd (omega arith)
between-first f mark (y ∷ ys) x h e = ap (λ z. f z ++ texts_behind_mark mark f ys) e

module _ {T : Type 0} (f : T → Texts) (mark : List ℕ) where
  pub followed-push : (xs : List T) (x : T) → texts_before_mark mark f (xs ++ x ∷ []) ≡ texts_before_mark mark f xs ++ (f x ++ (mark ∷ []))
  followed-push [] x = append-nil (f x ++ (mark ∷ []))
  followed-push (y ∷ ys) x = ap (λ (l : Texts). (f y ++ (mark ∷ [])) ++ l) (followed-push ys x) ∙ sym (append_assoc (f y ++ (mark ∷ [])) (texts_before_mark mark f ys) (f x ++ (mark ∷ [])))

  pub followed-take : (xs : List T) (i : ℕ) (x : T) → i < length xs → x ≡ get_or xs i x → texts_before_mark mark f (take (i + 1) xs) ≡ texts_before_mark mark f (take i xs) ++ (f x ++ (mark ∷ []))
  followed-take xs i x h e = ap (texts_before_mark mark f) (take_more xs i x h ∙ ap (λ (y : T). take i xs ++ y ∷ []) (sym e)) ∙ followed-push (take i xs) x
