-- Comparisons that decide equality: of pairs, and of enums, variant by variant.
use Rattle.std.proofs.Common.{◌≡◌, ℕ, Bool, true, false, ◌&&◌, Decides, List, [], ◌∷◌, ◌⊎◌, inl, inr, refl, sym, ap, true≢false, arith, ⊎_elim}
use Rattle.std.specs.Cmp.{first_so, second_so}
use denote.Struct.Field.{Field}
use denote.Struct.Values.{Values}
use denote.Enum.Bare.{Bare, sameb, same_true, true_same}
use denote.Enum.Compared.{Each, by}
use denote.Enum.Declared.{Record, Declared, Choice, values_one, rowss, intoss}
use denote.Enum.Enum.{tag}

pub both : {P Q : Type 0} (r s : Bool) → Decides r P → Decides s Q → Decides (r && s) (P × Q)
both r s p q = (λ h. (p.0 (first_so r s h), q.0 (second_so r s h)), λ h i. p.1 h.0 i && q.1 h.1 i)

pub through : {P Q : Type 0} {r : Bool} → (P → Q) → (Q → P) → Decides r P → Decides r Q
through f g d = (λ h. f (d.0 h), λ q. d.1 (g q))

never : {P : Type 0} → (P → ⊥) → Decides false P
never f = (λ h. absurd (true≢false (sym h)), λ p. absurd (f p))

-- an enum whose variants have no fields
pub bare : (D : Declared) → Bare D.parts → (x y : D.D) → Decides (sameb D x y) (x ≡ y)
bare D none x y = (same_true D none x y, true_same D x y)

-- an enum: at each variant its fields' comparison decides
abbrev pub Deciding : (Fss : List (List Field)) → Each Bool Fss → Type 0
Deciding [] each = Unit {0}
Deciding (Fs ∷ Fss) each = ((x y : Values Fs) → Decides (each.0 x y) (x ≡ y)) × Deciding Fss each.1

abbrev left : {A B : Type 0} → A → A ⊎ B → A
left a c = ⊎_elim (λ x. x) (λ _. a) c

abbrev right : {A B : Type 0} → B → A ⊎ B → B
right b c = ⊎_elim (λ _. b) (λ x. x) c

abbrev is_left : {A B : Type 0} → A ⊎ B → Bool
is_left c = ⊎_elim (λ _. true) (λ _. false) c

choices : (Fss : List (List Field)) (each : Each Bool Fss) → Deciding Fss each → (c d : Choice Fss) → Decides (by false false Fss each c d) (c ≡ d)
choices [] each all c d = absurd c
choices (Fs ∷ Fss) each all (inl x) (inl y) = through (ap inl) (ap (left x)) (all.0 x y)
choices (Fs ∷ Fss) each all (inl x) (inr y) = never (λ e. true≢false (ap is_left e))
choices (Fs ∷ Fss) each all (inr x) (inl y) = never (λ e. true≢false (sym (ap is_left e)))
choices (Fs ∷ Fss) each all (inr x) (inr y) = through (ap inr) (ap (right x)) (choices Fss each.1 all.1 x y)

pub enum : (N : Record) (each : Each Bool N.parts) → Deciding N.parts each → (x y : N.D) → Decides (by false false N.parts each (N.as_values x) (N.as_values y)) (x ≡ y)
enum N each all x y = through (values_one N x y) (ap N.as_values) (choices N.parts each all (N.as_values x) (N.as_values y))

-- one choice against all others, where its own variant's comparison decides equality of what g
-- gives
abbrev pub place : (Fss : List (List Field)) → Choice Fss → ℕ
place Fss c = tag (rowss Fss) (intoss Fss c)

module _ {V : Type 0} where
  abbrev pub Against : (Fss : List (List Field)) → Each Bool Fss → (Choice Fss → V) → Choice Fss → Type 0
  Against [] each g c = absurd c
  Against (Fs ∷ Fss) each g (inl x) = (y : Values Fs) → Decides (each.0 x y) (g (inl x) ≡ g (inl y))
  Against (Fs ∷ Fss) each g (inr c) = Against Fss each.1 (λ d. g (inr d)) c

  pub against : (Fss : List (List Field)) (each : Each Bool Fss) (g : Choice Fss → V)
      → ((c d : Choice Fss) → g c ≡ g d → place Fss c ≡ place Fss d)
      → (c : Choice Fss) → Against Fss each g c → (d : Choice Fss) → Decides (by false false Fss each c d) (g c ≡ g d)
  against [] each g apart c at d = absurd c
  against (Fs ∷ Fss) each g apart (inl x) at (inl y) = at y
  against (Fs ∷ Fss) each g apart (inl x) at (inr y) = never (λ e. omega (arith, apart (inl x) (inr y) e))
  against (Fs ∷ Fss) each g apart (inr x) at (inl y) = never (λ e. omega (arith, apart (inr x) (inl y) e))
  against (Fs ∷ Fss) each g apart (inr x) at (inr y) = against Fss each.1 (λ d. g (inr d)) (λ c d e. omega (arith, apart (inr c) (inr d) e)) x at y

-- fields
module _ {A : Type 0} (E : A → A → Bool) (d : (a b : A) → Decides (E a b) (a ≡ b)) where
  pub one : (x y : A × Unit {0}) → Decides (E x.0 y.0) (x ≡ y)
  one x y = through (λ e i. (e i, tt)) (λ e i. (e i).0) (d x.0 y.0)

  module _ {B : Type 0} (F : B → B → Bool) (f : (a b : B) → Decides (F a b) (a ≡ b)) where
    pub two : (x y : A × (B × Unit {0})) → Decides (E x.0 y.0 && F x.1.0 y.1.0) (x ≡ y)
    two x y = through (λ e i. (e.0 i, (e.1 i, tt))) (λ e. (λ i. (e i).0, λ i. (e i).1.0)) (both (E x.0 y.0) (F x.1.0 y.1.0) (d x.0 y.0) (f x.1.0 y.1.0))

pub none : (x y : Unit {0}) → Decides true (x ≡ y)
none x y = (λ h. refl, λ e. refl)
