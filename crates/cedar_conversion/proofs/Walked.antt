-- What a walk lists is what is nested in the node that it goes through.
use Rattle.std.proofs.Common.{◌≡◌, List, [], ◌∷◌, ◌++◌, append_assoc, Option, Result, Ok, Err, OnOk, sym, ap, ◌∙◌}
use denote.Ref.{Bor}
use Rattle.cedar_syntax.specs.declared.cst.Expr.{Expr}
use Rattle.cedar_syntax.specs.declared.node.Node.{Node}
use Rattle.cedar_syntax.specs.trees.Forms.{located, expr_form}
use Rattle.cedar_syntax.specs.trees.Located.{Located}
use Rattle.cedar_conversion.specs.machines.Nested.{lent_nodes}

-- nothing is listed
pub nothing : (now ns : List Located) → ns ≡ [] → now ≡ ns ++ now
nothing now ns h = ap (λ ms. ms ++ now) (sym h)

-- the first part's behind those of the parts behind it
pub behind : (now mid old ns ms bs : List Located) → ns ≡ ms ++ bs → now ≡ ms ++ mid → mid ≡ bs ++ old → now ≡ ns ++ old
behind now mid old ns ms bs h k l = k ∙ ap (λ xs. ms ++ xs) l ∙ sym (append_assoc ms bs old) ∙ ap (λ xs. xs ++ old) (sym h)

-- those of one part alone
pub at : (now old ns ms : List Located) → ns ≡ ms → now ≡ ms ++ old → now ≡ ns ++ old
at now old ns ms h k = k ∙ ap (λ xs. xs ++ old) (sym h)

abbrev Ref : Type 0
Ref = Bor (Node (Option Expr))

-- expressions themselves
pub one : (now old : List Ref) (a : Ref) (ns : List Located) → ns ≡ located expr_form a.now ∷ [] → now ≡ a ∷ old → lent_nodes now ≡ ns ++ lent_nodes old
one now old a ns h k = ap lent_nodes k ∙ ap (λ ms. ms ++ lent_nodes old) (sym h)

pub two : (now mid old : List Ref) (a b : Ref) (ns : List Located) → ns ≡ located expr_form a.now ∷ located expr_form b.now ∷ [] → now ≡ a ∷ mid → mid ≡ b ∷ old → lent_nodes now ≡ ns ++ lent_nodes old
two now mid old a b ns h k l = ap lent_nodes k ∙ ap (λ ms. located expr_form a.now ∷ lent_nodes ms) l ∙ ap (λ ms. ms ++ lent_nodes old) (sym h)

pub three : (now mid low old : List Ref) (a b c : Ref) (ns : List Located) → ns ≡ located expr_form a.now ∷ located expr_form b.now ∷ located expr_form c.now ∷ [] → now ≡ a ∷ mid → mid ≡ b ∷ low → low ≡ c ∷ old → lent_nodes now ≡ ns ++ lent_nodes old
three now mid low old a b c ns h k l m = ap lent_nodes k ∙ ap (λ ms. located expr_form a.now ∷ lent_nodes ms) l ∙ ap (λ ms. located expr_form a.now ∷ located expr_form b.now ∷ lent_nodes ms) m ∙ ap (λ ms. ms ++ lent_nodes old) (sym h)

-- the same of a call's answer
pub on_ok : {A E : Type 0} {P Q : Type 0} (r : Result A E) → (P → Q) → OnOk r P → OnOk r Q
on_ok (Ok x) f h = f h
on_ok (Err e) f h = tt
