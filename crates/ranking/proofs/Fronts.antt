-- Who has nobody ahead is ahead of all others.
use Rattle.std.proofs.Common.{◌≡◌, ℕ, Bool, cond, not, List, [], ◌∷◌, arith}
use Rattle.std.proofs.lemmas.List.Sums.{sum_by-cons}
use Rattle.std.proofs.lemmas.Bool.{cond-true}
use Rattle.ranking.specs.Rankings.{ahead_of, InFront}
use Rattle.ranking.specs.declared.offer.Offer.{Offer}

module _ (ahead : Offer → Offer → Bool) (decided : (a b : Offer) → (a.number ≡ b.number → ⊥) → ahead a b ≡ not (ahead b a)) where
  pub in_front : (xs : List Offer) (x : Offer) → ahead_of ahead xs x ≡ 0 → InFront ahead xs x
  in_front [] x none = tt
  in_front (y ∷ ys) x none =
      let count = sum_by-cons (λ other. cond (ahead other x) 1 0) y ys in
      (λ other. grind (arith, cond-true {A = ℕ} (ahead y x) 1 0, decided x y other), in_front ys x (omega arith))
