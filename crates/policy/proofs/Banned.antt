-- Which clients are banned once a pair was added, or found no place.
use Rattle.std.specs.Prelude.{◌≡◌, ℕ, ◌||◌, ◌&&◌, List, [], ◌∷◌, length, is_ok, nat_lt}
use Rattle.std.proofs.Common.{inl, inr, arith}
use Rattle.std.proofs.lemmas.Bool.{cases_Bool}
use Rattle.std.proofs.lemmas.List.Folds.{list_any-append}
use Rattle.policy.specs.Bans.{banned, pairs_up, added, add_answer}
use Rattle.policy.specs.declared.bans.ClientPair.{ClientPair}

pub added_bans : (xs : List ClientPair) (x : ClientPair) (j k : ℕ) → banned (added xs x) j k ≡ (banned xs j k || (is_ok (add_answer xs) && pairs_up x j k))
added_bans xs x j k =
    let more = list_any-append (λ y. pairs_up y j k) xs (x ∷ []) in
    elim (cases_Bool (nat_lt (length xs) 64)) [
      | inl free ↦ simp free (grind arith)
      | inr full ↦ simp full (grind arith)
    ]
