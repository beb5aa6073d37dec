-- Lists of records: which place has a key, and what a removal and a write leave. Assumes nothing.
use Rattle.std.proofs.Common.{◌≡◌, ℕ, ◌+◌, ◌-◌, ◌<◌, ◌≤◌, Bool, true, List, length, ◌++◌, suc, get_or, take, drop, set, position, Some, None, Option, ◌∙◌, refl, sym, inl, inr, arith}
use Rattle.std.specs.Cmp.{IsEquivalence}
use Rattle.std.specs.List.{copy_within, remove}
use Rattle.std.specs.Ordering.{on}
use Rattle.std.proofs.lemmas.Bool.{cases_eq, cases_order, both_ways}
use Rattle.std.proofs.lemmas.List.{take-take, drop-take, length-set, length-drop, get_or-set_same, get_or-set_other}
use Rattle.std.proofs.lemmas.List.Edits.{take-paste}
use Rattle.std.proofs.lemmas.List.Quantifiers.{position-Some}
use Rattle.keyed.specs.Keys.{NoTwice, KeepsApart, Replaces, OnlyAt}

module _ {X : Type 0} where
  -- where no key stands twice, the place found is the only one
  pub only_place : {K : Type 0} (eq : K → K → Bool) → IsEquivalence eq → (key : X → K) (w : K) (xs : List X) (o : Option ℕ) → position (λ x. eq (key x) w) xs ≡ o → NoTwice (on key eq) xs → OnlyAt (λ x. eq (key x) w) xs o
  only_place eq laws key w xs None found apart = tt
  only_place eq laws key w xs (Some i) found apart = λ k d lt hit.
      let at_i = position-Some (λ x. eq (key x) w) xs i d found in
      elim (cases_order k i) [
        | inl same ↦ same
        | inr other ↦ elim other [
          | inl before ↦ absurd (both_ways _ (at_i.2 k before) hit)
          | inr after ↦ absurd (both_ways _ (apart i k d after lt) (laws.congr _ _ _ at_i.1 ∙ laws.symm _ _ ∙ hit))
        ]
      ]

  -- a gap closed in memory, as the records in use see it
  pub gap_live : (xs : List X) (i n : ℕ) → i < n → n ≤ length xs → take (n - 1) (copy_within xs (i + 1) n i) ≡ remove (take n xs) i
  gap_live xs i n lt le =
      let m = n - (i + 1) in
      let room : m ≤ length (drop (i + 1) xs) = simp length-drop (omega arith) in
      let a : take (i + m) (copy_within xs (i + 1) n i) ≡ take i xs ++ take m (drop (i + 1) xs) = take-paste xs i (drop (i + 1) xs) m (omega arith) room in
      let b : take i (take n xs) ≡ take i xs = take-take i n xs (omega arith) in
      let f : drop (i + 1) (take ((i + 1) + m) xs) ≡ take m (drop (i + 1) xs) = drop-take (i + 1) m xs in
      let k : n - 1 ≡ i + m = omega arith in
      let e : (i + 1) + m ≡ n = omega arith in
      let s : suc i ≡ i + 1 = omega arith in
      cc

  module _ (same : X → X → Bool) (laws : IsEquivalence same) where
    -- the records of ys have the same keys as those of xs, place by place
    record Alike (xs ys : List X) : Type 0 where
      long : length ys ≡ length xs
      each : (k : ℕ) (d : X) → k < length xs → same (get_or xs k d) (get_or ys k d) ≡ true

    alike_own : (xs : List X) → Alike xs xs
    alike_own xs = record { long = refl; each = λ k d lt. laws.refl (get_or xs k d) }

    -- a record over one with the same key
    alike_set : (xs ys : List X) (p : ℕ) (x : X) → Replaces same xs p x → Alike xs ys → Alike xs (set ys p x)
    alike_set xs ys p x replaces alike = record {
      long = length-set ys p x ∙ alike.long;
      each = λ k d lt. elim (cases_eq k p) [
        | inl e ↦ let a = get_or-set_same ys p x d (omega (arith, alike.long)) in let b = replaces d (omega arith) in cc
        | inr ne ↦ let a = get_or-set_other ys p k x d ne in let b = alike.each k d lt in cc
      ];
    }

    apart_alike : (xs ys : List X) → Alike xs ys → KeepsApart same xs ys
    apart_alike xs ys alike apart i j d ij lt =
        let a = laws.congr _ _ (get_or ys j d) (alike.each i d (omega (arith, alike.long))) in
        let b = laws.congr _ _ (get_or xs i d) (alike.each j d (omega (arith, alike.long))) in
        let e = apart i j d ij (omega (arith, alike.long)) in
        sym a ∙ laws.symm _ _ ∙ sym b ∙ laws.symm _ _ ∙ e

    pub apart_set : (xs : List X) (p : ℕ) (x : X) → Replaces same xs p x → KeepsApart same xs (set xs p x)
    apart_set xs p x replaces = apart_alike xs (set xs p x) (alike_set xs xs p x replaces (alike_own xs))

    pub apart_both : (xs : List X) (p q : ℕ) (x y : X) → Replaces same xs p x → Replaces same xs q y → KeepsApart same xs (set (set xs p x) q y)
    apart_both xs p q x y at_p at_q = apart_alike xs (set (set xs p x) q y) (alike_set xs (set xs p x) q y at_q (alike_set xs xs p x at_p (alike_own xs)))
