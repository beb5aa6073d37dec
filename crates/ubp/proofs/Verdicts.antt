-- A reader's verdict by the length of what follows the first byte.
use Rattle.std.proofs.Common.{◌≡◌, ℕ, Bool, true, false, cond, eqb, List, ◌∷◌, length, get_or, ◌-◌, take, drop, is_some, Some, None, IsErrAnd, Ok, Err, Result, sym, ap, ◌∙◌, eq-eqb}
use Rattle.ubp.specs.declared.refusal.ReadRefusal.TheVariants.{BadField}
use Rattle.ubp.specs.declared.refusal.ReadRefusal.{ReadRefusal}
use Rattle.orders.specs.Codes.{coded}
use Rattle.std.proofs.lemmas.List.{take_rest}
use Rattle.ubp.specs.Bytes.{big4}
use Rattle.ubp.specs.Formats.{Field, size_of, tests}
use Rattle.ubp.specs.Frames.{Verdict, first_bad, fields_verdict, Reads}
use Rattle.ubp.proofs.Layouts.{here}

module _ {C : Type 0} (b : ℕ) (fs : List (Field C)) (f : List ℕ) (n : ℕ) (size : size_of fs ≡ n) where
  pub right_length : length f ≡ n → {v : Verdict} → v ≡ first_bad (tests 1 fs (b ∷ f)) → v ≡ fields_verdict b fs f
  right_length h e = let t : eqb (length f) (size_of fs) ≡ true = rw size (eq-eqb (length f) n h) in e ∙ sym (rw t)

-- the test at an offset passed, and the others have a verdict
pub past : (n : ℕ) {b : Bool} {v w : Verdict} → b ≡ true → w ≡ v → w ≡ cond b v (Err (BadField n))
past n {b} {v} e h = h ∙ sym (ap (λ t. cond t v (Err (BadField n))) e)

-- the test at an offset did not pass, whatever the others
pub stop : (n : ℕ) (v : Verdict) {b : Bool} {e : ReadRefusal} → (e ≡ BadField n) × (b ≡ false) → Err e ≡ cond b v (Err (BadField n))
stop n v p = ap Err p.0 ∙ sym (ap (λ t. cond t v (Err (BadField n))) p.1)

-- what `?` passes on of a frame of the right length
pub refused : {C : Type 0} (b : ℕ) (fs : List (Field C)) (f : List ℕ) (n : ℕ) → size_of fs ≡ n → length f ≡ n → (r : Result C ReadRefusal) {e : ReadRefusal} → IsErrAnd r (λ x. x ≡ e) → Err e ≡ first_bad (tests 1 fs (b ∷ f)) → Reads b fs f r
refused b fs f n size l (Ok x) h v = elim h [ ]
refused b fs f n size l (Err x) h v = right_length b fs f n size l (ap Err h ∙ v)

-- a byte in a field's list passes its test, and another does not
module _ {V : Type 0} (code : V → ℕ) (vs : List V) (i : ℕ) (f : List ℕ) where
  pub listed : {v : V} → Some v ≡ coded code vs (get_or f i 0) → is_some (coded code vs (get_or (drop i f) 0 0)) ≡ true
  listed e = ap (λ n. is_some (coded code vs n)) (sym (here i f)) ∙ ap is_some (sym e)

  pub unlisted : None ≡ coded code vs (get_or f i 0) → is_some (coded code vs (get_or (drop i f) 0 0)) ≡ false
  unlisted e = ap (λ n. is_some (coded code vs n)) (sym (here i f)) ∙ ap is_some (sym e)

  pub number_listed : {m : ℕ} {v : V} → m ≡ big4 (take (length f - i) (drop i f)) → Some v ≡ coded code vs m → is_some (coded code vs (big4 (drop i f))) ≡ true
  number_listed h e = ap (λ n. is_some (coded code vs n)) (ap big4 (sym (take_rest f i)) ∙ sym h) ∙ ap is_some (sym e)
