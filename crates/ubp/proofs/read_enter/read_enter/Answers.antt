use Rattle.std.proofs.Common.{◌≡◌, ℕ, ◌-◌, true, List, ◌∷◌, length, get_or, take, drop, Some, sym, refl, ◌∙◌, arith}
use Rattle.orders.specs.Codes.{side_byte, sides, side_of, time_number, times, time_of, capacity_byte, capacities, capacity_of, constraint_byte, constraints, leaves_byte, leaves_modes, leaves_of, style_byte, styles, style_of, peg_byte, pegs, peg_of, grade_number, grades, lots_byte, lots_kinds}
use Rattle.orders.specs.declared.fields.Side.{Side}
use Rattle.orders.specs.declared.fields.TimeInForce.{TimeInForce}
use Rattle.orders.specs.declared.fields.Capacity.{Capacity}
use Rattle.orders.specs.declared.fields.LeavesMode.{LeavesMode}
use Rattle.orders.specs.declared.fields.CrossStyle.{CrossStyle}
use Rattle.orders.specs.declared.fields.Peg.{Peg}
use Rattle.ubp.specs.Bytes.{all_are, big4}
use Rattle.ubp.specs.Commands.{enter_type, enter_fields, beside_peg}
use Rattle.ubp.specs.Formats.{tests}
use Rattle.ubp.specs.Frames.{Verdict, first_bad}
use Rattle.ubp.proofs.Layouts.{nine_on}
use Rattle.ubp.proofs.Parts.{part, ends, copy_at, fill_at, number_at, signed_at, coded_at, code_at}
use Rattle.ubp.proofs.Pegs.{may_state_holds}
use Rattle.ubp.proofs.Verdicts.{right_length, refused, past, stop, listed, number_listed, unlisted}
use Rattle.ubp.proofs.read_enter.read_enter.Goals as goal

-- the verdict on the fields from the k-th on, the first of which is at i
abbrev from : ℕ → ℕ → List ℕ → Verdict
from i k f = first_bad (tests i (drop k enter_fields) (enter_type ∷ f))

-- it is that on later fields where those between passed
module _ (f : List ℕ) {w : Verdict} where
  to_firm : {s : Side} {t : TimeInForce} {m : ℕ} → Some s ≡ side_of (get_or f 14 0) → m ≡ big4 (take (length f - 29) (drop 29 f)) → Some t ≡ time_of m → w ≡ from 38 7 f → w ≡ from 1 0 f
  unfolding enter_fields
  to_firm s m t v = past 15 (listed side_byte sides 14 f s) (past 30 (number_listed time_number times 29 f m t) v)

  to_minimum : {p : Capacity} → all_are 32 (take 1 (drop 37 f)) ≡ true → Some p ≡ capacity_of (get_or f 38 0) → all_are 32 (take 1 (drop 39 f)) ≡ true → all_are 32 (take 1 (drop 44 f)) ≡ true → w ≡ from 46 12 f → w ≡ from 38 7 f
  unfolding enter_fields
  to_minimum a p b d v = past 38 a (past 39 (listed capacity_byte capacities 38 f p) (past 40 b (past 45 d v)))

  to_leaves : {l : LeavesMode} → beside_peg (get_or f 45 0) (get_or f 54 0) ≡ true → all_are 32 (take 1 (drop 46 f)) ≡ true → Some l ≡ leaves_of (get_or f 47 0) → all_are 32 (take 5 (drop 48 f)) ≡ true → w ≡ from 54 16 f → w ≡ from 46 12 f
  unfolding enter_fields
  to_leaves b a l d v = past 46 (sym (nine_on 45 f beside_peg) ∙ b) (past 47 a (past 48 (listed leaves_byte leaves_modes 47 f l) (past 49 d v)))

  to_peg : {s : CrossStyle} {p : Peg} → Some s ≡ style_of (get_or f 53 0) → Some p ≡ peg_of (get_or f 54 0) → all_are 32 (take 1 (drop 55 f)) ≡ true → all_are 0 (take 4 (drop 56 f)) ≡ true → w ≡ from 61 20 f → w ≡ from 54 16 f
  unfolding enter_fields
  to_peg s p a z v = past 54 (listed style_byte styles 53 f s) (past 55 (listed peg_byte pegs 54 f p) (past 56 a (past 57 z v)))

pub returns-in_err-constraint : goal.returns-in_err-constraint
unfolding enter_fields
returns-in_err-constraint c =
    let f = c.args.fields.now in
    let r = c.from_residual-in_err-constraint in
    refused enter_type enter_fields f 66 refl c.if-fields-ne66.false r.result r.ensures.1
    (to_firm f c.in_ok-side.ensures c.number.ensures c.in_ok-time.ensures
    (to_minimum f c.in_ok-reserved.ensures c.in_ok-capacity.ensures c.in_ok-reserved-2.ensures c.in_ok-reserved-3.ensures
    (let e = c.in_err-constraint.ensures in stop 46 (from 47 13 f) (e.0, sym (nine_on 45 f beside_peg) ∙ e.1))))

pub returns-in_err-reserved-4 : goal.returns-in_err-reserved-4
unfolding enter_fields
returns-in_err-reserved-4 c =
    let f = c.args.fields.now in
    let r = c.from_residual-in_err-reserved-4 in
    refused enter_type enter_fields f 66 refl c.if-fields-ne66.false r.result r.ensures.1
    (to_firm f c.in_ok-side.ensures c.number.ensures c.in_ok-time.ensures
    (to_minimum f c.in_ok-reserved.ensures c.in_ok-capacity.ensures c.in_ok-reserved-2.ensures c.in_ok-reserved-3.ensures
    (past 46 (sym (nine_on 45 f beside_peg) ∙ c.in_ok-constraint.ensures.0)
    (stop 47 _ c.in_err-reserved-4.ensures))))

pub returns-in_err-leaves : goal.returns-in_err-leaves
unfolding enter_fields
returns-in_err-leaves c =
    let f = c.args.fields.now in
    let r = c.from_residual-in_err-leaves in
    refused enter_type enter_fields f 66 refl c.if-fields-ne66.false r.result r.ensures.1
    (to_firm f c.in_ok-side.ensures c.number.ensures c.in_ok-time.ensures
    (to_minimum f c.in_ok-reserved.ensures c.in_ok-capacity.ensures c.in_ok-reserved-2.ensures c.in_ok-reserved-3.ensures
    (past 46 (sym (nine_on 45 f beside_peg) ∙ c.in_ok-constraint.ensures.0)
    (past 47 c.in_ok-reserved-4.ensures
    (let e = c.in_err-leaves.ensures in stop 48 _ (e.0, unlisted leaves_byte leaves_modes 47 f e.2))))))

pub returns-in_err-reserved-5 : goal.returns-in_err-reserved-5
unfolding enter_fields
returns-in_err-reserved-5 c =
    let f = c.args.fields.now in
    let r = c.from_residual-in_err-reserved-5 in
    refused enter_type enter_fields f 66 refl c.if-fields-ne66.false r.result r.ensures.1
    (to_firm f c.in_ok-side.ensures c.number.ensures c.in_ok-time.ensures
    (to_minimum f c.in_ok-reserved.ensures c.in_ok-capacity.ensures c.in_ok-reserved-2.ensures c.in_ok-reserved-3.ensures
    (past 46 (sym (nine_on 45 f beside_peg) ∙ c.in_ok-constraint.ensures.0)
    (past 47 c.in_ok-reserved-4.ensures
    (past 48 (listed leaves_byte leaves_modes 47 f c.in_ok-leaves.ensures)
    (stop 49 _ c.in_err-reserved-5.ensures))))))

pub returns-in_err-style : goal.returns-in_err-style
unfolding enter_fields
returns-in_err-style c =
    let f = c.args.fields.now in
    let r = c.from_residual-in_err-style in
    refused enter_type enter_fields f 66 refl c.if-fields-ne66.false r.result r.ensures.1
    (to_firm f c.in_ok-side.ensures c.number.ensures c.in_ok-time.ensures
    (to_minimum f c.in_ok-reserved.ensures c.in_ok-capacity.ensures c.in_ok-reserved-2.ensures c.in_ok-reserved-3.ensures
    (to_leaves f c.in_ok-constraint.ensures.0 c.in_ok-reserved-4.ensures c.in_ok-leaves.ensures c.in_ok-reserved-5.ensures
    (let e = c.in_err-style.ensures in stop 54 _ (e.0, unlisted style_byte styles 53 f e.2)))))

pub returns-in_err-peg : goal.returns-in_err-peg
unfolding enter_fields
returns-in_err-peg c =
    let f = c.args.fields.now in
    let r = c.from_residual-in_err-peg in
    refused enter_type enter_fields f 66 refl c.if-fields-ne66.false r.result r.ensures.1
    (to_firm f c.in_ok-side.ensures c.number.ensures c.in_ok-time.ensures
    (to_minimum f c.in_ok-reserved.ensures c.in_ok-capacity.ensures c.in_ok-reserved-2.ensures c.in_ok-reserved-3.ensures
    (to_leaves f c.in_ok-constraint.ensures.0 c.in_ok-reserved-4.ensures c.in_ok-leaves.ensures c.in_ok-reserved-5.ensures
    (past 54 (listed style_byte styles 53 f c.in_ok-style.ensures)
    (let e = c.in_err-peg.ensures in stop 55 _ (e.0, unlisted peg_byte pegs 54 f e.2))))))

pub returns-in_err-reserved-6 : goal.returns-in_err-reserved-6
unfolding enter_fields
returns-in_err-reserved-6 c =
    let f = c.args.fields.now in
    let r = c.from_residual-in_err-reserved-6 in
    refused enter_type enter_fields f 66 refl c.if-fields-ne66.false r.result r.ensures.1
    (to_firm f c.in_ok-side.ensures c.number.ensures c.in_ok-time.ensures
    (to_minimum f c.in_ok-reserved.ensures c.in_ok-capacity.ensures c.in_ok-reserved-2.ensures c.in_ok-reserved-3.ensures
    (to_leaves f c.in_ok-constraint.ensures.0 c.in_ok-reserved-4.ensures c.in_ok-leaves.ensures c.in_ok-reserved-5.ensures
    (past 54 (listed style_byte styles 53 f c.in_ok-style.ensures)
    (past 55 (listed peg_byte pegs 54 f c.in_ok-peg.ensures)
    (stop 56 _ c.in_err-reserved-6.ensures))))))

pub returns-in_err-reserved-7 : goal.returns-in_err-reserved-7
unfolding enter_fields
returns-in_err-reserved-7 c =
    let f = c.args.fields.now in
    let r = c.from_residual-in_err-reserved-7 in
    refused enter_type enter_fields f 66 refl c.if-fields-ne66.false r.result r.ensures.1
    (to_firm f c.in_ok-side.ensures c.number.ensures c.in_ok-time.ensures
    (to_minimum f c.in_ok-reserved.ensures c.in_ok-capacity.ensures c.in_ok-reserved-2.ensures c.in_ok-reserved-3.ensures
    (to_leaves f c.in_ok-constraint.ensures.0 c.in_ok-reserved-4.ensures c.in_ok-leaves.ensures c.in_ok-reserved-5.ensures
    (past 54 (listed style_byte styles 53 f c.in_ok-style.ensures)
    (past 55 (listed peg_byte pegs 54 f c.in_ok-peg.ensures)
    (past 56 c.in_ok-reserved-6.ensures
    (stop 57 _ c.in_err-reserved-7.ensures)))))))

pub returns-in_err-grade : goal.returns-in_err-grade
unfolding enter_fields
returns-in_err-grade c =
    let f = c.args.fields.now in
    let r = c.from_residual-in_err-grade in
    refused enter_type enter_fields f 66 refl c.if-fields-ne66.false r.result r.ensures.1
    (to_firm f c.in_ok-side.ensures c.number.ensures c.in_ok-time.ensures
    (to_minimum f c.in_ok-reserved.ensures c.in_ok-capacity.ensures c.in_ok-reserved-2.ensures c.in_ok-reserved-3.ensures
    (to_leaves f c.in_ok-constraint.ensures.0 c.in_ok-reserved-4.ensures c.in_ok-leaves.ensures c.in_ok-reserved-5.ensures
    (to_peg f c.in_ok-style.ensures c.in_ok-peg.ensures c.in_ok-reserved-6.ensures c.in_ok-reserved-7.ensures
    (let e = c.in_err-grade.ensures in stop 61 _ (e.0, unlisted grade_number grades 60 f e.2))))))

pub returns-in_err-reserved-8 : goal.returns-in_err-reserved-8
unfolding enter_fields
returns-in_err-reserved-8 c =
    let f = c.args.fields.now in
    let r = c.from_residual-in_err-reserved-8 in
    refused enter_type enter_fields f 66 refl c.if-fields-ne66.false r.result r.ensures.1
    (to_firm f c.in_ok-side.ensures c.number.ensures c.in_ok-time.ensures
    (to_minimum f c.in_ok-reserved.ensures c.in_ok-capacity.ensures c.in_ok-reserved-2.ensures c.in_ok-reserved-3.ensures
    (to_leaves f c.in_ok-constraint.ensures.0 c.in_ok-reserved-4.ensures c.in_ok-leaves.ensures c.in_ok-reserved-5.ensures
    (to_peg f c.in_ok-style.ensures c.in_ok-peg.ensures c.in_ok-reserved-6.ensures c.in_ok-reserved-7.ensures
    (past 61 (listed grade_number grades 60 f c.in_ok-grade.ensures)
    (stop 62 _ c.in_err-reserved-8.ensures))))))

pub returns-in_err-lots : goal.returns-in_err-lots
unfolding enter_fields
returns-in_err-lots c =
    let f = c.args.fields.now in
    let r = c.from_residual-in_err-lots in
    refused enter_type enter_fields f 66 refl c.if-fields-ne66.false r.result r.ensures.1
    (to_firm f c.in_ok-side.ensures c.number.ensures c.in_ok-time.ensures
    (to_minimum f c.in_ok-reserved.ensures c.in_ok-capacity.ensures c.in_ok-reserved-2.ensures c.in_ok-reserved-3.ensures
    (to_leaves f c.in_ok-constraint.ensures.0 c.in_ok-reserved-4.ensures c.in_ok-leaves.ensures c.in_ok-reserved-5.ensures
    (to_peg f c.in_ok-style.ensures c.in_ok-peg.ensures c.in_ok-reserved-6.ensures c.in_ok-reserved-7.ensures
    (past 61 (listed grade_number grades 60 f c.in_ok-grade.ensures)
    (past 62 c.in_ok-reserved-8.ensures
    (let e = c.in_err-lots.ensures in stop 66 _ (e.0, unlisted lots_byte lots_kinds 65 f e.2))))))))

pub invariant_of-result-clause-pegged : goal.invariant_of-result-clause-pegged
invariant_of-result-clause-pegged c =
    let f = c.args.fields.now in
    let e = c.in_ok-constraint.ensures in
    may_state_holds (get_or f 45 0) (get_or f 54 0) e.0 e.1 (sym c.in_ok-peg.ensures)

pub returns : goal.returns
unfolding enter_fields
returns c =
    let f = c.args.fields.now in
    let n : length f ≡ 66 = c.if-fields-ne66.false in
    let t = c.type_inv.fields in (
      right_length enter_type enter_fields f 66 refl n
          (to_firm f c.in_ok-side.ensures c.number.ensures c.in_ok-time.ensures
          (to_minimum f c.in_ok-reserved.ensures c.in_ok-capacity.ensures c.in_ok-reserved-2.ensures c.in_ok-reserved-3.ensures
          (to_leaves f c.in_ok-constraint.ensures.0 c.in_ok-reserved-4.ensures c.in_ok-leaves.ensures c.in_ok-reserved-5.ensures
          (to_peg f c.in_ok-style.ensures c.in_ok-peg.ensures c.in_ok-reserved-6.ensures c.in_ok-reserved-7.ensures
          (past 61 (listed grade_number grades 60 f c.in_ok-grade.ensures)
          (past 62 c.in_ok-reserved-8.ensures
          (past 66 (listed lots_byte lots_kinds 65 f c.in_ok-lots.ensures) refl))))))),
      part 0 14 f (copy_at 0 14 f c.bytes.ensures)
          (part 14 1 f (code_at side_byte sides 14 f (omega arith) (sym c.in_ok-side.ensures))
          (part 15 4 f (number_at 15 f t (omega arith) c.number-2.ensures)
          (part 19 6 f (copy_at 19 6 f c.bytes-2.ensures)
          (part 25 4 f (signed_at 25 f t (omega arith) c.signed.ensures)
          (part 29 4 f (coded_at time_number times 29 f t (omega arith) c.number.ensures (sym c.in_ok-time.ensures))
          (part 33 4 f (copy_at 33 4 f c.bytes-3.ensures)
          (part 37 1 f (fill_at 32 37 1 f (omega arith) c.in_ok-reserved.ensures)
          (part 38 1 f (code_at capacity_byte capacities 38 f (omega arith) (sym c.in_ok-capacity.ensures))
          (part 39 1 f (fill_at 32 39 1 f (omega arith) c.in_ok-reserved-2.ensures)
          (part 40 4 f (number_at 40 f t (omega arith) c.number-3.ensures)
          (part 44 1 f (fill_at 32 44 1 f (omega arith) c.in_ok-reserved-3.ensures)
          (part 45 1 f (code_at constraint_byte constraints 45 f (omega arith) c.in_ok-constraint.ensures.1)
          (part 46 1 f (fill_at 32 46 1 f (omega arith) c.in_ok-reserved-4.ensures)
          (part 47 1 f (code_at leaves_byte leaves_modes 47 f (omega arith) (sym c.in_ok-leaves.ensures))
          (part 48 5 f (fill_at 32 48 5 f (omega arith) c.in_ok-reserved-5.ensures)
          (part 53 1 f (code_at style_byte styles 53 f (omega arith) (sym c.in_ok-style.ensures))
          (part 54 1 f (code_at peg_byte pegs 54 f (omega arith) (sym c.in_ok-peg.ensures))
          (part 55 1 f (fill_at 32 55 1 f (omega arith) c.in_ok-reserved-6.ensures)
          (part 56 4 f (fill_at 0 56 4 f (omega arith) c.in_ok-reserved-7.ensures)
          (part 60 1 f (code_at grade_number grades 60 f (omega arith) (sym c.in_ok-grade.ensures))
          (part 61 4 f (fill_at 0 61 4 f (omega arith) c.in_ok-reserved-8.ensures)
          (part 65 1 f (code_at lots_byte lots_kinds 65 f (omega arith) (sym c.in_ok-lots.ensures)) (ends 66 f n))))))))))))))))))))))),
    )
