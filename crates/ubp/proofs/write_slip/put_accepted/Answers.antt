use Rattle.std.proofs.Common.{◌++◌, drop, refl, ap}
use Rattle.orders.specs.Codes.{kind_byte}
use Rattle.ubp.specs.Answers.{head_fields, order_fields, accepted_fields, shown}
use Rattle.ubp.proofs.Layouts.{after}
use Rattle.ubp.proofs.Parts.{more_byte, more_filled, begun_as}
use Rattle.ubp.proofs.write_slip.put_accepted.Goals as goal

pub returns : goal.returns
unfolding head_fields order_fields accepted_fields
returns c =
    let s = c.args.slip.now in
    let t = c.from-terms.ensures in
    let w0 = c.put_order.ensures in
    let w1 = more_filled 8 32 w0 c.put.ensures in
    let w2 = more_byte ((shown s.terms).style) w1 (ap (λ x. x.style) t) c.put-2.ensures in
    let w3 = more_byte ((shown s.terms).peg) w2 (ap (λ x. x.peg) t) c.put-3.ensures in
    let w4 = more_filled 1 32 w3 c.put-4.ensures in
    let w5 = more_filled 4 0 w4 c.put-5.ensures in
    let w6 = more_byte ((shown s.terms).grade) w5 (ap (λ x. x.grade) t) c.put-6.ensures in
    let w7 = more_filled 4 0 w6 c.put-7.ensures in
    let w8 = more_byte ((shown s.terms).lots) w7 (ap (λ x. x.lots) t) c.put-8.ensures in
    begun_as w8 (after (kind_byte s.kind) (head_fields ++ order_fields) (drop 15 accepted_fields) s refl)
