use Rattle.std.proofs.Common.{◌≡◌, ◌++◌, length, drop, refl, ap, rules}
use Rattle.orders.specs.Codes.{kind_byte}
use Rattle.ubp.specs.Answers.{head_fields, order_fields, replaced_fields, shown}
use Rattle.ubp.proofs.Layouts.{after}
use Rattle.ubp.proofs.Parts.{more, more_byte, more_filled, begun_as}
use Rattle.ubp.proofs.write_slip.put_replaced.Goals as goal

pub returns : goal.returns
unfolding head_fields order_fields replaced_fields
returns c =
    let s = c.args.slip.now in
    let t = c.from-terms.ensures in
    let h1 : length s.old.token ≡ 14 = search rules in
    let w0 = c.put_order.ensures in
    let w1 = more 14 s.old.token w0 h1 c.put.ensures in
    let w2 = more_filled 8 32 w1 c.put-2.ensures in
    let w3 = more_byte ((shown s.terms).style) w2 (ap (λ x. x.style) t) c.put-3.ensures in
    let w4 = more_byte ((shown s.terms).peg) w3 (ap (λ x. x.peg) t) c.put-4.ensures in
    let w5 = more_filled 1 32 w4 c.put-5.ensures in
    let w6 = more_filled 4 0 w5 c.put-6.ensures in
    let w7 = more_filled 1 32 w6 c.put-7.ensures in
    let w8 = more_filled 4 0 w7 c.put-8.ensures in
    let w9 = more_byte ((shown s.terms).lots) w8 (ap (λ x. x.lots) t) c.put-9.ensures in
    begun_as w9 (after (kind_byte s.kind) (head_fields ++ order_fields) (drop 15 replaced_fields) s refl)
