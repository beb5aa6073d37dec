use Rattle.std.proofs.Common.{take, drop, refl}
use Rattle.orders.specs.Codes.{style_byte, peg_byte, capacity_byte, constraint_byte, leaves_byte}
use Rattle.ubp.specs.Bytes.{bytes4}
use Rattle.ubp.specs.Commands.{enter_type, enter_fields}
use Rattle.ubp.proofs.Layouts.{after}
use Rattle.ubp.proofs.Parts.{more_by, more_byte, more_filled, begun_as}
use Rattle.ubp.proofs.write.put_enter_terms.Goals as goal

pub returns : goal.returns
unfolding enter_fields
returns c =
    let m = c.args.order.now in
    let w0 = c.put_enter_trade.ensures in
    let w1 = more_filled 1 32 w0 c.put.ensures in
    let w2 = more_byte (capacity_byte m.terms.capacity) w1 c.from.ensures c.put-2.ensures in
    let w3 = more_filled 1 32 w2 c.put-3.ensures in
    let w4 = more_by 4 (bytes4 m.terms.minimum) w3 c.to_be_bytes.ensures refl c.put-4.ensures in
    let w5 = more_filled 1 32 w4 c.put-5.ensures in
    let w6 = more_byte (constraint_byte m.terms.constraint) w5 c.from-2.ensures c.put-6.ensures in
    let w7 = more_filled 1 32 w6 c.put-7.ensures in
    let w8 = more_byte (leaves_byte m.terms.leaves) w7 c.from-3.ensures c.put-8.ensures in
    let w9 = more_filled 5 32 w8 c.put-9.ensures in
    let w10 = more_byte (style_byte m.terms.style) w9 c.from-4.ensures c.put-10.ensures in
    let w11 = more_byte (peg_byte m.terms.peg) w10 c.from-5.ensures c.put-11.ensures in
    begun_as w11 (after enter_type (take 7 enter_fields) (take 11 (drop 7 enter_fields)) m refl)
