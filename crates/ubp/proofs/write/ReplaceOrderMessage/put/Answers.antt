use Rattle.std.proofs.Common.{take, drop, refl}
use Rattle.orders.specs.Codes.{style_byte, peg_byte, lots_byte}
use Rattle.ubp.specs.Bytes.{bytes4}
use Rattle.ubp.specs.Commands.{replace_type, replace_fields}
use Rattle.ubp.proofs.Layouts.{after}
use Rattle.ubp.proofs.Parts.{more_by, more_byte, more_filled, begun_as}
use Rattle.ubp.proofs.write.ReplaceOrderMessage.put.Goals as goal

pub returns : goal.returns
unfolding replace_fields
returns c =
    let m = c.args.self.now in
    let w0 = c.put_replace_trade.ensures in
    let w1 = more_filled 1 32 w0 c.put.ensures in
    let w2 = more_filled 1 32 w1 c.put-2.ensures in
    let w3 = more_by 4 (bytes4 m.minimum) w2 c.to_be_bytes.ensures refl c.put-3.ensures in
    let w4 = more_byte (style_byte m.style) w3 c.from.ensures c.put-4.ensures in
    let w5 = more_byte (peg_byte m.peg) w4 c.from-2.ensures c.put-5.ensures in
    let w6 = more_filled 1 32 w5 c.put-6.ensures in
    let w7 = more_filled 4 0 w6 c.put-7.ensures in
    let w8 = more_filled 1 32 w7 c.put-8.ensures in
    let w9 = more_filled 4 0 w8 c.put-9.ensures in
    let w10 = more_byte (lots_byte m.lots) w9 c.from-3.ensures c.put-10.ensures in
    begun_as w10 (after replace_type (take 5 replace_fields) (drop 5 replace_fields) m refl)
