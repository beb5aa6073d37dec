use Rattle.std.proofs.Common.{take, drop, refl}
use Rattle.orders.specs.Codes.{lots_byte, grade_number}
use Rattle.ubp.specs.Commands.{enter_type, enter_fields}
use Rattle.ubp.proofs.Layouts.{after}
use Rattle.ubp.proofs.Parts.{more_byte, more_filled, begun_as}
use Rattle.ubp.proofs.write.EnterOrderMessage.put.Goals as goal

pub returns : goal.returns
unfolding enter_fields
returns c =
    let m = c.args.self.now in
    let w0 = c.put_enter_terms.ensures in
    let w1 = more_filled 1 32 w0 c.put.ensures in
    let w2 = more_filled 4 0 w1 c.put-2.ensures in
    let w3 = more_byte (grade_number m.terms.grade) w2 c.from.ensures c.put-3.ensures in
    let w4 = more_filled 4 0 w3 c.put-4.ensures in
    let w5 = more_byte (lots_byte m.terms.lots) w4 c.from-2.ensures c.put-5.ensures in
    begun_as w5 (after enter_type (take 18 enter_fields) (drop 18 enter_fields) m refl)
