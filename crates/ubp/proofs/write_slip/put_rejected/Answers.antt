use Rattle.std.proofs.Common.{drop, refl}
use Rattle.orders.specs.Codes.{kind_byte, letter_byte}
use Rattle.ubp.specs.Answers.{head_fields, rejected_fields}
use Rattle.ubp.proofs.Layouts.{after}
use Rattle.ubp.proofs.Parts.{more_byte, begun_as}
use Rattle.ubp.proofs.write_slip.put_rejected.Goals as goal

pub returns : goal.returns
unfolding head_fields rejected_fields
returns c =
    let s = c.args.slip.now in
    let w0 = c.put_head.ensures in
    let w1 = more_byte (letter_byte s.letter) w0 c.from.ensures c.put.ensures in
    begun_as w1 (after (kind_byte s.kind) head_fields (drop 2 rejected_fields) s refl)
