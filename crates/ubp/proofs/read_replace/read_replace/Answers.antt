use Rattle.std.proofs.Common.{◌≡◌, length, sym, refl, arith}
use Rattle.orders.specs.Codes.{time_number, times, style_byte, styles, peg_byte, pegs, lots_byte, lots_kinds}
use Rattle.ubp.specs.Commands.{replace_type, replace_fields}
use Rattle.ubp.proofs.Parts.{part, ends, copy_at, fill_at, number_at, signed_at, coded_at, code_at}
use Rattle.ubp.proofs.Verdicts.{right_length, refused, past, stop, listed, number_listed, unlisted}
use Rattle.ubp.proofs.read_replace.read_replace.Goals as goal

pub returns-in_err-reserved-5 : goal.returns-in_err-reserved-5
unfolding replace_fields
returns-in_err-reserved-5 c =
    let f = c.args.fields.now in
    refused replace_type replace_fields f 59 refl c.if-fields-ne59.false c.from_residual-in_err-reserved-5.result c.from_residual-in_err-reserved-5.ensures.1
    (past 37 (number_listed time_number times 36 f c.number.ensures c.in_ok-time.ensures) (past 41 c.in_ok-reserved.ensures (past 42 c.in_ok-reserved-2.ensures
    (past 47 (listed style_byte styles 46 f c.in_ok-style.ensures) (past 48 (listed peg_byte pegs 47 f c.in_ok-peg.ensures)
    (past 49 c.in_ok-reserved-3.ensures (past 50 c.in_ok-reserved-4.ensures
    (stop 54 _ c.in_err-reserved-5.ensures))))))))

pub returns-in_err-reserved-6 : goal.returns-in_err-reserved-6
unfolding replace_fields
returns-in_err-reserved-6 c =
    let f = c.args.fields.now in
    refused replace_type replace_fields f 59 refl c.if-fields-ne59.false c.from_residual-in_err-reserved-6.result c.from_residual-in_err-reserved-6.ensures.1
    (past 37 (number_listed time_number times 36 f c.number.ensures c.in_ok-time.ensures) (past 41 c.in_ok-reserved.ensures (past 42 c.in_ok-reserved-2.ensures
    (past 47 (listed style_byte styles 46 f c.in_ok-style.ensures) (past 48 (listed peg_byte pegs 47 f c.in_ok-peg.ensures)
    (past 49 c.in_ok-reserved-3.ensures (past 50 c.in_ok-reserved-4.ensures (past 54 c.in_ok-reserved-5.ensures
    (stop 55 _ c.in_err-reserved-6.ensures)))))))))

pub returns-in_err-lots : goal.returns-in_err-lots
unfolding replace_fields
returns-in_err-lots c =
    let f = c.args.fields.now in
    refused replace_type replace_fields f 59 refl c.if-fields-ne59.false c.from_residual-in_err-lots.result c.from_residual-in_err-lots.ensures.1
    (past 37 (number_listed time_number times 36 f c.number.ensures c.in_ok-time.ensures) (past 41 c.in_ok-reserved.ensures (past 42 c.in_ok-reserved-2.ensures
    (past 47 (listed style_byte styles 46 f c.in_ok-style.ensures) (past 48 (listed peg_byte pegs 47 f c.in_ok-peg.ensures)
    (past 49 c.in_ok-reserved-3.ensures (past 50 c.in_ok-reserved-4.ensures (past 54 c.in_ok-reserved-5.ensures (past 55 c.in_ok-reserved-6.ensures
    (let e = c.in_err-lots.ensures in stop 59 _ (e.0, unlisted lots_byte lots_kinds 58 f e.2)))))))))))

pub returns : goal.returns
unfolding replace_fields
returns c =
    let f = c.args.fields.now in
    let n : length f ≡ 59 = c.if-fields-ne59.false in
    let t = c.type_inv.fields in (
      right_length replace_type replace_fields f 59 refl n
          (past 37 (number_listed time_number times 36 f c.number.ensures c.in_ok-time.ensures) (past 41 c.in_ok-reserved.ensures (past 42 c.in_ok-reserved-2.ensures
          (past 47 (listed style_byte styles 46 f c.in_ok-style.ensures) (past 48 (listed peg_byte pegs 47 f c.in_ok-peg.ensures)
          (past 49 c.in_ok-reserved-3.ensures (past 50 c.in_ok-reserved-4.ensures (past 54 c.in_ok-reserved-5.ensures (past 55 c.in_ok-reserved-6.ensures
          (past 59 (listed lots_byte lots_kinds 58 f c.in_ok-lots.ensures) refl)))))))))),
      part 0 14 f (copy_at 0 14 f c.bytes.ensures)
          (part 14 14 f (copy_at 14 14 f c.bytes-2.ensures)
          (part 28 4 f (number_at 28 f t (omega arith) c.number-2.ensures)
          (part 32 4 f (signed_at 32 f t (omega arith) c.signed.ensures)
          (part 36 4 f (coded_at time_number times 36 f t (omega arith) c.number.ensures (sym c.in_ok-time.ensures))
          (part 40 1 f (fill_at 32 40 1 f (omega arith) c.in_ok-reserved.ensures)
          (part 41 1 f (fill_at 32 41 1 f (omega arith) c.in_ok-reserved-2.ensures)
          (part 42 4 f (number_at 42 f t (omega arith) c.number-3.ensures)
          (part 46 1 f (code_at style_byte styles 46 f (omega arith) (sym c.in_ok-style.ensures))
          (part 47 1 f (code_at peg_byte pegs 47 f (omega arith) (sym c.in_ok-peg.ensures))
          (part 48 1 f (fill_at 32 48 1 f (omega arith) c.in_ok-reserved-3.ensures)
          (part 49 4 f (fill_at 0 49 4 f (omega arith) c.in_ok-reserved-4.ensures)
          (part 53 1 f (fill_at 32 53 1 f (omega arith) c.in_ok-reserved-5.ensures)
          (part 54 4 f (fill_at 0 54 4 f (omega arith) c.in_ok-reserved-6.ensures)
          (part 58 1 f (code_at lots_byte lots_kinds 58 f (omega arith) (sym c.in_ok-lots.ensures)) (ends 59 f n))))))))))))))),
    )
