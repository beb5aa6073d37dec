use Rattle.std.proofs.Common.{◌≡◌, take, set, arith}
use lib.Seq.{take-set-lt}
use Rattle.std.specs.Ordering.{on}
use Rattle.std.proofs.lemmas.Cmp.{on_equiv}
use Rattle.keyed.specs.Lists.{live}
use Rattle.keyed.proofs.Rows.{apart_both}
use Rattle.keyed.proofs.lent.List.write_two.Goals as goal

pub returns-clause-records : goal.returns-clause-records
returns-clause-records g c =
    let l = c.args.self.now in
    rw (take-set-lt l.len (set l.cells.now c.args.i c.args.a) c.args.j c.args.b (omega arith), take-set-lt l.len l.cells.now c.args.i c.args.a (omega arith))

pub returns-clause-apart : goal.returns-clause-apart
returns-clause-apart g c =
    let l = c.args.self.now in
    let key = g.T.Keyed.key in
    let shown : take l.len (set (set l.cells.now c.args.i c.args.a) c.args.j c.args.b) ≡ set (set (live l) c.args.i c.args.a) c.args.j c.args.b = returns-clause-records g c in
    rw shown (apart_both (on key g.T.Key.PartialEq.eq) (on_equiv key g.met.T.Key.Eq.laws) (live l) c.args.i c.args.j c.args.a c.args.b)
