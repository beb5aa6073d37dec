use Rattle.std.proofs.Common.{sym, ap, ◌∙◌, arith}
use Rattle.std.proofs.lemmas.List.{take_all}
use Rattle.std.proofs.lemmas.List.Sums.{count_by_more_yes, count_by_more_no}
use Rattle.ranking.specs.Rankings.{ahead_of}
use Rattle.ranking.specs.declared.offer.Offer.{Offer}
use Rattle.ranking.proofs.Fronts.{in_front}
use Rattle.ranking.proofs.line.place_in_line.Goals as goal
use Rattle.ranking.proofs.line.place_in_line.Goals.{then-is_ahead, else-is_ahead}

pub loop-other-preserved : goal.loop-other-preserved
loop-other-preserved g c =
    let is-ahead = λ (other : Offer). g.R.Ranking.ahead c.args.ranking.now other c.args.offer.now in
    let offers = c.args.offers.now in
    let i = c.loop-other.other-index in
    elim c.if-is_ahead.branch [
      | then-is_ahead w ↦ let more = count_by_more_yes is-ahead offers i _ c.loop-other-test.true (sym w.if-is_ahead.ensures) in (omega (arith, w.place-is, c.loop-other.invariant.0, more), omega (arith, w.place-is))
      | else-is_ahead w ↦ let more = count_by_more_no is-ahead offers i _ c.loop-other-test.true (sym w.if-is_ahead.ensures) in (w.place-is ∙ c.loop-other.invariant.0 ∙ sym more, omega (arith, w.place-is))
    ]

pub returns : goal.returns
returns g c =
    let offers = c.args.offers.now in
    let is-ahead = g.R.Ranking.ahead c.args.ranking.now in
    let count = c.loop-other.invariant.0 ∙ ap (λ xs. ahead_of is-ahead xs c.args.offer.now) (take_all c.loop-other.other-index offers c.loop-other-test.false) in
    record {
      count = count;
      front = λ none. in_front is-ahead (g.met.R.Ranking.decided c.args.ranking.now) offers c.args.offer.now (sym count ∙ none);
    }
