use Rattle.std.proofs.Common.{◌≡◌, ◌≤◌, take}
use Rattle.ranking.specs.Rankings.{ahead_of}
use Rattle.ranking.proofs.line.place_in_line.Given as goal

abbrev pub invariant-loop-other : goal.invariant-loop-other
invariant-loop-other g l = (l.place ≡ ahead_of (g.R.Ranking.ahead l.ranking) (take l.other-index l.offers) l.offer) × (l.place ≤ l.other-index)
