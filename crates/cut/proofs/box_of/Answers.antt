-- The full cut is one of its own recording, so the walk's size is the box.
use Rattle.std.proofs.Common.{◌≡◌, MatchOption, of_calls, rules}
use Rattle.cut.proofs.WalkLaws.{size-box_of}
use Rattle.cut.proofs.box_of.Goals as goal

pub returns : goal.returns
returns c =
    let e : MatchOption c.walk.result (c.map_or.result ≡ 0) (λ w. c.map_or.result ≡ w.size) = search (rules, of_calls, c.map_or.ensures) in
    size-box_of _ _ _ c.walk.ensures e
