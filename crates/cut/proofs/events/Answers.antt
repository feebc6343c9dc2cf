-- The full cut is one of its own recording, so the walk's sum is T.
use Rattle.std.proofs.Common.{◌≡◌, MatchOption, of_calls, rules}
use Rattle.cut.proofs.WalkLaws.{events-events_of}
use Rattle.cut.proofs.events.Goals as goal

pub returns : goal.returns
returns c =
    let e : MatchOption c.walk.result (c.map_or.result ≡ 0) (λ w. c.map_or.result ≡ w.events) = search (rules, of_calls, c.map_or.ensures) in
    events-events_of _ _ _ c.walk.ensures e
