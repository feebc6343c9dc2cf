-- What the condition makes of a level: the start level, or that of the event.
use mathlib.Core.Path.{◌≡◌, ◌∙◌}
use Prim.Native.Nat.{◌+◌, ◌-◌}
use Rattle.std.proofs.Common.{rules}
use Rattle.cuts.specs.Cut.{at}
use native.Mathlib.Omega.{arith}
use Rattle.engine.proofs.PrepareLaws.{weight_start, weight_event}
use Rattle.engine.proofs.weights.station_weight.Goals.{in-0, in_default}
use Rattle.engine.proofs.weights.station_weight.Goals as goal

pub returns : goal.returns
returns c =
    elim c.match-e.branch [
      | in-0 w ↦ rw w.level-is at c.weigh.ensures ∙ weight_start _ _ _ _ _ _ (omega (arith, w.in-0))
      | in_default w ↦
          let e : w.unwrap_or-level.result ≡ at c.args.levels.now (c.args.station.first + (c.args.e - 1)) = search rules in
          rw (w.level-is, e) at c.weigh.ensures ∙ weight_event _ _ _ _ _ _ (omega (arith, w.in_default))
    ]
