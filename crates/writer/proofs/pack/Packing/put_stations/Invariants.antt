-- After p turns the parts of the first p stations are put; a turn puts one more.
use mathlib.Core.Path.{◌≡◌}
use Rattle.writer.specs.Pack.{over, turns, station_turn}
use Rattle.writer.proofs.pack.Packing.put_stations.Given as goal

abbrev pub invariant-loop-p : goal.invariant-loop-p
invariant-loop-p l = l.room ≡ turns (over l.self.form l.self.given station_turn) l.initial.room l.p
