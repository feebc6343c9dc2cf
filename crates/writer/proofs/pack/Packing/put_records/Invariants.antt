-- After r turns the first r records are put; a turn puts one more.
use mathlib.Core.Path.{◌≡◌}
use Rattle.writer.specs.Pack.{over, turns, record_turn}
use Rattle.writer.proofs.pack.Packing.put_records.Given as goal

abbrev pub invariant-loop-r : goal.invariant-loop-r
invariant-loop-r l = l.room ≡ turns (over l.self.form l.self.given record_turn) l.initial.room l.r
