-- After q turns the first q counts are put; a turn puts one more.
use mathlib.Core.Path.{◌≡◌}
use Prim.Native.Nat.{◌+◌, ◌*◌}
use Rattle.cuts.specs.Cut.{at}
use Rattle.writer.specs.Pack.{turns, put_count}
use Rattle.writer.proofs.pack.Packing.put_record.Given as goal

abbrev pub invariant-loop-q : goal.invariant-loop-q
invariant-loop-q l = l.room ≡ turns (put_count l.self.form.width (l.bit + 16 + l.self.form.width) (λ p. at l.self.given.stamps.now (l.place * l.n + p))) l.initial.room l.q
