-- A record that stands has its own fault, and where none stands nothing is wrong.
use mathlib.Core.Path.{refl, sym, ◌∙◌}
use Rattle.recording.specs.Fault.{fault_in}
use Rattle.writer.proofs.records.TabledRecords.fault.Goals as goal

pub returns-then-has : goal.returns-then-has
unfolding fault_in
returns-then-has c = rw (sym c.has.ensures ∙ c.if-has.true) c.record_fault.ensures

pub returns : goal.returns
unfolding fault_in
returns c = rw (sym c.has.ensures ∙ c.if-has.false) refl
