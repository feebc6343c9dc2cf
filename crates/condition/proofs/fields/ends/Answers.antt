-- Ends that are used are compared, others are zero.
use Rattle.std.proofs.Common.{refl, sym, ◌∙◌}
use Rattle.bits.proofs.BitsLaws.{field_lt}
use Rattle.condition.proofs.FieldLaws.{ends_up, ends_down, ends_zeros}
use Rattle.condition.proofs.fields.ends.Goals as goal

pub returns-in-true : goal.returns-in-true
returns-in-true c = rw (c.in-true.is, ends_up _ _ c.end-low.ensures c.end-high.ensures c.if-low-high.true, c.end-low.ensures, c.end-high.ensures) refl

pub returns-in_default : goal.returns-in_default
returns-in_default c = rw (c.in-true.is, ends_down _ _ c.end-low.ensures c.end-high.ensures c.if-low-high.false) refl

pub returns-in-false : goal.returns-in-false
returns-in-false c =
    let z = ends_zeros _ _ c.end-low.ensures c.end-high.ensures (field_lt _ _ 16) (field_lt _ _ 16) in
    rw (c.in-false.is, sym z ∙ sym c.eq.ensures ∙ c.if-eq.true, c.end-low.ensures, c.end-high.ensures) refl

pub returns-in_default-2 : goal.returns-in_default-2
returns-in_default-2 c =
    let z = ends_zeros _ _ c.end-low.ensures c.end-high.ensures (field_lt _ _ 16) (field_lt _ _ 16) in
    rw (c.in-false.is, sym z ∙ sym c.eq.ensures ∙ c.if-eq.false) refl
